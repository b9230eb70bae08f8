use Rattle.std.proofs.Common.{◌∙◌, ap, drop}
use Rattle.std.specs.List.{prefix_len}
use Rattle.json_text.specs.Grammar.{is_blank}
use Rattle.json_text.proofs.Trims.{front_boundary, drop_prefix}
use Rattle.json_text.proofs.trim.without_front.Goals as goal

pub range_from-requires : goal.range_from-requires
range_from-requires c = front_boundary c.args.text.now _ (rw c.as_bytes.ensures.value at c.blanks_in_front-front.ensures) c.utf8.text

pub returns : goal.returns
returns c =
    c.range_from.ensures.value ∙ ap (λ n. drop n c.args.text.now) (c.blanks_in_front-front.ensures ∙ ap (prefix_len is_blank) c.as_bytes.ensures.value)
    ∙ drop_prefix c.args.text.now
