use Rattle.std.proofs.Common.{◌∙◌, sym, ap, map, take, drop}
use Rattle.std.proofs.lemmas.List.{take-map, drop-map}
use Rattle.std.specs.Str.{chars}
use Rattle.text_view.specs.Spelled.{cased}
use Rattle.text_view.proofs.cursor.Cursor.sub.Goals as goal

pub returns-in-Some : goal.returns-in-Some
returns-in-Some c =
    let f = cased c.args.self.now.case in
    c.in_case.ensures.value ∙ ap (map f) (c.split_chars-in-Some.ensures.front ∙ ap (take c.args.count) c.split_chars.ensures.back)
    ∙ sym (take-map f c.args.count (drop c.args.from (chars c.in-Some.text.now)))
    ∙ ap (take c.args.count) (sym (drop-map f c.args.from (chars c.in-Some.text.now)) ∙ ap (drop c.args.from) (sym c.in-Some.ensures.0))
