use Rattle.std.proofs.Common.{◌<◌, Ok, length, true≢false, sym, subst, ap, ◌∙◌, arith}
use Rattle.std.proofs.lemmas.Bool.Decides.{nat_tests}
use Rattle.std.proofs.lemmas.Str.{IsUtf8-string_bytes}
use Rattle.std.specs.Str.{IsUtf8}
use Rattle.http_intake.proofs.Names.{named_text, named_no_text}
use Rattle.http_intake.proofs.target.text.Goals as goal

pub returns-in-Ok : goal.returns-in-Ok
returns-in-Ok c =
    let some : 0 < length c.args.bytes.items = grind (arith, nat_tests, c.if-is_empty.ensures, c.args.bytes.ok.0) in
    named_text c.args.bytes.items (subst (λ v. IsUtf8 v.items) c.in-Ok.ensures.ok (IsUtf8-string_bytes c.in-Ok.name)) some ∙ ap (λ v. Ok v.items) (sym c.in-Ok.ensures.ok)

pub returns : goal.returns
returns c = named_no_text c.args.bytes.items (λ utf8. true≢false (sym (c.in-Err.ensures.succeeds utf8)))
