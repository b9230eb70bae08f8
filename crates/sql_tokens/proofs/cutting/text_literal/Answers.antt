-- The text that closes, and the text behind it.
use Rattle.std.proofs.Common.{drop}
use Rattle.sql_tokens.specs.TokenForms.{closing}
use Rattle.sql_tokens.proofs.CutLaws.{text_closed, behind_quoted}
use Rattle.sql_tokens.proofs.cutting.text_literal.Goals as goal

pub returns-in-Some : goal.returns-in-Some
returns-in-Some c =
    let inside = drop 1 c.args.text.now in
    let value = rw (c.as_bytes.ensures.value, c.split_around.ensures.back) at c.in-Some.ensures.value in
    let there = rw (c.as_bytes.ensures.value, c.split_around.ensures.back) at c.in-Some.ensures.there in
    record {
      token = rw (c.split_around-in-Some.ensures.front, c.split_around.ensures.back) (text_closed c.in-Some.len (closing 39 inside) inside value);
      behind = rw (c.split_around-in-Some.ensures.back, c.split_around.ensures.back, ← value) (behind_quoted c.in-Some.len c.args.text.now there.0);
    }
