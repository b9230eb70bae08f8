-- The name that closes, and the text behind it.
use Rattle.std.proofs.Common.{drop}
use Rattle.sql_tokens.specs.TokenForms.{closing}
use Rattle.sql_tokens.proofs.CutLaws.{name_closed, behind_quoted}
use Rattle.sql_tokens.proofs.cutting.quoted_name.Goals as goal

pub returns-else-len-eq0 : goal.returns-else-len-eq0
returns-else-len-eq0 c =
    let inside = drop 1 c.args.text.now in
    let value = rw (c.as_bytes.ensures.value, c.split_around.ensures.back) at c.in-Some.ensures.value in
    let there = rw (c.as_bytes.ensures.value, c.split_around.ensures.back) at c.in-Some.ensures.there in
    let called = rw (c.as_bytes-in-Some.ensures.value, c.split_around-in-Some.ensures.back, c.split_around.ensures.back) at c.is_called.ensures in
    let token = name_closed c.in-Some.len (closing 34 inside) c.is_called.result inside value c.if-len-eq0.false called in
    record {
      token = rw (c.split_around-in-Some.ensures.front, c.split_around.ensures.back) token;
      behind = rw (c.split_around-in-Some.ensures.back, c.split_around.ensures.back, ← token) (behind_quoted c.in-Some.len c.args.text.now there.0);
    }
