-- The first quote that isn't doubled closes.
use Rattle.std.proofs.Common.{◌∙◌, ◌+◌, ◌≡◌, sym, arith, Some}
use Rattle.sql_tokens.specs.TokenForms.{closing}
use Rattle.sql_tokens.proofs.QuoteLaws.{closes, goes_on, never_closes, closing_is, closes_there}
use Rattle.sql_tokens.proofs.scan.closing.Goals as goal

pub quotes-init : goal.quotes-init
quotes-init c = record { finds = closing_is c.args.quote c.args.bytes.now; whole = omega arith }

pub returns-then-not-begins_with : goal.returns-then-not-begins_with
returns-then-not-begins_with c =
    let one = rw c.split_at.ensures.back at c.begins_with.ensures in
    let found : Some (c.quotes.at + c.in-Some.n) ≡ closing c.args.quote c.args.bytes.now = sym (c.quotes.invariant.finds ∙ closes c.args.quote c.quotes.at c.in-Some.n c.quotes.left.now c.in-Some.ensures (sym one ∙ c.if-not-begins_with.true)) in
    record { value = found; there = closes_there c.args.quote c.args.bytes.now (Some (c.quotes.at + c.in-Some.n)) found }

pub quotes-preserved : goal.quotes-preserved
quotes-preserved c =
    let one = rw c.split_at.ensures.back at c.begins_with.ensures in
    record {
      finds = rw (c.split_at-in-Some.ensures.back, c.split_at.ensures.back)
          (c.quotes.invariant.finds ∙ goes_on c.args.quote c.quotes.at c.in-Some.n c.quotes.left.now c.in-Some.ensures (sym one ∙ c.if-not-begins_with.false));
      whole = let a = c.split_at-in-Some.ensures.back_len in let b = c.split_at.ensures.back_len in let d = c.quotes.invariant.whole in omega arith;
    }

pub returns-clause-value : goal.returns-clause-value
returns-clause-value c = sym (c.quotes.invariant.finds ∙ never_closes c.args.quote c.quotes.at c.quotes.left.now c.in_default.ensures)
