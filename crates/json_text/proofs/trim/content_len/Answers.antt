use Rattle.std.proofs.Common.{arith, ◌∙◌, sym, ◌≡◌, ◌-◌, true, false, get_or}
use Rattle.json_text.specs.Grammar.{is_blank}
use Rattle.json_text.proofs.Trims.{firm_end, blank_end, blank_ascii}
use Rattle.json_text.proofs.trim.content_len.Goals as goal

pub returns-then-not-is_blank_byte-clause-value : goal.returns-then-not-is_blank_byte-clause-value
returns-then-not-is_blank_byte-clause-value c =
    let firm : is_blank (get_or c.args.bytes.now (c.back.end - 1) 0) ≡ false = sym c.is_blank_byte.ensures ∙ c.if-not-is_blank_byte.true in
    firm_end c.args.bytes.now c.back.end c.back-test.true c.back.invariant.within firm c.back.invariant.same

pub back-preserved : goal.back-preserved
back-preserved c =
    let blank : is_blank (get_or c.args.bytes.now (c.back.end - 1) 0) ≡ true = sym c.is_blank_byte.ensures ∙ c.if-not-is_blank_byte.false in
    record {
      same = blank_end c.args.bytes.now c.back.end c.back-test.true c.back.invariant.within blank c.back.invariant.same;
      within = omega arith;
      ascii = λ l. blank_ascii _ blank;
    }
