use Rattle.std.proofs.Common.{rules, ◌≡◌, true, false, sym, ◌∙◌, ap, map}
use Rattle.std.specs.Str.{chars}
use Rattle.text_view.specs.Spelled.{cased}
use Rattle.text_view.specs.Trimmed.{leading_by, is_marked}
use Rattle.text_view.proofs.Trims.{front_in, front_out}
use Rattle.text_view.proofs.trim.without_front.Goals as goal

pub returns-then-not-is_marked : goal.returns-then-not-is_marked
returns-then-not-is_marked c =
    let out : is_marked c.args.marks.now (cased c.args.case c.in-Some.first) ≡ false = ap (is_marked c.args.marks.now) (sym c.of.ensures) ∙ sym c.is_marked.ensures ∙ c.if-not-is_marked.true in
    sym (front_out (is_marked c.args.marks.now) (cased c.args.case) (chars c.each.left.now) (chars c.in-Some.behind.now) c.in-Some.first c.in-Some.ensures.value out) ∙ c.each.invariant.same

pub each-preserved : goal.each-preserved
each-preserved c =
    let out : is_marked c.args.marks.now (cased c.args.case c.in-Some.first) ≡ true = ap (is_marked c.args.marks.now) (sym c.of.ensures) ∙ sym c.is_marked.ensures ∙ c.if-not-is_marked.false in
    record {
      same = sym (front_in (is_marked c.args.marks.now) (cased c.args.case) (chars c.each.left.now) (chars c.in-Some.behind.now) c.in-Some.first c.in-Some.ensures.value out) ∙ c.each.invariant.same;
      text = search rules;
    }

pub returns : goal.returns
returns c =
    ap (map (cased c.args.case)) c.in_default.ensures.value ∙ sym (ap (λ l. leading_by (is_marked c.args.marks.now) (map (cased c.args.case) l)) c.in_default.ensures.value) ∙ c.each.invariant.same
