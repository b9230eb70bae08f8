use Rattle.std.proofs.Common.{◌<◌, ◌∙◌, ap, subst, refl, length, map}
use Rattle.std.proofs.lemmas.Result.{err_from_is_err_and}
use Rattle.record_output.specs.Records.{record_text, node_field, values_in}
use Rattle.record_output.specs.Writing.{is_within}
use Rattle.record_output.proofs.Whole.{none_passed, goes_on, over_values, all_passed, err_over, ok_within, empty_within, same_settings}
use Rattle.record_output.proofs.out.Out.add_values.Goals as goal

pub members-init : goal.members-init
members-init c = record {
  settings = record { output = refl; longest = refl };
  within = empty_within c.args.self.now c.requires.nothing;
  goes = λ tree s. none_passed c.args.self.now c.members-walk.result tree c.requires.begun (c.members-walk.ensures tree s);
}

pub members-preserved : goal.members-preserved
members-preserved c = record {
  settings = same_settings c.args.self.now c.members.self c.field.new.self _ c.members.invariant.settings c.in_ok-field.ensures.ok;
  within = ap is_within c.in_ok-field.ensures.ok ∙ ok_within _ _ c.in_ok-field.ensures.verdict;
  goes =
      λ tree s. let p = c.members.invariant.goes tree s in
      goes_on c.members.self c.members.walk c.next.new.self tree c.in-Some.member.name c.plain.result c.in-Some.member.value c.in-Some.member.place p c.in-Some.ensures.member c.plain.ensures
      c.field.new.self (c.in_ok-field.ensures.holds (map node_field p.done) p.holds);
}

pub returns-in_err-field-clause-over : goal.returns-in_err-field-clause-over
returns-in_err-field-clause-over c =
    λ tree s. let p = c.members.invariant.goes tree s in
    let r = err_from_is_err_and c.from_residual.result c.from_residual.ensures.1 in
    let over =
    over_values c.members.self c.members.walk c.next.new.self tree c.in-Some.member.name c.plain.result c.in-Some.member.value c.in-Some.member.place p c.in-Some.ensures.member c.plain.ensures
    (err_over _ _ c.in_err-field.ensures.verdict).0 in
    rw r.1
    (subst (λ o. c.args.self.now.longest < length (record_text o (map node_field (values_in tree)))) c.members.invariant.settings.output
    (subst (λ n. n < length (record_text c.members.self.output (map node_field (values_in tree)))) c.members.invariant.settings.longest over))

pub returns-clause-ok : goal.returns-clause-ok
returns-clause-ok c = λ tree s. all_passed c.members.self c.members.walk c.next.new.self tree (c.members.invariant.goes tree s) c.in_default.ensures.member
