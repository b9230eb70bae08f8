-- The pairs that are left decide.
use Rattle.std.proofs.Common.{◌≡◌}
use Rattle.std.specs.List.{list_any}
use Rattle.form_urlencoded.specs.Form.{raw_pairs}
use Rattle.form_urlencoded.specs.Parse.{raw_pairs_left}
use Rattle.http_intake.specs.Targets.{is_type}
use Rattle.http_intake.proofs.target.has_type.Given as goal

abbrev pub invariant-loop-name : goal.invariant-loop-name
invariant-loop-name l = list_any is_type (raw_pairs_left l.name-iterator) ≡ list_any is_type (raw_pairs l.query)
