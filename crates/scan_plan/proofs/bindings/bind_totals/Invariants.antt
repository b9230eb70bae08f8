-- What was bound, then what is left, bound, is all; what is left is lawful.
use Rattle.std.specs.Prelude.{◌≡◌, ◌++◌, true, drop, map}
use Rattle.std.specs.List.{list_all}
use Rattle.sql_lawful.specs.Lawful.{is_lawful_total}
use Rattle.scan_plan.specs.Plans.{bound_total}
use Rattle.scan_plan.proofs.bindings.bind_totals.Given as goal

abbrev pub invariant-totals : goal.invariant-totals
invariant-totals l = record {
  lawful : list_all is_lawful_total (drop l.total-index l.totals) ≡ true;
  bound : l.bounds ++ map (bound_total l.at.columns.now l.at.alias.now l.at.used.now) (drop l.total-index l.totals) ≡ map (bound_total l.at.columns.now l.at.alias.now l.at.used.now) l.totals;
}
