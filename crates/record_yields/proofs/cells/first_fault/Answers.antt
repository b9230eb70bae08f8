use Rattle.std.proofs.Common.{◌<◌, length, sym, ◌∙◌, arith}
use Rattle.record_yields.proofs.Selecting.{cell_faulty, cell_fine}
use Rattle.record_yields.proofs.cells.first_fault.Goals as goal

pub returns-in-Some : goal.returns-in-Some
returns-in-Some g c =
    let here : c.rest.k < length (g.R.Row.cells c.args.row.now) = omega (arith, c.width-width.ensures, c.rest-test.true) in
    sym (cell_faulty (g.R.Row.cells c.args.row.now) c.rest.k here _ c.in-Some.fault c.cell.ensures c.in-Some.ensures) ∙ c.rest.invariant

pub rest-preserved : goal.rest-preserved
rest-preserved g c =
    let here : c.rest.k < length (g.R.Row.cells c.args.row.now) = omega (arith, c.width-width.ensures, c.rest-test.true) in
    sym (cell_fine (g.R.Row.cells c.args.row.now) c.rest.k here _ c.cell.ensures c.in_default.ensures) ∙ c.rest.invariant
