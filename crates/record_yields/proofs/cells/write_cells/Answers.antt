use Rattle.std.specs.Str.{chars}
use Rattle.std.proofs.Common.{◌<◌, ◌≤◌, ◌+◌, Ok, suc, length, drop, refl, ap, sym, ◌∙◌, arith}
use Rattle.sql_eval.specs.Rows.{cell_at}
use Rattle.scan_plan.specs.Plans.{name_or_number}
use Rattle.record_yields.specs.Codes.{value_code}
use Rattle.record_yields.specs.Names.{name_at, column_names}
use Rattle.record_yields.proofs.Selecting.{outcomes, cell_next, cell_none, settings_stay, step_ok, step_fault, step_over, end_yields}
use Rattle.record_yields.proofs.cells.write_cells.Goals as goal

pub returns-in-Err-Value-clause-yields : goal.returns-in-Err-Value-clause-yields
returns-in-Err-Value-clause-yields g c =
    let cells = g.R.Row.cells c.args.row.now in
    let here : c.cells.k < length cells = omega (arith, c.width-width.ensures, c.cells-test.true) in
    step_fault (name_at (column_names c.args.columns.now)) (outcomes cells) (outcomes (drop c.cells.k cells)) c.cells.k c.cells.out c.cells.invariant.passed
    c.add_cell.new.out (Ok (cell_at cells c.cells.k)) (outcomes (drop (c.cells.k + 1) cells)) (cell_next cells c.cells.k (cell_at cells c.cells.k) here refl)
    _ (ap (λ n. chars (name_or_number (suc c.cells.k) n)) c.column_name.ensures)
    c.in-Err-Value.field-0 c.in-Err-Value.fault c.in-Err-Value.field-0-is c.in-Err-Value.ensures
    c.args.out.now.output c.args.out.now.longest c.value_code.result (c.value_code.ensures ∙ ap value_code (sym c.in-Err-Value.fault-is))

pub returns-in-Err-OverMaxRecordSize-clause-yields : goal.returns-in-Err-OverMaxRecordSize-clause-yields
returns-in-Err-OverMaxRecordSize-clause-yields g c =
    let cells = g.R.Row.cells c.args.row.now in
    let here : c.cells.k < length cells = omega (arith, c.width-width.ensures, c.cells-test.true) in
    step_over (name_at (column_names c.args.columns.now)) (outcomes cells) (outcomes (drop c.cells.k cells)) c.cells.k c.cells.out c.cells.invariant.passed
    c.add_cell.new.out (Ok (cell_at cells c.cells.k)) (outcomes (drop (c.cells.k + 1) cells)) (cell_next cells c.cells.k (cell_at cells c.cells.k) here refl)
    _ (ap (λ n. chars (name_or_number (suc c.cells.k) n)) c.column_name.ensures)
    c.in-Err-OverMaxRecordSize.field-0 c.in-Err-OverMaxRecordSize.field-0-is c.in-Err-OverMaxRecordSize.ensures
    c.args.out.now c.cells.invariant.settings c.over_unless_faulty.result c.over_unless_faulty.ensures

pub cells-preserved : goal.cells-preserved
cells-preserved g c =
    let cells = g.R.Row.cells c.args.row.now in
    let here : c.cells.k < length cells = omega (arith, c.width-width.ensures, c.cells-test.true) in
    record {
      settings = settings_stay c.args.out.now c.cells.out c.add_cell.new.out c.cells.invariant.settings c.add_cell.ensures.settings;
      passed =
          step_ok (name_at (column_names c.args.columns.now)) (outcomes cells) (outcomes (drop c.cells.k cells)) c.cells.k c.cells.out c.cells.invariant.passed
          c.add_cell.new.out (Ok (cell_at cells c.cells.k)) (outcomes (drop (c.cells.k + 1) cells)) (cell_next cells c.cells.k (cell_at cells c.cells.k) here refl)
          _ (ap (λ n. chars (name_or_number (suc c.cells.k) n)) c.column_name.ensures) c.in-Ok.field-0 c.in-Ok.ensures;
    }

pub returns-clause-yields : goal.returns-clause-yields
returns-clause-yields g c =
    let cells = g.R.Row.cells c.args.row.now in
    let past : length cells ≤ c.cells.k = omega (arith, c.width-width.ensures, c.cells-test.false) in
    end_yields (name_at (column_names c.args.columns.now)) (outcomes cells) (outcomes (drop c.cells.k cells)) c.cells.k c.cells.out c.cells.invariant.passed
    (cell_none cells c.cells.k past) c.args.out.now c.cells.invariant.settings _ c.finish.ensures
