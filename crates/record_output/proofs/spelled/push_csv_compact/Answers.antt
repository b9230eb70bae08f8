use Rattle.std.proofs.lemmas.Result.{err_from_is_err_and}
use Rattle.json_text.specs.Skipped.{outside}
use Rattle.json_text.specs.Compact.{squeezed}
use Rattle.record_output.proofs.Appended.{scratch_full}
use Rattle.record_output.proofs.Quoting.{field_longer}
use Rattle.record_output.proofs.spelled.push_csv_compact.Goals as goal

pub returns-in_err-push_squeezed-clause-field : goal.returns-in_err-push_squeezed-clause-field
returns-in_err-push_squeezed-clause-field c =
    let p = err_from_is_err_and c.from_residual.result c.from_residual.ensures.1 in
    rw p.1
    (scratch_full _ _ c.args.out.now c.args.scratch.now c.clear.new.self (squeezed outside c.args.node.now) _ c.requires c.clear.ensures c.in_err-push_squeezed.ensures.fits (field_longer c.args.csv.now (squeezed outside c.args.node.now)))
