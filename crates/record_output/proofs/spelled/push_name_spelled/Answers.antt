use Rattle.std.proofs.lemmas.Result.{err_from_is_err_and}
use Rattle.std.specs.Str.{encode_utf8_all}
use Rattle.record_output.proofs.Appended.{scratch_full}
use Rattle.record_output.proofs.Spelling.{string_longer}
use Rattle.record_output.proofs.spelled.push_name_spelled.Goals as goal

pub returns-in_err-write_to-clause-name : goal.returns-in_err-write_to-clause-name
returns-in_err-write_to-clause-name c =
    let p = err_from_is_err_and c.from_residual.result c.from_residual.ensures.1 in
    rw p.1
    (scratch_full _ _ c.args.out.now c.args.scratch.now c.clear.new.self (encode_utf8_all c.args.name.now) _ c.requires c.clear.ensures c.in_err-write_to.ensures.fits (string_longer (encode_utf8_all c.args.name.now)))
