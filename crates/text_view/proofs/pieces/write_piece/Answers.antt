use Rattle.std.proofs.Common.{◌∙◌, ap, sym, refl}
use Rattle.std.specs.Str.{encode_utf8_all}
use Rattle.text_view.proofs.Runs.{wrote, overflows, writes_nothing, shown_empty}
use Rattle.text_view.proofs.pieces.write_piece.Goals as goal

pub returns-in-Some-clause-ok : goal.returns-in-Some-clause-ok
returns-in-Some-clause-ok c =
    wrote c.push_cased.result c.args.out.now c.push_cased.new.self _ _ _ c.in-Some.ensures.bytes c.push_cased.ensures.fits.0 c.push_cased.ensures.ok

pub returns-in-Some-clause-over : goal.returns-in-Some-clause-over
returns-in-Some-clause-over c = overflows c.push_cased.result c.args.out.now _ _ _ c.in-Some.ensures.bytes c.push_cased.ensures.fits.1

pub returns-in-None-clause-ok : goal.returns-in-None-clause-ok
returns-in-None-clause-ok c =
    writes_nothing _ _ _ (ap encode_utf8_all (sym c.in_default.ensures.value ∙ c.in-None.ensures.value.0)) (shown_empty _ _ _ refl)
