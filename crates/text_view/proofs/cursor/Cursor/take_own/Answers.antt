use Rattle.std.proofs.Common.{◌∙◌, ap}
use Rattle.std.proofs.lemmas.Str.{encodes-append}
use Rattle.std.specs.Str.{encode_utf8_all}
use Rattle.text_view.proofs.Runs.{no_run, nil_from_test, filled_from_test, filled_chars}
use Rattle.text_view.proofs.Shown.{chars_short}
use Rattle.text_view.proofs.cursor.Cursor.take_own.Goals as goal

pub returns-then-is_empty-clause-value : goal.returns-then-is_empty-clause-value
returns-then-is_empty-clause-value c =
    no_run c.args.self.now.case c.pass-run.result.now _ _ c.pass-run.ensures.value (nil_from_test c.pass-run.result.now _ c.is_empty.ensures c.if-is_empty.true)

pub returns-clause-bytes : goal.returns-clause-bytes
returns-clause-bytes c = ap encode_utf8_all c.pass-run.ensures.value ∙ encodes-append _ _

pub returns-clause-filled : goal.returns-clause-filled
returns-clause-filled c =
    filled_chars c.pass-run.result.now c.pass-run.utf8 (filled_from_test c.pass-run.result.now _ c.is_empty.ensures c.if-is_empty.false)

pub returns-clause-shorter : goal.returns-clause-shorter
returns-clause-shorter c = (
  filled_from_test c.pass-run.result.now _ c.is_empty.ensures c.if-is_empty.false,
  chars_short c.pass-run.result.now,
  c.pass-run.ensures.shorter,
)
