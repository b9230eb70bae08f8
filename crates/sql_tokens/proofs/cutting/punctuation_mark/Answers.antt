-- A symbol ends behind an ASCII byte.
use Rattle.std.proofs.Common.{◌∙◌, sym}
use Rattle.sql_tokens.proofs.CutLaws.{symbol_front}
use Rattle.sql_tokens.proofs.cutting.punctuation_mark.Goals as goal

pub split_run-requires : goal.split_run-requires
split_run-requires c =
    rw (c.punctuation_length.ensures, sym c.as_bytes.ensures.value ∙ c.in-Some.ensures.cases.0)
    (symbol_front c.in-Some-punctuation.class c.in-Some.first.now c.in-Some.rest.now c.in-Some-punctuation.ensures)
