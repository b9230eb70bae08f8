use Rattle.record_rows.proofs.Spelling.{csv_spelled, json_spelled}
use Rattle.record_rows.proofs.laws.rows_are_spelled.Goals as goal

pub returns-clause-csv : goal.returns-clause-csv
returns-clause-csv c = λ dialect valid content. csv_spelled dialect content (c.line_is_read_by_a_function.ensures dialect valid content)

pub returns-clause-json : goal.returns-clause-json
returns-clause-json c = λ content. json_spelled content (c.text_is_told_by_a_function.ensures content)
