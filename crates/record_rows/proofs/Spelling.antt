-- What reading gives, as a row.
use Rattle.std.proofs.Common.{◌≡◌, ℕ, Bool, true, false, List, Result, Ok, Err, refl, sym, subst}
use Rattle.std.proofs.lemmas.Bool.{cond-true, cond-false}
use Rattle.std.specs.List.{list_all}
use Rattle.csv_cutter.specs.declared.dialect.Dialect.{Dialect}
use Rattle.csv_cutter.specs.declared.fields.CsvFault.{CsvFault}
use Rattle.csv_cutter.specs.Reading.{IsRead, fields_of}
use Rattle.json_text.specs.declared.checking.JsonCode.{JsonCode}
use Rattle.json_text.specs.Nodes.{IsTold, value_of}
use Rattle.record_rows.specs.Rows.{passed, is_passed_over, fields_row, csv_row, is_line_blank, value_row, json_row}
use Rattle.record_rows.specs.Spelled.{IsCsvRow, IsJsonRow}

-- ---- CSV

csv_by : (d : Dialect) (content : List ℕ) (r : Result (List (List ℕ)) CsvFault) → is_passed_over d content ≡ false → IsRead d content r
    → IsCsvRow d content (fields_row r)
csv_by d content (Ok texts) told h = (told, record { texts = texts; fields = h; each = refl })
csv_by d content (Err fault) told h = (told, record { fault = fault; read = h; named = refl })

csv_passed : (d : Dialect) (content : List ℕ) → is_passed_over d content ≡ true → passed ≡ csv_row d content
unfolding csv_row
csv_passed d content e = sym (cond-true _ _ _ e)

csv_read : (d : Dialect) (content : List ℕ) → is_passed_over d content ≡ false → fields_row (fields_of d content) ≡ csv_row d content
unfolding csv_row
csv_read d content e = sym (cond-false _ _ _ e)

pub csv_spelled : (d : Dialect) (content : List ℕ) → IsRead d content (fields_of d content) → IsCsvRow d content (csv_row d content)
csv_spelled d content h = by_test (is_passed_over d content) refl
  where
    by_test : (b : Bool) → is_passed_over d content ≡ b → IsCsvRow d content (csv_row d content)
    by_test true e = subst (IsCsvRow d content) (csv_passed d content e) e
    by_test false e = subst (IsCsvRow d content) (csv_read d content e) (csv_by d content (fields_of d content) e h)

-- ---- JSON Lines

json_by : (content : List ℕ) (r : Result (List ℕ) JsonCode) → list_all is_line_blank content ≡ false → IsTold content r → IsJsonRow content (value_row r)
json_by content (Ok token) told h = (told, record { token = token; utf8 = h.0; stands = h.1; node = h.2; alone = refl })
json_by content (Err code) told h = (told, record { json = code; fault = h; named = refl })

json_passed : (content : List ℕ) → list_all is_line_blank content ≡ true → passed ≡ json_row content
unfolding json_row
json_passed content e = sym (cond-true _ _ _ e)

json_read : (content : List ℕ) → list_all is_line_blank content ≡ false → value_row (value_of content) ≡ json_row content
unfolding json_row
json_read content e = sym (cond-false _ _ _ e)

pub json_spelled : (content : List ℕ) → IsTold content (value_of content) → IsJsonRow content (json_row content)
json_spelled content h = by_test (list_all is_line_blank content) refl
  where
    by_test : (b : Bool) → list_all is_line_blank content ≡ b → IsJsonRow content (json_row content)
    by_test true e = subst (IsJsonRow content) (json_passed content e) e
    by_test false e = subst (IsJsonRow content) (json_read content e) (json_by content (value_of content) e h)
