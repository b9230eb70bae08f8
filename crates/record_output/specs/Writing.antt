-- What a contract sees of a record that is being written.
use Rattle.std.specs.Prelude.{◌≡◌, ℕ, Bool, true, false, ◌||◌, nat_le, List, [], ◌∷◌, ◌++◌, length, Option, None, Some, Result, Ok, Err}
use Rattle.std.specs.List.{flat_map}
use Rattle.select_request.specs.declared.request.Output.{Output}
use Rattle.sql_timestamp.specs.declared.fault.ValueFault.{ValueFault}
use Rattle.record_output.specs.declared.out.OutFault.{OutFault}
use Rattle.record_output.specs.declared.out.OutFault.TheVariants as fault
use Rattle.record_output.specs.Values.{fault_of}
use Rattle.record_output.specs.Records.{Field, parts_of, opening, separator, closing, begun_text, whole_text}
use Rattle.json_text.specs.Grammar.{Json}

-- the settings, the record limit, the record's bytes without what closes it, and whether a part stands in it
pub record Writing : Type 0 where
  pub output : Output
  pub longest : ℕ
  pub begun : List ℕ
  pub some : Bool

-- the record closed as it stands, without its delimiter
abbrev pub closed : Writing → List ℕ
closed w = w.begun ++ closing w.output

-- a record without fields
abbrev pub anew : Writing → Writing
anew w = record w { begun = opening w.output; some = false }

-- the separator, where a part stands before
abbrev pub between : Output → Bool → List ℕ
between output false = []
between output true = separator output

-- what a field adds: its one part, or nothing
abbrev pub added : Output → Bool → List (List ℕ) → List ℕ
added output some [] = []
added output some (part ∷ parts) = between output some ++ part

abbrev pub any_part : List (List ℕ) → Bool
any_part [] = false
any_part (part ∷ parts) = true

-- the record with one field more
abbrev pub with_field : Writing → Field → Writing
with_field w field = record w {
  begun = w.begun ++ added w.output w.some (parts_of w.output field);
  some = w.some || any_part (parts_of w.output field);
}

-- the closed record is within the limit
abbrev pub is_within : Writing → Bool
is_within w = nat_le (length (closed w)) w.longest

abbrev pub within_limit : Bool → Result (Unit {0}) OutFault
within_limit true = Ok tt
within_limit false = Err fault.OverMaxRecordSize

abbrev pub judged : Option ValueFault → Bool → Result (Unit {0}) OutFault
judged (Some why) within = Err (fault.Value why)
judged None within = within_limit within

-- what adding a field answers: the fault of a value that can't be read, else whether the closed record is within the limit
abbrev pub verdict : Writing → Field → Result (Unit {0}) OutFault
verdict w field = judged (fault_of field.value) (is_within (with_field w field))

-- the same of the record of a JSON value
abbrev pub whole_verdict : Writing → Json → Result (Unit {0}) OutFault
whole_verdict w tree = within_limit (nat_le (length (whole_text w.output tree)) w.longest)

-- the settings are the same
pub record HasSettings (old new : Writing) : Type 0 where
  pub output : new.output ≡ old.output
  pub longest : new.longest ≡ old.longest

-- the record stands as the one of these fields does
pub record Holds (w : Writing) (fields : List Field) : Type 0 where
  pub begun : w.begun ≡ begun_text w.output fields
  pub some : w.some ≡ any_part (flat_map (parts_of w.output) fields)
