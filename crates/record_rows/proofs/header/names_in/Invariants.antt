-- The names so far, then those of what is left, are all.
use Rattle.std.specs.Prelude.{◌≡◌, ◌++◌, drop, map}
use Rattle.std.specs.Str.{encode_utf8_all}
use Rattle.record_rows.proofs.header.names_in.Given as goal

abbrev pub invariant-fields : goal.invariant-fields
invariant-fields l = l.names ++ map encode_utf8_all (drop l.i l.fields) ≡ map encode_utf8_all l.fields
