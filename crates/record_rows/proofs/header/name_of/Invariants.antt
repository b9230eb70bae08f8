-- What was copied, and then what is left.
use Rattle.std.specs.Prelude.{◌≡◌, ◌++◌, length, string_bytes}
use Rattle.std.specs.Str.{encode_utf8_all}
use Rattle.record_rows.proofs.header.name_of.Given as goal

abbrev pub invariant-letters : goal.invariant-letters
invariant-letters l = string_bytes l.name ++ encode_utf8_all l.left ≡ encode_utf8_all l.fn.text

abbrev pub decreases-letters : goal.decreases-letters
decreases-letters l = length l.left
