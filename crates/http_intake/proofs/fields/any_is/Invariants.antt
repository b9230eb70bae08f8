-- The fields that are left decide.
use Rattle.std.proofs.Common.{◌≡◌, length, All}
use Rattle.std.specs.List.{list_any}
use Rattle.std.specs.Str.{str_eq_ignore_ascii_case}
use Rattle.httparse.specs.Spans.{IsHeaderWithin}
use Rattle.http_intake.specs.Fields.{values_at}
use Rattle.http_intake.proofs.fields.any_is.Given as goal

abbrev pub invariant-loop-value : goal.invariant-loop-value
invariant-loop-value l =
    All (IsHeaderWithin (length l.buf)) l.left
    × (list_any (λ value. str_eq_ignore_ascii_case value l.word) (values_at l.buf l.left l.name) ≡ list_any (λ value. str_eq_ignore_ascii_case value l.word) (values_at l.buf l.fields l.name))

abbrev pub decreases-loop-value : goal.decreases-loop-value
decreases-loop-value l = length l.left
