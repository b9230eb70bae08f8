-- The fields that are left decide.
use Rattle.std.proofs.Common.{◌≡◌, length, All}
use Rattle.std.specs.List.{list_any}
use Rattle.httparse.specs.Spans.{IsHeaderWithin}
use Rattle.http_intake.specs.Bodies.{is_close, members_of}
use Rattle.http_intake.specs.Fields.{values_at}
use Rattle.http_intake.proofs.fields.any_names_close.Given as goal

abbrev pub invariant-loop-value : goal.invariant-loop-value
invariant-loop-value l =
    All (IsHeaderWithin (length l.buf)) l.left
    × (list_any (λ value. list_any is_close (members_of value)) (values_at l.buf l.left l.name) ≡ list_any (λ value. list_any is_close (members_of value)) (values_at l.buf l.fields l.name))

abbrev pub decreases-loop-value : goal.decreases-loop-value
decreases-loop-value l = length l.left
