-- Which records a range that was resolved has.
use Rattle.std.proofs.Common.{◌≡◌, ℕ, ◌<◌, ◌≤◌, List, [], length, Option, None, Some, sym, ap, ◌∙◌, subst}
use Rattle.select_ports.specs.Stored.{Opened, IsOpen}
use Rattle.select_ports.specs.declared.outcome.Range.{Range}
use Rattle.line_window.specs.Cuts.{cuts_in, AdjacentCutsAppend}
use Rattle.line_window.specs.Sliding.{Tells}
use Rattle.scan_ranges.specs.Resolved.{bounds, resolved}
use Rattle.select_request.specs.declared.request.ScanRange.{ScanRange}
use Rattle.record_stream.specs.Selected.{selected_cuts}
use Rattle.record_stream.proofs.SelectedLaws.{none_cuts, range_cuts}

-- the told object has the size
pub size_is : (opened : Opened) (object : List ℕ) (size : ℕ) → IsOpen opened size → Tells opened object → length object ≡ size
size_is opened object size open_ tells =
    let held : IsOpen (Some (length object, Some object)) size = subst (λ (o : Opened). IsOpen o size) tells open_ in
    held.0

module _ (asked : Option ScanRange) (object : List ℕ) (size : ℕ) (found : Option Range) (same : length object ≡ size) (is : bounds found ≡ resolved asked size) where
  pub resolved_at : resolved asked (length object) ≡ bounds found
  resolved_at = ap (resolved asked) same ∙ sym is

  pub range_is : (range : Range) → found ≡ Some range → resolved asked (length object) ≡ Some (range.first, range.last)
  range_is range some = resolved_at ∙ ap bounds some

  -- a range without a byte has no line
  pub selects_none : (d : List ℕ) → found ≡ None → selected_cuts d object (resolved asked (length object)) ≡ []
  selects_none d none = ap (selected_cuts d object) (resolved_at ∙ ap bounds none) ∙ none_cuts d object

  -- any other has those of its cuts
  pub selects_some : AdjacentCutsAppend → (d : List ℕ) (range : Range) → found ≡ Some range → range.first ≤ range.last → range.last < length object
      → selected_cuts d object (resolved asked (length object)) ≡ cuts_in d object range.first range.last
  selects_some adjacent d range some up within =
      ap (selected_cuts d object) (range_is range some) ∙ range_cuts adjacent d object range.first range.last up within
