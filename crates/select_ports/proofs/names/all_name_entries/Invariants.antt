use Rattle.std.proofs.Common.{◌≡◌, length}
use denote.Text.{Utf8}
use denote.Shadow.{shadow}
use Rattle.std.specs.List.{list_all}
use Rattle.select_ports.specs.Names.{names_entry, segments_of}
use Rattle.select_ports.proofs.names.all_name_entries.Given as goal

abbrev pub invariant-loop-segment : goal.invariant-loop-segment
invariant-loop-segment l =
    shadow (Utf8 l.rest) × (list_all names_entry (segments_of l.rest) ≡ list_all names_entry (segments_of l.name))

abbrev pub decreases-loop-segment : goal.decreases-loop-segment
decreases-loop-segment l = length l.rest
