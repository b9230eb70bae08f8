-- The line that `show` prints for an event.
use Rattle.std.specs.Prelude.{◌≡◌, ℕ, ◌&&◌, ◌<◌, ⊤, nat_le, List, ◌++◌, length, map, Option, None, Some, MatchOption, if◌then◌else◌, codes, decimal}
use Rattle.event_frame.specs.declared.counts.Counts.{Counts}
use Rattle.event_frame.specs.CountsText.{HasNoCounts, ReadsCounts}
use Rattle.event_frame.specs.Event.{Event, records, cont, progress, stats, end, error}
use Rattle.select_tool.specs.Statuses.{line}

-- a byte of a code or a message as it is printed: `?` in place of any but the characters of ASCII that can be seen and the space
abbrev pub printable : ℕ → ℕ
printable byte = if nat_le 32 byte && nat_le byte 126 then byte else 63

unfoldable pub printed : List ℕ → List ℕ
printed text = map printable text

-- the three numbers of counts, and three question marks where there are none
unfoldable pub numbers : Option Counts → List ℕ
numbers None = codes "? ? ?"
numbers (Some c) = decimal c.scanned ++ codes " " ++ decimal c.processed ++ codes " " ++ decimal c.returned

-- the line of an event of this name with the counts that its payload spells
pub record IsCountsLine (name payload bytes : List ℕ) : Type 0 where
  pub counts : Option Counts
  pub read : MatchOption counts (HasNoCounts name payload) (ReadsCounts name payload)
  pub spelled : bytes ≡ line (name ++ codes " " ++ numbers counts)

-- the line of an event
abbrev pub IsLine : Event → List ℕ → Type 0
IsLine (records output) bytes = bytes ≡ line (codes "Records " ++ decimal (length output))
IsLine cont bytes = bytes ≡ line (codes "Cont")
IsLine (progress payload) bytes = IsCountsLine (codes "Progress") payload bytes
IsLine (stats payload) bytes = IsCountsLine (codes "Stats") payload bytes
IsLine end bytes = bytes ≡ line (codes "End")
IsLine (error code message) bytes = bytes ≡ line (codes "Error " ++ printed code ++ codes " " ++ printed message)

-- the texts of an event are no longer than a header's value
abbrev pub HasShortTexts : Event → Type 0
HasShortTexts (records output) = ⊤
HasShortTexts cont = ⊤
HasShortTexts (progress payload) = ⊤
HasShortTexts (stats payload) = ⊤
HasShortTexts end = ⊤
HasShortTexts (error code message) = (length code < 65536) × (length message < 65536)

-- the name and the counts that the payload spells were added
pub record AddsCounts (name payload old new : List ℕ) : Type 0 where
  pub counts : Option Counts
  pub read : MatchOption counts (HasNoCounts name payload) (ReadsCounts name payload)
  pub spelled : new ≡ old ++ name ++ codes " " ++ numbers counts
