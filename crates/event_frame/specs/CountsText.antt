-- The payload of Progress and Stats (Amazon S3 API Reference): three counts in an XML element named
-- for the event.
use Rattle.std.specs.Prelude.{◌≡◌, ℕ, ◌^◌, ◌<◌, Bool, true, false, List, [], ◌++◌, length, slice_index, if◌then◌else◌, codes, decimal}
use Rattle.std.specs.Char.{is_ascii_digit}
use Rattle.std.specs.Str.Parse.{digits_value}
use Rattle.event_frame.specs.declared.counts.Counts.{Counts}
use Rattle.event_frame.specs.Event.{Event, progress, stats}

-- the declaration and the namespace, which may be left out, and the digits of each count
pub record CountsText : Type 0 where
  pub declared : Bool
  pub namespaced : Bool
  pub scanned : List ℕ
  pub processed : List ℕ
  pub returned : List ℕ

-- what stands before the first count
unfoldable pub opening : List ℕ → Bool → List ℕ
opening name namespaced = codes "<" ++ name ++ (if namespaced then codes " xmlns=\"\"" else []) ++ codes "><BytesScanned>"

-- the element of the event of this name
unfoldable pub print_element : List ℕ → CountsText → List ℕ
print_element name t =
    opening name t.namespaced ++ t.scanned
    ++ codes "</BytesScanned><BytesProcessed>" ++ t.processed
    ++ codes "</BytesProcessed><BytesReturned>" ++ t.returned
    ++ codes "</BytesReturned></" ++ name ++ codes ">"

abbrev pub declaration : List ℕ
declaration = codes "<?xml version=\"1.0\" encoding=\"UTF-8\"?>"

-- the bytes of such a text
unfoldable pub print_counts : List ℕ → CountsText → List ℕ
print_counts name t = (if t.declared then declaration else []) ++ print_element name t

-- the text that is written for these counts
abbrev pub counts_text : List ℕ → Counts → List ℕ
counts_text name c =
    print_counts name
    (record {
      declared = true;
      namespaced = false;
      scanned = decimal c.scanned;
      processed = decimal c.processed;
      returned = decimal c.returned;
    })

-- the Progress event of these counts
abbrev pub progress_of : Counts → Event
progress_of c = progress (counts_text (codes "Progress") c)

-- the Stats event of these counts
abbrev pub stats_of : Counts → Event
stats_of c = stats (counts_text (codes "Stats") c)

-- each count fits 128 bits
pub record CountsFit (c : Counts) : Type 0 where
  pub scanned : c.scanned < 2 ^ 128
  pub processed : c.processed < 2 ^ 128
  pub returned : c.returned < 2 ^ 128

-- the digits spell the number, which fits 128 bits
pub record IsNumber (digits : List ℕ) (n : ℕ) : Type 0 where
  pub some : 0 < length digits
  pub are_digits : (k : ℕ) → k < length digits → is_ascii_digit (slice_index digits k) ≡ true
  pub value : digits_value 10 digits ≡ n
  pub fits : n < 2 ^ 128

-- the three texts of digits spell the counts
pub record SpellsCounts (t : CountsText) (c : Counts) : Type 0 where
  pub scanned : IsNumber t.scanned c.scanned
  pub processed : IsNumber t.processed c.processed
  pub returned : IsNumber t.returned c.returned

-- the payload is a text of the counts for the event of this name
pub record ReadsCounts (name payload : List ℕ) (c : Counts) : Type 0 where
  pub text : CountsText
  pub printed : payload ≡ print_counts name text
  pub spelled : SpellsCounts text c

-- the payload is a text of no counts
abbrev pub HasNoCounts : List ℕ → List ℕ → Type 0
HasNoCounts name payload = (c : Counts) → ReadsCounts name payload c → ⊥
