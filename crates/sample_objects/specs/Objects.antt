-- The sample objects: a list of so many records that a rule gives, in CSV or in JSON Lines. The record of the number i has
-- four fields. Its id is i, its group (37 i + 5) mod 100, its price (12345 i mod 100000) hundredths with two decimals, and
-- its note `a,b` where i mod 7 is 3, and `n` with i mod 7 elsewhere.
use Rattle.std.specs.Prelude.{ℕ, zero, suc, ◌+◌, ◌*◌, ◌/◌, ◌%◌, ◌==◌, List, [], ◌++◌, if◌then◌else◌, codes, decimal}
use Rattle.sample_objects.specs.declared.kind.SampleKind.{SampleKind}
use Rattle.sample_objects.specs.declared.kind.SampleKind.TheVariants.{Csv, JsonLines}

abbrev pub group_of : ℕ → ℕ
group_of i = (37 * i + 5) % 100

-- the price in hundredths
abbrev pub hundredths_of : ℕ → ℕ
hundredths_of i = (12345 * i) % 100000

-- a number of hundredths with two decimals: `0.05` for 5
unfoldable pub price_text : ℕ → List ℕ
price_text hundredths = decimal (hundredths / 100) ++ codes "." ++ decimal (hundredths % 100 / 10) ++ decimal (hundredths % 10)

-- the note of a record whose number leaves this rest by 7
unfoldable pub note_text : ℕ → List ℕ
note_text rest = if rest == 3 then codes "a,b" else codes "n" ++ decimal rest

-- the note as a field of CSV: in quotes where it holds the comma
unfoldable pub note_field : ℕ → List ℕ
note_field rest = if rest == 3 then codes "\"" ++ note_text rest ++ codes "\"" else note_text rest

-- a record's line in CSV, and in JSON Lines
unfoldable pub csv_line : ℕ → List ℕ
csv_line i =
    decimal i ++ codes "," ++ decimal (group_of i) ++ codes "," ++ price_text (hundredths_of i) ++ codes "," ++ note_field (i % 7) ++ codes "\n"

unfoldable pub json_line : ℕ → List ℕ
json_line i =
    codes "{\"id\":" ++ decimal i ++ codes ",\"grp\":" ++ decimal (group_of i) ++ codes ",\"price\":" ++ price_text (hundredths_of i)
    ++ codes ",\"note\":\"" ++ note_text (i % 7) ++ codes "\"}\n"

abbrev pub line_of : SampleKind → ℕ → List ℕ
line_of Csv i = csv_line i
line_of JsonLines i = json_line i

-- what stands before the records: the names of the fields in CSV
unfoldable pub head_of : SampleKind → List ℕ
head_of Csv = codes "id,grp,price,note\n"
head_of JsonLines = []

-- the lines of the records below a number
unfoldable pub lines_below : SampleKind → ℕ → List ℕ
lines_below kind zero = []
lines_below kind (suc i) = lines_below kind i ++ line_of kind i

-- the object of a kind with so many records
unfoldable pub sample : SampleKind → ℕ → List ℕ
sample kind count = head_of kind ++ lines_below kind count
