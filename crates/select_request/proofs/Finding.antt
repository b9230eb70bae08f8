-- Going through the elements found: `==` on elements is the specs' test, and what a step of `find` keeps.
use Rattle.std.specs.Prelude.{◌≡◌, ℕ, ◌+◌, ◌<◌, true, false, nat_eq, List, [], ◌∷◌, length, drop, Some, None, refl}
use Rattle.std.proofs.Common.{◌∙◌, ap, get_or, add-one, arith}
use Rattle.std.proofs.Math.Seq.{drop-cons}
use denote.Enum.Bare.{sameb}
use denote.Enum.Declared.{tag_of}
use Rattle.request_elements.specs.contracts.element.Element.{the_type}
use Rattle.request_elements.specs.Elements.{number_of, same_element}
use Rattle.select_request.specs.Request.{find}
use Rattle.select_request.specs.Checks.{is_met, fault_at, first_unmet}
use Rattle.select_request.specs.declared.checks.Check.{Check}
use Rattle.request_elements.specs.declared.element.Element.{Element}
use Rattle.request_elements.specs.declared.element.Element.TheVariants.{Request, Expression, ExpressionType, RequestProgress, Enabled, InputSerialization, CompressionType, CsvInput, AllowQuotedRecordDelimiter, Comments, InputFieldDelimiter, FileHeaderInfo, InputQuoteCharacter, InputQuoteEscapeCharacter, InputRecordDelimiter, JsonInput, JsonType, ParquetInput, OutputSerialization, CsvOutput, OutputFieldDelimiter, OutputQuoteCharacter, OutputQuoteEscapeCharacter, QuoteFields, CsvRecordDelimiter, JsonOutput, JsonRecordDelimiter, ScanRange, Start, End}
use Rattle.request_elements.specs.declared.found.Found.{Found}

tag_is : (e : Element) → tag_of the_type e ≡ number_of e
tag_is Request = refl
tag_is Expression = refl
tag_is ExpressionType = refl
tag_is RequestProgress = refl
tag_is Enabled = refl
tag_is InputSerialization = refl
tag_is CompressionType = refl
tag_is CsvInput = refl
tag_is AllowQuotedRecordDelimiter = refl
tag_is Comments = refl
tag_is InputFieldDelimiter = refl
tag_is FileHeaderInfo = refl
tag_is InputQuoteCharacter = refl
tag_is InputQuoteEscapeCharacter = refl
tag_is InputRecordDelimiter = refl
tag_is JsonInput = refl
tag_is JsonType = refl
tag_is ParquetInput = refl
tag_is OutputSerialization = refl
tag_is CsvOutput = refl
tag_is OutputFieldDelimiter = refl
tag_is OutputQuoteCharacter = refl
tag_is OutputQuoteEscapeCharacter = refl
tag_is QuoteFields = refl
tag_is CsvRecordDelimiter = refl
tag_is JsonOutput = refl
tag_is JsonRecordDelimiter = refl
tag_is ScanRange = refl
tag_is Start = refl
tag_is End = refl

-- `a == b`
pub same_is : (a b : Element) → sameb the_type a b ≡ same_element a b
same_is a b = ap (λ n. nat_eq n (tag_of the_type b)) (tag_is a) ∙ ap (λ n. nat_eq (number_of a) n) (tag_is b)

-- the first of the elements from the i-th on, where it is the i-th
pub find_here : (e : Element) (found : List Found) (i : ℕ) (f : Found) → i < length found → f ≡ get_or found i f → same_element f.element e ≡ true
    → find e (drop i found) ≡ Some f
find_here e found i f within at same = rw (drop-cons found i f within, ← at, same) refl

-- and where it isn't
pub find_later : (e : Element) (found : List Found) (i : ℕ) (f : Found) → i < length found → f ≡ get_or found i f → same_element f.element e ≡ false
    → find e (drop i found) ≡ find e (drop (i + 1) found)
find_later e found i f within at same = rw (drop-cons found i f within, ← at, same, add-one) refl

-- ---- the checks

-- the first unmet check of those from the i-th on, where it is the i-th
pub unmet_here : (found : List Found) (checks : List Check) (i : ℕ) (d : Check) → i < length checks → false ≡ is_met found (get_or checks i d)
    → first_unmet found (drop i checks) ≡ Some (fault_at found (get_or checks i d))
unmet_here found checks i d within unmet = rw (drop-cons checks i d within, ← unmet) refl

-- and where that is met
pub unmet_later : (found : List Found) (checks : List Check) (i : ℕ) (d : Check) → i < length checks → true ≡ is_met found (get_or checks i d)
    → first_unmet found (drop i checks) ≡ first_unmet found (drop (i + 1) checks)
unmet_later found checks i d within met = rw (drop-cons checks i d within, ← met, add-one) refl

-- ---- an iterator over the elements found

-- it is empty where nothing is to come
pub nothing_left : (e : Element) (left : List Found) (n : ℕ) → n ≡ length left → n ≡ 0 → find e left ≡ None
nothing_left e [] n h z = refl
nothing_left e (f ∷ left) n h z = absurd (omega arith)

pub one_less : (left after : List Found) (f : Found) (m n : ℕ) → n ≡ length left → left ≡ f ∷ after → m + 1 ≡ n → m ≡ length after
one_less left after f m n h e s = omega (arith, ap length e)

pub left_here : (e : Element) (left after : List Found) (f : Found) → left ≡ f ∷ after → same_element f.element e ≡ true → find e left ≡ Some f
left_here e left after f is same = rw (is, same) refl

pub left_later : (e : Element) (left after : List Found) (f : Found) → left ≡ f ∷ after → same_element f.element e ≡ false → find e left ≡ find e after
left_later e left after f is same = rw (is, same) refl
