-- The table of elements: its names tell the elements that stand in one.
use Rattle.std.proofs.Common.{◌≡◌, ℕ, ◌<◌, ◌&&◌, Bool, true, false, List, [], ◌∷◌, Some, slice_get, refl, sym, ap, ◌∙◌, subst, arith, eqb-true, bytes_eq, if◌then◌else◌}
use Rattle.std.proofs.lemmas.Slice.Eq.{bytes_eq-Decides}
use Rattle.request_elements.specs.declared.element.Element.{Element}
use Rattle.request_elements.specs.declared.element.Element.TheVariants.{Request, Expression, ExpressionType, RequestProgress, Enabled, InputSerialization, CompressionType, CsvInput, AllowQuotedRecordDelimiter, Comments, InputFieldDelimiter, FileHeaderInfo, InputQuoteCharacter, InputQuoteEscapeCharacter, InputRecordDelimiter, JsonInput, JsonType, ParquetInput, OutputSerialization, CsvOutput, OutputFieldDelimiter, OutputQuoteCharacter, OutputQuoteEscapeCharacter, QuoteFields, CsvRecordDelimiter, JsonOutput, JsonRecordDelimiter, ScanRange, Start, End}
use Rattle.request_elements.specs.Elements.{name_of, number_of, same_element, is_child, all_elements, first_named, child_named}

-- each element stands at its number
at_number : (e : Element) → slice_get all_elements (number_of e) ≡ Some e
at_number = elim [ Request ↦ refl | Expression ↦ refl | ExpressionType ↦ refl | RequestProgress ↦ refl | Enabled ↦ refl | InputSerialization ↦ refl | CompressionType ↦ refl | CsvInput ↦ refl | AllowQuotedRecordDelimiter ↦ refl | Comments ↦ refl | InputFieldDelimiter ↦ refl | FileHeaderInfo ↦ refl | InputQuoteCharacter ↦ refl | InputQuoteEscapeCharacter ↦ refl | InputRecordDelimiter ↦ refl | JsonInput ↦ refl | JsonType ↦ refl | ParquetInput ↦ refl | OutputSerialization ↦ refl | CsvOutput ↦ refl | OutputFieldDelimiter ↦ refl | OutputQuoteCharacter ↦ refl | OutputQuoteEscapeCharacter ↦ refl | QuoteFields ↦ refl | CsvRecordDelimiter ↦ refl | JsonOutput ↦ refl | JsonRecordDelimiter ↦ refl | ScanRange ↦ refl | Start ↦ refl | End ↦ refl ]

pub number_below : (e : Element) → number_of e < 30
number_below = elim [ Request ↦ omega arith | Expression ↦ omega arith | ExpressionType ↦ omega arith | RequestProgress ↦ omega arith | Enabled ↦ omega arith | InputSerialization ↦ omega arith | CompressionType ↦ omega arith | CsvInput ↦ omega arith | AllowQuotedRecordDelimiter ↦ omega arith | Comments ↦ omega arith | InputFieldDelimiter ↦ omega arith | FileHeaderInfo ↦ omega arith | InputQuoteCharacter ↦ omega arith | InputQuoteEscapeCharacter ↦ omega arith | InputRecordDelimiter ↦ omega arith | JsonInput ↦ omega arith | JsonType ↦ omega arith | ParquetInput ↦ omega arith | OutputSerialization ↦ omega arith | CsvOutput ↦ omega arith | OutputFieldDelimiter ↦ omega arith | OutputQuoteCharacter ↦ omega arith | OutputQuoteEscapeCharacter ↦ omega arith | QuoteFields ↦ omega arith | CsvRecordDelimiter ↦ omega arith | JsonOutput ↦ omega arith | JsonRecordDelimiter ↦ omega arith | ScanRange ↦ omega arith | Start ↦ omega arith | End ↦ omega arith ]

pub same_number : (a b : Element) → number_of a ≡ number_of b → a ≡ b
same_number a b n =
    let p : Some a ≡ Some b = sym (at_number a) ∙ (ap (slice_get all_elements) n ∙ at_number b) in cc

pub same_is : (a b : Element) → same_element a b ≡ true → a ≡ b
same_is a b e = same_number a b (eqb-true (number_of a) (number_of b) e)

told_in : (parent other child : Element) → same_element parent other ≡ true → child_named other (name_of child) ≡ Some child → child_named parent (name_of child) ≡ Some child
told_in parent other child e t = subst (λ p. child_named p (name_of child) ≡ Some child) (sym (same_is parent other e)) t

-- an element is the one of its name where it stands
pub child_told : (parent child : Element) → is_child parent child ≡ true → child_named parent (name_of child) ≡ Some child
unfolding child_named
child_told parent Request e = cc
child_told parent Expression e = told_in parent Request Expression e refl
child_told parent ExpressionType e = told_in parent Request ExpressionType e refl
child_told parent RequestProgress e = told_in parent Request RequestProgress e refl
child_told parent Enabled e = told_in parent RequestProgress Enabled e refl
child_told parent InputSerialization e = told_in parent Request InputSerialization e refl
child_told parent CompressionType e = told_in parent InputSerialization CompressionType e refl
child_told parent CsvInput e = told_in parent InputSerialization CsvInput e refl
child_told parent AllowQuotedRecordDelimiter e = told_in parent CsvInput AllowQuotedRecordDelimiter e refl
child_told parent Comments e = told_in parent CsvInput Comments e refl
child_told parent InputFieldDelimiter e = told_in parent CsvInput InputFieldDelimiter e refl
child_told parent FileHeaderInfo e = told_in parent CsvInput FileHeaderInfo e refl
child_told parent InputQuoteCharacter e = told_in parent CsvInput InputQuoteCharacter e refl
child_told parent InputQuoteEscapeCharacter e = told_in parent CsvInput InputQuoteEscapeCharacter e refl
child_told parent InputRecordDelimiter e = told_in parent CsvInput InputRecordDelimiter e refl
child_told parent JsonInput e = told_in parent InputSerialization JsonInput e refl
child_told parent JsonType e = told_in parent JsonInput JsonType e refl
child_told parent ParquetInput e = told_in parent InputSerialization ParquetInput e refl
child_told parent OutputSerialization e = told_in parent Request OutputSerialization e refl
child_told parent CsvOutput e = told_in parent OutputSerialization CsvOutput e refl
child_told parent OutputFieldDelimiter e = told_in parent CsvOutput OutputFieldDelimiter e refl
child_told parent OutputQuoteCharacter e = told_in parent CsvOutput OutputQuoteCharacter e refl
child_told parent OutputQuoteEscapeCharacter e = told_in parent CsvOutput OutputQuoteEscapeCharacter e refl
child_told parent QuoteFields e = told_in parent CsvOutput QuoteFields e refl
child_told parent CsvRecordDelimiter e = told_in parent CsvOutput CsvRecordDelimiter e refl
child_told parent JsonOutput e = told_in parent OutputSerialization JsonOutput e refl
child_told parent JsonRecordDelimiter e = told_in parent JsonOutput JsonRecordDelimiter e refl
child_told parent ScanRange e = told_in parent Request ScanRange e refl
child_told parent Start e = told_in parent ScanRange Start e refl
child_told parent End e = told_in parent ScanRange End e refl

and_both : (a b : Bool) → (a && b) ≡ true → (a ≡ true) × (b ≡ true)
and_both true b e = (refl, e)
and_both false b e = cc

first_told : (parent : Element) (name : List ℕ) (child : Element) (es : List Element) → first_named parent name es ≡ Some child → (is_child parent child && bytes_eq (name_of child) name) ≡ true
first_told parent name child [] e = cc
first_told parent name child (x ∷ es) e =
    let P : Bool → Type 0 = λ t. (is_child parent x && bytes_eq (name_of x) name) ≡ t → (if t then Some x else first_named parent name es) ≡ Some child → (is_child parent child && bytes_eq (name_of child) name) ≡ true in
    (elim (is_child parent x && bytes_eq (name_of x) name) as P [
      | true ↦ λ t q. let p : x ≡ child = cc in subst (λ y. (is_child parent y && bytes_eq (name_of y) name) ≡ true) p t
      | false ↦ λ t q. first_told parent name child es q
    ]) refl e

-- the element of a name stands there and has the name
pub named_told : (parent : Element) (name : List ℕ) (child : Element) → child_named parent name ≡ Some child → (is_child parent child ≡ true) × (name ≡ name_of child)
unfolding child_named
named_told parent name child e =
    let b = and_both (is_child parent child) (bytes_eq (name_of child) name) (first_told parent name child all_elements e) in
    (b.0, sym ((bytes_eq-Decides (name_of child) name).0 b.1))

-- bytes that are the same, and the test of it
pub bytes_are : (a b : List ℕ) → bytes_eq a b ≡ true → a ≡ b
bytes_are a b e = (bytes_eq-Decides a b).0 e

pub bytes_test : (a b : List ℕ) → a ≡ b → bytes_eq a b ≡ true
bytes_test a b e = (bytes_eq-Decides a b).1 e
