-- The element that a piece begins in another, and whether it is free.
use Rattle.std.proofs.Common.{◌≡◌, ℕ, ◌&&◌, ◌||◌, not, Bool, true, false, List, [], ◌∷◌, Option, Some, None, is_some, slice_index_or, length, refl, sym, ap, ◌∙◌, arith, eq-eqb, ◌≢◌}
use mathlib.Core.Path.{fun_ext}
use Rattle.std.proofs.Math.Bool.{and-false, and-true, or-false}
use Rattle.std.proofs.Math.ListN.{set}
use Rattle.std.proofs.lemmas.List.{get_or-set_other}
use Rattle.std.proofs.lemmas.Grind.{get_or-set_at}
use Rattle.grammar_rules.specs.Rules.{without}
use Rattle.request_elements.specs.declared.element.Element.{Element}
use Rattle.request_elements.specs.declared.element.Element.TheVariants.{Request, Expression, ExpressionType, RequestProgress, Enabled, InputSerialization, CompressionType, CsvInput, AllowQuotedRecordDelimiter, Comments, InputFieldDelimiter, FileHeaderInfo, InputQuoteCharacter, InputQuoteEscapeCharacter, InputRecordDelimiter, JsonInput, JsonType, ParquetInput, OutputSerialization, CsvOutput, OutputFieldDelimiter, OutputQuoteCharacter, OutputQuoteEscapeCharacter, QuoteFields, CsvRecordDelimiter, JsonOutput, JsonRecordDelimiter, ScanRange, Start, End}
use Rattle.request_elements.specs.Elements.{number_of, same_element, is_child, name_of, child_named}
use Rattle.request_elements.specs.Pieces.{Piece, declaration, start_tag, end_tag, empty_tag, char_data, unfit, Symbol}
use Rattle.request_elements.specs.Grammar.{is_blank_piece, starts_element, is_whole_element}
use Rattle.request_elements.specs.Readers.{child_begun, free_of, first_child, where_free}
use Rattle.request_elements.specs.Cursor.{first_name, beginning_name}
use Rattle.request_elements.proofs.TableLaws.{number_below, same_is, child_told, named_told, bytes_are, bytes_test}

-- as the cursor tells it
piece_child : (parent : Element) (p : Piece) (name : List ℕ) → beginning_name p ≡ Some name → child_begun parent p ≡ child_named parent name
piece_child parent declaration name e = cc
piece_child parent (start_tag n) name e = let q : n ≡ name = cc in ap (child_named parent) q
piece_child parent (end_tag n) name e = cc
piece_child parent (empty_tag n) name e = let q : n ≡ name = cc in ap (child_named parent) q
piece_child parent (char_data raw) name e = cc
piece_child parent unfit name e = cc

pub child_in_sight : (parent : Element) (ss : List Symbol) (name : List ℕ) → first_name ss ≡ Some name → first_child parent ss ≡ child_named parent name
child_in_sight parent [] name e = cc
child_in_sight parent (s ∷ ss) name e = piece_child parent s.piece name e

pub free_is : (taken : List Bool) (c : Element) (n : ℕ) → n ≡ number_of c → free_of taken c ≡ not (slice_index_or taken n false)
unfolding free_of
free_is taken c n e = ap (λ k. not (slice_index_or taken k false)) (sym e)

pub where_free_not : (free : Element → Bool) (o : Option Element) (c : Element) → o ≡ Some c → free c ≡ false → None ≡ where_free free o
where_free_not free o c e f = rw (e, f) refl

pub where_free_so : (free : Element → Bool) (o : Option Element) (c : Element) → o ≡ Some c → free c ≡ true → Some c ≡ where_free free o
where_free_so free o c e f = rw (e, f) refl

-- ---- which tag begins which element

pub begins_tag : (e i : Element) (p : Piece) → is_child e i ≡ true → (is_whole_element i p || starts_element i p) ≡ true → child_begun e p ≡ Some i
begins_tag e i declaration k h = cc
begins_tag e i (start_tag name) k h = let q = bytes_are name (name_of i) h in rw q (child_told e i k)
begins_tag e i (end_tag name) k h = cc
begins_tag e i (empty_tag name) k h = let q = bytes_are name (name_of i) (sym (or-false _) ∙ h) in rw q (child_told e i k)
begins_tag e i (char_data raw) k h = cc
begins_tag e i unfit k h = cc

pub tells_tag : (e i : Element) (p : Piece) → child_begun e p ≡ Some i → (is_child e i ≡ true) × ((is_whole_element i p || starts_element i p) ≡ true)
tells_tag e i declaration h = cc
tells_tag e i (start_tag name) h = let w = named_told e name i h in (w.0, bytes_test name (name_of i) w.1)
tells_tag e i (end_tag name) h = cc
tells_tag e i (empty_tag name) h = let w = named_told e name i h in (w.0, or-false _ ∙ bytes_test name (name_of i) w.1)
tells_tag e i (char_data raw) h = cc
tells_tag e i unfit h = cc

pub blank_or_child : (e : Element) (p : Piece) → (is_blank_piece p && is_some (child_begun e p)) ≡ false
blank_or_child e declaration = refl
blank_or_child e (start_tag name) = refl
blank_or_child e (end_tag name) = refl
blank_or_child e (empty_tag name) = refl
blank_or_child e (char_data raw) = and-false _
blank_or_child e unfit = refl

-- ---- the marks of the elements that are taken

all_free : (c : Element) → free_of (false ∷ false ∷ false ∷ false ∷ false ∷ false ∷ false ∷ false ∷ false ∷ false ∷ false ∷ false ∷ false ∷ false ∷ false ∷ false ∷ false ∷ false ∷ false ∷ false ∷ false ∷ false ∷ false ∷ false ∷ false ∷ false ∷ false ∷ false ∷ false ∷ false ∷ []) c ≡ true
unfolding free_of
all_free = elim [ Request ↦ refl | Expression ↦ refl | ExpressionType ↦ refl | RequestProgress ↦ refl | Enabled ↦ refl | InputSerialization ↦ refl | CompressionType ↦ refl | CsvInput ↦ refl | AllowQuotedRecordDelimiter ↦ refl | Comments ↦ refl | InputFieldDelimiter ↦ refl | FileHeaderInfo ↦ refl | InputQuoteCharacter ↦ refl | InputQuoteEscapeCharacter ↦ refl | InputRecordDelimiter ↦ refl | JsonInput ↦ refl | JsonType ↦ refl | ParquetInput ↦ refl | OutputSerialization ↦ refl | CsvOutput ↦ refl | OutputFieldDelimiter ↦ refl | OutputQuoteCharacter ↦ refl | OutputQuoteEscapeCharacter ↦ refl | QuoteFields ↦ refl | CsvRecordDelimiter ↦ refl | JsonOutput ↦ refl | JsonRecordDelimiter ↦ refl | ScanRange ↦ refl | Start ↦ refl | End ↦ refl ]

-- with no mark each element is free
pub all_are_free : free_of (false ∷ false ∷ false ∷ false ∷ false ∷ false ∷ false ∷ false ∷ false ∷ false ∷ false ∷ false ∷ false ∷ false ∷ false ∷ false ∷ false ∷ false ∷ false ∷ false ∷ false ∷ false ∷ false ∷ false ∷ false ∷ false ∷ false ∷ false ∷ false ∷ false ∷ []) ≡ (λ c. true)
all_are_free = fun_ext all_free

same_not : (c d : Element) → same_element c d ≡ false → number_of c ≡ number_of d → ⊥
same_not c d e n = let t : same_element c d ≡ true = eq-eqb (number_of c) (number_of d) n in cc

-- a mark takes its element, and no other
mark_at : (taken : List Bool) (c d : Element) (n : ℕ) (t : Bool) → same_element c d ≡ t → n ≡ number_of c → length taken ≡ 30 → (free_of taken d && not t) ≡ free_of (set taken n true) d
unfolding free_of
mark_at taken c d n true e q l =
    let p : c ≡ d = same_is c d e in
    let m : number_of d ≡ n = ap number_of (sym p) ∙ sym q in
    let b = number_below c in
    rw (get_or-set_at taken n (number_of d) true false m (omega arith)) (and-false (not (slice_index_or taken (number_of d) false)))
mark_at taken c d n false e q l =
    let m : number_of d ≢ n = λ same. absurd (same_not c d e (sym q ∙ sym same)) in
    rw (get_or-set_other taken n (number_of d) true false m) (and-true (not (slice_index_or taken (number_of d) false)))

pub free_marked : (taken : List Bool) (c : Element) (n : ℕ) → n ≡ number_of c → length taken ≡ 30 → without same_element c (free_of taken) ≡ free_of (set taken n true)
free_marked taken c n q l = fun_ext (λ d. mark_at taken c d n (same_element c d) refl q l)
