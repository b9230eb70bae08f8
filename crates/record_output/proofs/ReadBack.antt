-- A JSON value's text by its tree, and a field in quotes as it is read.
use Rattle.std.specs.Prelude.{◌≡◌, ℕ, ◌-◌, Bool, true, false, ◌||◌, ◌==◌, List, [], ◌∷◌, ◌++◌, length, take, map, refl, if◌then◌else◌}
use Rattle.std.proofs.Common.{◌∙◌, ap, sym, arith, append_assoc, append-nil, length-append}
use Rattle.std.proofs.Math.Seq.{take-append_seam}
use Rattle.std.proofs.lemmas.Bool.{eq-eqb}
use Rattle.std.specs.List.{flat_map}
use Rattle.std.specs.Str.{chars, encode_utf8_all}
use Rattle.text_view.specs.JsonString.{unescaped_text}
use Rattle.text_view.specs.QuotedField.{FieldPiece, escaped as escaped_piece, single, print_field, field_text, AreFieldPieces, StandsFor, closed}
use Rattle.select_request.specs.declared.request.CsvOutput.{CsvOutput}
use Rattle.json_text.specs.Grammar.{Json, null, truth, number, string, empty_array, array, empty_object, object, print}
use Rattle.json_text.specs.Nodes.{Spells, kind_at, kind_of}
use Rattle.json_text.specs.Skipped.{outside}
use Rattle.json_text.specs.Compact.{tight, compact, squeezed}
use Rattle.json_text.proofs.Checks.{kind_told}
use Rattle.json_text.proofs.Squeezing.{compact_is}
use Rattle.sql_value.specs.Settled.{inside}
use Rattle.sql_value.specs.declared.value.Value.TheVariants.{Node}
use Rattle.record_output.specs.CsvFields.{escaped, escaped_text}
use Rattle.record_output.specs.Values.{compact_text, node_text, csv_text, json_value, tree_text}

at_tree : (bytes : List ℕ) (tree : Json) → Spells bytes tree → kind_at bytes ≡ kind_of tree
at_tree bytes tree x = kind_told bytes bytes (kind_at bytes) refl refl tree x

-- a token that isn't an array or an object is itself without blanks
by_kind : (bytes : List ℕ) (tree : Json) → bytes ≡ print tree [] → squeezed outside bytes ≡ compact tree → compact_text (kind_of tree) bytes ≡ compact tree
unfolding print tight
by_kind bytes null is squeezes = is
by_kind bytes (truth b) is squeezes = is
by_kind bytes (number n) is squeezes = is
by_kind bytes (string raw) is squeezes = is
by_kind bytes (empty_array blanks) is squeezes = squeezes
by_kind bytes (array x xs) is squeezes = squeezes
by_kind bytes (empty_object blanks) is squeezes = squeezes
by_kind bytes (object m ms) is squeezes = squeezes

pub json_by_tree : (bytes : List ℕ) (tree : Json) → Spells bytes tree → json_value (Node bytes) ≡ compact tree
json_by_tree bytes tree x =
    ap (λ k. compact_text k bytes) (at_tree bytes tree x) ∙ by_kind bytes tree x.spelled (compact_is bytes tree x)

-- between the quotation marks
middle : (raw : List ℕ) → inside (34 ∷ (raw ++ 34 ∷ [])) ≡ raw
middle raw =
    let size : length (34 ∷ (raw ++ 34 ∷ [])) - 1 - 1 ≡ length raw = omega (arith, length-append raw (34 ∷ [])) in
    ap (λ n. take n (raw ++ 34 ∷ [])) size ∙ take-append_seam raw (34 ∷ [])

printed_string : (raw : List ℕ) → inside (print (string raw) []) ≡ raw
unfolding print
printed_string raw = middle raw

text_by_kind : (bytes : List ℕ) (tree : Json) → bytes ≡ print tree [] → compact_text (kind_of tree) bytes ≡ compact tree → node_text (kind_of tree) bytes ≡ tree_text tree
text_by_kind bytes null is own = refl
text_by_kind bytes (truth b) is own = own
text_by_kind bytes (number n) is own = own
text_by_kind bytes (string raw) is own = ap (λ s. encode_utf8_all (unescaped_text (chars s))) (ap inside is ∙ printed_string raw)
text_by_kind bytes (empty_array blanks) is own = own
text_by_kind bytes (array x xs) is own = own
text_by_kind bytes (empty_object blanks) is own = own
text_by_kind bytes (object m ms) is own = own

pub csv_by_tree : (bytes : List ℕ) (tree : Json) → Spells bytes tree → csv_text (Node bytes) ≡ tree_text tree
csv_by_tree bytes tree x =
    ap (λ k. node_text k bytes) (at_tree bytes tree x) ∙ text_by_kind bytes tree x.spelled (by_kind bytes tree x.spelled (compact_is bytes tree x))

-- ---- a field in quotes

piece_of : Bool → ℕ → FieldPiece
piece_of true c = escaped_piece c
piece_of false c = single c

pieces_of : ℕ → ℕ → List ℕ → List FieldPiece
pieces_of q e text = map (λ c. piece_of (c == q || c == e) c) text

print_piece : (e c : ℕ) (b : Bool) (pieces : List FieldPiece) (rest : List ℕ) → print_field e (piece_of b c ∷ pieces) rest ≡ (if b then e ∷ c ∷ [] else c ∷ []) ++ print_field e pieces rest
unfolding piece_of
print_piece e c true pieces rest = refl
print_piece e c false pieces rest = refl

printed : (csv : CsvOutput) (text rest : List ℕ) → flat_map (escaped csv) text ++ rest ≡ print_field csv.escape (pieces_of csv.quote csv.escape text) rest
unfolding pieces_of
printed csv [] rest = refl
printed csv (c ∷ text) rest =
    append_assoc (escaped csv c) (flat_map (escaped csv) text) rest
    ∙ ap (λ l. escaped csv c ++ l) (printed csv text rest)
    ∙ sym (print_piece csv.escape c (c == csv.quote || c == csv.escape) (pieces_of csv.quote csv.escape text) rest)

piece_text : (c : ℕ) (b : Bool) (pieces : List FieldPiece) → field_text (piece_of b c ∷ pieces) ≡ c ∷ field_text pieces
unfolding piece_of
piece_text c true pieces = refl
piece_text c false pieces = refl

meant : (q e : ℕ) (text : List ℕ) → text ≡ field_text (pieces_of q e text)
unfolding pieces_of
meant q e [] = refl
meant q e (c ∷ text) = ap (λ l. c ∷ l) (meant q e text) ∙ sym (piece_text c (c == q || c == e) (pieces_of q e text))

neither_first : (a b : Bool) → (a || b) ≡ false → a ≡ true → ⊥
neither_first true b h e = cc
neither_first false b h e = cc

neither_second : (a b : Bool) → (a || b) ≡ false → b ≡ true → ⊥
neither_second true b h e = cc
neither_second false true h e = cc
neither_second false false h e = cc

is_piece : (q e c : ℕ) (b : Bool) (pieces : List FieldPiece) (rest : List ℕ) → (c == q || c == e) ≡ b → AreFieldPieces q e pieces rest → AreFieldPieces q e (piece_of b c ∷ pieces) rest
unfolding piece_of
is_piece q e c true pieces rest is later = (is, later)
is_piece q e c false pieces rest is later =
    (λ same. neither_first (c == q) (c == e) is (eq-eqb c q same), λ same. absurd (neither_second (c == q) (c == e) is (eq-eqb c e same)), later)

are_pieces : (q e : ℕ) (text rest : List ℕ) → AreFieldPieces q e (pieces_of q e text) rest
unfolding pieces_of
are_pieces q e [] rest = tt
are_pieces q e (c ∷ text) rest = is_piece q e c (c == q || c == e) (pieces_of q e text) rest refl (are_pieces q e text rest)

pub quoted_read : (csv : CsvOutput) (text : List ℕ) → StandsFor csv.quote csv.escape (escaped_text csv text ++ csv.quote ∷ []) text
unfolding escaped_text
quoted_read csv text =
    let q = csv.quote in
    let e = csv.escape in
    closed (pieces_of q e text) [] (are_pieces q e text (q ∷ [])) (λ same. refl) (printed csv text (q ∷ [])) (meant q e text ∙ sym (append-nil (field_text (pieces_of q e text))))
