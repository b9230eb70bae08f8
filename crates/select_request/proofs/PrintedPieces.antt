-- The pieces of a printed body.
use Rattle.std.specs.Prelude.{◌≡◌, ℕ, suc, ◌+◌, true, false, ◌==◌, List, [], ◌∷◌, ◌++◌, length, refl}
use Rattle.std.proofs.Common.{sym, ◌∙◌, ap, arith, append_assoc}
use Rattle.std.proofs.lemmas.Bool.{eq-eqb, or_parts, or_right, cond-false}
use Rattle.std.proofs.Math.ListN.{length-append}
use Rattle.request_elements.specs.Elements.{name_of}
use Rattle.request_elements.specs.Pieces.{Piece, start_tag, end_tag, char_data, Symbol, has, up_to, tag, is_declaration, named, namespace, cut_behind, cut, symbols_of}
use Rattle.select_request.specs.Printed.{Part, opens, leaf, closes, escaped, start_tag as start_bytes, end_tag as end_bytes, print_part, print_parts}
use Rattle.request_elements.specs.declared.element.Element.{Element}
use Rattle.request_elements.specs.declared.element.Element.TheVariants.{Request, Expression, ExpressionType, RequestProgress, Enabled, InputSerialization, CompressionType, CsvInput, AllowQuotedRecordDelimiter, Comments, InputFieldDelimiter, FileHeaderInfo, InputQuoteCharacter, InputQuoteEscapeCharacter, InputRecordDelimiter, JsonInput, JsonType, ParquetInput, OutputSerialization, CsvOutput, OutputFieldDelimiter, OutputQuoteCharacter, OutputQuoteEscapeCharacter, QuoteFields, CsvRecordDelimiter, JsonOutput, JsonRecordDelimiter, ScanRange, Start, End}
use Rattle.select_request.proofs.Resolved.{escaped_without_less}

-- ---- the pieces of parts

abbrev pub symbol : ℕ → Piece → Symbol
symbol at piece = record { at = at; piece = piece }

-- what stands between two tags
abbrev pub raw_symbols : ℕ → List ℕ → List Symbol
raw_symbols at [] = []
raw_symbols at (b ∷ raw) = symbol at (char_data (b ∷ raw)) ∷ []

abbrev pub leaf_symbols : ℕ → Element → List ℕ → List Symbol
leaf_symbols at e raw =
    symbol at (start_tag (name_of e))
    ∷ (raw_symbols (at + length (start_bytes e)) raw ++ symbol (at + length (start_bytes e) + length raw) (end_tag (name_of e)) ∷ [])

-- the pieces of parts that begin at this place
abbrev pub symbols_in : ℕ → List Part → List Symbol
symbols_in at [] = []
symbols_in at (opens e ∷ parts) = symbol at (start_tag (name_of e)) ∷ symbols_in (at + length (print_part (opens e))) parts
symbols_in at (leaf e text ∷ parts) = leaf_symbols at e (escaped text) ++ symbols_in (at + length (print_part (leaf e text))) parts
symbols_in at (closes e ∷ parts) = symbol at (end_tag (name_of e)) ∷ symbols_in (at + length (print_part (closes e))) parts

-- ---- cutting

-- the bytes of a piece are passed over
skip_all : (xs ys : List ℕ) (at : ℕ) → cut_behind (length xs) at (xs ++ ys) ≡ cut_behind 0 (at + length xs) ys
skip_all [] ys at = let e : at + 0 ≡ at = omega arith in rw e refl
skip_all (x ∷ xs) ys at = let e : at + 1 + length xs ≡ at + suc (length xs) = omega arith in skip_all xs ys (at + 1) ∙ ap (λ n. cut_behind 0 n ys) e

eq_self : (n : ℕ) → (n == n) ≡ true
eq_self n = eq-eqb n n refl

-- up to a byte that doesn't stand before
up_to_first : (byte : ℕ) (xs ys : List ℕ) → has byte xs ≡ false → up_to byte (xs ++ byte ∷ ys) ≡ xs
up_to_first byte [] ys h = let here : (byte == byte) ≡ true = eq_self byte in rw here refl
up_to_first byte (x ∷ xs) ys h =
    let parts = or_parts (x == byte) (has byte xs) h in
    cond-false (x == byte) [] (x ∷ up_to byte (xs ++ byte ∷ ys)) parts.0 ∙ ap (λ t. x ∷ t) (up_to_first byte xs ys parts.1)

has_there : (byte : ℕ) (xs ys : List ℕ) → has byte (xs ++ byte ∷ ys) ≡ true
has_there byte [] ys = let here : (byte == byte) ≡ true = eq_self byte in rw here refl
has_there byte (x ∷ xs) ys = or_right (x == byte) (has byte (xs ++ byte ∷ ys)) (has_there byte xs ys)

-- a tag
tag_cut : (at : ℕ) (inside rest : List ℕ) → has 62 inside ≡ false
    → cut_behind 0 at (60 ∷ (inside ++ 62 ∷ rest)) ≡ symbol at (tag inside) ∷ cut_behind 0 (at + (length inside + 2)) rest
tag_cut at inside rest h =
    let there = has_there 62 inside rest in
    let upto = up_to_first 62 inside rest h in
    let count : length (inside ++ 62 ∷ []) ≡ length inside + 1 = length-append inside (62 ∷ []) in
    let place : at + 1 + (length inside + 1) ≡ at + (length inside + 2) = omega arith in
    let behind : cut_behind (length inside + 1) (at + 1) (inside ++ 62 ∷ rest) ≡ cut_behind 0 (at + (length inside + 2)) rest =
    ap (λ n. cut_behind n (at + 1) (inside ++ 62 ∷ rest)) (sym count)
    ∙ ap (λ t. cut_behind (length (inside ++ 62 ∷ [])) (at + 1) t) (sym (append_assoc inside (62 ∷ []) rest))
    ∙ skip_all (inside ++ 62 ∷ []) rest (at + 1)
    ∙ ap (λ n. cut_behind 0 (at + 1 + n) rest) count
    ∙ ap (λ n. cut_behind 0 n rest) place in
    rw (there, upto) (ap (λ t. symbol at (tag inside) ∷ t) behind)

-- what stands between two tags
raw_cut : (at : ℕ) (raw more : List ℕ) → has 60 raw ≡ false
    → cut_behind 0 at (raw ++ 60 ∷ more) ≡ raw_symbols at raw ++ cut_behind 0 (at + length raw) (60 ∷ more)
raw_cut at [] more h = let e : at + 0 ≡ at = omega arith in rw e refl
raw_cut at (b ∷ raw) more h =
    let parts = or_parts (b == 60) (has 60 raw) h in
    let upto = up_to_first 60 raw more parts.1 in
    let e : at + 1 + length raw ≡ at + suc (length raw) = omega arith in
    rw (parts.0, upto) (ap (λ t. symbol at (char_data (b ∷ raw)) ∷ t) (skip_all raw (60 ∷ more) (at + 1) ∙ ap (λ n. cut_behind 0 n (60 ∷ more)) e))

-- ---- the tags of elements

name_without_greater : (e : Element) → has 62 (name_of e) ≡ false
name_without_greater Request = refl
name_without_greater Expression = refl
name_without_greater ExpressionType = refl
name_without_greater RequestProgress = refl
name_without_greater Enabled = refl
name_without_greater InputSerialization = refl
name_without_greater CompressionType = refl
name_without_greater CsvInput = refl
name_without_greater AllowQuotedRecordDelimiter = refl
name_without_greater Comments = refl
name_without_greater InputFieldDelimiter = refl
name_without_greater FileHeaderInfo = refl
name_without_greater InputQuoteCharacter = refl
name_without_greater InputQuoteEscapeCharacter = refl
name_without_greater InputRecordDelimiter = refl
name_without_greater JsonInput = refl
name_without_greater JsonType = refl
name_without_greater ParquetInput = refl
name_without_greater OutputSerialization = refl
name_without_greater CsvOutput = refl
name_without_greater OutputFieldDelimiter = refl
name_without_greater OutputQuoteCharacter = refl
name_without_greater OutputQuoteEscapeCharacter = refl
name_without_greater QuoteFields = refl
name_without_greater CsvRecordDelimiter = refl
name_without_greater JsonOutput = refl
name_without_greater JsonRecordDelimiter = refl
name_without_greater ScanRange = refl
name_without_greater Start = refl
name_without_greater End = refl

tag_start : (e : Element) → tag (name_of e) ≡ start_tag (name_of e)
unfolding tag is_declaration named namespace
tag_start Request = refl
tag_start Expression = refl
tag_start ExpressionType = refl
tag_start RequestProgress = refl
tag_start Enabled = refl
tag_start InputSerialization = refl
tag_start CompressionType = refl
tag_start CsvInput = refl
tag_start AllowQuotedRecordDelimiter = refl
tag_start Comments = refl
tag_start InputFieldDelimiter = refl
tag_start FileHeaderInfo = refl
tag_start InputQuoteCharacter = refl
tag_start InputQuoteEscapeCharacter = refl
tag_start InputRecordDelimiter = refl
tag_start JsonInput = refl
tag_start JsonType = refl
tag_start ParquetInput = refl
tag_start OutputSerialization = refl
tag_start CsvOutput = refl
tag_start OutputFieldDelimiter = refl
tag_start OutputQuoteCharacter = refl
tag_start OutputQuoteEscapeCharacter = refl
tag_start QuoteFields = refl
tag_start CsvRecordDelimiter = refl
tag_start JsonOutput = refl
tag_start JsonRecordDelimiter = refl
tag_start ScanRange = refl
tag_start Start = refl
tag_start End = refl

tag_end : (e : Element) → tag (47 ∷ name_of e) ≡ end_tag (name_of e)
unfolding tag is_declaration named namespace
tag_end Request = refl
tag_end Expression = refl
tag_end ExpressionType = refl
tag_end RequestProgress = refl
tag_end Enabled = refl
tag_end InputSerialization = refl
tag_end CompressionType = refl
tag_end CsvInput = refl
tag_end AllowQuotedRecordDelimiter = refl
tag_end Comments = refl
tag_end InputFieldDelimiter = refl
tag_end FileHeaderInfo = refl
tag_end InputQuoteCharacter = refl
tag_end InputQuoteEscapeCharacter = refl
tag_end InputRecordDelimiter = refl
tag_end JsonInput = refl
tag_end JsonType = refl
tag_end ParquetInput = refl
tag_end OutputSerialization = refl
tag_end CsvOutput = refl
tag_end OutputFieldDelimiter = refl
tag_end OutputQuoteCharacter = refl
tag_end OutputQuoteEscapeCharacter = refl
tag_end QuoteFields = refl
tag_end CsvRecordDelimiter = refl
tag_end JsonOutput = refl
tag_end JsonRecordDelimiter = refl
tag_end ScanRange = refl
tag_end Start = refl
tag_end End = refl

cut_start : (at : ℕ) (e : Element) (rest : List ℕ)
    → cut_behind 0 at (start_bytes e ++ rest) ≡ symbol at (start_tag (name_of e)) ∷ cut_behind 0 (at + length (start_bytes e)) rest
unfolding start_bytes
cut_start at e rest =
    let count : suc (length (name_of e ++ 62 ∷ [])) ≡ length (name_of e) + 2 = omega (arith, length-append (name_of e) (62 ∷ [])) in
    ap (λ t. cut_behind 0 at (60 ∷ t)) (append_assoc (name_of e) (62 ∷ []) rest)
    ∙ tag_cut at (name_of e) rest (name_without_greater e)
    ∙ ap (λ p. symbol at p ∷ cut_behind 0 (at + (length (name_of e) + 2)) rest) (tag_start e)
    ∙ ap (λ n. symbol at (start_tag (name_of e)) ∷ cut_behind 0 (at + n) rest) (sym count)

cut_end : (at : ℕ) (e : Element) (rest : List ℕ)
    → cut_behind 0 at (end_bytes e ++ rest) ≡ symbol at (end_tag (name_of e)) ∷ cut_behind 0 (at + length (end_bytes e)) rest
unfolding end_bytes
cut_end at e rest =
    let count : suc (suc (length (name_of e ++ 62 ∷ []))) ≡ suc (length (name_of e)) + 2 = omega (arith, length-append (name_of e) (62 ∷ [])) in
    ap (λ t. cut_behind 0 at (60 ∷ 47 ∷ t)) (append_assoc (name_of e) (62 ∷ []) rest)
    ∙ tag_cut at (47 ∷ name_of e) rest (name_without_greater e)
    ∙ ap (λ p. symbol at p ∷ cut_behind 0 (at + (suc (length (name_of e)) + 2)) rest) (tag_end e)
    ∙ ap (λ n. symbol at (end_tag (name_of e)) ∷ cut_behind 0 (at + n) rest) (sym count)

-- an end tag begins with `<`
end_begins : (e : Element) (rest : List ℕ) → end_bytes e ++ rest ≡ 60 ∷ (47 ∷ (name_of e ++ 62 ∷ []) ++ rest)
unfolding end_bytes
end_begins e rest = refl

raw_end : (at : ℕ) (e : Element) (raw rest : List ℕ) → has 60 raw ≡ false
    → cut_behind 0 at (raw ++ (end_bytes e ++ rest))
    ≡ raw_symbols at raw ++ (symbol (at + length raw) (end_tag (name_of e)) ∷ cut_behind 0 (at + length raw + length (end_bytes e)) rest)
raw_end at e raw rest h =
    ap (λ t. cut_behind 0 at (raw ++ t)) (end_begins e rest)
    ∙ raw_cut at raw (47 ∷ (name_of e ++ 62 ∷ []) ++ rest) h
    ∙ ap (λ t. raw_symbols at raw ++ cut_behind 0 (at + length raw) t) (sym (end_begins e rest))
    ∙ ap (λ t. raw_symbols at raw ++ t) (cut_end (at + length raw) e rest)

cut_leaf : (at : ℕ) (e : Element) (raw rest : List ℕ) → has 60 raw ≡ false
    → cut_behind 0 at ((start_bytes e ++ raw ++ end_bytes e) ++ rest)
    ≡ leaf_symbols at e raw ++ cut_behind 0 (at + length (start_bytes e ++ raw ++ end_bytes e)) rest
cut_leaf at e raw rest h =
    let s = start_bytes e in
    let z = end_bytes e in
    let bytes : (s ++ raw ++ z) ++ rest ≡ s ++ (raw ++ (z ++ rest)) = append_assoc (s ++ raw) z rest ∙ append_assoc s raw (z ++ rest) in
    let count : at + length s + length raw + length z ≡ at + length (s ++ raw ++ z) = omega (arith, length-append (s ++ raw) z, length-append s raw) in
    let last = symbol (at + length s + length raw) (end_tag (name_of e)) in
    ap (λ t. cut_behind 0 at t) bytes
    ∙ cut_start at e (raw ++ (z ++ rest))
    ∙ ap (λ t. symbol at (start_tag (name_of e)) ∷ t)
    (raw_end (at + length s) e raw rest h
    ∙ sym (append_assoc (raw_symbols (at + length s) raw) (last ∷ []) (cut_behind 0 (at + length s + length raw + length z) rest))
    ∙ ap (λ n. (raw_symbols (at + length s) raw ++ last ∷ []) ++ cut_behind 0 n rest) count)

cut_part : (part : Part) (at : ℕ) (rest : List ℕ) (parts : List Part) → cut_behind 0 (at + length (print_part part)) rest ≡ symbols_in (at + length (print_part part)) parts
    → cut_behind 0 at (print_part part ++ rest) ≡ symbols_in at (part ∷ parts)
unfolding print_part
cut_part (opens e) at rest parts h = cut_start at e rest ∙ ap (λ t. symbol at (start_tag (name_of e)) ∷ t) h
cut_part (closes e) at rest parts h = cut_end at e rest ∙ ap (λ t. symbol at (end_tag (name_of e)) ∷ t) h
cut_part (leaf e text) at rest parts h = cut_leaf at e (escaped text) rest (escaped_without_less text) ∙ ap (λ t. leaf_symbols at e (escaped text) ++ t) h

cut_parts : (parts : List Part) (at : ℕ) → cut_behind 0 at (print_parts parts) ≡ symbols_in at parts
cut_parts [] at = refl
cut_parts (part ∷ parts) at = cut_part part at (print_parts parts) parts (cut_parts parts (at + length (print_part part)))

-- the pieces of the printed parts
pub symbols_of_parts : (parts : List Part) → symbols_of (print_parts parts) ≡ symbols_in 0 parts
unfolding cut
symbols_of_parts parts = cut_parts parts 0
