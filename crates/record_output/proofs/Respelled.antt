-- A JSON string spells its text (RFC 8259, section 7).
use Rattle.std.specs.Prelude.{◌≡◌, ◌≢◌, ℕ, zero, suc, ◌/◌, ◌%◌, ◌<◌, ◌≤◌, Bool, true, false, not, ◌&&◌, ◌||◌, ◌==◌, nat_lt, List, [], ◌∷◌, ◌++◌, map, refl, if◌then◌else◌}
use Rattle.std.proofs.Common.{◌∙◌, ap, ap₂, sym, arith, eqb-true}
use Rattle.std.proofs.lemmas.Bool.{eq-eqb}
use Rattle.std.proofs.lemmas.Bool.Decides.{nat_tests}
use Rattle.std.specs.Char.{digit_value}
use Rattle.std.specs.List.{flat_map}
use Rattle.text_view.specs.JsonString.{Piece, unescaped, short, code, Hex, is_hex, hex_value, is_letter, letter_value, is_high_surrogate, is_low_surrogate, IsPiece, ArePieces, print_piece, print_pieces, piece_value, pieces_text, SpellsString}
use Rattle.json_text.specs.Runs.{is_special}
use Rattle.record_output.specs.JsonStrings.{hex_digit, escape, spelled, spelled_text}

-- a piece that spells a character in these bytes
record Reads (c : ℕ) (piece : Piece) (bytes : List ℕ) : Type 0 where
  valid : IsPiece piece
  printed : (rest : List ℕ) → bytes ++ rest ≡ print_piece piece rest
  meant : c ≡ piece_value piece

choose : (c : ℕ) (b : Bool) (p q : Piece) (xs ys : List ℕ) → (b ≡ true → Reads c p xs) → (b ≡ false → Reads c q ys) → Reads c (if b then p else q) (if b then xs else ys)
choose c true p q xs ys first second = first refl
choose c false p q xs ys first second = second refl

-- ---- control characters by their codes

hex_read : (n : ℕ) → n < 16 → digit_value (hex_digit n) ≡ n
hex_read zero h = refl
hex_read (suc zero) h = refl
hex_read (suc (suc zero)) h = refl
hex_read (suc (suc (suc zero))) h = refl
hex_read (suc (suc (suc (suc zero)))) h = refl
hex_read (suc (suc (suc (suc (suc zero))))) h = refl
hex_read (suc (suc (suc (suc (suc (suc zero)))))) h = refl
hex_read (suc (suc (suc (suc (suc (suc (suc zero))))))) h = refl
hex_read (suc (suc (suc (suc (suc (suc (suc (suc zero)))))))) h = refl
hex_read (suc (suc (suc (suc (suc (suc (suc (suc (suc zero))))))))) h = refl
hex_read (suc (suc (suc (suc (suc (suc (suc (suc (suc (suc zero)))))))))) h = refl
hex_read (suc (suc (suc (suc (suc (suc (suc (suc (suc (suc (suc zero))))))))))) h = refl
hex_read (suc (suc (suc (suc (suc (suc (suc (suc (suc (suc (suc (suc zero)))))))))))) h = refl
hex_read (suc (suc (suc (suc (suc (suc (suc (suc (suc (suc (suc (suc (suc zero))))))))))))) h = refl
hex_read (suc (suc (suc (suc (suc (suc (suc (suc (suc (suc (suc (suc (suc (suc zero)))))))))))))) h = refl
hex_read (suc (suc (suc (suc (suc (suc (suc (suc (suc (suc (suc (suc (suc (suc (suc zero))))))))))))))) h = refl
hex_read (suc (suc (suc (suc (suc (suc (suc (suc (suc (suc (suc (suc (suc (suc (suc (suc n)))))))))))))))) h = absurd (omega arith)

hex_of : ℕ → Hex
hex_of c = record { first = 48; second = 48; third = hex_digit (c / 16); fourth = hex_digit (c % 16) }

code_value : (c : ℕ) → c < 32 → hex_value (hex_of c) ≡ c
unfolding hex_of
code_value c low =
    let third = hex_read (c / 16) (omega arith) in
    let fourth = hex_read (c % 16) (omega arith) in
    omega (arith, third, fourth)

low_digit : (c n : ℕ) → digit_value c ≡ n → n < 16 → nat_lt (digit_value c) 16 ≡ true
low_digit c n is low = grind (arith, nat_tests)

both_true : (a b : Bool) → a ≡ true → b ≡ true → (a && b) ≡ true
both_true a b p q = rw (p, q) refl

is_code : (c : ℕ) → c < 32 → is_hex (hex_of c) ≡ true
unfolding hex_of
is_code c low =
    both_true (nat_lt (digit_value (hex_digit (c / 16))) 16) (nat_lt (digit_value (hex_digit (c % 16))) 16)
    (low_digit (hex_digit (c / 16)) (c / 16) (hex_read (c / 16) (omega arith)) (omega arith))
    (low_digit (hex_digit (c % 16)) (c % 16) (hex_read (c % 16) (omega arith)) (omega arith))

no_half : (n : ℕ) → n < 32 → (not (is_high_surrogate n) && not (is_low_surrogate n)) ≡ true
no_half n low = grind (arith, nat_tests)

code_reads : (c : ℕ) → c < 32 → Reads c (code (hex_of c)) (92 ∷ 117 ∷ 48 ∷ 48 ∷ hex_digit (c / 16) ∷ hex_digit (c % 16) ∷ [])
unfolding hex_of
code_reads c low = record {
  valid = (is_code c low, ap (λ n. not (is_high_surrogate n) && not (is_low_surrogate n)) (code_value c low) ∙ no_half c low);
  printed = λ rest. refl;
  meant = sym (code_value c low);
}

short_reads : (c letter : ℕ) → is_letter letter ≡ true → c ≡ letter_value letter → Reads c (short letter) (92 ∷ letter ∷ [])
short_reads c letter is means = record { valid = is; printed = λ rest. refl; meant = means }

-- ---- each character

escape_piece : ℕ → Piece
escape_piece c =
    if c == 34 then short 34
    else (if c == 92 then short 92
    else (if c == 8 then short 98
    else (if c == 9 then short 116
    else (if c == 10 then short 110
    else (if c == 12 then short 102
    else (if c == 13 then short 114
    else code (hex_of c)))))))

piece_of : ℕ → Piece
piece_of c = if is_special c then escape_piece c else unescaped c

low_if : (c : ℕ) → is_special c ≡ true → (c == 34) ≡ false → (c == 92) ≡ false → c < 32
low_if c special quote solidus = third_of (c == 34) (c == 92) c special quote solidus
  where
    third_of : (a b : Bool) (c : ℕ) → (a || b || nat_lt c 32) ≡ true → a ≡ false → b ≡ false → c < 32
    third_of true b c h p q = absurd (cc)
    third_of false true c h p q = absurd (cc)
    third_of false false c h p q = grind (arith, nat_tests)

escape_reads : (c : ℕ) → is_special c ≡ true → Reads c (escape_piece c) (escape c)
unfolding escape_piece
escape_reads c special =
    choose c (c == 34) _ _ _ _ (λ e. short_reads c 34 refl (eqb-true c 34 e)) (λ quote.
    choose c (c == 92) _ _ _ _ (λ e. short_reads c 92 refl (eqb-true c 92 e)) (λ solidus.
    choose c (c == 8) _ _ _ _ (λ e. short_reads c 98 refl (eqb-true c 8 e)) (λ _.
    choose c (c == 9) _ _ _ _ (λ e. short_reads c 116 refl (eqb-true c 9 e)) (λ _.
    choose c (c == 10) _ _ _ _ (λ e. short_reads c 110 refl (eqb-true c 10 e)) (λ _.
    choose c (c == 12) _ _ _ _ (λ e. short_reads c 102 refl (eqb-true c 12 e)) (λ _.
    choose c (c == 13) _ _ _ _ (λ e. short_reads c 114 refl (eqb-true c 13 e)) (λ _. code_reads c (low_if c special quote solidus))))))))

plain_valid : (c : ℕ) → is_special c ≡ false → IsPiece (unescaped c)
plain_valid c plain = parts_of (c == 34) (c == 92) c plain refl refl
  where
    parts_of : (a b : Bool) (c : ℕ) → (a || b || nat_lt c 32) ≡ false → (c == 34) ≡ a → (c == 92) ≡ b → (32 ≤ c) × (c ≢ 34) × (c ≢ 92)
    parts_of true b c h p q = absurd (cc)
    parts_of false true c h p q = absurd (cc)
    parts_of false false c h p q = (grind (arith, nat_tests), λ e. absurd (cc (eq-eqb c 34 e)), λ e. absurd (cc (eq-eqb c 92 e)))

char_reads : (c : ℕ) → Reads c (piece_of c) (spelled c)
unfolding piece_of
char_reads c =
    choose c (is_special c) _ _ _ _ (escape_reads c) (λ plain. record { valid = plain_valid c plain; printed = λ rest. refl; meant = refl })

-- ---- the text

pieces : List ℕ → List Piece
pieces text = map piece_of text

all_valid : (text : List ℕ) → ArePieces (pieces text)
unfolding pieces
all_valid [] = tt
all_valid (c ∷ text) = ((char_reads c).valid, all_valid text)

all_printed : (text : List ℕ) → flat_map spelled text ≡ print_pieces (pieces text)
unfolding pieces
all_printed [] = refl
all_printed (c ∷ text) = ap (λ l. spelled c ++ l) (all_printed text) ∙ (char_reads c).printed (print_pieces (map piece_of text))

all_meant : (text : List ℕ) → text ≡ pieces_text (pieces text)
unfolding pieces
all_meant [] = refl
all_meant (c ∷ text) = ap₂ (λ d l. d ∷ l) (char_reads c).meant (all_meant text)

pub string_read : (text : List ℕ) → SpellsString (spelled_text text) text
unfolding spelled_text
string_read text = record { pieces = pieces text; valid = all_valid text; spelled = all_printed text; meant = all_meant text }
