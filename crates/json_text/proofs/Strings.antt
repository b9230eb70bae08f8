-- What may follow in a string, from each place of it.
use Rattle.std.proofs.Common.{◌≡◌, ◌≢◌, ℕ, ◌+◌, ◌*◌, ◌≤◌, ◌⊎◌, inl, inr, Bool, true, false, cond, ◌&&◌, ◌||◌, not, ◌==◌, nat_lt, nat_le, List, [], ◌∷◌, Option, None, Some, lit≤, refl, sym, ◌∙◌, ap, subst, arith}
use Rattle.std.specs.Char.{digit_value}
use Rattle.std.proofs.lemmas.Bool.Decides.{nat_tests}
use Rattle.text_view.specs.JsonString.{Hex, is_hex, hex_value, is_high_surrogate, is_low_surrogate, is_letter, Piece, IsPiece, print_piece, unescaped, short, code, pair, ArePieces, print_pieces}
use Rattle.json_text.specs.Grammar.{IsInside}
use Rattle.json_text.specs.Machine.{part_next, inside_next, part_if, is_hex_digit, is_d, is_eight_less, is_high_third, is_low_third, closes}
use Rattle.json_text.specs.declared.machine.Part.{Part}
use Rattle.json_text.specs.declared.machine.Part.TheVariants.{Inside, Escape, CodeDue, AfterD, Three, Two, One, HighTwo, HighOne, LowEscape, LowMark, LowD, LowDigit}
use Rattle.json_text.proofs.Classes.{eq_is, eq_of}

-- bytes that pass the tests, and then the inside of a string
abbrev pub Due : List (ℕ → Bool) → List ℕ → Type 0
Due [] raw = IsInside raw
Due (t ∷ ts) [] = ⊥
Due (t ∷ ts) (c ∷ cs) = (t c ≡ true) × Due ts cs

abbrev pub second_half : List (ℕ → Bool)
second_half = (λ c. c == 92) ∷ (λ c. c == 117) ∷ is_d ∷ is_low_third ∷ is_hex_digit ∷ is_hex_digit ∷ []

abbrev pub AfterDTail : List ℕ → Type 0
AfterDTail [] = ⊥
AfterDTail (c ∷ cs) =
    ((is_eight_less c ≡ true) × Due (is_hex_digit ∷ is_hex_digit ∷ []) cs)
    ⊎ ((is_eight_less c ≡ false) × (is_high_third c ≡ true) × Due (is_hex_digit ∷ is_hex_digit ∷ second_half) cs)

abbrev pub CodeTail : List ℕ → Type 0
CodeTail [] = ⊥
CodeTail (c ∷ cs) =
    ((is_d c ≡ true) × AfterDTail cs)
    ⊎ ((is_d c ≡ false) × (is_hex_digit c ≡ true) × Due (is_hex_digit ∷ is_hex_digit ∷ is_hex_digit ∷ []) cs)

abbrev pub EscapeTail : List ℕ → Type 0
EscapeTail [] = ⊥
EscapeTail (c ∷ cs) = ((c ≡ 117) × CodeTail cs) ⊎ ((is_letter c ≡ true) × IsInside cs)

-- what may stand between a place in a string and its closing quotation mark
abbrev pub Tail : Part → List ℕ → Type 0
Tail Inside raw = IsInside raw
Tail Escape raw = EscapeTail raw
Tail CodeDue raw = CodeTail raw
Tail AfterD raw = AfterDTail raw
Tail Three raw = Due (is_hex_digit ∷ is_hex_digit ∷ is_hex_digit ∷ []) raw
Tail Two raw = Due (is_hex_digit ∷ is_hex_digit ∷ []) raw
Tail One raw = Due (is_hex_digit ∷ []) raw
Tail HighTwo raw = Due (is_hex_digit ∷ is_hex_digit ∷ second_half) raw
Tail HighOne raw = Due (is_hex_digit ∷ second_half) raw
Tail LowEscape raw = Due second_half raw
Tail LowMark raw = Due ((λ c. c == 117) ∷ is_d ∷ is_low_third ∷ is_hex_digit ∷ is_hex_digit ∷ []) raw
Tail LowD raw = Due (is_d ∷ is_low_third ∷ is_hex_digit ∷ is_hex_digit ∷ []) raw
Tail LowDigit raw = Due (is_low_third ∷ is_hex_digit ∷ is_hex_digit ∷ []) raw

-- ---- the grammar of an escape

-- digits of a code that is no half of a pair, from the first digit on
code_other : (a b c d : ℕ) → (a == 13) ≡ false → nat_lt a 16 ≡ true → nat_lt b 16 ≡ true → nat_lt c 16 ≡ true → nat_lt d 16 ≡ true
    → (not (is_high_surrogate (a * 4096 + b * 256 + c * 16 + d)) && not (is_low_surrogate (a * 4096 + b * 256 + c * 16 + d))) ≡ true
code_other a b c d n ha hb hc hd = grind (arith, nat_tests)

code_low : (a b c d : ℕ) → (a == 13) ≡ true → nat_lt b 8 ≡ true → nat_lt c 16 ≡ true → nat_lt d 16 ≡ true
    → (not (is_high_surrogate (a * 4096 + b * 256 + c * 16 + d)) && not (is_low_surrogate (a * 4096 + b * 256 + c * 16 + d))) ≡ true
code_low a b c d n hb hc hd = grind (arith, nat_tests)

code_high : (a b c d : ℕ) → (a == 13) ≡ true → nat_lt b 8 ≡ false → nat_lt b 12 ≡ true → nat_lt c 16 ≡ true → nat_lt d 16 ≡ true
    → is_high_surrogate (a * 4096 + b * 256 + c * 16 + d) ≡ true
code_high a b c d n hb hl hc hd = grind (arith, nat_tests)

code_second : (a b c d : ℕ) → (a == 13) ≡ true → (nat_le 12 b && nat_lt b 16) ≡ true → nat_lt c 16 ≡ true → nat_lt d 16 ≡ true
    → is_low_surrogate (a * 4096 + b * 256 + c * 16 + d) ≡ true
code_second a b c d n hb hc hd = grind (arith, nat_tests)

second_low : (a b c d : ℕ) → nat_lt a 16 ≡ true → nat_lt b 16 ≡ true → nat_lt c 16 ≡ true → nat_lt d 16 ≡ true → is_low_surrogate (a * 4096 + b * 256 + c * 16 + d) ≡ true
    → ((a == 13) ≡ true) × ((nat_le 12 b && nat_lt b 16) ≡ true)
second_low a b c d ha hb hc hd h = (grind (arith, nat_tests), grind (arith, nat_tests))

first_high : (a b c d : ℕ) → nat_lt a 16 ≡ true → nat_lt b 16 ≡ true → nat_lt c 16 ≡ true → nat_lt d 16 ≡ true → is_high_surrogate (a * 4096 + b * 256 + c * 16 + d) ≡ true
    → ((a == 13) ≡ true) × (nat_lt b 8 ≡ false) × (nat_lt b 12 ≡ true)
first_high a b c d ha hb hc hd h = (grind (arith, nat_tests), grind (arith, nat_tests), grind (arith, nat_tests))

alone_low : (a b c d : ℕ) → (a == 13) ≡ true → nat_lt b 16 ≡ true → nat_lt c 16 ≡ true → nat_lt d 16 ≡ true
    → (not (is_high_surrogate (a * 4096 + b * 256 + c * 16 + d)) && not (is_low_surrogate (a * 4096 + b * 256 + c * 16 + d))) ≡ true → nat_lt b 8 ≡ true
alone_low a b c d ha hb hc hd h = grind (arith, nat_tests)

below_16 : (b k : ℕ) → k ≤ 16 → nat_lt b k ≡ true → nat_lt b 16 ≡ true
below_16 b k h t = grind (arith, nat_tests)

thirteen : (a : ℕ) → (a == 13) ≡ true → nat_lt a 16 ≡ true
thirteen a t = grind (arith, nat_tests)

within_16 : (b : ℕ) → (nat_le 12 b && nat_lt b 16) ≡ true → nat_lt b 16 ≡ true
within_16 b t = grind (arith, nat_tests)

all_four : (a b c d : Bool) → a ≡ true → b ≡ true → c ≡ true → d ≡ true → (a && (b && (c && d))) ≡ true
all_four a b c d ha hb hc hd = rw (ha, hb, hc, hd) refl

first_of : (a b : Bool) → (a && b) ≡ true → a ≡ true
first_of true b h = refl
first_of false b h = absurd (cc)

second_of : (a b : Bool) → (a && b) ≡ true → b ≡ true
second_of true b h = h
second_of false b h = absurd (cc)

abbrev hex_of : ℕ → ℕ → ℕ → ℕ → Hex
hex_of a b c d = record { first = a; second = b; third = c; fourth = d }

-- a piece more in front
pub more : (p : Piece) (raw : List ℕ) → IsPiece p → IsInside raw → IsInside (print_piece p raw)
more p raw h x = record { pieces = p ∷ x.pieces; valid = (h, x.valid); spelled = ap (print_piece p) x.spelled }

pub nothing : IsInside []
nothing = record { pieces = []; valid = tt; spelled = refl }

code_three : (a : ℕ) → is_d a ≡ false → is_hex_digit a ≡ true → (cs : List ℕ) → Due (is_hex_digit ∷ is_hex_digit ∷ is_hex_digit ∷ []) cs → IsInside (92 ∷ 117 ∷ a ∷ cs)
code_three a n ha [] x = elim x [ ]
code_three a n ha (b ∷ []) x = elim x.1 [ ]
code_three a n ha (b ∷ c ∷ []) x = elim x.1.1 [ ]
code_three a n ha (b ∷ c ∷ d ∷ rest) x =
    more (code (hex_of a b c d)) rest (
      all_four (is_hex_digit a) (is_hex_digit b) (is_hex_digit c) (is_hex_digit d) ha x.0 x.1.0 x.1.1.0,
      code_other (digit_value a) (digit_value b) (digit_value c) (digit_value d) n ha x.0 x.1.0 x.1.1.0,
    )
    x.1.1.1

code_two : (a b : ℕ) → is_d a ≡ true → is_eight_less b ≡ true → (cs : List ℕ) → Due (is_hex_digit ∷ is_hex_digit ∷ []) cs → IsInside (92 ∷ 117 ∷ a ∷ b ∷ cs)
code_two a b ha hb [] x = elim x [ ]
code_two a b ha hb (c ∷ []) x = elim x.1 [ ]
code_two a b ha hb (c ∷ d ∷ rest) x =
    more (code (hex_of a b c d)) rest (
      all_four (is_hex_digit a) (is_hex_digit b) (is_hex_digit c) (is_hex_digit d) (thirteen (digit_value a) ha) (below_16 (digit_value b) 8 (lit≤ tt) hb) x.0 x.1.0,
      code_low (digit_value a) (digit_value b) (digit_value c) (digit_value d) ha hb x.0 x.1.0,
    )
    x.1.1

code_pair : (a b : ℕ) → is_d a ≡ true → is_eight_less b ≡ false → is_high_third b ≡ true → (cs : List ℕ) → Due (is_hex_digit ∷ is_hex_digit ∷ second_half) cs → IsInside (92 ∷ 117 ∷ a ∷ b ∷ cs)
code_pair a b ha nb hb [] x = elim x [ ]
code_pair a b ha nb hb (c ∷ []) x = elim x.1 [ ]
code_pair a b ha nb hb (c ∷ d ∷ []) x = elim x.1.1 [ ]
code_pair a b ha nb hb (c ∷ d ∷ e ∷ []) x = elim x.1.1.1 [ ]
code_pair a b ha nb hb (c ∷ d ∷ e ∷ f ∷ []) x = elim x.1.1.1.1 [ ]
code_pair a b ha nb hb (c ∷ d ∷ e ∷ f ∷ i ∷ []) x = elim x.1.1.1.1.1 [ ]
code_pair a b ha nb hb (c ∷ d ∷ e ∷ f ∷ i ∷ j ∷ []) x = elim x.1.1.1.1.1.1 [ ]
code_pair a b ha nb hb (c ∷ d ∷ e ∷ f ∷ i ∷ j ∷ k ∷ []) x = elim x.1.1.1.1.1.1.1 [ ]
code_pair a b ha nb hb (c ∷ d ∷ e ∷ f ∷ i ∷ j ∷ k ∷ l ∷ rest) x =
    let P : ℕ → ℕ → Type 0 = λ s u. IsInside (92 ∷ 117 ∷ a ∷ b ∷ c ∷ d ∷ s ∷ u ∷ i ∷ j ∷ k ∷ l ∷ rest) in
    let there : P 92 117 = more (pair (hex_of a b c d) (hex_of i j k l)) rest (
      (
        all_four (is_hex_digit a) (is_hex_digit b) (is_hex_digit c) (is_hex_digit d) (thirteen (digit_value a) ha) (below_16 (digit_value b) 12 (lit≤ tt) hb) x.0 x.1.0,
        all_four (is_hex_digit i) (is_hex_digit j) (is_hex_digit k) (is_hex_digit l) (thirteen (digit_value i) x.1.1.1.1.0) (within_16 (digit_value j) x.1.1.1.1.1.0) x.1.1.1.1.1.1.0 x.1.1.1.1.1.1.1.0,
      ),
      (
        code_high (digit_value a) (digit_value b) (digit_value c) (digit_value d) ha nb hb x.0 x.1.0,
        code_second (digit_value i) (digit_value j) (digit_value k) (digit_value l) x.1.1.1.1.0 x.1.1.1.1.1.0 x.1.1.1.1.1.1.0 x.1.1.1.1.1.1.1.0,
      ),
    )
    x.1.1.1.1.1.1.1.1 in
    subst (λ u. P e u) (sym (eq_is f 117 x.1.1.1.0)) (subst (λ s. P s 117) (sym (eq_is e 92 x.1.1.0)) there)

behind_d : (a : ℕ) → is_d a ≡ true → (cs : List ℕ) → AfterDTail cs → IsInside (92 ∷ 117 ∷ a ∷ cs)
behind_d a ha [] x = elim x [ ]
behind_d a ha (b ∷ cs) (inl x) = code_two a b ha x.0 cs x.1
behind_d a ha (b ∷ cs) (inr x) = code_pair a b ha x.0 x.1 cs x.2

behind_u : (cs : List ℕ) → CodeTail cs → IsInside (92 ∷ 117 ∷ cs)
behind_u [] x = elim x [ ]
behind_u (a ∷ cs) (inl x) = behind_d a x.0 cs x.1
behind_u (a ∷ cs) (inr x) = code_three a x.0 x.1 cs x.2

behind_solidus : (cs : List ℕ) → EscapeTail cs → IsInside (92 ∷ cs)
behind_solidus [] x = elim x [ ]
behind_solidus (c ∷ cs) (inl x) = subst (λ u. IsInside (92 ∷ u ∷ cs)) (sym x.0) (behind_u cs x.1)
behind_solidus (c ∷ cs) (inr x) = more (short c) cs x.0 x.1

-- ---- what stands behind a reverse solidus in the grammar

hex_all : (h : Hex) → is_hex h ≡ true → (is_hex_digit h.first ≡ true) × (is_hex_digit h.second ≡ true) × (is_hex_digit h.third ≡ true) × (is_hex_digit h.fourth ≡ true)
hex_all h x =
    let y : (is_hex_digit h.second && (is_hex_digit h.third && is_hex_digit h.fourth)) ≡ true = second_of (is_hex_digit h.first) _ x in
    let z : (is_hex_digit h.third && is_hex_digit h.fourth) ≡ true = second_of (is_hex_digit h.second) _ y in
    (first_of (is_hex_digit h.first) _ x, first_of (is_hex_digit h.second) _ y, first_of (is_hex_digit h.third) _ z, second_of (is_hex_digit h.third) _ z)

tail_code : (b : Bool) (h : Hex) (raw : List ℕ) → is_d h.first ≡ b → is_hex h ≡ true
    → (not (is_high_surrogate (hex_value h)) && not (is_low_surrogate (hex_value h))) ≡ true → IsInside raw
    → CodeTail (h.first ∷ h.second ∷ h.third ∷ h.fourth ∷ raw)
tail_code true h raw e x alone rest =
    let all = hex_all h x in
    inl (e, inl (alone_low (digit_value h.first) (digit_value h.second) (digit_value h.third) (digit_value h.fourth) e all.1 all.2 all.3 alone, (all.2, (all.3, rest))))
tail_code false h raw e x alone rest =
    let all = hex_all h x in
    inr (e, all.0, (all.1, (all.2, (all.3, rest))))

tail_pair : (h l : Hex) (raw : List ℕ) → is_hex h ≡ true → is_hex l ≡ true → is_high_surrogate (hex_value h) ≡ true → is_low_surrogate (hex_value l) ≡ true → IsInside raw
    → CodeTail (h.first ∷ h.second ∷ h.third ∷ h.fourth ∷ 92 ∷ 117 ∷ l.first ∷ l.second ∷ l.third ∷ l.fourth ∷ raw)
tail_pair h l raw x y high low rest =
    let first = hex_all h x in
    let second = hex_all l y in
    let up = first_high (digit_value h.first) (digit_value h.second) (digit_value h.third) (digit_value h.fourth) first.0 first.1 first.2 first.3 high in
    let down = second_low (digit_value l.first) (digit_value l.second) (digit_value l.third) (digit_value l.fourth) second.0 second.1 second.2 second.3 low in
    inl (up.0, inr (up.1, up.2, (first.2, (first.3, (refl, (refl, (down.0, (down.1, (second.2, (second.3, rest))))))))))

-- ---- a byte more

abbrev pub TailOf : Option Part → List ℕ → Type 0
TailOf None raw = ⊥
TailOf (Some p) raw = Tail p raw

if_forth : (t : Bool) (p : Part) (raw : List ℕ) → TailOf (part_if t p) raw → (t ≡ true) × Tail p raw
if_forth true p raw x = (refl, x)
if_forth false p raw x = elim x [ ]

if_back : (t : Bool) (p : Part) (raw : List ℕ) → t ≡ true → Tail p raw → TailOf (part_if t p) raw
if_back true p raw h x = x
if_back false p raw h x = absurd (cc)

cond_forth : (t : Bool) (x y : Option Part) (raw : List ℕ) → TailOf (cond t x y) raw → ((t ≡ true) × TailOf x raw) ⊎ ((t ≡ false) × TailOf y raw)
cond_forth true x y raw h = inl (refl, h)
cond_forth false x y raw h = inr (refl, h)

cond_true : (t : Bool) (x y : Option Part) (raw : List ℕ) → t ≡ true → TailOf x raw → TailOf (cond t x y) raw
cond_true true x y raw e h = h
cond_true false x y raw e h = absurd (cc)

cond_false : (t : Bool) (x y : Option Part) (raw : List ℕ) → t ≡ false → TailOf y raw → TailOf (cond t x y) raw
cond_false true x y raw e h = absurd (cc)
cond_false false x y raw e h = h

letter_not_u : (c : ℕ) (b : Bool) → (c == 117) ≡ b → is_letter c ≡ true → b ≡ false
letter_not_u c false e h = refl
letter_not_u c true e h = absurd (clash (sym (ap is_letter (eq_is c 117 e)) ∙ h))
  where
    clash : false ≡ true → ⊥
    clash x = cc

plain_byte : (c : ℕ) → (c == 92) ≡ false → (c == 34 || nat_lt c 32) ≡ false → (32 ≤ c) × (c ≢ 34) × (c ≢ 92)
plain_byte c s h = (grind (arith, nat_tests), grind (arith, nat_tests), grind (arith, nat_tests))

plain_tests : (c : ℕ) → 32 ≤ c → c ≢ 34 → c ≢ 92 → ((c == 92) ≡ false) × ((c == 34 || nat_lt c 32) ≡ false)
plain_tests c l q s = (grind (arith, nat_tests), grind (arith, nat_tests))

pub part_forth : (p : Part) (c : ℕ) (raw : List ℕ) → TailOf (part_next p c) raw → Tail p (c ∷ raw)
part_forth Inside c raw x =
    elim (cond_forth (c == 92) (Some Escape) _ raw x) [
      | inl y ↦ subst (λ d. IsInside (d ∷ raw)) (sym (eq_is c 92 y.0)) (behind_solidus raw y.1)
      | inr y ↦ elim (cond_forth (c == 34 || nat_lt c 32) None (Some Inside) raw y.1) [
        | inl z ↦ absurd z.1
        | inr z ↦ more (unescaped c) raw (plain_byte c y.0 z.0) z.1
      ]
    ]
part_forth Escape c raw x =
    elim (cond_forth (c == 117) (Some CodeDue) _ raw x) [ inl y ↦ inl (eq_is c 117 y.0, y.1) | inr y ↦ inr (if_forth (is_letter c) Inside raw y.1) ]
part_forth CodeDue c raw x =
    elim (cond_forth (is_d c) (Some AfterD) _ raw x) [ inl y ↦ inl y | inr y ↦ let z = if_forth (is_hex_digit c) Three raw y.1 in inr (y.0, z.0, z.1) ]
part_forth AfterD c raw x =
    elim (cond_forth (is_eight_less c) (Some Two) _ raw x) [ inl y ↦ inl y | inr y ↦ let z = if_forth (is_high_third c) HighTwo raw y.1 in inr (y.0, z.0, z.1) ]
part_forth Three c raw x = if_forth (is_hex_digit c) Two raw x
part_forth Two c raw x = if_forth (is_hex_digit c) One raw x
part_forth One c raw x = if_forth (is_hex_digit c) Inside raw x
part_forth HighTwo c raw x = if_forth (is_hex_digit c) HighOne raw x
part_forth HighOne c raw x = if_forth (is_hex_digit c) LowEscape raw x
part_forth LowEscape c raw x = if_forth (c == 92) LowMark raw x
part_forth LowMark c raw x = if_forth (c == 117) LowD raw x
part_forth LowD c raw x = if_forth (is_d c) LowDigit raw x
part_forth LowDigit c raw x = if_forth (is_low_third c) Two raw x

inside_escape : (c : ℕ) (raw tail : List ℕ) → c ∷ raw ≡ 92 ∷ tail → EscapeTail tail → TailOf (inside_next c) raw
inside_escape c raw tail e x =
    let is : c ≡ 92 = cc in
    let same : tail ≡ raw = cc in
    cond_true (c == 92) (Some Escape) _ raw (eq_of c 92 is) (subst EscapeTail same x)

inside_back : (c : ℕ) (raw : List ℕ) (pieces : List Piece) → ArePieces pieces → c ∷ raw ≡ print_pieces pieces → TailOf (inside_next c) raw
inside_back c raw [] v e = absurd (cc)
inside_back c raw (unescaped d ∷ ps) v e =
    let is : d ≡ c = cc in
    let tests = plain_tests c (subst (λ x. 32 ≤ x) is v.0.0) (subst (λ x. x ≢ 34) is v.0.1) (subst (λ x. x ≢ 92) is v.0.2) in
    let same : raw ≡ print_pieces ps = cc in
    cond_false (c == 92) (Some Escape) _ raw tests.0 (cond_false (c == 34 || nat_lt c 32) None (Some Inside) raw tests.1 (record { pieces = ps; valid = v.1; spelled = same }))
inside_back c raw (short d ∷ ps) v e =
    inside_escape c raw (d ∷ print_pieces ps) e (inr (v.0, record { pieces = ps; valid = v.1; spelled = refl }))
inside_back c raw (code h ∷ ps) v e =
    inside_escape c raw (117 ∷ h.first ∷ h.second ∷ h.third ∷ h.fourth ∷ print_pieces ps) e
    (inl (refl, tail_code (is_d h.first) h (print_pieces ps) refl v.0.0 v.0.1 (record { pieces = ps; valid = v.1; spelled = refl })))
inside_back c raw (pair h l ∷ ps) v e =
    inside_escape c raw (117 ∷ h.first ∷ h.second ∷ h.third ∷ h.fourth ∷ 92 ∷ 117 ∷ l.first ∷ l.second ∷ l.third ∷ l.fourth ∷ print_pieces ps) e
    (inl (refl, tail_pair h l (print_pieces ps) v.0.0.0 v.0.0.1 v.0.1.0 v.0.1.1 (record { pieces = ps; valid = v.1; spelled = refl })))

pub part_back : (p : Part) (c : ℕ) (raw : List ℕ) → Tail p (c ∷ raw) → TailOf (part_next p c) raw
part_back Inside c raw x = inside_back c raw x.pieces x.valid x.spelled
part_back Escape c raw (inl x) = cond_true (c == 117) (Some CodeDue) _ raw (eq_of c 117 x.0) x.1
part_back Escape c raw (inr x) = cond_false (c == 117) (Some CodeDue) _ raw (letter_not_u c (c == 117) refl x.0) (if_back (is_letter c) Inside raw x.0 x.1)
part_back CodeDue c raw (inl x) = cond_true (is_d c) (Some AfterD) _ raw x.0 x.1
part_back CodeDue c raw (inr x) = cond_false (is_d c) (Some AfterD) _ raw x.0 (if_back (is_hex_digit c) Three raw x.1 x.2)
part_back AfterD c raw (inl x) = cond_true (is_eight_less c) (Some Two) _ raw x.0 x.1
part_back AfterD c raw (inr x) = cond_false (is_eight_less c) (Some Two) _ raw x.0 (if_back (is_high_third c) HighTwo raw x.1 x.2)
part_back Three c raw x = if_back (is_hex_digit c) Two raw x.0 x.1
part_back Two c raw x = if_back (is_hex_digit c) One raw x.0 x.1
part_back One c raw x = if_back (is_hex_digit c) Inside raw x.0 x.1
part_back HighTwo c raw x = if_back (is_hex_digit c) HighOne raw x.0 x.1
part_back HighOne c raw x = if_back (is_hex_digit c) LowEscape raw x.0 x.1
part_back LowEscape c raw x = if_back (c == 92) LowMark raw x.0 x.1
part_back LowMark c raw x = if_back (c == 117) LowD raw x.0 x.1
part_back LowD c raw x = if_back (is_d c) LowDigit raw x.0 x.1
part_back LowDigit c raw x = if_back (is_low_third c) Two raw x.0 x.1

-- a string ends between two characters
pub part_end : (p : Part) → Tail p [] → p ≡ Inside
part_end Inside x = refl
part_end Escape x = elim x [ ]
part_end CodeDue x = elim x [ ]
part_end AfterD x = elim x [ ]
part_end Three x = elim x [ ]
part_end Two x = elim x [ ]
part_end One x = elim x [ ]
part_end HighTwo x = elim x [ ]
part_end HighOne x = elim x [ ]
part_end LowEscape x = elim x [ ]
part_end LowMark x = elim x [ ]
part_end LowD x = elim x [ ]
part_end LowDigit x = elim x [ ]

quote_not : (c : ℕ) (b : Bool) (raw : List ℕ) → (c == 34) ≡ b → TailOf (inside_next c) raw → b ≡ false
quote_not c false raw e x = refl
quote_not c true raw e x =
    let none : TailOf (inside_next 34) raw = subst (λ d. TailOf (inside_next d) raw) (eq_is c 34 e) x in
    absurd none

-- a quotation mark that closes is no byte of the inside
pub closes_not : (p : Part) (c : ℕ) (raw : List ℕ) → Tail p (c ∷ raw) → closes p c ≡ false
closes_not Inside c raw x = quote_not c (c == 34) raw refl (part_back Inside c raw x)
closes_not Escape c raw x = refl
closes_not CodeDue c raw x = refl
closes_not AfterD c raw x = refl
closes_not Three c raw x = refl
closes_not Two c raw x = refl
closes_not One c raw x = refl
closes_not HighTwo c raw x = refl
closes_not HighOne c raw x = refl
closes_not LowEscape c raw x = refl
closes_not LowMark c raw x = refl
closes_not LowD c raw x = refl
closes_not LowDigit c raw x = refl
