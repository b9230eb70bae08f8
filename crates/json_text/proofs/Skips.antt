-- Skipping a value leaves what stands behind it.
use Rattle.std.proofs.Common.{◌≡◌, ◌≢◌, ℕ, zero, suc, ◌<◌, Bool, true, false, cond, ◌&&◌, ◌==◌, nat_lt, List, [], ◌∷◌, ◌++◌, length, drop, get_or, ◌+◌, add-one, one-add, drop-cons, refl, sym, ◌∙◌, ap, subst, arith}
use Rattle.std.specs.Char.{digit_value}
use Rattle.std.proofs.lemmas.Bool.Decides.{nat_tests}
use Rattle.text_view.specs.JsonString.{Hex, is_hex, Piece, unescaped, short, code, pair, ArePieces, print_pieces}
use Rattle.json_text.specs.Grammar.{Json, null, truth, number, string, empty_array, array, empty_object, object, Element, element, Elements, no_elements, more_elements, Member, member, Members, no_members, more_members, Number, unsigned, negative, print_number, IsNumber, Int, zero_int, nonzero_int, print_int, IsInt, Frac, no_frac, frac, print_frac, IsFrac, Exp, no_exp, unsigned_exp, signed_exp, print_exp, IsExp, AreDigits, print, print_element, print_elements, print_member, print_members, IsValue, IsElement, AreElements, IsMember, AreMembers, AreBlanks, IsInside, is_blank, is_digit, is_nonzero_digit, is_e, is_sign}
use Rattle.std.specs.List.{prefix_len}
use Rattle.json_text.specs.Runs.{is_plain}
use Rattle.json_text.proofs.Reading.{drop_more}
use Rattle.json_text.specs.Skipped.{string_rest, is_open, is_close, outside, inside, skip, is_stop, token_rest, value_rest}

-- ---- strings

skip_string : (n : ℕ) (escaped : Bool) (cs : List ℕ) → skip n (inside escaped) cs ≡ skip n outside (string_rest escaped cs)
skip_string n escaped [] = refl
skip_string n true (c ∷ cs) = skip_string n false cs
skip_string n false (c ∷ cs) = by_quote (c == 34) (skip_string n (c == 92) cs)
  where
    by_quote : (b : Bool) → skip n (inside (c == 92)) cs ≡ skip n outside (string_rest (c == 92) cs)
        → cond b (skip n outside cs) (skip n (inside (c == 92)) cs) ≡ skip n outside (cond b cs (string_rest (c == 92) cs))
    by_quote true e = refl
    by_quote false e = e

string_byte : (c : ℕ) (cs : List ℕ) → (c == 34) ≡ false → (c == 92) ≡ false → string_rest false (c ∷ cs) ≡ string_rest false cs
string_byte c cs q s = rw (q, s) refl

plain_quote : (c : ℕ) → is_plain c ≡ true → (c == 34) ≡ false
plain_quote c h = grind (arith, nat_tests)

plain_solidus : (c : ℕ) → is_plain c ≡ true → (c == 92) ≡ false
plain_solidus c h = grind (arith, nat_tests)

pub no_mark : (c : ℕ) → c ≢ 34 → c ≢ 92 → ((c == 34) ≡ false) × ((c == 92) ≡ false)
no_mark c q s = (grind (arith, nat_tests), grind (arith, nat_tests))

pub hex_no_mark : (c : ℕ) → nat_lt (digit_value c) 16 ≡ true → ((c == 34) ≡ false) × ((c == 92) ≡ false)
hex_no_mark c h = (by_value 34 (c == 34) refl (λ x. clash x), by_value 92 (c == 92) refl (λ x. clash x))
  where
    clash : false ≡ true → ⊥
    clash x = cc

    eq_is : (a b : ℕ) → (a == b) ≡ true → a ≡ b
    eq_is a b x = grind (arith, nat_tests)

    by_value : (d : ℕ) (b : Bool) → (c == d) ≡ b → (nat_lt (digit_value d) 16 ≡ true → ⊥) → b ≡ false
    by_value d false e f = refl
    by_value d true e f = absurd (f (subst (λ x. nat_lt (digit_value x) 16 ≡ true) (eq_is c d e) h))

four : (h : Hex) (cs : List ℕ) → is_hex h ≡ true → string_rest false (h.first ∷ h.second ∷ h.third ∷ h.fourth ∷ cs) ≡ string_rest false cs
four h cs x =
    let a = hex_no_mark h.first (and_first (nat_lt (digit_value h.first) 16) _ x) in
    let y : (nat_lt (digit_value h.second) 16 && (nat_lt (digit_value h.third) 16 && nat_lt (digit_value h.fourth) 16)) ≡ true = and_second (nat_lt (digit_value h.first) 16) _ x in
    let z : (nat_lt (digit_value h.third) 16 && nat_lt (digit_value h.fourth) 16) ≡ true = and_second (nat_lt (digit_value h.second) 16) _ y in
    let b = hex_no_mark h.second (and_first (nat_lt (digit_value h.second) 16) _ y) in
    let c = hex_no_mark h.third (and_first (nat_lt (digit_value h.third) 16) _ z) in
    let d = hex_no_mark h.fourth (and_second (nat_lt (digit_value h.third) 16) _ z) in
    string_byte h.first _ a.0 a.1 ∙ string_byte h.second _ b.0 b.1 ∙ string_byte h.third _ c.0 c.1 ∙ string_byte h.fourth cs d.0 d.1
  where
    and_first : (p q : Bool) → (p && q) ≡ true → p ≡ true
    and_first true q e = refl
    and_first false q e = absurd (cc)

    and_second : (p q : Bool) → (p && q) ≡ true → q ≡ true
    and_second true q e = e
    and_second false q e = absurd (cc)

pieces_rest : (ps : List Piece) (rest : List ℕ) → ArePieces ps → string_rest false (print_pieces ps ++ 34 ∷ rest) ≡ rest
pieces_rest [] rest h = refl
pieces_rest (unescaped c ∷ ps) rest h =
    let m = no_mark c h.0.1 h.0.2 in
    string_byte c _ m.0 m.1 ∙ pieces_rest ps rest h.1
pieces_rest (short c ∷ ps) rest h = pieces_rest ps rest h.1
pieces_rest (code x ∷ ps) rest h = four x (print_pieces ps ++ 34 ∷ rest) h.0.0 ∙ pieces_rest ps rest h.1
pieces_rest (pair x y ∷ ps) rest h =
    four x (92 ∷ 117 ∷ y.first ∷ y.second ∷ y.third ∷ y.fourth ∷ (print_pieces ps ++ 34 ∷ rest)) h.0.0.0
    ∙ four y (print_pieces ps ++ 34 ∷ rest) h.0.0.1 ∙ pieces_rest ps rest h.1

pub inside_rest : (raw rest : List ℕ) → IsInside raw → string_rest false (raw ++ 34 ∷ rest) ≡ rest
inside_rest raw rest x = ap (λ l. string_rest false (l ++ 34 ∷ rest)) x.spelled ∙ pieces_rest x.pieces rest x.valid

-- a run of bytes that stand for themselves
plain_step : (c : ℕ) (cs : List ℕ) (k : ℕ) (b : Bool) → is_plain c ≡ b → string_rest false cs ≡ string_rest false (drop k cs)
    → string_rest false (c ∷ cs) ≡ string_rest false (drop (cond b (1 + k) 0) (c ∷ cs))
plain_step c cs k true h e =
    string_byte c cs (plain_quote c h) (plain_solidus c h) ∙ e ∙ ap (λ n. string_rest false (drop n (c ∷ cs))) (sym (one-add k))
plain_step c cs k false h e = refl

plain_run : (cs : List ℕ) → string_rest false cs ≡ string_rest false (drop (prefix_len is_plain cs) cs)
plain_run [] = refl
plain_run (c ∷ cs) = plain_step c cs (prefix_len is_plain cs) (is_plain c) refl (plain_run cs)

pub string_run : (bytes : List ℕ) (from at : ℕ) → at ≡ from + prefix_len is_plain (drop from bytes) → string_rest false (drop at bytes) ≡ string_rest false (drop from bytes)
string_run bytes from at e =
    ap (λ k. string_rest false (drop k bytes)) e ∙ ap (string_rest false) (sym (drop_more bytes from (prefix_len is_plain (drop from bytes)))) ∙ sym (plain_run (drop from bytes))

pub escaped_byte : (bytes : List ℕ) (at : ℕ) → at < length bytes → string_rest false (drop (at + 1) bytes) ≡ string_rest true (drop at bytes)
escaped_byte bytes at h = ap (λ k. string_rest false (drop k bytes)) (add-one at) ∙ sym (ap (string_rest true) (drop-cons bytes at 0 h))

-- ---- bytes of tokens and blanks

-- neither a quotation mark nor a bracket
record Plain (c : ℕ) : Type 0 where
  quote : (c == 34) ≡ false
  opened : is_open c ≡ false
  closed : is_close c ≡ false

skip_plain : (n c : ℕ) (cs : List ℕ) → Plain c → skip n outside (c ∷ cs) ≡ skip n outside cs
skip_plain n c cs p = rw (p.quote, p.opened, p.closed) refl

blank_plain : (c : ℕ) → is_blank c ≡ true → Plain c
blank_plain c h = record { quote = grind (arith, nat_tests); opened = grind (arith, nat_tests); closed = grind (arith, nat_tests) }

digit_plain : (c : ℕ) → is_digit c ≡ true → Plain c
digit_plain c h = record { quote = grind (arith, nat_tests); opened = grind (arith, nat_tests); closed = grind (arith, nat_tests) }

e_plain : (c : ℕ) → is_e c ≡ true → Plain c
e_plain c h = record { quote = grind (arith, nat_tests); opened = grind (arith, nat_tests); closed = grind (arith, nat_tests) }

sign_plain : (c : ℕ) → is_sign c ≡ true → Plain c
sign_plain c h = record { quote = grind (arith, nat_tests); opened = grind (arith, nat_tests); closed = grind (arith, nat_tests) }

digit_goes : (c : ℕ) → is_digit c ≡ true → is_stop c ≡ false
digit_goes c h = grind (arith, nat_tests)

e_goes : (c : ℕ) → is_e c ≡ true → is_stop c ≡ false
e_goes c h = grind (arith, nat_tests)

sign_goes : (c : ℕ) → is_sign c ≡ true → is_stop c ≡ false
sign_goes c h = grind (arith, nat_tests)

pub nonzero_digit : (c : ℕ) → is_nonzero_digit c ≡ true → is_digit c ≡ true
nonzero_digit c h = grind (arith, nat_tests)

skip_blanks_all : (n : ℕ) (bs rest : List ℕ) → AreBlanks bs → skip n outside (bs ++ rest) ≡ skip n outside rest
skip_blanks_all n [] rest h = refl
skip_blanks_all n (b ∷ bs) rest h = skip_plain n b (bs ++ rest) (blank_plain b h.0) ∙ skip_blanks_all n bs rest h.1

-- ---- numbers: every byte is plain and no stop

-- passing over a byte of a token changes nothing
record Passes (F : List ℕ → List ℕ) : Type 0 where
  digit : (c : ℕ) (cs : List ℕ) → is_digit c ≡ true → F (c ∷ cs) ≡ F cs
  mark : (c : ℕ) (cs : List ℕ) → is_e c ≡ true → F (c ∷ cs) ≡ F cs
  sign : (c : ℕ) (cs : List ℕ) → is_sign c ≡ true → F (c ∷ cs) ≡ F cs
  point : (cs : List ℕ) → F (46 ∷ cs) ≡ F cs

skip_passes : (n : ℕ) → Passes (skip n outside)
skip_passes n = record {
  digit = λ c cs h. skip_plain n c cs (digit_plain c h);
  mark = λ c cs h. skip_plain n c cs (e_plain c h);
  sign = λ c cs h. skip_plain n c cs (sign_plain c h);
  point = λ cs. refl;
}

token_goes : (c : ℕ) (cs : List ℕ) → is_stop c ≡ false → token_rest (c ∷ cs) ≡ token_rest cs
token_goes c cs h = ap (λ b. cond b (c ∷ cs) (token_rest cs)) h

token_passes : Passes token_rest
token_passes = record {
  digit = λ c cs h. token_goes c cs (digit_goes c h);
  mark = λ c cs h. token_goes c cs (e_goes c h);
  sign = λ c cs h. token_goes c cs (sign_goes c h);
  point = λ cs. refl;
}

module _ (F : List ℕ → List ℕ) (p : Passes F) where
  digits_pass : (ds rest : List ℕ) → AreDigits ds → F (ds ++ rest) ≡ F rest
  digits_pass [] rest h = refl
  digits_pass (d ∷ ds) rest h = p.digit d (ds ++ rest) h.0 ∙ digits_pass ds rest h.1

  exp_pass : (e : Exp) (rest : List ℕ) → IsExp e → F (print_exp e rest) ≡ F rest
  exp_pass no_exp rest h = refl
  exp_pass (unsigned_exp e d ds) rest h = p.mark e _ h.0 ∙ p.digit d _ h.1 ∙ digits_pass ds rest h.2
  exp_pass (signed_exp e s d ds) rest h = p.mark e _ h.0 ∙ p.sign s _ h.1 ∙ p.digit d _ h.2 ∙ digits_pass ds rest h.3

  frac_pass : (f : Frac) (rest : List ℕ) → IsFrac f → F (print_frac f rest) ≡ F rest
  frac_pass no_frac rest h = refl
  frac_pass (frac d ds) rest h = p.point _ ∙ p.digit d _ h.0 ∙ digits_pass ds rest h.1

  int_pass : (i : Int) (rest : List ℕ) → IsInt i → F (print_int i rest) ≡ F rest
  int_pass zero_int rest h = p.digit 48 rest refl
  int_pass (nonzero_int d ds) rest h = p.digit d _ (nonzero_digit d h.0) ∙ digits_pass ds rest h.1

  number_pass : (n : Number) (rest : List ℕ) → IsNumber n → F (print_number n rest) ≡ F rest
  number_pass (unsigned i f e) rest h = int_pass i _ h.0 ∙ frac_pass f _ h.1 ∙ exp_pass e rest h.2
  number_pass (negative i f e) rest h = p.sign 45 _ refl ∙ int_pass i _ h.0 ∙ frac_pass f _ h.1 ∙ exp_pass e rest h.2

-- ---- values between brackets

-- what is left behind a closing bracket
abbrev pub closed : ℕ → List ℕ → List ℕ
closed zero rest = rest
closed (suc m) rest = skip m outside rest

close_skips : (n : ℕ) (rest : List ℕ) → (skip n outside (93 ∷ rest) ≡ closed n rest) × (skip n outside (125 ∷ rest) ≡ closed n rest)
close_skips zero rest = (refl, refl)
close_skips (suc m) rest = (refl, refl)

skip_quoted : (n : ℕ) (raw rest : List ℕ) → IsInside raw → skip n outside (34 ∷ (raw ++ 34 ∷ rest)) ≡ skip n outside rest
skip_quoted n raw rest h = skip_string n false (raw ++ 34 ∷ rest) ∙ ap (skip n outside) (inside_rest raw rest h)

mutual
  unfolding print IsValue

  pub value_skipped : (v : Json) (l d n : ℕ) (rest : List ℕ) → IsValue l d v → skip n outside (print v rest) ≡ skip n outside rest
  value_skipped null l d n rest h = refl
  value_skipped (truth true) l d n rest h = refl
  value_skipped (truth false) l d n rest h = refl
  value_skipped (number x) l d n rest h = number_pass (skip n outside) (skip_passes n) x rest h
  value_skipped (string raw) l d n rest h = skip_quoted n raw rest h
  value_skipped (empty_array b) l d n rest h = skip_blanks_all (suc n) b (93 ∷ rest) h.1
  value_skipped (array x xs) l d n rest h = element_skipped x l (suc d) (suc n) (print_elements xs rest) h.1 ∙ elements_skipped xs l (suc d) (suc n) rest h.2
  value_skipped (empty_object b) l d n rest h = skip_blanks_all (suc n) b (125 ∷ rest) h.1
  value_skipped (object m ms) l d n rest h = member_skipped m l (suc d) (suc n) (print_members ms rest) h.1 ∙ members_skipped ms l (suc d) (suc n) rest h.2

  pub element_skipped : (x : Element) (l d n : ℕ) (rest : List ℕ) → IsElement l d x → skip n outside (print_element x rest) ≡ skip n outside rest
  element_skipped (element before v behind) l d n rest h =
      skip_blanks_all n before (print v (behind ++ rest)) h.0 ∙ value_skipped v l d n (behind ++ rest) h.1 ∙ skip_blanks_all n behind rest h.2

  pub elements_skipped : (xs : Elements) (l d n : ℕ) (rest : List ℕ) → AreElements l d xs → skip n outside (print_elements xs rest) ≡ closed n rest
  elements_skipped no_elements l d n rest h = (close_skips n rest).0
  elements_skipped (more_elements x xs) l d n rest h = element_skipped x l d n (print_elements xs rest) h.0 ∙ elements_skipped xs l d n rest h.1

  pub member_skipped : (m : Member) (l d n : ℕ) (rest : List ℕ) → IsMember l d m → skip n outside (print_member m rest) ≡ skip n outside rest
  member_skipped (member before name behind x) l d n rest h =
      skip_blanks_all n before _ h.0 ∙ skip_quoted n name (behind ++ 58 ∷ print_element x rest) h.1
      ∙ skip_blanks_all n behind (58 ∷ print_element x rest) h.2 ∙ element_skipped x l d n rest h.3

  pub members_skipped : (ms : Members) (l d n : ℕ) (rest : List ℕ) → AreMembers l d ms → skip n outside (print_members ms rest) ≡ closed n rest
  members_skipped no_members l d n rest h = (close_skips n rest).1
  members_skipped (more_members m ms) l d n rest h = member_skipped m l d n (print_members ms rest) h.0 ∙ members_skipped ms l d n rest h.1

-- ---- a value in front

-- a number or a word may end before these bytes
abbrev pub Stops : List ℕ → Type 0
Stops [] = Unit {0}
Stops (c ∷ cs) = is_stop c ≡ true

stopped : (rest : List ℕ) → Stops rest → token_rest rest ≡ rest
stopped [] h = refl
stopped (c ∷ cs) h = ap (λ b. cond b (c ∷ cs) (token_rest cs)) h

number_value : (n : Number) (rest : List ℕ) → IsNumber n → value_rest (print_number n rest) ≡ token_rest (print_number n rest)
unfolding value_rest
number_value (unsigned zero_int f e) rest h = refl
number_value (unsigned (nonzero_int d ds) f e) rest h =
    let p = digit_plain d (nonzero_digit d h.0.0) in
    rw (p.quote, p.opened) refl
number_value (negative i f e) rest h = refl

pub value_passed : (v : Json) (l d : ℕ) (rest : List ℕ) → IsValue l d v → Stops rest → value_rest (print v rest) ≡ rest
unfolding print IsValue value_rest
value_passed null l d rest h s = stopped rest s
value_passed (truth true) l d rest h s = stopped rest s
value_passed (truth false) l d rest h s = stopped rest s
value_passed (number n) l d rest h s = number_value n rest h ∙ number_pass token_rest token_passes n rest h ∙ stopped rest s
value_passed (string raw) l d rest h s = inside_rest raw rest h
value_passed (empty_array b) l d rest h s = skip_blanks_all 0 b (93 ∷ rest) h.1
value_passed (array x xs) l d rest h s = element_skipped x l (suc d) 0 (print_elements xs rest) h.1 ∙ elements_skipped xs l (suc d) 0 rest h.2
value_passed (empty_object b) l d rest h s = skip_blanks_all 0 b (125 ∷ rest) h.1
value_passed (object m ms) l d rest h s = member_skipped m l (suc d) 0 (print_members ms rest) h.1 ∙ members_skipped ms l (suc d) 0 rest h.2

-- a string between brackets was passed over
pub quote_passed : (bytes left : List ℕ) (n at end : ℕ) → at < length bytes → get_or bytes at 0 ≡ 34 → drop end bytes ≡ string_rest false (drop (at + 1) bytes)
    → skip n outside (drop at bytes) ≡ left → skip n outside (drop end bytes) ≡ left
quote_passed bytes left n at end l q e h =
    let front : drop at bytes ≡ 34 ∷ drop (suc at) bytes = drop-cons bytes at 0 l ∙ ap (λ c. c ∷ drop (suc at) bytes) q in
    let rest : drop end bytes ≡ string_rest false (drop (suc at) bytes) = rw add-one at e in
    ap (skip n outside) rest ∙ sym (skip_string n false (drop (suc at) bytes)) ∙ ap (skip n outside) (sym front) ∙ h
