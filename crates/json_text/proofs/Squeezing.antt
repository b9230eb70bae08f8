-- A value's bytes without its blanks.
use Rattle.std.proofs.Common.{◌≡◌, ℕ, zero, suc, ◌+◌, ◌-◌, ◌<◌, ◌≤◌, Bool, true, false, cond, ◌&&◌, ◌==◌, nat_lt, List, [], ◌∷◌, ◌++◌, length, take, drop, get_or, add-one, drop-cons, append_assoc, length-append, length-drop, ⊎_elim, refl, sym, ◌∙◌, ap, subst, arith}
use Rattle.std.specs.Char.{digit_value}
use Rattle.std.specs.Prelude.{slice_range}
use Rattle.std.specs.List.{prefix_len}
use Rattle.std.specs.Str.{IsUtf8, IsCharBoundary}
use Rattle.std.proofs.Math.Seq.{take-append_seam}
use Rattle.std.proofs.lemmas.Bool.{cases_lt}
use Rattle.std.proofs.lemmas.List.{get_or-drop, take-append-le}
use Rattle.std.proofs.lemmas.List.Sums.{prefix_len_stops, prefix_len_passes}
use Rattle.std.proofs.lemmas.Str.{IsCharBoundary-after_ascii}
use Rattle.std.proofs.lemmas.Bool.Decides.{nat_tests}
use Rattle.text_view.specs.JsonString.{Hex, is_hex, Piece, unescaped, short, code, pair, ArePieces, print_pieces}
use Rattle.json_text.specs.Grammar.{Json, null, truth, number, string, empty_array, array, empty_object, object, Element, element, Elements, no_elements, more_elements, Member, member, Members, no_members, more_members, Number, unsigned, negative, print_number, IsNumber, Int, zero_int, nonzero_int, print_int, IsInt, Frac, no_frac, frac, print_frac, IsFrac, Exp, no_exp, unsigned_exp, signed_exp, print_exp, IsExp, AreDigits, print, print_element, print_elements, print_member, print_members, IsValue, IsElement, AreElements, IsMember, AreMembers, AreBlanks, IsInside, is_blank, is_digit, is_e, is_sign}
use Rattle.json_text.specs.Skipped.{string_rest, outside, inside}
use Rattle.json_text.specs.Compact.{tight, tight_element, tight_elements, tight_member, tight_members, compact, squeezed}
use Rattle.json_text.specs.Nodes.{Spells}
use Rattle.json_text.specs.Trimmed.{skip_blanks}
use Rattle.json_text.proofs.Skips.{no_mark, hex_no_mark, nonzero_digit}
use Rattle.json_text.proofs.Trims.{end_boundary, blank_ascii}

other_byte : (a b : ℕ) → (a ≡ b → ⊥) → (a == b) ≡ false
other_byte a b h = grind (arith, nat_tests)

-- ---- strings

string_byte : (c : ℕ) (cs : List ℕ) → (c == 34) ≡ false → (c == 92) ≡ false → squeezed (inside false) (c ∷ cs) ≡ c ∷ squeezed (inside false) cs
string_byte c cs q s = rw (q, s) refl

four : (h : Hex) (cs : List ℕ) → is_hex h ≡ true
    → squeezed (inside false) (h.first ∷ h.second ∷ h.third ∷ h.fourth ∷ cs) ≡ h.first ∷ h.second ∷ h.third ∷ h.fourth ∷ squeezed (inside false) cs
four h cs x =
    let a = hex_no_mark h.first (and_first (nat_lt (digit_value h.first) 16) _ x) in
    let y : (nat_lt (digit_value h.second) 16 && (nat_lt (digit_value h.third) 16 && nat_lt (digit_value h.fourth) 16)) ≡ true = and_second (nat_lt (digit_value h.first) 16) _ x in
    let z : (nat_lt (digit_value h.third) 16 && nat_lt (digit_value h.fourth) 16) ≡ true = and_second (nat_lt (digit_value h.second) 16) _ y in
    let b = hex_no_mark h.second (and_first (nat_lt (digit_value h.second) 16) _ y) in
    let c = hex_no_mark h.third (and_first (nat_lt (digit_value h.third) 16) _ z) in
    let d = hex_no_mark h.fourth (and_second (nat_lt (digit_value h.third) 16) _ z) in
    string_byte h.first (h.second ∷ h.third ∷ h.fourth ∷ cs) a.0 a.1
    ∙ ap (λ l. h.first ∷ l) (string_byte h.second (h.third ∷ h.fourth ∷ cs) b.0 b.1
    ∙ ap (λ l. h.second ∷ l) (string_byte h.third (h.fourth ∷ cs) c.0 c.1
    ∙ ap (λ l. h.third ∷ l) (string_byte h.fourth cs d.0 d.1)))
  where
    and_first : (p q : Bool) → (p && q) ≡ true → p ≡ true
    and_first true q e = refl
    and_first false q e = absurd (cc)

    and_second : (p q : Bool) → (p && q) ≡ true → q ≡ true
    and_second true q e = e
    and_second false q e = absurd (cc)

pieces_squeezed : (ps : List Piece) (rest : List ℕ) → ArePieces ps → squeezed (inside false) (print_pieces ps ++ 34 ∷ rest) ≡ print_pieces ps ++ 34 ∷ squeezed outside rest
pieces_squeezed [] rest h = refl
pieces_squeezed (unescaped c ∷ ps) rest h =
    let m = no_mark c h.0.1 h.0.2 in
    string_byte c (print_pieces ps ++ 34 ∷ rest) m.0 m.1 ∙ ap (λ l. c ∷ l) (pieces_squeezed ps rest h.1)
pieces_squeezed (short c ∷ ps) rest h = ap (λ l. 92 ∷ c ∷ l) (pieces_squeezed ps rest h.1)
pieces_squeezed (code x ∷ ps) rest h =
    ap (λ l. 92 ∷ 117 ∷ l) (four x (print_pieces ps ++ 34 ∷ rest) h.0.0 ∙ ap (λ l. x.first ∷ x.second ∷ x.third ∷ x.fourth ∷ l) (pieces_squeezed ps rest h.1))
pieces_squeezed (pair x y ∷ ps) rest h =
    ap (λ l. 92 ∷ 117 ∷ l) (four x (92 ∷ 117 ∷ y.first ∷ y.second ∷ y.third ∷ y.fourth ∷ (print_pieces ps ++ 34 ∷ rest)) h.0.0.0
    ∙ ap (λ l. x.first ∷ x.second ∷ x.third ∷ x.fourth ∷ 92 ∷ 117 ∷ l) (four y (print_pieces ps ++ 34 ∷ rest) h.0.0.1
    ∙ ap (λ l. y.first ∷ y.second ∷ y.third ∷ y.fourth ∷ l) (pieces_squeezed ps rest h.1)))

quoted_squeezed : (raw rest : List ℕ) → IsInside raw → squeezed outside (34 ∷ (raw ++ 34 ∷ rest)) ≡ 34 ∷ (raw ++ 34 ∷ squeezed outside rest)
quoted_squeezed raw rest x =
    ap (λ l. 34 ∷ l)
    (ap (λ l. squeezed (inside false) (l ++ 34 ∷ rest)) x.spelled ∙ pieces_squeezed x.pieces rest x.valid ∙ ap (λ l. l ++ 34 ∷ squeezed outside rest) (sym x.spelled))

-- ---- tokens and blanks

plain_byte : (c : ℕ) (cs : List ℕ) → (c == 34) ≡ false → is_blank c ≡ false → squeezed outside (c ∷ cs) ≡ c ∷ squeezed outside cs
plain_byte c cs q b = rw (q, b) refl

blank_byte : (c : ℕ) (cs : List ℕ) → is_blank c ≡ true → squeezed outside (c ∷ cs) ≡ squeezed outside cs
blank_byte c cs b =
    let q : (c == 34) ≡ false = grind (arith, nat_tests) in
    rw (q, b) refl

digit_byte : (c : ℕ) (cs : List ℕ) → is_digit c ≡ true → squeezed outside (c ∷ cs) ≡ c ∷ squeezed outside cs
digit_byte c cs h = plain_byte c cs (grind (arith, nat_tests)) (grind (arith, nat_tests))

e_byte : (c : ℕ) (cs : List ℕ) → is_e c ≡ true → squeezed outside (c ∷ cs) ≡ c ∷ squeezed outside cs
e_byte c cs h = plain_byte c cs (grind (arith, nat_tests)) (grind (arith, nat_tests))

sign_byte : (c : ℕ) (cs : List ℕ) → is_sign c ≡ true → squeezed outside (c ∷ cs) ≡ c ∷ squeezed outside cs
sign_byte c cs h = plain_byte c cs (grind (arith, nat_tests)) (grind (arith, nat_tests))

pub blanks_squeezed : (bs rest : List ℕ) → AreBlanks bs → squeezed outside (bs ++ rest) ≡ squeezed outside rest
blanks_squeezed [] rest h = refl
blanks_squeezed (b ∷ bs) rest h = blank_byte b (bs ++ rest) h.0 ∙ blanks_squeezed bs rest h.1

digits_squeezed : (ds rest : List ℕ) → AreDigits ds → squeezed outside (ds ++ rest) ≡ ds ++ squeezed outside rest
digits_squeezed [] rest h = refl
digits_squeezed (d ∷ ds) rest h = digit_byte d (ds ++ rest) h.0 ∙ ap (λ l. d ∷ l) (digits_squeezed ds rest h.1)

exp_squeezed : (e : Exp) (rest : List ℕ) → IsExp e → squeezed outside (print_exp e rest) ≡ print_exp e (squeezed outside rest)
exp_squeezed no_exp rest h = refl
exp_squeezed (unsigned_exp e d ds) rest h = e_byte e (d ∷ (ds ++ rest)) h.0 ∙ ap (λ l. e ∷ l) (digit_byte d (ds ++ rest) h.1 ∙ ap (λ l. d ∷ l) (digits_squeezed ds rest h.2))
exp_squeezed (signed_exp e s d ds) rest h =
    e_byte e (s ∷ d ∷ (ds ++ rest)) h.0 ∙ ap (λ l. e ∷ l) (sign_byte s (d ∷ (ds ++ rest)) h.1 ∙ ap (λ l. s ∷ l) (digit_byte d (ds ++ rest) h.2 ∙ ap (λ l. d ∷ l) (digits_squeezed ds rest h.3)))

frac_squeezed : (f : Frac) (rest : List ℕ) → IsFrac f → squeezed outside (print_frac f rest) ≡ print_frac f (squeezed outside rest)
frac_squeezed no_frac rest h = refl
frac_squeezed (frac d ds) rest h = ap (λ l. 46 ∷ l) (digit_byte d (ds ++ rest) h.0 ∙ ap (λ l. d ∷ l) (digits_squeezed ds rest h.1))

int_squeezed : (i : Int) (rest : List ℕ) → IsInt i → squeezed outside (print_int i rest) ≡ print_int i (squeezed outside rest)
int_squeezed zero_int rest h = refl
int_squeezed (nonzero_int d ds) rest h = digit_byte d (ds ++ rest) (nonzero_digit d h.0) ∙ ap (λ l. d ∷ l) (digits_squeezed ds rest h.1)

whole_squeezed : (i : Int) (f : Frac) (e : Exp) (rest : List ℕ) → IsInt i → IsFrac f → IsExp e
    → squeezed outside (print_int i (print_frac f (print_exp e rest))) ≡ print_int i (print_frac f (print_exp e (squeezed outside rest)))
whole_squeezed i f e rest hi hf he =
    int_squeezed i _ hi ∙ ap (print_int i) (frac_squeezed f _ hf ∙ ap (print_frac f) (exp_squeezed e rest he))

number_squeezed : (n : Number) (rest : List ℕ) → IsNumber n → squeezed outside (print_number n rest) ≡ print_number n (squeezed outside rest)
number_squeezed (unsigned i f e) rest h = whole_squeezed i f e rest h.0 h.1 h.2
number_squeezed (negative i f e) rest h = ap (λ l. 45 ∷ l) (whole_squeezed i f e rest h.0 h.1 h.2)

-- ---- values

mutual
  unfolding print IsValue tight

  pub value_squeezed : (v : Json) (l d : ℕ) (rest : List ℕ) → IsValue l d v → squeezed outside (print v rest) ≡ print (tight v) (squeezed outside rest)
  value_squeezed null l d rest h = refl
  value_squeezed (truth true) l d rest h = refl
  value_squeezed (truth false) l d rest h = refl
  value_squeezed (number x) l d rest h = number_squeezed x rest h
  value_squeezed (string raw) l d rest h = quoted_squeezed raw rest h
  value_squeezed (empty_array b) l d rest h = ap (λ l. 91 ∷ l) (blanks_squeezed b (93 ∷ rest) h.1)
  value_squeezed (array x xs) l d rest h =
      ap (λ l. 91 ∷ l) (element_squeezed x l (suc d) (print_elements xs rest) h.1 ∙ ap (print_element (tight_element x)) (elements_squeezed xs l (suc d) rest h.2))
  value_squeezed (empty_object b) l d rest h = ap (λ l. 123 ∷ l) (blanks_squeezed b (125 ∷ rest) h.1)
  value_squeezed (object m ms) l d rest h =
      ap (λ l. 123 ∷ l) (member_squeezed m l (suc d) (print_members ms rest) h.1 ∙ ap (print_member (tight_member m)) (members_squeezed ms l (suc d) rest h.2))

  element_squeezed : (x : Element) (l d : ℕ) (rest : List ℕ) → IsElement l d x → squeezed outside (print_element x rest) ≡ print_element (tight_element x) (squeezed outside rest)
  element_squeezed (element before v behind) l d rest h =
      blanks_squeezed before (print v (behind ++ rest)) h.0 ∙ value_squeezed v l d (behind ++ rest) h.1 ∙ ap (print (tight v)) (blanks_squeezed behind rest h.2)

  elements_squeezed : (xs : Elements) (l d : ℕ) (rest : List ℕ) → AreElements l d xs → squeezed outside (print_elements xs rest) ≡ print_elements (tight_elements xs) (squeezed outside rest)
  elements_squeezed no_elements l d rest h = refl
  elements_squeezed (more_elements x xs) l d rest h =
      ap (λ l. 44 ∷ l) (element_squeezed x l d (print_elements xs rest) h.0 ∙ ap (print_element (tight_element x)) (elements_squeezed xs l d rest h.1))

  member_squeezed : (m : Member) (l d : ℕ) (rest : List ℕ) → IsMember l d m → squeezed outside (print_member m rest) ≡ print_member (tight_member m) (squeezed outside rest)
  member_squeezed (member before name behind x) l d rest h =
      blanks_squeezed before (34 ∷ (name ++ 34 ∷ (behind ++ 58 ∷ print_element x rest))) h.0 ∙ quoted_squeezed name (behind ++ 58 ∷ print_element x rest) h.1
      ∙ ap (λ l. 34 ∷ (name ++ 34 ∷ l)) (blanks_squeezed behind (58 ∷ print_element x rest) h.2 ∙ ap (λ l. 58 ∷ l) (element_squeezed x l d rest h.3))

  members_squeezed : (ms : Members) (l d : ℕ) (rest : List ℕ) → AreMembers l d ms → squeezed outside (print_members ms rest) ≡ print_members (tight_members ms) (squeezed outside rest)
  members_squeezed no_members l d rest h = refl
  members_squeezed (more_members m ms) l d rest h =
      ap (λ l. 44 ∷ l) (member_squeezed m l d (print_members ms rest) h.0 ∙ ap (print_member (tight_member m)) (members_squeezed ms l d rest h.1))

pub compact_is : (bytes : List ℕ) (tree : Json) → Spells bytes tree → squeezed outside bytes ≡ compact tree
compact_is bytes tree x = ap (squeezed outside) x.spelled ∙ value_squeezed tree _ 0 [] x.valid

-- ---- runs without blanks

-- what was passed over is what is written of it
pub record Passed (bytes : List ℕ) (from at : ℕ) : Type 0 where
  pub front : List ℕ
  pub whole : drop from bytes ≡ front ++ drop at bytes
  pub same : squeezed outside (drop from bytes) ≡ front ++ squeezed outside (drop at bytes)

pub passed_none : (bytes : List ℕ) (from : ℕ) → Passed bytes from from
passed_none bytes from = record { front = []; whole = refl; same = refl }

passed_more : (bytes : List ℕ) (from at next : ℕ) (more : List ℕ) → drop at bytes ≡ more ++ drop next bytes → squeezed outside (drop at bytes) ≡ more ++ squeezed outside (drop next bytes)
    → Passed bytes from at → Passed bytes from next
passed_more bytes from at next more w s p = record {
  front = p.front ++ more;
  whole = p.whole ∙ ap (λ l. p.front ++ l) w ∙ sym (append_assoc p.front more (drop next bytes));
  same = p.same ∙ ap (λ l. p.front ++ l) s ∙ sym (append_assoc p.front more (squeezed outside (drop next bytes)));
}

pub passed_byte : (bytes : List ℕ) (from at : ℕ) → at < length bytes → (get_or bytes at 0 ≡ 34 → ⊥) → is_blank (get_or bytes at 0) ≡ false → Passed bytes from at → Passed bytes from (at + 1)
passed_byte bytes from at h q b p =
    let c : ℕ = get_or bytes at 0 in
    let one : drop at bytes ≡ c ∷ drop (at + 1) bytes = drop-cons bytes at 0 h ∙ ap (λ n. c ∷ drop n bytes) (sym (add-one at)) in
    passed_more bytes from at (at + 1) (c ∷ []) one (ap (squeezed outside) one ∙ plain_byte c (drop (at + 1) bytes) (other_byte c 34 q) b) p

-- a string, from behind its opening quotation mark on
record StringFront (escaped : Bool) (cs : List ℕ) : Type 0 where
  front : List ℕ
  whole : cs ≡ front ++ string_rest escaped cs
  same : squeezed (inside escaped) cs ≡ front ++ squeezed outside (string_rest escaped cs)

front_more : (c : ℕ) (cs : List ℕ) (escaped : Bool) → StringFront escaped cs
    → (cs' : List ℕ) (e : Bool) → c ∷ cs ≡ cs' → string_rest escaped cs ≡ string_rest e cs' → c ∷ squeezed (inside escaped) cs ≡ squeezed (inside e) cs' → StringFront e cs'
front_more c cs escaped x cs' e w r s = record {
  front = c ∷ x.front;
  whole = sym w ∙ ap (λ l. c ∷ l) x.whole ∙ ap (λ l. (c ∷ x.front) ++ l) r;
  same = sym s ∙ ap (λ l. c ∷ l) x.same ∙ ap (λ l. (c ∷ x.front) ++ squeezed outside l) r;
}

front_by : (c : ℕ) (cs : List ℕ) (b : Bool) → (c == 34) ≡ b → StringFront (c == 92) cs → StringFront false (c ∷ cs)
front_by c cs true e x = record {
  front = c ∷ [];
  whole = ap (λ l. c ∷ l) (sym (ap (λ b. cond b cs (string_rest (c == 92) cs)) e));
  same = ap (λ b. cond b (c ∷ squeezed outside cs) (c ∷ squeezed (inside (c == 92)) cs)) e ∙ ap (λ l. c ∷ squeezed outside l) (sym (ap (λ b. cond b cs (string_rest (c == 92) cs)) e));
}
front_by c cs false e x =
    front_more c cs (c == 92) x (c ∷ cs) false refl
    (sym (ap (λ b. cond b cs (string_rest (c == 92) cs)) e)) (sym (ap (λ b. cond b (c ∷ squeezed outside cs) (c ∷ squeezed (inside (c == 92)) cs)) e))

string_front : (escaped : Bool) (cs : List ℕ) → StringFront escaped cs
string_front escaped [] = record { front = []; whole = refl; same = refl }
string_front true (c ∷ cs) = front_more c cs false (string_front false cs) (c ∷ cs) true refl refl refl
string_front false (c ∷ cs) = front_by c cs (c == 34) refl (string_front (c == 92) cs)

pub passed_string : (bytes : List ℕ) (from at end : ℕ) → at < length bytes → get_or bytes at 0 ≡ 34 → drop end bytes ≡ string_rest false (drop (at + 1) bytes) → Passed bytes from at
    → Passed bytes from end
passed_string bytes from at end h q e p =
    let one : drop at bytes ≡ 34 ∷ drop (at + 1) bytes = drop-cons bytes at 0 h ∙ ap (λ c. c ∷ drop (suc at) bytes) q ∙ ap (λ n. 34 ∷ drop n bytes) (sym (add-one at)) in
    let f = string_front false (drop (at + 1) bytes) in
    passed_more bytes from at end (34 ∷ f.front)
    (one ∙ ap (λ l. 34 ∷ l) (f.whole ∙ ap (λ l. f.front ++ l) (sym e)))
    (ap (squeezed outside) one ∙ ap (λ l. 34 ∷ l) (f.same ∙ ap (λ l. f.front ++ squeezed outside l) (sym e))) p

pub passed_range : (bytes : List ℕ) (from at : ℕ) → from ≤ at → at ≤ length bytes → Passed bytes from at
    → squeezed outside (drop from bytes) ≡ slice_range bytes from at ++ squeezed outside (drop at bytes)
passed_range bytes from at l h p =
    let size : at - from ≡ length p.front =
    omega (arith, ap length p.whole, length-append p.front (drop at bytes), length-drop from bytes, length-drop at bytes) in
    let is : slice_range bytes from at ≡ p.front =
    ap (λ n. take n (drop from bytes)) size ∙ ap (take (length p.front)) p.whole ∙ take-append_seam p.front (drop at bytes) in
    p.same ∙ ap (λ l. l ++ squeezed outside (drop at bytes)) (sym is)

-- ---- blanks between runs

pub skip_squeezed : (cs : List ℕ) → squeezed outside (skip_blanks cs) ≡ squeezed outside cs
skip_squeezed [] = refl
skip_squeezed (c ∷ cs) = by_blank (is_blank c) refl (skip_squeezed cs)
  where
    by_blank : (b : Bool) → is_blank c ≡ b → squeezed outside (skip_blanks cs) ≡ squeezed outside cs → squeezed outside (cond b (skip_blanks cs) (c ∷ cs)) ≡ squeezed outside (c ∷ cs)
    by_blank true e h = h ∙ sym (blank_byte c cs e)
    by_blank false e h = refl

clash : true ≡ false → ⊥
clash e = cc

some_blanks : (s : List ℕ) (at : ℕ) → at < length s → is_blank (get_or s at 0) ≡ true → 0 < prefix_len is_blank (drop at s)
some_blanks s at h b = by_len (prefix_len is_blank (drop at s)) refl
  where
    same_place : at + 0 ≡ at
    same_place = omega arith

    by_len : (n : ℕ) → prefix_len is_blank (drop at s) ≡ n → 0 < n
    by_len (suc n) e = omega arith
    by_len zero e =
        let stop = prefix_len_stops is_blank (drop at s) 0 (omega (arith, length-drop at s)) in
        let first : is_blank (get_or s at 0) ≡ false =
        ap (λ k. is_blank (get_or s k 0)) (sym same_place) ∙ ap is_blank (sym (get_or-drop at s 0 0)) ∙ ap (λ k. is_blank (get_or (drop at s) k 0)) (sym e) ∙ stop in
        absurd (clash (sym b ∙ first))

pub blanks_boundary : (s : List ℕ) (at next : ℕ) → IsUtf8 s → at ≤ length s → next ≤ length s → next ≡ at + prefix_len is_blank (drop at s)
    → (at < length s → is_blank (get_or s at 0) ≡ true) → IsCharBoundary s next
blanks_boundary s at next u w l e b = ⊎_elim inside_of at_end (cases_lt at (length s))
  where
    at_end : length s ≤ at → IsCharBoundary s next
    at_end h = end_boundary s next l (λ m. absurd (omega (arith, e)))

    inside_of : at < length s → IsCharBoundary s next
    inside_of h =
        let some = some_blanks s at h (b h) in
        let last : is_blank (get_or (drop at s) (prefix_len is_blank (drop at s) - 1) 0) ≡ true = prefix_len_passes is_blank (drop at s) (prefix_len is_blank (drop at s) - 1) 0 (omega arith) in
        let place : at + (prefix_len is_blank (drop at s) - 1) ≡ next - 1 = omega arith in
        let byte : is_blank (get_or s (next - 1) 0) ≡ true =
        ap (λ k. is_blank (get_or s k 0)) (sym place) ∙ ap is_blank (sym (get_or-drop at s (prefix_len is_blank (drop at s) - 1) 0)) ∙ last in
        let there : IsCharBoundary s (next - 1 + 1) = IsCharBoundary-after_ascii s (next - 1) u (omega arith) (blank_ascii _ byte) in
        let same : next - 1 + 1 ≡ next = omega arith in
        subst (IsCharBoundary s) same there

-- ---- what was written so far

module _ (old out piece text bytes : List ℕ) (from end : ℕ) (b : bytes ≡ text) (p : piece ≡ slice_range text from end)
    (run : squeezed outside (drop from bytes) ≡ slice_range bytes from end ++ squeezed outside (drop end bytes))
    (so_far : out ++ squeezed outside (drop from bytes) ≡ old ++ squeezed outside text) where
  piece_then : squeezed outside (drop from bytes) ≡ piece ++ squeezed outside (drop end bytes)
  piece_then = run ∙ ap (λ l. l ++ squeezed outside (drop end bytes)) (ap (λ s. slice_range s from end) b ∙ sym p)

  pub written_more : (new : List ℕ) (next : ℕ) → new ≡ out ++ piece → drop next bytes ≡ skip_blanks (drop end bytes) → new ++ squeezed outside (drop next bytes) ≡ old ++ squeezed outside text
  written_more new next n s =
      ap (λ l. l ++ squeezed outside (drop next bytes)) n
      ∙ ap (λ l. (out ++ piece) ++ l) (ap (squeezed outside) s ∙ skip_squeezed (drop end bytes))
      ∙ append_assoc out piece (squeezed outside (drop end bytes)) ∙ ap (λ l. out ++ l) (sym piece_then) ∙ so_far

  pub piece_fits : (room : ℕ) → length old + length (squeezed outside text) ≤ room → length out + length piece ≤ room
  piece_fits room h =
      omega (arith, ap length so_far, length-append out (squeezed outside (drop from bytes)), length-append old (squeezed outside text), ap length piece_then, length-append piece (squeezed outside (drop end bytes)))

pub kept_more : (n : ℕ) (old out piece new : List ℕ) → new ≡ out ++ piece → take n out ≡ old → n ≤ length out → take n new ≡ old
kept_more n old out piece new e k l = ap (take n) e ∙ take-append-le n out piece l ∙ k

drop_end : (s : List ℕ) (n : ℕ) → length s ≤ n → drop n s ≡ []
drop_end [] zero h = refl
drop_end [] (suc n) h = refl
drop_end (x ∷ xs) zero h = absurd (omega arith)
drop_end (x ∷ xs) (suc n) h = drop_end xs n (omega arith)

append_none : (s : List ℕ) → s ++ [] ≡ s
append_none [] = refl
append_none (x ∷ xs) = ap (λ l. x ∷ l) (append_none xs)

pub all_written : (old out text bytes : List ℕ) (from : ℕ) → length bytes ≤ from → out ++ squeezed outside (drop from bytes) ≡ old ++ squeezed outside text → out ≡ old ++ squeezed outside text
all_written old out text bytes from h e = sym (append_none out) ∙ ap (λ l. out ++ squeezed outside l) (sym (drop_end bytes from h)) ∙ e

pub written_fits : (old out s : List ℕ) (room : ℕ) → out ≡ old ++ s → length out ≤ room → length old + length s ≤ room
written_fits old out s room e h = omega (arith, ap length e, length-append old s)
