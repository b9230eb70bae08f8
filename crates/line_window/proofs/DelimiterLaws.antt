-- Where a delimiter stands: in a part of some bytes, and never so that it overlaps itself.
use Rattle.std.proofs.Common.{◌≡◌, ℕ, ◌+◌, ◌-◌, ◌<◌, ◌≤◌, true, ◌==◌, List, [], ◌∷◌, length, take, drop, get_or, Option, None, Some, MatchOption, sym, ap, ◌∙◌, subst, inl, inr, arith, length-take, length-drop}
use Rattle.std.proofs.lemmas.List.{drop-take, drop-drop, take-take, take_rest, drop_more, get_or-take, get_or-drop}
use Rattle.std.proofs.lemmas.Bool.{cases_lt, eq-eqb}
use Rattle.byte_masks.specs.Walks.{IsFirst}
use Rattle.line_window.specs.Delimiters.{is_delimiter, StandsAt, HasNone, IsFirstAt, LacksByte, IsFirstByteAt}

-- how long a delimiter is
pub width : (d : List ℕ) → is_delimiter d ≡ true → (0 < length d) × (length d ≤ 2)
width [] is = absurd (cc)
width (one ∷ []) is = (omega arith, omega arith)
width (first ∷ second ∷ []) is = (omega arith, omega arith)
width (first ∷ second ∷ third ∷ more) is = absurd (cc)

-- it stands within the bytes
pub stands_within : (d xs : List ℕ) (k : ℕ) → 0 < length d → StandsAt d xs k → k + length d ≤ length xs
stands_within d xs k some stands =
    let long : length (take (length d) (drop k xs)) ≡ length d = ap length stands in
    omega (arith, length-take (length d) (drop k xs), length-drop k xs)

-- a piece of a front is a piece of the whole
pub front_piece : (xs : List ℕ) (n k m : ℕ) → k + m ≤ n → take m (drop k (take n xs)) ≡ take m (drop k xs)
front_piece xs n k m fits =
    let split : n ≡ k + (n - k) = omega arith in
    ap (λ j. take m (drop k (take j xs))) split
    ∙ ap (take m) (drop-take k (n - k) xs)
    ∙ take-take m (n - k) (drop k xs) (omega arith)

pub stands_front : (d xs : List ℕ) (n k : ℕ) → 0 < length d → StandsAt d (take n xs) k → StandsAt d xs k × (k + length d ≤ n)
stands_front d xs n k some stands =
    let within = stands_within d (take n xs) k some stands in
    let short = length-take n xs in
    let fits : k + length d ≤ n = omega arith in
    (sym (front_piece xs n k (length d) fits) ∙ stands, fits)

pub stands_of_front : (d xs : List ℕ) (n k : ℕ) → k + length d ≤ n → StandsAt d xs k → StandsAt d (take n xs) k
stands_of_front d xs n k fits stands = front_piece xs n k (length d) fits ∙ stands

-- where it stands in what is left behind the first s bytes
pub stands_behind : (d xs : List ℕ) (s k : ℕ) → StandsAt d (drop s xs) k → StandsAt d xs (s + k)
stands_behind d xs s k stands = ap (take (length d)) (sym (drop-drop k s xs)) ∙ stands

pub stands_of_behind : (d xs : List ℕ) (s k : ℕ) → StandsAt d xs (s + k) → StandsAt d (drop s xs) k
stands_of_behind d xs s k stands = ap (take (length d)) (drop-drop k s xs) ∙ stands

-- a byte of it, where it stands
stands_read : (d xs : List ℕ) (k i : ℕ) → i < length d → StandsAt d xs k → get_or xs (k + i) 0 ≡ get_or d i 0
stands_read d xs k i within stands =
    sym (get_or-drop k xs i 0) ∙ sym (get_or-take (length d) (drop k xs) i 0 within) ∙ ap (λ l. get_or l i 0) stands

-- it doesn't overlap itself
pub apart : (d xs : List ℕ) (p q : ℕ) → is_delimiter d ≡ true → StandsAt d xs p → StandsAt d xs q → p < q → p + length d ≤ q
apart [] xs p q is here there before = absurd (cc)
apart (one ∷ []) xs p q is here there before = omega arith
apart (first ∷ second ∷ []) xs p q is here there before =
    elim (cases_lt q (p + 2)) [
      | inr far ↦ far
      | inl near ↦
          let next : p + 1 ≡ q + 0 = omega arith in
          let same : second ≡ first =
          sym (stands_read (first ∷ second ∷ []) xs p 1 (omega arith) here)
          ∙ ap (λ n. get_or xs n 0) next
          ∙ stands_read (first ∷ second ∷ []) xs q 0 (omega arith) there in
          let equal : (first == second) ≡ true = eq-eqb first second (sym same) in
          absurd (cc)
    ]
apart (first ∷ second ∷ third ∷ more) xs p q is here there before = absurd (cc)

-- the first place in what is left behind bytes that begin no delimiter is the first of all
pub first_behind : (d xs : List ℕ) (s k : ℕ) → HasNone d xs s → IsFirstAt d (drop s xs) k → IsFirstAt d xs (s + k)
first_behind d xs s k clear first = record {
  here = stands_behind d xs s k first.here;
  before = λ j lt stands.
      elim (cases_lt j s) [
        | inl low ↦ clear j low stands
        | inr high ↦
            let at : s + (j - s) ≡ j = omega arith in
            first.before (j - s) (omega arith) (stands_of_behind d xs s (j - s) (ap (λ n. take (length d) (drop n xs)) at ∙ stands))
      ];
}

pub none_behind : (d xs : List ℕ) (s : ℕ) → s ≤ length xs → HasNone d xs s → HasNone d (drop s xs) (length (drop s xs)) → HasNone d xs (length xs)
none_behind d xs s within clear none j lt stands =
    elim (cases_lt j s) [
      | inl low ↦ clear j low stands
      | inr high ↦
          let at : s + (j - s) ≡ j = omega arith in
          let short = length-drop s xs in
          none (j - s) (omega arith) (stands_of_behind d xs s (j - s) (ap (λ n. take (length d) (drop n xs)) at ∙ stands))
    ]

-- one byte, where it is read
pub stands_one : (byte : ℕ) (xs : List ℕ) (k : ℕ) → k < length xs → get_or xs k 0 ≡ byte → StandsAt (byte ∷ []) xs k
stands_one byte xs k within here = ap (take 1) (drop_more xs k 0 within) ∙ ap (λ x. x ∷ []) here

pub one_stands : (byte : ℕ) (xs : List ℕ) (k : ℕ) → StandsAt (byte ∷ []) xs k → get_or xs k 0 ≡ byte
one_stands byte xs k stands =
    let at : k ≡ k + 0 = omega arith in
    ap (λ n. get_or xs n 0) at ∙ stands_read (byte ∷ []) xs k 0 (omega arith) stands

-- two bytes
pub stands_two : (first second : ℕ) (xs : List ℕ) (k : ℕ) → k + 1 < length xs → get_or xs k 0 ≡ first → get_or xs (k + 1) 0 ≡ second
    → StandsAt (first ∷ second ∷ []) xs k
stands_two first second xs k within here next =
    ap (take 2) (drop_more xs k 0 (omega arith) ∙ ap (λ l. get_or xs k 0 ∷ l) (drop_more xs (k + 1) 0 within))
    ∙ ap (λ x. x ∷ get_or xs (k + 1) 0 ∷ []) here
    ∙ ap (λ y. first ∷ y ∷ []) next

pub two_stand : (first second : ℕ) (xs : List ℕ) (k : ℕ) → StandsAt (first ∷ second ∷ []) xs k
    → (get_or xs k 0 ≡ first) × (get_or xs (k + 1) 0 ≡ second) × (k + 1 < length xs)
two_stand first second xs k stands =
    let at : k ≡ k + 0 = omega arith in
    let within = stands_within (first ∷ second ∷ []) xs k (omega arith) stands in (
      ap (λ n. get_or xs n 0) at ∙ stands_read (first ∷ second ∷ []) xs k 0 (omega arith) stands,
      stands_read (first ∷ second ∷ []) xs k 1 (omega arith) stands,
      omega arith,
    )

pub byte_found : (byte : ℕ) (xs : List ℕ) (at : ℕ) → IsFirstByteAt byte xs at → IsFirstAt (byte ∷ []) xs at
byte_found byte xs at first = record {
  here = stands_one byte xs at first.within first.here;
  before = λ k lt stands. first.before k lt (one_stands byte xs k stands);
}

pub byte_missing : (byte : ℕ) (xs : List ℕ) → LacksByte byte xs (length xs) → HasNone (byte ∷ []) xs (length xs)
byte_missing byte xs lacks k lt stands = lacks k lt (one_stands byte xs k stands)

-- no pair begins before the next of its first byte
pub pair_later : (first second : ℕ) (xs : List ℕ) (from n : ℕ) → from ≤ length xs → HasNone (first ∷ second ∷ []) xs from
    → LacksByte first (take (length xs - from) (drop from xs)) n → HasNone (first ∷ second ∷ []) xs (from + n)
pair_later first second xs from n within clear lacks k lt stands =
    elim (cases_lt k from) [
      | inl low ↦ clear k low stands
      | inr high ↦
          let at : from + (k - from) ≡ k = omega arith in
          lacks (k - from) (omega arith)
          (ap (λ l. get_or l (k - from) 0) (take_rest xs from) ∙ get_or-drop from xs (k - from) 0 ∙ ap (λ n. get_or xs n 0) at
          ∙ (two_stand first second xs k stands).0)
    ]

pub pair_here : (first : ℕ) (xs : List ℕ) (from at : ℕ) → IsFirstByteAt first (take (length xs - from) (drop from xs)) at
    → (get_or xs (from + at) 0 ≡ first) × (from + at < length xs)
pair_here first xs from at found =
    let shorter = length-take (length xs - from) (drop from xs) in
    let rest = length-drop from xs in
    let low = found.within in (
      sym (get_or-drop from xs at 0) ∙ sym (ap (λ l. get_or l at 0) (take_rest xs from)) ∙ found.here,
      omega arith,
    )

-- a place where its first byte stands and its second doesn't follow
pub pair_past : (first second : ℕ) (xs : List ℕ) (at : ℕ) → HasNone (first ∷ second ∷ []) xs at
    → (StandsAt (first ∷ second ∷ []) xs at → ⊥) → HasNone (first ∷ second ∷ []) xs (at + 1)
pair_past first second xs at clear never k lt stands =
    elim (cases_lt k at) [
      | inl low ↦ clear k low stands
      | inr high ↦
          let same : k ≡ at = omega arith in
          never (subst (StandsAt (first ∷ second ∷ []) xs) same stands)
    ]

pub one_found : (byte : ℕ) (xs : List ℕ) (r : Option ℕ) → MatchOption r (LacksByte byte xs (length xs)) (IsFirstByteAt byte xs)
    → MatchOption r (HasNone (byte ∷ []) xs (length xs)) (IsFirstAt (byte ∷ []) xs)
one_found byte xs None found = byte_missing byte xs found
one_found byte xs (Some at) found = byte_found byte xs at found

-- a search that went on behind the first s bytes
pub next_found : (d xs shown : List ℕ) (s at : ℕ) → shown ≡ xs → HasNone d xs s → IsFirstAt d (take (length shown - s) (drop s shown)) at
    → IsFirstAt d xs (s + at)
next_found d xs shown s at is clear first =
    first_behind d xs s at clear
    (subst (λ l. IsFirstAt d l at) (ap (λ l. take (length l - s) (drop s l)) is ∙ take_rest xs s) first)

pub next_none : (d xs shown : List ℕ) (s : ℕ) → shown ≡ xs → s ≤ length xs → HasNone d xs s
    → HasNone d (take (length shown - s) (drop s shown)) (length (take (length shown - s) (drop s shown))) → HasNone d xs (length xs)
next_none d xs shown s is within clear none =
    none_behind d xs s within clear
    (subst (λ l. HasNone d l (length l)) (ap (λ l. take (length l - s) (drop s l)) is ∙ take_rest xs s) none)

-- the first place from index s on, in what is left behind the first s bytes
pub walk_found : (byte : ℕ) (xs : List ℕ) (s at : ℕ) → IsFirst byte xs s at → IsFirstAt (byte ∷ []) (drop s xs) (at - s)
walk_found byte xs s at first =
    let low = first.low in
    let on : at ≡ s + (at - s) = omega arith in
    record {
      here = stands_of_behind (byte ∷ []) xs s (at - s) (subst (StandsAt (byte ∷ []) xs) on (stands_one byte xs at first.high first.here));
      before = λ k lt stands.
          first.before (s + k) (omega arith) (omega arith) (one_stands byte xs (s + k) (stands_behind (byte ∷ []) xs s k stands));
    }

-- a delimiter of one byte
pub one_byte : (d : List ℕ) (byte : ℕ) → length d ≡ 1 → byte ≡ get_or d 0 0 → byte ∷ [] ≡ d
one_byte [] byte one is = absurd (omega arith)
one_byte (first ∷ []) byte one is = ap (λ b. b ∷ []) is
one_byte (first ∷ second ∷ more) byte one is = absurd (omega arith)
