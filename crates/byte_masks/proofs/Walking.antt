-- The places of a byte from some place on, a block at a time, and the first of them.
use Rattle.std.proofs.Common.{◌≡◌, ℕ, zero, suc, Option, None, Some, ◌+◌, ◌-◌, ◌<◌, ◌≤◌, Bool, false, List, [], ◌∷◌, ◌++◌, length, take, drop, get_or, sym, ap, ◌∙◌, arith, ⊎_elim}
use Rattle.std.proofs.lemmas.Bool.{eqb-true, eqb-false}
use Rattle.std.proofs.lemmas.List.{append-nil, drop-drop, get_or-drop, length-drop}
use Rattle.std.proofs.lemmas.Simd.{chunk-drop, length-chunk}
use Rattle.std.proofs.Math.ListN.{drop_of_length-le}
use Rattle.std.specs.Iterator.{YieldsFirst}
use Rattle.byte_masks.specs.Masks.{Marks, Passes, is_byte, places_of, marked}
use Rattle.byte_masks.specs.Walks.{Walk, left, places_from, StandsAt, HasNone, IsFirst, GaveFirst}
use Rattle.byte_masks.proofs.Marking.{Marks-places, places_of-append, places_of-nil, places_of-yes, places_of-no, test_cases}

pub places_from-past : (byte : ℕ) (bytes : List ℕ) (i : ℕ) → length bytes ≤ i → places_from byte bytes i ≡ []
places_from-past byte bytes i past = ap (places_of (is_byte byte) i) (drop_of_length-le bytes past) ∙ places_of-nil (is_byte byte) i

-- the places from i on are those of the next n bytes and those behind
places_from-split : (byte : ℕ) (bytes : List ℕ) (i n m : ℕ) → n ≤ 64 → i + n ≤ length bytes → Marks (is_byte byte) (take n (drop i bytes)) m
    → places_from byte bytes i ≡ marked i m ++ places_from byte bytes (i + n)
places_from-split byte bytes i n m short fits marks =
    let long : length (take n (drop i bytes)) ≡ n = length-chunk i n bytes fits in
    let here : marked i m ≡ places_of (is_byte byte) i (take n (drop i bytes)) = Marks-places (is_byte byte) i m (take n (drop i bytes)) (omega arith) marks in
    ap (places_of (is_byte byte) i) (chunk-drop i n bytes)
    ∙ places_of-append (is_byte byte) i n (take n (drop i bytes)) (drop (i + n) bytes) long
    ∙ ap (λ ps. ps ++ places_from byte bytes (i + n)) (sym here)

pub places_from-block : (byte : ℕ) (bytes : List ℕ) (i m : ℕ) → i + 64 ≤ length bytes → Marks (is_byte byte) (take 64 (drop i bytes)) m
    → places_from byte bytes i ≡ marked i m ++ places_from byte bytes (i + 64)
places_from-block byte bytes i m fits marks = places_from-split byte bytes i 64 m (omega arith) fits marks

pub places_from-tail : (byte : ℕ) (bytes : List ℕ) (i m : ℕ) → i ≤ length bytes → length bytes ≤ i + 64 → Marks (is_byte byte) (drop i bytes) m
    → places_from byte bytes i ≡ marked i m ++ places_from byte bytes (length bytes)
places_from-tail byte bytes i m within short marks =
    let here : marked i m ≡ places_from byte bytes i = Marks-places (is_byte byte) i m (drop i bytes) (omega (arith, length-drop i bytes)) marks in
    let past : places_from byte bytes (length bytes) ≡ [] = places_from-past byte bytes (length bytes) (omega arith) in
    sym here ∙ sym (append-nil (marked i m)) ∙ ap (λ ps. marked i m ++ ps) (sym past)

-- the first place of a list of places: how far it is from the list's start, and what is behind it
record Found (test : ℕ → Bool) (i : ℕ) (bytes : List ℕ) (p : ℕ) (rest : List ℕ) : Type 0 where
  pub far : ℕ
  place : p ≡ i + far
  within : far < length bytes
  here : Passes test bytes far
  before : (k : ℕ) → k < far → test (get_or bytes k 0) ≡ false
  behind : rest ≡ places_of test (p + 1) (drop (suc far) bytes)

Found-next : (test : ℕ → Bool) (i b p : ℕ) (bs rest : List ℕ) → test b ≡ false → Found test (i + 1) bs p rest → Found test i (b ∷ bs) p rest
Found-next test i b p bs rest fails found = record {
  far = suc found.far;
  place = omega (arith, found.place);
  within = omega (arith, found.within);
  here = found.here;
  before = Before;
  behind = found.behind;
}
  where
    Before : (k : ℕ) → k < suc found.far → test (get_or (b ∷ bs) k 0) ≡ false
    Before zero l = fails
    Before (suc k) l = found.before k (omega arith)

places_of-first : (test : ℕ → Bool) (i : ℕ) (bytes : List ℕ) (p : ℕ) (rest : List ℕ) → places_of test i bytes ≡ p ∷ rest → Found test i bytes p rest
places_of-first test i [] p rest e = let n = places_of-nil test i in absurd (cc)
places_of-first test i (b ∷ bs) p rest e =
    ⊎_elim
    (λ here.
    let y = places_of-yes test i b bs here in
    let same : p ≡ i = cc in
    let others : rest ≡ places_of test (i + 1) bs = cc in
    record {
      far = 0;
      place = omega arith;
      within = omega arith;
      here = here;
      before = λ k l. absurd (omega arith);
      behind = others ∙ ap (λ n. places_of test (n + 1) bs) (sym same);
    })
    (λ fails. Found-next test i b p bs rest fails (places_of-first test (i + 1) bs p rest (sym (places_of-no test i b bs fails) ∙ e)))
    (test_cases (test b))

places_of-none : (test : ℕ → Bool) (i : ℕ) (bytes : List ℕ) → places_of test i bytes ≡ [] → (k : ℕ) → k < length bytes → test (get_or bytes k 0) ≡ false
places_of-none test i [] e k l = absurd (omega arith)
places_of-none test i (b ∷ bs) e zero l =
    ⊎_elim (λ here. let y = places_of-yes test i b bs here in absurd (cc)) (λ fails. fails) (test_cases (test b))
places_of-none test i (b ∷ bs) e (suc k) l =
    ⊎_elim (λ here. let y = places_of-yes test i b bs here in absurd (cc))
    (λ fails. places_of-none test (i + 1) bs (sym (places_of-no test i b bs fails) ∙ e) k (omega arith)) (test_cases (test b))

-- the first of the places from `at` on, and those behind it
places_from-first : (byte : ℕ) (bytes : List ℕ) (at p : ℕ) (rest : List ℕ) → places_from byte bytes at ≡ p ∷ rest
    → IsFirst byte bytes at p × (rest ≡ places_from byte bytes (p + 1))
places_from-first byte bytes at p rest e =
    let test : ℕ → Bool = is_byte byte in
    let f : Found test at (drop at bytes) p rest = places_of-first test at (drop at bytes) p rest e in
    let seen = λ (k : ℕ). ap test (get_or-drop at bytes k 0) in
    let put : p ≡ at + f.far = f.place in
    let next : at + suc f.far ≡ p + 1 = omega arith in (
      record {
        low = omega arith;
        high = omega (arith, f.within, length-drop at bytes);
        here = eqb-true (get_or bytes p 0) byte (ap (λ k. test (get_or bytes k 0)) put ∙ sym (seen f.far) ∙ f.here);
        before = λ k low high.
            let e : at + (k - at) ≡ k = omega arith in
            eqb-false (get_or bytes k 0) byte (ap (λ j. test (get_or bytes j 0)) (sym e) ∙ sym (seen (k - at)) ∙ f.before (k - at) (omega arith));
      },
      f.behind ∙ ap (places_of test (p + 1)) (drop-drop (suc f.far) at bytes ∙ ap (λ n. drop n bytes) next),
    )

places_from-none : (byte : ℕ) (bytes : List ℕ) (at : ℕ) → places_from byte bytes at ≡ [] → HasNone byte bytes at (length bytes)
places_from-none byte bytes at none k low high =
    let e : at + (k - at) ≡ k = omega arith in
    eqb-false (get_or bytes k 0) byte
    (ap (λ j. is_byte byte (get_or bytes j 0)) (sym e)
    ∙ sym (ap (is_byte byte) (get_or-drop at bytes (k - at) 0))
    ∙ places_of-none (is_byte byte) at (drop at bytes) none (k - at) (omega (arith, length-drop at bytes)))

-- what a walk that stood at a place gave is the first place from there on
pub GaveFirst-given : (old : Walk) (bytes : List ℕ) (at : ℕ) (r : Option ℕ) (new : Walk) → YieldsFirst (λ walk. left walk bytes) old r new
    → new.byte ≡ old.byte → (old.from ≤ length bytes → new.from ≤ length bytes) → StandsAt old bytes at → GaveFirst old bytes at r new
GaveFirst-given old bytes at None new given same within stands =
    let none : places_from old.byte bytes at ≡ [] = sym stands.all ∙ given.0 in (
      places_from-none old.byte bytes at none,
      record {
        within = stands.within;
        looked = within stands.looked;
        all = given.1 ∙ sym none ∙ ap (λ b. places_from b bytes at) (sym same);
      },
    )
GaveFirst-given old bytes at (Some p) new given same within stands =
    let parts = places_from-first old.byte bytes at p (left new bytes) (sym stands.all ∙ given) in (
      parts.0,
      record {
        within = omega (arith, parts.0.high);
        looked = within stands.looked;
        all = parts.1 ∙ ap (λ b. places_from b bytes (p + 1)) (sym same);
      },
    )

pub StandsAt-start : (walk : Walk) (bytes : List ℕ) (at : ℕ) → walk.ahead ≡ [] → walk.from ≡ at → at ≤ length bytes → StandsAt walk bytes at
StandsAt-start walk bytes at none begin within = record {
  within = within;
  looked = omega arith;
  all = ap (λ ps. ps ++ places_from walk.byte bytes walk.from) none ∙ ap (places_from walk.byte bytes) begin;
}

-- a walk that first looked ahead, and then gave the first of the places ahead
pub Given-ahead : (old mid : Walk) (bytes : List ℕ) (r : Option ℕ) (new : Walk) → left mid bytes ≡ left old bytes → (mid.ahead ≡ [] → left mid bytes ≡ [])
    → new.byte ≡ mid.byte → new.from ≡ mid.from → YieldsFirst (λ walk. walk.ahead) mid r new → YieldsFirst (λ walk. left walk bytes) old r new
Given-ahead old mid bytes None new all ended byte from given =
    let none = ended given.0 in
    let behind : left new bytes ≡ left mid bytes =
    ap (λ b. new.ahead ++ places_from b bytes new.from) byte ∙ ap (λ n. new.ahead ++ places_from mid.byte bytes n) from
    ∙ ap (λ ps. ps ++ places_from mid.byte bytes mid.from) (given.1 ∙ sym given.0) in
    (sym all ∙ none, behind ∙ none)
Given-ahead old mid bytes (Some p) new all ended byte from given =
    let behind : places_from new.byte bytes new.from ≡ places_from mid.byte bytes mid.from =
    ap (λ b. places_from b bytes new.from) byte ∙ ap (places_from mid.byte bytes) from in
    sym all ∙ ap (λ ps. ps ++ places_from mid.byte bytes mid.from) given ∙ ap (λ ps. (p ∷ new.ahead) ++ ps) (sym behind)
