-- The spans of a line's fields, a place at a time, and what they cut out.
use Rattle.std.proofs.Common.{◌≡◌, ℕ, zero, suc, ◌+◌, ◌-◌, ◌<◌, ◌≤◌, Bool, List, [], ◌∷◌, ◌++◌, length, map, take, drop, get_or, refl, sym, ap, ◌∙◌, arith, subst, ⊎_elim, append_assoc, length-append}
use Rattle.std.specs.List.{All, slice_split, slice_range, onto_first}
use Rattle.std.proofs.lemmas.List.{append-nil, drop-drop, get_or-drop, take_more, take_more_set, length-drop, length-map, length-take-le, take-append-drop}
use Rattle.std.proofs.lemmas.List.Elements.{All-cons, All-nil}
use Rattle.std.proofs.lemmas.List.Splits.{slice_split-cons_yes, slice_split-cons_no, length-slice_split}
use Rattle.std.proofs.Math.ListN.{set}
use Rattle.std.proofs.Math.Seq.{take-add}
use Rattle.byte_masks.specs.Masks.{Marks, is_byte, places_of, set_places, marked}
use Rattle.byte_masks.specs.Walks.{places_from}
use Rattle.byte_masks.specs.Parts.{IsPlain, part, IsWithin, Cuts, CutsOff, spans_between, spans_of}
use Rattle.byte_masks.specs.declared.split.Span.{Span}
use Rattle.byte_masks.specs.declared.split.Cut.{Cut}
use Rattle.byte_masks.proofs.SetBits.{bit_cases, set_places-yes, set_places-no, set_places-nil}
use Rattle.byte_masks.proofs.Walking.{places_from-block, places_from-tail, places_from-past}
use Rattle.byte_masks.proofs.Plain.{IsPlain-append}
use Rattle.byte_masks.proofs.Marking.{places_of-nil, places_of-yes, places_of-no, test_cases}

spans_between-nil : (start end : ℕ) → spans_between start [] end ≡ (record { start = start; end = end }) ∷ []
unfolding spans_between
spans_between-nil start end = refl

spans_between-cons : (start p : ℕ) (ps : List ℕ) (end : ℕ) → spans_between start (p ∷ ps) end ≡ (record { start = start; end = p }) ∷ spans_between (p + 1) ps end
unfolding spans_between
spans_between-cons start p ps end = refl

-- a front put before the first part
abbrev onto : List ℕ → List (List ℕ) → List (List ℕ)
onto front [] = front ∷ []
onto front (p ∷ ps) = (front ++ p) ∷ ps

onto-nothing : (parts : List (List ℕ)) → 0 < length parts → onto [] parts ≡ parts
onto-nothing [] some = absurd (omega arith)
onto-nothing (p ∷ ps) some = refl

onto-first : (front : List ℕ) (b : ℕ) (parts : List (List ℕ)) → onto front (onto_first b parts) ≡ onto (front ++ b ∷ []) parts
onto-first front b [] = refl
onto-first front b (p ∷ ps) = ap (λ xs. xs ∷ ps) (sym (append_assoc front (b ∷ []) p))

slice_range-empty : (line : List ℕ) (i : ℕ) → slice_range line i i ≡ []
slice_range-empty line i = let z : i - i ≡ 0 = omega arith in ap (λ n. take n (drop i line)) z

slice_range-more : (line : List ℕ) (start i b : ℕ) (bs : List ℕ) → start ≤ i → drop i line ≡ b ∷ bs
    → slice_range line start (i + 1) ≡ slice_range line start i ++ b ∷ []
slice_range-more line start i b bs le here =
    let n : i + 1 - start ≡ i - start + 1 = omega arith in
    let z : i + 0 ≡ i = omega arith in
    let j : start + (i - start) ≡ i = omega arith in
    let inside : i - start < length (drop start line) = omega (arith, ap length here, length-drop i line, length-drop start line) in
    let byte : get_or (drop start line) (i - start) 0 ≡ b =
    get_or-drop start line (i - start) 0 ∙ ap (λ k. get_or line k 0) (j ∙ sym z) ∙ sym (get_or-drop i line 0 0) ∙ ap (λ xs. get_or xs 0 0) here in
    ap (λ k. take k (drop start line)) n
    ∙ take_more (drop start line) (i - start) 0 inside
    ∙ ap (λ x. take (i - start) (drop start line) ++ x ∷ []) byte

drop-next : (line : List ℕ) (i b : ℕ) (bs : List ℕ) → drop i line ≡ b ∷ bs → drop (i + 1) line ≡ bs
drop-next line i b bs here = sym (drop-drop 1 i line) ∙ ap (drop 1) here

spans-parts : (test : ℕ → Bool) (line : List ℕ) (start i : ℕ) (bs : List ℕ) → start ≤ i → drop i line ≡ bs → i + length bs ≡ length line
    → map (part line) (spans_between start (places_of test i bs) (length line)) ≡ onto (slice_range line start i) (slice_split test bs)
spans-parts test line start i [] le here long =
    let e : length line ≡ i = omega arith in
    ap (λ ps. map (part line) (spans_between start ps (length line))) (places_of-nil test i)
    ∙ ap (map (part line)) (spans_between-nil start (length line))
    ∙ ap (λ n. slice_range line start n ∷ []) e
    ∙ ap (λ xs. xs ∷ []) (sym (append-nil (slice_range line start i)))
spans-parts test line start i (b ∷ bs) le here long =
    let behind = drop-next line i b bs here in
    ⊎_elim
    (λ cut.
    let rest = spans-parts test line (i + 1) (i + 1) bs (omega arith) behind (omega arith) in
    ap (λ ps. map (part line) (spans_between start ps (length line))) (places_of-yes test i b bs cut)
    ∙ ap (map (part line)) (spans_between-cons start i (places_of test (i + 1) bs) (length line))
    ∙ ap (λ ps. slice_range line start i ∷ ps)
    (rest ∙ ap (λ xs. onto xs (slice_split test bs)) (slice_range-empty line (i + 1)) ∙ onto-nothing (slice_split test bs) (omega (arith, length-slice_split test bs)))
    ∙ ap (λ xs. xs ∷ slice_split test bs) (sym (append-nil (slice_range line start i)))
    ∙ sym (ap (onto (slice_range line start i)) (slice_split-cons_yes test b bs cut)))
    (λ stays.
    ap (λ ps. map (part line) (spans_between start ps (length line))) (places_of-no test i b bs stays)
    ∙ spans-parts test line start (i + 1) bs (omega arith) behind (omega arith)
    ∙ ap (λ xs. onto xs (slice_split test bs)) (slice_range-more line start i b bs le here)
    ∙ sym (onto-first (slice_range line start i) b (slice_split test bs))
    ∙ sym (ap (onto (slice_range line start i)) (slice_split-cons_no test b bs stays)))
    (test_cases (test b))

spans-within : (test : ℕ → Bool) (start i end : ℕ) (bs : List ℕ) → start ≤ i → i + length bs ≡ end
    → All (IsWithin end) (spans_between start (places_of test i bs) end)
spans-within test start i end [] le long =
    let e = ap (λ ps. spans_between start ps end) (places_of-nil test i) ∙ spans_between-nil start end in
    subst (All (IsWithin end)) (sym e)
    (All-cons (IsWithin end) (record { start = start; end = end }) [] (record { ordered = omega arith; within = omega arith }) (All-nil (IsWithin end)))
spans-within test start i end (b ∷ bs) le long =
    ⊎_elim
    (λ cut.
    let e = ap (λ ps. spans_between start ps end) (places_of-yes test i b bs cut) ∙ spans_between-cons start i (places_of test (i + 1) bs) end in
    subst (All (IsWithin end)) (sym e)
    (All-cons (IsWithin end) (record { start = start; end = i }) (spans_between (i + 1) (places_of test (i + 1) bs) end)
    (record { ordered = le; within = omega arith }) (spans-within test (i + 1) (i + 1) end bs (omega arith) (omega arith))))
    (λ stays.
    subst (λ ps. All (IsWithin end) (spans_between start ps end)) (sym (places_of-no test i b bs stays))
    (spans-within test start (i + 1) end bs (omega arith) (omega arith)))
    (test_cases (test b))

pub Cuts-spans_of : (field : ℕ) (line : List ℕ) → Cuts field line (spans_of field line)
Cuts-spans_of field line =
    let test : ℕ → Bool = is_byte field in
    let long : 0 + length line ≡ length line = omega arith in
    record {
      parts =
          spans-parts test line 0 0 line (omega arith) refl long
          ∙ ap (λ xs. onto xs (slice_split test line)) (slice_range-empty line 0)
          ∙ onto-nothing (slice_split test line) (omega (arith, length-slice_split test line));
      within = spans-within test 0 0 (length line) line (omega arith) long;
    }

pub length-spans_of : (field : ℕ) (line : List ℕ) → length (spans_of field line) ≡ length (slice_split (is_byte field) line)
length-spans_of field line = sym (length-map (spans_of field line) (part line)) ∙ ap length (Cuts-spans_of field line).parts

pub spans_between-some : (start : ℕ) (ps : List ℕ) (end : ℕ) → 0 < length (spans_between start ps end)
spans_between-some start [] end = omega (arith, ap length (spans_between-nil start end))
spans_between-some start (p ∷ ps) end = omega (arith, ap length (spans_between-cons start p ps end))

set_places-few : (s m k n : ℕ) → length (set_places s m k n) ≤ n
set_places-few s m k zero = omega (arith, ap length (set_places-nil s m k))
set_places-few s m k (suc n) =
    let later = set_places-few s m (k + 1) n in
    ⊎_elim (λ clear. omega (arith, ap length (set_places-no s m k n clear))) (λ here. omega (arith, ap length (set_places-yes s m k n here))) (bit_cases m k)

pub marked-few : (s m : ℕ) → length (marked s m) ≤ 64
marked-few s m = set_places-few s m 0 64

-- on the way through a mask: what was written, then what the bits that are left still cut off
pub record Cutting (base mask : ℕ) (from : Cut) (old : List Span) (left start count : ℕ) (spans : List Span) : Type 0 where
  pub all : (later : List ℕ) (end : ℕ) → take count spans ++ spans_between start (marked base left ++ later) end
      ≡ take from.count old ++ spans_between from.start (marked base mask ++ later) end
  pub few : count + length (marked base left) ≤ from.count + length (marked base mask)

pub Cutting-step : (base mask : ℕ) (from : Cut) (old : List Span) (left start count : ℕ) (spans : List Span) (bit left' : ℕ)
    → marked base left ≡ (base + bit) ∷ marked base left' → count < length spans → Cutting base mask from old left start count spans
    → Cutting base mask from old left' (base + bit + 1) (count + 1) (set spans count (record { start = start; end = base + bit }))
Cutting-step base mask from old left start count spans bit left' first room cutting =
    let span : Span = record { start = start; end = base + bit } in
    record {
      all = λ later end.
          let rest : List Span = spans_between (base + bit + 1) (marked base left' ++ later) end in
          ap (λ xs. xs ++ rest) (take_more_set spans count span room)
          ∙ append_assoc (take count spans) (span ∷ []) rest
          ∙ ap (λ xs. take count spans ++ xs) (sym (spans_between-cons start (base + bit) (marked base left' ++ later) end))
          ∙ ap (λ ps. take count spans ++ spans_between start (ps ++ later) end) (sym first)
          ∙ cutting.all later end;
      few = omega (arith, cutting.few, ap length first);
    }

pub CutsOff-done : (base mask : ℕ) (from : Cut) (old : List Span) (left start count : ℕ) (spans : List Span)
    → marked base left ≡ [] → Cutting base mask from old left start count spans
    → CutsOff (marked base mask) from old (record { start = start; count = count }) spans
CutsOff-done base mask from old left start count spans done cutting = record {
  all = λ later end. ap (λ ps. take count spans ++ spans_between start (ps ++ later) end) (sym done) ∙ cutting.all later end;
  few = omega (arith, cutting.few, marked-few base mask);
}

-- on the way through a line: plain so far, and what was written, then what the places from here on cut, is the whole
pub record Splitting (field quote : ℕ) (line : List ℕ) (i : ℕ) (cut : Cut) (spans : List Span) : Type 0 where
  pub within : i ≤ length line
  pub plain : IsPlain quote (take i line)
  pub all : take cut.count spans ++ spans_between cut.start (places_from field line i) (length line) ≡ spans_of field line
  pub room : cut.count ≤ length spans

pub Splitting-block : (field quote : ℕ) (line : List ℕ) (i m : ℕ) (cut cut' : Cut) (spans spans' : List Span) → i + 64 ≤ length line → length spans ≤ length spans'
    → cut.count + 64 < length spans → Marks (is_byte field) (take 64 (drop i line)) m → IsPlain quote (take 64 (drop i line))
    → CutsOff (marked i m) cut spans cut' spans' → Splitting field quote line i cut spans → Splitting field quote line (i + 64) cut' spans'
Splitting-block field quote line i m cut cut' spans spans' fits same room marks plain off splitting = record {
  within = fits;
  plain = subst (IsPlain quote) (sym (take-add i 64 line)) (IsPlain-append quote (take i line) (take 64 (drop i line)) splitting.plain plain);
  all =
      off.all (places_from field line (i + 64)) (length line)
      ∙ ap (λ ps. take cut.count spans ++ spans_between cut.start ps (length line)) (sym (places_from-block field line i m fits marks))
      ∙ splitting.all;
  room = omega (arith, off.few);
}

pub Splitting-end : (field quote : ℕ) (line tail : List ℕ) (i m : ℕ) (cut cut' : Cut) (spans spans' : List Span) → length line ≤ i + 64 → tail ≡ drop i line
    → cut'.count < length spans' → Marks (is_byte field) tail m → IsPlain quote tail
    → CutsOff (marked i m) cut spans cut' spans' → Splitting field quote line i cut spans
    → IsPlain quote line × Cuts field line (take (cut'.count + 1) (set spans' cut'.count (record { start = cut'.start; end = length line })))
Splitting-end field quote line tail i m cut cut' spans spans' near back room marks plain off splitting =
    let here : Marks (is_byte field) (drop i line) m = rw back at marks in
    let past : places_from field line (length line) ≡ [] = places_from-past field line (length line) (omega arith) in
    let whole : take (cut'.count + 1) (set spans' cut'.count (record { start = cut'.start; end = length line })) ≡ spans_of field line =
    take_more_set spans' cut'.count (record { start = cut'.start; end = length line }) room
    ∙ ap (λ xs. take cut'.count spans' ++ xs) (sym (spans_between-nil cut'.start (length line)))
    ∙ ap (λ ps. take cut'.count spans' ++ spans_between cut'.start ps (length line)) (sym past)
    ∙ off.all (places_from field line (length line)) (length line)
    ∙ ap (λ ps. take cut.count spans ++ spans_between cut.start ps (length line)) (sym (places_from-tail field line i m splitting.within near here))
    ∙ splitting.all in (
      subst (IsPlain quote) (ap (λ xs. take i line ++ xs) back ∙ take-append-drop i line) (IsPlain-append quote (take i line) tail splitting.plain plain),
      subst (Cuts field line) (sym whole) (Cuts-spans_of field line),
    )

pub Splitting-full : (field quote : ℕ) (line : List ℕ) (i : ℕ) (cut : Cut) (spans : List Span) → length spans ≤ cut.count + 64
    → Splitting field quote line i cut spans → length spans < length (slice_split (is_byte field) line) + 64
Splitting-full field quote line i cut spans full splitting =
    let rest : List Span = spans_between cut.start (places_from field line i) (length line) in
    omega (
      arith,
      ap length splitting.all,
      length-append (take cut.count spans) rest,
      length-take-le cut.count spans splitting.room,
      spans_between-some cut.start (places_from field line i) (length line),
      length-spans_of field line,
    )

pub Cutting-room : (base mask : ℕ) (from : Cut) (old : List Span) (left start count : ℕ) (spans : List Span) (p : ℕ) (ps : List ℕ)
    → marked base left ≡ p ∷ ps → Cutting base mask from old left start count spans → count < from.count + 64
Cutting-room base mask from old left start count spans p ps first cutting = omega (arith, cutting.few, ap length first, marked-few base mask)
