-- How many records an object has at most, how long they and their outputs are, and where they start.
use Rattle.std.proofs.Common.{◌≡◌, ℕ, zero, suc, ◌+◌, ◌*◌, ◌^◌, ◌-◌, ◌<◌, ◌≤◌, Bool, true, false, List, [], ◌∷◌, ◌++◌, length, map, take, drop, Option, None, Some, refl, sym, ap, ◌∙◌, subst, arith, append-nil, length-append, length-drop, if◌then◌else◌, ◌==◌, cond}
use Rattle.std.specs.Prelude.{bytes_eq, nat_le, take_while}
use Rattle.std.proofs.lemmas.List.{length-map}
use Rattle.std.proofs.lemmas.List.Sums.{sum_by-append, take_while-cons}
use Rattle.std.proofs.lemmas.Grind.{flat_map-append}
use Rattle.std.proofs.lemmas.Bool.{lt-leb, ltb-false}
use Rattle.line_window.specs.Starts.{starts, is_start}
use Rattle.line_window.specs.Cuts.{Cut, content, without_mark, cut_at, cuts}
use Rattle.line_window.specs.Sliding.{View, left}
use Rattle.std.proofs.Math.Nat.{suc-mul, mul-le-mul_right}
use Rattle.select_reply.specs.declared.code.Code.{Code}
use Rattle.select_reply.specs.Yields.{Yield, Yielded, bytes_of, output, total_len}
use Rattle.select_reply.specs.Answers.{processed}
use Rattle.select_reply.specs.Begun.{Begun}
use Rattle.select_reply.specs.Events.{wrapped_frames, whole_events}
use Rattle.select_reply.specs.Replies.{CountsFit, EachBegins, EachExtends}
use Rattle.record_stream.specs.Lines.{Lines, behind, is_too_long, failing, listed, cut_yield, gives, behind_cut, yields_of, behind_all, output_of, IsShort}
use Rattle.record_stream.specs.Replied.{whole_frames, WroteEarly}
use Rattle.record_stream.specs.Streaming.{Stands}
use Rattle.record_stream.specs.Streaming.{asking}
use Rattle.record_stream.proofs.Framing.{wrapped_frames-append}
use Rattle.record_stream.proofs.LineLaws.{yields_of-append}

total_len-append : (xs ys : List Yielded) → total_len (xs ++ ys) ≡ total_len xs + total_len ys
total_len-append xs ys = sum_by-append (λ (y : Yielded). y.len) xs ys

output-append : (xs ys : List Yielded) → output (xs ++ ys) ≡ output xs ++ output ys
output-append xs ys = flat_map-append (λ (y : Yielded). bytes_of y.gives) xs ys

pub length-starts : (d object : List ℕ) (a k : ℕ) → length (starts d object a k) ≤ k
length-starts d object a zero = omega arith
length-starts d object a (suc k) =
    let later = length-starts d object (suc a) k in
    let P : Bool → Type 0 = λ b. length (if b then a ∷ starts d object (suc a) k else starts d object (suc a) k) ≤ suc k in
    elim (is_start d object a) as P [ true ↦ omega arith | false ↦ omega arith ]

length-unmarked : (xs : List ℕ) → length (without_mark xs) ≤ length xs
length-unmarked xs =
    let P : Bool → Type 0 = λ b. length (if b then drop 3 xs else xs) ≤ length xs in
    elim (bytes_eq (take 3 xs) (0xef ∷ 0xbb ∷ 0xbf ∷ [])) as P [ true ↦ rw length-drop (omega arith) | false ↦ omega arith ]

length-content : (cut : Cut) → length (content cut) ≤ length cut.body
length-content cut =
    let shorter = length-unmarked cut.body in
    let P : Bool → Type 0 = λ b. length (if b then without_mark cut.body else cut.body) ≤ length cut.body in
    elim (cut.start == 0) as P [ true ↦ shorter | false ↦ omega arith ]

-- each cut has so many bytes at most
abbrev pub Within : ℕ → List Cut → Type 0
Within n [] = Unit {0}
Within n (cut ∷ cuts) = (cut.whole ≤ n) × Within n cuts

within-at : (d object places : List ℕ) → Within (length object) (map (cut_at d object) places)
within-at d object [] = tt
within-at d object (p ∷ places) = (omega arith, within-at d object places)

pub within-left : (object : List ℕ) (v : View) → Within (length object) (left object v)
within-left object v = within-at v.delimiter object (starts v.delimiter object v.place (v.stop - v.place))

within-front : (n : ℕ) (xs ys : List Cut) → Within n (xs ++ ys) → Within n xs
within-front n [] ys within = tt
within-front n (cut ∷ xs) ys within = (within.0, within-front n xs ys within.1)

-- ---- a record, if there is one

listed-output : (start len : ℕ) (found : Option Yield) → output (listed start len found) ≡ output_of found
listed-output start len None = refl
listed-output start len (Some g) = append-nil (bytes_of g)

listed-len : (start len : ℕ) (found : Option Yield) → total_len (listed start len found) ≤ len
listed-len start len None = omega arith
listed-len start len (Some g) = omega arith

failing-silent : (found : Option Code) → length (output_of (failing found)) ≤ 33554432
failing-silent None = omega arith
failing-silent (Some code) = omega arith

-- ---- outputs behind a cut are short too

pub short-behind : (lines : Lines) (place : ℕ) (bytes : List ℕ) → IsShort lines → IsShort (behind lines place bytes)
short-behind lines place bytes short = record {
  content = λ seen q xs fits. short.content (record { place = place; bytes = bytes } ∷ seen) q xs fits;
  end = λ seen. short.end (record { place = place; bytes = bytes } ∷ seen);
}

pub short-cut : (lines : Lines) (longest : ℕ) (cut : Cut) → IsShort lines → IsShort (behind_cut lines longest cut)
unfolding behind_cut
short-cut lines longest cut short =
    let P : Bool → Type 0 = λ b. IsShort (if b then lines else behind lines cut.start (content cut)) in
    elim (is_too_long longest cut) as P [ true ↦ short | false ↦ short-behind lines cut.start (content cut) short ]

pub short-all : (lines : Lines) (longest : ℕ) (cuts : List Cut) → IsShort lines → IsShort (behind_all lines longest cuts)
short-all lines longest [] short = short
short-all lines longest (cut ∷ cuts) short = short-all (behind_cut lines longest cut) longest cuts (short-cut lines longest cut short)

-- ---- how many bytes cuts yield, under a record limit

module _ (longest : ℕ) (limit : longest ≤ 16777216) where
  cut-short : (lines : Lines) → IsShort lines → (cut : Cut) → length (output_of (cut_yield lines longest cut)) ≤ 33554432
  cut-short lines short cut =
      let P : Bool → Type 0 = λ b. is_too_long longest cut ≡ b
      → length (output_of (if b then failing (lines.of_long cut.start) else lines.of_content [] cut.start (content cut))) ≤ 33554432 in
      (elim (is_too_long longest cut) as P [
        | true ↦ λ long. failing-silent (lines.of_long cut.start)
        | false ↦ λ fits. short.content [] cut.start (content cut) (omega (arith, limit, length-content cut, ltb-false longest (length cut.body) fits))
      ]) refl

  one-bound : (lines : Lines) → IsShort lines → (n : ℕ) (cut : Cut) → cut.whole ≤ n
      → (total_len (gives lines longest cut) ≤ n) × (length (output (gives lines longest cut)) ≤ 33554432)
  unfolding gives
  one-bound lines short n cut whole =
      let found = cut_yield lines longest cut in (
        omega (arith, whole, listed-len cut.start cut.whole found),
        subst (λ (bytes : List ℕ). length bytes ≤ 33554432) (sym (listed-output cut.start cut.whole found)) (cut-short lines short cut),
      )

  -- so many cuts yield so many bytes
  pub cuts-bound : (lines : Lines) → IsShort lines → (n : ℕ) (cuts : List Cut) → Within n cuts → (total_len (yields_of lines longest cuts) ≤ length cuts * n)
      × (length (output (yields_of lines longest cuts)) ≤ length cuts * 33554432)
  cuts-bound lines short n [] within = (omega arith, omega arith)
  cuts-bound lines short n (cut ∷ cuts) within =
      let one = one-bound lines short n cut within.0 in
      let next = behind_cut lines longest cut in
      let more = cuts-bound next (short-cut lines longest cut short) n cuts within.1 in
      let here = gives lines longest cut in
      let later = yields_of next longest cuts in (
        rw (total_len-append here later, suc-mul (length cuts) n) (omega (arith, one.0, more.0)),
        rw (output-append here later, length-append (output here) (output later)) (omega (arith, one.1, more.1)),
      )

-- ---- the counts of a reply over an object of 64 bits fit 128 bits, and one record more fits

pub record Bounded (ys : List Yielded) : Type 0 where
  pub scanned : total_len ys < 2 ^ 128
  pub returned : length (output ys) ≤ 2 ^ 64 * 33554432

pub bounded_fits : (ys : List Yielded) → Bounded ys → CountsFit ys
bounded_fits ys b = record { scanned = b.scanned; returned = omega (arith, b.returned) }

pub one_more_fits : (ys : List Yielded) (start : ℕ) (g : Yield) → Bounded ys → length (bytes_of g) ≤ 33554432 → CountsFit (ys ++ record { start = start; len = 0; gives = g } ∷ [])
one_more_fits ys start g b short =
    let z : Yielded = record { start = start; len = 0; gives = g } in
    record {
      scanned = omega (arith, b.scanned, total_len-append ys (z ∷ []));
      returned = rw (output-append ys (z ∷ []), length-append (output ys) (output (z ∷ [])), append-nil (bytes_of g)) (omega (arith, b.returned, short));
    }

-- the records of the cuts done fit the counts
abbrev pub EachFits : Lines → ℕ → List Cut → Type 0
EachFits lines longest cuts = (done later : List Cut) → cuts ≡ done ++ later → Bounded (yields_of lines longest done)

pub counts-fit : (lines : Lines) (longest : ℕ) → IsShort lines → longest ≤ 16777216 → (object : List ℕ) (places : List Cut)
    → Within (length object) places → length places < 2 ^ 64 → length object < 2 ^ 64 → EachFits lines longest places
counts-fit lines longest short limit object places within few small = λ done later split.
    let n = length object in
    let all : length places ≡ length done + length later = ap length split ∙ length-append done later in
    let bound = cuts-bound longest limit lines short n done (within-front n done later (subst (Within n) split within)) in
    let fits : length done * n ≤ (2 ^ 64 - 1) * n = mul-le-mul_right n (omega arith) in
    record { scanned = omega (arith, bound.0, fits); returned = omega (arith, bound.1, all, few) }

-- ---- where records start

-- the first of the records starts at this place or later
abbrev pub HeadFrom : ℕ → List Yielded → Type 0
HeadFrom n [] = Unit {0}
HeadFrom n (y ∷ ys) = n ≤ y.start

-- each of the cuts does
abbrev pub CutsFrom : ℕ → List Cut → Type 0
CutsFrom n [] = Unit {0}
CutsFrom n (cut ∷ cuts) = (n ≤ cut.start) × CutsFrom n cuts

cuts-later : (n m : ℕ) (cs : List Cut) → n ≤ m → CutsFrom m cs → CutsFrom n cs
cuts-later n m [] le from = tt
cuts-later n m (cut ∷ cs) le from = (omega (arith, from.0), cuts-later n m cs le from.1)

head-listed : (n start len : ℕ) (found : Option Yield) (rest : List Yielded) → n ≤ start → HeadFrom n rest → HeadFrom n (listed start len found ++ rest)
head-listed n start len None rest here more = more
head-listed n start len (Some g) rest here more = here

head-gives : (lines : Lines) (longest n : ℕ) (cut : Cut) (rest : List Yielded) → n ≤ cut.start → HeadFrom n rest → HeadFrom n (gives lines longest cut ++ rest)
unfolding gives
head-gives lines longest n cut rest here more = head-listed n cut.start cut.whole (cut_yield lines longest cut) rest here more

pub head_from : (lines : Lines) (longest n : ℕ) (cs : List Cut) → CutsFrom n cs → HeadFrom n (yields_of lines longest cs)
head_from lines longest n [] from = tt
head_from lines longest n (cut ∷ cs) from =
    head-gives lines longest n cut (yields_of (behind_cut lines longest cut) longest cs) from.0 (head_from (behind_cut lines longest cut) longest n cs from.1)

cuts_from : (d object : List ℕ) (a k : ℕ) → CutsFrom a (cuts d object a k)
cuts_from d object a zero = tt
cuts_from d object a (suc k) =
    let later = starts d object (suc a) k in
    let cut = cut_at d object in
    let rest : CutsFrom a (map cut later) = cuts-later a (suc a) (map cut later) (omega arith) (cuts_from d object (suc a) k) in
    let P : Bool → Type 0 = λ b. CutsFrom a (map cut (if b then a ∷ later else later)) in
    elim (is_start d object a) as P [ true ↦ (omega arith, rest) | false ↦ rest ]

-- a test that fails at the first of the later records
FailsAt : (Yielded → Bool) → List Yielded → Type 0
FailsAt test [] = Unit {0}
FailsAt test (y ∷ ys) = test y ≡ false

-- what passes a test from the front is a front of the records before the first that fails
passing-front : (test : Yielded → Bool) (ys ts : List Yielded) → FailsAt test ts → (rest : List Yielded) × (ys ≡ take_while test (ys ++ ts) ++ rest)
unfolding FailsAt
passing-front test [] [] fails = ([], refl)
passing-front test [] (t ∷ ts) fails =
    let none : take_while test (t ∷ ts) ≡ [] = take_while-cons test t ts ∙ ap (λ b. cond b (t ∷ take_while test ts) []) fails in
    ([], sym (append-nil (take_while test (t ∷ ts)) ∙ none))
passing-front test (y ∷ ys) ts fails =
    let later = passing-front test ys ts fails in
    let P : Bool → Type 0 = λ b. (rest : List Yielded) × (y ∷ ys ≡ cond b (y ∷ take_while test (ys ++ ts)) [] ++ rest) in
    let Q : List Yielded → Type 0 = λ l. (rest : List Yielded) × (y ∷ ys ≡ l ++ rest) in
    subst Q (sym (take_while-cons test y (ys ++ ts)))
    (elim (test y) as P [ true ↦ (later.0, ap (λ l. y ∷ l) later.1) | false ↦ (y ∷ ys, refl) ])

-- a front of records that start this far on starts so far on
front-from : (n : ℕ) (ys front back : List Yielded) → ys ≡ front ++ back → HeadFrom n ys → HeadFrom n front
front-from n ys [] back is from = tt
front-from n ys (y ∷ front) back is from = subst (HeadFrom n) is from

-- records that start this far on aren't early
late : (longest taken n : ℕ) (ys : List Yielded) → taken < n + (2 * longest + 5 * 65536) → HeadFrom n ys
    → FailsAt (λ y. nat_le (y.start + y.len + (2 * longest + 5 * 65536)) taken) ys
unfolding FailsAt
late longest taken n [] far from = tt
late longest taken n (y ∷ ys) far from = lt-leb (y.start + y.len + (2 * longest + 5 * 65536)) taken (omega arith)

-- the whole pieces of the early records' output have been written
pub wrote_early : EachBegins → EachExtends → (wrap : List ℕ → List ℕ) (progress : Bool) (limit : Option ℕ) (lines : Lines) (longest upto place : ℕ)
    (cuts done coming : List Cut) (begun : Begun) (before mid : Option (List ℕ)) → cuts ≡ done ++ coming → CutsFrom place coming
    → Stands (asking wrap progress limit lines longest) (yields_of lines longest done) begun before mid → upto < place + (2 * longest + 5 * 65536)
    → WroteEarly wrap progress longest upto (processed limit (yields_of lines longest cuts)) before mid
wrote_early begins extends wrap progress limit lines longest upto place cuts done coming begun before mid split starts s far =
    let ys = yields_of lines longest done in
    let later = yields_of (behind_all lines longest done) longest coming in
    let test : Yielded → Bool = λ y. nat_le (y.start + y.len + (2 * longest + 5 * 65536)) upto in
    let from : HeadFrom place later = head_from (behind_all lines longest done) longest place coming starts in
    let on = begins progress limit ys later s.unanswered in
    let all : processed limit (yields_of lines longest cuts) ≡ ys ++ on.answered =
    ap (processed limit) (ap (yields_of lines longest) split ∙ yields_of-append lines longest done coming) ∙ on.goes_on in
    let front = passing-front test ys on.answered (late longest upto place on.answered far (front-from place later on.answered on.unanswered on.split from)) in
    let passing = take_while test (ys ++ on.answered) in
    let more = extends progress passing front.0 in
    let pieces : whole_frames wrap progress ys ≡ whole_frames wrap progress passing ++ wrapped_frames wrap more.more =
    ap (whole_frames wrap progress) front.1 ∙ ap (wrapped_frames wrap) more.events ∙ wrapped_frames-append wrap (whole_events progress passing) more.more in
    subst (λ (l : List Yielded). WroteEarly wrap progress longest upto l before mid) (sym all)
    (record {
      bytes = whole_frames wrap progress ys;
      written = s.written;
      front = record { rest = wrapped_frames wrap more.more; joined = pieces };
    })

-- ---- the lines that a window has left

pub left_from : (object : List ℕ) (v : View) → CutsFrom v.place (left object v)
left_from object v = cuts_from v.delimiter object v.place (v.stop - v.place)

-- a range within an object of 64 bits has fewer than 2^64 starts
pub length-left : (object : List ℕ) (v : View) → v.stop ≤ v.size → v.size < 2 ^ 64 → length (left object v) < 2 ^ 64
length-left object v within small =
    let places = starts v.delimiter object v.place (v.stop - v.place) in
    omega (arith, length-map places (cut_at v.delimiter object), length-starts v.delimiter object v.place (v.stop - v.place))

-- what is asked of them fits the counts
pub each-fits : (lines : Lines) (longest : ℕ) (object : List ℕ) (v : View)
    → IsShort lines → longest ≤ 16777216 → v.stop ≤ v.size → v.size < 2 ^ 64 → length object < 2 ^ 64
    → EachFits lines longest (left object v)
each-fits lines longest object v short below within small fits =
    counts-fit lines longest short below object (left object v) (within-left object v) (length-left object v within small) fits
