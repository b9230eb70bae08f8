-- Lines without totals: each record is told by its own line.
use Rattle.std.proofs.Common.{◌≡◌, ℕ, Bool, true, false, List, [], ◌∷◌, ◌++◌, length, Option, None, Some, refl, sym, ap, ◌∙◌, if◌then◌else◌}
use Rattle.std.specs.Prelude.{filter}
use Rattle.std.specs.List.{flat_map}
use Rattle.std.proofs.lemmas.List.Elements.{filter-append}
use Rattle.line_window.specs.Cuts.{Cut, content, cuts}
use Rattle.select_reply.specs.Yields.{Yield, Yielded}
use Rattle.record_stream.specs.Lines.{Seen, Lines, behind, is_too_long, failing, listed, cut_yield, gives, behind_cut, yields_of, IsWithoutTotals}
use Rattle.record_stream.specs.Selected.{lies_in, selected_cuts}
use Rattle.record_stream.specs.Tiling.{EachRangeSelects}

behind_alone : (lines : Lines) (place : ℕ) (bytes : List ℕ) → IsWithoutTotals lines → IsWithoutTotals (behind lines place bytes)
behind_alone lines place bytes w =
    let x : Seen = record { place = place; bytes = bytes } in
    record {
      alone = λ seen q xs. w.alone (x ∷ seen) q xs ∙ sym (w.alone (x ∷ []) q xs);
      ends = λ seen. w.ends (x ∷ seen);
    }

cut_alone : (lines : Lines) (longest : ℕ) (cut : Cut) → IsWithoutTotals lines → IsWithoutTotals (behind_cut lines longest cut)
unfolding behind_cut
cut_alone lines longest cut w =
    let P : Bool → Type 0 = λ b. IsWithoutTotals (if b then lines else behind lines cut.start (content cut)) in
    elim (is_too_long longest cut) as P [ true ↦ w | false ↦ behind_alone lines cut.start (content cut) w ]

-- a cut yields behind another what it yields alone
gives_alone : (lines : Lines) (longest : ℕ) (p cut : Cut) → IsWithoutTotals lines → gives (behind_cut lines longest p) longest cut ≡ gives lines longest cut
unfolding gives behind_cut
gives_alone lines longest p cut w =
    let x : Seen = record { place = p.start; bytes = content p } in
    let next : Bool → Lines = λ b. if b then lines else behind lines p.start (content p) in
    let P : Bool → Type 0 = λ b. listed cut.start cut.whole (cut_yield (next b) longest cut) ≡ listed cut.start cut.whole (cut_yield lines longest cut) in
    let Q : Bool → Type 0 = λ b. listed cut.start cut.whole (if b then failing (lines.of_long cut.start) else lines.of_content (x ∷ []) cut.start (content cut))
    ≡ listed cut.start cut.whole (if b then failing (lines.of_long cut.start) else lines.of_content [] cut.start (content cut)) in
    elim (is_too_long longest p) as P [
      | true ↦ refl
      | false ↦ elim (is_too_long longest cut) as Q [ true ↦ refl | false ↦ ap (listed cut.start cut.whole) (w.alone (x ∷ []) cut.start (content cut)) ]
    ]

alone_from : (lines other : Lines) (longest : ℕ) → IsWithoutTotals other → ((cut : Cut) → gives other longest cut ≡ gives lines longest cut)
    → (cs : List Cut) → yields_of other longest cs ≡ flat_map (gives lines longest) cs
alone_from lines other longest w same [] = refl
alone_from lines other longest w same (cut ∷ cs) =
    ap (λ l. l ++ yields_of (behind_cut other longest cut) longest cs) (same cut)
    ∙ ap (λ l. gives lines longest cut ++ l)
    (alone_from lines (behind_cut other longest cut) longest (cut_alone other longest cut w) (λ p. gives_alone other longest cut p w ∙ same p) cs)

-- the records of cuts are those of each
pub alone_is : (lines : Lines) (longest : ℕ) (cs : List Cut) → IsWithoutTotals lines → yields_of lines longest cs ≡ flat_map (gives lines longest) cs
alone_is lines longest cs w = alone_from lines lines longest w (λ cut. refl) cs

-- ---- the records that start in a range

listed_in : (test : ℕ → Bool) (start len : ℕ) (found : Option Yield)
    → filter (λ (y : Yielded). test y.start) (listed start len found) ≡ (if test start then listed start len found else [])
listed_in test start len None =
    let none : List Yielded = [] in
    let P : Bool → Type 0 = λ b. none ≡ (if b then none else none) in
    elim (test start) as P [ true ↦ refl | false ↦ refl ]
listed_in test start len (Some g) = refl

gives_in : (lines : Lines) (longest : ℕ) (test : ℕ → Bool) (cut : Cut)
    → filter (λ (y : Yielded). test y.start) (gives lines longest cut) ≡ (if test cut.start then gives lines longest cut else [])
unfolding gives
gives_in lines longest test cut = listed_in test cut.start cut.whole (cut_yield lines longest cut)

filtered : (lines : Lines) (longest : ℕ) (test : ℕ → Bool) (cs : List Cut)
    → flat_map (gives lines longest) (filter (λ (c : Cut). test c.start) cs) ≡ filter (λ (y : Yielded). test y.start) (flat_map (gives lines longest) cs)
filtered lines longest test [] = refl
filtered lines longest test (cut ∷ cs) =
    let kept = filter (λ (c : Cut). test c.start) cs in
    let g = gives lines longest cut in
    let later = filter (λ (y : Yielded). test y.start) (flat_map (gives lines longest) cs) in
    let P : Bool → Type 0 = λ b. flat_map (gives lines longest) (if b then cut ∷ kept else kept) ≡ (if b then g else []) ++ later in
    let rest = filtered lines longest test cs in
    let here : flat_map (gives lines longest) (if test cut.start then cut ∷ kept else kept) ≡ (if test cut.start then g else []) ++ later =
    elim (test cut.start) as P [ true ↦ ap (λ l. g ++ l) rest | false ↦ rest ] in
    here ∙ ap (λ l. l ++ later) (sym (gives_in lines longest test cut)) ∙ sym (filter-append (λ (y : Yielded). test y.start) g (flat_map (gives lines longest) cs))

pub each_range_selects : EachRangeSelects
unfolding selected_cuts
each_range_selects lines longest d object range w =
    let all = cuts d object 0 (length object) in
    alone_is lines longest (filter (λ (c : Cut). lies_in range c.start) all) w
    ∙ filtered lines longest (lies_in range) all
    ∙ ap (filter (λ (y : Yielded). lies_in range y.start)) (sym (alone_is lines longest all w))
