-- The records of the tiles of an object are those of the whole.
use Rattle.std.proofs.Common.{◌≡◌, ℕ, suc, ◌+◌, ◌-◌, ◌<◌, ◌≤◌, Bool, true, false, List, [], ◌∷◌, ◌++◌, length, map, Option, None, Some, refl, sym, ap, ◌∙◌, arith, append-nil, min}
use Rattle.std.specs.Prelude.{nat_le, nat_lt}
use Rattle.std.specs.List.{flat_map}
use Rattle.std.proofs.lemmas.Grind.{flat_map-append}
use Rattle.std.proofs.lemmas.Bool.{le-ltb, lt-ltb, le-leb, leb-true, leb-false}
use Rattle.line_window.specs.Cuts.{Cut, cuts, AdjacentCutsAppend}
use Rattle.scan_ranges.specs.Resolved.{cut_to, resolved}
use Rattle.select_reply.specs.Yields.{Yielded, has_fault, output, total_len}
use Rattle.select_reply.specs.Answers.{processed}
use Rattle.select_reply.specs.Tilings.{payload_of, EachTilesJoin}
use Rattle.record_stream.specs.Lines.{Lines, gives, IsWithoutTotals}
use Rattle.record_stream.specs.Selected.{selected_cuts, yields}
use Rattle.record_stream.specs.Tiling.{Ascend, ranges_from, tiles, tile_yields, EachLineIsInOneTile, EachTilingJoins, EachTilingMakesTheWhole}
use Rattle.record_stream.proofs.SelectedLaws.{cuts_joined, none_cuts, range_cuts}
use Rattle.record_stream.proofs.AloneLaws.{alone_is}

-- a range that begins within the object, and one that begins behind it
cut_within : (first last n : ℕ) → first < n → first ≤ last → cut_to first last n ≡ Some (first, min last (n - 1))
cut_within first last n here up =
    let below : nat_lt first n ≡ true = lt-ltb first n here in
    let ascending : nat_le first last ≡ true = le-leb first last up in
    rw (below, ascending) refl

cut_behind : (first last n : ℕ) → n ≤ first → cut_to first last n ≡ None
cut_behind first last n behind =
    let past : nat_lt first n ≡ false = le-ltb first n behind in
    rw past refl

module _ (adjacent : AdjacentCutsAppend) (d object : List ℕ) where
  -- the lines that start from a place on, up to another place
  between : ℕ → ℕ → List Cut
  between first end = cuts d object first (end - first)

  between_none : (first end : ℕ) → end ≤ first → between first end ≡ []
  unfolding between
  between_none first end behind =
      let none : end - first ≡ 0 = omega arith in
      rw none refl

  between_joined : (first middle end : ℕ) → first ≤ middle → middle ≤ end → between first end ≡ between first middle ++ between middle end
  unfolding between
  between_joined first middle end low high = cuts_joined adjacent d object first middle end low high

  -- the lines of a tile
  tile_within : (first last end : ℕ) → first < length object → first ≤ last → min last (length object - 1) + 1 ≡ end
      → selected_cuts d object (cut_to first last (length object)) ≡ between first end
  unfolding between
  tile_within first last end here up is =
      ap (selected_cuts d object) (cut_within first last (length object) here up)
      ∙ range_cuts adjacent d object first (min last (length object - 1)) (omega arith) (omega arith)
      ∙ ap (λ e. cuts d object first (e - first)) is

  tile_behind : (first last : ℕ) → length object ≤ first → selected_cuts d object (cut_to first last (length object)) ≡ []
  tile_behind first last behind = ap (selected_cuts d object) (cut_behind first last (length object) behind) ∙ none_cuts d object

  -- the last tile
  last_tile : (first : ℕ) → selected_cuts d object (cut_to first (length object - 1) (length object)) ≡ between first (length object)
  last_tile first =
      let n = length object in
      let P : Bool → Type 0 = λ b. nat_le (suc first) n ≡ b → selected_cuts d object (cut_to first (n - 1) n) ≡ between first n in
      (elim (nat_le (suc first) n) as P [
        | true ↦ λ here.
            let inside : first < n = leb-true (suc first) n here in
            tile_within first (n - 1) n inside (omega arith) (omega arith)
        | false ↦ λ past.
            let behind : n ≤ first = omega (arith, leb-false (suc first) n past) in
            tile_behind first (n - 1) behind ∙ sym (between_none first n behind)
      ]) refl

  -- a tile before a cut, and what stands from the cut on
  first_tile : (first cut : ℕ) → first < cut
      → selected_cuts d object (cut_to first (cut - 1) (length object)) ++ between cut (length object) ≡ between first (length object)
  first_tile first cut up =
      let n = length object in
      let Goal : Type 0 = selected_cuts d object (cut_to first (cut - 1) n) ++ between cut n ≡ between first n in
      let P : Bool → Type 0 = λ b. nat_le (suc first) n ≡ b → Goal in
      let Q : Bool → Type 0 = λ b. nat_le cut n ≡ b → first < n → Goal in
      (elim (nat_le (suc first) n) as P [
        | true ↦ λ here. (elim (nat_le cut n) as Q [
          | true ↦ λ fits inside.
              let low : cut ≤ n = leb-true cut n fits in
              ap (λ l. l ++ between cut n) (tile_within first (cut - 1) cut inside (omega arith) (omega arith)) ∙ sym (between_joined first cut n (omega arith) low)
          | false ↦ λ over inside.
              let high : n < cut = leb-false cut n over in
              ap (λ l. l ++ between cut n) (tile_within first (cut - 1) n inside (omega arith) (omega arith))
              ∙ ap (λ l. between first n ++ l) (between_none cut n (omega arith)) ∙ append-nil (between first n)
        ]) refl (leb-true (suc first) n here)
        | false ↦ λ past.
            let behind : n ≤ first = omega (arith, leb-false (suc first) n past) in
            ap (λ l. l ++ between cut n) (tile_behind first (cut - 1) behind) ∙ between_none cut n (omega arith) ∙ sym (between_none first n behind)
      ]) refl

  tiles_from : (first : ℕ) (cs : List ℕ) → Ascend first cs
      → flat_map (selected_cuts d object) (ranges_from first cs (length object)) ≡ between first (length object)
  tiles_from first [] up = append-nil (selected_cuts d object (cut_to first (length object - 1) (length object))) ∙ last_tile first
  tiles_from first (cut ∷ cs) up =
      ap (λ l. selected_cuts d object (cut_to first (cut - 1) (length object)) ++ l) (tiles_from cut cs up.1) ∙ first_tile first cut up.0

whole_is : (size : ℕ) → resolved None size ≡ cut_to 0 (size - 1) size
unfolding resolved
whole_is size = refl

pub each_line_is_in_one_tile : AdjacentCutsAppend → EachLineIsInOneTile
each_line_is_in_one_tile adjacent d object cuts up =
    tiles_from adjacent d object 0 cuts up
    ∙ sym (ap (selected_cuts d object) (whole_is (length object)) ∙ last_tile adjacent d object 0)

-- ---- the records of lines that are told alone

ranges_alone : (lines : Lines) (longest : ℕ) (d object : List ℕ) → IsWithoutTotals lines → (ranges : List (Option (ℕ × ℕ)))
    → flat_map (λ (t : List Yielded). t) (map (yields lines longest d object) ranges) ≡ flat_map (gives lines longest) (flat_map (selected_cuts d object) ranges)
ranges_alone lines longest d object alone [] = refl
ranges_alone lines longest d object alone (range ∷ ranges) =
    let rest = flat_map (selected_cuts d object) ranges in
    ap (λ l. l ++ flat_map (λ (t : List Yielded). t) (map (yields lines longest d object) ranges)) (alone_is lines longest (selected_cuts d object range) alone)
    ∙ ap (λ l. flat_map (gives lines longest) (selected_cuts d object range) ++ l) (ranges_alone lines longest d object alone ranges)
    ∙ sym (flat_map-append (gives lines longest) (selected_cuts d object range) rest)

pub each_tiling_joins : AdjacentCutsAppend → EachTilingJoins
each_tiling_joins adjacent lines longest d object cuts alone up =
    ranges_alone lines longest d object alone (tiles cuts (length object))
    ∙ ap (flat_map (gives lines longest)) (each_line_is_in_one_tile adjacent d object cuts up)
    ∙ sym (alone_is lines longest (selected_cuts d object (resolved None (length object))) alone)

pub each_tiling_makes_the_whole : AdjacentCutsAppend → EachTilesJoin → EachTilingMakesTheWhole
each_tiling_makes_the_whole adjacent join progress lines longest d object cuts alone up fine =
    let whole = each_tiling_joins adjacent lines longest d object cuts alone up in
    let all = join progress (tile_yields lines longest d object cuts) (ap has_fault whole ∙ fine) in
    record {
      payloads = all.payloads ∙ ap (payload_of progress) whole;
      scanned = all.scanned ∙ ap (λ (ys : List Yielded). total_len (processed None ys)) whole;
      returned = all.returned ∙ ap (λ (ys : List Yielded). length (output (processed None ys))) whole;
    }
