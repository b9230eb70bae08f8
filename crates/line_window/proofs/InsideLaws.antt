-- What a window shows of its fields: where its kept bytes stand in the buffer.
use Rattle.std.proofs.Common.{◌≡◌, ℕ, ◌+◌, ◌-◌, ◌≤◌, min, List, [], ◌∷◌, ◌++◌, length, take, drop, refl, sym, ap, ◌∙◌, subst, inl, inr, arith, length-drop, length-take}
use Rattle.std.proofs.lemmas.List.{drop-take, drop-drop, take-take, nil_from_length}
use Rattle.std.proofs.lemmas.Bool.{cases_lt}
use Rattle.line_window.specs.declared.window.Window.TheInside.{Inside}
use Rattle.line_window.specs.Spelled.{spelled}
use Rattle.line_window.specs.Buffered.{view_of, IsBuffered}
use Rattle.line_window.specs.Sliding.{kept_from, ahead}
use Rattle.byte_masks.specs.Walks.{IsFirst}
use Rattle.line_window.specs.Delimiters.{IsFirstAt}
use Rattle.line_window.proofs.DelimiterLaws.{walk_found}
use Rattle.line_window.proofs.KeptLaws.{take-add}

-- the kept bytes after some of them were passed
pub kept_after : (xs : List ℕ) (s e i t : ℕ) → t ≡ s + i → t ≤ e → take (e - t) (drop t xs) ≡ drop i (take (e - s) (drop s xs))
kept_after xs s e i t at within =
    let all : e - s ≡ i + (e - t) = omega arith in
    sym (
    ap (λ n. drop i (take n (drop s xs))) all
    ∙ drop-take i (e - t) (drop s xs)
    ∙ ap (take (e - t)) (drop-drop i s xs)
    ∙ ap (λ n. take (e - t) (drop n xs)) (sym at)
    )

pub kept_len : (xs : List ℕ) (s e : ℕ) → s ≤ e → e ≤ length xs → length (take (e - s) (drop s xs)) ≡ e - s
kept_len xs s e ordered within =
    let taken = length-take (e - s) (drop s xs) in
    let dropped = length-drop s xs in
    omega arith

-- the place of the first kept byte
pub kept_place : (w : Inside) → IsBuffered w → kept_from (view_of w) ≡ w.base + (w.from - length (spelled w.delimiter))
kept_place w is =
    elim (cases_lt w.from (length (spelled w.delimiter))) [
      | inl low ↦ let front = is.front low in omega arith
      | inr high ↦ omega arith
    ]

pub view_len : (w : Inside) → IsBuffered w → length (view_of w).kept ≡ w.end - (w.from - length (spelled w.delimiter))
view_len w is =
    let behind = is.behind in
    let within = is.within in
    kept_len w.buffer.items (w.from - length (spelled w.delimiter)) w.end (omega arith) (omega arith)

-- the window's place moved to a later index
pub record MovesTo (w : Inside) (from i : ℕ) : Type 0 where
  pub place : kept_from (view_of (record w { from = from })) ≡ kept_from (view_of w) + i
  pub kept : (view_of (record w { from = from })).kept ≡ drop i (view_of w).kept
  pub within : i ≤ length (view_of w).kept

pub moves_to : (w : Inside) (from : ℕ) → IsBuffered w → w.from ≤ from → from ≤ w.end + length (spelled w.delimiter)
    → MovesTo w from ((from - length (spelled w.delimiter)) - (w.from - length (spelled w.delimiter)))
moves_to w from is later within =
    let wide = length (spelled w.delimiter) in
    let i = (from - wide) - (w.from - wide) in
    let at = kept_place w is in
    let len = view_len w is in
    record {
      place =
          elim (cases_lt w.from wide) [
            | inl low ↦ let front = is.front low in omega arith
            | inr high ↦ omega arith
          ];
      kept = kept_after w.buffer.items (w.from - wide) w.end i (from - wide) (omega arith) (omega arith);
      within = omega arith;
    }

-- a part of the buffer from the first kept byte on is a front of the kept bytes
pub front_slice : (w : Inside) (shown : List ℕ) (start reach : ℕ) → shown ≡ w.buffer.items → start ≡ w.from - length (spelled w.delimiter) → reach ≤ w.end
    → take (reach - start) (drop start shown) ≡ take (reach - start) (view_of w).kept
front_slice w shown start reach is at within =
    ap (λ l. take (reach - start) (drop start l)) is
    ∙ ap (λ s. take (reach - start) (drop s w.buffer.items)) at
    ∙ sym (take-take (reach - start) (w.end - (w.from - length (spelled w.delimiter))) (drop (w.from - length (spelled w.delimiter)) w.buffer.items) (omega arith))

-- the part of the buffer from the window's place on is what is ahead
pub ahead_slice : (w : Inside) (shown : List ℕ) (m : ℕ) → IsBuffered w → shown ≡ w.buffer.items → m ≡ min w.from w.end
    → take (w.end - m) (drop m shown) ≡ ahead (view_of w)
ahead_slice w shown m is same at =
    let wide = length (spelled w.delimiter) in
    let first = kept_place w is in
    let len = view_len w is in
    let lead : (view_of w).place - kept_from (view_of w) ≡ w.from - (w.from - wide) =
    elim (cases_lt w.from wide) [
      | inl low ↦ let front = is.front low in omega arith
      | inr high ↦ omega arith
    ] in
    let within = is.within in
    let back : drop (w.from - (w.from - wide)) (view_of w).kept ≡ ahead (view_of w) = ap (λ n. drop n (view_of w).kept) (sym lead) in
    elim (cases_lt w.end w.from) [
      | inr inside ↦
          ap (λ l. take (w.end - m) (drop m l)) same
          ∙ kept_after w.buffer.items (w.from - wide) w.end (w.from - (w.from - wide)) m (omega arith) (omega arith)
          ∙ back
      | inl outside ↦
          let dropped = length-drop (w.from - (w.from - wide)) (view_of w).kept in
          let taken = length-take (w.end - m) (drop m shown) in
          let empty : take (w.end - m) (drop m shown) ≡ [] = nil_from_length _ (omega arith) in
          let none : drop (w.from - (w.from - wide)) (view_of w).kept ≡ [] = nil_from_length _ (omega arith) in
          empty ∙ sym none ∙ back
    ]

-- the bytes of a line in the buffer
pub line_slice : (w : Inside) (shown : List ℕ) (len until : ℕ) → IsBuffered w → shown ≡ w.buffer.items → w.from ≤ w.end
    → until ≡ w.from + len → until ≤ w.end
    → take (until - w.from) (drop w.from shown) ≡ take len (ahead (view_of w))
line_slice w shown len until is same read at within =
    let m : w.from ≡ min w.from w.end = omega arith in
    let n : until - w.from ≡ len = omega arith in
    ap (λ k. take k (drop w.from shown)) n
    ∙ sym (take-take len (w.end - w.from) (drop w.from shown) (omega arith))
    ∙ ap (take len) (ahead_slice w shown w.from is same m)

-- what stands before a place stays where the front up to that place stays
kept_stays : (ys zs : List ℕ) (front m : ℕ) → take (front + m) zs ≡ take (front + m) ys → take m (drop front zs) ≡ take m (drop front ys)
kept_stays ys zs front m same = sym (drop-take front m zs) ∙ ap (drop front) same ∙ drop-take front m ys

-- the kept bytes, moved from index s to `front`, and n bytes that were read behind them
pub kept_grows : (xs ys zs : List ℕ) (front s e n f u : ℕ) → take (front + (e - s)) zs ≡ take (front + (e - s)) ys
    → take (e - s) (drop front ys) ≡ take (e - s) (drop s xs) → f ≡ front → u ≡ front + (e - s) + n
    → take (u - f) (drop f zs) ≡ take (e - s) (drop s xs) ++ take n (drop (front + (e - s)) zs)
kept_grows xs ys zs front s e n f u stays same at until =
    let more : u - f ≡ (e - s) + n = omega arith in
    ap (λ k. take k (drop f zs)) more
    ∙ ap (λ k. take ((e - s) + n) (drop k zs)) at
    ∙ take-add (e - s) n (drop front zs)
    ∙ ap (λ l. l ++ take n (drop (e - s) (drop front zs))) (kept_stays ys zs front (e - s) stays ∙ same)
    ∙ ap (λ l. take (e - s) (drop s xs) ++ take n l) (drop-drop (e - s) front zs)

-- what the walk gives, as an index into what is ahead
pub end_ahead : (w : Inside) (byte : ℕ) (at : ℕ) → IsBuffered w → w.from ≤ w.end → byte ∷ [] ≡ spelled w.delimiter
    → IsFirst byte (take w.end w.buffer.items) w.from at → IsFirstAt (spelled w.delimiter) (ahead (view_of w)) (at - w.from)
end_ahead w byte at is read one first =
    let xs = w.buffer.items in
    let m : w.from ≡ min w.from w.end = omega arith in
    let split : w.end ≡ w.from + (w.end - w.from) = omega arith in
    let rest : drop w.from (take w.end xs) ≡ ahead (view_of w) =
    ap (λ n. drop w.from (take n xs)) split ∙ drop-take w.from (w.end - w.from) xs ∙ ahead_slice w xs w.from is refl m in
    subst (λ d. IsFirstAt d (ahead (view_of w)) (at - w.from)) one
    (subst (λ l. IsFirstAt (byte ∷ []) l (at - w.from)) rest (walk_found byte (take w.end xs) w.from at first))
