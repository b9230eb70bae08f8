-- How the events and the state of a reply grow with one more record.
use Rattle.std.proofs.Common.{◌≡◌, ℕ, ◌+◌, ◌-◌, ◌*◌, ◌/◌, ◌%◌, ◌^◌, ◌<◌, ◌≤◌, zero, suc, min, Bool, true, false, nat_le, List, [], ◌∷◌, ◌++◌, length, take, drop, map, Option, None, Some, refl, sym, ap, ◌∙◌, subst, append_assoc, append-nil, length-append, length-drop, arith, lit<, if◌then◌else◌}
use Rattle.std.proofs.lemmas.Bool.Decides.{nat_tests}
use Rattle.std.proofs.Math.Nat.{div-add-mod', mod-lt, zero-mul, suc-add}
use Rattle.event_frame.specs.Event.{Event, records}
use Rattle.event_frame.specs.CountsText.{progress_of}
use Rattle.select_reply.specs.Pieces.{piece, cut, whole_pieces, remainder}
use Rattle.select_reply.specs.Yields.{Yield, silent, writes, fails, Yielded, bytes_of, output, total_len}
use Rattle.select_reply.specs.Answers.{shortest_front}
use Rattle.select_reply.specs.Events.{counts, reaching, progress_at, piece_events, whole_events}
use Rattle.select_reply.specs.Begun.{Begun, counted}
use Rattle.select_reply.specs.Turns.{progress_behind, grown_events, cut_after}
use Rattle.select_reply.proofs.Cutting.{whole_pieces-append, remainder-append, whole_pieces-short}
use Rattle.select_reply.proofs.Fronts.{NoFront, front-behind, front-within, front-one}
use Rattle.select_reply.proofs.Processing.{output-append, total_len-append, output-one}

-- ---- the records that an output of so many bytes needs

reaches : (place n : ℕ) → place ≤ n → nat_le place n ≡ true
reaches place n h = grind (arith, nat_tests)

falls_short : (place n : ℕ) → n < place → nat_le place n ≡ false
falls_short place n h = grind (arith, nat_tests)

reaching-within : (place : ℕ) (done rest : List Yielded) → place ≤ length (output done) → reaching place (done ++ rest) ≡ reaching place done
reaching-within place done rest h = front-within (λ front. nat_le place (length (output front))) done rest (reaches place (length (output done)) h)

short_fronts : (place : ℕ) (done : List Yielded) → length (output done) < place → NoFront (λ front. nat_le place (length (output front))) done
short_fronts place done h front back is =
    falls_short place (length (output front))
    (let n : length (output done) ≡ length (output front) + length (output back) = ap (λ l. length (output l)) is ∙ ap length (output-append front back) ∙ length-append (output front) (output back) in omega (arith, h))

reaching-one : (place : ℕ) (done : List Yielded) (y : Yielded) → length (output done) < place → place ≤ length (output (done ++ y ∷ [])) → reaching place (done ++ y ∷ []) ≡ done ++ y ∷ []
reaching-one place done y h g =
    front-one (λ front. nat_le place (length (output front))) done y [] (short_fronts place done h) (reaches place (length (output (done ++ y ∷ []))) g)

-- ---- the events of whole pieces

piece_events-append : (progress : Bool) (done : List Yielded) (from : ℕ) (xs ys : List (List ℕ))
    → piece_events progress done from (xs ++ ys) ≡ piece_events progress done from xs ++ piece_events progress done (from + length xs * piece) ys
piece_events-append progress done from [] ys =
    let z : from + 0 * piece ≡ from = omega arith in
    rw z refl
piece_events-append progress done from (x ∷ xs) ys =
    let next = from + piece in
    let far : next + length xs * piece ≡ from + suc (length xs) * piece = omega arith in
    ap (λ l. records x ∷ (progress_at progress done next ++ l)) (piece_events-append progress done next xs ys ∙ ap (λ n. piece_events progress done next xs ++ piece_events progress done n ys) far)
    ∙ ap (λ l. records x ∷ l) (sym (append_assoc (progress_at progress done next) (piece_events progress done next xs) (piece_events progress done (from + suc (length xs) * piece) ys)))

progress-within : (progress : Bool) (done rest : List Yielded) (place : ℕ) → place ≤ length (output done) → progress_at progress (done ++ rest) place ≡ progress_at progress done place
progress-within false done rest place h = refl
progress-within true done rest place h = ap (λ (l : List Yielded). progress_of (counts (total_len l) place) ∷ []) (reaching-within place done rest h)

-- pieces that the records' own output has stay as they are
events-within : (progress : Bool) (done rest : List Yielded) (from : ℕ) (xs : List (List ℕ)) → from + length xs * piece ≤ length (output done)
    → piece_events progress (done ++ rest) from xs ≡ piece_events progress done from xs
events-within progress done rest from [] h = refl
events-within progress done rest from (x ∷ xs) h =
    let next = from + piece in
    let near : next ≤ length (output done) = omega (arith, h) in
    let far : next + length xs * piece ≤ length (output done) = omega (arith, h) in
    ap (λ l. records x ∷ (l ++ piece_events progress (done ++ rest) next xs)) (progress-within progress done rest next near)
    ∙ ap (λ l. records x ∷ (progress_at progress done next ++ l)) (events-within progress done rest next xs far)

progress-one : (progress : Bool) (done : List Yielded) (y : Yielded) (place scanned : ℕ) → length (output done) < place → place ≤ length (output (done ++ y ∷ []))
    → total_len (done ++ y ∷ []) ≡ scanned → progress_at progress (done ++ y ∷ []) place ≡ progress_behind progress scanned place
progress-one false done y place scanned h g s = refl
progress-one true done y place scanned h g s = ap (λ (l : List Yielded). progress_of (counts (total_len l) place) ∷ []) (reaching-one place done y h g) ∙ ap (λ n. progress_of (counts n place) ∷ []) s

-- pieces that become whole with the record
events-one : (progress : Bool) (done : List Yielded) (y : Yielded) (scanned from : ℕ) (xs : List (List ℕ)) → length (output done) < from + piece
    → from + length xs * piece ≤ length (output (done ++ y ∷ [])) → length (output (done ++ y ∷ [])) < 2 ^ 128 → total_len (done ++ y ∷ []) ≡ scanned
    → (piece_events progress (done ++ y ∷ []) from xs ≡ grown_events progress scanned from xs) × (cut_after from xs ≡ from + length xs * piece)
events-one progress done y scanned from [] h g fits s = (refl, omega arith)
events-one progress done y scanned from (x ∷ xs) h g fits s =
    let next = from + piece in
    let fit : counted from piece ≡ next = omega (arith, g, fits) in
    let near : next ≤ length (output (done ++ y ∷ [])) = omega (arith, g) in
    let far : next + length xs * piece ≤ length (output (done ++ y ∷ [])) = omega (arith, g) in
    let rest = events-one progress done y scanned next xs (omega (arith, h)) far fits s in (
      ap (λ l. records x ∷ (l ++ piece_events progress (done ++ y ∷ []) next xs)) (progress-one progress done y next scanned h near s)
          ∙ ap (λ l. records x ∷ (progress_behind progress scanned next ++ l)) rest.0
          ∙ ap (λ n. records x ∷ (progress_behind progress scanned n ++ grown_events progress scanned n xs)) (sym fit),
      ap (λ n. cut_after n xs) fit ∙ rest.1 ∙ omega arith,
    )

-- ---- how much stands in whole pieces

length-cut : (size n : ℕ) (bytes : List ℕ) → length (cut size n bytes) ≡ n
length-cut size zero bytes = refl
length-cut size (suc n) bytes = ap suc (length-cut size n (drop size bytes))

pub whole-length : (bytes : List ℕ) → length (whole_pieces bytes) ≡ length bytes / piece
unfolding whole_pieces
whole-length bytes = length-cut piece (length bytes / piece) bytes

rest-length : (bytes : List ℕ) → length (remainder bytes) ≡ length bytes - length bytes / piece * piece
unfolding remainder
rest-length bytes = length-drop (length bytes / piece * piece) bytes

-- the bytes in whole pieces, and those behind them
pub parted : (bytes : List ℕ) → (length (whole_pieces bytes) * piece + length (remainder bytes) ≡ length bytes) × (length (remainder bytes) < piece)
parted bytes =
    let n = length bytes / piece in
    let m = length bytes % piece in
    let is : n * piece + m ≡ length bytes = div-add-mod' (length bytes) piece in
    let small : m < piece = mod-lt (length bytes) (lit< tt) in
    let w : length (whole_pieces bytes) * piece ≡ n * piece = ap (λ k. k * piece) (whole-length bytes) in
    let r = rest-length bytes in
    (omega (arith, is, w, r), omega (arith, is, r, small))

-- ---- one more record

-- the whole pieces of one more record's output
pub whole_events-one : (progress : Bool) (done : List Yielded) (y : Yielded) (bytes : List ℕ) → bytes_of y.gives ≡ bytes → length (output (done ++ y ∷ [])) < 2 ^ 128
    → whole_events progress (done ++ y ∷ []) ≡ whole_events progress done
    ++ grown_events progress (total_len (done ++ y ∷ [])) (length (whole_pieces (output done)) * piece) (whole_pieces (remainder (output done) ++ bytes))
whole_events-one progress done y bytes given fits =
    let o = output done in
    let xs = whole_pieces o in
    let ys = whole_pieces (remainder o ++ bytes) in
    let all : output (done ++ y ∷ []) ≡ o ++ bytes = output-append done (y ∷ []) ∙ ap (λ l. o ++ l) (output-one y ∙ given) in
    let pieces : whole_pieces (output (done ++ y ∷ [])) ≡ xs ++ ys = ap whole_pieces all ∙ whole_pieces-append o bytes in
    let here = parted o in
    let there = parted (remainder o ++ bytes) in
    let long : length (output (done ++ y ∷ [])) ≡ length o + length bytes = ap length all ∙ length-append o bytes in
    let back : length (remainder o ++ bytes) ≡ length (remainder o) + length bytes = length-append (remainder o) bytes in
    let grown = events-one progress done y (total_len (done ++ y ∷ [])) (length xs * piece) ys (omega (arith, here.0, here.1)) (omega (arith, here.0, there.0, long, back)) fits refl in
    let zero-from : 0 + length xs * piece ≡ length xs * piece = omega arith in
    ap (piece_events progress (done ++ y ∷ []) 0) pieces
    ∙ piece_events-append progress (done ++ y ∷ []) 0 xs ys
    ∙ ap (λ l. l ++ piece_events progress (done ++ y ∷ []) (0 + length xs * piece) ys) (events-within progress done (y ∷ []) 0 xs (omega (arith, here.0)))
    ∙ ap (λ n. whole_events progress done ++ piece_events progress (done ++ y ∷ []) n ys) zero-from
    ∙ ap (λ l. whole_events progress done ++ l) grown.0

-- where the pieces end behind it
pub cut-one : (done : List Yielded) (y : Yielded) (bytes : List ℕ) → bytes_of y.gives ≡ bytes → length (output (done ++ y ∷ [])) < 2 ^ 128
    → cut_after (length (whole_pieces (output done)) * piece) (whole_pieces (remainder (output done) ++ bytes)) ≡ length (whole_pieces (output (done ++ y ∷ []))) * piece
cut-one done y bytes given fits =
    let o = output done in
    let xs = whole_pieces o in
    let ys = whole_pieces (remainder o ++ bytes) in
    let all : output (done ++ y ∷ []) ≡ o ++ bytes = output-append done (y ∷ []) ∙ ap (λ l. o ++ l) (output-one y ∙ given) in
    let pieces : whole_pieces (output (done ++ y ∷ [])) ≡ xs ++ ys = ap whole_pieces all ∙ whole_pieces-append o bytes in
    let here = parted o in
    let there = parted (remainder o ++ bytes) in
    let long : length (output (done ++ y ∷ [])) ≡ length o + length bytes = ap length all ∙ length-append o bytes in
    let back : length (remainder o ++ bytes) ≡ length (remainder o) + length bytes = length-append (remainder o) bytes in
    let grown = events-one false done y (total_len (done ++ y ∷ [])) (length xs * piece) ys (omega (arith, here.0, here.1)) (omega (arith, here.0, there.0, long, back)) fits refl in
    let count : length (whole_pieces (output (done ++ y ∷ []))) ≡ length xs + length ys = ap length pieces ∙ length-append xs ys in
    grown.1 ∙ omega (arith, count)

-- a record without output completes no piece
pub no_more_pieces : (done : List Yielded) → whole_pieces (remainder (output done) ++ []) ≡ []
no_more_pieces done = ap whole_pieces (append-nil (remainder (output done))) ∙ whole_pieces-short (remainder (output done)) ((parted (output done)).1)

-- the whole pieces of the records so far stay in front
pub whole_events-front : (progress : Bool) (done rest : List Yielded)
    → (more : List Event) × (whole_events progress (done ++ rest) ≡ whole_events progress done ++ more)
whole_events-front progress done rest =
    let o = output done in
    let xs = whole_pieces o in
    let ys = whole_pieces (remainder o ++ output rest) in
    let here = parted o in
    let pieces : whole_pieces (output (done ++ rest)) ≡ xs ++ ys = ap whole_pieces (output-append done rest) ∙ whole_pieces-append o (output rest) in (
      piece_events progress (done ++ rest) (0 + length xs * piece) ys,
      ap (piece_events progress (done ++ rest) 0) pieces
          ∙ piece_events-append progress (done ++ rest) 0 xs ys
          ∙ ap (λ l. l ++ piece_events progress (done ++ rest) (0 + length xs * piece) ys) (events-within progress done rest 0 xs (omega (arith, here.0))),
    )
