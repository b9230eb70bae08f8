-- The replies over tiles, joined.
use Rattle.std.proofs.Common.{◌≡◌, ℕ, zero, suc, ◌+◌, ◌*◌, ◌/◌, Bool, true, false, ◌||◌, List, [], ◌∷◌, ◌++◌, length, map, take, drop, Option, None, Some, refl, sym, ap, ◌∙◌, subst, append_assoc, append-nil, length-append, take-append-drop, arith}
use Rattle.std.proofs.lemmas.Grind.{flat_map-append}
use Rattle.std.proofs.lemmas.List.{drop-drop}
use Rattle.std.specs.Prelude.{sum_by}
use Rattle.std.proofs.lemmas.List.Sums.{sum_by-cons}
use Rattle.event_frame.specs.Event.{Event, records, end, error}
use Rattle.select_reply.specs.declared.code.Code.{Code}
use Rattle.select_reply.specs.Pieces.{piece, cut, whole_pieces, remainder, unless_empty}
use Rattle.select_reply.specs.Yields.{Yield, Yielded, has_fault, output, total_len, fault}
use Rattle.select_reply.specs.Answers.{shortest_front, is_answered, processed, totals_record, unless_faulty, TotalsAreOneMore}
use Rattle.select_reply.specs.Events.{progress_at, piece_events, whole_events, closing_events, answer_events, payload, payloads}
use Rattle.select_reply.specs.Replies.{Extends, EachExtends}
use Rattle.select_reply.specs.Tilings.{joined, payload_of, payloads_of, TilesJoin, EachTilesJoin, TilesFail, EachTilesFail}
use Rattle.select_reply.proofs.Fronts.{front-behind, front-within, front-same, front-passes}
use Rattle.select_reply.proofs.Processing.{output-append, total_len-append, has_fault-append, processed-all, processed-one, no_front, fault-append, fault-none}
use Rattle.select_reply.proofs.Growing.{whole_events-front}

pub each_extends : EachExtends
each_extends progress done rest = let front = whole_events-front progress done rest in record { more = front.0; events = front.1 }

-- ---- what a reply carries

payloads-append : (es fs : List Event) → payloads (es ++ fs) ≡ payloads es ++ payloads fs
payloads-append es fs = flat_map-append payload es fs

silent_progress : (progress : Bool) (done : List Yielded) (place : ℕ) → payloads (progress_at progress done place) ≡ []
silent_progress false done place = refl
silent_progress true done place = refl

-- lists, one behind the other, and then a rest
abbrev chained : List (List ℕ) → List ℕ → List ℕ
chained [] rest = rest
chained (x ∷ xs) rest = x ++ chained xs rest

carried : (progress : Bool) (done : List Yielded) (from : ℕ) (xs : List (List ℕ)) (rest : List ℕ) → payloads (piece_events progress done from xs) ++ rest ≡ chained xs rest
carried progress done from [] rest = refl
carried progress done from (x ∷ xs) rest =
    let next = from + piece in
    append_assoc x (payloads (progress_at progress done next ++ piece_events progress done next xs)) rest
    ∙ ap (λ l. x ++ (l ++ rest)) (payloads-append (progress_at progress done next) (piece_events progress done next xs)
    ∙ ap (λ l. l ++ payloads (piece_events progress done next xs)) (silent_progress progress done next))
    ∙ ap (λ l. x ++ l) (carried progress done next xs rest)

cut_chained : (size n : ℕ) (bytes : List ℕ) → chained (cut size n bytes) (drop (n * size) bytes) ≡ bytes
cut_chained size zero bytes = let z : 0 * size ≡ 0 = omega arith in rw z refl
cut_chained size (suc n) bytes =
    let further : drop (n * size) (drop size bytes) ≡ drop (suc n * size) bytes = drop-drop (n * size) size bytes ∙ ap (λ k. drop k bytes) (omega arith) in
    ap (λ l. take size bytes ++ chained (cut size n (drop size bytes)) l) (sym further)
    ∙ ap (λ l. take size bytes ++ l) (cut_chained size n (drop size bytes)) ∙ take-append-drop size bytes

whole_chained : (bytes : List ℕ) → chained (whole_pieces bytes) (remainder bytes) ≡ bytes
unfolding whole_pieces remainder
whole_chained bytes = cut_chained piece (length bytes / piece) bytes

last_carried : (bytes : List ℕ) → payloads (map records (unless_empty bytes)) ≡ bytes
last_carried [] = refl
last_carried (byte ∷ bytes) = append-nil (byte ∷ bytes)

closing_carried : (done : List Yielded) (f : Option (Code × ℕ)) → payloads (closing_events done f) ≡ []
closing_carried done None = refl
closing_carried done (Some f) = refl

-- a reply carries the output of its records
pub reply_carries : (progress : Bool) (done : List Yielded) → payloads (answer_events progress done) ≡ output done
reply_carries progress done =
    let o = output done in
    let closing = closing_events done (fault done) in
    payloads-append (whole_events progress done) (map records (unless_empty (remainder o)) ++ closing)
    ∙ ap (λ l. payloads (whole_events progress done) ++ l)
    (payloads-append (map records (unless_empty (remainder o))) closing
    ∙ ap (λ l. payloads (map records (unless_empty (remainder o))) ++ l) (closing_carried done (fault done))
    ∙ append-nil (payloads (map records (unless_empty (remainder o)))) ∙ last_carried (remainder o))
    ∙ carried progress done 0 (whole_pieces o) (remainder o) ∙ whole_chained o

-- ---- tiles without a code

first_of_two : (a b : Bool) → (a || b) ≡ false → a ≡ false
first_of_two false b h = refl
first_of_two true b h = absurd cc

second_of_two : (a b : Bool) → (a || b) ≡ false → b ≡ false
second_of_two false b h = h
second_of_two true b h = absurd cc

joined-cons : (t : List Yielded) (tiles : List (List Yielded)) → joined (t ∷ tiles) ≡ t ++ joined tiles
joined-cons t tiles = refl

module _ (t : List Yielded) (tiles : List (List Yielded)) (fine : has_fault (joined (t ∷ tiles)) ≡ false) where
  both : (has_fault t || has_fault (joined tiles)) ≡ false
  both = sym (has_fault-append t (joined tiles)) ∙ ap has_fault (sym (joined-cons t tiles)) ∙ fine

  first_fine : has_fault t ≡ false
  first_fine = first_of_two (has_fault t) (has_fault (joined tiles)) both

  others_fine : has_fault (joined tiles) ≡ false
  others_fine = second_of_two (has_fault t) (has_fault (joined tiles)) both

-- any tile of them
each_fine : (front : List (List Yielded)) (t : List Yielded) (back : List (List Yielded)) → has_fault (joined (front ++ t ∷ back)) ≡ false → fault (processed None t) ≡ None
each_fine [] t back h = let f = first_fine t back h in ap fault (processed-all None t f) ∙ fault-none t f
each_fine (x ∷ front) t back h = each_fine front t back (others_fine x (front ++ t ∷ back) h)

outputs_join : (progress : Bool) (tiles : List (List Yielded)) → has_fault (joined tiles) ≡ false → payloads_of progress tiles ≡ output (joined tiles)
outputs_join progress [] h = refl
outputs_join progress (t ∷ tiles) h =
    let f = first_fine t tiles h in
    ap (λ l. l ++ payloads_of progress tiles) (reply_carries progress (processed None t) ∙ ap output (processed-all None t f))
    ∙ ap (λ l. output t ++ l) (outputs_join progress tiles (others_fine t tiles h))
    ∙ sym (output-append t (joined tiles))

scanned_join : (tiles : List (List Yielded)) → has_fault (joined tiles) ≡ false → sum_by (λ t. total_len (processed None t)) tiles ≡ total_len (joined tiles)
scanned_join [] h = refl
scanned_join (t ∷ tiles) h =
    sum_by-cons (λ (u : List Yielded). total_len (processed None u)) t tiles
    ∙ ap (λ l. total_len l + sum_by (λ (u : List Yielded). total_len (processed None u)) tiles) (processed-all None t (first_fine t tiles h))
    ∙ ap (λ n. total_len t + n) (scanned_join tiles (others_fine t tiles h)) ∙ sym (total_len-append t (joined tiles))

returned_join : (tiles : List (List Yielded)) → has_fault (joined tiles) ≡ false → sum_by (λ t. length (output (processed None t))) tiles ≡ length (output (joined tiles))
returned_join [] h = refl
returned_join (t ∷ tiles) h =
    sum_by-cons (λ (u : List Yielded). length (output (processed None u))) t tiles
    ∙ ap (λ l. length (output l) + sum_by (λ (u : List Yielded). length (output (processed None u))) tiles) (processed-all None t (first_fine t tiles h))
    ∙ ap (λ n. length (output t) + n) (returned_join tiles (others_fine t tiles h)) ∙ sym (ap length (output-append t (joined tiles)) ∙ length-append (output t) (output (joined tiles)))

pub each_tiles_join : EachTilesJoin
each_tiles_join progress tiles h =
    let all = processed-all None (joined tiles) h in
    record {
      fine = λ front t back is. each_fine front t back (ap (λ (l : List (List Yielded)). has_fault (joined l)) (sym is) ∙ h);
      payloads = outputs_join progress tiles h ∙ sym (reply_carries progress (processed None (joined tiles)) ∙ ap output all);
      scanned = scanned_join tiles h ∙ sym (ap total_len all);
      returned = returned_join tiles h ∙ sym (ap (λ l. length (output l)) all);
    }

-- ---- the first tile with a code

joined-append : (xs ys : List (List Yielded)) → joined (xs ++ ys) ≡ joined xs ++ joined ys
joined-append xs ys = flat_map-append (λ t. t) xs ys

pub each_tiles_fail : EachTilesFail
each_tiles_fail progress front tile back h g =
    let fs = joined front in
    let split : joined (front ++ tile ∷ back) ≡ fs ++ (tile ++ joined back) = joined-append front (tile ∷ back) in
    let is : processed None (joined (front ++ tile ∷ back)) ≡ fs ++ processed None tile =
    ap (processed None) split ∙ front-behind (is_answered None) fs (tile ++ joined back) (no_front None fs h)
    ∙ ap (λ l. fs ++ l) (same_front fs h (tile ++ joined back) ∙ front-within has_fault tile (joined back) g) in
    record {
      fault = ap fault is ∙ fault-append fs (processed None tile) h;
      payloads = flat_map-append (λ t. payload_of progress t) front (tile ∷ [])
          ∙ ap (λ l. l ++ payloads_of progress (tile ∷ [])) (outputs_join progress front h)
          ∙ ap (λ l. output fs ++ l) (append-nil (payload_of progress tile) ∙ reply_carries progress (processed None tile))
          ∙ sym (reply_carries progress (processed None (joined (front ++ tile ∷ back))) ∙ ap output is ∙ output-append fs (processed None tile));
    }
  where
    same_front : (fs : List Yielded) → has_fault fs ≡ false → (ts : List Yielded) → shortest_front (λ front. has_fault (fs ++ front)) ts ≡ processed None ts
    same_front fs h ts = front-same (λ front. has_fault (fs ++ front)) has_fault ts (λ front. has_fault-append fs front ∙ ap (λ b. b || has_fault front) h)

-- ---- totals

totals_by : (ys : List Yielded) (totals : Yield) (b : Bool) → has_fault ys ≡ b → unless_faulty (processed None ys) totals ≡ processed None (ys ++ totals_record ys totals ∷ [])
totals_by ys totals true h =
    let faulty : has_fault (processed None ys) ≡ true = front-passes has_fault ys h in
    rw faulty (sym (front-within has_fault ys (totals_record ys totals ∷ []) h))
totals_by ys totals false h =
    let all = processed-all None ys h in
    ap (λ l. unless_faulty l totals) all ∙ rw h (sym (last_one (has_fault (ys ++ totals_record ys totals ∷ [])) refl))
  where
    last_one : (b : Bool) → has_fault (ys ++ totals_record ys totals ∷ []) ≡ b → processed None (ys ++ totals_record ys totals ∷ []) ≡ ys ++ totals_record ys totals ∷ []
    last_one true g = processed-one None ys (totals_record ys totals) [] h g
    last_one false g = processed-all None (ys ++ totals_record ys totals ∷ []) g

pub totals_are_one_more : TotalsAreOneMore
totals_are_one_more ys totals = totals_by ys totals (has_fault ys) refl
