-- The replies over the tiles of an object, against the reply over the whole: a query without LIMIT and aggregates.
use Rattle.std.specs.Prelude.{◌≡◌, ℕ, Bool, true, false, List, [], ◌∷◌, ◌++◌, length, sum_by, Option, None, Some}
use Rattle.std.specs.List.{flat_map}
use Rattle.select_reply.specs.Yields.{Yielded, has_fault, output, total_len, fault}
use Rattle.select_reply.specs.Answers.{processed}
use Rattle.select_reply.specs.Events.{answer_events, payloads}

-- the records of tiles, joined in order
abbrev pub joined : List (List Yielded) → List Yielded
joined tiles = flat_map (λ t. t) tiles

-- the output that the reply over these records carries
abbrev pub payload_of : Bool → List Yielded → List ℕ
payload_of progress ys = payloads (answer_events progress (processed None ys))

-- the output that the replies over these tiles carry, joined
abbrev pub payloads_of : Bool → List (List Yielded) → List ℕ
payloads_of progress tiles = flat_map (λ t. payload_of progress t) tiles

-- where the whole has no code: no tile has one, the payloads joined are the whole's, and the counts sum to the whole's
pub record TilesJoin (progress : Bool) (tiles : List (List Yielded)) : Type 0 where
  pub fine : (front : List (List Yielded)) (t : List Yielded) (back : List (List Yielded)) → tiles ≡ front ++ t ∷ back → fault (processed None t) ≡ None
  pub payloads : payloads_of progress tiles ≡ payload_of progress (joined tiles)
  pub scanned : sum_by (λ t. total_len (processed None t)) tiles ≡ total_len (processed None (joined tiles))
  pub returned : sum_by (λ t. length (output (processed None t))) tiles ≡ length (output (processed None (joined tiles)))

abbrev pub EachTilesJoin : Type 0
EachTilesJoin = (progress : Bool) (tiles : List (List Yielded)) → has_fault (joined tiles) ≡ false → TilesJoin progress tiles

-- where some tile is the first with a code: it has the whole's, and the payloads up to it, joined, are the whole's
pub record TilesFail (progress : Bool) (front : List (List Yielded)) (tile : List Yielded) (back : List (List Yielded)) : Type 0 where
  pub fault : fault (processed None (joined (front ++ tile ∷ back))) ≡ fault (processed None tile)
  pub payloads : payloads_of progress (front ++ tile ∷ []) ≡ payload_of progress (joined (front ++ tile ∷ back))

abbrev pub EachTilesFail : Type 0
EachTilesFail = (progress : Bool) (front : List (List Yielded)) (tile : List Yielded) (back : List (List Yielded))
    → has_fault (joined front) ≡ false → has_fault tile ≡ true → TilesFail progress front tile back
