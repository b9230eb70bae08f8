-- Pieces of an output that grows: the pieces that were whole stay, and the rest goes on from what they leave.
use Rattle.std.proofs.Common.{◌≡◌, ℕ, zero, suc, ◌+◌, ◌*◌, ◌/◌, ◌%◌, ◌<◌, ◌≤◌, List, [], ◌∷◌, ◌++◌, length, take, drop, refl, sym, ap, ◌∙◌, arith, length-append, length-drop, append_assoc, add_assoc, zero-add, lit<, append-nil, length-take, take-append-drop}
use Rattle.std.proofs.lemmas.List.{take-append-le, drop-append-le, drop-drop, take_all, drop_all}
use Rattle.std.proofs.Math.Seq.{take-add}
use Rattle.std.proofs.Math.Nat.{div-eq_of_lt, mul-add-div_right, div-add-mod', zero-mul, suc-add}
use Rattle.select_reply.specs.Pieces.{piece, cut, whole_pieces, remainder}

-- the pieces of a front that holds them all are those of the whole
cut-append : (size n : ℕ) (front back : List ℕ) → n * size ≤ length front → cut size n (front ++ back) ≡ cut size n front
cut-append size zero front back within = refl
cut-append size (suc n) front back within =
    let first : size ≤ length front = grind arith in
    let later : n * size ≤ length (drop size front) = rw length-drop (grind arith) in
    rw (take-append-le size front back first, drop-append-le size front back first, cut-append size n (drop size front) back later) refl

-- first some pieces, and then those of the rest
cut-add : (size m n : ℕ) (bytes : List ℕ) → cut size (m + n) bytes ≡ cut size m bytes ++ cut size n (drop (m * size) bytes)
cut-add size zero n bytes = simp (zero-add, zero-mul) refl
cut-add size (suc m) n bytes =
    let moved : drop (m * size) (drop size bytes) ≡ drop (suc m * size) bytes = drop-drop (m * size) size bytes ∙ ap (λ k. drop k bytes) (grind arith) in
    rw suc-add (ap (λ l. take size bytes ∷ l) (cut-add size m n (drop size bytes) ∙ ap (λ l. cut size m (drop size bytes) ++ cut size n l) moved))

-- how many whole pieces a longer output has
more_pieces : (size m n : ℕ) → 0 < size → (m + n) / size ≡ m / size + (m % size + n) / size
more_pieces size m n some =
    ap (λ k. (k + n) / size) (sym (div-add-mod' m size)) ∙ ap (λ k. k / size) (add_assoc (m / size * size) (m % size) n)
    ∙ mul-add-div_right some (m / size) (m % size + n)

length-remainder : (front : List ℕ) → length (remainder front) ≡ length front % piece
unfolding remainder
length-remainder front = rw length-drop (omega (arith, div-add-mod' (length front) piece))

pub whole_pieces-append : (front back : List ℕ) → whole_pieces (front ++ back) ≡ whole_pieces front ++ whole_pieces (remainder front ++ back)
unfolding whole_pieces remainder
whole_pieces-append front back =
    let m = length front / piece in
    let n = (length front % piece + length back) / piece in
    let count : length (front ++ back) / piece ≡ m + n = ap (λ k. k / piece) (length-append front back) ∙ more_pieces piece (length front) (length back) (lit< tt) in
    let within : m * piece ≤ length front = omega (arith, div-add-mod' (length front) piece) in
    let later : length (drop (m * piece) front ++ back) / piece ≡ n =
    ap (λ k. k / piece) (length-append (drop (m * piece) front) back ∙ ap (λ k. k + length back) (length-remainder front)) in
    ap (λ k. cut piece k (front ++ back)) count
    ∙ cut-add piece m n (front ++ back)
    ∙ ap (λ l. l ++ cut piece n (drop (m * piece) (front ++ back))) (cut-append piece m front back within)
    ∙ ap (λ l. cut piece m front ++ cut piece n l) (drop-append-le (m * piece) front back within)
    ∙ ap (λ k. cut piece m front ++ cut piece k (drop (m * piece) front ++ back)) (sym later)

pub remainder-append : (front back : List ℕ) → remainder (front ++ back) ≡ remainder (remainder front ++ back)
unfolding remainder
remainder-append front back =
    let m = length front / piece in
    let n = (length front % piece + length back) / piece in
    let count : length (front ++ back) / piece ≡ m + n = ap (λ k. k / piece) (length-append front back) ∙ more_pieces piece (length front) (length back) (lit< tt) in
    let within : m * piece ≤ length front = omega (arith, div-add-mod' (length front) piece) in
    let later : length (drop (m * piece) front ++ back) / piece ≡ n =
    ap (λ k. k / piece) (length-append (drop (m * piece) front) back ∙ ap (λ k. k + length back) (length-remainder front)) in
    ap (λ k. drop (k * piece) (front ++ back)) count
    ∙ ap (λ k. drop k (front ++ back)) (grind arith)
    ∙ sym (drop-drop (n * piece) (m * piece) (front ++ back))
    ∙ ap (drop (n * piece)) (drop-append-le (m * piece) front back within)
    ∙ ap (λ k. drop (k * piece) (drop (m * piece) front ++ back)) (sym later)

pub whole_pieces-short : (bytes : List ℕ) → length bytes < 65536 → whole_pieces bytes ≡ []
unfolding whole_pieces
whole_pieces-short bytes short = ap (λ k. cut piece k bytes) (div-eq_of_lt short)

pub remainder-short : (bytes : List ℕ) → length bytes < 65536 → remainder bytes ≡ bytes
unfolding remainder
remainder-short bytes short = ap (λ k. drop (k * piece) bytes) (div-eq_of_lt short)

pub whole_pieces-one : (bytes : List ℕ) → length bytes ≡ 65536 → whole_pieces bytes ≡ bytes ∷ []
unfolding whole_pieces
whole_pieces-one bytes whole =
    ap (λ k. cut piece (k / piece) bytes) whole ∙ ap (λ l. l ∷ []) (take_all piece bytes (omega arith))

pub remainder-one : (bytes : List ℕ) → length bytes ≡ 65536 → remainder bytes ≡ []
unfolding remainder
remainder-one bytes whole = ap (λ k. drop (k / piece * piece) bytes) whole ∙ drop_all piece bytes (omega arith)

-- before any byte was added
pub starts_with_pending : (pending bytes : List ℕ) → length pending < 65536
    → (remainder (pending ++ take 0 bytes) ≡ pending) × (whole_pieces (pending ++ take 0 bytes) ≡ [])
starts_with_pending pending bytes short =
    let same : pending ++ take 0 bytes ≡ pending = append-nil pending in
    (ap remainder same ∙ remainder-short pending short, ap whole_pieces same ∙ whole_pieces-short pending short)

-- a piece becomes whole
pub completes_piece : (pending bytes left : List ℕ) (done room : ℕ) → left ≡ remainder (pending ++ take done bytes)
    → room + length left ≡ 65536 → done + room ≤ length bytes
    → (whole_pieces (pending ++ take (done + room) bytes) ≡ whole_pieces (pending ++ take done bytes) ++ (left ++ take room (drop done bytes)) ∷ [])
    × (remainder (pending ++ take (done + room) bytes) ≡ [])
completes_piece pending bytes left done room is whole within =
    let piece_bytes = take room (drop done bytes) in
    let full : length (left ++ piece_bytes) ≡ 65536 = simp (length-append, length-take, length-drop) (omega arith) in
    let joined : pending ++ take (done + room) bytes ≡ (pending ++ take done bytes) ++ piece_bytes =
    ap (λ l. pending ++ l) (take-add done room bytes) ∙ sym (append_assoc pending (take done bytes) piece_bytes) in (
      ap whole_pieces joined ∙ whole_pieces-append (pending ++ take done bytes) piece_bytes
          ∙ ap (λ l. whole_pieces (pending ++ take done bytes) ++ whole_pieces (l ++ piece_bytes)) (sym is)
          ∙ ap (λ l. whole_pieces (pending ++ take done bytes) ++ l) (whole_pieces-one (left ++ piece_bytes) full),
      ap remainder joined ∙ remainder-append (pending ++ take done bytes) piece_bytes
          ∙ ap (λ l. remainder (l ++ piece_bytes)) (sym is) ∙ remainder-one (left ++ piece_bytes) full,
    )

-- the pieces of a front are the first pieces of the whole
pub pieces_go_on : (pending bytes : List ℕ) (done : ℕ)
    → whole_pieces (pending ++ bytes) ≡ whole_pieces (pending ++ take done bytes) ++ whole_pieces (remainder (pending ++ take done bytes) ++ drop done bytes)
pieces_go_on pending bytes done =
    let joined : pending ++ bytes ≡ (pending ++ take done bytes) ++ drop done bytes =
    ap (λ l. pending ++ l) (sym (take-append-drop done bytes)) ∙ sym (append_assoc pending (take done bytes) (drop done bytes)) in
    ap whole_pieces joined ∙ whole_pieces-append (pending ++ take done bytes) (drop done bytes)

-- what is left completes no piece
pub ends_with_pending : (pending bytes left : List ℕ) (done : ℕ) → left ≡ remainder (pending ++ take done bytes)
    → length left + length (drop done bytes) < 65536
    → (whole_pieces (pending ++ bytes) ≡ whole_pieces (pending ++ take done bytes)) × (remainder (pending ++ bytes) ≡ left ++ drop done bytes)
ends_with_pending pending bytes left done is short =
    let few : length (left ++ drop done bytes) < 65536 = rw length-append short in
    let joined : pending ++ bytes ≡ (pending ++ take done bytes) ++ drop done bytes =
    ap (λ l. pending ++ l) (sym (take-append-drop done bytes)) ∙ sym (append_assoc pending (take done bytes) (drop done bytes)) in (
      pieces_go_on pending bytes done ∙ ap (λ l. whole_pieces (pending ++ take done bytes) ++ whole_pieces (l ++ drop done bytes)) (sym is)
          ∙ ap (λ l. whole_pieces (pending ++ take done bytes) ++ l) (whole_pieces-short (left ++ drop done bytes) few)
          ∙ append-nil (whole_pieces (pending ++ take done bytes)),
      ap remainder joined ∙ remainder-append (pending ++ take done bytes) (drop done bytes)
          ∙ ap (λ l. remainder (l ++ drop done bytes)) (sym is) ∙ remainder-short (left ++ drop done bytes) few,
    )

-- two parts of an output, one after the other
pub two_parts : (pending first second : List ℕ)
    → (whole_pieces (pending ++ (first ++ second)) ≡ whole_pieces (pending ++ first) ++ whole_pieces (remainder (pending ++ first) ++ second))
    × (remainder (pending ++ (first ++ second)) ≡ remainder (remainder (pending ++ first) ++ second))
two_parts pending first second =
    let joined : pending ++ (first ++ second) ≡ (pending ++ first) ++ second = sym (append_assoc pending first second) in
    (ap whole_pieces joined ∙ whole_pieces-append (pending ++ first) second, ap remainder joined ∙ remainder-append (pending ++ first) second)
