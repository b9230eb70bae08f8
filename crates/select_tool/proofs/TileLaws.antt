-- What `tile` writes and reads, of the told object and body.
use Rattle.std.proofs.Common.{◌≡◌, ℕ, suc, ◌+◌, ◌*◌, ◌≤◌, Bool, true, false, List, [], ◌∷◌, length, map, Option, None, Some, Result, Ok, Err, IfSome, refl, sym, ap, ◌∙◌, subst, add-one, arith, if◌then◌else◌}
use Rattle.std.proofs.Math.Nat.{suc-mul}
use Rattle.std.specs.Prelude.{IfOk}
use Rattle.std.proofs.lemmas.List.Sums.{sum_by-cons}
use Rattle.select_ports.specs.Stored.{Objects, Opened, OpensName}
use Rattle.line_window.specs.Sliding.{Tells}
use Rattle.select_request.specs.Values.{allows_range}
use Rattle.select_request.specs.declared.request.Input.{Input}
use Rattle.select_job.specs.Jobs.{Job}
use Rattle.select_request.specs.declared.request.ScanRange.{ScanRange}
use Rattle.select_job.specs.declared.asked.Asked.{Asked}
use Rattle.select_job.specs.declared.asked.Asked.TheVariants.{Refused, Asks}
use Rattle.select_reply.specs.declared.code.Code.TheVariants.{UnsupportedScanRangeInput}
use Rattle.select_job.specs.Prepared.{Prepares}
use Rattle.record_stream.specs.Tiling.{Ascend}
use Rattle.select_tool.specs.declared.trouble.Trouble.{Trouble}
use Rattle.object_plan.specs.Columns.{uses_header, header_once}
use Rattle.select_tool.specs.Replies.{IfTold, TookTwice, most_read_of}
use Rattle.select_tool.specs.Tiles.{tile_of, tile_ranges, tiles_of, most_read_of_all, WritesReplies, TookTwiceATile}
use Rattle.select_tool.specs.Whole.{TilesMakeWhole, EachTilingMakesWhole, Tiled}

-- ---- what is read

header_fits : (input : Input) (size : ℕ) → header_once input size ≤ size
header_fits input size =
    let P : Bool → Type 0 = λ b. (if b then size else 0) ≤ size in
    elim (uses_header input) as P [ true ↦ omega arith | false ↦ omega arith ]

-- no byte is read more often than twice for one reply
read_twice : (longest : ℕ) (size : ℕ) (asked : Asked) → most_read_of longest size asked ≤ 2 * size
read_twice longest size (Refused code at) = omega arith
read_twice longest size (Asks job) = omega (arith, header_fits job.request.input size)

pub most-cons : (longest : ℕ) (size : ℕ) (job : Job) (range : ScanRange) (rest : List ScanRange)
    → most_read_of_all longest size (map (tile_of job) (range ∷ rest))
    ≡ most_read_of longest size (tile_of job range) + most_read_of_all longest size (map (tile_of job) rest)
most-cons longest size job range rest = sum_by-cons (most_read_of longest size) (tile_of job range) (map (tile_of job) rest)

pub read_on : (longest : ℕ) (size : ℕ) (job : Job) (range : ScanRange) (rest : List ScanRange) (before now upto : ℕ)
    → now ≤ before + most_read_of longest size (tile_of job range)
    → before + most_read_of_all longest size (map (tile_of job) (range ∷ rest)) ≤ upto → now + most_read_of_all longest size (map (tile_of job) rest) ≤ upto
read_on longest size job range rest before now upto near so_far = omega (arith, near, so_far, most-cons longest size job range rest)

most_within : (longest : ℕ) (size : ℕ) (asks : List Asked) → most_read_of_all longest size asks ≤ length asks * (2 * size)
most_within longest size [] = omega arith
most_within longest size (asked ∷ asks) =
    let here = sum_by-cons (most_read_of longest size) asked asks in
    let once = read_twice longest size asked in
    let rest = most_within longest size asks in
    let grown : suc (length asks) * (2 * size) ≡ length asks * (2 * size) + 2 * size = suc-mul (length asks) (2 * size) in
    omega (arith, here, once, rest, grown)

ranges_many : (job : Job) (first : ℕ) (cuts : List ℕ) → length (map (tile_of job) (tile_ranges first cuts)) ≡ length cuts + 1
ranges_many job first [] = omega arith
ranges_many job first (cut ∷ cuts) =
    let rest = ranges_many job cut cuts in
    let grown : suc (length (map (tile_of job) (tile_ranges cut cuts))) ≡ suc (length cuts) + 1 = omega (arith, rest) in
    grown

one_within : (longest : ℕ) (size : ℕ) (asked : Asked) (cuts : List ℕ) → most_read_of_all longest size (asked ∷ []) ≤ (length cuts + 1) * (2 * size)
one_within longest size asked cuts =
    let one = most_within longest size (asked ∷ []) in
    let grown : (length cuts + 1) * (2 * size) ≡ length cuts * (2 * size) + 2 * size = ap (λ n. n * (2 * size)) (add-one (length cuts)) ∙ suc-mul (length cuts) (2 * size) in
    let single : 1 * (2 * size) ≡ 2 * size = omega arith in
    omega (arith, one, grown, single)

-- no byte is read more often than twice for one tile
pub most_of_tiles : (longest : ℕ) (size : ℕ) (asked : Asked) (cuts : List ℕ) → most_read_of_all longest size (tiles_of asked cuts) ≤ (length cuts + 1) * (2 * size)
most_of_tiles longest size (Refused code at) cuts = one_within longest size (Refused code at) cuts
most_of_tiles longest size (Asks job) cuts =
    let P : Bool → Type 0 = λ b. most_read_of_all longest size (if b then map (tile_of job) (tile_ranges 0 cuts) else Refused UnsupportedScanRangeInput 0 ∷ []) ≤ (length cuts + 1) * (2 * size) in
    elim (allows_range job.request.input) as P [
      | true ↦ subst (λ n. most_read_of_all longest size (map (tile_of job) (tile_ranges 0 cuts)) ≤ n * (2 * size)) (ranges_many job 0 cuts)
          (most_within longest size (map (tile_of job) (tile_ranges 0 cuts)))
      | false ↦ one_within longest size (Refused UnsupportedScanRangeInput 0) cuts
    ]

-- ---- of the object that was opened, and of the body that was read

body_told : (left : Option (List ℕ)) (P : List ℕ → Type 0) → ((body : List ℕ) → left ≡ Some body → P body) → IfSome left P
body_told None P each = tt
body_told (Some body) P each = each body refl

pub about_opened : (held : Option Objects) (left : Option (List ℕ)) (name : List ℕ) (size : ℕ) (opened : Opened) (P : List ℕ → List ℕ → Type 0)
    → OpensName held name size opened → ((object body : List ℕ) → Tells opened object → left ≡ Some body → P object body) → IfTold held left name P
about_opened None left name size opened P opens each = tt
about_opened (Some objects) left name size opened P opens each =
    let object = opens.0 in
    let tells : Tells opened object = opens.3 ∙ ap (λ n. Some (n, Some object)) (sym opens.2) in
    subst (λ (o : Option (List ℕ)). IfSome o (λ object. IfSome left (λ body. P object body))) (sym opens.1)
    (body_told left (P object) (λ body is. each object body tells is))

pub prepared : (left : Option (List ℕ)) (asked : Asked) (body : List ℕ) → IfSome left (λ body. Prepares body asked) → left ≡ Some body → Prepares body asked
prepared left asked body read is = subst (λ (o : Option (List ℕ)). IfSome o (λ body. Prepares body asked)) is read

pub tiles_make : EachTilingMakesWhole → (longest : ℕ) (object cuts : List ℕ) (asked : Asked) → Ascend 0 cuts → TilesMakeWhole longest object cuts asked
tiles_make law longest object cuts (Refused code at) up = tt
tiles_make law longest object cuts (Asks job) up = λ allowed. law longest object job cuts allowed up

module _ (longest : ℕ) (held : Option Objects) (left : Option (List ℕ)) (name : List ℕ) (size : ℕ) (opened : Opened) (cuts : List ℕ) (asked : Asked) (before now : Option (List ℕ))
    (opens : OpensName held name size opened) (read : IfSome left (λ body. Prepares body asked)) where
  pub all_tiled : EachTilingMakesWhole → Ascend 0 cuts → (result : Result Bool Trouble)
      → ((object : List ℕ) → Tells opened object → WritesReplies (λ frame. frame) longest object (tiles_of asked cuts) before now result)
      → IfOk result (λ erred. IfTold held left name (λ object body. Tiled longest object body cuts erred before now))
  all_tiled law up (Ok erred) written = about_opened held left name size opened _ opens (λ object body tells is. record {
    asked = asked;
    prepared = prepared left asked body read is;
    written = (written object tells).0;
    told = (written object tells).1;
    whole = tiles_make law longest object cuts asked up;
  })
  all_tiled law up (Err trouble) written = tt

pub once_a_tile : (longest : ℕ) (size : ℕ) (told : Option (List ℕ)) (opened : Opened) (cuts : List ℕ) (asked : Asked) (before now : ℕ)
    → opened ≡ Some (size, told) → now ≤ before + most_read_of_all longest size (tiles_of asked cuts) → TookTwiceATile opened cuts before now
once_a_tile longest size told opened cuts asked before now is near =
    subst (λ (o : Opened). TookTwiceATile o cuts before now) (sym is) (omega (arith, near, most_of_tiles longest size asked cuts))

pub once_opened : (longest : ℕ) (held : Option Objects) (name : List ℕ) (size : ℕ) (opened : Opened) (cuts : List ℕ) (asked : Asked) (before first now : ℕ)
    → OpensName held name size opened → first ≡ before → now ≤ first + most_read_of_all longest size (tiles_of asked cuts) → TookTwiceATile opened cuts before now
once_opened longest None name size opened cuts asked before first now opens unread near =
    once_a_tile longest size None opened cuts asked before now opens (omega (arith, unread, near))
once_opened longest (Some objects) name size opened cuts asked before first now opens unread near =
    once_a_tile longest size (Some opens.0) opened cuts asked before now opens.3 (omega (arith, unread, near))

took_twice : (longest : ℕ) (size : ℕ) (told : Option (List ℕ)) (opened : Opened) (asked : Asked) (before now : ℕ)
    → opened ≡ Some (size, told) → now ≤ before + most_read_of longest size asked → TookTwice opened before now
took_twice longest size told opened asked before now is near =
    subst (λ (o : Opened). TookTwice o before now) (sym is) (omega (arith, near, read_twice longest size asked))

pub twice_opened : (longest : ℕ) (held : Option Objects) (name : List ℕ) (size : ℕ) (opened : Opened) (asked : Asked) (before first now : ℕ)
    → OpensName held name size opened → first ≡ before → now ≤ first + most_read_of longest size asked → TookTwice opened before now
twice_opened longest None name size opened asked before first now opens unread near =
    took_twice longest size None opened asked before now opens (omega (arith, unread, near))
twice_opened longest (Some objects) name size opened asked before first now opens unread near =
    took_twice longest size (Some opens.0) opened asked before now opens.3 (omega (arith, unread, near))
