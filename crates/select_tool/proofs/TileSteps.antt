-- The replies to tiles, written one after the other.
use Rattle.std.proofs.Common.{◌≡◌, ℕ, ◌+◌, ◌≤◌, Bool, true, false, ◌||◌, List, [], ◌∷◌, ◌++◌, length, map, Option, Some, Result, Err, refl, sym, ap, ◌∙◌, subst, append_assoc, append-nil, drop, get_or, drop-cons, add-one, ◌-◌, ◌<◌}
use Rattle.std.proofs.Math.ListN.{drop_of_length-le}
use Rattle.std.specs.Prelude.{⊤}
use Rattle.std.specs.Io.KnownBytes.{Appends, Keeps}
use Rattle.std.proofs.KnownBytes.{Appends-nil, Appends-trans}
use Rattle.std.proofs.lemmas.Grind.{flat_map-append}
use Rattle.std.proofs.lemmas.List.{map-append}
use Rattle.std.proofs.lemmas.List.Folds.{list_any-append}
use Rattle.select_ports.specs.Streams.{AppendsFront}
use Rattle.select_ports.proofs.Told.{appends-kept, appends-front-after}
use Rattle.select_job.specs.Jobs.{Job}
use Rattle.select_job.specs.Jobs.{with_range}
use Rattle.select_request.specs.declared.request.ScanRange.{ScanRange}
use Rattle.select_reply.specs.declared.outcome.Outcome.{Outcome}
use Rattle.select_request.specs.declared.request.ScanRange.TheVariants.{Between, From}
use Rattle.select_job.specs.declared.asked.Asked.{Asked}
use Rattle.record_stream.specs.Tiling.{Ascend}
use Rattle.select_tool.specs.declared.trouble.Trouble.{Trouble}
use Rattle.select_tool.specs.declared.trouble.Trouble.TheVariants.{OutOfMemory}
use Rattle.select_tool.specs.Replies.{CauseOf, reply_frames, reply_outcome}
use Rattle.select_tool.specs.Tiles.{tile_of, tile_ranges, replies_frames, has_error, any_error, TiledSoFar, WritesSome}

or-false : (a : Bool) → (a || false) ≡ a
or-false true = refl
or-false false = refl

module _ (wrap : List ℕ → List ℕ) (longest : ℕ) (object : List ℕ) (job : Job) where
  frames : List ScanRange → List ℕ
  frames ranges = replies_frames wrap longest object (map (tile_of job) ranges)

  errs : List ScanRange → Bool
  errs ranges = any_error longest object (map (tile_of job) ranges)

  frames-append : (xs ys : List ScanRange) → frames (xs ++ ys) ≡ frames xs ++ frames ys
  unfolding frames
  frames-append xs ys = ap (replies_frames wrap longest object) (map-append (tile_of job) xs ys)
      ∙ flat_map-append (reply_frames wrap longest object) (map (tile_of job) xs) (map (tile_of job) ys)

  frames-one : (range : ScanRange) → frames (range ∷ []) ≡ reply_frames wrap longest object (tile_of job range)
  unfolding frames
  frames-one range = append-nil (reply_frames wrap longest object (tile_of job range))

  frames-cons : (range : ScanRange) (rest : List ScanRange) → frames (range ∷ rest) ≡ reply_frames wrap longest object (tile_of job range) ++ frames rest
  unfolding frames
  frames-cons range rest = refl

  errs-more : (done : List ScanRange) (range : ScanRange) → errs (done ++ range ∷ []) ≡ (errs done || has_error (reply_outcome longest object (tile_of job range)))
  unfolding errs
  errs-more done range =
      let test : Asked → Bool = λ asked. has_error (reply_outcome longest object asked) in
      ap (any_error longest object) (map-append (tile_of job) done (range ∷ []))
      ∙ list_any-append test (map (tile_of job) done) (tile_of job range ∷ [])
      ∙ ap (λ (b : Bool). any_error longest object (map (tile_of job) done) || b) (or-false (test (tile_of job range)))

  pub none_yet : (all : List ScanRange) (before : Option (List ℕ)) → TiledSoFar wrap longest object job all all false before before
  none_yet all before = record { done = []; split = refl; told = refl; written = Appends-nil before }

  module _ (all rest : List ScanRange) (range : ScanRange) (erred : Bool) (a b c : Option (List ℕ)) (so_far : TiledSoFar wrap longest object job all (range ∷ rest) erred a b) where
    written_so : Appends a b (frames so_far.done)
    unfolding frames
    written_so = so_far.written

    all_frames : frames all ≡ frames so_far.done ++ (reply_frames wrap longest object (tile_of job range) ++ frames rest)
    all_frames = ap frames so_far.split ∙ frames-append so_far.done (range ∷ rest) ∙ ap (λ l. frames so_far.done ++ l) (frames-cons range rest)

    more_frames : frames (so_far.done ++ range ∷ []) ≡ frames so_far.done ++ reply_frames wrap longest object (tile_of job range)
    more_frames = frames-append so_far.done (range ∷ []) ∙ ap (λ l. frames so_far.done ++ l) (frames-one range)

    pub one_more : (outcome : Outcome) → outcome ≡ reply_outcome longest object (tile_of job range) → Appends b c (reply_frames wrap longest object (tile_of job range))
        → TiledSoFar wrap longest object job all rest (erred || has_error outcome) a c
    unfolding frames errs
    one_more outcome is more = record {
      done = so_far.done ++ range ∷ [];
      split = so_far.split ∙ sym (append_assoc so_far.done (range ∷ []) rest);
      told = ap (λ (o : Outcome). erred || has_error o) is ∙ ap (λ (e : Bool). e || has_error (reply_outcome longest object (tile_of job range))) so_far.told ∙ sym (errs-more so_far.done range);
      written = subst (Appends a c) (sym more_frames) (Appends-trans a b c (frames so_far.done) _ written_so more);
    }

    pub cut_short : AppendsFront b c (reply_frames wrap longest object (tile_of job range)) → AppendsFront a c (replies_frames wrap longest object (map (tile_of job) all))
    unfolding frames
    cut_short front = subst (AppendsFront a c) (sym all_frames) (appends-front-after a b c (frames so_far.done) (reply_frames wrap longest object (tile_of job range)) (frames rest) written_so front)

    pub to_reply : Keeps b c → WritesSome wrap longest object (map (tile_of job) all) a c
    unfolding frames
    to_reply kept = record {
      done = map (tile_of job) so_far.done;
      rest = map (tile_of job) (range ∷ rest);
      split = ap (map (tile_of job)) so_far.split ∙ map-append (tile_of job) so_far.done (range ∷ rest);
      written = appends-kept a b c (frames so_far.done) written_so kept;
    }

  module _ (all : List ScanRange) (erred : Bool) (a b : Option (List ℕ)) (so_far : TiledSoFar wrap longest object job all [] erred a b) where
    done_all : all ≡ so_far.done
    done_all = so_far.split ∙ append-nil so_far.done

    pub all_written : Appends a b (replies_frames wrap longest object (map (tile_of job) all)) × (erred ≡ any_error longest object (map (tile_of job) all))
    all_written = (
      subst (λ (l : List ScanRange). Appends a b (replies_frames wrap longest object (map (tile_of job) l))) (sym done_all) so_far.written,
      so_far.told ∙ ap (λ (l : List ScanRange). any_error longest object (map (tile_of job) l)) (sym done_all),
    )

-- ---- cuts, one after the other

-- the cuts that are left
cut_ahead : (cuts : List ℕ) (i : ℕ) → i < length cuts → drop i cuts ≡ get_or cuts i 0 ∷ drop (i + 1) cuts
cut_ahead cuts i inside = drop-cons cuts i 0 inside ∙ ap (λ n. get_or cuts i 0 ∷ drop n cuts) (sym (add-one i))

-- the ranges that are left begin with the one up to the next cut
pub range_ahead : (first : ℕ) (cuts : List ℕ) (i : ℕ) → i < length cuts
    → tile_ranges first (drop i cuts) ≡ Between first (get_or cuts i 0 - 1) ∷ tile_ranges (get_or cuts i 0) (drop (i + 1) cuts)
range_ahead first cuts i inside = ap (tile_ranges first) (cut_ahead cuts i inside)

-- or it is the last one
pub range_last : (first : ℕ) (cuts : List ℕ) (i : ℕ) → length cuts ≤ i → tile_ranges first (drop i cuts) ≡ From first ∷ []
range_last first cuts i over = ap (tile_ranges first) (drop_of_length-le cuts over)

pub ascend_ahead : (first : ℕ) (cuts : List ℕ) (i : ℕ) → i < length cuts → Ascend first (drop i cuts)
    → (first < get_or cuts i 0) × Ascend (get_or cuts i 0) (drop (i + 1) cuts)
ascend_ahead first cuts i inside up = subst (Ascend first) (cut_ahead cuts i inside) up

-- a query whose range was set asks the same of a tile
pub same_tile : (job now : Job) (range : ScanRange) → now ≡ with_range job now.request.range → tile_of now range ≡ tile_of job range
same_tile job now range is = ap (λ (r : Job). tile_of r range) is

pub same_after : (job now next : Job) (range : ScanRange) → now ≡ with_range job now.request.range → next ≡ with_range now (Some range)
    → next ≡ with_range job next.request.range
same_after job now next range is set =
    let new : next ≡ with_range job (Some range) = set ∙ ap (λ (r : Job). with_range r (Some range)) is in
    let ranges : next.request.range ≡ Some range = ap (λ (j : Job). j.request.range) set in
    new ∙ ap (with_range job) (sym ranges)

-- the next range is answered by a query whose range is set to it
module _ (wrap : List ℕ → List ℕ) (longest : ℕ) (object : List ℕ) (job now : Job) (all rest left : List ScanRange) (range : ScanRange) (erred : Bool) (a b c : Option (List ℕ))
    (so_far : TiledSoFar wrap longest object job all left erred a b) (ahead : left ≡ range ∷ rest) (is : now ≡ with_range job now.request.range) where
  begun : TiledSoFar wrap longest object job all (range ∷ rest) erred a b
  begun = subst (λ (l : List ScanRange). TiledSoFar wrap longest object job all l erred a b) ahead so_far

  same : tile_of now range ≡ tile_of job range
  same = same_tile job now range is

  pub range_on : (outcome : Outcome) (failed : Bool) → failed ≡ has_error outcome → outcome ≡ reply_outcome longest object (tile_of now range)
      → Appends b c (reply_frames wrap longest object (tile_of now range)) → TiledSoFar wrap longest object job all rest (erred || failed) a c
  range_on outcome failed told ended written =
      subst (λ (f : Bool). TiledSoFar wrap longest object job all rest (erred || f) a c) (sym told)
      (one_more wrap longest object job all rest range erred a b c begun outcome
      (ended ∙ ap (reply_outcome longest object) same)
      (subst (λ (t : Asked). Appends b c (reply_frames wrap longest object t)) same written))

  pub range_short : AppendsFront b c (reply_frames wrap longest object (tile_of now range)) → AppendsFront a c (replies_frames wrap longest object (map (tile_of job) all))
  range_short front = cut_short wrap longest object job all rest range erred a b c begun (subst (λ (t : Asked). AppendsFront b c (reply_frames wrap longest object t)) same front)

  pub range_none : Keeps b c → WritesSome wrap longest object (map (tile_of job) all) a c
  range_none kept = to_reply wrap longest object job all rest range erred a b c begun kept

-- where memory was refused, nothing of the reply was written
abbrev Troubled : Trouble → Result Bool Trouble
Troubled trouble = Err trouble

pub memory_kept : (trouble : Trouble) (output store kept : Type 0) → Troubled trouble ≡ Troubled OutOfMemory → CauseOf trouble ⊥ ⊥ output store kept ⊤ → kept
memory_kept trouble output store kept is cause =
    let same : trouble ≡ OutOfMemory = cc in
    subst (λ (t : Trouble). CauseOf t ⊥ ⊥ output store kept ⊤) same cause
