use Rattle.std.proofs.Common.{arith, ◌≡◌, ◌≤◌, length, take, length-take, List, ℕ, ap, refl}
use Rattle.event_frame.specs.Reader.{ReaderState}
use Rattle.select_tool.proofs.EndingLaws.{end_before, fresh_ready, fresh_came, came_piece, part_listed, finish_cause, input_cause, read_cause, piece_failed, piece_part, piece_cause, rose_more}
use Rattle.select_tool.proofs.replies.list_all.Goals as goal

length-front : (n : ℕ) (l : List ℕ) → n ≤ length l → length (take n l) ≡ n
length-front n l within = rw length-take (omega arith)

pub pieces-init : goal.pieces-init
pieces-init g c = record {
  buffer = refl;
  limit = omega arith;
  ready = fresh_ready c.args.frames.now c.requires.frames;
  count = ap (λ (f : ReaderState). f.taken) c.requires.frames;
  came = fresh_came c.args.frames.now c.args.lister.now _ _ c.requires.frames;
  rose = omega arith;
  input_taken = omega arith;
  input_faults = omega arith;
  out_faults = omega arith;
}

pub returns-in-Err-clause-front : goal.returns-in-Err-clause-front
returns-in-Err-clause-front g c =
    part_listed c.pieces.taken c.pieces.frames.kept c.args.lister.now c.pieces.lister _ _ _ _ c.pieces.invariant.came

pub returns-in-Err-clause-cause : goal.returns-in-Err-clause-cause
returns-in-Err-clause-cause g c =
    let i = c.pieces.invariant in
    let e = c.in-Err.ensures.cause in
    input_cause c.in-Err.trouble _ _ _ _ e.0
    (read_cause c.pieces.taken c.pieces.frames c.args.lister.now c.pieces.lister _ _ _ _ _ _ _ _ _ _ i.came i.ready i.rose i.input_faults e.1)

pub returns-then-count-eq0-clause-cause : goal.returns-then-count-eq0-clause-cause
returns-then-count-eq0-clause-cause g c =
    let i = c.pieces.invariant in
    finish_cause c.pieces.taken c.pieces.frames c.args.lister.now c.pieces.lister _ _ _ _ c.finish.result _ _ _ i.came i.ready i.limit c.requires.ended
    (end_before _ _ (take c.in-Ok.count c.read_piece.new.buffer) c.in-Ok.ensures.bytes
    (ap (λ n. take n c.read_piece.new.buffer) c.if-count-eq0.true) (c.in-Ok.ensures.end c.if-count-eq0.true))
    c.finish.ensures

pub pieces-preserved : goal.pieces-preserved
pieces-preserved g c =
    let i = c.pieces.invariant in
    let r = c.in-Ok.ensures in
    let f = c.in-Ok-feed.ensures.feeds in
    let size : length (take c.in-Ok.count c.read_piece.new.buffer) ≡ c.in-Ok.count =
    length-front c.in-Ok.count c.read_piece.new.buffer (omega (arith, r.within, c.read_piece.auto.buffer)) in
    record {
      buffer = omega (arith, i.buffer, c.read_piece.auto.buffer);
      limit = r.limit;
      ready = f.ready;
      count = omega (arith, f.taken, i.count, size);
      came = came_piece c.pieces.taken c.in-Ok.count c.pieces.frames c.feed.new.frames (take c.in-Ok.count c.read_piece.new.buffer) c.args.lister.now c.pieces.lister
          c.feed.new.lister _ _ _ _ _ _ i.came r.bytes size f;
      rose = omega (arith, i.rose, r.taken);
      input_taken = omega (arith, i.input_taken, r.taken);
      input_faults = omega (arith, i.input_faults, c.read_piece.ensures.faults);
      out_faults = omega (arith, i.out_faults, c.feed.ensures.faults);
    }

pub returns-in-Err-feed-clause-front : goal.returns-in-Err-feed-clause-front
returns-in-Err-feed-clause-front g c =
    let i = c.pieces.invariant in
    let r = c.in-Ok.ensures in
    let size : length (take c.in-Ok.count c.read_piece.new.buffer) ≡ c.in-Ok.count =
    length-front c.in-Ok.count c.read_piece.new.buffer (omega (arith, r.within, c.read_piece.auto.buffer)) in
    piece_part c.in-Err-feed.trouble _ _ _ _ _
    (piece_failed c.in-Err-feed.trouble c.pieces.taken c.pieces.frames (take c.in-Ok.count c.read_piece.new.buffer) c.args.lister.now c.pieces.lister _ _ _ _ _ _
    i.came i.count r.bytes (omega (arith, size, r.limit)) c.in-Err-feed.ensures.feeds)

pub returns-in-Err-feed-clause-cause : goal.returns-in-Err-feed-clause-cause
returns-in-Err-feed-clause-cause g c =
    let i = c.pieces.invariant in
    let r = c.in-Ok.ensures in
    let size : length (take c.in-Ok.count c.read_piece.new.buffer) ≡ c.in-Ok.count =
    length-front c.in-Ok.count c.read_piece.new.buffer (omega (arith, r.within, c.read_piece.auto.buffer)) in
    piece_cause c.in-Err-feed.trouble _ _ _ _ _ _ _ _
    (piece_failed c.in-Err-feed.trouble c.pieces.taken c.pieces.frames (take c.in-Ok.count c.read_piece.new.buffer) c.args.lister.now c.pieces.lister _ _ _ _ _ _
    i.came i.count r.bytes (omega (arith, size, r.limit)) c.in-Err-feed.ensures.feeds)
    (λ is. rose_more _ _ _ i.out_faults (c.feed.ensures.cause (cc)))
