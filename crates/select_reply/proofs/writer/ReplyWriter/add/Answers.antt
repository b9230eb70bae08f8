-- The loop over the pieces that become whole.
use Rattle.std.proofs.Common.{◌≡◌, ℕ, ◌+◌, ◌-◌, ◌<◌, ◌≤◌, List, [], ◌∷◌, ◌++◌, length, take, drop, refl, sym, ap, ◌∙◌, subst, arith, length-drop}
use Rattle.std.proofs.lemmas.List.{take_all}
use Rattle.std.proofs.lemmas.Result.{err_from_is_err_and}
use Rattle.std.specs.Io.KnownBytes.{Appends}
use Rattle.std.proofs.KnownBytes.{Appends-nil}
use Rattle.select_ports.specs.Streams.{AppendsFront}
use Rattle.event_frame.specs.Event.{Event}
use Rattle.select_reply.specs.Pieces.{whole_pieces, remainder}
use Rattle.select_reply.specs.Events.{wrapped_frames}
use Rattle.select_reply.specs.Begun.{Begun}
use Rattle.select_reply.specs.Turns.{grown_events, cut_after, piece_and_progress, piece_complete}
use Rattle.select_reply.proofs.Framing.{events_then, events_then_front, front_of_more, same_part, one_more_piece, grown-append, cut_after-append, begun_is}
use Rattle.select_reply.proofs.Cutting.{starts_with_pending, completes_piece, pieces_go_on, ends_with_pending}
use Rattle.select_reply.proofs.writer.ReplyWriter.add.Goals as goal

pub pieces-init : goal.pieces-init
pieces-init g c =
    let b = c.args.self.now in
    let begun = starts_with_pending b.pending c.args.bytes.now (omega (arith, c.room-room.ensures.whole, c.room-room.ensures.some)) in
    record {
      within = omega arith;
      some = c.room-room.ensures.some;
      room = c.room-room.ensures.whole;
      pending = sym begun.0;
      cut = ap (cut_after b.cut) (sym begun.1);
      written = subst (λ (l : List (List ℕ)). Appends (g.K.FrameSink.written c.args.out.now) (g.K.FrameSink.written c.args.out.now) (wrapped_frames g.K.FrameSink.wrap (grown_events b.progress b.scanned b.cut l)))
          (sym begun.1) (Appends-nil (g.K.FrameSink.written c.args.out.now));
      scanned = refl;
      progress = refl;
      left = refl;
      faults = omega arith;
      rest = refl;
    }

pub returns-in_err-complete-clause-bytes : goal.returns-in_err-complete-clause-bytes
returns-in_err-complete-clause-bytes g c =
    let p = err_from_is_err_and c.from_residual.result c.from_residual.ensures.1 in
    let v = c.pieces in
    let b = c.args.self.now in
    let bytes = c.args.bytes.now in
    let within : v.done + v.room ≤ length bytes = omega (arith, c.pieces-test.true, v.invariant.within) in
    let step = completes_piece b.pending bytes v.self.pending v.done v.room v.invariant.pending v.invariant.room within in
    let before = grown_events b.progress b.scanned b.cut (whole_pieces (b.pending ++ take v.done bytes)) in
    let this = piece_and_progress v.self (take (v.done + v.room - v.done) (drop v.done bytes)) in
    let here = one_more_piece b v.self (whole_pieces (b.pending ++ take v.done bytes)) (whole_pieces (b.pending ++ take (v.done + v.room) bytes)) (take v.room (drop v.done bytes))
    (take (v.done + v.room - v.done) (drop v.done bytes)) step.0 (same_part bytes v.done v.room) v.invariant.cut v.invariant.scanned v.invariant.progress in
    let all = ap (grown_events b.progress b.scanned b.cut) (pieces_go_on b.pending bytes (v.done + v.room))
    ∙ grown-append b.progress b.scanned b.cut (whole_pieces (b.pending ++ take (v.done + v.room) bytes)) (whole_pieces (remainder (b.pending ++ take (v.done + v.room) bytes) ++ drop (v.done + v.room) bytes)) in
    let later = grown_events b.progress b.scanned (cut_after b.cut (whole_pieces (b.pending ++ take (v.done + v.room) bytes))) (whole_pieces (remainder (b.pending ++ take (v.done + v.room) bytes) ++ drop (v.done + v.room) bytes)) in
    rw p.1
    (subst (λ (l : List Event). AppendsFront (g.K.FrameSink.written c.args.out.now) (g.K.FrameSink.written c.complete.new.out) (wrapped_frames g.K.FrameSink.wrap l))
    (sym (all ∙ ap (λ (l : List Event). l ++ later) here))
    (front_of_more g.K.FrameSink.wrap _ _ (before ++ this) later
    (events_then_front g.K.FrameSink.wrap _ _ _ before this v.invariant.written c.in_err-complete.ensures.bytes)))

pub pieces-preserved : goal.pieces-preserved
pieces-preserved g c =
    let v = c.pieces in
    let b = c.args.self.now in
    let bytes = c.args.bytes.now in
    let within : v.done + v.room ≤ length bytes = omega (arith, c.pieces-test.true, v.invariant.within) in
    let step = completes_piece b.pending bytes v.self.pending v.done v.room v.invariant.pending v.invariant.room within in
    let xs = whole_pieces (b.pending ++ take v.done bytes) in
    let ys = whole_pieces (b.pending ++ take (v.done + v.room) bytes) in
    let here = one_more_piece b v.self xs ys (take v.room (drop v.done bytes))
    (take (v.done + v.room - v.done) (drop v.done bytes)) step.0 (same_part bytes v.done v.room) v.invariant.cut v.invariant.scanned v.invariant.progress in
    let after = c.in_ok-complete.ensures.after in
    record {
      within = within;
      some = omega arith;
      room = rw after refl;
      pending = ap (λ (s : Begun). s.pending) after ∙ sym step.1;
      cut = ap (λ (s : Begun). s.cut) after ∙ ap (λ n. cut_after n ((v.self.pending ++ take v.room (drop v.done bytes)) ∷ [])) v.invariant.cut
          ∙ sym (cut_after-append b.cut xs ((v.self.pending ++ take v.room (drop v.done bytes)) ∷ [])) ∙ ap (cut_after b.cut) (sym step.0);
      written = subst (λ (l : List Event). Appends (g.K.FrameSink.written c.args.out.now) (g.K.FrameSink.written c.complete.new.out) (wrapped_frames g.K.FrameSink.wrap l))
          (sym here)
          (events_then g.K.FrameSink.wrap _ _ _ (grown_events b.progress b.scanned b.cut xs) (piece_and_progress v.self (take (v.done + v.room - v.done) (drop v.done bytes))) v.invariant.written c.in_ok-complete.ensures.bytes);
      scanned = ap (λ (s : Begun). s.scanned) after ∙ v.invariant.scanned;
      progress = ap (λ (s : Begun). s.progress) after ∙ v.invariant.progress;
      left = ap (λ (s : Begun). s.left) after ∙ v.invariant.left;
      faults = omega (arith, v.invariant.faults, c.in_ok-complete.ensures.faults.kept);
      rest = c.in_ok-complete.ensures.rest ∙ v.invariant.rest;
    }

pub returns-clause-bytes : goal.returns-clause-bytes
returns-clause-bytes g c =
    let v = c.pieces in
    let b = c.args.self.now in
    let short : length v.self.pending + length (drop v.done c.args.bytes.now) < 65536 =
    rw length-drop (omega (arith, c.pieces-test.false, v.invariant.room)) in
    let last = ends_with_pending b.pending c.args.bytes.now v.self.pending v.done v.invariant.pending short in
    subst (λ (l : List (List ℕ)). Appends (g.K.FrameSink.written c.args.out.now) (g.K.FrameSink.written v.out) (wrapped_frames g.K.FrameSink.wrap (grown_events b.progress b.scanned b.cut l)))
    (sym last.0) v.invariant.written

pub returns-clause-after : goal.returns-clause-after
returns-clause-after g c =
    let v = c.pieces in
    let b = c.args.self.now in
    let short : length v.self.pending + length (drop v.done c.args.bytes.now) < 65536 =
    rw length-drop (omega (arith, c.pieces-test.false, v.invariant.room)) in
    let last = ends_with_pending b.pending c.args.bytes.now v.self.pending v.done v.invariant.pending short in
    let rest : take (length c.args.bytes.now - v.done) (drop v.done c.args.bytes.now) ≡ drop v.done c.args.bytes.now =
    take_all _ _ (rw length-drop (omega arith)) in
    let kept = c.keep.ensures in
    begun_is c.keep.new.self _ _ _ _ _
    (ap (λ (s : Begun). s.pending) kept ∙ ap (λ l. v.self.pending ++ l) rest ∙ sym last.1)
    (ap (λ (s : Begun). s.cut) kept ∙ v.invariant.cut ∙ ap (cut_after b.cut) (sym last.0))
    (ap (λ (s : Begun). s.scanned) kept ∙ v.invariant.scanned)
    (ap (λ (s : Begun). s.progress) kept ∙ v.invariant.progress)
    (ap (λ (s : Begun). s.left) kept ∙ v.invariant.left)
