-- A piece and the Progress event behind it.
use Rattle.std.proofs.Common.{◌≡◌, [], ◌∷◌, ◌++◌, sym, ap, ◌∙◌, subst, length}
use Rattle.std.specs.Io.KnownBytes.{Appends}
use Rattle.select_ports.specs.Streams.{AddsAll}
use Rattle.event_frame.specs.Event.{Event, records}
use Rattle.select_reply.specs.Events.{wrapped_frames}
use Rattle.select_reply.specs.Begun.{Begun, counted}
use Rattle.select_reply.specs.Turns.{progress_behind, piece_complete}
use Rattle.select_reply.proofs.Framing.{events_then_all, wrapped_frames-one, counted_nothing}
use Rattle.select_reply.proofs.writer.ReplyWriter.complete.Goals as goal

pub returns-clause-bytes : goal.returns-clause-bytes
returns-clause-bytes g c = events_then_all g.K.FrameSink.wrap _ _ _ (records (c.args.self.now.pending ++ c.args.bytes.now) ∷ []) _ _
    (subst (Appends (g.K.FrameSink.written c.args.out.now) (g.K.FrameSink.written c.write_piece.new.out)) (sym (wrapped_frames-one g.K.FrameSink.wrap _)) c.in_ok-write_piece.ensures.bytes)
    (subst (λ n. AddsAll (g.K.FrameSink.written c.write_piece.new.out) (g.K.FrameSink.written c.tell_progress.new.out) c.tell_progress.result
    (wrapped_frames g.K.FrameSink.wrap (progress_behind c.args.self.now.progress c.args.self.now.scanned n)))
    (counted_nothing c.args.self.now.cut 65536)
    (subst (λ (b : Begun). AddsAll (g.K.FrameSink.written c.write_piece.new.out) (g.K.FrameSink.written c.tell_progress.new.out) c.tell_progress.result
    (wrapped_frames g.K.FrameSink.wrap (progress_behind b.progress b.scanned (counted b.cut (length b.pending)))))
    c.in_ok-write_piece.ensures.after c.tell_progress.ensures.bytes))
