use Rattle.std.proofs.Common.{[], ◌∷◌, ◌++◌, subst}
use Rattle.std.proofs.lemmas.Result.{err_from_is_err_and}
use Rattle.select_ports.specs.Streams.{AppendsFront}
use Rattle.event_frame.specs.declared.counts.Counts.{Counts}
use Rattle.event_frame.specs.Event.{end}
use Rattle.event_frame.specs.CountsText.{stats_of}
use Rattle.select_reply.specs.Events.{wrapped_frames}
use Rattle.select_reply.specs.Turns.{last_events}
use Rattle.select_reply.proofs.Framing.{added_then_front, added_two_then_front}
use Rattle.select_reply.proofs.writer.ReplyWriter.finish.Goals as goal

pub returns-in_err-stats-clause-bytes : goal.returns-in_err-stats-clause-bytes
returns-in_err-stats-clause-bytes g c =
    let p = err_from_is_err_and c.from_residual-in_err-stats.result c.from_residual-in_err-stats.ensures.1 in
    rw p.1 (subst (λ (k : Counts). AppendsFront (g.K.FrameSink.written c.args.out.now) (g.K.FrameSink.written c.stats.new.out)
    (wrapped_frames g.K.FrameSink.wrap (last_events c.args.self.now ++ stats_of k ∷ end ∷ [])))
    c.counts-counts.ensures
    (added_then_front g.K.FrameSink.wrap _ _ _ (last_events c.args.self.now) (stats_of c.counts-counts.result) (end ∷ [])
    c.in_ok-flush.ensures.bytes c.in_err-stats.ensures.bytes))

pub returns-in_err-end-clause-bytes : goal.returns-in_err-end-clause-bytes
returns-in_err-end-clause-bytes g c =
    let p = err_from_is_err_and c.from_residual-in_err-end.result c.from_residual-in_err-end.ensures.1 in
    rw p.1 (subst (λ (k : Counts). AppendsFront (g.K.FrameSink.written c.args.out.now) (g.K.FrameSink.written c.end.new.out)
    (wrapped_frames g.K.FrameSink.wrap (last_events c.args.self.now ++ stats_of k ∷ end ∷ [])))
    c.counts-counts.ensures
    (added_two_then_front g.K.FrameSink.wrap _ _ _ _ (last_events c.args.self.now) (stats_of c.counts-counts.result) end
    c.in_ok-flush.ensures.bytes c.in_ok-stats.ensures.bytes c.in_err-end.ensures.bytes))
