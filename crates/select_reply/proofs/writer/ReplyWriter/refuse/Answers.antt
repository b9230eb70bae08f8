use Rattle.std.proofs.Common.{◌∙◌, [], subst}
use Rattle.std.proofs.lemmas.Result.{err_from_is_err_and}
use Rattle.std.specs.Io.KnownBytes.{Appends}
use Rattle.select_ports.specs.Streams.{AppendsFront}
use Rattle.event_frame.specs.Event.{Event, frame_of}
use Rattle.select_reply.specs.Events.{error_event}
use Rattle.select_reply.specs.Turns.{last_events}
use Rattle.select_reply.proofs.Framing.{added_then, added_then_front, error_is}
use Rattle.select_reply.proofs.writer.ReplyWriter.refuse.Goals as goal

pub returns-in_err-error-clause-bytes : goal.returns-in_err-error-clause-bytes
returns-in_err-error-clause-bytes g c =
    let p = err_from_is_err_and c.from_residual-in_err-error.result c.from_residual-in_err-error.ensures.1 in
    let is = error_is c.args.code c.args.at _ _ c.text.ensures.text (c.deref.ensures.0 ∙ c.message.ensures) in
    rw p.1 (added_then_front g.K.FrameSink.wrap _ _ _ (last_events c.args.self.now) (error_event c.args.code c.args.at) [] c.in_ok-flush.ensures.bytes
    (subst (λ (e : Event). AppendsFront (g.K.FrameSink.written c.flush.new.out) (g.K.FrameSink.written c.error.new.out) (g.K.FrameSink.wrap (frame_of e))) is
    c.in_err-error.ensures.bytes))

pub returns-clause-bytes : goal.returns-clause-bytes
returns-clause-bytes g c =
    let is = error_is c.args.code c.args.at _ _ c.text.ensures.text (c.deref.ensures.0 ∙ c.message.ensures) in
    added_then g.K.FrameSink.wrap _ _ _ (last_events c.args.self.now) (error_event c.args.code c.args.at) c.in_ok-flush.ensures.bytes
    (subst (λ (e : Event). Appends (g.K.FrameSink.written c.flush.new.out) (g.K.FrameSink.written c.error.new.out) (g.K.FrameSink.wrap (frame_of e))) is
    c.in_ok-error.ensures.bytes)
