-- Two parts of an output.
use Rattle.std.proofs.Common.{◌≡◌, ◌++◌, List, sym, ap, ◌∙◌, subst}
use Rattle.std.proofs.lemmas.Result.{err_from_is_err_and}
use Rattle.select_ports.specs.Streams.{AppendsFront, AddsAll}
use Rattle.event_frame.specs.Event.{Event}
use Rattle.select_reply.specs.Events.{wrapped_frames}
use Rattle.select_reply.specs.Begun.{Begun}
use Rattle.select_reply.specs.Turns.{grown, more_events}
use Rattle.select_reply.proofs.Framing.{events_then_all, front_of_more, two_events, two_grown, ok_then}
use Rattle.select_reply.proofs.writer.ReplyWriter.add_both.Goals as goal

pub returns-in_err-add-clause-bytes : goal.returns-in_err-add-clause-bytes
returns-in_err-add-clause-bytes g c =
    let p = err_from_is_err_and c.from_residual.result c.from_residual.ensures.1 in
    let b = c.args.self.now in
    rw p.1 (subst (λ (l : List Event). AppendsFront (g.K.FrameSink.written c.args.out.now) (g.K.FrameSink.written c.add.new.out) (wrapped_frames g.K.FrameSink.wrap l))
    (sym (two_events b c.args.first.now c.args.second.now))
    (front_of_more g.K.FrameSink.wrap _ _ (more_events b c.args.first.now) (more_events (grown b c.args.first.now) c.args.second.now) c.in_err-add.ensures.bytes))

pub returns-clause-bytes : goal.returns-clause-bytes
returns-clause-bytes g c =
    let b = c.args.self.now in
    subst (λ (l : List Event). AddsAll (g.K.FrameSink.written c.args.out.now) (g.K.FrameSink.written c.add-2.new.out) c.add-2.result (wrapped_frames g.K.FrameSink.wrap l))
    (ap (λ (s : Begun). more_events b c.args.first.now ++ more_events s c.args.second.now) c.in_ok-add.ensures.after ∙ sym (two_events b c.args.first.now c.args.second.now))
    (events_then_all g.K.FrameSink.wrap _ _ _ (more_events b c.args.first.now) (more_events c.add.new.self c.args.second.now) c.add-2.result c.in_ok-add.ensures.bytes c.add-2.ensures.bytes)

pub returns-clause-after : goal.returns-clause-after
returns-clause-after g c =
    let b = c.args.self.now in
    ok_then c.add-2.result c.add-2.ensures.after
    (λ is. is ∙ ap (λ (s : Begun). grown s c.args.second.now) c.in_ok-add.ensures.after ∙ two_grown b c.args.first.now c.args.second.now)
