-- The output that reaches the limit, and the end of the reply.
use Rattle.std.proofs.Common.{◌≡◌, true, sym, ap, ◌∙◌, subst, ◌++◌, List}
use Rattle.select_ports.specs.Streams.{AddsAll}
use Rattle.event_frame.specs.Event.{Event}
use Rattle.select_reply.specs.Events.{wrapped_frames}
use Rattle.select_reply.specs.Begun.{Begun, is_full}
use Rattle.select_reply.specs.Turns.{grown, used_one, scanned_more, more_events, end_events, after_output, events_if_full}
use Rattle.select_reply.proofs.Framing.{events_then_all}
use Rattle.select_reply.proofs.Endings.{full_ends}
use Rattle.select_reply.proofs.writer.ReplyWriter.output.Goals as goal

pub returns-then-is_full-clause-bytes : goal.returns-then-is_full-clause-bytes
returns-then-is_full-clause-bytes g c =
    let b = c.args.self.now in
    let bytes = c.args.bytes.now ++ c.args.delimiter.now in
    let scanned = c.count.ensures in
    let state : c.use_one.new.self ≡ after_output b c.args.len bytes =
    c.use_one.ensures ∙ ap used_one (c.in_ok-add_both.ensures.after ∙ ap (λ (s : Begun). grown s bytes) scanned) in
    let full : is_full (after_output b c.args.len bytes).left ≡ true = ap (λ (s : Begun). is_full s.left) (sym state) ∙ sym c.is_full.ensures ∙ c.if-is_full.true in
    subst (λ (l : List Event). AddsAll (g.K.FrameSink.written c.args.out.now) (g.K.FrameSink.written c.finish.new.out) c.finish.result (wrapped_frames g.K.FrameSink.wrap l))
    (ap (λ (s : Begun). more_events s bytes ++ end_events c.use_one.new.self) scanned
    ∙ ap (λ (l : List Event). more_events (scanned_more b c.args.len) bytes ++ l) (ap end_events state ∙ sym (full_ends (after_output b c.args.len bytes) full)))
    (events_then_all g.K.FrameSink.wrap _ _ _ (more_events c.count.new.self bytes) (end_events c.use_one.new.self) c.finish.result c.in_ok-add_both.ensures.bytes c.finish.ensures.bytes)
