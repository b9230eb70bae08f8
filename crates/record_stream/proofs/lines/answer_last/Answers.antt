use Rattle.std.proofs.Common.{◌∙◌, sym}
use Rattle.select_reply.specs.Turns.{yielded, yield_of}
use Rattle.record_stream.proofs.Framing.{closing_adds}
use Rattle.record_stream.proofs.lines.answer_last.Goals as goal

pub returns-in-Ok-None-clause-bytes : goal.returns-in-Ok-None-clause-bytes
returns-in-Ok-None-clause-bytes g c =
    let y = yielded c.args.last 0 (yield_of c.args.gives) in
    closing_adds g.K.FrameSink.wrap c.args.reply.now c.record.new.self y _ _ _ c.finish.result
    (sym c.in-Ok-None.ensures.outcome ∙ c.in-Ok-None.field-0-is) (c.in-Ok-None.ensures.after c.in-Ok-None.field-0-is)
    c.in-Ok-None.ensures.bytes c.finish.ensures.bytes
