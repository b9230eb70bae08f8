use Rattle.std.proofs.Common.{◌∙◌, sym}
use Rattle.record_stream.proofs.StreamLaws.{none_whole, none_front, none_outcome}
use Rattle.record_stream.proofs.stream.answer_none.Goals as goal

pub returns-in-Ok-Some-clause-reply : goal.returns-in-Ok-Some-clause-reply
returns-in-Ok-Some-clause-reply g c =
    let r = c.args.reply.now in
    let bytes = c.in-Ok-Some.ensures.bytes in
    let outcome = c.in-Ok-Some.ensures.outcome in (
      none_whole g.K.FrameSink.wrap r.progress r.left r _ _ c.requires.fresh bytes,
      none_outcome r.progress r.left r c.in-Ok-Some.outcome c.requires.fresh (sym c.in-Ok-Some.field-0-is ∙ outcome),
    )

pub returns-in-Err-clause-reply : goal.returns-in-Err-clause-reply
returns-in-Err-clause-reply g c =
    let r = c.args.reply.now in
    none_front g.K.FrameSink.wrap r.progress r.left r _ _ c.requires.fresh c.in-Err.ensures.bytes
