use Rattle.std.proofs.Common.{◌∙◌, sym}
use Rattle.record_stream.specs.Streaming.{asking}
use Rattle.record_stream.proofs.StreamLaws.{free_unanswered}
use Rattle.record_stream.proofs.LineStreams.{none_ended, none_fronted}
use Rattle.record_stream.proofs.stream.end_lines.Goals as goal

pub returns-in-Ok-Some-clause-reply : goal.returns-in-Ok-Some-clause-reply
returns-in-Ok-Some-clause-reply g c =
    let law = c.replies_grow_by_records.ensures in
    let r = c.args.reply.now in
    none_ended law.on law.out law.stop law.begins (asking g.K.FrameSink.wrap r.progress r.left (g.Y.LineYields.lines c.args.lines.now) 0) r
    (g.Y.LineYields.last c.args.lines.now) (free_unanswered r.left c.requires.free) c.requires.fresh c.requires.begins c.requires.short _ _
    c.in-Ok-Some.outcome (sym c.in-Ok-Some.ensures.outcome ∙ c.in-Ok-Some.field-0-is) c.in-Ok-Some.ensures.bytes

pub returns-in-Err-clause-reply : goal.returns-in-Err-clause-reply
returns-in-Err-clause-reply g c =
    let law = c.replies_grow_by_records.ensures in
    let r = c.args.reply.now in
    none_fronted law.on law.out law.stop law.begins (asking g.K.FrameSink.wrap r.progress r.left (g.Y.LineYields.lines c.args.lines.now) 0) r
    (g.Y.LineYields.last c.args.lines.now) (free_unanswered r.left c.requires.free) c.requires.fresh c.requires.begins c.requires.short _ _
    c.in-Err.ensures.bytes
