use Rattle.std.proofs.Common.{arith, length-append}
use Rattle.select_tool.proofs.LineLaws.{frame_short}
use Rattle.select_tool.proofs.ListingLaws.{fault_shown, event_came, event_cut}
use Rattle.select_tool.proofs.replies.step.Goals as goal

pub returns-in-Err-clause-steps : goal.returns-in-Err-clause-steps
returns-in-Err-clause-steps g c =
    let f = c.in-Err.ensures.feeds.later c.requires.ready.no_fault in
    let s = f.1 in
    fault_shown _ c.args.frames.now.kept c.args.piece.now c.feed.new.self.kept s.count _ c.in-Err.fault.code s.place c.in-Err.fault.at _ s.took.kept s.faulty
    (omega (arith, s.at, length-append c.args.frames.now.kept c.args.piece.now))

pub answer-requires : goal.answer-requires
answer-requires g c = frame_short c.feed.new.self.kept _ c.in-Some.ensures.event.1

pub returns-in-Ok-answer-clause-steps : goal.returns-in-Ok-answer-clause-steps
returns-in-Ok-answer-clause-steps g c =
    let t = c.in-Ok.ensures.feeds.begun c.requires.ready.not_held in
    let a = c.in-Ok-answer.ensures.bytes in
    event_came c.stream_has_one_reading.ensures c.args.frames.now c.feed.new.self c.take.follows.lender-at-none c.args.lister.now c.answer.new.self
    c.args.piece.now c.in-Ok.count _ _ _ a.output c.requires.ready t c.in-Some.ensures.event.0 c.in-Some.ensures.event.1 c.take.follows.holds-at-none
    c.answer.ensures.after a.adds a.written

pub returns-in-Err-answer-clause-steps : goal.returns-in-Err-answer-clause-steps
returns-in-Err-answer-clause-steps g c =
    let t = c.in-Ok.ensures.feeds.begun c.requires.ready.not_held in
    let a = c.in-Err-answer.ensures.bytes in
    event_cut c.args.frames.now.kept c.args.piece.now c.feed.new.self.kept c.in-Ok.count _ _ _ _ a.output t.took.kept c.in-Some.ensures.event.1 a.adds a.written
