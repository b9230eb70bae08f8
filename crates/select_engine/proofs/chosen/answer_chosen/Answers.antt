use Rattle.std.proofs.Common.{◌≡◌, ◌+◌, ◌-◌, ◌≤◌, length, sym, subst, arith}
use Rattle.scan_ranges.specs.Resolved.{resolved}
use Rattle.select_reply.specs.Answers.{processed}
use Rattle.record_stream.specs.Lines.{yields_of}
use Rattle.record_stream.specs.Replied.{WroteEarly}
use Rattle.record_stream.specs.Selected.{first_of, most_read}
use Rattle.select_engine.specs.Chosen.{range_by, cuts_by, beside_by}
use Rattle.select_engine.proofs.Undue.{whole_first, whole_read}
use Rattle.select_engine.proofs.chosen.answer_chosen.Goals as goal

pub returns-in-Some-clause-early : goal.returns-in-Some-clause-early
returns-in-Some-clause-early g c = λ object upto tells close failed.
    let window = c.args.window.now in
    let read = g.S.Store.taken c.answer_quoted.new.store - g.S.Store.taken c.args.store.now in
    subst (λ q. upto ≤ first_of (resolved (range_by q c.args.range) (length object)) + (window.longest + (beside_by q + read))
    → WroteEarly g.K.FrameSink.wrap c.args.reply.now.progress window.longest upto
    (processed c.args.reply.now.left (yields_of (g.Y.LineYields.lines c.args.lines.now) window.longest (cuts_by q window.delimiter c.args.range object)))
    (g.K.FrameSink.written c.args.out.now) (g.K.FrameSink.written c.answer_quoted.new.out)) (sym c.in-Some.is)
    (λ near. c.answer_quoted.ensures.early object upto tells (omega (arith, near, whole_first (length object))) failed) close

pub returns-in-Some-clause-taken : goal.returns-in-Some-clause-taken
returns-in-Some-clause-taken g c =
    let window = c.args.window.now in
    subst (λ q. g.S.Store.taken c.answer_quoted.new.store ≤ g.S.Store.taken c.args.store.now
    + most_read window.longest (resolved (range_by q c.args.range) c.args.size)) (sym c.in-Some.is)
    (omega (arith, c.answer_quoted.ensures.once, whole_read window.longest c.args.size))
