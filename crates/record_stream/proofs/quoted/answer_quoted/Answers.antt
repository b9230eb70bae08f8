use Rattle.std.proofs.Common.{◌≡◌, ◌≤◌, ◌+◌, ◌-◌, [], sym, ap, ◌∙◌, subst, arith, List}
use Rattle.line_window.specs.Cuts.{Cut}
use Rattle.line_window.specs.Sliding.{Tells}
use Rattle.csv_cutter.specs.Cuttings.{quoted_cuts}
use Rattle.select_reply.specs.Yields.{Yielded}
use Rattle.select_reply.specs.Answers.{processed}
use Rattle.record_stream.specs.Lines.{yields_of, records_of}
use Rattle.record_stream.specs.Quoted.{quoted_records}
use Rattle.record_stream.specs.Replied.{Answers, WroteEarly}
use Rattle.record_stream.proofs.StreamLaws.{full_none}
use Rattle.record_stream.proofs.RangeLaws.{size_is}
use Rattle.record_stream.proofs.QuotedSteps.{quoted_none, left_begins}
use Rattle.record_stream.proofs.quoted.answer_quoted.Goals as goal

pub returns-then-is_full-clause-reply : goal.returns-then-is_full-clause-reply
returns-then-is_full-clause-reply g c = λ object tells.
    let reply = c.args.reply.now in
    let window = c.args.window.now in
    let all = quoted_records (g.Y.LineYields.lines c.args.lines.now) window.longest c.args.dialect object in
    let none : processed reply.left all ≡ [] = full_none reply.left all (sym c.if-is_full.ensures) in
    subst (λ (l : List Yielded). Answers g.K.FrameSink.wrap reply.progress l (g.K.FrameSink.written c.args.out.now) (g.K.FrameSink.written c.answer_none.new.out) c.answer_none.result)
    (sym none) c.answer_none.ensures.reply

pub returns-then-size-eq0-clause-reply : goal.returns-then-size-eq0-clause-reply
returns-then-size-eq0-clause-reply g c = λ object tells.
    let reply = c.args.reply.now in
    let window = c.args.window.now in
    let lines = g.Y.LineYields.lines c.args.lines.now in
    let size = size_is _ object c.args.size c.requires.object tells in
    let none = quoted_none c.args.dialect object (omega (arith, size, c.if-size-eq0.true)) in
    subst (λ (l : List Cut). Answers g.K.FrameSink.wrap reply.progress (processed reply.left (records_of lines window.longest l)) (g.K.FrameSink.written c.args.out.now)
    (g.K.FrameSink.written c.end_lines.new.out) c.end_lines.result) (sym none) c.end_lines.ensures.reply

pub returns-clause-reply : goal.returns-clause-reply
returns-clause-reply g c = λ object tells.
    let reply = c.args.reply.now in
    let lines = g.Y.LineYields.lines c.args.lines.now in
    let d = c.args.dialect in
    let cuts = quoted_cuts d object in
    let size = size_is _ object c.args.size c.requires.object tells in
    let sought = c.seek.ensures.window in
    let still : Tells (g.S.Store.current c.seek.new.store) object = ap g.S.Store.current c.seek.ensures.store ∙ tells in
    let left = left_begins d c.args.limits.longest c.begin-cutter.result object c.seek.new.self cuts c.begin-cutter.ensures sought.place (c.object_is_cut_by_a_function.ensures d c.requires.valid object) in
    subst (λ n. Answers g.K.FrameSink.wrap reply.progress (processed reply.left (records_of lines n cuts)) (g.K.FrameSink.written c.args.out.now)
    (g.K.FrameSink.written c.answer_records.new.out) c.answer_records.result) sought.longest
    (c.answer_records.ensures.reply object cuts still (sought.holds object size) left)

pub returns-clause-early : goal.returns-clause-early
returns-clause-early g c = λ object upto tells few failed.
    let reply = c.args.reply.now in
    let window = c.args.window.now in
    let lines = g.Y.LineYields.lines c.args.lines.now in
    let d = c.args.dialect in
    let cuts = quoted_cuts d object in
    let size = size_is _ object c.args.size c.requires.object tells in
    let sought = c.seek.ensures.window in
    let still : Tells (g.S.Store.current c.seek.new.store) object = ap g.S.Store.current c.seek.ensures.store ∙ tells in
    let before : g.S.Store.taken c.seek.new.store ≡ g.S.Store.taken c.args.store.now = ap g.S.Store.taken c.seek.ensures.store in
    let left = left_begins d c.args.limits.longest c.begin-cutter.result object c.seek.new.self cuts c.begin-cutter.ensures sought.place (c.object_is_cut_by_a_function.ensures d c.requires.valid object) in
    let now = g.S.Store.taken c.answer_records.new.store in
    let near : upto ≤ c.seek.new.self.longest + 65541 + (now - g.S.Store.taken c.seek.new.store) =
    subst (λ n. upto ≤ n + 65541 + (now - g.S.Store.taken c.seek.new.store)) (sym sought.longest)
    (subst (λ t. upto ≤ window.longest + 65541 + (now - t)) (sym before) few) in
    subst (λ n. WroteEarly g.K.FrameSink.wrap reply.progress n upto (processed reply.left (yields_of lines n cuts)) (g.K.FrameSink.written c.args.out.now)
    (g.K.FrameSink.written c.answer_records.new.out)) sought.longest
    (c.answer_records.ensures.early object cuts upto still (sought.holds object size) left near failed)
