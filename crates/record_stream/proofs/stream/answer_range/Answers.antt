use Rattle.std.proofs.Common.{◌≡◌, ◌≤◌, ◌+◌, ◌-◌, length, [], sym, ap, ◌∙◌, subst, arith, List}
use Rattle.line_window.specs.Cuts.{Cut}
use Rattle.line_window.specs.Sliding.{Tells, left}
use Rattle.scan_ranges.specs.Resolved.{resolved}
use Rattle.select_reply.specs.Yields.{Yielded}
use Rattle.select_reply.specs.Answers.{processed}
use Rattle.record_stream.specs.Lines.{yields_of, records_of}
use Rattle.record_stream.specs.Selected.{first_of, records}
use Rattle.record_stream.specs.Replied.{Answers, WroteEarly}
use Rattle.record_stream.proofs.StreamLaws.{full_none}
use Rattle.record_stream.proofs.RangeLaws.{size_is, selects_none, selects_some, range_is}
use Rattle.record_stream.proofs.stream.answer_range.Goals as goal

pub returns-then-is_full-clause-reply : goal.returns-then-is_full-clause-reply
returns-then-is_full-clause-reply g c = λ object tells.
    let reply = c.args.reply.now in
    let window = c.args.window.now in
    let all = records (g.Y.LineYields.lines c.args.lines.now) window.longest window.delimiter object (resolved c.args.range (length object)) in
    let none : processed reply.left all ≡ [] = full_none reply.left all (sym c.if-is_full.ensures) in
    subst (λ (l : List Yielded). Answers g.K.FrameSink.wrap reply.progress l (g.K.FrameSink.written c.args.out.now) (g.K.FrameSink.written c.answer_none.new.out) c.answer_none.result)
    (sym none) c.answer_none.ensures.reply

pub returns-in_default-clause-reply : goal.returns-in_default-clause-reply
returns-in_default-clause-reply g c = λ object tells.
    let reply = c.args.reply.now in
    let window = c.args.window.now in
    let lines = g.Y.LineYields.lines c.args.lines.now in
    let size = size_is _ object c.args.size c.requires.object tells in
    let none = selects_none c.args.range object c.args.size c.resolve_range.result size c.resolve_range.ensures.bounds window.delimiter c.in_default.is in
    subst (λ (l : List Cut). Answers g.K.FrameSink.wrap reply.progress (processed reply.left (records_of lines window.longest l)) (g.K.FrameSink.written c.args.out.now)
    (g.K.FrameSink.written c.end_lines.new.out) c.end_lines.result) (sym none) c.end_lines.ensures.reply

pub returns-clause-reply : goal.returns-clause-reply
returns-clause-reply g c = λ object tells.
    let reply = c.args.reply.now in
    let window = c.args.window.now in
    let lines = g.Y.LineYields.lines c.args.lines.now in
    let range = c.in-Some.range in
    let size = size_is _ object c.args.size c.requires.object tells in
    let some = selects_some c.args.range object c.args.size c.resolve_range.result size c.resolve_range.ensures.bounds
    c.adjacent_ranges_append.ensures.cuts window.delimiter range c.in-Some.is range.ascending (omega (arith, c.in-Some.ensures.within, size)) in
    let sought = c.seek.ensures.window in
    let still : Tells (g.S.Store.current c.seek.new.store) object = ap g.S.Store.current c.seek.ensures.store ∙ tells in
    let w = g.K.FrameSink.wrap in
    let old = g.K.FrameSink.written c.args.out.now in
    let new = g.K.FrameSink.written c.answer_lines.new.out in
    subst (λ (l : List Cut). Answers w reply.progress (processed reply.left (records_of lines window.longest l)) old new c.answer_lines.result) (sym some)
    (subst (λ (l : List Cut). Answers w reply.progress (processed reply.left (records_of lines window.longest l)) old new c.answer_lines.result)
    (sought.cuts object)
    (subst (λ n. Answers w reply.progress (processed reply.left (records_of lines n (left object c.seek.new.self))) old new c.answer_lines.result) sought.longest
    (c.answer_lines.ensures.reply object still (sought.holds object size))))

pub returns-clause-early : goal.returns-clause-early
returns-clause-early g c = λ object upto tells few failed.
    let reply = c.args.reply.now in
    let window = c.args.window.now in
    let lines = g.Y.LineYields.lines c.args.lines.now in
    let range = c.in-Some.range in
    let size = size_is _ object c.args.size c.requires.object tells in
    let some = selects_some c.args.range object c.args.size c.resolve_range.result size c.resolve_range.ensures.bounds
    c.adjacent_ranges_append.ensures.cuts window.delimiter range c.in-Some.is range.ascending (omega (arith, c.in-Some.ensures.within, size)) in
    let sought = c.seek.ensures.window in
    let first = first_of (resolved c.args.range (length object)) in
    let from : first ≡ range.first =
    ap first_of (range_is c.args.range object c.args.size c.resolve_range.result size c.resolve_range.ensures.bounds range c.in-Some.is) in
    let still : Tells (g.S.Store.current c.seek.new.store) object = ap g.S.Store.current c.seek.ensures.store ∙ tells in
    let before : g.S.Store.taken c.seek.new.store ≡ g.S.Store.taken c.args.store.now = ap g.S.Store.taken c.seek.ensures.store in
    let w = g.K.FrameSink.wrap in
    let old = g.K.FrameSink.written c.args.out.now in
    let new = g.K.FrameSink.written c.answer_lines.new.out in
    let now = g.S.Store.taken c.answer_lines.new.store in
    let near : upto ≤ c.seek.new.self.place + (c.seek.new.self.longest + 65538 + (now - g.S.Store.taken c.seek.new.store)) =
    subst (λ p. upto ≤ p + (c.seek.new.self.longest + 65538 + (now - g.S.Store.taken c.seek.new.store))) (from ∙ sym sought.place)
    (subst (λ n. upto ≤ first + (n + 65538 + (now - g.S.Store.taken c.seek.new.store))) (sym sought.longest)
    (subst (λ t. upto ≤ first + (window.longest + 65538 + (now - t))) (sym before) few)) in
    subst (λ (l : List Cut). WroteEarly w reply.progress window.longest upto (processed reply.left (yields_of lines window.longest l)) old new) (sym some)
    (subst (λ (l : List Cut). WroteEarly w reply.progress window.longest upto (processed reply.left (yields_of lines window.longest l)) old new)
    (sought.cuts object)
    (subst (λ n. WroteEarly w reply.progress n upto (processed reply.left (yields_of lines n (left object c.seek.new.self))) old new) sought.longest
    (c.answer_lines.ensures.early object upto still (sought.holds object size) near failed)))
