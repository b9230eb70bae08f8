use Rattle.std.proofs.Common.{◌-◌, refl, sym, ap, ◌∙◌, subst, arith}
use Rattle.std.specs.Prelude.{is_err}
use Rattle.line_window.specs.Answers.{IsNextCut}
use Rattle.select_reply.specs.Begun.{Begun, is_full}
use Rattle.record_stream.specs.LineTurns.{turn_of, behind_line, last_behind}
use Rattle.record_stream.specs.Streaming.{asking}
use Rattle.record_stream.specs.Turns.{after_turn}
use Rattle.record_stream.proofs.StreamLaws.{open_after, free_unanswered}
use Rattle.record_stream.proofs.LineStreams.{stream_begins, stream_front, streamed_as, line_on, line_ended, line_front}
use Rattle.record_stream.proofs.BoundLaws.{wrote_early}
use Rattle.record_stream.proofs.WindowSteps.{open_stays, rules_stay, same_rules, took_none, took_more, took_at_most, read_near}
use Rattle.record_stream.proofs.QuotedSteps.{left_later, quoted_fits, quoted_given, quoted_not_given, fewer_left}
use Rattle.record_stream.proofs.quoted.answer_records.Goals as goal

pub turns-init : goal.turns-init
turns-init g c =
    let window = c.args.window.now in
    let reply = c.args.reply.now in
    record {
      open_ = c.requires.object;
      ready = c.requires.ready;
      works = c.requires.works;
      free = c.requires.free;
      rules = same_rules window;
      forward = omega arith;
      taken = took_none _ _ (omega arith);
      held = refl;
      current = refl;
      absent = refl;
      store_faults = omega arith;
      out_faults = omega arith;
      rest = refl;
      told = λ object cuts tells holds left.
          record {
            holds = holds;
            coming = cuts;
            left = left;
            streamed = stream_begins (asking g.K.FrameSink.wrap reply.progress reply.left (g.Y.LineYields.lines c.args.lines.now) window.longest) cuts
                (g.Y.LineYields.last c.args.lines.now) reply (g.K.FrameSink.written c.args.out.now)
                (free_unanswered reply.left c.requires.free) c.requires.fresh c.requires.begins;
          };
    }

pub returns-in-Err-clause-reply : goal.returns-in-Err-clause-reply
returns-in-Err-clause-reply g c = λ object cuts tells holds left.
    let law = c.replies_grow_by_records.ensures in
    let window = c.args.window.now in
    let reply = c.args.reply.now in
    let lines = g.Y.LineYields.lines c.args.lines.now in
    let s = c.turns.invariant.told object cuts tells holds left in
    stream_front law.on law.out law.stop law.begins (asking g.K.FrameSink.wrap reply.progress reply.left lines window.longest) cuts
    c.requires.short (quoted_fits lines window.longest object c.args.cutter.now window cuts c.requires.short c.requires.ready.sound.limit c.requires.small holds left)
    s.coming (g.Y.LineYields.lines c.turns.lines) (g.Y.LineYields.last c.turns.lines) c.turns.reply _ _ s.streamed

pub returns-in-Err-clause-early : goal.returns-in-Err-clause-early
returns-in-Err-clause-early g c = λ object cuts upto tells holds left few is.
    let law = c.replies_grow_by_records.ensures in
    let i = c.turns.invariant in
    let t = c.next.follows.holds-at-none in
    let s = i.told object cuts tells holds left in
    let w = c.next.follows.lender-at-none in
    let window = c.args.window.now in
    let reply = c.args.reply.now in
    let lines = g.Y.LineYields.lines c.args.lines.now in
    let still = quoted_not_given _ c.turns.cutter c.next.new.cutter c.turns.window w c.next.result c.in-Err.field-0 _ _ object s.coming t c.in-Err.is _ i.current tells s.holds s.left in
    let read = took_at_most _ _ _ (took_more _ _ (w.upto - window.upto) _ _ _ (omega (arith, t.moves.forward, i.forward)) i.taken t.moves.taken) in
    let rules = rules_stay _ _ _ i.rules t.moves.rules in
    wrote_early law.begins law.extends g.K.FrameSink.wrap reply.progress reply.left lines window.longest _ w.place cuts s.streamed.done s.coming c.turns.reply _ _
    s.streamed.split (left_later c.next.new.cutter object w s.coming still) s.streamed.answered
    (read_near w window.longest upto t.moves.sound rules.longest (omega (arith, few, read, t.moves.forward, i.forward)))

pub turns-preserved : goal.turns-preserved
turns-preserved g c =
    let law = c.replies_grow_by_records.ensures in
    let i = c.turns.invariant in
    let t = c.next.follows.holds-at-none in
    let w = c.next.follows.lender-at-none in
    let window = c.args.window.now in
    let reply = c.args.reply.now in
    let lines = g.Y.LineYields.lines c.args.lines.now in
    let now = g.Y.LineYields.lines c.turns.lines in
    let last = g.Y.LineYields.last c.turns.lines in
    let line = c.in-Ok.line in
    let after = c.in-Ok-None.ensures.after c.in-Ok-None.field-0-is in
    let goes = sym c.in-Ok-None.ensures.outcome ∙ c.in-Ok-None.field-0-is in
    record {
      open_ = open_stays _ _ _ _ c.next.ensures.current t.moves.rules.size i.open_;
      ready = t.ready;
      works = t.failed ∙ ap is_err c.in-Ok.is;
      free = ap (λ (b : Begun). is_full b.left) after ∙ open_after c.turns.reply (turn_of now last line) i.free goes;
      rules = rules_stay _ _ _ i.rules t.moves.rules;
      forward = omega (arith, t.moves.forward, i.forward);
      taken = took_more _ _ _ _ _ _ (omega (arith, t.moves.forward, i.forward)) i.taken t.moves.taken;
      held = c.next.ensures.held ∙ i.held;
      current = c.next.ensures.current ∙ i.current;
      absent = c.next.ensures.absent ∙ i.absent;
      store_faults = omega (arith, i.store_faults, c.next.ensures.faults);
      out_faults = omega (arith, i.out_faults, c.in-Ok-None.ensures.faults.kept);
      rest = c.in-Ok-None.ensures.rest ∙ i.rest;
      told = λ object cuts tells holds left.
          let s = i.told object cuts tells holds left in
          let a = asking g.K.FrameSink.wrap reply.progress reply.left lines window.longest in
          let on = quoted_given _ c.turns.cutter c.next.new.cutter c.turns.window w c.next.result line _ _ object s.coming t c.in-Ok.is _ i.current tells s.holds s.left in
          let coming = on.1.after in
          let cut : IsNextCut window.longest s.coming coming line =
          subst (λ n. IsNextCut n s.coming coming line) i.rules.longest on.1.next in
          record {
            holds = on.0;
            coming = coming;
            left = on.1.left;
            streamed = streamed_as a cuts coming (behind_line now line) (g.Y.LineYields.lines c.answer.new.self)
                (last_behind last (turn_of now last line)) (g.Y.LineYields.last c.answer.new.self) (after_turn c.turns.reply (turn_of now last line)) c.answer.new.reply
                (g.K.FrameSink.written c.args.out.now) (g.K.FrameSink.written c.answer.new.out)
                (c.in-Ok-None.ensures.behind c.in-Ok-None.field-0-is) (c.in-Ok-None.ensures.last c.in-Ok-None.field-0-is) after
                (line_on law.on law.out law.stop law.begins a cuts
                c.requires.short (quoted_fits lines window.longest object c.args.cutter.now window cuts c.requires.short c.requires.ready.sound.limit c.requires.small holds left)
                s.coming now last c.turns.reply _ _ s.streamed coming line _ cut goes c.in-Ok-None.ensures.bytes);
          };
    }

pub returns-in-Ok-Some-clause-reply : goal.returns-in-Ok-Some-clause-reply
returns-in-Ok-Some-clause-reply g c = λ object cuts tells holds left.
    let law = c.replies_grow_by_records.ensures in
    let i = c.turns.invariant in
    let t = c.next.follows.holds-at-none in
    let w = c.next.follows.lender-at-none in
    let window = c.args.window.now in
    let reply = c.args.reply.now in
    let lines = g.Y.LineYields.lines c.args.lines.now in
    let line = c.in-Ok.line in
    let s = i.told object cuts tells holds left in
    let on = quoted_given _ c.turns.cutter c.next.new.cutter c.turns.window w c.next.result line _ _ object s.coming t c.in-Ok.is _ i.current tells s.holds s.left in
    let coming = on.1.after in
    let cut : IsNextCut window.longest s.coming coming line = subst (λ n. IsNextCut n s.coming coming line) i.rules.longest on.1.next in
    line_ended law.on law.out law.stop law.begins (asking g.K.FrameSink.wrap reply.progress reply.left lines window.longest) cuts
    c.requires.short (quoted_fits lines window.longest object c.args.cutter.now window cuts c.requires.short c.requires.ready.sound.limit c.requires.small holds left)
    s.coming (g.Y.LineYields.lines c.turns.lines) (g.Y.LineYields.last c.turns.lines) c.turns.reply _ _ s.streamed coming line _ c.in-Ok-Some.outcome cut
    (sym c.in-Ok-Some.ensures.outcome ∙ c.in-Ok-Some.field-0-is) c.in-Ok-Some.ensures.bytes

pub returns-in-Err-answer-clause-reply : goal.returns-in-Err-answer-clause-reply
returns-in-Err-answer-clause-reply g c = λ object cuts tells holds left.
    let law = c.replies_grow_by_records.ensures in
    let i = c.turns.invariant in
    let t = c.next.follows.holds-at-none in
    let w = c.next.follows.lender-at-none in
    let window = c.args.window.now in
    let reply = c.args.reply.now in
    let lines = g.Y.LineYields.lines c.args.lines.now in
    let line = c.in-Ok.line in
    let s = i.told object cuts tells holds left in
    let on = quoted_given _ c.turns.cutter c.next.new.cutter c.turns.window w c.next.result line _ _ object s.coming t c.in-Ok.is _ i.current tells s.holds s.left in
    let coming = on.1.after in
    let cut : IsNextCut window.longest s.coming coming line = subst (λ n. IsNextCut n s.coming coming line) i.rules.longest on.1.next in
    line_front law.on law.out law.stop law.begins (asking g.K.FrameSink.wrap reply.progress reply.left lines window.longest) cuts
    c.requires.short (quoted_fits lines window.longest object c.args.cutter.now window cuts c.requires.short c.requires.ready.sound.limit c.requires.small holds left)
    s.coming (g.Y.LineYields.lines c.turns.lines) (g.Y.LineYields.last c.turns.lines) c.turns.reply _ _ s.streamed coming line _ cut
    c.in-Err-answer.ensures.bytes

pub turns-smaller : goal.turns-smaller
turns-smaller g c =
    let t = c.next.follows.holds-at-none in
    let goes = sym c.in-Ok-None.ensures.outcome ∙ c.in-Ok-None.field-0-is in
    fewer_left c.turns.cutter c.next.new.cutter c.turns.window c.next.follows.lender-at-none c.next.result c.in-Ok.line
    (g.Y.LineYields.lines c.turns.lines) (g.Y.LineYields.last c.turns.lines) c.turns.reply c.in-Ok.is t.onwards t.ready t.moves.rules.size goes
