use Rattle.std.proofs.Common.{◌≡◌, ◌+◌, ◌-◌, ◌≤◌, length, sym, ap, ◌∙◌, subst, arith, Some}
use Rattle.std.proofs.KnownBytes.{Keeps-refl}
use Rattle.line_window.specs.Sliding.{Tells}
use Rattle.scan_ranges.specs.Resolved.{resolved}
use Rattle.record_rows.specs.Formats.{format_of}
use Rattle.record_stream.specs.Replied.{WritesReply, Answers as Replied, WroteEarly}
use Rattle.record_stream.specs.Selected.{first_of, most_read}
use Rattle.select_request.specs.declared.request.Input.{Input}
use Rattle.select_request.specs.declared.request.SelectRequest.{SelectRequest}
use Rattle.select_reply.specs.Answers.{processed}
use Rattle.planned_lines.specs.declared.planned.Planned.{Planned}
use Rattle.object_plan.specs.Planning.{planned_over}
use Rattle.select_engine.specs.Answered.{ended, events_of, yields_over}
use Rattle.select_engine.specs.Due.{limit_of, records_over}
use Rattle.select_engine.proofs.Answering.{answered_by_plan}
use Rattle.select_engine.specs.Chosen.{quoted_dialect, beside_by, chosen_range}
use Rattle.select_engine.specs.Jobs.{IsEarly}
use Rattle.select_engine.proofs.Undue.{header_taken, taken_in_all, processed_is}
use Rattle.select_engine.proofs.run.run_job.Goals as goal

pub returns-in-Ok-plan_over-clause-reply : goal.returns-in-Ok-plan_over-clause-reply
returns-in-Ok-plan_over-clause-reply g c = λ object tells.
    let job = c.args.job.now in
    let longest = c.args.limits.longest in
    let still : Tells (g.S.Store.current c.plan_over.new.store) object = c.in-Ok-plan_over.ensures.current ∙ tells in
    let format : format_of job.request.input ≡ Some c.in-Some.format =
    ap (λ (i : Input). format_of i) (ap (λ r. r.input) (sym c.request.ensures)) ∙ sym c.of.ensures.value ∙ c.in-Some.is in
    let is = answered_by_plan c.totals_are_one_more_record.ensures c.planned_lines_end_with_totals.ensures longest object job.request c.in-Some.format
    c.in-Ok-plan_over.planned job.query format
    (ap (λ n. planned_over n object job.request.input job.query) (sym c.in-Ok.ensures.longest) ∙ sym (c.in-Ok-plan_over.ensures.planned object tells)) in
    let wrap = g.K.FrameSink.wrap in
    let old = g.K.FrameSink.written c.args.out.now in
    let new = g.K.FrameSink.written c.answer_planned.new.out in
    subst (λ a. WritesReply wrap (events_of job.request.progress a) (ended a) old new c.answer_planned.result) (sym is)
    (subst (λ (p : Planned). Replied wrap job.request.progress (processed (limit_of p.plan) (records_over c.in-Some.format p longest object job.request)) old new c.answer_planned.result)
    c.get.ensures
    (subst (λ (r : SelectRequest). Replied wrap r.progress
    (processed (limit_of c.get.result.now.plan) (records_over c.in-Some.format c.get.result.now longest object r)) old new c.answer_planned.result)
    c.request-in-Ok-plan_over.ensures (c.answer_planned.ensures.reply object still)))

pub returns-in-Ok-plan_over-clause-early : goal.returns-in-Ok-plan_over-clause-early
returns-in-Ok-plan_over-clause-early g c = λ object tells failed.
    let job = c.args.job.now in
    let longest = c.args.limits.longest in
    let first = first_of (resolved (chosen_range job.request) (length object)) in
    let beside = beside_by (quoted_dialect job.request.input) in
    let before = g.S.Store.taken c.args.store.now in
    let mid = g.S.Store.taken c.plan_over.new.store in
    let upto = first + (g.S.Store.taken c.answer_planned.new.store - before) in
    let header = header_taken job.request.input _ longest before mid c.in-Ok.ensures.longest c.in-Ok-plan_over.ensures.taken in
    let near : upto ≤ first + (longest + (beside + (g.S.Store.taken c.answer_planned.new.store - mid))) = omega (arith, header) in
    let still : Tells (g.S.Store.current c.plan_over.new.store) object = c.in-Ok-plan_over.ensures.current ∙ tells in
    let format : format_of job.request.input ≡ Some c.in-Some.format =
    ap (λ (i : Input). format_of i) (ap (λ r. r.input) (sym c.request.ensures)) ∙ sym c.of.ensures.value ∙ c.in-Some.is in
    let is = processed_is longest object job.request job.query c.in-Some.format c.in-Ok-plan_over.planned format
    (ap (λ n. planned_over n object job.request.input job.query) (sym c.in-Ok.ensures.longest) ∙ sym (c.in-Ok-plan_over.ensures.planned object tells)) in
    let old = g.K.FrameSink.written c.args.out.now in
    let new = g.K.FrameSink.written c.answer_planned.new.out in
    subst (λ a. IsEarly g.K.FrameSink.wrap job.request.progress longest upto a old new) (sym is)
    (subst (λ (p : Planned). WroteEarly g.K.FrameSink.wrap job.request.progress longest upto
    (processed (limit_of p.plan) (yields_over c.in-Some.format p longest object job.request)) old new) c.get.ensures
    (subst (λ (r : SelectRequest). upto ≤ first_of (resolved (chosen_range r) (length object))
    + (longest + (beside_by (quoted_dialect r.input) + (g.S.Store.taken c.answer_planned.new.store - mid)))
    → WroteEarly g.K.FrameSink.wrap r.progress longest upto
    (processed (limit_of c.get.result.now.plan) (yields_over c.in-Some.format c.get.result.now longest object r)) old new)
    c.request-in-Ok-plan_over.ensures (λ close. c.answer_planned.ensures.early object upto still close failed) near))

pub returns-in-Ok-plan_over-clause-taken : goal.returns-in-Ok-plan_over-clause-taken
returns-in-Ok-plan_over-clause-taken g c =
    let job = c.args.job.now in
    let longest = c.args.limits.longest in
    let before = g.S.Store.taken c.args.store.now in
    let mid = g.S.Store.taken c.plan_over.new.store in
    let header = header_taken job.request.input _ longest before mid c.in-Ok.ensures.longest c.in-Ok-plan_over.ensures.taken in
    taken_in_all (quoted_dialect job.request.input) longest before mid _ _ c.args.size (resolved (chosen_range job.request) c.args.size) header c.in-Ok-plan_over.ensures.once
    (subst (λ (r : SelectRequest). g.S.Store.taken c.answer_planned.new.store ≤ mid + most_read longest (resolved (chosen_range r) c.args.size))
    c.request-in-Ok-plan_over.ensures c.answer_planned.ensures.taken)
    c.answer_planned.ensures.once

pub returns-in-Err-StoreFault-clause-early : goal.returns-in-Err-StoreFault-clause-early
returns-in-Err-StoreFault-clause-early g c = λ object tells failed.
    let job = c.args.job.now in
    let longest = c.args.limits.longest in
    let first = first_of (resolved (chosen_range job.request) (length object)) in
    let beside = beside_by (quoted_dialect job.request.input) in
    let before = g.S.Store.taken c.args.store.now in
    let now = g.S.Store.taken c.plan_over.new.store in
    let written = g.K.FrameSink.written c.args.out.now in
    let header = header_taken job.request.input _ longest before now c.in-Ok.ensures.longest c.in-Err-StoreFault.ensures.taken in
    let near : first + (now - before) ≤ first + (longest + beside) = omega (arith, header) in
    c.unread_output_is_not_due.ensures g.K.FrameSink.wrap job.request.progress longest object job.request job.query (first + (now - before)) written written near
    (Keeps-refl written)
