use Rattle.std.proofs.Common.{arith, sym, subst, ◌∙◌}
use Rattle.std.proofs.lemmas.Result.{err_from_is_err_and}
use Rattle.std.specs.Io.KnownBytes.{Appends}
use Rattle.sample_objects.proofs.Fronts.{head_alone, stops_at_head, stops_at_lines, adds_sample}
use Rattle.sample_objects.proofs.objects.write_sample.Goals as goal

pub returns-in_err-write_all-clause-bytes : goal.returns-in_err-write_all-clause-bytes
returns-in_err-write_all-clause-bytes g c =
    let p = err_from_is_err_and c.from_residual.result c.from_residual.ensures.1 in
    rw p.1
    (stops_at_head c.args.kind c.args.count _ _ _ (c.as_bytes.ensures.value ∙ c.head.ensures.bytes) c.in_err-write_all.ensures.bytes)

pub loop-next-init : goal.loop-next-init
loop-next-init g c = record {
  bytes = subst (Appends (g.K.Sink.written c.args.sink.now) (g.K.Sink.written c.write_all.new.sink))
      (c.as_bytes.ensures.value ∙ c.head.ensures.bytes ∙ sym (head_alone c.args.kind)) c.in_ok-write_all.ensures.bytes;
  empty = c.new-block.ensures;
  within = omega arith;
  faults = c.in_ok-write_all.ensures.faults.kept;
}

pub returns-in_err-write_all-2-clause-bytes : goal.returns-in_err-write_all-2-clause-bytes
returns-in_err-write_all-2-clause-bytes g c =
    let p = err_from_is_err_and c.from_residual-in_err-write_all-2.result c.from_residual-in_err-write_all-2.ensures.1 in
    rw p.1
    (stops_at_lines c.args.kind c.loop-next.next c.fill-next.result c.args.count c.fill-next.new.block.bytes _ _ _ _ c.fill-next.ensures.within
    c.fill-next.ensures.lines (c.as_bytes-in-loop-next.ensures.value ∙ c.as_str.ensures.value) c.loop-next.invariant.bytes
    c.in_err-write_all-2.ensures.bytes)

pub returns-clause-bytes : goal.returns-clause-bytes
returns-clause-bytes g c =
    adds_sample c.args.kind c.loop-next.next c.args.count _ _ (omega (arith, c.loop-next-test.false, c.loop-next.invariant.within))
    c.loop-next.invariant.bytes
