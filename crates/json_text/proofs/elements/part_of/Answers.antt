use Rattle.std.proofs.Common.{arith}
use Rattle.json_text.proofs.Walking.{none_past, none_bracket, split_of}
use Rattle.json_text.proofs.elements.part_of.Goals as goal

pub returns-then-start-bytes-clause-split : goal.returns-then-start-bytes-clause-split
returns-then-start-bytes-clause-split c = λ items x. none_past c.args.bytes.now c.args.at c.blanks_end-start.result items c.blanks_end-start.ensures.value c.blanks_end-start.ensures.within c.if-start-bytes.true x

pub returns-then-bytes-start-eq93-clause-split : goal.returns-then-bytes-start-eq93-clause-split
returns-then-bytes-start-eq93-clause-split c = λ items x. none_bracket c.args.bytes.now c.args.at c.blanks_end-start.result items c.blanks_end-start.ensures.value (omega arith) c.if-bytes-start-eq93.true x

pub returns-clause-split : goal.returns-clause-split
returns-clause-split c = λ items x. split_of c.args.bytes.now c.args.at c.blanks_end-start.result c.value_end-end.result c.blanks_end.result c.behind_comma-next.result items
    (record {
      at_within = c.requires;
      started = c.blanks_end-start.ensures.value;
      start_after = c.blanks_end-start.ensures.after;
      start_within = c.blanks_end-start.ensures.within;
      ended = c.value_end-end.ensures.value;
      end_after = c.value_end-end.ensures.after;
      end_within = c.value_end-end.ensures.within;
      passed = c.blanks_end.ensures.value;
      behind_after = c.blanks_end.ensures.after;
      behind_within = c.blanks_end.ensures.within;
    })
    (omega arith) c.if-bytes-start-eq93.false c.behind_comma-next.ensures.value x
