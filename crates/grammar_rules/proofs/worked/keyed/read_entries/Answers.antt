-- The loop follows the reader of the members, and its outcome is the answer.
use Rattle.std.proofs.Common.{◌-◌, length, drop, length-drop, Some, None, sym, ap, ◌∙◌, arith}
use Rattle.grammar_rules.specs.Places.{value, refusal}
use Rattle.grammar_rules.proofs.WorkedKeyedProofs.{entries_begin, entries_step, entries_stop, entries_fail, keyed_end, keyed_before_end, keyed_failure, keyed_only}
use Rattle.grammar_rules.proofs.worked.keyed.read_entries.Goals as goal

pub entries-init : goal.entries-init
entries-init c = record {
  reads = rw (c.new-found.ensures, c.new-cursor.ensures) (entries_begin c.args.signs.now);
  passes = rw c.new-cursor.ensures (omega arith);
}

pub entries-preserved : goal.entries-preserved
entries-preserved c = record {
  reads =
      let f = rw c.as_slice.ensures at c.in-Some.ensures.0 in
      let e = entries_step c.entries.found c.in-Some.key c.in-Some-next_value.value c.entries.cursor (drop 1 c.entries.cursor) c.next_value.new.signs f c.in-Some.ensures.1 (sym c.skip.ensures ∙ c.in-Some-next_value.ensures) in
      rw c.in_ok-push.ensures.ok (c.entries.invariant.reads ∙ e);
  passes =
      let d = length-drop 1 c.entries.cursor in
      let l = ap length c.skip.ensures in
      let m = ap length c.in-Some-next_value.ensures in
      omega (arith, c.entries.invariant.passes);
}

pub returns-then-left-eq0-clause-sound : goal.returns-then-left-eq0-clause-sound
returns-then-left-eq0-clause-sound c =
    let s = entries_stop c.entries.found c.entries.cursor (rw c.as_slice.ensures at c.in_default.ensures) in
    keyed_end c.args.signs.now c.entries.found c.entries.cursor (c.entries.invariant.reads ∙ s) (sym c.len-left.ensures ∙ c.if-left-eq0.true)

pub returns-then-left-eq0-clause-complete : goal.returns-then-left-eq0-clause-complete
returns-then-left-eq0-clause-complete c =
    let s = entries_stop c.entries.found c.entries.cursor (rw c.as_slice.ensures at c.in_default.ensures) in
    let e = keyed_end c.args.signs.now c.entries.found c.entries.cursor (c.entries.invariant.reads ∙ s) (sym c.len-left.ensures ∙ c.if-left-eq0.true) in
    keyed_only c.args.signs.now (Some (value c.entries.found)) e

pub returns-else-left-eq0-clause-sound : goal.returns-else-left-eq0-clause-sound
returns-else-left-eq0-clause-sound c =
    let s = entries_stop c.entries.found c.entries.cursor (rw c.as_slice.ensures at c.in_default.ensures) in
    rw c.len-left.ensures (keyed_before_end c.args.signs.now c.entries.found c.entries.cursor (c.entries.invariant.reads ∙ s) (λ q. c.if-left-eq0.false (c.len-left.ensures ∙ q)))

pub returns-else-left-eq0-clause-complete : goal.returns-else-left-eq0-clause-complete
returns-else-left-eq0-clause-complete c =
    let s = entries_stop c.entries.found c.entries.cursor (rw c.as_slice.ensures at c.in_default.ensures) in
    let e = keyed_before_end c.args.signs.now c.entries.found c.entries.cursor (c.entries.invariant.reads ∙ s) (λ q. c.if-left-eq0.false (c.len-left.ensures ∙ q)) in
    rw c.len-left.ensures (keyed_only c.args.signs.now (Some (refusal None (length c.args.signs.now - length c.entries.cursor))) e)

pub returns-in_default-next_value-clause-sound : goal.returns-in_default-next_value-clause-sound
returns-in_default-next_value-clause-sound c =
    let f = rw c.as_slice.ensures at c.in-Some.ensures.0 in
    let m = rw c.skip.ensures at c.in_default-next_value.ensures.0 in
    let e = entries_fail c.entries.found c.in-Some.key c.entries.cursor (drop 1 c.entries.cursor) f c.in-Some.ensures.1 m in
    rw (c.len.ensures, c.in_default-next_value.ensures.1, c.skip.ensures)
    (keyed_failure c.args.signs.now (drop 1 c.entries.cursor) (c.entries.invariant.reads ∙ e))

pub returns-in_default-next_value-clause-complete : goal.returns-in_default-next_value-clause-complete
returns-in_default-next_value-clause-complete c =
    let f = rw c.as_slice.ensures at c.in-Some.ensures.0 in
    let m = rw c.skip.ensures at c.in_default-next_value.ensures.0 in
    let e = entries_fail c.entries.found c.in-Some.key c.entries.cursor (drop 1 c.entries.cursor) f c.in-Some.ensures.1 m in
    let s = keyed_failure c.args.signs.now (drop 1 c.entries.cursor) (c.entries.invariant.reads ∙ e) in
    rw (c.len.ensures, c.in_default-next_value.ensures.1, c.skip.ensures)
    (keyed_only c.args.signs.now (Some (refusal None (length c.args.signs.now - length (drop 1 c.entries.cursor)))) s)
