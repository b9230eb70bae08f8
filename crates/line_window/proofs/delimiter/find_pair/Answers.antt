use Rattle.std.proofs.Common.{◌≡◌, ◌+◌, ◌-◌, ◌∷◌, [], length, take, drop, subst, arith, length-take, length-drop}
use Rattle.line_window.specs.Delimiters.{HasNone}
use Rattle.line_window.proofs.DelimiterLaws.{stands_two, two_stand, pair_later, pair_here, pair_past}
use Rattle.line_window.proofs.delimiter.find_pair.Goals as goal
use Rattle.line_window.proofs.delimiter.find_pair.Goals.{else-from-bytes-via-then-from-bytes+else-bytes-from, else-from-bytes-via-else-from-bytes}

pub returns-then-bytes-from : goal.returns-then-bytes-from
returns-then-bytes-from c =
    let xs = c.args.bytes.now in
    let i = c.rest.invariant in
    let here = pair_here c.args.first xs c.rest.from c.in-Some.more c.in-Some.ensures in
    record {
      here = stands_two c.args.first c.args.second xs (c.rest.from + c.in-Some.more) (omega arith) here.0 c.if-bytes-from.true;
      before = pair_later c.args.first c.args.second xs c.rest.from c.in-Some.more i.within i.clear c.in-Some.ensures.before;
    }

pub rest-preserved : goal.rest-preserved
rest-preserved c =
    let xs = c.args.bytes.now in
    let i = c.rest.invariant in
    let at = c.rest.from + c.in-Some.more in
    let here = pair_here c.args.first xs c.rest.from c.in-Some.more c.in-Some.ensures in
    record {
      within = omega arith;
      clear =
          pair_past c.args.first c.args.second xs at
          (pair_later c.args.first c.args.second xs c.rest.from c.in-Some.more i.within i.clear c.in-Some.ensures.before)
          (λ stands.
          let two = two_stand c.args.first c.args.second xs at stands in
          elim c.else-from-bytes.branch [
            | else-from-bytes-via-then-from-bytes+else-bytes-from w ↦ w.if-bytes-from.false two.1
            | else-from-bytes-via-else-from-bytes w ↦ absurd (omega arith)
          ]);
    }

pub returns : goal.returns
returns c =
    let xs = c.args.bytes.now in
    let i = c.rest.invariant in
    let rest = take (length xs - c.rest.from) (drop c.rest.from xs) in
    let taken = length-take (length xs - c.rest.from) (drop c.rest.from xs) in
    let dropped = length-drop c.rest.from xs in
    let all : c.rest.from + length rest ≡ length xs = omega arith in
    subst (HasNone (c.args.first ∷ c.args.second ∷ []) xs) all
    (pair_later c.args.first c.args.second xs c.rest.from (length rest) i.within i.clear c.in_default.ensures)
