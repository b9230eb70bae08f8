use Rattle.std.proofs.Common.{◌+◌, ◌^◌, ◌<◌}
use Rattle.sql_decimal.proofs.ReadingOn.{ReadsOn}
use Rattle.sql_decimal.proofs.decimal.Dec.read.Given as goal

abbrev pub invariant-loop-c : goal.invariant-loop-c
invariant-loop-c g l =
    (goal.iterator-loop-c g).can_next l.c-iterator
    × (goal.iterator-loop-c g).is_finite l.c-iterator
    × (l.reader.mantissa < 10 ^ 38)
    × (l.reader.places + (goal.iterator-loop-c g).remaining l.c-iterator < 2 ^ 63)
    × ReadsOn (goal.iterator-loop-c g).next_gives l.fn.chars l.c-iterator l.reader
