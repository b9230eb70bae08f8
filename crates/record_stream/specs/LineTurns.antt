-- What one line of a window adds to a reply, and what is behind it.
use Rattle.std.specs.Prelude.{ℕ, [], Option, None, Some}
use Rattle.line_window.specs.declared.line.Line.{Line}
use Rattle.line_window.specs.declared.line.Line.TheVariants.{At, TooLong, End}
use Rattle.select_reply.specs.declared.yields.RecordYield.{RecordYield}
use Rattle.select_reply.specs.Yields.{Yield}
use Rattle.select_reply.specs.Turns.{yielded, yield_of}
use Rattle.record_stream.specs.Lines.{Lines, behind, failing}
use Rattle.record_stream.specs.Turns.{Turn, passes, yields, ends, closes}

-- the turn of a line of this length, by what it yields
abbrev pub turn_at : ℕ → ℕ → Option Yield → Turn
turn_at start len None = passes
turn_at start len (Some gives) = yields (yielded start len gives)

-- the turn behind the last line: one record more, if there is one, of no bytes, where the last record started
abbrev pub turn_at_end : ℕ → Option Yield → Turn
turn_at_end last None = ends
turn_at_end last (Some gives) = closes (yielded last 0 gives)

-- the turn of a line, where the last record started at a place; the length of a line beyond the record limit doesn't count, since its
-- record is faulty
abbrev pub turn_of : Lines → ℕ → Line → Turn
turn_of lines last (At start bytes whole) = turn_at start whole (lines.of_content [] start bytes.now)
turn_of lines last (TooLong start) = turn_at start 0 (failing (lines.of_long start))
turn_of lines last End = turn_at_end last (lines.of_end [])

-- the lines behind a line
abbrev pub behind_line : Lines → Line → Lines
behind_line lines (At start bytes whole) = behind lines start bytes.now
behind_line lines (TooLong start) = lines
behind_line lines End = lines

-- where the last record started behind a turn that goes on
abbrev pub last_behind : ℕ → Turn → ℕ
last_behind last passes = last
last_behind last (yields y) = y.start
last_behind last ends = last
last_behind last (closes y) = last

-- what the code is told that a line yields
abbrev pub told_yield : Option RecordYield → Option Yield
told_yield None = None
told_yield (Some gives) = Some (yield_of gives)
