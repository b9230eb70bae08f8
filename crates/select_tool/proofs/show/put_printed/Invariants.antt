use Rattle.std.proofs.Common.{◌≡◌, ◌+◌, ◌≤◌, ◌++◌, length, take}
use Rattle.std.specs.Prelude.{vec_capacity}
use Rattle.select_tool.specs.Lines.{printed}
use Rattle.select_tool.proofs.show.put_printed.Given as goal

abbrev pub invariant-loop-byte : goal.invariant-loop-byte
invariant-loop-byte l = record {
  bytes : l.line.items ≡ l.initial.line.items ++ printed (take l.byte-index l.text);
  len : length l.line.items ≡ length l.initial.line.items + l.byte-index;
  room : vec_capacity l.initial.line ≤ vec_capacity l.line;
}
