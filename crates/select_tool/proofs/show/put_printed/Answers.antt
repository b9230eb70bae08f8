use Rattle.std.proofs.Common.{arith, sym, append-nil}
use Rattle.select_tool.specs.Lines.{printed}
use Rattle.select_tool.proofs.LineLaws.{printed_more}
use Rattle.select_tool.proofs.show.put_printed.Goals as goal

pub loop-byte-init : goal.loop-byte-init
unfolding printed
loop-byte-init c = record { bytes = sym (append-nil c.args.line.now.items); len = omega arith; room = omega arith }

pub loop-byte-preserved : goal.loop-byte-preserved
loop-byte-preserved c = record {
  bytes = printed_more c.args.line.now.items c.loop-byte.line.items c.put.new.line.items c.args.text.now c.loop-byte.byte-index c.printable.result
      (omega arith) c.printable.ensures c.loop-byte.invariant.bytes c.put.ensures.bytes;
  len = omega (arith, c.put.ensures.len, c.loop-byte.invariant.len);
  room = omega (arith, c.put.ensures.room, c.loop-byte.invariant.room);
}
