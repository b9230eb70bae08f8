use Rattle.std.proofs.Common.{◌≡◌, drop}
use Rattle.event_frame.specs.Register.{absorbed}
use Rattle.event_frame.proofs.crc.absorb_bytes.Given as goal

-- the register, and then the bytes that are left, are all the bytes
abbrev pub invariant-loop-byte : goal.invariant-loop-byte
invariant-loop-byte l = absorbed l.register (drop l.byte-index l.bytes) ≡ absorbed l.start l.bytes
