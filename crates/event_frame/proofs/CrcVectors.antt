-- the definition gives the published check value
use Rattle.std.proofs.Common.{◌≡◌, refl, [], codes}
use Rattle.event_frame.specs.Crc.{crc_of, message_bits, low_bits, dividend, remainder, plus, number_of}

pub crc_of-check : crc_of (codes "123456789") ≡ 0xCBF43926
unfolding crc_of message_bits low_bits dividend remainder plus number_of
crc_of-check = refl

pub crc_of-empty : crc_of [] ≡ 0
unfolding crc_of message_bits low_bits dividend remainder plus number_of
crc_of-empty = refl
