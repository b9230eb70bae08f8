use Rattle.std.proofs.Common.{length}
use Rattle.std.specs.Str.{encode_utf8_all, IsUtf8}
use Rattle.text_view.specs.Spelled.{seen}
use Rattle.text_view.specs.Writing.{WritesFront}
use Rattle.text_view.proofs.pieces.write_all.Given as goal

abbrev pub invariant-each : goal.invariant-each
invariant-each l = record {
  written : WritesFront l.initial.out l.out (encode_utf8_all (seen l.initial.cursor)) (encode_utf8_all (seen l.cursor));
  utf8 : IsUtf8 l.initial.out.bytes → IsUtf8 l.out.bytes;
}

abbrev pub decreases-each : goal.decreases-each
decreases-each l = length l.cursor.rest.now
