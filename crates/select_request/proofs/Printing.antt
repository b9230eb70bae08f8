-- A printed body spells its request.
use Rattle.std.specs.Prelude.{◌≡◌, List, ℕ, IsUtf8, true}
use Rattle.std.proofs.Common.{sym}
use Rattle.select_request.specs.Printable.{is_printable}
use Rattle.select_request.specs.Printed.{printed}
use Rattle.select_request.proofs.PrintedElements.{found_of}
use Rattle.select_request.specs.Reading.{SpellsRequest}
use Rattle.select_request.specs.declared.request.SelectRequest.{SelectRequest}
use Rattle.select_request.proofs.PrintedLength.{printed_bound}
use Rattle.select_request.proofs.PrintedTree.{printed_has_elements}
use Rattle.select_request.proofs.Recovered.{printed_passes, printed_spells}

pub spells_printed : (text : List ℕ) (request : SelectRequest) → IsUtf8 request.expression → is_printable request ≡ true → text ≡ printed request → SpellsRequest text request
spells_printed text request u h is = rw is (record {
  short = printed_bound request h;
  found = found_of request;
  elements = printed_has_elements request u h;
  passes = printed_passes request h;
  values = sym (printed_spells request h);
})
