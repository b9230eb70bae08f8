use Rattle.std.specs.Prelude.{Ok, refl}
use Rattle.select_request.specs.Printed.{printed}
use Rattle.select_request.proofs.OneReading.{one_reading}
use Rattle.select_request.proofs.Printing.{spells_printed}
use Rattle.select_request.proofs.law.printed_request_is_read.Goals as goal

pub returns-clause-spells : goal.returns-clause-spells
returns-clause-spells c request utf8 printable = spells_printed (printed request) request utf8 printable refl

pub returns-clause-only : goal.returns-clause-only
returns-clause-only c request reading utf8 printable w =
    one_reading (printed request) reading (Ok request) w (spells_printed (printed request) request utf8 printable refl)
