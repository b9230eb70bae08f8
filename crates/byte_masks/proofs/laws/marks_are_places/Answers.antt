use Rattle.std.proofs.Common.{length, refl}
use Rattle.byte_masks.proofs.Marking.{Marks-places, places_of-append}
use Rattle.byte_masks.proofs.laws.marks_are_places.Goals as goal

pub returns-clause-marks : goal.returns-clause-marks
returns-clause-marks c test s m bytes = Marks-places test s m bytes

pub returns-clause-append : goal.returns-clause-append
returns-clause-append c test i xs ys = places_of-append test i (length xs) xs ys refl
