-- The record delimiter of a valid dialect is one for lines.
use Rattle.std.proofs.Common.{◌≡◌, Bool, true, false, ◌&&◌, refl}
use Rattle.csv_cutter.specs.declared.dialect.Dialect.{Dialect}
use Rattle.csv_cutter.specs.Dialects.{is_valid, has_characters, is_apart, delimiter_bytes}
use Rattle.line_window.specs.Delimiters.{is_delimiter}
use Rattle.select_request.specs.Printable.{is_varied}
use Rattle.select_request.specs.declared.request.Delimiter.{Delimiter}
use Rattle.select_request.specs.declared.request.Delimiter.TheVariants.{One, Two}

and_left : (x y : Bool) → (x && y) ≡ true → x ≡ true
and_left true y e = refl
and_left false y e = absurd (cc)

and_right : (x y : Bool) → (x && y) ≡ true → y ≡ true
and_right true y e = e
and_right false y e = absurd (cc)

varied : (delimiter : Delimiter) → is_varied delimiter ≡ true → is_delimiter (delimiter_bytes delimiter) ≡ true
varied (One a) h = refl
varied (Two a b) h = h

pub delimits : (d : Dialect) → is_valid d ≡ true → is_delimiter (delimiter_bytes d.delimiter) ≡ true
unfolding is_valid
delimits d h = varied d.delimiter (and_right (has_characters d) (is_varied d.delimiter) (and_left (has_characters d && is_varied d.delimiter) (is_apart d) h))
