-- What was written, then the rest doubled, is the whole text doubled.
use Rattle.std.specs.Prelude.{◌≡◌, ◌++◌, ◌∷◌, [], length}
use denote.Text.{Utf8}
use denote.Shadow.{shadow}
use Rattle.sql_printed.specs.Shown.{doubled}
use Rattle.sql_printer.proofs.writer.Writer.quoted.Given as goal

abbrev pub invariant-quotes : goal.invariant-quotes
invariant-quotes l = record {
  text : shadow (Utf8 l.rest);
  written : l.self ++ doubled l.quote l.rest ≡ (l.fn.self ++ l.quote ∷ []) ++ doubled l.quote l.text;
}

abbrev pub decreases-quotes : goal.decreases-quotes
decreases-quotes l = length l.rest
