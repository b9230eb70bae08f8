-- What was written, then the text of what is left, is the text of all.
use Rattle.std.specs.Prelude.{◌≡◌, ◌++◌, codes, drop, map}
use denote.Text.{Utf8}
use denote.Shadow.{shadow}
use Rattle.sql_printed.specs.Shown.{joined, joined_from}
use Rattle.sql_printed.specs.Printed.{total_text}
use Rattle.sql_printer.proofs.writer.Writer.totals.Given as goal

abbrev pub invariant-totals : goal.invariant-totals
invariant-totals l = record {
  text : shadow (Utf8 l.front);
  written : l.self ++ joined_from l.front (codes ", ") (map total_text (drop l.total-index l.totals)) ≡ l.fn.self ++ joined (codes ", ") (map total_text l.totals);
}
