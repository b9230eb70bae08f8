-- What was written, then the text of what is left, is the text of all.
use Rattle.std.specs.Prelude.{◌≡◌, ◌++◌, codes, drop, map}
use denote.Text.{Utf8}
use denote.Shadow.{shadow}
use Rattle.sql_printed.specs.Shown.{joined, joined_from}
use Rattle.sql_printed.specs.Printed.{item_text}
use Rattle.sql_printer.proofs.writer.Writer.items.Given as goal

abbrev pub invariant-items : goal.invariant-items
invariant-items l = record {
  text : shadow (Utf8 l.front);
  written : l.self ++ joined_from l.front (codes ", ") (map item_text (drop l.item-index l.items)) ≡ l.fn.self ++ joined (codes ", ") (map item_text l.items);
}
