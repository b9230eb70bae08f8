-- The first quote is ASCII, so the text may be cut there.
use Rattle.std.specs.Prelude.{◌≡◌, ◌-◌, ◌<◌, length}
use Rattle.std.proofs.Common.{arith}
use Rattle.std.proofs.lemmas.Str.{IsCharBoundary-after_ascii}
use Rattle.sql_printer.proofs.Doubling.{cut_none, quote_at, cut_at}
use Rattle.sql_printer.proofs.writer.cut_at_quote.Goals as goal

pub returns-in_err-at : goal.returns-in_err-at
returns-in_err-at c = rw c.from_residual.ensures (cut_none c.args.quote c.args.text.now c.as_bytes.result.now c.as_bytes.ensures.value c.in_err-at.ensures)

pub range_from-requires : goal.range_from-requires
range_from-requires c =
    let quote = quote_at c.args.quote c.args.text.now c.as_bytes.result.now c.in_ok-at.at c.requires c.as_bytes.ensures.value c.in_ok-at.ensures in
    λ above. IsCharBoundary-after_ascii c.args.text.now c.in_ok-at.at c.utf8.text quote.0 quote.1

pub returns : goal.returns
returns c =
    let quote = quote_at c.args.quote c.args.text.now c.as_bytes.result.now c.in_ok-at.at c.requires c.as_bytes.ensures.value c.in_ok-at.ensures in
    let cut = cut_at c.args.quote c.args.text.now c.as_bytes.result.now c.in_ok-at.at c.as_bytes.ensures.value c.in_ok-at.ensures in
    let shorter : length c.range_from.result.now < length c.args.text.now = omega (arith, quote.0, c.range_from.ensures.len) in (
      shorter,
      let front : c.in_ok-at.at - 0 ≡ c.in_ok-at.at = omega arith in rw (c.range_from.ensures.value, c.range.ensures.value, front) cut,
    )
