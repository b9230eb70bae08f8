use Rattle.std.proofs.Common.{◌≡◌, ◌<◌, ◌∷◌, arith, ap, sym, ◌∙◌, length, slice_index}
use Rattle.std.proofs.lemmas.Str.{IsCharBoundary-after_ascii}
use Rattle.std.specs.Str.{chars}
use Rattle.csv_cutter.proofs.Spelling.{quote_front, no_quote_front}
use Rattle.csv_cutter.proofs.fields.behind_quote.Goals.{else-bytes-gt0-via-then-bytes-gt0+else-bytes-quote, else-bytes-gt0-via-else-bytes-gt0}
use Rattle.csv_cutter.proofs.fields.behind_quote.Goals as goal

pub range_from-requires : goal.range_from-requires
range_from-requires c =
    let first : slice_index c.args.spelled.now 0 ≡ c.args.quote = rw (← c.as_bytes-bytes.ensures.value) c.if-bytes-quote.true in
    let some : 0 < length c.args.spelled.now = rw (← c.as_bytes-bytes.ensures.value) c.if-bytes-gt0.true in
    λ _. IsCharBoundary-after_ascii c.args.spelled.now 0 c.utf8.spelled some (omega (arith, c.requires))

pub returns-then-bytes-quote : goal.returns-then-bytes-quote
returns-then-bytes-quote c =
    let first : slice_index c.args.spelled.now 0 ≡ c.args.quote = rw (← c.as_bytes-bytes.ensures.value) c.if-bytes-quote.true in
    let some : 0 < length c.args.spelled.now = rw (← c.as_bytes-bytes.ensures.value) c.if-bytes-gt0.true in
    quote_front c.args.spelled.now c.args.quote c.utf8.spelled c.requires some first ∙ ap (λ l. c.args.quote ∷ chars l) (sym c.range_from.ensures.value)

pub returns : goal.returns
returns c =
    no_quote_front c.args.spelled.now c.args.quote c.utf8.spelled c.requires
    (λ l. elim c.else-bytes-gt0.branch [
      | else-bytes-gt0-via-then-bytes-gt0+else-bytes-quote w ↦ rw (← c.as_bytes-bytes.ensures.value) w.if-bytes-quote.false
      | else-bytes-gt0-via-else-bytes-gt0 w ↦ absurd (omega (arith, l, ap length c.as_bytes-bytes.ensures.value, w.if-bytes-gt0.false))
    ])
