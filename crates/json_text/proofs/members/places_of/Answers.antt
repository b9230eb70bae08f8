use Rattle.std.proofs.Common.{arith, sym, subst, ◌+◌, ◌-◌}
use Rattle.json_text.specs.Naming.{Coming, SplitMember}
use Rattle.json_text.proofs.Membered.{none_left, none_behind, none_colon, member_of}
use Rattle.json_text.proofs.members.places_of.Goals as goal

pub returns-then-quote-bytes-clause-split : goal.returns-then-quote-bytes-clause-split
returns-then-quote-bytes-clause-split c =
    λ items x. none_left c.as_bytes-bytes.result.now c.args.at c.blanks_end-quote.result items c.blanks_end-quote.ensures.value c.blanks_end-quote.ensures.within c.if-quote-bytes.true
    (subst (λ s. Coming (record { text = s; at = c.args.at }) items) (sym c.as_bytes-bytes.ensures.value) x)

pub returns-then-bytes-quote-eq125-clause-split : goal.returns-then-bytes-quote-eq125-clause-split
returns-then-bytes-quote-eq125-clause-split c =
    λ items x. none_behind c.as_bytes-bytes.result.now c.args.at c.blanks_end-quote.result items c.blanks_end-quote.ensures.value (omega (arith, c.if-quote-bytes.false)) c.if-bytes-quote-eq125.true
    (subst (λ s. Coming (record { text = s; at = c.args.at }) items) (sym c.as_bytes-bytes.ensures.value) x)

pub returns-then-colon-bytes-clause-split : goal.returns-then-colon-bytes-clause-split
returns-then-colon-bytes-clause-split c =
    λ items x. none_colon c.as_bytes-bytes.result.now c.args.at c.blanks_end-quote.result c.string_end-close.result c.blanks_end-colon.result items
    (record {
      at_within = omega (arith, c.requires, c.as_bytes-bytes.ensures.len);
      quoted = c.blanks_end-quote.ensures.value;
      quote_within = c.blanks_end-quote.ensures.within;
      closed = c.string_end-close.ensures.value;
      close_after = c.string_end-close.ensures.after;
      close_within = c.string_end-close.ensures.within;
      colon_at = c.blanks_end-colon.ensures.value;
      colon_after = c.blanks_end-colon.ensures.after;
      colon_within = c.blanks_end-colon.ensures.within;
    })
    c.as_bytes-bytes.ensures.utf8 c.if-colon-bytes.true
    (subst (λ s. Coming (record { text = s; at = c.args.at }) items) (sym c.as_bytes-bytes.ensures.value) x)

pub returns-clause-split : goal.returns-clause-split
returns-clause-split c =
    λ items x. subst (λ s. SplitMember s items (c.blanks_end-quote.result + 1) (c.string_end-close.result - 1) c.blanks_end-start.result c.value_end-end.result c.behind_comma-next.result) c.as_bytes-bytes.ensures.value
    (member_of c.as_bytes-bytes.result.now c.args.at c.blanks_end-quote.result c.string_end-close.result c.blanks_end-colon.result c.blanks_end-start.result c.value_end-end.result c.blanks_end.result c.behind_comma-next.result items
    (record {
      at_within = omega (arith, c.requires, c.as_bytes-bytes.ensures.len);
      quoted = c.blanks_end-quote.ensures.value;
      quote_within = c.blanks_end-quote.ensures.within;
      closed = c.string_end-close.ensures.value;
      close_after = c.string_end-close.ensures.after;
      close_within = c.string_end-close.ensures.within;
      colon_at = c.blanks_end-colon.ensures.value;
      colon_after = c.blanks_end-colon.ensures.after;
      colon_within = c.blanks_end-colon.ensures.within;
    })
    (record {
      at_within = omega (arith, c.if-colon-bytes.false);
      started = c.blanks_end-start.ensures.value;
      start_after = c.blanks_end-start.ensures.after;
      start_within = c.blanks_end-start.ensures.within;
      ended = c.value_end-end.ensures.value;
      end_after = c.value_end-end.ensures.after;
      end_within = c.value_end-end.ensures.within;
      passed = c.blanks_end.ensures.value;
      behind_after = c.blanks_end.ensures.after;
      behind_within = c.blanks_end.ensures.within;
    })
    c.as_bytes-bytes.ensures.utf8 (omega (arith, c.if-quote-bytes.false)) c.if-bytes-quote-eq125.false c.behind_comma-next.ensures.value
    (subst (λ s. Coming (record { text = s; at = c.args.at }) items) (sym c.as_bytes-bytes.ensures.value) x))
