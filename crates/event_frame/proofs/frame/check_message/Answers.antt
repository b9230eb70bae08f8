use Rattle.std.proofs.Common.{refl, sym, ◌∙◌}
use Rattle.event_frame.proofs.FrameLaws.{whole_fits, headers_small}
use Rattle.event_frame.proofs.Readings.{shows_bad_header, shows_no_event, shows_event}
use Rattle.event_frame.proofs.frame.check_message.Goals as goal

pub parts-requires : goal.parts-requires
parts-requires c = whole_fits _ c.requires.whole

pub first_bad-requires-clause-small : goal.first_bad-requires-clause-small
first_bad-requires-clause-small c = headers_small _ _ c.requires.whole c.parts.ensures.headers

pub returns-in-Some-clause-fault : goal.returns-in-Some-clause-fault
returns-in-Some-clause-fault c = (
  c.requires.whole,
  shows_bad_header c.args.frame.now _ _
      (record {
        whole = c.requires.whole;
        are_bytes = λ i. (c.type_inv.frame i).fits;
        crc = sym c.number_at.ensures ∙ c.if-number_at-crc32.false ∙ c.crc32.ensures;
      })
      c.parts.ensures.headers c.in-Some.ensures.bad,
)

pub returns-then-is_none-clause-fault : goal.returns-then-is_none-clause-fault
returns-then-is_none-clause-fault c = (
  c.requires.whole,
  shows_no_event c.args.frame.now _ _ c.event.result
      (record {
        whole = c.requires.whole;
        are_bytes = λ i. (c.type_inv.frame i).fits;
        crc = sym c.number_at.ensures ∙ c.if-number_at-crc32.false ∙ c.crc32.ensures;
      })
      c.parts.ensures.headers c.parts.ensures.payload c.in_default.ensures.bad c.event.ensures c.if-is_none.ensures,
  refl,
)

pub returns-clause-fault : goal.returns-clause-fault
returns-clause-fault c =
    shows_event c.args.frame.now _ _ c.event.result
    (record {
      whole = c.requires.whole;
      are_bytes = λ i. (c.type_inv.frame i).fits;
      crc = sym c.number_at.ensures ∙ c.if-number_at-crc32.false ∙ c.crc32.ensures;
    })
    c.parts.ensures.headers c.parts.ensures.payload c.in_default.ensures.bad c.event.ensures c.if-is_none.ensures
