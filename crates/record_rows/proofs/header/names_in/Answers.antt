use Rattle.std.proofs.Common.{sym}
use Rattle.record_rows.proofs.Naming.{named_more}
use Rattle.record_rows.proofs.header.names_in.Goals as goal

pub fields-preserved : goal.fields-preserved
fields-preserved c =
    rw (c.in_ok-push.ensures.ok, c.in_ok-name_of.ensures)
    (named_more c.args.fields.now c.fields.names c.fields.i c.in-Some.text (sym c.in-Some.ensures) c.fields.invariant)
