use Rattle.select_engine.proofs.Undue.{unread_is_not_due}
use Rattle.select_engine.proofs.laws.unread_output_is_not_due.Goals as goal

pub returns : goal.returns
returns c = unread_is_not_due c.unread_records_are_late.ensures c.unread_quoted_records_are_late.ensures
