use Rattle.record_stream.proofs.EarlyLaws.{unread_are_late}
use Rattle.record_stream.proofs.laws.unread_records_are_late.Goals as goal

pub returns : goal.returns
returns c = unread_are_late
