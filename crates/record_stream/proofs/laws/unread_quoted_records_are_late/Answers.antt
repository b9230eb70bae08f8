use Rattle.record_stream.proofs.EarlyLaws.{unread_quoted_are_late}
use Rattle.record_stream.proofs.laws.unread_quoted_records_are_late.Goals as goal

pub returns : goal.returns
returns c = unread_quoted_are_late
