use Rattle.select_request.proofs.OneReading.{some_reading, one_reading}
use Rattle.select_request.proofs.law.body_has_one_reading.Goals as goal

pub returns-clause-some : goal.returns-clause-some
returns-clause-some c body = some_reading body

pub returns-clause-one : goal.returns-clause-one
returns-clause-one c body reading other w v = one_reading body reading other w v
