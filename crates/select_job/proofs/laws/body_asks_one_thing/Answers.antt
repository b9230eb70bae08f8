use Rattle.select_job.proofs.OneAsked.{each_asks_one_thing}
use Rattle.select_job.proofs.laws.body_asks_one_thing.Goals as goal

pub returns : goal.returns
returns c = each_asks_one_thing c.body_has_one_reading.ensures.one c.texts_have_one_parse.ensures.one
