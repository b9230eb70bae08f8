use Rattle.memchr.specs.Find.{is_byte2}
use Rattle.csv_cutter.proofs.Places.{next_found, next_none}
use Rattle.csv_cutter.proofs.walk.next_either.Goals as goal

pub returns-in-Some : goal.returns-in-Some
returns-in-Some c =
    next_found (is_byte2 c.args.one c.args.other) c.args.line.now _ c.args.from c.in-Some.at c.split_at.ensures.back c.requires c.in-Some.ensures

pub returns-in-None : goal.returns-in-None
returns-in-None c = next_none (is_byte2 c.args.one c.args.other) c.args.line.now _ c.args.from c.split_at.ensures.back c.requires c.in-None.ensures
