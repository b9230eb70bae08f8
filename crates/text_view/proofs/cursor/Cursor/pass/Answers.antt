use Rattle.text_view.proofs.Runs.{run_whole, range_is}
use Rattle.text_view.proofs.cursor.Cursor.pass.Goals as goal

pub returns-clause-value : goal.returns-clause-value
returns-clause-value c =
    let utf8 = rw (c.range.ensures.value, range_is c.args.len c.args.self.now.rest.now) at c.range.utf8 in
    rw (c.range.ensures.value, c.range_from-self.ensures.value, range_is c.args.len c.args.self.now.rest.now)
    (run_whole c.args.self.now.case c.args.self.now.escape c.args.len c.args.self.now.rest.now utf8 c.requires)
