use Rattle.std.proofs.Common.{◌≤◌, length, sym, arith}
use Rattle.std.proofs.lemmas.List.{take_all}
use Rattle.text_view.specs.Spelled.{seen}
use Rattle.text_view.proofs.Shown.{length_seen}
use Rattle.text_view.proofs.Cuts.{shows_front}
use Rattle.text_view.proofs.cursor.Cursor.cut.Goals as goal

pub returns-then-count-as_bytes : goal.returns-then-count-as_bytes
returns-then-count-as_bytes c =
    let short : length (seen c.args.self.now) ≤ c.args.count = omega (arith, length_seen c.args.self.now, c.as_bytes.ensures.len) in
    sym (take_all c.args.count (seen c.args.self.now) short)

pub returns : goal.returns
returns c = shows_front c.args.self.now.case c.args.self.now.escape _ _ _ c.args.count c.skip.ensures.front c.before-self.ensures
