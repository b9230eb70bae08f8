use Rattle.std.proofs.Common.{arith}
use Rattle.text_view.proofs.Shown.{length_seen}
use Rattle.text_view.proofs.view.Text.cursor.Goals as goal

pub returns-clause-fewer : goal.returns-clause-fewer
returns-clause-fewer c = omega (arith, length_seen c.self.inside.cursor, c.byte_len.ensures.fewer)
