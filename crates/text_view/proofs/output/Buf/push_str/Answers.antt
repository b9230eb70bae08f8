use Rattle.text_view.proofs.Runs.{pushed}
use Rattle.text_view.proofs.output.Buf.push_str.Goals as goal

pub returns-clause-utf8 : goal.returns-clause-utf8
returns-clause-utf8 c =
    pushed c.push.result c.args.self.now c.push.new.self c.as_bytes.result.now c.as_bytes.ensures.utf8 c.push.ensures.ok c.push.ensures.full
