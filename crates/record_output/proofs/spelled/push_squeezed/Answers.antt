use Rattle.record_output.proofs.Nodes.{compacted}
use Rattle.record_output.proofs.spelled.push_squeezed.Goals as goal

pub returns : goal.returns
returns c =
    compacted c.args.out.now c.write_compact.new.out c.args.node.now c.token-token.result.now c.token-token.ensures.value c.token-token.ensures.sound
    c.write_compact.result c.write_compact.ensures.fits c.write_compact.ensures.ok c.write_compact.ensures.full
