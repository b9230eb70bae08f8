use Rattle.sql_eval.proofs.Texts.{texts_ordered}
use Rattle.sql_eval.proofs.leaves.order_of_texts.Goals as goal

pub returns : goal.returns
returns c = texts_ordered c.args.left.now c.args.right.now c.as_bytes.result.now c.as_bytes-2.result.now c.cmp.result c.known_order.result
    c.as_bytes.ensures.value c.as_bytes-2.ensures.value c.as_bytes.ensures.utf8 c.as_bytes-2.ensures.utf8 c.cmp.ensures c.known_order.ensures
