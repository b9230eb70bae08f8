use Rattle.std.proofs.Common.{List, ℕ, subst}
use Rattle.sql_grammar.specs.Faults.{FaultOf}
use Rattle.select_job.proofs.asked.prepare_request.Goals as goal

pub refuse_query-requires : goal.refuse_query-requires
refuse_query-requires c = λ fault is. subst (λ (text : List ℕ). FaultOf text fault) c.text.ensures (c.in-Err.ensures fault is)
