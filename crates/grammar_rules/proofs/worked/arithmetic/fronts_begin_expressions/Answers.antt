-- The law of the grammar's fronts.
use Rattle.grammar_rules.proofs.WorkedExpressionFronts.{front_begins_expression}
use Rattle.grammar_rules.proofs.worked.arithmetic.fronts_begin_expressions.Goals as goal

pub returns : goal.returns
returns c = record {
  begun = λ ts f. (front_begins_expression ts).0 f;
  begins = λ ts rest e w. (front_begins_expression ts).1 (rest, e, w);
}
