-- The outcome of the whole text is its answer.
use Rattle.std.proofs.Common.{◌-◌, length, Ok, Err, sym, ◌∙◌}
use Rattle.grammar_rules.specs.declared.worked.arithmetic.ParseError.TheVariants.{Syntax}
use Rattle.grammar_rules.specs.WorkedParsing.{answer_of, error_of}
use Rattle.grammar_rules.proofs.WorkedExpressionAnswers.{at_end, before_end, failed_said, only_answer, ok_at_any_depth, syntax_at_any_depth}
use Rattle.grammar_rules.proofs.worked.arithmetic.parse.Goals as goal

pub returns-then-left-eq0 : goal.returns-then-left-eq0
returns-then-left-eq0 c =
    let s = at_end 64 c.args.tokens.now c.in-Ok.expression c.sum-outcome.new.tokens (rw c.new-cursor.ensures at c.in-Ok.ensures.gives) (sym c.len-left.ensures ∙ c.if-left-eq0.true) in
    let r = Ok c.in-Ok.expression in
    record {
      sound = s;
      complete = λ x w. only_answer 64 c.args.tokens.now (answer_of r) s x w;
      spelled = ok_at_any_depth 64 c.args.tokens.now r s;
      refused = syntax_at_any_depth 64 c.args.tokens.now r s;
    }

pub returns-else-left-eq0 : goal.returns-else-left-eq0
returns-else-left-eq0 c =
    let e = before_end 64 c.args.tokens.now c.in-Ok.expression c.sum-outcome.new.tokens (rw c.new-cursor.ensures at c.in-Ok.ensures.gives) (λ q. c.if-left-eq0.false (c.len-left.ensures ∙ q)) in
    let s = rw (← c.len-left.ensures) at e in
    let r = Err (Syntax (length c.args.tokens.now - c.len-left.result)) in
    record {
      sound = s;
      complete = λ x w. only_answer 64 c.args.tokens.now (answer_of r) s x w;
      spelled = tt;
      refused = syntax_at_any_depth 64 c.args.tokens.now r s;
    }

pub returns-in-Err : goal.returns-in-Err
returns-in-Err c =
    let s = failed_said 64 c.args.tokens.now c.in-Err.failure c.sum-outcome.new.tokens (rw c.new-cursor.ensures at c.in-Err.ensures.gives) in
    let r = Err (error_of c.in-Err.failure (length c.args.tokens.now - length c.sum-outcome.new.tokens)) in
    rw (c.error_at.ensures, c.len-left.ensures) (record {
      sound = s;
      complete = λ x w. only_answer 64 c.args.tokens.now (answer_of r) s x w;
      spelled = tt;
      refused = syntax_at_any_depth 64 c.args.tokens.now r s;
    })
