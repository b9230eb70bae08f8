-- A type is what its first token tells.
use Rattle.std.proofs.Common.{sym, ap, ◌∙◌}
use Rattle.std.proofs.lemmas.Result.{err_from_is_err_and}
use Rattle.sql_leaves.proofs.TypeSteps.{type_simple, type_faulty, type_none, type_decimal}
use Rattle.sql_leaves.proofs.types.cast_target.Goals as goal

pub returns-in-Some : goal.returns-in-Some
returns-in-Some c = type_simple c.args.room c.args.tokens.now.symbols c.skip.new.self.symbols c.in-Some.target (rw (← c.class-class.ensures) (sym c.simple_type.ensures ∙ c.in-Some.is)) (ap (λ r. r.symbols) c.skip.ensures)

pub returns-then-is_no_type : goal.returns-then-is_no_type
returns-then-is_no_type c = λ m. type_faulty c.args.room c.args.tokens.now.symbols (rw (← c.class-class.ensures) (sym c.is_no_type.ensures ∙ c.if-is_no_type.true))

pub returns-then-not-is_decimal : goal.returns-then-not-is_decimal
returns-then-not-is_decimal c =
    λ m. type_none c.args.room c.args.tokens.now.symbols (rw (← c.class-class.ensures) (sym c.simple_type.ensures ∙ c.in_default.is)) (rw (← c.class-class.ensures) (sym c.is_no_type.ensures ∙ c.if-is_no_type.false)) (rw (← c.class-class.ensures) (sym c.is_decimal.ensures ∙ c.if-not-is_decimal.true))

pub returns-in_err-target : goal.returns-in_err-target
returns-in_err-target c =
    let p = err_from_is_err_and c.from_residual.result c.from_residual.ensures.1 in
    rw (p.1, p.2)
    (λ m. type_decimal c.args.room c.args.tokens.now.symbols c.skip-2.new.self.symbols (rw (← c.class-class.ensures) (sym c.simple_type.ensures ∙ c.in_default.is)) (rw (← c.class-class.ensures) (sym c.is_no_type.ensures ∙ c.if-is_no_type.false)) (rw (← c.class-class.ensures) (sym c.is_decimal.ensures ∙ c.if-not-is_decimal.false)) (ap (λ r. r.symbols) c.skip-2.ensures) ∙ c.in_err-target.ensures m)

pub returns : goal.returns
returns c =
    type_decimal c.args.room c.args.tokens.now.symbols c.skip-2.new.self.symbols (rw (← c.class-class.ensures) (sym c.simple_type.ensures ∙ c.in_default.is)) (rw (← c.class-class.ensures) (sym c.is_no_type.ensures ∙ c.if-is_no_type.false)) (rw (← c.class-class.ensures) (sym c.is_decimal.ensures ∙ c.if-not-is_decimal.false)) (ap (λ r. r.symbols) c.skip-2.ensures) ∙ c.in_ok-target.ensures
