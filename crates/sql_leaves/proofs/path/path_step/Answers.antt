-- A step of a path follows its reader.
use Rattle.std.proofs.Common.{sym, ap, ◌∙◌}
use Rattle.std.proofs.lemmas.Result.{err_from_is_err_and}
use Rattle.sql_leaves.specs.Parsing.{fault_of}
use Rattle.sql_leaves.proofs.PathSteps.{member_found, member_failed, element_failed, element_open, element_found, no_step}
use Rattle.sql_leaves.proofs.path.path_step.Goals as goal

pub returns-in_err-member : goal.returns-in_err-member
returns-in_err-member c =
    let p = err_from_is_err_and c.from_residual.result c.from_residual.ensures.1 in
    rw (p.1, p.2)
    (λ n m. member_failed c.args.tokens.now.symbols c.skip.new.self.symbols (ap (λ r. r.symbols) c.skip.ensures) (sym c.sees.ensures ∙ c.if-sees.true) (fault_of c.in_err-member.field-0.0) c.name.new.tokens.symbols (c.in_err-member.ensures m) n)

pub returns-then-sees : goal.returns-then-sees
returns-then-sees c = λ n. member_found c.args.tokens.now.symbols c.skip.new.self.symbols (ap (λ r. r.symbols) c.skip.ensures) (sym c.sees.ensures ∙ c.if-sees.true) c.in_ok-member.member c.name.new.tokens.symbols c.in_ok-member.ensures n

pub returns-in_err-expect : goal.returns-in_err-expect
returns-in_err-expect c =
    let p = err_from_is_err_and c.from_residual-in_err-expect.result c.from_residual-in_err-expect.ensures.1 in
    let h = c.in_err-expect.ensures in
    rw (p.1, p.2, h.2, h.1)
    (λ n m. no_step c.args.tokens.now.symbols (sym c.sees.ensures ∙ c.if-sees.false) h.0 n)

pub returns-in_err-place : goal.returns-in_err-place
returns-in_err-place c =
    let p = err_from_is_err_and c.from_residual-in_err-place.result c.from_residual-in_err-place.ensures.1 in
    let h = c.in_ok-expect.ensures in
    rw (p.1, p.2)
    (λ n m. element_failed c.args.tokens.now.symbols c.expect.new.tokens.symbols h.1 (sym c.sees.ensures ∙ c.if-sees.false) h.0 (fault_of c.in_err-place.field-0.0) c.digits.new.tokens.symbols (c.in_err-place.ensures.gives m) n)

pub returns-in_err-expect-2 : goal.returns-in_err-expect-2
returns-in_err-expect-2 c =
    let p = err_from_is_err_and c.from_residual-in_err-expect-2.result c.from_residual-in_err-expect-2.ensures.1 in
    let h = c.in_ok-expect.ensures in
    let g = c.in_err-expect-2.ensures in
    rw (p.1, p.2, g.2, g.1)
    (λ n m. element_open c.args.tokens.now.symbols c.expect.new.tokens.symbols h.1 (sym c.sees.ensures ∙ c.if-sees.false) h.0 c.in_ok-place.place c.digits.new.tokens.symbols c.in_ok-place.ensures.gives g.0 n)

pub returns : goal.returns
returns c =
    let h = c.in_ok-expect.ensures in
    let g = c.in_ok-expect-2.ensures in
    rw g.1
    (λ n. element_found c.args.tokens.now.symbols c.expect.new.tokens.symbols h.1 (sym c.sees.ensures ∙ c.if-sees.false) h.0 c.in_ok-place.place c.digits.new.tokens.symbols c.in_ok-place.ensures.gives g.0 n)
