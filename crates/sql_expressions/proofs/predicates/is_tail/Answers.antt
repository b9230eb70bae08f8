-- IS, NOT or not, and NULL or MISSING.
use Rattle.std.proofs.Common.{sym, ap, ◌∙◌}
use Rattle.std.proofs.lemmas.Result.{err_from_is_err_and}
use Rattle.sql_grammar.specs.Expressions.{room_of}
use Rattle.grammar_rules.specs.Readers.{read_made}
use Rattle.sql_leaves.specs.Parsing.{read_inside}
use Rattle.sql_expressions.proofs.WordSteps.{is_refused, is_plain, is_not}
use Rattle.sql_expressions.proofs.predicates.is_tail.Goals as goal

pub returns-in_err-expect : goal.returns-in_err-expect
returns-in_err-expect g c =
    let p = err_from_is_err_and c.from_residual.result c.from_residual.ensures.1 in
    let h = c.in_err-expect.ensures in
    let d = c.args.nest.now.depth in
    rw (p.1, p.2, h.2, h.1) (λ m. is_refused (room_of d) (read_inside d) c.args.value c.args.primaries.now c.args.tokens.now.symbols h.0)

pub returns-in_err-made : goal.returns-in_err-made
returns-in_err-made g c =
    let p = err_from_is_err_and c.from_residual-in_err-made.result c.from_residual-in_err-made.ensures.1 in
    let h = c.in_ok-expect.ensures in
    let d = c.args.nest.now.depth in
    let n = c.args.primaries.now in
    rw (p.1, p.2) (λ m. is_not (room_of d) (read_inside d) c.args.value n c.args.tokens.now.symbols h.0 c.expect.new.tokens.symbols c.skip.new.self.symbols h.1 (sym c.sees.ensures ∙ c.if-sees.true) (ap (λ r. r.symbols) c.skip.ensures) ∙ ap (read_made (λ v. (v, n))) (c.in_err-made.ensures m))

pub returns-then-sees : goal.returns-then-sees
returns-then-sees g c =
    let h = c.in_ok-expect.ensures in
    let d = c.args.nest.now.depth in
    let n = c.args.primaries.now in
    is_not (room_of d) (read_inside d) c.args.value n c.args.tokens.now.symbols h.0 c.expect.new.tokens.symbols c.skip.new.self.symbols h.1 (sym c.sees.ensures ∙ c.if-sees.true) (ap (λ r. r.symbols) c.skip.ensures) ∙ ap (read_made (λ v. (v, n))) c.in_ok-made.ensures

pub returns-in_err-made-2 : goal.returns-in_err-made-2
returns-in_err-made-2 g c =
    let p = err_from_is_err_and c.from_residual-in_err-made-2.result c.from_residual-in_err-made-2.ensures.1 in
    let h = c.in_ok-expect.ensures in
    let d = c.args.nest.now.depth in
    let n = c.args.primaries.now in
    rw (p.1, p.2) (λ m. is_plain (room_of d) (read_inside d) c.args.value n c.args.tokens.now.symbols h.0 c.expect.new.tokens.symbols h.1 (sym c.sees.ensures ∙ c.if-sees.false) ∙ ap (read_made (λ v. (v, n))) (c.in_err-made-2.ensures m))

pub returns : goal.returns
returns g c =
    let h = c.in_ok-expect.ensures in
    let d = c.args.nest.now.depth in
    let n = c.args.primaries.now in
    is_plain (room_of d) (read_inside d) c.args.value n c.args.tokens.now.symbols h.0 c.expect.new.tokens.symbols h.1 (sym c.sees.ensures ∙ c.if-sees.false) ∙ ap (read_made (λ v. (v, n))) c.in_ok-made-2.ensures
