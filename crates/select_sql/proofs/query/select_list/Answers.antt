-- All, all of a name, or items.
use Rattle.std.proofs.Common.{sym, ap, drop, Some, None, ◌∙◌}
use Rattle.std.proofs.lemmas.Result.{err_from_is_err_and}
use Rattle.sql_leaves.specs.Parsing.{fault_of}
use Rattle.select_sql.specs.Written.{AllOfName}
use Rattle.select_sql.proofs.SelectSteps.{list_everything, list_named, list_items, all_moved}
use Rattle.select_sql.proofs.query.select_list.Goals as goal

pub returns-then-sees : goal.returns-then-sees
returns-then-sees c = list_everything c.args.primaries.now c.args.tokens.now.symbols c.skip.new.self.symbols (sym c.sees.ensures ∙ c.if-sees.true) (ap (λ r. r.symbols) c.skip.ensures)

pub returns-in-Some : goal.returns-in-Some
returns-in-Some c =
    let h : AllOfName c.args.tokens.now.symbols (Some c.in-Some.name) = all_moved c.args.ahead.now.symbols c.args.tokens.now.symbols c.in_ok-named.named (Some c.in-Some.name) c.requires c.in-Some.is c.in_ok-named.ensures in
    list_named c.args.primaries.now c.args.tokens.now.symbols c.in-Some.name c.skip-in-Some-3.new.self.symbols (sym c.sees.ensures ∙ c.if-sees.false) h
    (ap (λ r. r.symbols) c.skip-in-Some-3.ensures ∙ ap (drop 1) (ap (λ r. r.symbols) c.skip-in-Some-2.ensures ∙ ap (drop 1) (ap (λ r. r.symbols) c.skip-in-Some.ensures)))

pub returns-in_err-all : goal.returns-in_err-all
returns-in_err-all c =
    let p = err_from_is_err_and c.from_residual-in_err-all.result c.from_residual-in_err-all.ensures.1 in
    let h : AllOfName c.args.tokens.now.symbols None = all_moved c.args.ahead.now.symbols c.args.tokens.now.symbols c.in_ok-named.named None c.requires c.in_default.is c.in_ok-named.ensures in
    rw (p.1, p.2) (λ m. list_items c.args.primaries.now c.args.tokens.now.symbols (sym c.sees.ensures ∙ c.if-sees.false) h ∙ c.in_err-all.ensures m)

pub returns : goal.returns
returns c =
    let h : AllOfName c.args.tokens.now.symbols None = all_moved c.args.ahead.now.symbols c.args.tokens.now.symbols c.in_ok-named.named None c.requires c.in_default.is c.in_ok-named.ensures in
    list_items c.args.primaries.now c.args.tokens.now.symbols (sym c.sees.ensures ∙ c.if-sees.false) h ∙ c.in_ok-all.ensures
