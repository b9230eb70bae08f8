-- A name with a dot and a star behind it, or none.
use Rattle.std.proofs.Common.{sym, ap, ◌∙◌}
use Rattle.select_sql.proofs.SelectSteps.{all_unnamed, all_undotted, all_unstarred, all_starred}
use Rattle.select_sql.proofs.query.all_of_name.Goals as goal

pub returns-then-not-is_path_name : goal.returns-then-not-is_path_name
returns-then-not-is_path_name c = all_unnamed c.args.tokens.now.symbols (rw (← c.class.ensures) (sym c.is_path_name.ensures ∙ c.if-not-is_path_name.true))

pub returns-then-not-sees : goal.returns-then-not-sees
returns-then-not-sees c = all_undotted c.args.tokens.now.symbols c.skip.new.self.symbols (rw (← c.class.ensures) (sym c.is_path_name.ensures ∙ c.if-not-is_path_name.false)) (ap (λ r. r.symbols) c.skip.ensures) (sym c.sees.ensures ∙ c.if-not-sees.true)

pub returns-then-not-sees-2 : goal.returns-then-not-sees-2
returns-then-not-sees-2 c =
    all_unstarred c.args.tokens.now.symbols c.skip.new.self.symbols c.skip-2.new.self.symbols (rw (← c.class.ensures) (sym c.is_path_name.ensures ∙ c.if-not-is_path_name.false)) (ap (λ r. r.symbols) c.skip.ensures) (sym c.sees.ensures ∙ c.if-not-sees.false) (ap (λ r. r.symbols) c.skip-2.ensures) (sym c.sees-2.ensures ∙ c.if-not-sees-2.true)

pub returns : goal.returns
returns c =
    all_starred c.args.tokens.now.symbols c.skip.new.self.symbols c.skip-2.new.self.symbols c.in_ok-name.name (rw (← c.class.ensures) (sym c.is_path_name.ensures ∙ c.if-not-is_path_name.false)) c.in_ok-name.ensures (ap (λ r. r.symbols) c.skip.ensures) (sym c.sees.ensures ∙ c.if-not-sees.false) (ap (λ r. r.symbols) c.skip-2.ensures) (sym c.sees-2.ensures ∙ c.if-not-sees-2.false)
