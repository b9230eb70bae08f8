use Rattle.std.specs.Prelude.{OnOk}
use Rattle.std.proofs.Common.{◌≡◌, ◌∙◌, ap, sym, subst, length, nat_le}
use Rattle.record_output.specs.Writing.{within_limit, closed}
use Rattle.record_output.proofs.Whole.{whole_object, some_members}
use Rattle.record_output.proofs.out.Out.add_whole.Goals as goal

pub returns-in-Json-clause-verdict : goal.returns-in-Json-clause-verdict
returns-in-Json-clause-verdict c =
    λ tree s. let e = whole_object c.args.self.now.output c.in-Json.field-0 tree c.args.node.now (ap (λ w. w.output) (sym c.self.view_is) ∙ c.in-Json.is) (sym (c.is_object.ensures tree s) ∙ c.if-not-is_object.false) s in
    c.copy_object.ensures.verdict ∙ ap (λ l. within_limit (nat_le (length l) c.args.self.now.longest)) (sym e)

pub returns-in-Json-clause-ok : goal.returns-in-Json-clause-ok
returns-in-Json-clause-ok c =
    λ tree s. let e = whole_object c.args.self.now.output c.in-Json.field-0 tree c.args.node.now (ap (λ w. w.output) (sym c.self.view_is) ∙ c.in-Json.is) (sym (c.is_object.ensures tree s) ∙ c.if-not-is_object.false) s in
    subst (λ l. OnOk c.copy_object.result (closed c.copy_object.new.self ≡ l)) (sym e) c.copy_object.ensures.ok

pub returns-in-Json-clause-some : goal.returns-in-Json-clause-some
returns-in-Json-clause-some c =
    λ tree s. subst (λ b. OnOk c.copy_object.result (c.copy_object.new.self.some ≡ b)) (some_members c.args.node.now tree s (sym (c.is_object.ensures tree s) ∙ c.if-not-is_object.false)) c.copy_object.ensures.some
