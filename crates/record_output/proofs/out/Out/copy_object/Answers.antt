use Rattle.std.proofs.Common.{ap, sym, subst, arith, length, ◌∙◌}
use Rattle.json_text.specs.Nodes.{IsNode}
use Rattle.json_text.specs.Skipped.{outside}
use Rattle.json_text.specs.Compact.{squeezed}
use Rattle.record_output.specs.Records.{closing}
use Rattle.record_output.proofs.Appended.{copied}
use Rattle.record_output.proofs.Whole.{brace_there, brace_last, object_closed}
use Rattle.record_output.proofs.out.Out.copy_object.Goals as goal

pub overflow_sub-self : goal.overflow_sub-self
overflow_sub-self c =
    let text = squeezed outside c.args.node.now in
    let same = copied c.self.inside.buffer c.clear.new.self c.push_squeezed.new.out text c.bytes-len.result.now c.clear.ensures c.in-Ok.ensures.ok c.bytes-len.ensures.value in
    omega (arith, brace_there c.args.node.now c.requires.object (subst (λ b. ∥ IsNode b ∥₁) c.token-token.ensures.value c.token-token.ensures.sound), ap length same)

pub returns-clause-ok : goal.returns-clause-ok
returns-clause-ok c =
    let text = squeezed outside c.args.node.now in
    let same = copied c.self.inside.buffer c.clear.new.self c.push_squeezed.new.out text c.bytes-len.result.now c.clear.ensures c.in-Ok.ensures.ok c.bytes-len.ensures.value in
    object_closed c.bytes-len.result.now c.push_squeezed.new.out.bytes text (closing c.self.inside.output) same (sym c.bytes-len.ensures.value ∙ same)
    (ap (λ w. closing w.output) c.self.view_is ∙ c.requires.json)
    (brace_last c.args.node.now c.requires.object (subst (λ b. ∥ IsNode b ∥₁) c.token-token.ensures.value c.token-token.ensures.sound))
