use Rattle.std.proofs.Common.{ℕ, List, Some, sym, ap, ◌∙◌}
use Rattle.lent_ports.specs.Lent.{only}
use Rattle.select_tool.proofs.MemoryLaws.{in_memory}
use Rattle.select_tool.proofs.in_memory.select_in_memory.Goals as goal

pub returns-then-status-lt2 : goal.returns-then-status-lt2
returns-then-status-lt2 c =
    in_memory c.as_slice.result.now c.run-status.result _ _ c.run-status.ensures.answers c.in_ok-verb.verb c.in_ok-word.word c.args.name.now c.args.object.now
    c.args.body.now c.into_bytes.result.items (c.as_slice.ensures.value ∙ c.in_ok-words.ensures.items) c.in_ok-verb.ensures.ok c.in_ok-word.ensures.ok
    c.if-status-lt2.true
    (ap (λ (n : List ℕ). Some (only n c.of-store.result.bytes.now)) c.of-store.ensures.name ∙ ap (λ (b : List ℕ). Some (only c.args.name.now b)) c.of-store.ensures.bytes)
    (ap (λ b. Some b) c.of-input.ensures.left) (ap (λ b. Some b) c.empty-out.ensures.bytes) (ap (λ v. Some v.items) (sym c.into_bytes.ensures))
