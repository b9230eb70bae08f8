use Rattle.std.proofs.Common.{◌≡◌, ◌-◌, ◌<◌, ◌^◌, ◌/◌, ℕ, List, length, ap, ◌∙◌, subst}
use Rattle.event_frame.specs.Register.{absorbed, absorbed_blocks}
use Rattle.event_frame.proofs.RegisterLaws.{absorbed-chunks}
use Rattle.event_frame.proofs.Division.{crc_of-absorbed}
use Rattle.event_frame.proofs.crc.crc32.Goals as goal

pub returns : goal.returns
returns c =
    let bytes : List ℕ = c.args.bytes.now in
    let whole : c.absorb_bytes.result ≡ absorbed 0xFFFFFFFF bytes =
    c.absorb_bytes.ensures
    ∙ ap (λ r. absorbed r c.as_chunks.result.1.now)
    (c.absorb_blocks.ensures ∙ ap (absorbed_blocks 0xFFFFFFFF) c.as_chunks.ensures.front)
    ∙ ap (absorbed _) c.as_chunks.ensures.back
    ∙ absorbed-chunks 0xFFFFFFFF 16 (length bytes / 16) bytes in
    let Small : ℕ → Type 0 = λ r. r < 2 ^ 32 in
    ap (λ r. 0xFFFFFFFF - r) whole
    ∙ crc_of-absorbed bytes (λ i. (c.type_inv.bytes i).fits) (subst Small whole c.absorb_bytes.type_inv)
