use Rattle.std.proofs.Common.{ℕ, List, Option, None, Some, MatchOption, subst}
use Rattle.event_frame.specs.CountsText.{HasNoCounts, ReadsCounts}
use Rattle.event_frame.specs.CountsParts.{HasNoElement, ReadsElement, HasNoDeclared}
use Rattle.event_frame.specs.declared.counts.Counts.{Counts}
use Rattle.event_frame.proofs.CountsElement.{no_counts, reads-plain, reads-declared}
use Rattle.event_frame.proofs.counts.Counts.read.Goals as goal

-- without a declaration the payload is an element or nothing
last_way : (name payload : List ℕ) (found : Option Counts) → HasNoDeclared name payload
    → MatchOption found (HasNoElement name payload) (ReadsElement name payload) → MatchOption found (HasNoCounts name payload) (ReadsCounts name payload)
last_way name payload None declared plain = no_counts name payload declared plain
last_way name payload (Some c) declared x = reads-plain name payload c x

pub returns-in-Some : goal.returns-in-Some
returns-in-Some c =
    subst (λ (name : List ℕ). ReadsCounts name c.args.payload.now c.in-Some.counts) c.as_bytes-name.ensures.value
    (reads-declared _ _ c.in-Some.counts c.in-Some.ensures)

pub returns-in-None : goal.returns-in-None
returns-in-None c =
    subst (λ (name : List ℕ). MatchOption c.read_element.result (HasNoCounts name c.args.payload.now) (ReadsCounts name c.args.payload.now)) c.as_bytes-name.ensures.value
    (last_way _ _ c.read_element.result c.in-None.ensures c.read_element.ensures)
