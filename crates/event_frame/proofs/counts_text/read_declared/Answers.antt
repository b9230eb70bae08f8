use Rattle.std.proofs.Common.{◌≡◌, ◌++◌, ℕ, List, Option, None, Some, MatchOption, sym, ◌∙◌}
use Rattle.std.proofs.lemmas.List.{append_cancel_left}
use Rattle.event_frame.specs.CountsText.{declaration}
use Rattle.event_frame.specs.CountsParts.{HasNoElement, ReadsElement, HasNoDeclared, ReadsDeclared}
use Rattle.event_frame.specs.declared.counts.Counts.{Counts}
use Rattle.event_frame.proofs.CountsLaws.{left_early}
use Rattle.event_frame.proofs.counts_text.read_declared.Goals as goal

-- an element behind a declaration
behind_declaration : (name payload element : List ℕ) (found : Option Counts) → payload ≡ declaration ++ element
    → MatchOption found (HasNoElement name element) (ReadsElement name element) → MatchOption found (HasNoDeclared name payload) (ReadsDeclared name payload)
behind_declaration name payload element None e none = λ other is c x. none c
    (record {
      text = x.text;
      printed = append_cancel_left declaration element other (sym e ∙ is) ∙ x.printed;
      spelled = x.spelled;
    })
behind_declaration name payload element (Some c) e x = record { behind = element; declared = e; element = x }

pub returns-in_err-element : goal.returns-in_err-element
returns-in_err-element c = left_early _ _ _ c.from_residual.ensures (λ element e counts x. c.in_err-element.ensures element e)

pub returns : goal.returns
returns c = behind_declaration _ _ c.in_ok-element.element.now c.read_element.result c.in_ok-element.ensures c.read_element.ensures
