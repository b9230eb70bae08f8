-- What the reader's code says of a token and of all bytes, as the verdict.
use Rattle.std.specs.Prelude.{◌≡◌, ℕ, ◌≤◌, Bool, List, drop}
use Rattle.json_text.specs.Machine.{Verdict, accepted, unfit, too_deep, verdict}
use Rattle.json_text.specs.declared.machine.Mode.{Mode}
use Rattle.json_text.specs.declared.machine.Mode.TheVariants.{ValueDue, ElementDue, NameDue, FirstNameDue, ColonDue, Ended, InWord, InText, InName}
use Rattle.json_text.specs.declared.machine.Due.{Due}
use Rattle.json_text.specs.declared.machine.Due.TheVariants.{Value, FirstValue, Name, FirstName, Rest}
use Rattle.json_text.specs.declared.machine.Move.{Move}
use Rattle.json_text.specs.declared.machine.Move.TheVariants.{To, Refuse}
use Rattle.json_text.specs.declared.machine.Part.{Part}
use Rattle.json_text.specs.declared.machine.Spelling.{Spelling}
use Rattle.json_text.specs.declared.machine.Spelling.TheVariants.{More, Whole, Wrong}
use Rattle.json_text.specs.declared.judge.Judged.{Judged}
use Rattle.json_text.specs.declared.judge.Judged.TheVariants.{Accepted, Unfit, TooDeep}
use Rattle.json_text.specs.declared.tokens.Taken.{Taken}
use Rattle.json_text.specs.declared.tokens.Taken.TheVariants.{Next, Refused, PastLevels}
use Rattle.json_text.specs.declared.tokens.StringEnd.{StringEnd}
use Rattle.json_text.specs.declared.tokens.StringEnd.TheVariants.{Closed, Broken}

abbrev pub said : Judged → Verdict
said Accepted = accepted
said (Unfit at) = unfit at
said (TooDeep at) = too_deep at

-- what is due between two tokens
abbrev pub mode_of : Due → Mode
mode_of Value = ValueDue
mode_of FirstValue = ElementDue
mode_of Name = NameDue
mode_of FirstName = FirstNameDue
mode_of Rest = Ended

-- the verdict on all bytes where a token was taken so
abbrev pub after_taken : Taken → List ℕ → List Bool → Verdict
after_taken (Next due at) bytes nest = verdict (drop at bytes) (mode_of due) nest at
after_taken (Refused at) bytes nest = unfit at
after_taken (PastLevels at) bytes nest = too_deep at

-- it is the verdict from the place in the token on, whichever brackets are open
pub record Takes (taken : Taken) (bytes : List ℕ) (mode : Mode) (at : ℕ) : Type 0 where
  pub same : (nest : List Bool) → after_taken taken bytes nest ≡ verdict (drop at bytes) mode nest at

-- the reader goes on from a place between these
abbrev pub IsReached : ℕ → ℕ → Taken → Type 0
IsReached from end (Next due at) = (from ≤ at) × (at ≤ end)
IsReached from end _ = Unit {0}

abbrev pub spelling_move : Spelling → Move
spelling_move (More l) = To (InWord l)
spelling_move Whole = To Ended
spelling_move Wrong = Refuse

-- the verdict behind a string
abbrev pub behind_string : StringEnd → Mode → List ℕ → List Bool → Verdict
behind_string (Closed at) mode bytes nest = verdict (drop at bytes) mode nest at
behind_string (Broken at) mode bytes nest = unfit at

-- it is the verdict from the place in the string on, as a text and as a name
pub record Closes (bytes : List ℕ) (part : Part) (at : ℕ) (end : StringEnd) : Type 0 where
  pub text : (nest : List Bool) → behind_string end Ended bytes nest ≡ verdict (drop at bytes) (InText part) nest at
  pub name : (nest : List Bool) → behind_string end ColonDue bytes nest ≡ verdict (drop at bytes) (InName part) nest at

abbrev pub IsWithin : ℕ → ℕ → StringEnd → Type 0
IsWithin from end (Closed at) = (from ≤ at) × (at ≤ end)
IsWithin from end (Broken at) = Unit {0}
