-- Runs: the answers of a window's `next`, one call after the other.
use Rattle.std.specs.Prelude.{◌≡◌, ℕ, ◌+◌, ◌-◌, ◌<◌, ◌≤◌, Bool, true, false, List, [], ◌∷◌, ◌++◌, length, Result, Ok, Err}
use Rattle.select_ports.specs.declared.outcome.Failed.{Failed}
use Rattle.select_ports.specs.declared.outcome.Range.{Range}
use Rattle.select_ports.specs.Stored.{Opened}
use Rattle.line_window.specs.declared.line.Line.{Line}
use Rattle.line_window.specs.declared.line.Line.TheVariants.{At, TooLong, End}
use Rattle.line_window.specs.Cuts.{Cut, cuts_in}
use Rattle.line_window.specs.Sliding.{View, left, Tells, IsSought, Took}
use Rattle.line_window.specs.Answers.{ShowsCut, Turns}

-- one call, and then a run from what it left
pub record Proceeds (opened : Opened) (old : View) (result : Result Line Failed) (before : ℕ) (later : View → ℕ → Type 0) : Type 0 where
  pub middle : View
  pub between : ℕ
  pub turn : Turns opened old middle result before between
  pub rest : later middle between

-- the calls gave these answers, and left the window and the count of bytes read so
abbrev pub IsRun : Opened → View → List (Result Line Failed) → View → ℕ → ℕ → Type 0
IsRun opened old [] new before now = (new ≡ old) × (now ≡ before)
IsRun opened old (result ∷ results) new before now =
    Proceeds opened old result before (λ middle between. IsRun opened middle results new between now)

-- the answer shows the first of these cuts, and later answers the others
pub record ShowsNext (longest : ℕ) (shown : List Cut) (line : Line) (later : List Cut → Type 0) : Type 0 where
  pub cut : Cut
  pub others : List Cut
  pub first : shown ≡ cut ∷ others
  pub here : ShowsCut longest cut line
  pub rest : later others

-- the answers with a line show these cuts, one after the other
abbrev pub ShowCuts : ℕ → List Cut → List (Result Line Failed) → Type 0
ShowCuts longest shown [] = shown ≡ []
ShowCuts longest shown (Ok (At start bytes whole) ∷ results) = ShowsNext longest shown (At start bytes whole) (λ others. ShowCuts longest others results)
ShowCuts longest shown (Ok (TooLong start) ∷ results) = ShowsNext longest shown (TooLong start) (λ others. ShowCuts longest others results)
ShowCuts longest shown (Ok End ∷ results) = ShowCuts longest shown results
ShowCuts longest shown (Err failed ∷ results) = ShowCuts longest shown results

-- some answer is `End`
abbrev pub has_end : List (Result Line Failed) → Bool
has_end [] = false
has_end (Ok (At start bytes whole) ∷ results) = has_end results
has_end (Ok (TooLong start) ∷ results) = has_end results
has_end (Ok End ∷ results) = true
has_end (Err failed ∷ results) = has_end results

-- what a run over a range of an object answered: the range's first cuts, each once and in order, and all of them where `End` came
pub record AnswersRange (object : List ℕ) (old new : View) (range : Range) (results : List (Result Line Failed)) : Type 0 where
  pub shown : List Cut
  pub split : cuts_in old.delimiter object range.first range.last ≡ shown ++ left object new
  pub lines : ShowCuts old.longest shown results
  pub all : has_end results ≡ true → left object new ≡ []

-- Every run after a seek answers the range's cuts, each once and in order.
abbrev pub RunsAnswerRange : Type 0
RunsAnswerRange =
    (opened : Opened) (object : List ℕ) (old sought new : View) (range : Range) (results : List (Result Line Failed)) (before now : ℕ)
    → Tells opened object → IsSought old sought (length object) range → IsRun opened sought results new before now
    → AnswersRange object old new range results

-- what a run took: fewer bytes than the range has, the record limit and two pieces of 65,536; no more than the place has gone on and
-- the buffer takes; and none past the object's end
pub record TakesFew (old new : View) (range : Range) (object_size before now : ℕ) : Type 0 where
  pub count : ℕ
  pub took : Took count before now
  pub fewer : count < (range.last + 1 - range.first) + old.longest + 131072
  pub kept : count + range.first ≤ new.place + old.longest + 131074
  pub object : count + (range.first - length old.delimiter) ≤ object_size

-- Every run after a seek takes few bytes, whatever the reads hand out and wherever one fails.
abbrev pub RunsTakeFew : Type 0
RunsTakeFew =
    (opened : Opened) (old sought new : View) (range : Range) (object_size : ℕ) (results : List (Result Line Failed)) (before now : ℕ)
    → IsSought old sought object_size range → IsRun opened sought results new before now
    → TakesFew old new range object_size before now
