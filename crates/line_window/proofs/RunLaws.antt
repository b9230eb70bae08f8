-- Runs of a window: what they answer, and how many bytes they take.
use Rattle.std.proofs.Common.{◌≡◌, ℕ, ◌+◌, ◌-◌, ◌≤◌, max, true, List, [], ◌∷◌, ◌++◌, length, Result, Ok, Err, refl, sym, ap, ◌∙◌, subst, arith}
use Rattle.select_ports.specs.declared.outcome.Failed.{Failed}
use Rattle.select_ports.specs.Stored.{Opened}
use Rattle.line_window.specs.declared.line.Line.{Line}
use Rattle.line_window.specs.declared.line.Line.TheVariants.{At, TooLong, End}
use Rattle.line_window.specs.Cuts.{Cut}
use Rattle.line_window.specs.Sliding.{View, left, Tells, Holds, IsSound, SameRules, Took}
use Rattle.line_window.specs.Answers.{ShowsCut}
use Rattle.line_window.specs.Runs.{IsRun, ShowCuts, has_end, RunsAnswerRange, RunsTakeFew}
use Rattle.line_window.proofs.DelimiterLaws.{width}
use Rattle.line_window.proofs.WayLaws.{took_none, took_more, same_rules, more_rules}

-- nothing is left of joined lists that are empty
nothing_left : (xs ys : List Cut) → [] ≡ xs ++ ys → ys ≡ []
nothing_left [] ys e = sym e
nothing_left (x ∷ xs) ys e = absurd (cc)

-- what some answers show of the cuts that were left before them
record Answered (longest : ℕ) (before after : List Cut) (results : List (Result Line Failed)) : Type 0 where
  shown : List Cut
  split : before ≡ shown ++ after
  lines : ShowCuts longest shown results
  all : has_end results ≡ true → after ≡ []

answered : (opened : Opened) (object : List ℕ) (old new : View) (longest : ℕ) (results : List (Result Line Failed)) (before now : ℕ)
    → Tells opened object → Holds object old → old.longest ≡ longest → IsRun opened old results new before now
    → Answered longest (left object old) (left object new) results
answered opened object old new longest [] before now tells h limit run = record {
  shown = [];
  split = ap (left object) (sym run.0);
  lines = refl;
  all = λ ended. absurd (cc);
}
answered opened object old new longest (Ok (At start bytes whole) ∷ results) before now tells h limit run =
    let told = run.turn.told object tells h in
    let next = told.1 in
    let later = answered opened object run.middle new longest results run.between now tells told.0 (run.turn.rules.longest ∙ limit) run.rest in
    record {
      shown = next.cut ∷ later.shown;
      split = next.first ∙ ap (λ l. next.cut ∷ l) later.split;
      lines = record {
        cut = next.cut;
        others = later.shown;
        first = refl;
        here = subst (λ n. ShowsCut n next.cut (At start bytes whole)) limit next.shown;
        rest = later.lines;
      };
      all = later.all;
    }
answered opened object old new longest (Ok (TooLong start) ∷ results) before now tells h limit run =
    let told = run.turn.told object tells h in
    let next = told.1 in
    let later = answered opened object run.middle new longest results run.between now tells told.0 (run.turn.rules.longest ∙ limit) run.rest in
    record {
      shown = next.cut ∷ later.shown;
      split = next.first ∙ ap (λ l. next.cut ∷ l) later.split;
      lines = record {
        cut = next.cut;
        others = later.shown;
        first = refl;
        here = subst (λ n. ShowsCut n next.cut (TooLong start)) limit next.shown;
        rest = later.lines;
      };
      all = later.all;
    }
answered opened object old new longest (Ok End ∷ results) before now tells h limit run =
    let told = run.turn.told object tells h in
    let later = answered opened object run.middle new longest results run.between now tells told.0 (run.turn.rules.longest ∙ limit) run.rest in
    record {
      shown = later.shown;
      split = told.1.0 ∙ sym told.1.1 ∙ later.split;
      lines = later.lines;
      all = λ ended. nothing_left later.shown (left object new) (sym told.1.1 ∙ later.split);
    }
answered opened object old new longest (Err failed ∷ results) before now tells h limit run =
    let told = run.turn.told object tells h in
    let later = answered opened object run.middle new longest results run.between now tells told.0 (run.turn.rules.longest ∙ limit) run.rest in
    record {
      shown = later.shown;
      split = sym told.1 ∙ later.split;
      lines = later.lines;
      all = later.all;
    }

pub runs_answer_range : RunsAnswerRange
runs_answer_range opened object old sought new range results before now tells seeks run =
    let given = answered opened object sought new old.longest results before now tells (seeks.holds object refl) seeks.longest run in
    record {
      shown = given.shown;
      split = sym (seeks.cuts object) ∙ given.split;
      lines = given.lines;
      all = given.all;
    }

-- what a run makes of a window
record Moves (old new : View) (before now : ℕ) : Type 0 where
  sound : IsSound new
  rules : SameRules old new
  forward : old.upto ≤ new.upto
  onwards : old.place ≤ new.place
  taken : Took (new.upto - old.upto) before now
  near : new.upto ≤ max old.upto (old.stop + old.longest + 65536)

moves : (opened : Opened) (old new : View) (results : List (Result Line Failed)) (before now : ℕ) → IsSound old
    → IsRun opened old results new before now → Moves old new before now
moves opened old new [] before now sound run =
    subst (λ (v : View). Moves old v before now) (sym run.0)
    (subst (λ n. Moves old old before n) (sym run.1) (record {
      sound = sound;
      rules = same_rules old;
      forward = omega arith;
      onwards = omega arith;
      taken = took_none _ before (omega arith);
      near = omega arith;
    }))
moves opened old new (result ∷ results) before now sound run =
    let later = moves opened run.middle new results run.between now run.turn.sound run.rest in
    let first_forward = run.turn.forward in
    let later_forward = later.forward in
    let first_onwards = run.turn.onwards in
    let later_onwards = later.onwards in
    let first_near = run.turn.near in
    let later_near = later.near in
    let stop = run.turn.rules.stop in
    let longest = run.turn.rules.longest in
    record {
      sound = later.sound;
      rules = more_rules old run.middle new run.turn.rules later.rules;
      forward = omega arith;
      onwards = omega arith;
      taken = took_more (run.middle.upto - old.upto) (new.upto - run.middle.upto) _ before run.between now (omega arith) run.turn.taken later.taken;
      near = omega arith;
    }

pub runs_take_few : RunsTakeFew
runs_take_few opened old sought new range object_size results before now seeks run =
    let made = moves opened sought new results before now seeks.sound run in
    let sound = made.sound in
    let kept = sound.kept in
    let room = sound.room in
    let read = sound.read in
    let size = made.rules.size in
    let longest = made.rules.longest in
    let same : length new.delimiter ≡ length old.delimiter = ap length made.rules.delimiter ∙ ap length seeks.delimiter in
    let wide = width new.delimiter sound.delimiter in
    let begins = seeks.begins in
    let at = seeks.place in
    let limit = seeks.longest in
    let stop = seeks.stop in
    let size_sought = seeks.size in
    let forward = made.forward in
    let onwards = made.onwards in
    let near = made.near in
    record {
      count = new.upto - sought.upto;
      took = made.taken;
      fewer = omega (arith, wide.1);
      kept = omega arith;
      object = omega arith;
    }
