-- All, which is tried ahead, or items.
use Rattle.std.proofs.Common.{◌∙◌, ap}
use Rattle.std.proofs.lemmas.Result.{err_from_is_err_and}
use Rattle.grammar_rules.specs.declared.worked.selections.Selection.TheVariants.{Listed}
use Rattle.grammar_rules.specs.Readers.{read_made}
use Rattle.grammar_rules.proofs.WorkedSelectionSteps.{selection_all, selection_listed}
use Rattle.grammar_rules.proofs.worked.selections.whole.Goals as goal

pub returns-in-Some : goal.returns-in-Some
returns-in-Some c = record {
  gives = selection_all c.args.words.now 3 4 c.in-Some.name c.all_of.new.words c.in-Some.ensures.gives;
  passes = c.in-Some.ensures.passes;
}

pub returns-in_err-found : goal.returns-in_err-found
returns-in_err-found c =
    let p = err_from_is_err_and c.from_residual.result c.from_residual.ensures.1 in
    let same = c.in_default.ensures.gives.1 in
    rw (p.1, p.2)
    (record {
      gives = λ n. selection_listed c.args.words.now 3 4 c.in_default.ensures.gives.0 ∙ ap (read_made Listed) (rw same at (c.in_err-found.ensures.gives n));
      passes = rw (← same) c.in_err-found.ensures.passes;
    })

pub returns : goal.returns
returns c =
    let same = c.in_default.ensures.gives.1 in
    record {
      gives = selection_listed c.args.words.now 3 4 c.in_default.ensures.gives.0 ∙ ap (read_made Listed) (rw same at c.in_ok-found.ensures.gives);
      passes = rw (← same) c.in_ok-found.ensures.passes;
    }
