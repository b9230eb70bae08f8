use Rattle.sql_eval.proofs.Gives.{truth_told}
use Rattle.sql_eval.proofs.evaluate.+eval.Goals as goal

pub logic_test-returns : goal.logic_test-returns
logic_test-returns g t c = truth_told _ _ c.logic.ensures

pub test-returns-in-Some : goal.test-returns-in-Some
test-returns-in-Some g t c = truth_told _ _ c.in-Some.ensures
