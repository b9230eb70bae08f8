-- What the loop over the steps has read.
use Rattle.std.proofs.Common.{◌≡◌, ℕ, ◌++◌, length}
use Rattle.grammar_rules.specs.CountedReaders.{read_given}
use Rattle.sql_grammar.specs.QueryReaders.{read_steps}
use Rattle.select_sql.proofs.source.more_steps.Given as goal

abbrev pub invariant-steps : goal.invariant-steps
invariant-steps l = (n : ℕ) → read_given (λ rest. l.fn.so_far ++ rest) (read_steps l.fn.most) n l.fn.tokens.symbols ≡ read_given (λ rest. l.all ++ rest) (read_steps l.left) n l.tokens.symbols

abbrev pub decreases-steps : goal.decreases-steps
decreases-steps l = length l.tokens.symbols
