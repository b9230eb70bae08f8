-- A token stands at each place that was passed.
use Rattle.std.proofs.Common.{◌≡◌, length}
use Rattle.sql_tokens.specs.Cutting.{first_unfit, lexer_fault}
use Rattle.sql_tokens.proofs.tokens.first_unfit.Given as goal

abbrev pub invariant-tokens : goal.invariant-tokens
invariant-tokens l = lexer_fault l.fn.text ≡ first_unfit l.cursor.symbols

abbrev pub decreases-tokens : goal.decreases-tokens
decreases-tokens l = length l.cursor.symbols
