-- The first token, and the tokens behind it.
use Rattle.std.proofs.Common.{◌∙◌, sym, length, eqb-true}
use Rattle.std.proofs.lemmas.Bool.{eqb-false}
use Rattle.sql_tokens.proofs.CutSteps.{nothing_left, token_left, keeps_bounds}
use Rattle.sql_tokens.proofs.cursor.Cursor.cut.Goals as goal

pub returns-then-is_empty : goal.returns-then-is_empty
returns-then-is_empty c = nothing_left c.args.at c.args.text.now c.without_blanks-rest.result.now c.without_blanks-rest.ensures (eqb-true (length c.without_blanks-rest.result.now) 0 (sym c.is_empty.ensures ∙ c.if-is_empty.true))

pub returns : goal.returns
returns c = token_left c.args.at c.args.text.now c.without_blanks-rest.result.now c.first_token-token.result.behind.now c.first_token-token.result.sight c.without_blanks-rest.ensures (eqb-false (length c.without_blanks-rest.result.now) 0 (sym c.is_empty.ensures ∙ c.if-is_empty.false)) c.first_token-token.ensures

pub invariant_of-result-2 : goal.invariant_of-result-2
invariant_of-result-2 c = keeps_bounds c.args.at c.args.text.now c.without_blanks-rest.result.now c.first_token-token.result.behind.now c.first_token-token.result.sight c.without_blanks-rest.ensures c.first_token-token.ensures c.requires
