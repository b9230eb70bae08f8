-- Behind the text stand commas or words.
use Rattle.std.proofs.Common.{sym, ◌∙◌}
use Rattle.sql_grammar.specs.Expressions.{room_of}
use Rattle.sql_leaves.specs.Parsing.{read_inside}
use Rattle.sql_expressions.proofs.TailSteps.{substring_by_commas, substring_by_words}
use Rattle.sql_expressions.proofs.functions.substring_rest.Goals as goal

pub returns-then-sees : goal.returns-then-sees
returns-then-sees g c =
    let d = c.args.nest.now.depth in
    rw (substring_by_commas (room_of d) (read_inside d) c.args.primaries.now c.args.tokens.now.symbols c.in_ok-text.text c.inside.new.primaries c.inside.new.tokens.symbols c.in_ok-text.ensures (sym c.sees.ensures ∙ c.if-sees.true))
    c.substring_commas.ensures

pub returns : goal.returns
returns g c =
    let d = c.args.nest.now.depth in
    rw (substring_by_words (room_of d) (read_inside d) c.args.primaries.now c.args.tokens.now.symbols c.in_ok-text.text c.inside.new.primaries c.inside.new.tokens.symbols c.in_ok-text.ensures (sym c.sees.ensures ∙ c.if-sees.false))
    c.substring_words.ensures
