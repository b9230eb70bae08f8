-- The arguments are those of the function of this class.
use Rattle.sql_grammar.specs.Expressions.{room_of}
use Rattle.sql_leaves.specs.Parsing.{read_inside}
use Rattle.sql_expressions.proofs.ArgumentSteps.{arguments_simple}
use Rattle.sql_expressions.proofs.functions.arguments.Goals as goal

pub returns-in-Cast : goal.returns-in-Cast
returns-in-Cast g c = rw c.in-Cast.is c.cast_rest.ensures

pub returns-in-CoalesceCalled : goal.returns-in-CoalesceCalled
returns-in-CoalesceCalled g c = rw c.in-CoalesceCalled.is c.coalesce_rest.ensures

pub returns-in-NullifCalled : goal.returns-in-NullifCalled
returns-in-NullifCalled g c = rw c.in-NullifCalled.is c.nullif_rest.ensures

pub returns-in-SubstringCalled : goal.returns-in-SubstringCalled
returns-in-SubstringCalled g c = rw c.in-SubstringCalled.is c.substring_rest.ensures

pub returns-in-TrimCalled : goal.returns-in-TrimCalled
returns-in-TrimCalled g c = rw c.in-TrimCalled.is c.trim_rest.ensures

pub returns-in-ExtractCalled : goal.returns-in-ExtractCalled
returns-in-ExtractCalled g c = rw c.in-ExtractCalled.is c.extract_rest.ensures

pub returns-in-DateAddCalled : goal.returns-in-DateAddCalled
returns-in-DateAddCalled g c = rw c.in-DateAddCalled.is c.date_add_rest.ensures

pub returns-in_default : goal.returns-in_default
returns-in_default g c =
    let d = c.args.nest.now.depth in
    rw (arguments_simple (room_of d) (read_inside d) c.args.class c.in_default.not-Cast c.in_default.not-CoalesceCalled c.in_default.not-NullifCalled c.in_default.not-SubstringCalled c.in_default.not-TrimCalled c.in_default.not-ExtractCalled c.in_default.not-DateAddCalled c.args.primaries.now c.args.tokens.now.symbols) c.simple_rest.ensures
