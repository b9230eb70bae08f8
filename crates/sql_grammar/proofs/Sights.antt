-- The lookaheads of expressions: the classes with which their parts begin, and those with which a whole part may go on.
use Rattle.std.proofs.Common.{◌||◌, Bool}
use Rattle.sql_tokens.specs.declared.class.Class.{Class}
use Rattle.sql_tokens.specs.declared.class.Class.TheVariants as k
use Rattle.sql_tokens.specs.Classes.{same_class}
use Rattle.grammar_rules.proofs.Clear.{Sight}
use Rattle.sql_grammar.specs.Marks.{begins_primary, begins_unary, begins_expression}
use Rattle.sql_grammar.specs.Readers.{is_step, is_prod_op, is_sum_op, begins_tail}
use Rattle.sql_grammar.proofs.Combining.{seen}

abbrev pub prod_more : Class → Bool
prod_more c = is_prod_op c || is_step c

abbrev pub sum_more : Class → Bool
sum_more c = is_sum_op c || prod_more c

abbrev pub tail_more : Class → Bool
tail_more c = same_class k.Escape c || sum_more c

abbrev pub pred_more : Class → Bool
pred_more c = begins_tail c || tail_more c

abbrev pub and_more : Class → Bool
and_more c = same_class k.And c || pred_more c

abbrev pub or_more : Class → Bool
or_more c = same_class k.Or c || and_more c

abbrev pub primary_sight : Sight Class
primary_sight = seen begins_primary is_step

abbrev pub unary_sight : Sight Class
unary_sight = seen begins_unary is_step

abbrev pub prod_sight : Sight Class
prod_sight = seen begins_unary prod_more

abbrev pub sum_sight : Sight Class
sum_sight = seen begins_unary sum_more

abbrev pub pred_sight : Sight Class
pred_sight = seen begins_unary pred_more

abbrev pub not_sight : Sight Class
not_sight = seen begins_expression pred_more

abbrev pub and_sight : Sight Class
and_sight = seen begins_expression and_more

abbrev pub or_sight : Sight Class
or_sight = seen begins_expression or_more
