-- What the lists of expressions read leaves less.
use Rattle.std.proofs.Common.{ℕ, Bool, refl}
use Rattle.sql_tokens.specs.declared.class.Class.TheVariants as k
use Rattle.sql_tokens.specs.Classes.{same_class}
use Rattle.grammar_rules.specs.Counted.{past, item}
use Rattle.grammar_rules.specs.CountedReaders.{read_counted_past, read_item}
use Rattle.grammar_rules.proofs.Reading.{past_sight}
use Rattle.grammar_rules.proofs.Counts.{reads-counted_past, reads-item}
use Rattle.grammar_rules.proofs.CountedMany.{CountedShrinks, counted_shrinks}
use Rattle.sql_grammar.specs.Marks.{of, class}
use Rattle.sql_grammar.specs.Expressions.{room_of, over_class, arm}
use Rattle.sql_grammar.specs.Readers.{read_arm}
use Rattle.sql_grammar.proofs.Combining.{on, is, seen, behind}
use Rattle.sql_grammar.proofs.Sights.{or_sight}
use Rattle.sql_grammar.proofs.ExpressionReads.{seen_over}
use Rattle.sql_grammar.proofs.PrimaryReads.{reads-arm}
use Rattle.sql_leaves.specs.Parsing.{read_inside}
use Rattle.sql_expressions.proofs.InsideSteps.{inside_rule, reads_inside}

module _ (depth : ℕ) where
  pub member_less : CountedShrinks (read_counted_past (of k.Comma) (read_inside depth))
  unfolding same_class
  member_less = counted_shrinks (past (of k.Comma) (inside_rule depth)) (on (past_sight (is k.Comma) or_sight)) (read_counted_past (of k.Comma) (read_inside depth)) (behind (is k.Comma) (inside_rule depth) or_sight (read_inside depth) (reads_inside depth)) refl

  pub arm_less : CountedShrinks (read_arm (room_of depth) (read_inside depth))
  unfolding same_class
  arm_less = counted_shrinks (arm (room_of depth) (inside_rule depth)) (on (seen (is k.When) or_sight.more)) (read_arm (room_of depth) (read_inside depth)) (reads-arm (room_of depth) (inside_rule depth) (read_inside depth) (reads_inside depth)) refl

  pub limited_less : (room : Bool) → CountedShrinks (read_counted_past (of k.Comma) (read_item (λ s. over_class room (class s)) (read_inside depth)))
  limited_less room =
      counted_shrinks (past (of k.Comma) (item (λ s. over_class room (class s)) (inside_rule depth))) (past_sight (of k.Comma) (on or_sight)) (read_counted_past (of k.Comma) (read_item (λ s. over_class room (class s)) (read_inside depth)))
      (reads-counted_past (of k.Comma) (item (λ s. over_class room (class s)) (inside_rule depth)) (on or_sight) (read_item (λ s. over_class room (class s)) (read_inside depth))
      (reads-item (λ s. over_class room (class s)) (inside_rule depth) (on or_sight) (read_inside depth) (reads_inside depth) refl (λ s. seen_over room (class s)))) refl
