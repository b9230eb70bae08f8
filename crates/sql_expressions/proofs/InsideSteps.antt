-- An expression between brackets is one in which one bracket less may be open.
use Rattle.std.proofs.Common.{◌≡◌, ℕ, zero, suc, ◌-◌, List, refl, arith}
use Rattle.sql_tokens.specs.Cutting.{Symbol}
use Rattle.grammar_rules.specs.Rules.{fault}
use Rattle.grammar_rules.specs.Counted.{plain}
use Rattle.sql_grammar.specs.declared.tree.Expr.{Expr}
use Rattle.sql_grammar.specs.Marks.{too_deep, begins_expression}
use Rattle.sql_grammar.specs.Expressions.{Counting, room_of, expression}
use Rattle.sql_grammar.proofs.Combining.{Countable}
use Rattle.sql_grammar.proofs.Sights.{or_sight}
use Rattle.sql_grammar.proofs.ExpressionReads.{reads-too_deep, reads-expression}
use Rattle.sql_grammar.specs.Readers.{begins, read_disjunction, read_expression}
use Rattle.sql_leaves.specs.Parsing.{read_too_deep, read_inside}

module _ (depth n : ℕ) (ts : List Symbol) where
  pub inside_none : depth ≡ 0 → read_inside depth n ts ≡ read_too_deep n ts
  unfolding read_inside
  inside_none z = rw z refl

pub inside_some : (depth n : ℕ) (ts : List Symbol) → (depth ≡ 0 → ⊥) → read_inside depth n ts ≡ read_expression (depth - 1) n ts
unfolding read_inside
inside_some zero n ts z = absurd (z refl)
inside_some (suc depth) n ts z = let e : suc depth - 1 ≡ depth = omega arith in rw e refl

pub expression_is : (depth n : ℕ) (ts : List Symbol) → read_expression depth n ts ≡ read_disjunction (room_of depth) (read_inside depth) n ts
unfolding read_expression read_inside read_too_deep
expression_is zero n ts = refl
expression_is (suc depth) n ts = refl

-- the rule of the expressions between brackets
abbrev pub inside_rule : ℕ → Counting Expr
inside_rule zero = plain (fault too_deep (begins begins_expression))
inside_rule (suc depth) = expression depth

pub reads_inside : (depth : ℕ) → Countable (inside_rule depth) or_sight (read_inside depth)
unfolding read_inside read_too_deep
reads_inside zero = reads-too_deep
reads_inside (suc depth) = reads-expression depth
