-- What stands between the brackets of a function of one argument.
use Rattle.std.proofs.Common.{◌≡◌, ℕ, List, refl}
use Rattle.sql_tokens.specs.declared.class.Class.{Class}
use Rattle.sql_tokens.specs.declared.class.Class.TheVariants as k
use Rattle.sql_tokens.specs.Cutting.{Symbol}
use Rattle.sql_grammar.specs.declared.tree.Expr.{Expr}
use Rattle.grammar_rules.specs.CountedReaders.{read_given}
use Rattle.sql_grammar.specs.Expressions.{Room}
use Rattle.sql_grammar.specs.Readers.{Reader}
use Rattle.sql_expressions.specs.Parsing.{read_arguments, simple_node}

module _ (room : Room) (inner : Reader Expr) where
  pub arguments_simple : (c : Class) → (c ≡ k.Cast → ⊥) → (c ≡ k.CoalesceCalled → ⊥) → (c ≡ k.NullifCalled → ⊥) → (c ≡ k.SubstringCalled → ⊥) → (c ≡ k.TrimCalled → ⊥) → (c ≡ k.ExtractCalled → ⊥) → (c ≡ k.DateAddCalled → ⊥) → (n : ℕ) (ts : List Symbol) → read_arguments room inner c n ts ≡ read_given (simple_node c) inner n ts
  arguments_simple k.Cast a b c d e f g n ts = absurd (a refl)
  arguments_simple k.CoalesceCalled a b c d e f g n ts = absurd (b refl)
  arguments_simple k.NullifCalled a b c d e f g n ts = absurd (c refl)
  arguments_simple k.SubstringCalled a b c d e f g n ts = absurd (d refl)
  arguments_simple k.TrimCalled a b c d e f g n ts = absurd (e refl)
  arguments_simple k.ExtractCalled a b c d e f g n ts = absurd (f refl)
  arguments_simple k.DateAddCalled a b c d e f g n ts = absurd (g refl)
  arguments_simple _ a b c d e f g n ts = refl
