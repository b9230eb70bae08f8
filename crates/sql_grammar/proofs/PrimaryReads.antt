-- The readers of the primaries of an expression, where the expressions between brackets are read.
use Rattle.std.proofs.Common.{◌≡◌, ◌||◌, Bool, true, false, ◌∷◌, is_some, refl}
use Rattle.sql_tokens.specs.declared.class.Class.{Class}
use Rattle.sql_tokens.specs.declared.class.Class.TheVariants as k
use Rattle.sql_tokens.specs.Classes.{same_class, all_classes}
use Rattle.sql_tokens.proofs.ClassLaws.{every}
use Rattle.sql_grammar.specs.declared.tree.Expr.{Expr}
use Rattle.sql_grammar.specs.declared.tree.Expr.TheVariants as e
use Rattle.sql_grammar.specs.declared.tree.Arm.{roll-Arm}
use Rattle.grammar_rules.specs.Rules.{terminal, token, made}
use Rattle.grammar_rules.specs.Readers.{read_made, read_terminal}
use Rattle.grammar_rules.specs.Counted.{plain, given, both, past, before, maybe, chain}
use Rattle.grammar_rules.specs.CountedReaders.{read_plain, read_given, read_both, read_counted_past, read_counted_before, read_maybe}
use Rattle.grammar_rules.proofs.Clear.{Sight}
use Rattle.grammar_rules.proofs.Sequences.{sequence_sight}
use Rattle.grammar_rules.proofs.Reading.{past_sight, before_sight, reads-made, reads-sequence}
use Rattle.grammar_rules.proofs.Classes.{apart_in, apart_by}
use Rattle.sql_grammar.proofs.Combining.{on, Countable, is, one, seen, seen_or_nothing, seen_word, seen_opening, seen_told_by, reads_terminal, written, plainly, as_given, in_pair, behind, closed, maybe_so, behind_counted, in_chain, in_brackets}
use Rattle.sql_grammar.specs.Marks.{class, of, begins_expression, one_told, date_part, stamp_part}
use Rattle.sql_grammar.specs.Expressions.{Counting, Room, word, opening, enclosed, listed, type_of, call, cast, group, arm, case_rest, case, coalesce, nullif, extract, date_add}
use Rattle.sql_grammar.specs.Readers.{Reader, begins, read_enclosed, read_listed, read_ended, read_type, read_call, read_cast_rest, read_group, read_arm, read_arms, read_otherwise, read_case_rest, read_case, read_coalesce_rest, read_nullif_rest, read_extract_rest, read_date_add_rest}
use Rattle.sql_grammar.proofs.PartReads.{type_sight, reads-type}
use Rattle.sql_grammar.proofs.Sights.{or_sight}

-- the lookahead of a part that stands behind its comma, or of none
abbrev pub or_none : (Class → Bool) → (Class → Bool) → Sight Class
or_none first more = seen_or_nothing first (λ c. first c || more c)

module _ (room : Room) (inner : Counting Expr) (read : Reader Expr) (g : Countable inner or_sight read) where
  -- ---- calls

  in_call : (c : Class) (arguments : Counting Expr) (s : Sight Class) (next : Reader Expr) → s.null ≡ false → apart_in all_classes s (one (is k.RightParenthesis)) ≡ true → Countable arguments s next → Countable (call room inner c arguments) (one (is c)) (read_call room read c next)
  in_call c arguments s next wants off h =
      behind_counted (word c) (λ t. enclosed room.here arguments) (is c) (λ d. false) (λ t. one (is k.LeftParenthesis)) (λ t. read_enclosed room.here next)
      (seen_word c) (λ t. refl) (λ t. in_brackets room.here arguments s next wants off h)

  pub reads-simple_call : (c : Class) (node : Expr → Expr) → Countable (call room inner c (given node inner)) (one (is c)) (read_call room read c (read_given node read))
  unfolding same_class
  reads-simple_call c node = in_call c (given node inner) or_sight (read_given node read) refl refl (as_given node inner or_sight read g)

  -- CAST
  pub reads-cast : Countable (cast room inner) (one (is k.Cast)) (read_call room read k.Cast (read_cast_rest room read))
  unfolding read_cast_rest same_class
  reads-cast =
      in_call k.Cast (given (λ p. e.Cast p.0 p.1) (both inner (past (of k.As) (plain (type_of room.deeper))))) (seen begins_expression (is k.LeftParenthesis)) (read_given (λ p. e.Cast p.0 p.1) (read_both read (read_counted_past (of k.As) (read_plain (read_type room.deeper))))) refl refl
      (as_given (λ p. e.Cast p.0 p.1) (both inner (past (of k.As) (plain (type_of room.deeper)))) (seen begins_expression (is k.LeftParenthesis)) (read_both read (read_counted_past (of k.As) (read_plain (read_type room.deeper))))
      (in_pair inner (past (of k.As) (plain (type_of room.deeper))) or_sight (past_sight (is k.As) type_sight) (seen begins_expression (is k.LeftParenthesis)) read (read_counted_past (of k.As) (read_plain (read_type room.deeper))) refl refl g
      (behind (is k.As) (plain (type_of room.deeper)) type_sight (read_plain (read_type room.deeper)) (plainly (type_of room.deeper) type_sight (read_type room.deeper) (reads-type room.deeper)))))

  -- ( or )
  pub reads-group : Countable (group room inner) (one (is k.LeftParenthesis)) (read_group room read)
  unfolding read_group same_class
  reads-group =
      behind_counted (opening room.here k.LeftParenthesis) (λ t. before inner (of k.RightParenthesis)) (is k.LeftParenthesis) (λ d. false) (λ t. before_sight or_sight) (λ t. read_counted_before read (of k.RightParenthesis))
      (seen_opening room.here k.LeftParenthesis) (λ t. refl) (λ t. closed inner or_sight read k.RightParenthesis refl refl g)

  -- ---- CASE

  behind_word : (c : Class) → Countable (past (of c) inner) (past_sight (is c) or_sight) (read_counted_past (of c) read)
  behind_word c = behind (is c) inner or_sight read g

  abbrev arm_sight : Sight Class
  arm_sight = seen (is k.When) or_sight.more

  pub reads-arm : Countable (arm room inner) arm_sight (read_arm room read)
  unfolding read_arm same_class
  reads-arm =
      behind (is k.When) (given (λ p. roll-Arm (record { when = p.0; then = p.1 })) (both inner (past (of k.Then) inner))) or_sight (read_given (λ p. roll-Arm (record { when = p.0; then = p.1 })) (read_both read (read_counted_past (of k.Then) read)))
      (as_given (λ p. roll-Arm (record { when = p.0; then = p.1 })) (both inner (past (of k.Then) inner)) or_sight (read_both read (read_counted_past (of k.Then) read))
      (in_pair inner (past (of k.Then) inner) or_sight (past_sight (is k.Then) or_sight) or_sight read (read_counted_past (of k.Then) read) refl refl g (behind_word k.Then)))

  abbrev arms_sight : Sight Class
  arms_sight = seen (is k.When) (λ c. is k.When c || or_sight.more c)

  reads-arms : Countable (chain (λ a rest. a ∷ rest) (arm room inner) (arm room inner)) arms_sight (read_arms room read)
  unfolding read_arms same_class
  reads-arms = in_chain (λ a rest. a ∷ rest) (arm room inner) (arm room inner) arm_sight arm_sight arms_sight (read_arm room read) (read_arm room read) refl refl refl refl reads-arm reads-arm

  abbrev otherwise_sight : Sight Class
  otherwise_sight = seen (λ c. is k.Else c || is k.End c) (λ c. false)

  reads-otherwise : Countable (before (maybe (past (of k.Else) inner)) (of k.End)) otherwise_sight (read_otherwise room read)
  unfolding read_otherwise same_class
  reads-otherwise =
      written (before (maybe (past (of k.Else) inner)) (of k.End)) (sequence_sight (or_none (is k.Else) or_sight.more) (one (is k.End))) otherwise_sight (read_ended (read_maybe (of k.Else) (read_counted_past (of k.Else) read)) k.End) refl
      (λ n. reads-sequence (maybe (past (of k.Else) inner) n) (λ p. made (λ s. p) (token (of k.End))) (on (or_none (is k.Else) or_sight.more)) (on (one (is k.End))) (read_maybe (of k.Else) (read_counted_past (of k.Else) read) n) (λ p left. read_made (λ s. p) (read_terminal (word k.End) left))
      (maybe_so (past (of k.Else) inner) (past_sight (is k.Else) or_sight) (or_none (is k.Else) or_sight.more) (read_counted_past (of k.Else) read) refl refl (behind_word k.Else) n)
      (λ p. reads-made (λ s. p) (token (of k.End)) (on (one (is k.End))) (read_terminal (word k.End)) (reads_terminal (word k.End) (is k.End) (seen_word k.End)))
      (apart_by class all_classes every (or_none (is k.Else) or_sight.more) (one (is k.End)) refl))

  abbrev case_sight : Sight Class
  case_sight = seen (λ c. begins_expression c || is k.When c) (λ c. false)

  reads-case_rest : Countable (case_rest room inner) case_sight (read_case_rest room read)
  unfolding read_case_rest same_class
  reads-case_rest =
      as_given (λ p. e.Case p.0 p.1.0 p.1.1) (both (maybe inner) (both (chain (λ a rest. a ∷ rest) (arm room inner) (arm room inner)) (before (maybe (past (of k.Else) inner)) (of k.End)))) case_sight (read_both (read_maybe (begins begins_expression) read) (read_both (read_arms room read) (read_otherwise room read)))
      (in_pair (maybe inner) (both (chain (λ a rest. a ∷ rest) (arm room inner) (arm room inner)) (before (maybe (past (of k.Else) inner)) (of k.End))) (or_none begins_expression or_sight.more) (one (is k.When)) case_sight (read_maybe (begins begins_expression) read) (read_both (read_arms room read) (read_otherwise room read)) refl refl
      (maybe_so inner or_sight (or_none begins_expression or_sight.more) read refl refl g)
      (in_pair (chain (λ a rest. a ∷ rest) (arm room inner) (arm room inner)) (before (maybe (past (of k.Else) inner)) (of k.End)) arms_sight otherwise_sight (one (is k.When)) (read_arms room read) (read_otherwise room read) refl refl reads-arms reads-otherwise))

  pub reads-case : Countable (case room inner) (one (is k.Case)) (read_case room read)
  unfolding read_case same_class
  reads-case =
      behind_counted (opening room.here k.Case) (λ t. case_rest room inner) (is k.Case) (λ d. false) (λ t. case_sight) (λ t. read_case_rest room read)
      (seen_opening room.here k.Case) (λ t. refl) (λ t. reads-case_rest)

  -- ---- functions of several arguments

  abbrev list_more : Class → Bool
  list_more c = is k.Comma c || or_sight.more c

  pub reads-coalesce : Countable (coalesce room inner) (one (is k.CoalesceCalled)) (read_call room read k.CoalesceCalled (read_coalesce_rest room read))
  unfolding read_coalesce_rest same_class
  reads-coalesce =
      in_call k.CoalesceCalled (given e.Coalesce (listed inner)) (seen begins_expression list_more) (read_given e.Coalesce (read_listed read)) refl refl
      (as_given e.Coalesce (listed inner) (seen begins_expression list_more) (read_listed read)
      (in_chain (λ a rest. a ∷ rest) inner (past (of k.Comma) inner) or_sight (past_sight (is k.Comma) or_sight) (seen begins_expression list_more) read (read_counted_past (of k.Comma) read) refl refl refl refl g (behind_word k.Comma)))

  pub reads-nullif : Countable (nullif room inner) (one (is k.NullifCalled)) (read_call room read k.NullifCalled (read_nullif_rest room read))
  unfolding read_nullif_rest same_class
  reads-nullif =
      in_call k.NullifCalled (given (λ p. e.NullIf p.0 p.1) (both inner (past (of k.Comma) inner))) or_sight (read_given (λ p. e.NullIf p.0 p.1) (read_both read (read_counted_past (of k.Comma) read))) refl refl
      (as_given (λ p. e.NullIf p.0 p.1) (both inner (past (of k.Comma) inner)) or_sight (read_both read (read_counted_past (of k.Comma) read))
      (in_pair inner (past (of k.Comma) inner) or_sight (past_sight (is k.Comma) or_sight) or_sight read (read_counted_past (of k.Comma) read) refl refl g (behind_word k.Comma)))

  pub reads-extract : Countable (extract room inner) (one (is k.ExtractCalled)) (read_call room read k.ExtractCalled (read_extract_rest room read))
  unfolding read_extract_rest same_class
  reads-extract =
      in_call k.ExtractCalled (given (λ p. e.Extract p.0 p.1) (both (plain (terminal (one_told stamp_part))) (past (of k.From) inner))) (seen (λ c. is_some (stamp_part c)) or_sight.more) (read_given (λ p. e.Extract p.0 p.1) (read_both (read_plain (read_terminal (one_told stamp_part))) (read_counted_past (of k.From) read))) refl refl
      (as_given (λ p. e.Extract p.0 p.1) (both (plain (terminal (one_told stamp_part))) (past (of k.From) inner)) (seen (λ c. is_some (stamp_part c)) or_sight.more) (read_both (read_plain (read_terminal (one_told stamp_part))) (read_counted_past (of k.From) read))
      (in_pair (plain (terminal (one_told stamp_part))) (past (of k.From) inner) (one (λ c. is_some (stamp_part c))) (past_sight (is k.From) or_sight) (seen (λ c. is_some (stamp_part c)) or_sight.more) (read_plain (read_terminal (one_told stamp_part))) (read_counted_past (of k.From) read) refl refl
      (plainly (terminal (one_told stamp_part)) (one (λ c. is_some (stamp_part c))) (read_terminal (one_told stamp_part)) (reads_terminal (one_told stamp_part) (λ c. is_some (stamp_part c)) (λ s. seen_told_by (stamp_part (class s)))))
      (behind_word k.From)))

  abbrev date_add_arguments : Counting (Expr × Expr)
  date_add_arguments = both inner (past (of k.Comma) inner)

  pub reads-date_add : Countable (date_add room inner) (one (is k.DateAddCalled)) (read_call room read k.DateAddCalled (read_date_add_rest room read))
  unfolding read_date_add_rest same_class
  reads-date_add =
      in_call k.DateAddCalled (given (λ p. e.DateAdd p.0 p.1.0 p.1.1) (both (plain (terminal (one_told date_part))) (past (of k.Comma) date_add_arguments))) (seen (λ c. is_some (date_part c)) or_sight.more) (read_given (λ p. e.DateAdd p.0 p.1.0 p.1.1) (read_both (read_plain (read_terminal (one_told date_part))) (read_counted_past (of k.Comma) (read_both read (read_counted_past (of k.Comma) read))))) refl refl
      (as_given (λ p. e.DateAdd p.0 p.1.0 p.1.1) (both (plain (terminal (one_told date_part))) (past (of k.Comma) date_add_arguments)) (seen (λ c. is_some (date_part c)) or_sight.more) (read_both (read_plain (read_terminal (one_told date_part))) (read_counted_past (of k.Comma) (read_both read (read_counted_past (of k.Comma) read))))
      (in_pair (plain (terminal (one_told date_part))) (past (of k.Comma) date_add_arguments) (one (λ c. is_some (date_part c))) (past_sight (is k.Comma) or_sight) (seen (λ c. is_some (date_part c)) or_sight.more) (read_plain (read_terminal (one_told date_part))) (read_counted_past (of k.Comma) (read_both read (read_counted_past (of k.Comma) read))) refl refl
      (plainly (terminal (one_told date_part)) (one (λ c. is_some (date_part c))) (read_terminal (one_told date_part)) (reads_terminal (one_told date_part) (λ c. is_some (date_part c)) (λ s. seen_told_by (date_part (class s)))))
      (behind (is k.Comma) date_add_arguments or_sight (read_both read (read_counted_past (of k.Comma) read))
      (in_pair inner (past (of k.Comma) inner) or_sight (past_sight (is k.Comma) or_sight) or_sight read (read_counted_past (of k.Comma) read) refl refl g (behind_word k.Comma)))))
