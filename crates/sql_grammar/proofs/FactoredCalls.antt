-- SUBSTRING and TRIM, whose forms begin alike: the factored rules say the same, and are read.
use Rattle.std.proofs.Common.{◌≡◌, ℕ, ◌||◌, Bool, true, false, Option, Some, None, refl}
use Rattle.text_view.specs.declared.view.Side.{Side}
use Rattle.text_view.specs.declared.view.Side.TheVariants as side
use Rattle.sql_tokens.specs.declared.class.Class.{Class}
use Rattle.sql_tokens.specs.declared.class.Class.TheVariants as k
use Rattle.sql_tokens.specs.Classes.{same_class, all_classes}
use Rattle.sql_tokens.specs.Cutting.{Symbol}
use Rattle.sql_grammar.specs.declared.tree.Expr.{Expr}
use Rattle.sql_grammar.specs.declared.tree.Expr.TheVariants as e
use Rattle.grammar_rules.specs.Rules.{Rule, Verdict, terminal, token, nothing, made, begun, sequence, either, Same}
use Rattle.grammar_rules.specs.Readers.{found, read_terminal, read_either}
use Rattle.grammar_rules.specs.Counted.{plain, one_more, given, both, after, past, maybe}
use Rattle.grammar_rules.specs.CountedReaders.{read_plain, read_given, read_both, read_after, read_counted_past, read_maybe}
use Rattle.grammar_rules.proofs.Clear.{Sight, Closed}
use Rattle.grammar_rules.proofs.Terminals.{nothing_sight, closed-terminal}
use Rattle.grammar_rules.proofs.Reading.{past_sight, reads-nothing}
use Rattle.grammar_rules.proofs.Classes.{apart_in}
use Rattle.grammar_rules.proofs.Same.{same_refl, same_sym, same_trans, same-made, same-sequence, same-either, reads-same}
use Rattle.grammar_rules.proofs.Factoring.{same_factored, same_then_optional, same_made_each, same_swapped}
use Rattle.sql_grammar.proofs.Regrouping.{same_grouped, same_shared}
use Rattle.sql_grammar.proofs.Combining.{on, Countable, is, one, seen, seen_or_nothing, seen_word, seen_told_by, reads_terminal, reads_counted, plainly, as_given, in_pair, behind, maybe_so, one_or_other, behind_counted, in_brackets, in_turn, in_perhaps}
use Rattle.sql_grammar.specs.Marks.{Fault, too_many, class, of, is_for, begins_expression, one_told}
use Rattle.sql_grammar.specs.Expressions.{Counting, Room, perhaps, word, opening, enclosed, trim_side, side_or_both, call, substring, trim_set, trim}
use Rattle.sql_grammar.specs.Readers.{Reader, begins, read_enclosed, is_side, read_call, read_substring_commas, read_substring_words, read_substring_rest, read_trim_from, read_trim_set, read_trim_plain, read_trim_rest}
use Rattle.sql_grammar.proofs.Sights.{or_sight, or_more}

-- ---- brackets around two alternatives

pub same_enclosed : {A : Type 0} (room : Bool) (G H J : Counting A) (n : ℕ) → Same (either (G n) (H n)) (J n) → Same (either (enclosed room G n) (enclosed room H n)) (enclosed room J n)
same_enclosed {A = A} room G H J n same =
    let look : Symbol → Verdict Fault Symbol = opening room k.LeftParenthesis in
    let end : A × ℕ → Rule Symbol Fault (A × ℕ) = λ a. made (λ b. a) (token (of k.RightParenthesis)) in
    let once : Rule Symbol Fault (A × ℕ) = begun look (λ s. either (sequence (G n) end) (sequence (H n) end)) in
    same_trans (either (enclosed room G n) (enclosed room H n)) once (enclosed room J n)
    (same_factored (terminal look) (λ s. sequence (G n) end) (λ s. sequence (H n) end) (closed-terminal look))
    (same-sequence (terminal look) (terminal look) (λ s. either (sequence (G n) end) (sequence (H n) end)) (λ s. sequence (J n) end) (same_refl (terminal look))
    (λ s. same_trans (either (sequence (G n) end) (sequence (H n) end)) (sequence (either (G n) (H n)) end) (sequence (J n) end)
    (same_shared (G n) (H n) end)
    (same-sequence (either (G n) (H n)) (J n) end end same (λ a. same_refl (end a)))))

module _ (room : Room) (inner : Counting Expr) where
  same_call : (c : Class) (G H J : Counting Expr) → ((n : ℕ) → Same (either (G n) (H n)) (J n)) → (n : ℕ) → Same (either (call room inner c G n) (call room inner c H n)) (call room inner c J n)
  same_call c G H J same n =
      let first : Rule Symbol Fault (Symbol × ℕ) = one_more too_many (word c) n in
      let once : Rule Symbol Fault (Expr × ℕ) = sequence first (λ p. either (enclosed room.here G p.1) (enclosed room.here H p.1)) in
      same_trans (either (call room inner c G n) (call room inner c H n)) once (call room inner c J n)
      (same_factored first (λ p. enclosed room.here G p.1) (λ p. enclosed room.here H p.1) (reads_counted (word c) (is c) (seen_word c) n).clear.fronts)
      (same-sequence first first (λ p. either (enclosed room.here G p.1) (enclosed room.here H p.1)) (λ p. enclosed room.here J p.1) (same_refl first) (λ p. same_enclosed room.here G H J p.1 (same p.1)))

-- two pairs that begin alike
pub same_pairs : {A B C : Type 0} (f : A × B → C) (G : Counting A) (H J : Counting B) (n : ℕ) → Closed (G n) → Same (either (given f (both G H) n) (given f (both G J) n)) (given f (both G (λ m. either (H m) (J m))) n)
same_pairs {A = A} {B = B} {C = C} f G H J n g =
    let F : (A × B) × ℕ → C × ℕ = λ p. (f p.0, p.1) in
    let E : A × ℕ → B × ℕ → (A × B) × ℕ = λ p q. ((p.0, q.0), q.1) in
    let apart : Rule Symbol Fault ((A × B) × ℕ) = either (both G H n) (both G J n) in
    let once : Rule Symbol Fault ((A × B) × ℕ) = sequence (G n) (λ p. either (made (E p) (H p.1)) (made (E p) (J p.1))) in
    let all : Rule Symbol Fault ((A × B) × ℕ) = both G (λ m. either (H m) (J m)) n in
    same_trans (either (given f (both G H) n) (given f (both G J) n)) (made F apart) (made F all)
    (same_sym (made F apart) (either (made F (both G H n)) (made F (both G J n))) (same_made_each F (both G H n) (both G J n)))
    (same-made F apart all
    (same_trans apart once all
    (same_factored (G n) (λ p. made (E p) (H p.1)) (λ p. made (E p) (J p.1)) g)
    (same-sequence (G n) (G n) (λ p. either (made (E p) (H p.1)) (made (E p) (J p.1))) (λ p. made (E p) (either (H p.1) (J p.1))) (same_refl (G n))
    (λ p. same_sym (made (E p) (either (H p.1) (J p.1))) (either (made (E p) (H p.1)) (made (E p) (J p.1))) (same_made_each (E p) (H p.1) (J p.1))))))

module _ (room : Room) (inner : Counting Expr) (read : Reader Expr) (g : Countable inner or_sight read) where
  behind_word : (c : Class) → Countable (past (of c) inner) (past_sight (is c) or_sight) (read_counted_past (of c) read)
  behind_word c = behind (is c) inner or_sight read g

  in_call : (c : Class) (arguments : Counting Expr) (s : Sight Class) (next : Reader Expr) → s.null ≡ false → apart_in all_classes s (one (is k.RightParenthesis)) ≡ true → Countable arguments s next → Countable (call room inner c arguments) (one (is c)) (read_call room read c next)
  in_call c arguments s next wants off h =
      behind_counted (word c) (λ t. enclosed room.here arguments) (is c) (λ d. false) (λ t. one (is k.LeftParenthesis)) (λ t. read_enclosed room.here next)
      (seen_word c) (λ t. refl) (λ t. in_brackets room.here arguments s next wants off h)

  -- ---- SUBSTRING

  abbrev commas : Counting (Expr × Option Expr)
  commas = past (of k.Comma) (both inner (maybe (past (of k.Comma) inner)))

  abbrev words : Counting (Expr × Option Expr)
  words = past (of k.From) (both inner (maybe (past (begins is_for) inner)))

  abbrev substring_node : Expr × (Expr × Option Expr) → Expr
  substring_node p = e.Substring p.0 p.1.0 p.1.1

  abbrev substring_rest : Counting Expr
  substring_rest = given substring_node (both inner (λ n. either (commas n) (words n)))

  abbrev comma_more : Class → Bool
  comma_more c = is k.Comma c || or_more c

  abbrev for_more : Class → Bool
  for_more c = is_for c || or_more c

  reads-commas : Countable commas (seen (is k.Comma) comma_more) (read_substring_commas room read)
  unfolding read_substring_commas same_class
  reads-commas =
      behind (is k.Comma) (both inner (maybe (past (of k.Comma) inner))) (seen begins_expression comma_more) (read_both read (read_maybe (of k.Comma) (read_counted_past (of k.Comma) read)))
      (in_pair inner (maybe (past (of k.Comma) inner)) or_sight (seen_or_nothing (is k.Comma) comma_more) (seen begins_expression comma_more) read (read_maybe (of k.Comma) (read_counted_past (of k.Comma) read)) refl refl g
      (maybe_so (past (of k.Comma) inner) (past_sight (is k.Comma) or_sight) (seen_or_nothing (is k.Comma) comma_more) (read_counted_past (of k.Comma) read) refl refl (behind_word k.Comma)))

  reads-words : Countable words (seen (is k.From) for_more) (read_substring_words room read)
  unfolding read_substring_words same_class
  reads-words =
      behind (is k.From) (both inner (maybe (past (begins is_for) inner))) (seen begins_expression for_more) (read_both read (read_maybe (begins is_for) (read_counted_past (begins is_for) read)))
      (in_pair inner (maybe (past (begins is_for) inner)) or_sight (seen_or_nothing is_for for_more) (seen begins_expression for_more) read (read_maybe (begins is_for) (read_counted_past (begins is_for) read)) refl refl g
      (maybe_so (past (begins is_for) inner) (past_sight is_for or_sight) (seen_or_nothing is_for for_more) (read_counted_past (begins is_for) read) refl refl (behind is_for inner or_sight read g)))

  abbrev substring_more : Class → Bool
  substring_more c = is k.Comma c || for_more c

  reads-substring_rest : Countable substring_rest (seen begins_expression substring_more) (read_substring_rest room read)
  unfolding read_substring_rest same_class
  reads-substring_rest =
      as_given substring_node (both inner (λ n. either (commas n) (words n))) (seen begins_expression substring_more) (read_both read (λ n. read_either (of k.Comma) (read_substring_commas room read n) (read_substring_words room read n)))
      (in_pair inner (λ n. either (commas n) (words n)) or_sight (seen (λ c. is k.Comma c || is k.From c) substring_more) (seen begins_expression substring_more) read (λ n. read_either (of k.Comma) (read_substring_commas room read n) (read_substring_words room read n)) refl refl g
      (one_or_other commas words (seen (is k.Comma) comma_more) (seen (is k.From) for_more) (seen (λ c. is k.Comma c || is k.From c) substring_more) (read_substring_commas room read) (read_substring_words room read) refl refl refl refl reads-commas reads-words))

  same_substring : (n : ℕ) → Same (substring room inner n) (call room inner k.SubstringCalled substring_rest n)
  same_substring n =
      same_call room inner k.SubstringCalled (given substring_node (both inner commas)) (given substring_node (both inner words)) substring_rest
      (λ m. same_pairs substring_node inner commas words m (g m).clear.fronts) n

  pub reads-substring : Countable (substring room inner) (one (is k.SubstringCalled)) (read_call room read k.SubstringCalled (read_substring_rest room read))
  unfolding same_class
  reads-substring n =
      reads-same (call room inner k.SubstringCalled substring_rest n) (substring room inner n) (same_sym (substring room inner n) (call room inner k.SubstringCalled substring_rest n) (same_substring n))
      (on (one (is k.SubstringCalled))) (read_call room read k.SubstringCalled (read_substring_rest room read) n)
      (in_call k.SubstringCalled substring_rest (seen begins_expression substring_more) (read_substring_rest room read) refl refl reads-substring_rest n)

  -- ---- TRIM

  abbrev trim_from : Option Side → Option Expr → Counting Expr
  trim_from s set = past (of k.From) (given (λ a. e.Trim (side_or_both s) set a) inner)

  abbrev trim_node : Expr → Expr
  trim_node a = e.Trim side.Both None a

  abbrev with_side : Counting Expr
  with_side = after (plain (terminal (one_told trim_side))) (λ s. perhaps inner (trim_from (Some s)))

  -- or, or FROM or
  abbrev trim_plain : Counting Expr
  trim_plain = after inner (λ a n. either (trim_from None (Some a) n) (nothing (trim_node a, n)))

  abbrev trim_rest : Counting Expr
  trim_rest n = either (with_side n) (either (trim_plain n) (trim_from None None n))

  abbrev trim_arguments : Counting Expr
  trim_arguments n = either (trim_set room inner n) (given trim_node inner n)

  reads-trim_from : (s : Option Side) (set : Option Expr) → Countable (trim_from s set) (seen (is k.From) or_more) (read_trim_from room read s set)
  unfolding read_trim_from
  reads-trim_from s set =
      behind (is k.From) (given (λ a. e.Trim (side_or_both s) set a) inner) or_sight (read_given (λ a. e.Trim (side_or_both s) set a) read)
      (as_given (λ a. e.Trim (side_or_both s) set a) inner or_sight read g)

  abbrev set_sight : Sight Class
  set_sight = seen (λ c. begins_expression c || is k.From c) or_more

  reads-trim_set : (s : Side) → Countable (perhaps inner (trim_from (Some s))) set_sight (read_trim_set room read s)
  unfolding read_trim_set same_class
  reads-trim_set s =
      in_perhaps inner (trim_from (Some s)) or_sight (seen (is k.From) or_more) or_sight set_sight read (read_trim_from room read (Some s)) refl refl refl refl refl refl g
      (λ set. reads-trim_from (Some s) set)

  reads-with_side : Countable with_side (seen is_side or_more) (read_after (read_plain (read_terminal (one_told trim_side))) (read_trim_set room read))
  unfolding same_class
  reads-with_side =
      in_turn (plain (terminal (one_told trim_side))) (λ s. perhaps inner (trim_from (Some s))) (one is_side) set_sight (seen is_side or_more) (read_plain (read_terminal (one_told trim_side))) (read_trim_set room read) refl refl
      (plainly (terminal (one_told trim_side)) (one is_side) (read_terminal (one_told trim_side)) (reads_terminal (one_told trim_side) is_side (λ s. seen_told_by (trim_side (class s)))))
      reads-trim_set

  abbrev from_more : Class → Bool
  from_more c = is k.From c || or_more c

  reads-trim_end : (a : Expr) → Countable (λ n. either (trim_from None (Some a) n) (nothing (trim_node a, n))) (seen_or_nothing (is k.From) from_more) (λ n. read_either (of k.From) (read_trim_from room read None (Some a) n) (λ ts. found (trim_node a, n) ts))
  unfolding same_class
  reads-trim_end a =
      one_or_other (trim_from None (Some a)) (λ n. nothing (trim_node a, n)) (seen (is k.From) or_more) nothing_sight (seen_or_nothing (is k.From) from_more) (read_trim_from room read None (Some a)) (λ n ts. found (trim_node a, n) ts) refl refl refl refl
      (reads-trim_from None (Some a)) (λ n. reads-nothing (trim_node a, n))

  reads-trim_plain : Countable trim_plain (seen begins_expression from_more) (read_trim_plain room read)
  unfolding read_trim_plain same_class
  reads-trim_plain =
      in_turn inner (λ a n. either (trim_from None (Some a) n) (nothing (trim_node a, n))) or_sight (seen_or_nothing (is k.From) from_more) (seen begins_expression from_more) read (λ a n. read_either (of k.From) (read_trim_from room read None (Some a) n) (λ ts. found (trim_node a, n) ts)) refl refl g reads-trim_end

  abbrev trim_sight : Sight Class
  trim_sight = seen (λ c. is_side c || (begins_expression c || is k.From c)) from_more

  reads-trim_rest : Countable trim_rest trim_sight (read_trim_rest room read)
  unfolding read_trim_rest same_class
  reads-trim_rest =
      one_or_other with_side (λ n. either (trim_plain n) (trim_from None None n)) (seen is_side or_more) (seen (λ c. begins_expression c || is k.From c) from_more) trim_sight
      (read_after (read_plain (read_terminal (one_told trim_side))) (read_trim_set room read)) (λ n. read_either (begins begins_expression) (read_trim_plain room read n) (read_trim_from room read None None n)) refl refl refl refl
      reads-with_side
      (one_or_other trim_plain (trim_from None None) (seen begins_expression from_more) (seen (is k.From) or_more) (seen (λ c. begins_expression c || is k.From c) from_more) (read_trim_plain room read) (read_trim_from room read None None) refl refl refl refl
      reads-trim_plain (reads-trim_from None None))

  same_trim_rest : (n : ℕ) → Same (trim_arguments n) (trim_rest n)
  same_trim_rest n =
      let S : Rule Symbol Fault (Expr × ℕ) = with_side n in
      let P : Rule Symbol Fault (Expr × ℕ) = after inner (λ a. trim_from None (Some a)) n in
      let Q : Rule Symbol Fault (Expr × ℕ) = trim_from None None n in
      let I : Rule Symbol Fault (Expr × ℕ) = given trim_node inner n in
      same_trans (either (either S (either P Q)) I) (either S (either (either P Q) I)) (trim_rest n)
      (same_grouped S (either P Q) I)
      (same-either S S (either (either P Q) I) (either (trim_plain n) Q) (same_refl S)
      (same_trans (either (either P Q) I) (either P (either Q I)) (either (trim_plain n) Q)
      (same_grouped P Q I)
      (same_trans (either P (either Q I)) (either P (either I Q)) (either (trim_plain n) Q)
      (same-either P P (either Q I) (either I Q) (same_refl P) (same_swapped Q I))
      (same_trans (either P (either I Q)) (either (either P I) Q) (either (trim_plain n) Q)
      (same_sym (either (either P I) Q) (either P (either I Q)) (same_grouped P I Q))
      (same-either (either P I) (trim_plain n) Q Q
      (same_then_optional (inner n) (λ p. trim_from None (Some p.0) p.1) (λ p. (trim_node p.0, p.1)) (g n).clear.fronts)
      (same_refl Q))))))

  pub reads-trim : Countable (trim room inner) (one (is k.TrimCalled)) (read_call room read k.TrimCalled (read_trim_rest room read))
  unfolding same_class
  reads-trim =
      in_call k.TrimCalled trim_arguments trim_sight (read_trim_rest room read) refl refl
      (λ n. reads-same (trim_rest n) (trim_arguments n) (same_sym (trim_arguments n) (trim_rest n) (same_trim_rest n)) (on trim_sight) (read_trim_rest room read n) (reads-trim_rest n))
