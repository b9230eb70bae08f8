-- Expressions are read: the rules above the primaries, and their depth.
use Rattle.std.proofs.Common.{◌≡◌, ℕ, zero, suc, ◌||◌, Bool, true, false, List, Option, Some, None, is_some, refl, if◌then◌else◌}
use Rattle.std.specs.List.{list_all}
use Rattle.sql_tokens.specs.declared.class.Class.{Class}
use Rattle.sql_tokens.specs.declared.class.Class.TheVariants as k
use Rattle.sql_tokens.specs.Classes.{same_class, all_classes}
use Rattle.sql_tokens.specs.Cutting.{Symbol}
use Rattle.sql_tokens.proofs.ClassLaws.{every}
use Rattle.sql_grammar.specs.declared.tree.Expr.{Expr}
use Rattle.sql_grammar.specs.declared.tree.SumPart.{roll-SumPart}
use Rattle.sql_grammar.specs.declared.tree.ProdPart.{roll-ProdPart}
use Rattle.grammar_rules.specs.Rules.{Rule, takes, refuses, terminal, token, fault, nothing, made, begun, either, preceded_by, Same}
use Rattle.grammar_rules.specs.Readers.{found, read_made, read_terminal, read_fault, read_past, read_either, read_begun}
use Rattle.grammar_rules.specs.Counted.{plain, given, both, after, past, maybe, list_of}
use Rattle.grammar_rules.specs.CountedReaders.{read_plain, read_given, read_both, read_counted_past, read_maybe, read_list_of}
use Rattle.grammar_rules.proofs.Clear.{Sight}
use Rattle.grammar_rules.proofs.Terminals.{nothing_sight, closed-terminal}
use Rattle.grammar_rules.proofs.Reading.{past_sight, reads-nothing, reads-made, reads-past, reads-fault}
use Rattle.grammar_rules.proofs.Choices.{either_sight, reads-either}
use Rattle.grammar_rules.proofs.CountedMany.{reads-list_of, list_sight}
use Rattle.grammar_rules.proofs.Begun.{reads-begun}
use Rattle.grammar_rules.proofs.Classes.{agree, apart_by, distinct_by, reads_by}
use Rattle.grammar_rules.proofs.Same.{same_refl, same_sym, same_trans, same-either, reads-same}
use Rattle.grammar_rules.proofs.Factoring.{same_factored, same_made_first}
use Rattle.sql_grammar.proofs.Regrouping.{same_crossed}
use Rattle.sql_grammar.proofs.Combining.{on, Readable, Countable, is, one, seen, seen_or_nothing, seen_those, seen_word, seen_told_by, seen_escape, reads_terminal, written, plainly, as_given, in_pair, behind, maybe_so, one_or_other, in_chain, in_brackets, in_perhaps}
use Rattle.sql_grammar.specs.Marks.{Fault, too_deep, class, of, begins_expression, text_in, text, escape, one_told, compare_op, sum_op, prod_op, Form, literal_text, literal_number, truth, untruth, null_form, missing_form, path_form, unknown_call, exponent_form, cast_form, group_form, case_form, coalesce_form, nullif_form, char_length_form, lower_form, upper_form, substring_form, trim_form, extract_form, date_add_form, to_timestamp_form}
use Rattle.sql_grammar.specs.Expressions.{Counting, Room, room_of, perhaps, word, or_node, and_node, sum_node, prod_node, Tail, comparing, lying, among, liking, pred_node, not_node, unary_node, is_what, over_class, over_form, primary, flag, unary, prod_part, prod, sum_part, sum, comparison, between, members, in_members, like, is_tail, negatable, tail, pred, negation, conjunction, disjunction, expression}
use Rattle.sql_grammar.specs.Readers.{Reader, begins, read_perhaps, read_flag, is_step, is_prod_op, is_sum_op, is_compare_op, begins_negatable, begins_tail, read_primary, read_unary, read_prod_part, read_prod, read_sum_part, read_sum, read_comparison, read_between, read_members, read_in, read_escape, read_like, read_negatable, read_is, read_tail, read_pred, read_negation, read_conjunction, read_disjunction, read_expression}
use Rattle.sql_grammar.proofs.Sights.{prod_more, sum_more, tail_more, or_more, primary_sight, unary_sight, prod_sight, sum_sight, pred_sight, not_sight, and_sight, or_sight}
use Rattle.sql_grammar.proofs.PartReads.{reads-flag}
use Rattle.sql_grammar.proofs.Primaries.{reads-primary}

-- an operator, by what it tells of the class
pub reads-operator : {A : Type 0} (tell : Class → Option A) → Countable (plain (terminal (one_told tell))) (one (λ c. is_some (tell c))) (read_plain (read_terminal (one_told tell)))
reads-operator tell =
    plainly (terminal (one_told tell)) (one (λ c. is_some (tell c))) (read_terminal (one_told tell)) (reads_terminal (one_told tell) (λ c. is_some (tell c)) (λ s. seen_told_by (tell (class s))))

-- ---- what the first token of a member past the limit is told

pub seen_over_form : (room : Bool) (o : Option Form) → is_some (over_form room o) ≡ is_some o
seen_over_form room None = refl
seen_over_form room (Some literal_text) = refl
seen_over_form room (Some literal_number) = refl
seen_over_form room (Some truth) = refl
seen_over_form room (Some untruth) = refl
seen_over_form room (Some null_form) = refl
seen_over_form room (Some missing_form) = refl
seen_over_form room (Some path_form) = refl
seen_over_form room (Some unknown_call) = refl
seen_over_form room (Some exponent_form) = refl
seen_over_form room (Some cast_form) = refl
seen_over_form room (Some group_form) = refl
seen_over_form room (Some case_form) = refl
seen_over_form room (Some coalesce_form) = refl
seen_over_form room (Some nullif_form) = refl
seen_over_form room (Some char_length_form) = refl
seen_over_form room (Some lower_form) = refl
seen_over_form room (Some upper_form) = refl
seen_over_form room (Some substring_form) = refl
seen_over_form room (Some trim_form) = refl
seen_over_form room (Some extract_form) = refl
seen_over_form room (Some date_add_form) = refl
seen_over_form room (Some to_timestamp_form) = refl

pub same_truth : (a b : Bool) → agree a b ≡ true → a ≡ b
same_truth true true h = refl
same_truth true false h = let p : false ≡ true = h in cc
same_truth false true h = let p : false ≡ true = h in cc
same_truth false false h = refl

over_with_room : list_all (λ c. agree (is_some (over_class true c)) (begins_expression c)) all_classes ≡ true
over_with_room = refl

over_without : list_all (λ c. agree (is_some (over_class false c)) (begins_expression c)) all_classes ≡ true
over_without = refl

pub seen_over : (room : Bool) (c : Class) → is_some (over_class room c) ≡ begins_expression c
seen_over true c = same_truth (is_some (over_class true c)) (begins_expression c) (every (λ d. agree (is_some (over_class true d)) (begins_expression d)) over_with_room c)
seen_over false c = same_truth (is_some (over_class false c)) (begins_expression c) (every (λ d. agree (is_some (over_class false d)) (begins_expression d)) over_without c)

-- ---- [NOT] before a tail

same_negatable : (room : Room) (inner : Counting Expr) (G : Bool → Counting Tail) (n : ℕ) → Same (negatable room inner G n) (either (past (of k.Not) (G true) n) (G false n))
same_negatable room inner G n =
    same-either (after (plain (token (of k.Not))) (λ a. G true) n) (past (of k.Not) (G true) n) (G false n) (G false n)
    (same_made_first (λ a. (a, n)) (token (of k.Not)) (λ p. G true p.1))
    (same_refl (G false n))

-- behind a token two alternatives are one
same_behind : (test : Symbol → Bool) (G H : Rule Symbol Fault (Tail × ℕ)) → Same (either (preceded_by (token test) G) (preceded_by (token test) H)) (preceded_by (token test) (either G H))
same_behind test G H = same_factored (token test) (λ s. G) (λ s. H) (closed-terminal (λ s. if test s then takes s else refuses))

reads-what : (b : Bool) → Countable (plain (terminal (one_told (is_what b)))) (one (λ c. is k.Null c || is k.Missing c)) (read_plain (read_terminal (one_told (is_what b))))
unfolding same_class
reads-what b =
    written (plain (terminal (one_told (is_what b)))) (one (λ c. is_some (is_what b c))) (one (λ c. is k.Null c || is k.Missing c)) (read_plain (read_terminal (one_told (is_what b)))) refl
    (reads-operator (is_what b))

module _ (room : Room) (inner : Counting Expr) (read : Reader Expr) (g : Countable inner or_sight read) where
  -- ---- operators

  reads-unary : Countable (unary room inner) unary_sight (read_unary room read)
  unfolding unary read_unary same_class
  reads-unary =
      as_given (λ p. unary_node p.0 p.1) (both (flag k.Minus) (primary room inner)) unary_sight (read_both (read_flag k.Minus) (read_primary room read))
      (in_pair (flag k.Minus) (primary room inner) (seen_or_nothing (is k.Minus) (is k.Minus)) primary_sight unary_sight (read_flag k.Minus) (read_primary room read) refl refl
      (reads-flag k.Minus refl refl) (reads-primary room inner read g))

  pub reads-prod_part : Countable (prod_part room inner) (seen is_prod_op is_step) (read_prod_part room read)
  unfolding read_prod_part same_class
  reads-prod_part =
      as_given (λ p. roll-ProdPart (record { op = p.0; member = p.1 })) (both (plain (terminal (one_told prod_op))) (unary room inner)) (seen is_prod_op is_step) (read_both (read_plain (read_terminal (one_told prod_op))) (read_unary room read))
      (in_pair (plain (terminal (one_told prod_op))) (unary room inner) (one is_prod_op) unary_sight (seen is_prod_op is_step) (read_plain (read_terminal (one_told prod_op))) (read_unary room read) refl refl
      (reads-operator prod_op) reads-unary)

  reads-prod : Countable (prod room inner) prod_sight (read_prod room read)
  unfolding prod read_prod same_class
  reads-prod = in_chain prod_node (unary room inner) (prod_part room inner) unary_sight (seen is_prod_op is_step) prod_sight (read_unary room read) (read_prod_part room read) refl refl refl refl reads-unary reads-prod_part

  pub reads-sum_part : Countable (sum_part room inner) (seen is_sum_op prod_more) (read_sum_part room read)
  unfolding read_sum_part same_class
  reads-sum_part =
      as_given (λ p. roll-SumPart (record { op = p.0; member = p.1 })) (both (plain (terminal (one_told sum_op))) (prod room inner)) (seen is_sum_op prod_more) (read_both (read_plain (read_terminal (one_told sum_op))) (read_prod room read))
      (in_pair (plain (terminal (one_told sum_op))) (prod room inner) (one is_sum_op) prod_sight (seen is_sum_op prod_more) (read_plain (read_terminal (one_told sum_op))) (read_prod room read) refl refl
      (reads-operator sum_op) reads-prod)

  reads-sum : Countable (sum room inner) sum_sight (read_sum room read)
  unfolding sum read_sum same_class
  reads-sum = in_chain sum_node (prod room inner) (sum_part room inner) prod_sight (seen is_sum_op prod_more) sum_sight (read_prod room read) (read_sum_part room read) refl refl refl refl reads-prod reads-sum_part

  -- ---- tails

  reads-comparison : Countable (comparison room inner) (seen is_compare_op sum_more) (read_comparison room read)
  unfolding read_comparison same_class
  reads-comparison =
      as_given (λ p. comparing p.0 p.1) (both (plain (terminal (one_told compare_op))) (sum room inner)) (seen is_compare_op sum_more) (read_both (read_plain (read_terminal (one_told compare_op))) (read_sum room read))
      (in_pair (plain (terminal (one_told compare_op))) (sum room inner) (one is_compare_op) sum_sight (seen is_compare_op sum_more) (read_plain (read_terminal (one_told compare_op))) (read_sum room read) refl refl
      (reads-operator compare_op) reads-sum)

  reads-between : (b : Bool) → Countable (between room inner b) (seen (is k.Between) sum_more) (read_between room read b)
  unfolding read_between same_class
  reads-between b =
      behind (is k.Between) (given (λ p. lying b p.0 p.1) (both (sum room inner) (past (of k.And) (sum room inner)))) sum_sight (read_given (λ p. lying b p.0 p.1) (read_both (read_sum room read) (read_counted_past (of k.And) (read_sum room read))))
      (as_given (λ p. lying b p.0 p.1) (both (sum room inner) (past (of k.And) (sum room inner))) sum_sight (read_both (read_sum room read) (read_counted_past (of k.And) (read_sum room read)))
      (in_pair (sum room inner) (past (of k.And) (sum room inner)) sum_sight (past_sight (is k.And) sum_sight) sum_sight (read_sum room read) (read_counted_past (of k.And) (read_sum room read)) refl refl reads-sum
      (behind (is k.And) (sum room inner) sum_sight (read_sum room read) reads-sum)))

  abbrev members_sight : Sight Class
  members_sight = seen begins_expression (λ c. is k.Comma c || or_more c)

  reads-member_list : Countable (list_of 1000 (λ s. over_class room.deeper (class s)) (of k.Comma) inner) members_sight (read_list_of 1000 (λ s. over_class room.deeper (class s)) (of k.Comma) read)
  unfolding same_class
  reads-member_list =
      written (list_of 1000 (λ s. over_class room.deeper (class s)) (of k.Comma) inner) (list_sight or_sight (is k.Comma)) members_sight (read_list_of 1000 (λ s. over_class room.deeper (class s)) (of k.Comma) read) refl
      (λ n. reads-list_of 1000 (λ s. over_class room.deeper (class s)) (of k.Comma) inner (on or_sight) read g refl (λ s. seen_over room.deeper (class s)) (apart_by class all_classes every or_sight (one (is k.Comma)) refl) n)

  reads-members : Countable (members room inner) (one (is k.LeftParenthesis)) (read_members room read)
  unfolding read_members same_class
  reads-members =
      in_brackets room.here (list_of 1000 (λ s. over_class room.deeper (class s)) (of k.Comma) inner) members_sight (read_list_of 1000 (λ s. over_class room.deeper (class s)) (of k.Comma) read) refl refl reads-member_list

  reads-in : (b : Bool) → Countable (in_members room inner b) (one (is k.In)) (read_in room read b)
  unfolding read_in
  reads-in b =
      behind (is k.In) (given (among b) (members room inner)) (one (is k.LeftParenthesis)) (read_given (among b) (read_members room read))
      (as_given (among b) (members room inner) (one (is k.LeftParenthesis)) (read_members room read) reads-members)

  abbrev escape_rule : List ℕ → Rule Symbol Fault (Option ℕ)
  escape_rule pattern = either (preceded_by (token (of k.Escape)) (terminal (escape pattern))) (nothing None)

  abbrev escape_sight : Sight Class
  escape_sight = seen_or_nothing (is k.Escape) (is k.Escape)

  reads-escape : (pattern : List ℕ) → Readable (escape_rule pattern) escape_sight (read_escape room read pattern)
  unfolding read_escape same_class
  reads-escape pattern =
      reads_by class all_classes every (either_sight (one (is k.Escape)) nothing_sight) (escape_rule pattern) escape_sight (read_escape room read pattern) refl
      (reads-either (preceded_by (token (of k.Escape)) (terminal (escape pattern))) (nothing None) (on (one (is k.Escape))) nothing_sight (read_past (of k.Escape) (read_terminal (escape pattern))) (λ ts. found None ts)
      (reads-past (of k.Escape) (terminal (escape pattern)) (on (one (is k.Text))) (read_terminal (escape pattern)) (reads_terminal (escape pattern) (is k.Text) (seen_escape pattern)))
      (reads-nothing None) (distinct_by class all_classes every (one (is k.Escape)) nothing_sight refl) refl)

  abbrev like_rest : Bool → Rule Symbol Fault Tail
  like_rest b = begun text (λ pattern. made (λ esc. liking b pattern esc) (escape_rule pattern))

  reads-like_rest : (b : Bool) → Readable (like_rest b) (seen (is k.Text) (is k.Escape)) (read_begun text (λ pattern ts. read_made (λ esc. liking b pattern esc) (read_escape room read pattern ts)))
  reads-like_rest b =
      reads-begun text (λ pattern. made (λ esc. liking b pattern esc) (escape_rule pattern)) (λ pattern. on escape_sight) (λ pattern ts. read_made (λ esc. liking b pattern esc) (read_escape room read pattern ts)) (of k.Text)
      (seen_those (is k.Text) text_in) (λ pattern. reads-made (λ esc. liking b pattern esc) (escape_rule pattern) (on escape_sight) (read_escape room read pattern) (reads-escape pattern)) (of k.Escape) (λ pattern x h. h)

  reads-like : (b : Bool) → Countable (like room inner b) (seen (is k.Like) (is k.Escape)) (read_like room read b)
  unfolding read_like
  reads-like b =
      behind (is k.Like) (plain (like_rest b)) (seen (is k.Text) (is k.Escape)) (read_plain (read_begun text (λ pattern ts. read_made (λ esc. liking b pattern esc) (read_escape room read pattern ts))))
      (plainly (like_rest b) (seen (is k.Text) (is k.Escape)) (read_begun text (λ pattern ts. read_made (λ esc. liking b pattern esc) (read_escape room read pattern ts))) (reads-like_rest b))

  -- BETWEEN, IN or LIKE
  abbrev plain_tail : Bool → Counting Tail
  plain_tail b n = either (between room inner b n) (either (in_members room inner b n) (like room inner b n))

  abbrev in_or_like : Sight Class
  in_or_like = seen (λ c. is k.In c || is k.Like c) (is k.Escape)

  abbrev plain_first : Class → Bool
  plain_first c = is k.Between c || (is k.In c || is k.Like c)

  reads-plain_tail : (b : Bool) → Countable (plain_tail b) (seen plain_first tail_more) (read_negatable room read b)
  unfolding read_negatable same_class
  reads-plain_tail b =
      one_or_other (between room inner b) (λ n. either (in_members room inner b n) (like room inner b n)) (seen (is k.Between) sum_more) in_or_like (seen plain_first tail_more)
      (read_between room read b) (λ n. read_either (of k.In) (read_in room read b n) (read_like room read b n)) refl refl refl refl
      (reads-between b)
      (one_or_other (in_members room inner b) (like room inner b) (one (is k.In)) (seen (is k.Like) (is k.Escape)) in_or_like (read_in room read b) (read_like room read b) refl refl refl refl (reads-in b) (reads-like b))

  reads-is : Countable (is_tail room inner) (one (is k.Is)) (read_is room read)
  unfolding read_is same_class
  reads-is =
      behind (is k.Is) (perhaps (plain (token (of k.Not))) (λ o. plain (terminal (one_told (is_what (is_some o)))))) (one (λ c. is k.Not c || (is k.Null c || is k.Missing c))) (read_perhaps (of k.Not) (read_plain (read_terminal (word k.Not))) (λ o. read_plain (read_terminal (one_told (is_what (is_some o))))))
      (in_perhaps (plain (token (of k.Not))) (λ o. plain (terminal (one_told (is_what (is_some o))))) (one (is k.Not)) (one (λ c. is k.Null c || is k.Missing c)) (one (is k.Not)) (one (λ c. is k.Not c || (is k.Null c || is k.Missing c)))
      (read_plain (read_terminal (word k.Not))) (λ o. read_plain (read_terminal (one_told (is_what (is_some o))))) refl refl refl refl refl refl
      (plainly (token (of k.Not)) (one (is k.Not)) (read_terminal (word k.Not)) (reads_terminal (word k.Not) (is k.Not) (seen_word k.Not)))
      (λ o. reads-what (is_some o)))

  -- the factored rule of a tail
  abbrev with_not : Counting Tail
  with_not n = either (past (of k.Not) (plain_tail true) n) (plain_tail false n)

  abbrev factored_tail : Counting Tail
  factored_tail n = either (comparison room inner n) (either (with_not n) (is_tail room inner n))

  reads-with_not : Countable with_not (seen begins_negatable tail_more) (λ n. read_either (of k.Not) (read_counted_past (of k.Not) (read_negatable room read true) n) (read_negatable room read false n))
  unfolding same_class
  reads-with_not =
      one_or_other (past (of k.Not) (plain_tail true)) (plain_tail false) (seen (is k.Not) tail_more) (seen plain_first tail_more) (seen begins_negatable tail_more)
      (read_counted_past (of k.Not) (read_negatable room read true)) (read_negatable room read false) refl refl refl refl
      (behind (is k.Not) (plain_tail true) (seen plain_first tail_more) (read_negatable room read true) (reads-plain_tail true)) (reads-plain_tail false)

  abbrev not_or_is : Sight Class
  not_or_is = seen (λ c. begins_negatable c || is k.Is c) tail_more

  abbrev tail_sight : Sight Class
  tail_sight = seen begins_tail tail_more

  reads-factored_tail : Countable factored_tail tail_sight (read_tail room read)
  unfolding read_tail same_class
  reads-factored_tail =
      one_or_other (comparison room inner) (λ n. either (with_not n) (is_tail room inner n)) (seen is_compare_op sum_more) not_or_is tail_sight
      (read_comparison room read) (λ n. read_either (begins begins_negatable) (read_either (of k.Not) (read_counted_past (of k.Not) (read_negatable room read true) n) (read_negatable room read false n)) (read_is room read n)) refl refl refl refl
      reads-comparison
      (one_or_other with_not (is_tail room inner) (seen begins_negatable tail_more) (one (is k.Is)) not_or_is
      (λ n. read_either (of k.Not) (read_counted_past (of k.Not) (read_negatable room read true) n) (read_negatable room read false n)) (read_is room read) refl refl refl refl
      reads-with_not reads-is)

  -- NOT before each of three is NOT before all of them
  same_with_not : (n : ℕ) → Same (either (negatable room inner (between room inner) n) (either (negatable room inner (in_members room inner) n) (negatable room inner (like room inner) n))) (with_not n)
  same_with_not n =
      let B : Bool → Rule Symbol Fault (Tail × ℕ) = λ b. between room inner b n in
      let I : Bool → Rule Symbol Fault (Tail × ℕ) = λ b. in_members room inner b n in
      let L : Bool → Rule Symbol Fault (Tail × ℕ) = λ b. like room inner b n in
      let N : Rule Symbol Fault (Tail × ℕ) → Rule Symbol Fault (Tail × ℕ) = λ G. preceded_by (token (of k.Not)) G in
      let nb : Rule Symbol Fault (Tail × ℕ) = negatable room inner (between room inner) n in
      let ni : Rule Symbol Fault (Tail × ℕ) = negatable room inner (in_members room inner) n in
      let nl : Rule Symbol Fault (Tail × ℕ) = negatable room inner (like room inner) n in
      let b2 : Rule Symbol Fault (Tail × ℕ) = either (N (B true)) (B false) in
      let i2 : Rule Symbol Fault (Tail × ℕ) = either (N (I true)) (I false) in
      let l2 : Rule Symbol Fault (Tail × ℕ) = either (N (L true)) (L false) in
      let il : Rule Symbol Fault (Tail × ℕ) = either (either (N (I true)) (N (L true))) (either (I false) (L false)) in
      let bil : Rule Symbol Fault (Tail × ℕ) = either (either (N (B true)) (either (N (I true)) (N (L true)))) (either (B false) (either (I false) (L false))) in
      same_trans (either nb (either ni nl)) (either b2 (either i2 l2)) (with_not n)
      (same-either nb b2 (either ni nl) (either i2 l2) (same_negatable room inner (between room inner) n)
      (same-either ni i2 nl l2 (same_negatable room inner (in_members room inner) n) (same_negatable room inner (like room inner) n)))
      (same_trans (either b2 (either i2 l2)) (either b2 il) (with_not n)
      (same-either b2 b2 (either i2 l2) il (same_refl b2) (same_crossed (N (I true)) (I false) (N (L true)) (L false)))
      (same_trans (either b2 il) bil (with_not n)
      (same_crossed (N (B true)) (B false) (either (N (I true)) (N (L true))) (either (I false) (L false)))
      (same-either (either (N (B true)) (either (N (I true)) (N (L true)))) (past (of k.Not) (plain_tail true) n) (plain_tail false n) (plain_tail false n)
      (same_trans (either (N (B true)) (either (N (I true)) (N (L true)))) (either (N (B true)) (N (either (I true) (L true)))) (past (of k.Not) (plain_tail true) n)
      (same-either (N (B true)) (N (B true)) (either (N (I true)) (N (L true))) (N (either (I true) (L true))) (same_refl (N (B true))) (same_behind (of k.Not) (I true) (L true)))
      (same_behind (of k.Not) (B true) (either (I true) (L true))))
      (same_refl (plain_tail false n)))))

  same_tail : (n : ℕ) → Same (tail room inner n) (factored_tail n)
  unfolding tail
  same_tail n =
      let three : Rule Symbol Fault (Tail × ℕ) = either (negatable room inner (between room inner) n) (either (negatable room inner (in_members room inner) n) (negatable room inner (like room inner) n)) in
      same-either (comparison room inner n) (comparison room inner n) (either three (is_tail room inner n)) (either (with_not n) (is_tail room inner n)) (same_refl (comparison room inner n))
      (same-either three (with_not n) (is_tail room inner n) (is_tail room inner n) (same_with_not n) (same_refl (is_tail room inner n)))

  reads-tail : Countable (tail room inner) tail_sight (read_tail room read)
  reads-tail n =
      reads-same (factored_tail n) (tail room inner n) (same_sym (tail room inner n) (factored_tail n) (same_tail n)) (on tail_sight) (read_tail room read n) (reads-factored_tail n)

  -- ---- logic

  abbrev tail_or_none : Sight Class
  tail_or_none = seen_or_nothing begins_tail (λ c. begins_tail c || tail_more c)

  reads-pred : Countable (pred room inner) pred_sight (read_pred room read)
  unfolding pred read_pred same_class
  reads-pred =
      as_given (λ p. pred_node p.0 p.1) (both (sum room inner) (maybe (tail room inner))) pred_sight (read_both (read_sum room read) (read_maybe (begins begins_tail) (read_tail room read)))
      (in_pair (sum room inner) (maybe (tail room inner)) sum_sight tail_or_none pred_sight (read_sum room read) (read_maybe (begins begins_tail) (read_tail room read)) refl refl
      reads-sum (maybe_so (tail room inner) tail_sight tail_or_none (read_tail room read) refl refl reads-tail))

  pub reads-negation : Countable (negation room inner) not_sight (read_negation room read)
  unfolding negation read_negation same_class
  reads-negation =
      as_given (λ p. not_node p.0 p.1) (both (flag k.Not) (pred room inner)) not_sight (read_both (read_flag k.Not) (read_pred room read))
      (in_pair (flag k.Not) (pred room inner) (seen_or_nothing (is k.Not) (is k.Not)) pred_sight not_sight (read_flag k.Not) (read_pred room read) refl refl
      (reads-flag k.Not refl refl) reads-pred)

  pub reads-conjunction : Countable (conjunction room inner) and_sight (read_conjunction room read)
  unfolding conjunction read_conjunction same_class
  reads-conjunction =
      in_chain and_node (negation room inner) (past (of k.And) (negation room inner)) not_sight (past_sight (is k.And) not_sight) and_sight (read_negation room read) (read_counted_past (of k.And) (read_negation room read)) refl refl refl refl
      reads-negation (behind (is k.And) (negation room inner) not_sight (read_negation room read) reads-negation)

  pub reads-disjunction : Countable (disjunction room inner) or_sight (read_disjunction room read)
  unfolding disjunction read_disjunction same_class
  reads-disjunction =
      in_chain or_node (conjunction room inner) (past (of k.Or) (conjunction room inner)) and_sight (past_sight (is k.Or) and_sight) or_sight (read_conjunction room read) (read_counted_past (of k.Or) (read_conjunction room read)) refl refl refl refl
      reads-conjunction (behind (is k.Or) (conjunction room inner) and_sight (read_conjunction room read) reads-conjunction)

-- ---- depth

pub reads-too_deep : Countable (plain (fault too_deep (begins begins_expression))) or_sight (read_plain {A = Expr} (read_fault too_deep (begins begins_expression)))
unfolding same_class
reads-too_deep =
    written (plain (fault too_deep (begins begins_expression))) (one begins_expression) or_sight (read_plain (read_fault too_deep (begins begins_expression))) refl
    (plainly (fault too_deep (begins begins_expression)) (one begins_expression) (read_fault too_deep (begins begins_expression)) (reads-fault Expr too_deep (begins begins_expression)))

pub reads-expression : (depth : ℕ) → Countable (expression depth) or_sight (read_expression depth)
unfolding expression read_expression
reads-expression zero = reads-disjunction (room_of 0) (plain (fault too_deep (begins begins_expression))) (read_plain (read_fault too_deep (begins begins_expression))) reads-too_deep
reads-expression (suc depth) = reads-disjunction (room_of (suc depth)) (expression depth) (read_expression depth) (reads-expression depth)
