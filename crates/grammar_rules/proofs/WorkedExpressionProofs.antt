-- The readers of the small grammar read its rules.
use Rattle.std.proofs.Common.{◌≡◌, ℕ, zero, suc, ◌&&◌, false, List, refl}
use Rattle.grammar_rules.specs.declared.worked.arithmetic.Token.{Token}
use Rattle.grammar_rules.specs.declared.worked.arithmetic.Token.TheVariants.{Number, Name, Plus, Comma, Open, Close}
use Rattle.grammar_rules.specs.declared.worked.arithmetic.Expression.{Expression}
use Rattle.grammar_rules.specs.declared.worked.arithmetic.Expression.TheVariants.{Sum, Call}
use Rattle.grammar_rules.specs.Rules.{Rule, terminal, token, either, headed, many, preceded_by, followed_by, ◌&◌}
use Rattle.grammar_rules.specs.Readers.{Outcome, read_terminal, read_past, read_before, read_many, read_headed, read_pair, read_either}
use Rattle.grammar_rules.specs.WorkedExpressions.{Limit, too_deep, is_plus, is_comma, is_open, is_close, number, name, Brackets, call, term, sum, enclosed, list, brackets}
use Rattle.grammar_rules.specs.WorkedExpressionReaders.{BracketReaders, read_call, read_term, read_sum, read_enclosed, read_list, read_brackets}
use Rattle.grammar_rules.proofs.Clear.{Sight}
use Rattle.grammar_rules.proofs.Sequences.{sequence_sight}
use Rattle.grammar_rules.proofs.Terminals.{terminal_sight}
use Rattle.grammar_rules.proofs.Reading.{Reads, token_sight, past_sight, before_sight, reads-terminal, reads-fault, reads-made, reads-pair, reads-headed, reads-past, reads-before, then_sight, reads_then}
use Rattle.grammar_rules.proofs.Choices.{either_sight, reads-either}
use Rattle.grammar_rules.proofs.Many.{many_sight, reads-many}

-- the brackets are read
pub record BracketsRead (b : Brackets) (r : BracketReaders) : Type 0 where
  pub group : Reads b.group (token_sight is_open) r.group
  pub arguments : Reads b.arguments (token_sight is_open) r.arguments

abbrev call_sight : Sight Token
call_sight = then_sight (terminal_sight name) (token_sight is_open)

abbrev pub term_sight : Sight Token
term_sight = either_sight (terminal_sight number) (either_sight call_sight (token_sight is_open))

abbrev pub sum_sight : Sight Token
sum_sight = sequence_sight term_sight (many_sight (past_sight is_plus term_sight))

abbrev pub list_sight : Sight Token
list_sight = sequence_sight sum_sight (many_sight (past_sight is_comma sum_sight))

module _ (b : Brackets) (r : BracketReaders) (h : BracketsRead b r) where
  reads-call : Reads (call b.arguments) call_sight (read_call r.arguments)
  reads-call =
      reads-made (λ p. Call p.0 p.1) (terminal name & b.arguments) call_sight (read_pair (read_terminal name) r.arguments)
      (reads_then (terminal name & b.arguments) (terminal_sight name) (token_sight is_open) (read_pair (read_terminal name) r.arguments) refl
      (reads-pair (terminal name) b.arguments (terminal_sight name) (token_sight is_open) (read_terminal name) r.arguments
      (reads-terminal name) h.arguments (λ x. refl)))

  pub reads-term : Reads (term b) term_sight (read_term r)
  reads-term =
      reads-either (terminal number) (either (call b.arguments) b.group) (terminal_sight number) (either_sight call_sight (token_sight is_open)) (read_terminal number) (read_either call_sight.first (read_call r.arguments) r.group)
      (reads-terminal number)
      (reads-either (call b.arguments) b.group call_sight (token_sight is_open) (read_call r.arguments) r.group
      reads-call h.group
      (elim [ Number n ↦ refl | Name n ↦ refl | Plus ↦ refl | Comma ↦ refl | Open ↦ refl | Close ↦ refl ]) refl)
      (elim [ Number n ↦ refl | Name n ↦ refl | Plus ↦ refl | Comma ↦ refl | Open ↦ refl | Close ↦ refl ]) refl

  reads-terms : Reads (headed (term b) (many (preceded_by (token is_plus) (term b)))) sum_sight (read_headed (read_term r) (read_many is_plus (read_past is_plus (read_term r))))
  reads-terms =
      reads-headed (term b) (many (preceded_by (token is_plus) (term b))) term_sight (many_sight (past_sight is_plus term_sight)) (read_term r) (read_many is_plus (read_past is_plus (read_term r)))
      reads-term
      (reads-many (preceded_by (token is_plus) (term b)) (past_sight is_plus term_sight) (read_past is_plus (read_term r))
      (reads-past is_plus (term b) term_sight (read_term r) reads-term) refl
      (elim [ Number n ↦ refl | Name n ↦ refl | Plus ↦ refl | Comma ↦ refl | Open ↦ refl | Close ↦ refl ]))
      (elim [ Number n ↦ refl | Name n ↦ refl | Plus ↦ refl | Comma ↦ refl | Open ↦ refl | Close ↦ refl ])

  pub reads-sum : Reads (sum b) sum_sight (read_sum r)
  reads-sum = reads-made Sum (headed (term b) (many (preceded_by (token is_plus) (term b)))) sum_sight (read_headed (read_term r) (read_many is_plus (read_past is_plus (read_term r)))) reads-terms

  reads-list : Reads (list (sum b)) list_sight (read_list (read_sum r))
  reads-list =
      reads-headed (sum b) (many (preceded_by (token is_comma) (sum b))) sum_sight (many_sight (past_sight is_comma sum_sight)) (read_sum r) (read_many is_comma (read_past is_comma (read_sum r)))
      reads-sum
      (reads-many (preceded_by (token is_comma) (sum b)) (past_sight is_comma sum_sight) (read_past is_comma (read_sum r))
      (reads-past is_comma (sum b) sum_sight (read_sum r) reads-sum) refl
      (elim [ Number n ↦ refl | Name n ↦ refl | Plus ↦ refl | Comma ↦ refl | Open ↦ refl | Close ↦ refl ]))
      (elim [ Number n ↦ refl | Name n ↦ refl | Plus ↦ refl | Comma ↦ refl | Open ↦ refl | Close ↦ refl ])

-- a rule between brackets, which no closing bracket goes on with
reads-enclosed : {A : Type 0} (G : Rule Token Limit A) (s : Sight Token) (read : List Token → Outcome Token Limit A) → Reads G s read → s.null ≡ false → ((x : Token) → (s.more x && is_close x) ≡ false) → Reads (enclosed G) (token_sight is_open) (read_enclosed read)
reads-enclosed G s read g wants off =
    reads-past is_open (followed_by G (token is_close)) (before_sight s) (read_before is_close read)
    (reads-before G s read is_close g wants off)

-- the brackets are read at each depth
pub brackets_read : (depth : ℕ) → BracketsRead (brackets depth) (read_brackets depth)
unfolding brackets read_brackets
brackets_read zero = record {
  group = reads-fault Expression too_deep is_open;
  arguments = reads-fault (List Expression) too_deep is_open;
}
brackets_read (suc depth) = record {
  group = reads-enclosed (sum (brackets depth)) sum_sight (read_sum (read_brackets depth)) (reads-sum (brackets depth) (read_brackets depth) (brackets_read depth)) refl
      (elim [ Number n ↦ refl | Name n ↦ refl | Plus ↦ refl | Comma ↦ refl | Open ↦ refl | Close ↦ refl ]);
  arguments = reads-enclosed (list (sum (brackets depth))) list_sight (read_list (read_sum (read_brackets depth))) (reads-list (brackets depth) (read_brackets depth) (brackets_read depth)) refl
      (elim [ Number n ↦ refl | Name n ↦ refl | Plus ↦ refl | Comma ↦ refl | Open ↦ refl | Close ↦ refl ]);
}

-- the expressions are read at each depth
pub reads-expression : (depth : ℕ) → Reads (sum (brackets depth)) sum_sight (read_sum (read_brackets depth))
reads-expression depth = reads-sum (brackets depth) (read_brackets depth) (brackets_read depth)
