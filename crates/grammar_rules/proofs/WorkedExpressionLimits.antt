-- The expressions of limited depth among those of any depth, and that each front begins one.
use Rattle.std.proofs.Common.{ℕ, zero, suc, ◌+◌, List, [], ◌∷◌, suc-add, zero-add}
use Rattle.grammar_rules.specs.declared.worked.arithmetic.Token.{Token}
use Rattle.grammar_rules.specs.declared.worked.arithmetic.Expression.{Expression}
use Rattle.grammar_rules.specs.declared.worked.arithmetic.Expression.TheVariants.{Sum, Call}
use Rattle.grammar_rules.specs.Rules.{Rule, Last, fits, faulty, terminal, token, never, made, either, headed, many, preceded_by, followed_by, ◌&◌, Limits, Within}
use Rattle.grammar_rules.specs.Places.{RefusedThere}
use Rattle.grammar_rules.specs.WorkedExpressions.{Limit, too_deep, is_plus, is_comma, is_open, is_close, number, name, Brackets, call, term, sum, enclosed, list, brackets, some_brackets, expression, any_expression}
use Rattle.grammar_rules.proofs.Clear.{Closed}
use Rattle.grammar_rules.proofs.ClosedRules.{closed-pair, closed-headed, closed-token, closed-preceded_by, closed-followed_by, closed-many, preceded_starts, preceded_wants, preceded_no_fault}
use Rattle.grammar_rules.proofs.Alternatives.{Within_refl}
use Rattle.grammar_rules.proofs.Terminals.{closed-terminal, closed-made}
use Rattle.grammar_rules.proofs.Choices.{closed-either}
use Rattle.grammar_rules.proofs.Depths.{within-made, within-pair, within-either, within-headed, within-many, within-preceded_by, within-followed_by}
use Rattle.grammar_rules.proofs.Limited.{limits_refl, limits-fault, limits-made, limits-sequence, limits-either, limits-pair, limits-headed, limits-many, limits-growing}
use Rattle.grammar_rules.proofs.LimitedAnswers.{refused_without_limits}
use Rattle.grammar_rules.proofs.WorkedExpressionProofs.{sum_sight, reads-expression}

-- closed fronts
pub record BracketsClosed (b : Brackets) : Type 0 where
  pub group : Closed b.group
  pub arguments : Closed b.arguments

pub closed-sum : (b : Brackets) → BracketsClosed b → Closed (sum b)
closed-sum b h =
    let c = closed-made (λ p. Call p.0 p.1) (terminal name & b.arguments) (closed-pair (terminal name) b.arguments (closed-terminal name) h.arguments) in
    let t = closed-either (terminal number) (either (call b.arguments) b.group) (closed-terminal number) (closed-either (call b.arguments) b.group c h.group) in
    closed-made Sum (headed (term b) (many (preceded_by (token is_plus) (term b))))
    (closed-headed (term b) (many (preceded_by (token is_plus) (term b))) t
    (closed-many (preceded_by (token is_plus) (term b)) (closed-preceded_by (token is_plus) (term b) (closed-token is_plus) t)))

closed-list : {A : Type 0} (G : Rule Token Limit A) → Closed G → Closed (list G)
closed-list G g =
    closed-headed G (many (preceded_by (token is_comma) G)) g
    (closed-many (preceded_by (token is_comma) G) (closed-preceded_by (token is_comma) G (closed-token is_comma) g))

closed-enclosed : {A : Type 0} (G : Rule Token Limit A) → Closed G → Closed (enclosed G)
closed-enclosed G g =
    closed-preceded_by (token is_open) (followed_by G (token is_close)) (closed-token is_open)
    (closed-followed_by G (token is_close) g (closed-token is_close))

pub some_closed : (n : ℕ) → BracketsClosed (some_brackets n)
unfolding some_brackets
some_closed zero = record { group = closed-terminal _; arguments = closed-terminal _ }
some_closed (suc n) = record {
  group = closed-enclosed (sum (some_brackets n)) (closed-sum (some_brackets n) (some_closed n));
  arguments = closed-enclosed (list (sum (some_brackets n))) (closed-list (sum (some_brackets n)) (closed-sum (some_brackets n) (some_closed n)));
}

-- a longer depth says no less
record BracketsWithin (b b' : Brackets) : Type 0 where
  group : Within b.group b'.group
  arguments : Within b.arguments b'.arguments

within-sum : (b b' : Brackets) → BracketsWithin b b' → Within (sum b) (sum b')
within-sum b b' w =
    let c = within-made (λ p. Call p.0 p.1) (terminal name & b.arguments) (terminal name & b'.arguments)
    (within-pair (terminal name) (terminal name) b.arguments b'.arguments (Within_refl (terminal name)) w.arguments) in
    let t = within-either (terminal number) (terminal number) (either (call b.arguments) b.group) (either (call b'.arguments) b'.group) (Within_refl (terminal number))
    (within-either (call b.arguments) (call b'.arguments) b.group b'.group c w.group) in
    within-made Sum (headed (term b) (many (preceded_by (token is_plus) (term b)))) (headed (term b') (many (preceded_by (token is_plus) (term b'))))
    (within-headed (term b) (term b') (many (preceded_by (token is_plus) (term b))) (many (preceded_by (token is_plus) (term b'))) t
    (within-many (preceded_by (token is_plus) (term b)) (preceded_by (token is_plus) (term b'))
    (within-preceded_by (token is_plus) (token is_plus) (term b) (term b') (Within_refl (token is_plus)) t)))

within-list : {A : Type 0} (G H : Rule Token Limit A) → Within G H → Within (list G) (list H)
within-list G H w =
    within-headed G H (many (preceded_by (token is_comma) G)) (many (preceded_by (token is_comma) H)) w
    (within-many (preceded_by (token is_comma) G) (preceded_by (token is_comma) H)
    (within-preceded_by (token is_comma) (token is_comma) G H (Within_refl (token is_comma)) w))

within-enclosed : {A : Type 0} (G H : Rule Token Limit A) → Within G H → Within (enclosed G) (enclosed H)
within-enclosed G H w =
    within-preceded_by (token is_open) (token is_open) (followed_by G (token is_close)) (followed_by H (token is_close)) (Within_refl (token is_open))
    (within-followed_by G H (token is_close) (token is_close) w (Within_refl (token is_close)))

within-never : {A : Type 0} (H : Rule Token Limit A) → Closed H → Within never H
within-never {A = A} H h = record { spells = no_text; front = no_front }
  where
    no_text : (a : A) (ts : List Token) → (never {T = Token} {K = Limit} {A = A}).Spells a ts → H.Spells a ts
    no_text a [] w = absurd w
    no_text a (t ∷ []) w = cc
    no_text a (t ∷ u ∷ ts) w = absurd w

    no_front : (m : Last Limit) (ts : List Token) → (never {T = Token} {K = Limit} {A = A}).Front m ts → H.Front m ts
    no_front fits [] f = h.nil
    no_front fits (t ∷ []) f = let e = f.1 in cc
    no_front fits (t ∷ u ∷ ts) f = absurd f
    no_front (faulty k) [] f = absurd f
    no_front (faulty k) (t ∷ []) f = cc
    no_front (faulty k) (t ∷ u ∷ ts) f = absurd f

some_grow : (n : ℕ) → BracketsWithin (some_brackets n) (some_brackets (suc n))
unfolding some_brackets
some_grow zero = record {
  group = within-never (some_brackets 1).group (some_closed 1).group;
  arguments = within-never (some_brackets 1).arguments (some_closed 1).arguments;
}
some_grow (suc n) = record {
  group = within-enclosed (sum (some_brackets n)) (sum (some_brackets (suc n))) (within-sum (some_brackets n) (some_brackets (suc n)) (some_grow n));
  arguments = within-enclosed (list (sum (some_brackets n))) (list (sum (some_brackets (suc n)))) (within-list (sum (some_brackets n)) (sum (some_brackets (suc n))) (within-sum (some_brackets n) (some_brackets (suc n)) (some_grow n)));
}

sum_grows : (n : ℕ) → Within (sum (some_brackets n)) (sum (some_brackets (suc n)))
sum_grows n = within-sum (some_brackets n) (some_brackets (suc n)) (some_grow n)

-- the limit on the depth
record BracketsLimited (b b' : Brackets) : Type 0 where
  group : Limits b.group b'.group
  arguments : Limits b.arguments b'.arguments

limits-sum : (b b' : Brackets) → BracketsLimited b b' → Limits (sum b) (sum b')
limits-sum b b' l =
    let c = limits-made (λ p. Call p.0 p.1) (terminal name & b.arguments) (terminal name & b'.arguments)
    (limits-pair (terminal name) (terminal name) b.arguments b'.arguments (limits_refl (terminal name)) l.arguments) in
    let t = limits-either (terminal number) (terminal number) (either (call b.arguments) b.group) (either (call b'.arguments) b'.group) (limits_refl (terminal number))
    (limits-either (call b.arguments) (call b'.arguments) b.group b'.group c l.group) in
    limits-made Sum (headed (term b) (many (preceded_by (token is_plus) (term b)))) (headed (term b') (many (preceded_by (token is_plus) (term b'))))
    (limits-headed (term b) (term b') (many (preceded_by (token is_plus) (term b))) (many (preceded_by (token is_plus) (term b'))) t
    (limits-many (preceded_by (token is_plus) (term b)) (preceded_by (token is_plus) (term b'))
    (limits-sequence (token is_plus) (token is_plus) (λ x. term b) (λ x. term b') (limits_refl (token is_plus)) (λ x. t))))

limits-list : {A : Type 0} (G H : Rule Token Limit A) → Limits G H → Limits (list G) (list H)
limits-list G H l =
    limits-headed G H (many (preceded_by (token is_comma) G)) (many (preceded_by (token is_comma) H)) l
    (limits-many (preceded_by (token is_comma) G) (preceded_by (token is_comma) H)
    (limits-sequence (token is_comma) (token is_comma) (λ x. G) (λ x. H) (limits_refl (token is_comma)) (λ x. l)))

limits-enclosed : {A : Type 0} (G H : Rule Token Limit A) → Limits G H → Limits (enclosed G) (enclosed H)
limits-enclosed G H l =
    limits-sequence (token is_open) (token is_open) (λ x. followed_by G (token is_close)) (λ x. followed_by H (token is_close)) (limits_refl (token is_open))
    (λ x. limits-sequence G H (λ a. made (λ b. a) (token is_close)) (λ a. made (λ b. a) (token is_close)) l (λ a. limits_refl (made (λ b. a) (token is_close))))

brackets_limited : (depth k : ℕ) → BracketsLimited (brackets depth) (some_brackets (suc depth + k))
unfolding brackets some_brackets
brackets_limited zero k =
    rw (suc-add, zero-add) (record {
      group = limits-fault too_deep is_open (enclosed (sum (some_brackets k)))
          (preceded_starts is_open (followed_by (sum (some_brackets k)) (token is_close)))
          (preceded_wants is_open (followed_by (sum (some_brackets k)) (token is_close)))
          (closed-enclosed (sum (some_brackets k)) (closed-sum (some_brackets k) (some_closed k)))
          (preceded_no_fault is_open (followed_by (sum (some_brackets k)) (token is_close)));
      arguments = limits-fault too_deep is_open (enclosed (list (sum (some_brackets k))))
          (preceded_starts is_open (followed_by (list (sum (some_brackets k))) (token is_close)))
          (preceded_wants is_open (followed_by (list (sum (some_brackets k))) (token is_close)))
          (closed-enclosed (list (sum (some_brackets k))) (closed-list (sum (some_brackets k)) (closed-sum (some_brackets k) (some_closed k))))
          (preceded_no_fault is_open (followed_by (list (sum (some_brackets k))) (token is_close)));
    })
brackets_limited (suc depth) k =
    let l = limits-sum (brackets depth) (some_brackets (suc depth + k)) (brackets_limited depth k) in
    rw suc-add (record {
      group = limits-enclosed (sum (brackets depth)) (sum (some_brackets (suc depth + k))) l;
      arguments = limits-enclosed (list (sum (brackets depth))) (list (sum (some_brackets (suc depth + k)))) (limits-list (sum (brackets depth)) (sum (some_brackets (suc depth + k))) l);
    })

-- the expressions of limited depth are those of any depth with a limit
pub expression_limits : (depth : ℕ) → Limits (expression depth) any_expression
unfolding expression any_expression
expression_limits depth =
    limits-growing (sum (brackets depth)) (λ n. sum (some_brackets n)) sum_grows (suc depth)
    (λ k. limits-sum (brackets depth) (some_brackets (suc depth + k)) (brackets_limited depth k))
    (reads-expression depth).clear.fronts

-- so what is refused at some depth is refused at any, at the same place
pub refused_at_any_depth : (depth : ℕ) (ts : List Token) (p : ℕ) → RefusedThere (expression depth) ts p → RefusedThere any_expression ts p
unfolding expression
refused_at_any_depth depth ts p x =
    refused_without_limits (sum (brackets depth)) any_expression sum_sight (reads-expression depth).clear (expression_limits depth) ts p x

pub spelled_at_any_depth : (depth : ℕ) (ts : List Token) (e : Expression) → (expression depth).Spells e ts → any_expression.Spells e ts
spelled_at_any_depth depth ts e w = (expression_limits depth).spells e ts w
