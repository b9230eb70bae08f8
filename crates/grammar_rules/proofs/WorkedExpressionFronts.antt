-- Each front of an expression of any depth begins an expression.
use Rattle.std.proofs.Common.{◌≡◌, ℕ, zero, suc, Bool, true, List, [], ◌∷◌, ◌++◌, refl, inl}
use Rattle.grammar_rules.specs.declared.worked.arithmetic.Token.{Token}
use Rattle.grammar_rules.specs.declared.worked.arithmetic.Token.TheVariants.{Number, Name, Plus, Comma, Open, Close}
use Rattle.grammar_rules.specs.declared.worked.arithmetic.Expression.{Expression}
use Rattle.grammar_rules.specs.declared.worked.arithmetic.Expression.TheVariants.{Literal, Sum, Call}
use Rattle.grammar_rules.specs.Rules.{Rule, fits, terminal, token, never, made, either, headed, many, preceded_by, followed_by, ◌&◌, Completes}
use Rattle.grammar_rules.specs.WorkedExpressions.{Limit, is_plus, is_comma, is_open, is_close, number, name, Brackets, call, term, sum, enclosed, list, some_brackets, any_expression}
use Rattle.grammar_rules.proofs.Completions.{completes-terminal, completes-made, completes-sequence, completes-either, completes-pair, completes-headed, completes-many, completes-family, front_begins_text}
use Rattle.grammar_rules.proofs.Alternatives.{closed-alternatives}
use Rattle.grammar_rules.proofs.WorkedExpressionLimits.{closed-sum, some_closed}

-- the brackets at one depth are completed at another
record BracketsComplete (b b' : Brackets) : Type 0 where
  group : Completes b.group b'.group
  arguments : Completes b.arguments b'.arguments
  group_nil : b.group.Front fits []
  arguments_nil : b.arguments.Front fits []

is_taken : (test : Token → Bool) (t : Token) → test t ≡ true → Completes (token {K = Limit} test) (token test)
is_taken test t e = completes-terminal _ t t (rw e)

completes-sum : (b b' : Brackets) → BracketsComplete b b' → Completes (sum b) (sum b')
completes-sum b b' c =
    let q = completes-made (λ p. Call p.0 p.1) (terminal name & b.arguments) (terminal name & b'.arguments)
    (completes-pair (terminal name) (terminal name) b.arguments b'.arguments (completes-terminal name (Name 0) 0 refl) c.arguments c.arguments_nil) in
    let t = completes-either (terminal number) (terminal number) (either (call b.arguments) b.group) (either (call b'.arguments) b'.group) (completes-terminal number (Number 0) (Literal 0) refl)
    (completes-either (call b.arguments) (call b'.arguments) b.group b'.group q c.group (inl tt)) tt in
    completes-made Sum (headed (term b) (many (preceded_by (token is_plus) (term b)))) (headed (term b') (many (preceded_by (token is_plus) (term b'))))
    (completes-headed (term b) (term b') (many (preceded_by (token is_plus) (term b))) (many (preceded_by (token is_plus) (term b'))) t
    (completes-many (preceded_by (token is_plus) (term b)) (preceded_by (token is_plus) (term b'))
    (completes-sequence (token is_plus) (token is_plus) (λ x. term b) (λ x. term b') (is_taken is_plus Plus refl) (λ x. t) (λ x. inl (refl, refl)))
    (inl tt))
    (inl (refl, refl)))

completes-list : {A : Type 0} (G H : Rule Token Limit A) → Completes G H → G.Front fits [] → Completes (list G) (list H)
completes-list G H c nil =
    completes-headed G H (many (preceded_by (token is_comma) G)) (many (preceded_by (token is_comma) H)) c
    (completes-many (preceded_by (token is_comma) G) (preceded_by (token is_comma) H)
    (completes-sequence (token is_comma) (token is_comma) (λ x. G) (λ x. H) (is_taken is_comma Comma refl) (λ x. c) (λ x. nil))
    (inl tt))
    (inl (refl, refl))

completes-enclosed : {A : Type 0} (G H : Rule Token Limit A) → Completes G H → G.Front fits [] → Completes (enclosed G) (enclosed H)
completes-enclosed G H c nil =
    completes-sequence (token is_open) (token is_open) (λ x. followed_by G (token is_close)) (λ x. followed_by H (token is_close)) (is_taken is_open Open refl)
    (λ x. completes-sequence G H (λ a. made (λ b. a) (token is_close)) (λ a. made (λ b. a) (token is_close)) c
    (λ a. completes-made (λ b. a) (token is_close) (token is_close) (is_taken is_close Close refl)) (λ a. tt))
    (λ x. inl nil)

-- where nothing may stand, a text of another rule completes it
completes-never : {A : Type 0} (H : Rule Token Limit A) (a : A) (ts : List Token) → H.Spells a ts → Completes never H
completes-never {A = A} H a ts w = record { spells = no_text; completed = done }
  where
    no_text : (b : A) (us : List Token) → (never {T = Token} {K = Limit} {A = A}).Spells b us → H.Spells b us
    no_text b [] v = absurd v
    no_text b (t ∷ []) v = cc
    no_text b (t ∷ u ∷ us) v = absurd v

    done : (us : List Token) → (never {T = Token} {K = Limit} {A = A}).Front fits us → (rest : List Token) × (b : A) × H.Spells b (us ++ rest)
    done [] f = (ts, a, w)
    done (t ∷ []) f = let e = f.1 in cc
    done (t ∷ u ∷ us) f = absurd f

-- the sum "0", in brackets
zero_spelled : (b : Brackets) → (sum b).Spells (Sum (Literal 0 ∷ [])) (Number 0 ∷ [])
zero_spelled b = (
  Literal 0 ∷ [],
  refl,
  record {
    value = Literal 0;
    left = Number 0 ∷ [];
    right = [];
    joined = refl;
    whole = (true, refl);
    after = ([], refl, (0, (refl, refl)));
  },
)

enclosed_spelled : {A : Type 0} (G : Rule Token Limit A) (a : A) (t : Token) → G.Spells a (t ∷ []) → (enclosed G).Spells a (Open ∷ t ∷ Close ∷ [])
enclosed_spelled G a t w = record {
  value = Open;
  left = Open ∷ [];
  right = t ∷ Close ∷ [];
  joined = refl;
  whole = refl;
  after = record { value = a; left = t ∷ []; right = Close ∷ []; joined = refl; whole = w; after = (Close, refl, refl) };
}

list_spelled : {A : Type 0} (G : Rule Token Limit A) (a : A) (t : Token) → G.Spells a (t ∷ []) → (list G).Spells (a ∷ []) (t ∷ [])
list_spelled G a t w = record {
  value = a;
  left = t ∷ [];
  right = [];
  joined = refl;
  whole = w;
  after = ([], refl, (0, (refl, refl)));
}

some_complete : (n : ℕ) → BracketsComplete (some_brackets n) (some_brackets (suc n))
unfolding some_brackets
some_complete zero =
    let w = zero_spelled (some_brackets 0) in
    record {
      group = completes-never (enclosed (sum (some_brackets 0))) (Sum (Literal 0 ∷ [])) (Open ∷ Number 0 ∷ Close ∷ []) (enclosed_spelled (sum (some_brackets 0)) (Sum (Literal 0 ∷ [])) (Number 0) w);
      arguments = completes-never (enclosed (list (sum (some_brackets 0)))) (Sum (Literal 0 ∷ []) ∷ []) (Open ∷ Number 0 ∷ Close ∷ [])
          (enclosed_spelled (list (sum (some_brackets 0))) (Sum (Literal 0 ∷ []) ∷ []) (Number 0) (list_spelled (sum (some_brackets 0)) (Sum (Literal 0 ∷ [])) (Number 0) w));
      group_nil = tt;
      arguments_nil = tt;
    }
some_complete (suc n) =
    let c = completes-sum (some_brackets n) (some_brackets (suc n)) (some_complete n) in
    let nil : (sum (some_brackets n)).Front fits [] = inl (inl (refl, refl)) in
    record {
      group = completes-enclosed (sum (some_brackets n)) (sum (some_brackets (suc n))) c nil;
      arguments = completes-enclosed (list (sum (some_brackets n))) (list (sum (some_brackets (suc n)))) (completes-list (sum (some_brackets n)) (sum (some_brackets (suc n))) c nil) (inl nil);
      group_nil = inl tt;
      arguments_nil = inl tt;
    }

-- a front is exactly what begins an expression
pub front_begins_expression : (ts : List Token)
    → (any_expression.Front fits ts → (rest : List Token) × (e : Expression) × any_expression.Spells e (ts ++ rest)) × (((rest : List Token) × (e : Expression) × any_expression.Spells e (ts ++ rest)) → any_expression.Front fits ts)
unfolding any_expression
front_begins_expression ts =
    front_begins_text any_expression
    (closed-alternatives (λ n. sum (some_brackets n)) (λ n. closed-sum (some_brackets n) (some_closed n)))
    (completes-family (λ n. sum (some_brackets n)) (λ n. completes-sum (some_brackets n) (some_brackets (suc n)) (some_complete n)) (inl (inl (refl, refl))))
    ts
