-- Types, as the parser reads them.
use Rattle.std.proofs.Common.{◌≡◌, ℕ, Bool, true, false, List, [], ◌∷◌, drop, Some, None, Option, refl, ◌∙◌}
use Rattle.sql_tokens.specs.declared.class.Class.{Class}
use Rattle.sql_tokens.specs.declared.class.Class.TheVariants as k
use Rattle.sql_tokens.specs.Cutting.{Symbol, first_class}
use Rattle.sql_grammar.specs.declared.tree.CastTarget.{CastTarget}
use Rattle.sql_grammar.specs.declared.tree.CastTarget.TheVariants as target
use Rattle.grammar_rules.specs.Rules.{Verdict, takes, faults, refuses}
use Rattle.grammar_rules.specs.Readers.{Outcome, found, failed, and_then, read_made, read_terminal, read_symbol, chosen, is_seen, starts}
use Rattle.sql_grammar.specs.Marks.{Fault, unsupported_type, class, of, is_decimal, simple_type, digits_within}
use Rattle.sql_grammar.specs.Expressions.{opening, decimal_target}
use Rattle.sql_grammar.specs.Readers.{read_type, read_decimal, read_decimal_digits}
use Rattle.sql_leaves.specs.Parsing.{read_open, read_scale, read_decimal_told, taken, is_faulty}

-- the bracket that closes
shut : (p : ℕ) (s : Option ℕ) (left : List Symbol) (b : Bool) → read_made {T = Symbol} {K = Fault} {A = Option (ℕ × Option ℕ)} {B = CastTarget} decimal_target (read_made {T = Symbol} {K = Fault} {A = ℕ × Option ℕ} {B = Option (ℕ × Option ℕ)} Some (chosen {T = Symbol} {K = Fault} {A = ℕ × Option ℕ} b (found (p, s) (drop 1 left)) (failed None left))) ≡ chosen {T = Symbol} {K = Fault} {A = CastTarget} b (found (decimal_target (Some (p, s))) (drop 1 left)) (failed None left)
shut p s left true = refl
shut p s left false = refl

scaled : (p : ℕ) (o : Outcome Symbol Fault (Option ℕ)) → read_made {T = Symbol} {K = Fault} {A = Option (ℕ × Option ℕ)} {B = CastTarget} decimal_target (read_made {T = Symbol} {K = Fault} {A = ℕ × Option ℕ} {B = Option (ℕ × Option ℕ)} Some (and_then (read_made {B = ℕ × Option ℕ} (λ s. (p, s)) o) (λ d left. chosen (starts (of k.RightParenthesis) left) (found d (drop 1 left)) (failed None left)))) ≡ and_then o (λ s rest. chosen (starts (of k.RightParenthesis) rest) (found (decimal_target (Some (p, s))) (drop 1 rest)) (failed None rest))
scaled p (failed j left) = refl
scaled p (found s left) = shut p s left (starts (of k.RightParenthesis) left)

counted_digits : (o : Outcome Symbol Fault ℕ) → read_made {T = Symbol} {K = Fault} {A = Option (ℕ × Option ℕ)} {B = CastTarget} decimal_target (read_made {T = Symbol} {K = Fault} {A = ℕ × Option ℕ} {B = Option (ℕ × Option ℕ)} Some (and_then (and_then o (λ p rest. read_made {B = ℕ × Option ℕ} (λ s. (p, s)) (read_scale p rest))) (λ d left. chosen (starts (of k.RightParenthesis) left) (found d (drop 1 left)) (failed None left)))) ≡ and_then o (λ p more. and_then (read_scale p more) (λ s rest. chosen (starts (of k.RightParenthesis) rest) (found (decimal_target (Some (p, s))) (drop 1 rest)) (failed None rest)))
counted_digits (failed j left) = refl
counted_digits (found p rest) = scaled p (read_scale p rest)

opened : (o : Outcome Symbol Fault Symbol) → read_made {T = Symbol} {K = Fault} {A = Option (ℕ × Option ℕ)} {B = CastTarget} decimal_target (read_made {T = Symbol} {K = Fault} {A = ℕ × Option ℕ} {B = Option (ℕ × Option ℕ)} Some (and_then o (λ s left. and_then (read_decimal_digits left) (λ d rest. chosen (starts (of k.RightParenthesis) rest) (found d (drop 1 rest)) (failed None rest))))) ≡ and_then (read_made {B = Unit {0}} (λ s. tt) o) (λ u left. and_then (read_terminal (digits_within 1 38) left) (λ p more. and_then (read_scale p more) (λ s rest. chosen (starts (of k.RightParenthesis) rest) (found (decimal_target (Some (p, s))) (drop 1 rest)) (failed None rest))))
unfolding read_decimal_digits
opened (failed j left) = refl
opened (found s left) = counted_digits (read_terminal (digits_within 1 38) left)

module _ (room : Bool) (ts : List Symbol) where
  by_bracket : (b : Bool) → read_made {T = Symbol} {K = Fault} {A = Option (ℕ × Option ℕ)} {B = CastTarget} decimal_target (chosen {T = Symbol} {K = Fault} {A = Option (ℕ × Option ℕ)} b (read_made {B = Option (ℕ × Option ℕ)} Some (and_then (read_terminal (opening room k.LeftParenthesis) ts) (λ s left. and_then (read_decimal_digits left) (λ d rest. chosen (starts (of k.RightParenthesis) rest) (found d (drop 1 rest)) (failed None rest))))) (found None ts)) ≡ chosen b (and_then (read_open room ts) (λ u left. and_then (read_terminal (digits_within 1 38) left) (λ p more. and_then (read_scale p more) (λ s rest. chosen (starts (of k.RightParenthesis) rest) (found (decimal_target (Some (p, s))) (drop 1 rest)) (failed None rest))))) (found target.Decimal ts)
  unfolding read_open
  by_bracket true = opened (read_terminal (opening room k.LeftParenthesis) ts)
  by_bracket false = refl

  decimal_is : read_decimal room ts ≡ read_decimal_told room ts
  unfolding read_decimal read_decimal_told
  decimal_is = by_bracket (starts (of k.LeftParenthesis) ts)

faulty_is : (c : Class) → is_faulty (simple_type c) ≡ true → simple_type c ≡ faults unsupported_type
faulty_is k.Select h = cc
faulty_is _ h = cc

module _ (room : Bool) where
  simple_by : (v : Verdict Fault CastTarget) (s : Symbol) (ts : List Symbol) (other : Outcome Symbol Fault CastTarget) (t : CastTarget) → taken v ≡ Some t → chosen (is_seen v) (read_symbol v s ts) other ≡ found t ts
  simple_by (takes a) s ts other t h = let p : a ≡ t = cc in rw p refl
  simple_by (faults f) s ts other t h = cc
  simple_by refuses s ts other t h = cc

  pub type_simple : (ts left : List Symbol) (t : CastTarget) → taken (simple_type (first_class ts)) ≡ Some t → left ≡ drop 1 ts → read_type room ts ≡ found t left
  unfolding read_type
  type_simple [] left t h l = cc
  type_simple (s ∷ ts) left t h l = rw l (simple_by (simple_type (class s)) s ts (chosen (is_decimal (class s)) (read_decimal room ts) (failed None (s ∷ ts))) t h)

  pub type_faulty : (ts : List Symbol) → is_faulty (simple_type (first_class ts)) ≡ true → read_type room ts ≡ failed (Some unsupported_type) ts
  unfolding read_type
  type_faulty [] h = cc
  type_faulty (s ∷ ts) h = rw (faulty_is (class s) h) refl

  refused_by : (v : Verdict Fault CastTarget) (s : Symbol) (ts : List Symbol) (other : Outcome Symbol Fault CastTarget) → taken v ≡ None → is_faulty v ≡ false → chosen (is_seen v) (read_symbol v s ts) other ≡ other
  refused_by (takes a) s ts other h g = cc
  refused_by (faults f) s ts other h g = cc
  refused_by refuses s ts other h g = refl

  pub type_none : (ts : List Symbol) → taken (simple_type (first_class ts)) ≡ None → is_faulty (simple_type (first_class ts)) ≡ false → is_decimal (first_class ts) ≡ false → read_type room ts ≡ failed None ts
  unfolding read_type
  type_none [] h g f = refl
  type_none (s ∷ ts) h g f = rw f (refused_by (simple_type (class s)) s ts (failed None (s ∷ ts)) h g)

  pub type_decimal : (ts left : List Symbol) → taken (simple_type (first_class ts)) ≡ None → is_faulty (simple_type (first_class ts)) ≡ false → is_decimal (first_class ts) ≡ true → left ≡ drop 1 ts → read_type room ts ≡ read_decimal_told room left
  unfolding read_type
  type_decimal [] left h g f l = let p : false ≡ true = f in cc
  type_decimal (s ∷ ts) left h g f l = rw (l, f) (refused_by (simple_type (class s)) s ts (read_decimal room ts) h g ∙ decimal_is room ts)
