-- Items of a list with a limit, as the parser reads them.
use Rattle.std.proofs.Common.{◌≡◌, ℕ, ◌-◌, List, [], ◌∷◌, Some, None, Option, refl}
use Rattle.sql_tokens.specs.declared.class.Class.{Class}
use Rattle.sql_tokens.specs.declared.class.Class.TheVariants as k
use Rattle.sql_tokens.specs.Cutting.{Symbol, first_class}
use Rattle.grammar_rules.specs.Rules.{told}
use Rattle.grammar_rules.specs.Readers.{found, failed, read_symbol, read_terminal}
use Rattle.grammar_rules.specs.CountedReaders.{read_item}
use Rattle.sql_grammar.specs.Marks.{Fault, class}
use Rattle.sql_grammar.specs.Readers.{Reader}
use Rattle.sql_leaves.proofs.CountedSteps.{some_left}

-- a token with a fault of its own
pub over_first : {A : Type 0} (over : Class → Option Fault) → over k.NoToken ≡ None → (ts : List Symbol) (j : Option Fault) → j ≡ over (first_class ts) → read_terminal {A = A} (λ s. told (over (class s))) ts ≡ failed j ts
over_first over none [] j h = rw (h, none) refl
over_first over none (s ∷ ts) j h = by_fault (over (class s)) j h
  where
    by_fault : {A : Type 0} (o j : Option Fault) → j ≡ o → read_symbol {A = A} (told o) s ts ≡ failed j (s ∷ ts)
    by_fault None j h = rw h refl
    by_fault (Some f) j h = rw h refl

-- ---- an item where there may be no more

module _ {A : Type 0} (over : Class → Option Fault) (none : over k.NoToken ≡ None) (read : Reader A) (n : ℕ) (ts : List Symbol) where
  pub item_over : (c : ℕ) → c ≡ 0 → (j : Option Fault) → j ≡ over (first_class ts) → read_item (λ s. over (class s)) read (c, n) ts ≡ failed j ts
  item_over c z j h = rw z (over_first over none ts j h)

  pub item_failed : (c : ℕ) → (c ≡ 0 → ⊥) → (j : Option Fault) (left : List Symbol) → read n ts ≡ failed j left → read_item (λ s. over (class s)) read (c, n) ts ≡ failed j left
  item_failed c z j left h = rw (some_left c z, h) refl

  pub item_found : (c : ℕ) → (c ≡ 0 → ⊥) → (a : A) (m : ℕ) (left : List Symbol) → read n ts ≡ found (a, m) left → read_item (λ s. over (class s)) read (c, n) ts ≡ found (a, (c - 1, m)) left
  item_found c z a m left h = rw (some_left c z, h) refl
