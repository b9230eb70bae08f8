-- The loops over the members of lists, as equations of their readers: a list, and a list with a limit.
use Rattle.std.proofs.Common.{◌≡◌, ℕ, Bool, true, false, List, [], ◌∷◌, ◌++◌, Option, ap}
use Rattle.sql_tokens.specs.Cutting.{Symbol}
use Rattle.grammar_rules.specs.Readers.{Outcome, found, failed, starts, read_made}
use Rattle.grammar_rules.specs.CountedReaders.{CountedReader, read_chain, read_links}
use Rattle.grammar_rules.proofs.CountedMany.{CountedShrinks, chain_fail, list_begin, links_step, links_stop, links_fail}
use Rattle.sql_grammar.specs.Marks.{Fault}

-- ---- lists

-- the list, where these members of it have been read
pub list_left : {S A : Type 0} → (Symbol → Bool) → CountedReader S Symbol Fault A → List A → S → List Symbol → Outcome Symbol Fault (List A × S)
list_left test part so_far n ts = read_links (λ all. all) test part so_far n ts

module _ {S A : Type 0} (test : Symbol → Bool) (first part : CountedReader S Symbol Fault A) where
  pub listed_begin : (n : S) (ts : List Symbol) (a : A) (m : S) (left : List Symbol) → first n ts ≡ found (a, m) left → read_chain (λ b rest. b ∷ rest) test first part n ts ≡ list_left test part (a ∷ []) m left
  unfolding list_left
  listed_begin n ts a m left h = list_begin test first part n ts a m left h

  pub listed_none : (n : S) (ts : List Symbol) (j : Option Fault) (left : List Symbol) → first n ts ≡ failed j left → read_chain (λ b rest. b ∷ rest) test first part n ts ≡ failed j left
  listed_none n ts j left h = chain_fail (λ b rest. b ∷ rest) test first part n ts j left h

module _ {S A : Type 0} (test : Symbol → Bool) (part : CountedReader S Symbol Fault A) (less : CountedShrinks part) (so_far : List A) (n : S) (ts : List Symbol) where
  pub listed_on : (b : A) (m : S) (left : List Symbol) → starts test ts ≡ true → part n ts ≡ found (b, m) left → list_left test part so_far n ts ≡ list_left test part (so_far ++ b ∷ []) m left
  unfolding list_left
  listed_on b m left e h = links_step (λ all. all) test part less so_far n ts b m left e h

  pub listed_stop : starts test ts ≡ false → list_left test part so_far n ts ≡ found (so_far, n) ts
  unfolding list_left
  listed_stop e = links_stop (λ all. all) test part less so_far n ts e

  pub listed_fail : (j : Option Fault) (left : List Symbol) → starts test ts ≡ true → part n ts ≡ failed j left → list_left test part so_far n ts ≡ failed j left
  unfolding list_left
  listed_fail j left e h = links_fail (λ all. all) test part less so_far n ts j left e h

-- ---- lists with a limit, whose count of members is dropped at the end

-- an outcome without the count of members
abbrev pub unlimited : {A : Type 0} → Outcome Symbol Fault (A × (ℕ × ℕ)) → Outcome Symbol Fault (A × ℕ)
unlimited o = read_made (λ p. (p.0, p.1.1)) o

pub limited_left : {A : Type 0} → (Symbol → Bool) → CountedReader (ℕ × ℕ) Symbol Fault A → List A → ℕ → ℕ → List Symbol → Outcome Symbol Fault (List A × ℕ)
limited_left test part so_far left n ts = unlimited (list_left test part so_far (left, n) ts)

module _ {A : Type 0} (test : Symbol → Bool) (first part : CountedReader (ℕ × ℕ) Symbol Fault A) (limit n : ℕ) (ts : List Symbol) where
  pub limited_begin : (a : A) (left m : ℕ) (rest : List Symbol) → first (limit, n) ts ≡ found (a, (left, m)) rest → unlimited (read_chain (λ b more. b ∷ more) test first part (limit, n) ts) ≡ limited_left test part (a ∷ []) left m rest
  unfolding limited_left
  limited_begin a left m rest h = ap unlimited (listed_begin test first part (limit, n) ts a (left, m) rest h)

  pub limited_none : (j : Option Fault) (rest : List Symbol) → first (limit, n) ts ≡ failed j rest → unlimited (read_chain (λ b more. b ∷ more) test first part (limit, n) ts) ≡ failed j rest
  limited_none j rest h = ap unlimited (listed_none test first part (limit, n) ts j rest h)

module _ {A : Type 0} (test : Symbol → Bool) (part : CountedReader (ℕ × ℕ) Symbol Fault A) (less : CountedShrinks part) (so_far : List A) (left n : ℕ) (ts : List Symbol) where
  pub limited_on : (b : A) (k m : ℕ) (rest : List Symbol) → starts test ts ≡ true → part (left, n) ts ≡ found (b, (k, m)) rest → limited_left test part so_far left n ts ≡ limited_left test part (so_far ++ b ∷ []) k m rest
  unfolding limited_left
  limited_on b k m rest e h = ap unlimited (listed_on test part less so_far (left, n) ts b (k, m) rest e h)

  pub limited_stop : starts test ts ≡ false → limited_left test part so_far left n ts ≡ found (so_far, n) ts
  unfolding limited_left
  limited_stop e = ap unlimited (listed_stop test part less so_far (left, n) ts e)

  pub limited_fail : (j : Option Fault) (rest : List Symbol) → starts test ts ≡ true → part (left, n) ts ≡ failed j rest → limited_left test part so_far left n ts ≡ failed j rest
  unfolding limited_left
  limited_fail j rest e h = ap unlimited (listed_fail test part less so_far (left, n) ts j rest e h)
