-- The steps of functions that pass a bracket.
use Rattle.std.proofs.Common.{◌≡◌, ℕ, zero, suc, ◌-◌, nat_lt, Bool, true, false, List, [], ◌∷◌, drop, Some, None, refl}
use Rattle.sql_tokens.specs.declared.class.Class.{Class}
use Rattle.sql_tokens.specs.declared.class.Class.TheVariants as k
use Rattle.sql_tokens.specs.Cutting.{Symbol}
use Rattle.grammar_rules.specs.Readers.{found, failed, starts}
use Rattle.sql_grammar.specs.Marks.{too_deep, too_many, of}
use Rattle.sql_leaves.specs.Parsing.{read_open, read_counted_open}
use Rattle.sql_leaves.proofs.CountedSteps.{some_left}

-- ---- a bracket

pub open_refused : (room : Bool) (ts : List Symbol) → starts (of k.LeftParenthesis) ts ≡ false → read_open room ts ≡ failed None ts
unfolding read_open
open_refused room [] h = refl
open_refused true (s ∷ ts) h = rw h refl
open_refused false (s ∷ ts) h = rw h refl

pub open_deep : (ts : List Symbol) → starts (of k.LeftParenthesis) ts ≡ true → read_open false ts ≡ failed (Some too_deep) ts
unfolding read_open
open_deep [] h = let p : false ≡ true = h in cc
open_deep (s ∷ ts) h = rw h refl

pub open_taken : (ts left : List Symbol) → starts (of k.LeftParenthesis) ts ≡ true → left ≡ drop 1 ts → read_open true ts ≡ found tt left
unfolding read_open
open_taken [] left h l = let p : false ≡ true = h in cc
open_taken (s ∷ ts) left h l = rw (l, h) refl

-- ---- a bracket or CASE that is counted

pub counted_open_refused : (room : Bool) (c : Class) (n : ℕ) (ts : List Symbol) → starts (of c) ts ≡ false → read_counted_open room c n ts ≡ failed None ts
unfolding read_counted_open
counted_open_refused room c n [] h = refl
counted_open_refused true c zero (s ∷ ts) h = rw h refl
counted_open_refused false c zero (s ∷ ts) h = rw h refl
counted_open_refused true c (suc n) (s ∷ ts) h = let z : nat_lt 0 (suc n) ≡ true = some_left (suc n) (λ q. cc) in rw (z, h) refl
counted_open_refused false c (suc n) (s ∷ ts) h = let z : nat_lt 0 (suc n) ≡ true = some_left (suc n) (λ q. cc) in rw (z, h) refl

pub counted_open_deep : (c : Class) (n : ℕ) (ts : List Symbol) → starts (of c) ts ≡ true → read_counted_open false c n ts ≡ failed (Some too_deep) ts
unfolding read_counted_open
counted_open_deep c n [] h = let p : false ≡ true = h in cc
counted_open_deep c zero (s ∷ ts) h = rw h refl
counted_open_deep c (suc n) (s ∷ ts) h = let z : nat_lt 0 (suc n) ≡ true = some_left (suc n) (λ q. cc) in rw (z, h) refl

pub counted_open_over : (c : Class) (n : ℕ) (ts : List Symbol) → starts (of c) ts ≡ true → n ≡ 0 → read_counted_open true c n ts ≡ failed (Some too_many) ts
unfolding read_counted_open
counted_open_over c n [] h z = let p : false ≡ true = h in cc
counted_open_over c n (s ∷ ts) h z = rw (z, h) refl

pub counted_open_taken : (c : Class) (n : ℕ) (ts left : List Symbol) → starts (of c) ts ≡ true → (n ≡ 0 → ⊥) → left ≡ drop 1 ts → read_counted_open true c n ts ≡ found (tt, n - 1) left
unfolding read_counted_open
counted_open_taken c n [] left h z l = let p : false ≡ true = h in cc
counted_open_taken c n (s ∷ ts) left h z l = rw (l, some_left n z, h) refl
