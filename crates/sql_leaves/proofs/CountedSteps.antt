-- The steps of functions that pass a token which is counted.
use Rattle.std.proofs.Common.{◌≡◌, ℕ, zero, suc, ◌-◌, nat_lt, Bool, true, false, List, [], ◌∷◌, drop, Some, None, refl, sym, ◌∙◌, if◌then◌else◌, arith}
use Rattle.std.proofs.lemmas.Bool.Decides.{nat_tests}
use Rattle.sql_tokens.specs.declared.class.Class.{Class}
use Rattle.sql_tokens.specs.declared.class.Class.TheVariants as k
use Rattle.sql_tokens.specs.Cutting.{Symbol, first_class}
use Rattle.grammar_rules.specs.Rules.{limited, takes, refuses}
use Rattle.grammar_rules.specs.Readers.{found, failed, starts, read_made, read_symbol}
use Rattle.grammar_rules.specs.CountedReaders.{read_one_more}
use Rattle.sql_tokens.specs.Classes.{same_class}
use Rattle.sql_grammar.specs.declared.tree.Expr.{Expr}
use Rattle.sql_grammar.specs.declared.tree.Expr.TheVariants as e
use Rattle.sql_grammar.specs.Marks.{begins_expression, too_many, class, of, text_in, is_number, number_in}
use Rattle.sql_leaves.specs.Parsing.{read_counted_token, text_at, number_at}
use Rattle.grammar_rules.proofs.Counts.{one_more_refused}
use Rattle.sql_grammar.specs.Readers.{begins, read_literal}
use Rattle.sql_grammar.proofs.Combining.{seen_if}

-- a test of the first token's class
pub first_begins : (test : Class → Bool) → test k.NoToken ≡ false → (ts : List Symbol) → test (first_class ts) ≡ starts (begins test) ts
first_begins test e [] = e
first_begins test e (s ∷ ts) = refl

pub deep_first : (ts : List Symbol) → begins_expression (first_class ts) ≡ starts (begins begins_expression) ts
deep_first ts = first_begins begins_expression refl ts

pub some_left : (n : ℕ) → (n ≡ 0 → ⊥) → nat_lt 0 n ≡ true
some_left zero z = absurd (z refl)
some_left (suc n) z = grind (arith, nat_tests)

module _ {A : Type 0} (test : Class → Bool) (spelled : Symbol → A) (n : ℕ) where
  pub counted_refused : (ts : List Symbol) → starts (begins test) ts ≡ false → read_one_more too_many (λ s. if test (class s) then takes (spelled s) else refuses) n ts ≡ failed None ts
  counted_refused [] h = refl
  counted_refused (s ∷ ts) h =
      one_more_refused too_many (λ s. if test (class s) then takes (spelled s) else refuses) n (begins test) (λ s. seen_if (test (class s)) (takes (spelled s)) refl) (s ∷ ts) h

  pub counted_over : (ts : List Symbol) → starts (begins test) ts ≡ true → n ≡ 0 → read_one_more too_many (λ s. if test (class s) then takes (spelled s) else refuses) n ts ≡ failed (Some too_many) ts
  counted_over [] h z = let p : false ≡ true = h in cc
  counted_over (s ∷ ts) h z = rw (z, h) refl

  pub counted_taken : (ts : List Symbol) (a : A) → starts (begins test) ts ≡ true → (n ≡ 0 → ⊥) → ((s : Symbol) (r : List Symbol) → ts ≡ s ∷ r → spelled s ≡ a) → read_one_more too_many (λ s. if test (class s) then takes (spelled s) else refuses) n ts ≡ found (a, n - 1) (drop 1 ts)
  counted_taken [] a h z e = let p : false ≡ true = h in cc
  counted_taken (s ∷ ts) a h z e = rw (some_left n z, h, e s ts refl) refl

-- ---- a token without what it spells

module _ (c : Class) (n : ℕ) (ts : List Symbol) where
  pub token_refused : starts (of c) ts ≡ false → read_counted_token c n ts ≡ failed None ts
  token_refused h = rw (counted_refused (same_class c) (λ s. s) n ts h) refl

  pub token_over : starts (of c) ts ≡ true → n ≡ 0 → read_counted_token c n ts ≡ failed (Some too_many) ts
  token_over h z = rw (counted_over (same_class c) (λ s. s) n ts h z) refl

  pub token_taken : starts (of c) ts ≡ true → (n ≡ 0 → ⊥) → (left : List Symbol) → left ≡ drop 1 ts → read_counted_token c n ts ≡ found (tt, n - 1) left
  token_taken h z left l = taken_from ts h l
    where
      taken_from : (us : List Symbol) → starts (of c) us ≡ true → left ≡ drop 1 us → read_counted_token c n us ≡ found (tt, n - 1) left
      taken_from [] h l = let p : false ≡ true = h in cc
      taken_from (s ∷ us) h l = rw (l, some_left n z, h) refl

-- ---- texts and numbers

module _ (n : ℕ) (ts : List Symbol) where
  pub text_refused : starts (of k.Text) ts ≡ false → read_literal (same_class k.Text) (λ s. e.Text (text_in s.token)) n ts ≡ failed None ts
  text_refused h = counted_refused (same_class k.Text) (λ s. e.Text (text_in s.token)) n ts h

  pub text_over : starts (of k.Text) ts ≡ true → n ≡ 0 → read_literal (same_class k.Text) (λ s. e.Text (text_in s.token)) n ts ≡ failed (Some too_many) ts
  text_over h z = counted_over (same_class k.Text) (λ s. e.Text (text_in s.token)) n ts h z

  pub text_taken : starts (of k.Text) ts ≡ true → (n ≡ 0 → ⊥) → (left : List Symbol) → left ≡ drop 1 ts → read_literal (same_class k.Text) (λ s. e.Text (text_in s.token)) n ts ≡ found (e.Text (text_at ts), n - 1) left
  text_taken h z left l = rw l (counted_taken (same_class k.Text) (λ s. e.Text (text_in s.token)) n ts (e.Text (text_at ts)) h z (λ s r q. rw q refl))

module _ (n : ℕ) (ts : List Symbol) where
  pub number_refused : is_number (first_class ts) ≡ false → read_literal is_number (λ s. e.Number (number_in s.token)) n ts ≡ failed None ts
  number_refused h = counted_refused is_number (λ s. e.Number (number_in s.token)) n ts (sym (first_begins is_number refl ts) ∙ h)

  pub number_over : is_number (first_class ts) ≡ true → n ≡ 0 → read_literal is_number (λ s. e.Number (number_in s.token)) n ts ≡ failed (Some too_many) ts
  number_over h z = counted_over is_number (λ s. e.Number (number_in s.token)) n ts (sym (first_begins is_number refl ts) ∙ h) z

  pub number_taken : is_number (first_class ts) ≡ true → (n ≡ 0 → ⊥) → (left : List Symbol) → left ≡ drop 1 ts → read_literal is_number (λ s. e.Number (number_in s.token)) n ts ≡ found (e.Number (number_at ts), n - 1) left
  number_taken h z left l = rw l (counted_taken is_number (λ s. e.Number (number_in s.token)) n ts (e.Number (number_at ts)) (sym (first_begins is_number refl ts) ∙ h) z (λ s r q. rw q refl))

-- ---- words

-- a word that is an expression is a token that is counted
pub constant_is : (c : Class) (v : Expr) (n : ℕ) (ts : List Symbol) → read_literal (same_class c) (λ s. v) n ts ≡ read_made (λ p. (v, p.1)) (read_counted_token c n ts)
constant_is c v n [] = refl
constant_is c v n (s ∷ ts) = by_tests (same_class c (class s)) (nat_lt 0 n)
  where
    by_tests : (b room : Bool) → read_made {B = Expr × ℕ} (λ a. (a, n - 1)) (read_symbol (limited too_many room (if b then takes v else refuses)) s ts) ≡ read_made {B = Expr × ℕ} (λ p. (v, p.1)) (read_made {B = Unit {0} × ℕ} (λ p. (tt, p.1)) (read_made {B = Symbol × ℕ} (λ a. (a, n - 1)) (read_symbol (limited too_many room (if b then takes s else refuses)) s ts)))
    by_tests true true = refl
    by_tests true false = refl
    by_tests false true = refl
    by_tests false false = refl
