-- The members of the keyed numbers are read, and the steps of the loop that reads them.
use Rattle.std.proofs.Common.{◌≡◌, ◌<◌, ℕ, ◌&&◌, ◌||◌, ◌-◌, not, Bool, true, false, nat_eq, List, [], ◌∷◌, ◌++◌, length, Option, Some, None, IfSome, refl, sym, ap, ◌∙◌, subst, eq-eqb, eqb-true, arith}
use mathlib.Core.Path.{fun_ext}
use Rattle.std.proofs.lemmas.List.Folds.{list_any-append}
use Rattle.std.specs.List.{list_any}
use Rattle.grammar_rules.specs.declared.worked.keyed.Sign.{Sign}
use Rattle.grammar_rules.specs.declared.worked.keyed.Sign.TheVariants.{Key, Value}
use Rattle.grammar_rules.specs.Rules.{terminal, without}
use Rattle.grammar_rules.specs.Readers.{Outcome, found, failed, read_made, read_terminal, starts, is_free, read_member, read_members, answer}
use Rattle.grammar_rules.specs.Places.{Answer, value, refusal, Answers}
use Rattle.grammar_rules.specs.WorkedKeyedNumbers.{is_key, number_of, entry, entries, key_of, read_entry, is_new}
use Rattle.grammar_rules.proofs.Clear.{Sight}
use Rattle.grammar_rules.proofs.Terminals.{terminal_sight}
use Rattle.grammar_rules.proofs.Reading.{Reads, past_sight, reads-past, reads-terminal}
use Rattle.grammar_rules.proofs.Members.{Named, members_sight}
use Rattle.grammar_rules.proofs.AnyOrder.{reads-members, less_member, members_step, members_stop, members_fail}
use Rattle.grammar_rules.proofs.Answering.{answers}
use Rattle.grammar_rules.proofs.OneAnswer.{one_answer}

abbrev pub each_sight : ℕ → Sight Sign
each_sight k = past_sight (is_key k) (terminal_sight number_of)

abbrev pub no_tail : Sign → Bool
no_tail t = false

begins_key : (k : ℕ) (t : Sign) → is_key k t ≡ true → key_of t ≡ Some k
begins_key k (Key j) e = ap Some (sym (eqb-true k j e))
begins_key k (Value n) e = cc

tells_key : (k : ℕ) (t : Sign) → key_of t ≡ Some k → is_key k t ≡ true
tells_key k (Key j) e = let p : k ≡ j = cc in eq-eqb k j p
tells_key k (Value n) e = cc

pub named_keys : Named each_sight key_of no_tail
named_keys = record {
  begins = begins_key;
  tells = tells_key;
  wants = λ k. refl;
  more = λ k t e. e;
  apart = λ t. refl;
}

reads-entry : (k : ℕ) → Reads (entry k) (each_sight k) (read_entry k)
reads-entry k = reads-past (is_key k) (terminal number_of) (terminal_sight number_of) (read_terminal number_of) (reads-terminal number_of)

-- the entries that are left, where these keys are free
abbrev pub read_free : (ℕ → Bool) → List Sign → Outcome Sign ⊥ (List (ℕ × ℕ))
read_free free = read_members nat_eq key_of read_entry free

pub reads-entries : Reads entries (members_sight key_of no_tail (λ k. true)) (read_free (λ k. true))
unfolding entries
reads-entries = reads-members nat_eq entry each_sight key_of no_tail named_keys read_entry reads-entry (λ k. true)

less : (free : ℕ → Bool) → (ts : List Sign) (a : ℕ × ℕ) (left : List Sign) → read_member key_of read_entry free ts ≡ found a left → length left < length ts
less = less_member nat_eq entry each_sight key_of no_tail named_keys read_entry reads-entry

-- more entries, behind those that were read
pub entries_left : List (ℕ × ℕ) → List Sign → Outcome Sign ⊥ (List (ℕ × ℕ))
entries_left so_far ts = read_made (λ rest. so_far ++ rest) (read_free (is_new so_far) ts)

-- once more, a key isn't new
not_or : (a b : Bool) → (not a && not b) ≡ not (a || b)
not_or true b = refl
not_or false b = refl

or_last : (b : Bool) → (b || false) ≡ b
or_last true = refl
or_last false = refl

new_more : (so_far : List (ℕ × ℕ)) (e : ℕ × ℕ) (k : ℕ) → (is_new so_far k && not (nat_eq e.0 k)) ≡ is_new (so_far ++ e ∷ []) k
new_more so_far e k =
    let p : list_any (λ m. nat_eq m.0 k) (so_far ++ e ∷ []) ≡ (list_any (λ m. nat_eq m.0 k) so_far || (nat_eq e.0 k || false)) = list_any-append (λ m. nat_eq m.0 k) so_far (e ∷ []) in
    not_or (list_any (λ m. nat_eq m.0 k) so_far) (nat_eq e.0 k) ∙ ap not (ap (λ b. list_any (λ m. nat_eq m.0 k) so_far || b) (sym (or_last (nat_eq e.0 k))) ∙ sym p)

free_more : (so_far : List (ℕ × ℕ)) (e : ℕ × ℕ) → without nat_eq e.0 (is_new so_far) ≡ is_new (so_far ++ e ∷ [])
free_more so_far e = fun_ext (new_more so_far e)

begins_with : (so_far : List (ℕ × ℕ)) (k : ℕ) (ts rest : List Sign) → is_new so_far k ≡ true → ts ≡ Key k ∷ rest → starts (λ t. is_free (is_new so_far) (key_of t)) ts ≡ true
begins_with so_far k ts rest f e = rw e f

read_begins : (so_far : List (ℕ × ℕ)) (k : ℕ) (ts rest : List Sign) → is_new so_far k ≡ true → ts ≡ Key k ∷ rest → read_member key_of read_entry (is_new so_far) ts ≡ read_made (λ n. (k, n)) (read_terminal number_of rest)
read_begins so_far k ts rest f e = rw (e, f, eq-eqb k k refl)

-- the steps of the loop: one more entry, the end, and a missing number
pub entries_step : (so_far : List (ℕ × ℕ)) (k n : ℕ) (ts rest left : List Sign) → is_new so_far k ≡ true → ts ≡ Key k ∷ rest → rest ≡ Value n ∷ left → entries_left so_far ts ≡ entries_left (so_far ++ (k, n) ∷ []) left
unfolding entries_left
entries_step so_far k n ts rest left f e q =
    members_step nat_eq key_of read_entry less (is_new so_far) so_far ts (k, n) left (begins_with so_far k ts rest f e) (read_begins so_far k ts rest f e ∙ rw q)
    ∙ ap (λ free. read_made (λ more. (so_far ++ (k, n) ∷ []) ++ more) (read_free free left)) (free_more so_far (k, n))

pub entries_stop : (so_far : List (ℕ × ℕ)) (ts : List Sign) → starts (λ t. is_free (is_new so_far) (key_of t)) ts ≡ false → entries_left so_far ts ≡ found so_far ts
unfolding entries_left
entries_stop so_far ts e = members_stop nat_eq key_of read_entry less (is_new so_far) so_far ts e

pub entries_fail : (so_far : List (ℕ × ℕ)) (k : ℕ) (ts rest : List Sign) → is_new so_far k ≡ true → ts ≡ Key k ∷ rest → read_terminal number_of rest ≡ failed None rest → entries_left so_far ts ≡ failed None rest
unfolding entries_left
entries_fail so_far k ts rest f e q =
    members_fail nat_eq key_of read_entry less (is_new so_far) so_far ts None rest (begins_with so_far k ts rest f e) (read_begins so_far k ts rest f e ∙ rw q)

whole_left : (o : Outcome Sign ⊥ (List (ℕ × ℕ))) → o ≡ read_made (λ rest. [] ++ rest) o
whole_left (found es left) = refl
whole_left (failed e left) = refl

pub entries_begin : (ts : List Sign) → read_free (λ k. true) ts ≡ entries_left [] ts
unfolding entries_left
entries_begin ts = whole_left (read_free (λ k. true) ts)

module _ (ts : List Sign) where
  said : Answers entries ts (answer (length ts) (read_free (λ k. true) ts))
  said = answers entries reads-entries.clear.fronts ts (read_free (λ k. true) ts) (reads-entries.right ts)

  said_of : (o : Outcome Sign ⊥ (List (ℕ × ℕ))) → read_free (λ k. true) ts ≡ o → Answers entries ts (answer (length ts) o)
  said_of o e = subst (λ q. Answers entries ts (answer (length ts) q)) e said

  pub keyed_end : (es : List (ℕ × ℕ)) (left : List Sign) → read_free (λ k. true) ts ≡ found es left → length left ≡ 0 → Answers entries ts (value es)
  keyed_end es [] e l = said_of (found es []) e
  keyed_end es (t ∷ left) e l = absurd (omega arith)

  pub keyed_before_end : (es : List (ℕ × ℕ)) (left : List Sign) → read_free (λ k. true) ts ≡ found es left → (length left ≡ 0 → ⊥) → Answers entries ts (refusal None (length ts - length left))
  keyed_before_end es [] e l = absurd (l refl)
  keyed_before_end es (t ∷ left) e l = said_of (found es (t ∷ left)) e

  pub keyed_failure : (left : List Sign) → read_free (λ k. true) ts ≡ failed None left → Answers entries ts (refusal None (length ts - length left))
  keyed_failure left e = said_of (failed None left) e

  pub keyed_only : (o : Option (Answer ⊥ (List (ℕ × ℕ)))) → IfSome o (λ y. Answers entries ts y) → (x : Answer ⊥ (List (ℕ × ℕ))) → Answers entries ts x → IfSome o (λ y. y ≡ x)
  keyed_only None v x w = tt
  keyed_only (Some y) v x w = one_answer entries (members_sight key_of no_tail (λ k. true)) reads-entries.clear ts y x v w
