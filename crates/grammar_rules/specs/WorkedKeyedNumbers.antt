-- Numbers under keys, in any order and each key at most once, as an example of members:
--
--   entries = the entries of the keys 0 to 255, in any order, each at most once
--   entry k = the key k, and a number
use Rattle.std.specs.Prelude.{◌≡◌, ℕ, Bool, true, false, not, nat_eq, List, ◌∷◌, drop, Option, Some, None, Result, Ok, Err}
use Rattle.std.specs.List.{list_any}
use Rattle.grammar_rules.specs.declared.worked.keyed.Sign.{Sign}
use Rattle.grammar_rules.specs.declared.worked.keyed.Sign.TheVariants.{Key, Value}
use Rattle.grammar_rules.specs.declared.worked.keyed.KeyedError.{KeyedError}
use Rattle.grammar_rules.specs.declared.worked.keyed.KeyedError.TheVariants.{Refused, OutOfMemory}
use Rattle.grammar_rules.specs.Rules.{Rule, Verdict, takes, refuses, terminal, token, preceded_by, members}
use Rattle.grammar_rules.specs.Readers.{Outcome, failed, read_terminal, read_past, starts, is_free}
use Rattle.grammar_rules.specs.Places.{Answer, value, refusal}

-- the key
abbrev pub is_key : ℕ → Sign → Bool
is_key k (Key j) = nat_eq k j
is_key k (Value n) = false

-- the number; no fault has a name
abbrev pub number_of : Sign → Verdict ⊥ ℕ
number_of (Key j) = refuses
number_of (Value n) = takes n

abbrev pub entry : ℕ → Rule Sign ⊥ ℕ
entry k = preceded_by (token (is_key k)) (terminal number_of)

unfoldable pub entries : Rule Sign ⊥ (List (ℕ × ℕ))
entries = members nat_eq entry (λ k. true)

-- the entry that a symbol begins
abbrev pub key_of : Sign → Option ℕ
key_of (Key j) = Some j
key_of (Value n) = None

abbrev pub read_entry : ℕ → List Sign → Outcome Sign ⊥ ℕ
read_entry k = read_past (is_key k) (read_terminal number_of)

-- whether no entry of the key was read
abbrev pub is_new : List (ℕ × ℕ) → ℕ → Bool
is_new taken k = not (list_any (λ e. nat_eq e.0 k) taken)

-- the answer that a result is, but for want of memory
abbrev pub keyed_answer : Result (List (ℕ × ℕ)) KeyedError → Option (Answer ⊥ (List (ℕ × ℕ)))
keyed_answer (Ok es) = Some (value es)
keyed_answer (Err (Refused at)) = Some (refusal None at)
keyed_answer (Err OutOfMemory) = None

-- a new key stands at the front, or none does
abbrev pub HasNewKey : List Sign → List (ℕ × ℕ) → Option ℕ → Type 0
HasNewKey ts taken (Some k) = (is_new taken k ≡ true) × (ts ≡ Key k ∷ drop 1 ts)
HasNewKey ts taken None = starts (λ t. is_free (is_new taken) (key_of t)) ts ≡ false

-- a number at the front is passed, or none stands there and nothing is
abbrev pub TakesValue : List Sign → Option ℕ → List Sign → Type 0
TakesValue before (Some n) after = before ≡ Value n ∷ after
TakesValue before None after = (read_terminal number_of before ≡ failed None before) × (after ≡ before)
