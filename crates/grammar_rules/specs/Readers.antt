-- What a reader with one symbol of lookahead answers, and the readers that mirror the rules.
use Rattle.std.specs.Prelude.{ℕ, zero, suc, Bool, true, false, List, [], ◌∷◌, length, drop, ◌-◌, Option, Some, None}
use Rattle.grammar_rules.specs.Places.{Answer, value, refusal, named_first}
use Rattle.grammar_rules.specs.Rules.{Verdict, takes, faults, refuses, told, without}

-- a value and what is left after its text; or a failure at what is left: the first symbol there has
-- this fault, or at None it is refused or missing
pub data Outcome (T K A : Type 0) : Type 0 where
  found : A → List T → Outcome T K A
  failed : Option K → List T → Outcome T K A

-- the value is handed on with what is left
abbrev pub and_then : {T K A B : Type 0} → Outcome T K A → (A → List T → Outcome T K B) → Outcome T K B
and_then (found a left) next = next a left
and_then (failed e left) next = failed e left

-- the outcome for f of the value
abbrev pub read_made : {T K A B : Type 0} → (A → B) → Outcome T K A → Outcome T K B
read_made f (found a left) = found (f a) left
read_made f (failed e left) = failed e left

-- the outcome of a terminal at this symbol
abbrev pub read_symbol : {T K A : Type 0} → Verdict K A → T → List T → Outcome T K A
read_symbol (takes a) t ts = found a ts
read_symbol (faults k) t ts = failed (Some k) (t ∷ ts)
read_symbol refuses t ts = failed None (t ∷ ts)

-- the outcome of a terminal
abbrev pub read_terminal : {T K A : Type 0} → (T → Verdict K A) → List T → Outcome T K A
read_terminal look [] = failed None []
read_terminal look (t ∷ ts) = read_symbol (look t) t ts

-- whether the symbol isn't refused
abbrev pub is_seen : {K A : Type 0} → Verdict K A → Bool
is_seen (takes a) = true
is_seen (faults k) = true
is_seen refuses = false

-- whether a symbol is there and passes the test
abbrev pub starts : {T : Type 0} → (T → Bool) → List T → Bool
starts test [] = false
starts test (t ∷ ts) = test t

-- the first outcome at true, the second at false
abbrev pub chosen : {T K A : Type 0} → Bool → Outcome T K A → Outcome T K A → Outcome T K A
chosen true o q = o
chosen false o q = q

-- the outcome of a fault at a symbol that passes the test
abbrev pub read_fault : {T K A : Type 0} → K → (T → Bool) → List T → Outcome T K A
read_fault k test ts = chosen (starts test ts) (failed (Some k) ts) (failed None ts)

-- the outcome behind a symbol that passes the test
abbrev pub read_past : {T K A : Type 0} → (T → Bool) → (List T → Outcome T K A) → List T → Outcome T K A
read_past test next ts = chosen (starts test ts) (next (drop 1 ts)) (failed None ts)

-- the value, where a symbol that passes the test closes it
abbrev pub closed_by : {T K A : Type 0} → (T → Bool) → A → List T → Outcome T K A
closed_by test a ts = chosen (starts test ts) (found a (drop 1 ts)) (failed None ts)

-- the outcome before a symbol that passes the test
abbrev pub read_before : {T K A : Type 0} → (T → Bool) → (List T → Outcome T K A) → List T → Outcome T K A
read_before test read ts = and_then (read ts) (closed_by test)

-- the outcome of one after the other, for the pair of the values
abbrev pub read_pair : {T K A B : Type 0} → (List T → Outcome T K A) → (List T → Outcome T K B) → List T → Outcome T K (A × B)
read_pair read next ts = and_then (read ts) (λ a left. read_made (λ b. (a, b)) (next left))

-- the outcome of one after the other, for the list of the first one's value and the second one's
abbrev pub read_headed : {T K A : Type 0} → (List T → Outcome T K A) → (List T → Outcome T K (List A)) → List T → Outcome T K (List A)
read_headed read next ts = and_then (read ts) (λ a left. read_made (λ rest. a ∷ rest) (next left))

-- the outcome of an alternative of two, of which the first begins with a symbol that passes the test
abbrev pub read_either : {T K A : Type 0} → (T → Bool) → (List T → Outcome T K A) → (List T → Outcome T K A) → List T → Outcome T K A
read_either test read other ts = chosen (starts test ts) (read ts) (other ts)

-- the outcome of the alternative of the part and nothing
abbrev pub read_optional : {T K A : Type 0} → (T → Bool) → (List T → Outcome T K A) → List T → Outcome T K (Option A)
read_optional test read ts = chosen (starts test ts) (read_made Some (read ts)) (found None ts)

-- the outcome behind a terminal, whose value tells what follows
abbrev pub read_begun : {T K A B : Type 0} → (T → Verdict K A) → (A → List T → Outcome T K B) → List T → Outcome T K B
read_begun look next ts = and_then (read_terminal look ts) next

-- the outcome where there is room, else the fault of the first symbol
abbrev pub read_where_room : {T K A : Type 0} → Bool → (T → Option K) → (List T → Outcome T K A) → List T → Outcome T K A
read_where_room room over read ts = chosen room (read ts) (read_terminal (λ t. told (over t)) ts)

-- the second outcome, unless the first one found a value
abbrev pub unless_found : {T K A : Type 0} → Outcome T K A → Outcome T K A → Outcome T K A
unless_found (found a left) o = found a left
unless_found (failed e left) o = o

-- the outcome of an alternative of two, of which the second is tried ahead
abbrev pub read_ahead : {T K A : Type 0} → (List T → Outcome T K A) → (List T → Outcome T K A) → List T → Outcome T K A
read_ahead read ahead ts = unless_found (ahead ts) (read ts)

-- up to n times, while a symbol passes the test
abbrev pub read_bounded : {T K A : Type 0} → ℕ → (T → Bool) → (List T → Outcome T K A) → (List T → Outcome T K (List A)) → List T → Outcome T K (List A)
read_bounded zero test read end ts = end ts
read_bounded (suc n) test read end ts =
    chosen (starts test ts)
    (and_then (read ts) (λ a left. read_made (λ rest. a ∷ rest) (read_bounded n test read end left)))
    (found [] ts)

-- as often as a symbol passes the test
unfoldable pub read_many : {T K A : Type 0} → (T → Bool) → (List T → Outcome T K A) → List T → Outcome T K (List A)
read_many test read ts = read_bounded (suc (length ts)) test read (λ left. found [] left) ts

-- whether the symbol begins a member that is free
abbrev pub is_free : {I : Type 0} → (I → Bool) → Option I → Bool
is_free free None = false
is_free free (Some i) = free i

-- the outcome of the member that the symbol begins, where it is free
abbrev pub read_named : {T K A I : Type 0} → (I → List T → Outcome T K A) → (I → Bool) → Option I → List T → Outcome T K (I × A)
read_named read free None ts = failed None ts
read_named read free (Some i) ts = chosen (free i) (read_made (λ a. (i, a)) (read i ts)) (failed None ts)

-- the outcome of one of the free members
abbrev pub read_member : {T K A I : Type 0} → (T → Option I) → (I → List T → Outcome T K A) → (I → Bool) → List T → Outcome T K (I × A)
read_member which read free [] = failed None []
read_member which read free (t ∷ ts) = read_named read free (which t) (t ∷ ts)

-- up to n of the free members, while a symbol begins one
abbrev pub read_some_members : {T K A I : Type 0} → (I → I → Bool) → (T → Option I) → (I → List T → Outcome T K A) → ℕ → (I → Bool) → List T → Outcome T K (List (I × A))
read_some_members same which read zero free ts = found [] ts
read_some_members same which read (suc n) free ts =
    chosen (starts (λ t. is_free free (which t)) ts)
    (and_then (read_member which read free ts)
    (λ m left. read_made (λ rest. m ∷ rest) (read_some_members same which read n (without same m.0 free) left)))
    (found [] ts)

-- the free members in any order, each at most once, while a symbol begins one
unfoldable pub read_members : {T K A I : Type 0} → (I → I → Bool) → (T → Option I) → (I → List T → Outcome T K A) → (I → Bool) → List T → Outcome T K (List (I × A))
read_members same which read free ts = read_some_members same which read (suc (length ts)) free ts

-- the answer on a text of this many symbols: one more symbol behind the value's text is refused
abbrev pub answer : {T K A : Type 0} → ℕ → Outcome T K A → Answer K A
answer size (found a []) = value a
answer size (found a (t ∷ left)) = refusal None (size - length (t ∷ left))
answer size (failed e left) = refusal e (size - length left)

-- the same where a refusal at a symbol that has a name is told by that name
abbrev pub answer_named : {T K A : Type 0} → (T → Option K) → ℕ → Outcome T K A → Answer K A
answer_named name size (found a []) = value a
answer_named name size (found a (t ∷ left)) = refusal (name t) (size - length (t ∷ left))
answer_named name size (failed None left) = refusal (named_first name left) (size - length left)
answer_named name size (failed (Some k) left) = refusal (Some k) (size - length left)
