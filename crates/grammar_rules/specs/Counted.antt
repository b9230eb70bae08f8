-- Rules with a count beside their values: how many more of something may still come. Brackets leave no node in a tree, so a
-- value alone doesn't tell it.
use Rattle.std.specs.Prelude.{ℕ, zero, suc, ◌-◌, nat_lt, Bool, List, [], ◌∷◌, Option, Some, None}
use Rattle.grammar_rules.specs.Rules.{Rule, Verdict, limited, terminal, token, nothing, made, sequence, preceded_by, followed_by, where_room, either, alternatives}

-- a rule for each count before its texts, for their values and the count behind them. S is what is counted: a number, or several
abbrev pub Counted : Type 0 → Type 0 → Type 0 → Type 0 → Type 1
Counted S T K A = S → Rule T K (A × S)

-- a rule that counts nothing
abbrev pub plain : {S T K A : Type 0} → Rule T K A → Counted S T K A
plain G n = made (λ a. (a, n)) G

-- a terminal that counts one of the n that may still come; where none may, the symbol has this fault
abbrev pub one_more : {T K A : Type 0} → K → (T → Verdict K A) → Counted ℕ T K A
one_more k look n = made (λ a. (a, n - 1)) (terminal (λ t. limited k (nat_lt 0 n) (look t)))

-- the texts of G, each for the value that f makes of G's
abbrev pub given : {S T K A B : Type 0} → (A → B) → Counted S T K A → Counted S T K B
given f G n = made (λ p. (f p.0, p.1)) (G n)

-- one after the other, for the pair of the values
abbrev pub both : {S T K A B : Type 0} → Counted S T K A → Counted S T K B → Counted S T K (A × B)
both G H n = sequence (G n) (λ p. made (λ q. ((p.0, q.0), q.1)) (H p.1))

-- one after the other, for the value of the second one, which the first one's value tells
abbrev pub after : {S T K A B : Type 0} → Counted S T K A → (A → Counted S T K B) → Counted S T K B
after G H n = sequence (G n) (λ p. H p.0 p.1)

-- behind a symbol that passes the test
abbrev pub past : {S T K A : Type 0} → (T → Bool) → Counted S T K A → Counted S T K A
past test G n = preceded_by (token test) (G n)

-- before a symbol that passes the test
abbrev pub before : {S T K A : Type 0} → Counted S T K A → (T → Bool) → Counted S T K A
before G test n = followed_by (G n) (token test)

-- the alternative of the part and nothing
abbrev pub maybe : {S T K A : Type 0} → Counted S T K A → Counted S T K (Option A)
maybe G n = either (given Some G n) (nothing (None, n))

-- a value before those of a list
abbrev pub joined_to : {S A : Type 0} → A → List A × S → List A × S
joined_to a q = (a ∷ q.0, q.1)

-- up to k times
abbrev pub bounded_from : {S T K A : Type 0} → ℕ → Counted S T K A → Counted S T K (List A)
bounded_from zero G n = nothing ([], n)
bounded_from (suc k) G n = either (sequence (G n) (λ p. made (joined_to p.0) (bounded_from k G p.1))) (nothing ([], n))

-- a repetition: any number of times
abbrev pub many_from : {S T K A : Type 0} → Counted S T K A → Counted S T K (List A)
many_from G n = alternatives (λ k. bounded_from k G n)

-- one, and then as often as they come another: what `node` makes of its value and theirs
abbrev pub chain : {S T K A B C : Type 0} → (A → List B → C) → Counted S T K A → Counted S T K B → Counted S T K C
chain node first part n = given (λ p. node p.0 p.1) (both first (many_from part)) n

-- one of the items of a list, of which so many may still come; where none may, the symbol that would begin it has the fault that
-- `over` tells
abbrev pub item : {S T K A : Type 0} → (T → Option K) → Counted S T K A → Counted (ℕ × S) T K A
item over G c = where_room (nat_lt 0 c.0) over (made (λ p. (p.0, (c.0 - 1, p.1))) (G c.1))

-- items with separators between them, at most so many
abbrev pub list_of : {S T K A : Type 0} → ℕ → (T → Option K) → (T → Bool) → Counted S T K A → Counted S T K (List A)
list_of limit over separates G n = made (λ p. (p.0, p.1.1)) (chain (λ a rest. a ∷ rest) (item over G) (past separates (item over G)) (limit, n))
