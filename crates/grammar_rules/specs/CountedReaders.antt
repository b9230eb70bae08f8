-- The readers of rules with a count, which mirror the rules.
use Rattle.std.specs.Prelude.{ℕ, zero, suc, ◌-◌, nat_lt, Bool, List, [], ◌∷◌, ◌++◌, length, Option, Some, None}
use Rattle.grammar_rules.specs.Rules.{Verdict, limited}
use Rattle.grammar_rules.specs.Readers.{Outcome, found, and_then, read_made, read_terminal, starts, chosen, read_past, read_before, read_where_room}
use Rattle.grammar_rules.specs.Counted.{joined_to}

-- a reader from each count, of a value and the count behind it
abbrev pub CountedReader : Type 0 → Type 0 → Type 0 → Type 0 → Type 0
CountedReader S T K A = S → List T → Outcome T K (A × S)

abbrev pub read_plain : {S T K A : Type 0} → (List T → Outcome T K A) → CountedReader S T K A
read_plain read n ts = read_made (λ a. (a, n)) (read ts)

abbrev pub read_one_more : {T K A : Type 0} → K → (T → Verdict K A) → CountedReader ℕ T K A
read_one_more k look n ts = read_made (λ a. (a, n - 1)) (read_terminal (λ t. limited k (nat_lt 0 n) (look t)) ts)

abbrev pub read_given : {S T K A B : Type 0} → (A → B) → CountedReader S T K A → CountedReader S T K B
read_given f read n ts = read_made (λ p. (f p.0, p.1)) (read n ts)

abbrev pub read_both : {S T K A B : Type 0} → CountedReader S T K A → CountedReader S T K B → CountedReader S T K (A × B)
read_both read next n ts = and_then (read n ts) (λ p left. read_made (λ q. ((p.0, q.0), q.1)) (next p.1 left))

abbrev pub read_after : {S T K A B : Type 0} → CountedReader S T K A → (A → CountedReader S T K B) → CountedReader S T K B
read_after read next n ts = and_then (read n ts) (λ p left. next p.0 p.1 left)

abbrev pub read_counted_past : {S T K A : Type 0} → (T → Bool) → CountedReader S T K A → CountedReader S T K A
read_counted_past test read n ts = read_past test (read n) ts

abbrev pub read_counted_before : {S T K A : Type 0} → CountedReader S T K A → (T → Bool) → CountedReader S T K A
read_counted_before read test n ts = read_before test (read n) ts

abbrev pub read_maybe : {S T K A : Type 0} → (T → Bool) → CountedReader S T K A → CountedReader S T K (Option A)
read_maybe test read n ts = chosen (starts test ts) (read_given Some read n ts) (found (None, n) ts)

-- up to k times, while a symbol passes the test
abbrev pub read_bounded_from : {S T K A : Type 0} → ℕ → (T → Bool) → CountedReader S T K A → CountedReader S T K (List A)
read_bounded_from zero test read n ts = found ([], n) ts
read_bounded_from (suc k) test read n ts =
    chosen (starts test ts)
    (and_then (read n ts) (λ p left. read_made (joined_to p.0) (read_bounded_from k test read p.1 left)))
    (found ([], n) ts)

-- as often as a symbol passes the test
unfoldable pub read_many_from : {S T K A : Type 0} → (T → Bool) → CountedReader S T K A → CountedReader S T K (List A)
read_many_from test read n ts = read_bounded_from (suc (length ts)) test read n ts

-- one, and then others as often as a symbol passes the test
unfoldable pub read_chain : {S T K A B C : Type 0} → (A → List B → C) → (T → Bool) → CountedReader S T K A → CountedReader S T K B → CountedReader S T K C
read_chain node test first part n ts = read_made (λ p. (node p.0.0 p.0.1, p.1)) (read_both first (read_many_from test part) n ts)

-- the rest of a chain, where these others have been read: what `node` makes of all others
unfoldable pub read_links : {S T K B C : Type 0} → (List B → C) → (T → Bool) → CountedReader S T K B → List B → CountedReader S T K C
read_links node test part so_far n ts = read_made (λ q. (node (so_far ++ q.0), q.1)) (read_many_from test part n ts)

-- one of the items of a list, of which so many may still come
abbrev pub read_item : {S T K A : Type 0} → (T → Option K) → CountedReader S T K A → CountedReader (ℕ × S) T K A
read_item over read c ts = read_where_room (nat_lt 0 c.0) over (λ left. read_made (λ p. (p.0, (c.0 - 1, p.1))) (read c.1 left)) ts

-- items with separators between them, at most so many
abbrev pub read_list_of : {S T K A : Type 0} → ℕ → (T → Option K) → (T → Bool) → CountedReader S T K A → CountedReader S T K (List A)
read_list_of limit over separates read n ts =
    read_made (λ p. (p.0, p.1.1)) (read_chain (λ a rest. a ∷ rest) separates (read_item over read) (read_counted_past separates (read_item over read)) (limit, n) ts)
