-- The forms that a grammar's rules take where what begins alike is read once.
use Rattle.std.specs.Prelude.{◌⊎◌}
use mathlib.Core.Logic.{inl, inr}
use Rattle.grammar_rules.specs.Rules.{Rule, Verdict, takes, faults, refuses, nothing, sequence, either}

-- G and then H, or G alone for what f makes of its value
abbrev pub then_optional : {T K A B : Type 0} → Rule T K A → (A → Rule T K B) → (A → B) → Rule T K B
then_optional G H f = sequence G (λ a. either (H a) (nothing (f a)))

-- the verdict for what f makes of its value
abbrev pub verdict_made : {K A B : Type 0} → (A → B) → Verdict K A → Verdict K B
verdict_made f (takes a) = takes (f a)
verdict_made f (faults k) = faults k
verdict_made f refuses = refuses

-- the first verdict, where it refuses the second
abbrev pub merged : {K A B : Type 0} → Verdict K A → Verdict K B → Verdict K (A ⊎ B)
merged (takes a) w = takes (inl a)
merged (faults k) w = faults k
merged refuses w = verdict_made inr w

-- the rule of a value of two kinds
abbrev pub either_of : {T K A B C : Type 0} → (A → Rule T K C) → (B → Rule T K C) → A ⊎ B → Rule T K C
either_of G H (inl a) = G a
either_of G H (inr b) = H b
