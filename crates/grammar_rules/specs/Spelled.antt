-- What a rule's texts tell of its values, and a printer's values of its texts.
use Rattle.std.specs.Prelude.{List, [], ◌∷◌, ◌++◌}
use Rattle.grammar_rules.specs.Rules.{Rule}

-- this holds of each value that the rule spells
abbrev pub Each : {T K A : Type 0} → (A → Type 0) → Rule T K A → Type 0
Each {T = T} {A = A} P G = (a : A) (ts : List T) → G.Spells a ts → P a

-- each value that has a text, as P says, is spelled by what is printed
abbrev pub Prints : {T K A : Type 0} → Rule T K A → (A → Type 0) → (A → List T) → Type 0
Prints {A = A} G P print = (a : A) → P a → G.Spells a (print a)

-- each element has a text
abbrev pub All : {A : Type 0} → (A → Type 0) → List A → Type 0
All P [] = Unit {0}
All P (a ∷ rest) = P a × All P rest

-- the texts one after the other
abbrev pub print_all : {T A : Type 0} → (A → List T) → List A → List T
print_all print [] = []
print_all print (a ∷ rest) = print a ++ print_all print rest
