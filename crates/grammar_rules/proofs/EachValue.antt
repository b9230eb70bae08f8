-- What holds of each value that a rule spells: one law a combinator.
use Rattle.std.proofs.Common.{◌≡◌, Bool, true, false, List, [], ◌∷◌, subst}
use Rattle.grammar_rules.specs.Rules.{Rule, Verdict, takes, refuses, terminal, nothing, made, sequence, either, one_of_two, allowed}
use Rattle.grammar_rules.specs.Spelled.{Each}

pub each-terminal : {T K A : Type 0} (look : T → Verdict K A) (P : A → Type 0) → ((t : T) (a : A) → look t ≡ takes a → P a) → Each P (terminal look)
each-terminal look P h a [] w = absurd w
each-terminal look P h a (t ∷ []) w = h t a w
each-terminal look P h a (t ∷ u ∷ ts) w = absurd w

pub each-nothing : {A : Type 0} (T K : Type 0) (a : A) (P : A → Type 0) → P a → Each P (nothing {T = T} {K = K} a)
each-nothing T K a P p b ts w = subst P w.0 p

pub each-made : {T K A B : Type 0} (f : A → B) (G : Rule T K A) (P : B → Type 0) → Each (λ a. P (f a)) G → Each P (made f G)
each-made f G P h b ts w = subst P w.1 (h w.0 ts w.2)

pub each-of_two : {T K A : Type 0} (G H : Rule T K A) (P : A → Type 0) → Each P G → Each P H → (b : Bool) → Each P (one_of_two G H b)
each-of_two G H P g h true = g
each-of_two G H P g h false = h

pub each-either : {T K A : Type 0} (G H : Rule T K A) (P : A → Type 0) → Each P G → Each P H → Each P (either G H)
each-either G H P g h a ts w = each-of_two G H P g h w.0 a ts w.1

pub each-sequence : {T K A B : Type 0} (G : Rule T K A) (H : A → Rule T K B) (P : B → Type 0) → ((a : A) (ts : List T) → G.Spells a ts → Each P (H a)) → Each P (sequence G H)
each-sequence G H P h b ts j = h j.value j.left j.whole b j.right j.after

pub each-allowed : {T K A : Type 0} (b : Bool) (G : Rule T K A) (P : A → Type 0) → Each P G → Each P (allowed b G)
each-allowed true G P g = g
each-allowed {K = K} {A = A} false G P g = each-terminal (λ t. refuses) P (λ t a e. absurd ((λ (e : refuses ≡ takes a). let no : ⊥ = cc in no) e))
