-- Patterns, read one part at a time.
use Rattle.std.proofs.Common.{◌≡◌, ℕ, true, false, cond, List, [], ◌∷◌, Option, Some, None, ◌++◌, refl, ◌∙◌, ap}
use Rattle.std.proofs.lemmas.List.{append-nil}
use Rattle.std.specs.Option.{option_map}
use Rattle.text_view.specs.declared.like.Part.{Part}
use Rattle.text_view.specs.declared.like.Part.TheVariants.{Char}
use Rattle.text_view.specs.LikePattern.{pattern_parts, is_escape, may_follow, part_of}

pub pattern_nil : (e : Option ℕ) → pattern_parts e [] ≡ Some []
unfolding pattern_parts
pattern_nil e = refl

pub pattern_plain : (e : Option ℕ) (c : ℕ) (cs : List ℕ) → is_escape e c ≡ false → pattern_parts e (c ∷ cs) ≡ option_map (λ parts. part_of c ∷ parts) (pattern_parts e cs)
unfolding pattern_parts
pattern_plain e c cs h = rw h refl

pub pattern_alone : (e : Option ℕ) (c : ℕ) → is_escape e c ≡ true → pattern_parts e (c ∷ []) ≡ None
unfolding pattern_parts
pattern_alone e c h = rw h refl

pub pattern_escaped : (e : Option ℕ) (c d : ℕ) (cs : List ℕ) → is_escape e c ≡ true → pattern_parts e (c ∷ d ∷ cs) ≡ cond (may_follow e d) (option_map (λ parts. Char d ∷ parts) (pattern_parts e cs)) None
unfolding pattern_parts
pattern_escaped e c d cs h = rw h refl

pub ruleset pattern_steps = (pattern_nil, pattern_plain, pattern_alone, pattern_escaped)

-- all parts were read
pub parts_whole : (e : Option ℕ) (items : List Part) (whole rest : List ℕ) → pattern_parts e whole ≡ option_map (λ parts. items ++ parts) (pattern_parts e rest) → rest ≡ [] → pattern_parts e whole ≡ Some items
parts_whole e items whole rest same h =
    same ∙ ap (λ l. option_map (λ parts. items ++ parts) (pattern_parts e l)) h ∙ ap (option_map (λ parts. items ++ parts)) (pattern_nil e) ∙ ap Some (append-nil items)
