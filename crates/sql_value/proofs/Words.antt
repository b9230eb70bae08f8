-- Words that a text spells in any case of its letters.
use Rattle.std.proofs.Common.{◌≡◌, ℕ, List, true, false, map}
use Rattle.std.specs.Str.{chars}
use Rattle.std.specs.Char.{to_ascii_lowercase}
use Rattle.std.proofs.lemmas.Bool.{false_from_ne_true}
use Rattle.std.proofs.lemmas.Slice.Eq.{bytes_eq-Decides}
use Rattle.sql_value.specs.Casts.{reads_as}

pub reads_word : (word text : List ℕ) → map to_ascii_lowercase text ≡ map to_ascii_lowercase (chars word) → reads_as word text ≡ true
reads_word word text h = (bytes_eq-Decides (map to_ascii_lowercase text) (map to_ascii_lowercase (chars word))).1 h

pub other_word : (word text : List ℕ) → (map to_ascii_lowercase text ≡ map to_ascii_lowercase (chars word) → ⊥) → reads_as word text ≡ false
other_word word text h = false_from_ne_true _ (λ e. h ((bytes_eq-Decides (map to_ascii_lowercase text) (map to_ascii_lowercase (chars word))).0 e))
