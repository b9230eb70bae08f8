-- The test of a keyword.
use Rattle.std.proofs.Common.{◌≡◌, ◌↔◌, ◌∙◌, ◌==◌, ℕ, Bool, true, false, List, [], ◌∷◌, length, map, refl, sym, ap, IsTrue, bytes_eq, if◌then◌else◌}
use Rattle.std.specs.Char.{to_ascii_lowercase}
use Rattle.std.specs.Str.{str_eq_ignore_ascii_case}
use Rattle.std.proofs.lemmas.Slice.Eq.{bytes_eq-Decides}
use Rattle.std.proofs.lemmas.List.{length-map}
use Rattle.std.proofs.lemmas.Bool.{eq-eqb}
use Rattle.sql_tokens.specs.declared.class.Class.{Class}
use Rattle.sql_tokens.specs.Keywords.{Keyword, keywords, class_in, class_of_word, of_length}

not_eq : (a b : List ℕ) (t : Bool) → bytes_eq a b ≡ t → (a ≡ b → ⊥) → t ≡ false
not_eq a b true e n = absurd (n ((bytes_eq-Decides a b).0 e))
not_eq a b false e n = refl

-- the same letters but for case
pub same_letters : (test : Bool) (a b : List ℕ) → IsTrue test ↔ (map to_ascii_lowercase a ≡ map to_ascii_lowercase b) → test ≡ str_eq_ignore_ascii_case a b
same_letters true a b says = sym ((bytes_eq-Decides (map to_ascii_lowercase a) (map to_ascii_lowercase b)).1 (says.0 refl))
same_letters false a b says = sym (not_eq (map to_ascii_lowercase a) (map to_ascii_lowercase b) (str_eq_ignore_ascii_case a b) refl (λ e. (cc (says.1 e))))

-- a word of the same letters has as many
same_length : (a b : List ℕ) → str_eq_ignore_ascii_case a b ≡ true → (length a == length b) ≡ true
same_length a b e =
    let l = ap length ((bytes_eq-Decides (map to_ascii_lowercase a) (map to_ascii_lowercase b)).0 e) in
    eq-eqb (length a) (length b) (sym (length-map a to_ascii_lowercase) ∙ (l ∙ length-map b to_ascii_lowercase))

step : (t same : Bool) (k : Keyword) (ks : List Keyword) (called : Bool) (word : List ℕ) → (length k.word == length word) ≡ t → str_eq_ignore_ascii_case k.word word ≡ same
    → class_in ks called word ≡ class_in (of_length (length word) ks) called word
    → (if same then (if called then k.called else k.plain) else class_in ks called word) ≡ class_in (if t then k ∷ of_length (length word) ks else of_length (length word) ks) called word
step true true k ks called word e s r = rw s refl
step true false k ks called word e s r = rw s r
step false true k ks called word e s r = let b = same_length k.word word s in cc
step false false k ks called word e s r = r

-- the keywords of other lengths don't count
narrowed : (ks : List Keyword) (called : Bool) (word : List ℕ) → class_in ks called word ≡ class_in (of_length (length word) ks) called word
narrowed [] called word = refl
narrowed (k ∷ ks) called word = step (length k.word == length word) (str_eq_ignore_ascii_case k.word word) k ks called word refl refl (narrowed ks called word)

pub class_by_length : (c : Class) (table : List Keyword) (called : Bool) (word : List ℕ) → table ≡ of_length (length word) keywords → c ≡ class_in table called word → c ≡ class_of_word called word
unfolding class_of_word
class_by_length c table called word t e = e ∙ (ap (λ ks. class_in ks called word) t ∙ sym (narrowed keywords called word))
