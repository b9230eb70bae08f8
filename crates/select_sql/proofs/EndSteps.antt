-- Each token has a class or is a word, so that nothing of the two in sight is the end of the text.
use Rattle.std.proofs.Common.{◌≡◌, ℕ, zero, suc, ◌+◌, ◌-◌, ◌==◌, ◌&&◌, nat_lt, not, is_some, Bool, true, false, List, [], ◌∷◌, ◌++◌, take, drop, length, Option, Some, None, refl, sym, ◌∙◌, subst, if◌then◌else◌}
use Rattle.std.specs.List.{prefix_len}
use Rattle.std.specs.Char.{is_ascii_digit}
use Rattle.sql_tokens.specs.declared.class.Class.{Class}
use Rattle.sql_tokens.specs.declared.class.Class.TheVariants as k
use Rattle.sql_tokens.specs.Classes.{same_class}
use Rattle.sql_tokens.specs.TokenForms.{Token, word, quoted_name, text_literal, whole_number, point_number, exponent_number, punctuation, unfit, class_of, length_of, is_blank, is_letter, is_word_byte, closing, begins, name_by, text_by, parts_number, number_by, number_token, less_by, greater_by, single, single_token, punctuation_token, word_by, token_from}
use Rattle.sql_tokens.specs.Cutting.{Symbol, cut_behind, cut, symbols_of}
use Rattle.sql_tokens.specs.Payloads.{word_of}
use Rattle.select_sql.specs.Written.{at_end}

-- the class is a token's
record Told (c : Class) : Type 0 where
  some : same_class k.NoToken c ≡ false

-- the token has a class, or is a word
record IsTold (t : Token) : Type 0 where
  some : (same_class k.NoToken (class_of t) && not (is_some (word_of t))) ≡ false

if_class : (b : Bool) (x y : Class) → Told x → Told y → Told (if b then x else y)
if_class true x y f g = f
if_class false x y f g = g

if_token : (b : Bool) (x y : Token) → IsTold x → IsTold y → IsTold (if b then x else y)
if_token true x y f g = f
if_token false x y f g = g

of_class : (c : Class) → Told c → IsTold (punctuation c)
of_class c f = record { some = rw f.some refl }

-- ---- words

and_false : (b : Bool) → (b && false) ≡ false
and_false true = refl
and_false false = refl

word_told : (called : Bool) (bytes : List ℕ) → IsTold (word called bytes)
word_told called bytes = record { some = and_false (same_class k.NoToken (class_of (word called bytes))) }

-- ---- the others

unfit_told : (bs : List ℕ) → IsTold (unfit bs)
unfolding same_class
unfit_told bs = record { some = refl }

quoted_told : (called : Bool) (raw : List ℕ) → IsTold (quoted_name called raw)
unfolding same_class
quoted_told true raw = record { some = refl }
quoted_told false raw = record { some = refl }

name_told : (o : Option ℕ) (bs : List ℕ) → IsTold (name_by o bs)
name_told None bs = unfit_told (34 ∷ bs)
name_told (Some n) bs = if_token _ _ _ (unfit_told (34 ∷ bs)) (quoted_told _ _)

text_told : (o : Option ℕ) (bs : List ℕ) → IsTold (text_by o bs)
unfolding same_class
text_told None bs = unfit_told (39 ∷ bs)
text_told (Some n) bs = record { some = refl }

whole_told : (raw : List ℕ) → IsTold (whole_number raw)
unfolding same_class
whole_told raw = record { some = refl }

point_told : (raw : List ℕ) → IsTold (point_number raw)
unfolding same_class
point_told raw = record { some = refl }

exponent_told : (raw : List ℕ) → IsTold (exponent_number raw)
unfolding same_class
exponent_told raw = record { some = refl }

parts_told : (before behind raw bs : List ℕ) → IsTold (parts_number before behind raw bs)
parts_told before [] raw bs = if_token _ _ _ (unfit_told bs) (whole_told raw)
parts_told before (point ∷ fraction) raw bs = if_token _ _ _ (unfit_told bs) (point_told raw)

number_by_told : (whole size exponent : ℕ) (bs : List ℕ) → IsTold (number_by whole size exponent bs)
number_by_told whole size exponent bs =
    if_token _ _ _ (exponent_told _) (if_token _ _ _ (unfit_told bs) (parts_told (take whole (take size bs)) (drop whole (take size bs)) (take size bs) bs))

number_told : (bs : List ℕ) → IsTold (number_token bs)
unfolding number_token
number_told bs = number_by_told _ _ _ bs

told : (c : Class) → same_class k.NoToken c ≡ false → Told c
told c h = record { some = h }

less_told : (bs : List ℕ) → Told (less_by bs)
unfolding same_class
less_told bs = if_class _ _ _ (told k.LessOrEqual refl) (if_class _ _ _ (told k.NotEqual refl) (told k.Less refl))

greater_told : (bs : List ℕ) → Told (greater_by bs)
unfolding same_class
greater_told bs = if_class _ _ _ (told k.GreaterOrEqual refl) (told k.Greater refl)

-- the symbol of one byte is told, where there is one
record OneTold (o : Option Class) : Type 0 where
  token : (bs : List ℕ) → IsTold (single_token o bs)

if_one : (b : Bool) (c : Class) (o : Option Class) → Told c → OneTold o → OneTold (if b then Some c else o)
if_one true c o f g = record { token = λ bs. of_class c f }
if_one false c o f g = g

single_told : (b : ℕ) → OneTold (single b)
unfolding same_class
single_told b =
    if_one (b == 40) k.LeftParenthesis _ (told k.LeftParenthesis refl) (if_one (b == 41) k.RightParenthesis _ (told k.RightParenthesis refl) (if_one (b == 44) k.Comma _ (told k.Comma refl) (if_one (b == 46) k.Dot _ (told k.Dot refl)
    (if_one (b == 91) k.LeftBracket _ (told k.LeftBracket refl) (if_one (b == 93) k.RightBracket _ (told k.RightBracket refl) (if_one (b == 42) k.Star _ (told k.Star refl) (if_one (b == 43) k.Plus _ (told k.Plus refl)
    (if_one (b == 45) k.Minus _ (told k.Minus refl) (if_one (b == 47) k.Slash _ (told k.Slash refl) (if_one (b == 37) k.Percent _ (told k.Percent refl) (if_one (b == 61) k.Equal _ (told k.Equal refl)
    (if_one (b == 59) k.Semicolon _ (told k.Semicolon refl) (record { token = λ bs. unfit_told bs })))))))))))))

punctuation_told : (b : ℕ) (bs : List ℕ) → IsTold (punctuation_token b bs)
unfolding punctuation_token same_class
punctuation_told b bs =
    if_token _ _ _ (of_class (less_by bs) (less_told bs)) (if_token _ _ _ (of_class (greater_by bs) (greater_told bs)) (if_token _ _ _ (of_class k.NotEqual (told k.NotEqual refl))
    ((single_told b).token (b ∷ bs))))

token_told : (b : ℕ) (bs : List ℕ) → IsTold (token_from b bs)
unfolding token_from
token_told b bs =
    if_token (is_letter b) (word_by (prefix_len is_word_byte (b ∷ bs)) (b ∷ bs)) _ (word_told _ _)
    (if_token (is_ascii_digit b) (number_token (b ∷ bs)) _ (number_told (b ∷ bs))
    (if_token (b == 46 && begins is_ascii_digit bs) (number_token (b ∷ bs)) _ (number_told (b ∷ bs))
    (if_token (b == 34) (name_by (closing 34 bs) bs) _ (name_told (closing 34 bs) bs)
    (if_token (b == 39) (text_by (closing 39 bs) bs) (punctuation_token b bs) (text_told (closing 39 bs) bs) (punctuation_told b bs)))))

-- ---- all tokens of a text

data AllTold : List Symbol → Type 0 where
  none_left : AllTold []
  one_more : (s : Symbol) (ss : List Symbol) → IsTold s.token → AllTold ss → AllTold (s ∷ ss)

if_list : (b : Bool) (xs ys : List Symbol) → AllTold xs → AllTold ys → AllTold (if b then xs else ys)
if_list true xs ys f g = f
if_list false xs ys f g = g

behind_told : (skip at : ℕ) (bs : List ℕ) → AllTold (cut_behind skip at bs)
behind_told skip at [] = none_left
behind_told (suc skip) at (b ∷ bs) = behind_told skip (at + 1) bs
behind_told zero at (b ∷ bs) =
    if_list (is_blank b) (cut_behind 0 (at + 1) bs) (record { at = at; token = token_from b bs } ∷ cut_behind (length_of (token_from b bs) - 1) (at + 1) bs)
    (behind_told 0 (at + 1) bs) (one_more (record { at = at; token = token_from b bs }) (cut_behind (length_of (token_from b bs) - 1) (at + 1) bs) (token_told b bs) (behind_told (length_of (token_from b bs) - 1) (at + 1) bs))

all_told : (text : List ℕ) → AllTold (symbols_of text)
unfolding cut
all_told text = behind_told 0 0 text

rest_told : (pre left : List Symbol) → AllTold (pre ++ left) → AllTold left
rest_told [] left f = f
rest_told (s ∷ pre) left (one_more _ _ t f) = rest_told pre left f

none_in_sight : (left : List Symbol) → AllTold left → at_end left ≡ true → left ≡ []
none_in_sight [] f h = refl
none_in_sight (s ∷ ss) (one_more _ _ t f) h = let p : true ≡ false = sym h ∙ t.some in cc

-- behind some tokens of a text stands the end where no token is in sight
pub end_in_sight : (text : List ℕ) (pre left : List Symbol) → symbols_of text ≡ pre ++ left → at_end left ≡ true → left ≡ []
end_in_sight text pre left e h = none_in_sight left (rest_told pre left (subst (λ z. AllTold z) e (all_told text))) h
