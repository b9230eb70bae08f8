-- What a scan that knows the bytes for valid leaves: strings, brackets and tokens are passed over without a look inside.
use Rattle.std.specs.Prelude.{ℕ, zero, suc, Bool, true, false, ◌||◌, ◌==◌, List, [], ◌∷◌, if◌then◌else◌}
use Rattle.json_text.specs.Grammar.{is_blank}

-- behind the closing quotation mark; true behind a reverse solidus
abbrev pub string_rest : Bool → List ℕ → List ℕ
string_rest escaped [] = []
string_rest true (c ∷ cs) = string_rest false cs
string_rest false (c ∷ cs) = if c == 34 then cs else string_rest (c == 92) cs

abbrev pub is_open : ℕ → Bool
is_open c = c == 91 || c == 123

abbrev pub is_close : ℕ → Bool
is_close c = c == 93 || c == 125

pub data Place : Type 0 where
  outside : Place
  inside : Bool → Place

-- behind the bracket that closes, where `n` others are open inside it
abbrev pub skip : ℕ → Place → List ℕ → List ℕ
skip n place [] = []
skip n (inside true) (c ∷ cs) = skip n (inside false) cs
skip n (inside false) (c ∷ cs) = if c == 34 then skip n outside cs else skip n (inside (c == 92)) cs
skip n outside (c ∷ cs) =
    if c == 34 then skip n (inside false) cs
    else (if is_open c then skip (suc n) outside cs
    else (if is_close c then elim n [ zero ↦ cs | suc m ↦ skip m outside cs ] else skip n outside cs))

-- a byte that ends a number or a word
abbrev pub is_stop : ℕ → Bool
is_stop c = is_blank c || c == 44 || is_close c

abbrev pub token_rest : List ℕ → List ℕ
token_rest [] = []
token_rest (c ∷ cs) = if is_stop c then c ∷ cs else token_rest cs

-- behind the value that stands in front
unfoldable pub value_rest : List ℕ → List ℕ
value_rest [] = []
value_rest (c ∷ cs) =
    if c == 34 then string_rest false cs else (if is_open c then skip 0 outside cs else token_rest (c ∷ cs))
