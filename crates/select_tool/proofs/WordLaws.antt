-- The cuts that words are.
use Rattle.std.proofs.Common.{◌≡◌, ℕ, suc, ◌+◌, ◌<◌, ◌≤◌, Bool, true, false, List, [], ◌∷◌, ◌++◌, length, drop, get_or, Option, None, Some, refl, sym, ap, ◌∙◌, subst, append_assoc, append-nil, arith, drop-cons, add-one}
use Rattle.std.specs.Prelude.{nat_lt, String, option_and_then, if◌then◌else◌}
use Rattle.std.specs.Option.{option_map}
use Rattle.std.specs.String.{string_bytes}
use Rattle.std.specs.declared.alloc.Global.{Global}
use Rattle.std.proofs.Math.ListN.{drop_of_length-le}
use Rattle.std.proofs.lemmas.Bool.{ltb-true}
use Rattle.record_stream.specs.Tiling.{Ascend}
use Rattle.select_tool.specs.Words.{above, number_of, cuts_above, cuts_of, is_few}

-- ---- cuts ascend

above_is : (place : ℕ) (number : Option ℕ) (cut : ℕ) → above place number ≡ Some cut → place < cut
above_is place None cut is = absurd (cc)
above_is place (Some number) cut is =
    let P : Bool → Type 0 = λ b. nat_lt place number ≡ b → (if b then Some number else None) ≡ Some cut → place < cut in
    (elim (nat_lt place number) as P [
      | true ↦ λ yes found.
          let up : place < number = ltb-true place number yes in
          let same : number ≡ cut = cc in
          omega (arith, up, same)
      | false ↦ λ no found. absurd (cc)
    ]) refl is

others_ascend : (place cut : ℕ) (found : Option (List ℕ)) (cuts : List ℕ) → place < cut → ((rest : List ℕ) → found ≡ Some rest → Ascend cut rest)
    → option_map (λ rest. cut ∷ rest) found ≡ Some cuts → Ascend place cuts
others_ascend place cut None cuts up each is = absurd (cc)
others_ascend place cut (Some rest) cuts up each is =
    let same : cut ∷ rest ≡ cuts = cc in
    subst (Ascend place) same (up, each rest refl)

first_ascends : (place : ℕ) (found : Option ℕ) (words : List (String Global)) (cuts : List ℕ) → ((cut : ℕ) → found ≡ Some cut → place < cut)
    → ((cut : ℕ) (rest : List ℕ) → cuts_above cut words ≡ Some rest → Ascend cut rest)
    → option_and_then (λ cut. option_map (λ rest. cut ∷ rest) (cuts_above cut words)) found ≡ Some cuts → Ascend place cuts
first_ascends place None words cuts up each is = absurd (cc)
first_ascends place (Some cut) words cuts up each is = others_ascend place cut (cuts_above cut words) cuts (up cut refl) (each cut) is

cuts_ascend : (place : ℕ) (words : List (String Global)) (cuts : List ℕ) → cuts_above place words ≡ Some cuts → Ascend place cuts
cuts_ascend place [] cuts is =
    let same : [] ≡ cuts = cc in
    subst (Ascend place) same tt
cuts_ascend place (word ∷ words) cuts is =
    let number = number_of (string_bytes word) in
    first_ascends place (above place number) words cuts (λ cut found. above_is place number cut found) (λ cut rest. cuts_ascend cut words rest) is

pub all_ascend : (words : List (String Global)) (cuts : List ℕ) → cuts_of words ≡ Some cuts → Ascend 0 cuts
unfolding cuts_of
all_ascend words cuts is =
    let P : Bool → Type 0 = λ b. (if b then cuts_above 0 words else None) ≡ Some cuts → Ascend 0 cuts in
    (elim (is_few (length words)) as P [
      | true ↦ λ found. cuts_ascend 0 words cuts found
      | false ↦ λ found. absurd (cc)
    ]) is

-- ---- cuts are read, word by word

-- the cuts that were read, and then those of the words that are left
abbrev pub going_on : List ℕ → ℕ → List (String Global) → Option (List ℕ)
going_on done place words = option_map (λ rest. done ++ rest) (cuts_above place words)

more_cuts : (done : List ℕ) (cut : ℕ) (found : Option (List ℕ))
    → option_map (λ rest. done ++ rest) (option_map (λ rest. cut ∷ rest) found) ≡ option_map (λ rest. (done ++ cut ∷ []) ++ rest) found
more_cuts done cut None = refl
more_cuts done cut (Some rest) = ap Some (sym (append_assoc done (cut ∷ []) rest))

module _ (words : List (String Global)) (word : String Global) (i : ℕ) (done : List ℕ) (place : ℕ) (inside : i < length words) (is : word ≡ get_or words i word) where
  left : drop i words ≡ word ∷ drop (i + 1) words
  left =
      drop-cons words i word inside
      ∙ ap (λ w. w ∷ drop (suc i) words) (sym is)
      ∙ ap (λ n. word ∷ drop n words) (sym (add-one i))

  pub cut_on : (cut : ℕ) → above place (number_of (string_bytes word)) ≡ Some cut
      → cuts_above 0 words ≡ going_on done place (drop i words) → cuts_above 0 words ≡ going_on (done ++ cut ∷ []) cut (drop (i + 1) words)
  cut_on cut found so_far =
      so_far ∙ ap (going_on done place) left
      ∙ ap (λ o. option_map (λ rest. done ++ rest) (option_and_then (λ c. option_map (λ rest. c ∷ rest) (cuts_above c (drop (i + 1) words))) o)) found
      ∙ more_cuts done cut (cuts_above cut (drop (i + 1) words))

  pub no_cut : above place (number_of (string_bytes word)) ≡ None → cuts_above 0 words ≡ going_on done place (drop i words) → cuts_above 0 words ≡ None
  no_cut none so_far =
      so_far ∙ ap (going_on done place) left
      ∙ ap (λ o. option_map (λ rest. done ++ rest) (option_and_then (λ c. option_map (λ rest. c ∷ rest) (cuts_above c (drop (i + 1) words))) o)) none

pub cuts_end : (words : List (String Global)) (i : ℕ) (done : List ℕ) (place : ℕ) → length words ≤ i → cuts_above 0 words ≡ going_on done place (drop i words)
    → cuts_above 0 words ≡ Some done
cuts_end words i done place over so_far = so_far ∙ ap (going_on done place) (drop_of_length-le words over) ∙ ap Some (append-nil done)
