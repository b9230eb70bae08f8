-- Byte arrays behind their lengths: what is spelled is read, and what is read was spelled.
use Rattle.std.proofs.Common.{◌≡◌, ℕ, true, ◌+◌, ◌-◌, List, [], ◌∷◌, ◌++◌, length, take, drop, None, Some, refl, sym, ap, ◌∙◌, subst, arith, append_assoc, length-append, length-take-le, length-drop, take-append-drop}
use Rattle.std.specs.Prelude.{ℤ, pos, negsuc, nat_le, ◌&&◌, if◌then◌else◌, Result, Ok, Err, MatchResult, IfOk, OnErr}
use Rattle.std.specs.Option.{option_and_then}
use Rattle.std.proofs.lemmas.Bool.{le-leb}
use Rattle.std.proofs.lemmas.Option.{option_and_then_some, none-some}
use Rattle.std.proofs.Math.Seq.{drop-append_seam, take-append_seam}
use Rattle.thrift_compact.specs.Varints.{IsBytes}
use Rattle.parquet_delta.specs.declared.deltas.DeltaFault.{DeltaFault}
use Rattle.parquet_delta.specs.declared.word.Word.TheVariants.{Bits32}
use Rattle.parquet_delta.specs.Lists.{list_at}
use Rattle.parquet_delta.specs.Arrays.{is_natural, size_of, are_lengths, arrays, arrays_at}
use Rattle.parquet_delta.specs.Spelling.{Spells}
use Rattle.parquet_delta.specs.ArraySpelling.{lengths_of, bytes_of, SpellsArrays, ArraysFront, NoArrays}
use Rattle.parquet_delta.proofs.Behind.{begins, when_some}
use Rattle.parquet_delta.proofs.Cuts.{behind_list, first_fits}
use Rattle.parquet_delta.proofs.Found.{list_found}
use Rattle.parquet_delta.proofs.Spelled.{list_read}

many_lengths : (values : List (List ℕ)) → length (lengths_of values) ≡ length values
many_lengths [] = refl
many_lengths (v ∷ values) = let others = many_lengths values in omega (arith, others)

-- the lengths of values that are there fit
they_fit : (values : List (List ℕ)) (rest : List ℕ) (n : ℕ) → n ≡ length (bytes_of values) + length rest → are_lengths (lengths_of values) n ≡ true
unfolding are_lengths
they_fit [] rest n is = refl
they_fit (v ∷ values) rest n is =
    let parts : length (v ++ bytes_of values) ≡ length v + length (bytes_of values) = length-append v (bytes_of values) in
    let short : nat_le (length v) n ≡ true = le-leb (length v) n (omega (arith, is, parts)) in
    let others = they_fit values rest (n - length v) (omega (arith, is, parts)) in
    ap (λ t. t && are_lengths (lengths_of values) (n - length v)) short ∙ others

they_are_cut : (values : List (List ℕ)) (rest : List ℕ) → arrays (lengths_of values) (bytes_of values ++ rest) ≡ values
unfolding arrays
they_are_cut [] rest = refl
they_are_cut (v ∷ values) rest =
    let bytes = append_assoc v (bytes_of values) rest in
    ap (λ l. take (length v) l ∷ arrays (lengths_of values) (drop (length v) l)) bytes
    ∙ ap (λ l. l ∷ arrays (lengths_of values) (drop (length v) (v ++ (bytes_of values ++ rest)))) (take-append_seam v (bytes_of values ++ rest))
    ∙ ap (λ l. v ∷ arrays (lengths_of values) l) (drop-append_seam v (bytes_of values ++ rest)) ∙ ap (λ l. v ∷ l) (they_are_cut values rest)

pub arrays_read : (values : List (List ℕ)) (text rest : List ℕ) → SpellsArrays values text → arrays_at (length values) (text ++ rest) ≡ Some values
unfolding arrays_at
arrays_read values text rest s =
    let bytes = bytes_of values ++ rest in
    let joined : text ++ rest ≡ s.lengths_text ++ bytes = ap (λ l. l ++ rest) s.text_is ∙ append_assoc s.lengths_text (bytes_of values) rest in
    let list : list_at Bits32 (length values) (text ++ rest) ≡ Some (lengths_of values, bytes) =
    ap (λ n. list_at Bits32 n (text ++ rest)) (sym (many_lengths values)) ∙ ap (list_at Bits32 (length (lengths_of values))) joined
    ∙ list_read Bits32 (lengths_of values) s.lengths_text bytes s.lengths_spelled in
    ap (option_and_then (λ x. if are_lengths x.0 (length x.1) then Some (arrays x.0 x.1) else None)) list
    ∙ ap (λ t. if t then Some (arrays (lengths_of values) bytes) else None) (they_fit values rest (length bytes) (length-append (bytes_of values) rest))
    ∙ ap (λ l. Some l) (they_are_cut values rest)

-- values that were cut have the lengths by which they were, and are a front of the bytes
record CutFound (lengths : List ℤ) (bytes : List ℕ) : Type 0 where
  rest : List ℕ
  joined : bytes ≡ bytes_of (arrays lengths bytes) ++ rest
  lengths_are : lengths ≡ lengths_of (arrays lengths bytes)

natural_is : (z : ℤ) → is_natural z ≡ true → z ≡ pos (size_of z)
natural_is (pos n) is = refl
natural_is (negsuc n) is = cc

cut_found : (lengths : List ℤ) (bytes : List ℕ) → are_lengths lengths (length bytes) ≡ true → CutFound lengths bytes
unfolding arrays
cut_found [] bytes fits = record { rest = bytes; joined = refl; lengths_are = refl }
cut_found (z ∷ lengths) bytes fits =
    let first = first_fits (z ∷ lengths) lengths z (length bytes) refl fits in
    let behind = drop (size_of z) bytes in
    let others = cut_found lengths behind (rw (length-drop (size_of z) bytes) first.2) in
    let front = take (size_of z) bytes in
    record {
      rest = others.rest;
      joined = sym (take-append-drop (size_of z) bytes) ∙ ap (λ l. front ++ l) others.joined
          ∙ sym (append_assoc front (bytes_of (arrays lengths behind)) others.rest);
      lengths_are = ap (λ y. y ∷ lengths) (natural_is z first.0 ∙ ap pos (sym (length-take-le (size_of z) bytes first.1)))
          ∙ ap (λ l. pos (length front) ∷ l) others.lengths_are;
    }

cut_front : (count : ℕ) (bytes : List ℕ) (x : List ℤ × List ℕ) (values : List (List ℕ)) → IsBytes bytes → list_at Bits32 count bytes ≡ Some x
    → are_lengths x.0 (length x.1) ≡ true → arrays x.0 x.1 ≡ values → ArraysFront count values bytes
cut_front count bytes x values are is fits cut =
    let list = list_found Bits32 count (length bytes - length x.1) bytes x are is refl in
    let front = list.front in
    let rest : front.rest ≡ x.1 =
    sym (drop-append_seam front.text front.rest) ∙ ap (λ n. drop n (front.text ++ front.rest)) (sym front.used_is)
    ∙ ap (drop (length bytes - length x.1)) (sym front.joined) ∙ sym (begins x.1 bytes (behind_list Bits32 count bytes x is)) in
    let f = cut_found x.0 x.1 fits in
    let lengths : x.0 ≡ lengths_of values = f.lengths_are ∙ ap lengths_of cut in
    record {
      text = front.text ++ bytes_of values;
      spelled = record {
        lengths_text = front.text;
        lengths_spelled = subst (λ l. Spells Bits32 l front.text) lengths front.spelled;
        text_is = refl;
      };
      rest = f.rest;
      joined = front.joined ∙ ap (λ l. front.text ++ l) (rest ∙ f.joined ∙ ap (λ l. bytes_of l ++ f.rest) cut)
          ∙ sym (append_assoc front.text (bytes_of values) f.rest);
      many = sym (many_lengths values) ∙ ap length (sym lengths) ∙ list.many;
    }

pub arrays_found : (count : ℕ) (bytes : List ℕ) (values : List (List ℕ)) → IsBytes bytes → arrays_at count bytes ≡ Some values → ArraysFront count values bytes
unfolding arrays_at
arrays_found count bytes values are is =
    option_and_then_some _ (list_at Bits32 count bytes) values is
    (λ x list cut. let found = when_some (are_lengths x.0 (length x.1)) (arrays x.0 x.1) values cut in
    cut_front count bytes x values are list found.0 found.1)

pub not_arrays : (count : ℕ) (bytes : List ℕ) → arrays_at count bytes ≡ None → NoArrays count bytes
not_arrays count bytes none values text rest many joined spelled =
    none-some values
    (sym none ∙ ap (arrays_at count) joined ∙ ap (λ n. arrays_at n (text ++ rest)) (sym many) ∙ arrays_read values text rest spelled)

abbrev pub AnswersArrays : ℕ → List ℕ → Result (List (List ℕ)) DeltaFault → Type 0
AnswersArrays count bytes r = MatchResult r (λ values. arrays_at count bytes ≡ Some values) (λ _. arrays_at count bytes ≡ None)

pub arrays_of : (count : ℕ) (bytes : List ℕ) (r : Result (List (List ℕ)) DeltaFault) → IsBytes bytes → AnswersArrays count bytes r
    → IfOk r (λ values. ArraysFront count values bytes)
arrays_of count bytes (Ok values) are answer = arrays_found count bytes values are answer
arrays_of count bytes (Err f) are answer = tt

pub no_arrays_of : (count : ℕ) (bytes : List ℕ) (r : Result (List (List ℕ)) DeltaFault) → AnswersArrays count bytes r → OnErr r (NoArrays count bytes)
no_arrays_of count bytes (Ok values) answer = tt
no_arrays_of count bytes (Err f) answer = not_arrays count bytes answer
