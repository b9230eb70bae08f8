-- Byte arrays that share a front with the one before: what is spelled is read, and what is read was spelled.
use Rattle.std.proofs.Common.{◌≡◌, ℕ, Bool, true, false, ◌+◌, ◌-◌, List, [], ◌∷◌, ◌++◌, length, take, drop, Option, None, Some, refl, sym, ap, ◌∙◌, subst, arith, append_assoc}
use Rattle.std.specs.Prelude.{ℤ, pos, negsuc, nat_le, max, ◌&&◌, if◌then◌else◌, Result, Ok, Err, MatchResult, IfOk, IfErr}
use Rattle.std.specs.Option.{option_and_then, option_map}
use Rattle.std.proofs.lemmas.Bool.{le-leb, leb-true}
use Rattle.std.proofs.lemmas.Option.{option_and_then_some, none-some}
use Rattle.std.proofs.Math.Seq.{drop-append_seam}
use Rattle.thrift_compact.specs.Varints.{IsBytes}
use Rattle.parquet_delta.specs.declared.deltas.DeltaFault.{DeltaFault}
use Rattle.parquet_delta.specs.declared.fronts.FrontError.{FrontError}
use Rattle.parquet_delta.specs.declared.fronts.FrontError.TheVariants.{Fault}
use Rattle.parquet_delta.specs.declared.word.Word.TheVariants.{Bits32}
use Rattle.parquet_delta.specs.Lists.{list_at}
use Rattle.parquet_delta.specs.Arrays.{FrontState, is_natural, size_of, longest_value, may_join, longest_of, joined, joined_by, arrays_at, fronts_at}
use Rattle.parquet_delta.specs.ArraySpelling.{AreJoined, SpellsFronts, FrontsFront, NoFronts}
use Rattle.parquet_delta.proofs.Behind.{begins, some_same}
use Rattle.parquet_delta.proofs.Cuts.{behind_list}
use Rattle.parquet_delta.proofs.Joins.{length_joined}
use Rattle.parquet_delta.proofs.Found.{list_found, still_bytes}
use Rattle.parquet_delta.proofs.Spelled.{list_read}
use Rattle.parquet_delta.proofs.ArraysSpelled.{arrays_read, arrays_found}

-- joined values are as they may be, and are joined so
record JoinRead (before : List ℕ) (values : List (List ℕ)) (prefixes : List ℤ) (suffixes : List (List ℕ)) : Type 0 where
  longest : ℕ
  fits : longest_of (length before) prefixes suffixes ≡ Some longest
  values_are : joined before prefixes suffixes ≡ values

join_read : (before : List ℕ) (values : List (List ℕ)) (prefixes : List ℤ) (suffixes : List (List ℕ)) → AreJoined before values prefixes suffixes
    → JoinRead before values prefixes suffixes
unfolding longest_of joined
join_read before [] [] [] are = record { longest = 0; fits = refl; values_are = refl }
join_read before [] [] (s ∷ suffixes) are = absurd are
join_read before [] (z ∷ prefixes) suffixes are = absurd are
join_read before (v ∷ values) [] suffixes are = absurd are
join_read before (v ∷ values) (z ∷ prefixes) [] are = absurd are
join_read before (v ∷ values) (z ∷ prefixes) (s ∷ suffixes) are =
    let n = are.0 in
    let value : take n before ++ s ≡ v = sym are.3 in
    let len : n + length s ≡ length v = sym (length_joined n before s are.2) ∙ ap length value in
    let others = join_read v values prefixes suffixes are.5 in
    let may : may_join (pos n) (length before) (length s) ≡ true =
    ap (λ t. t && nat_le (n + length s) longest_value) (le-leb n (length before) are.2)
    ∙ le-leb (n + length s) longest_value (omega (arith, len, are.4)) in
    record {
      longest = max (n + length s) others.longest;
      fits = ap (λ y. longest_of (length before) (y ∷ prefixes) (s ∷ suffixes)) are.1
          ∙ ap (λ t. if t then option_map (max (n + length s)) (longest_of (n + length s) prefixes suffixes) else None) may
          ∙ ap (λ k. option_map (max (n + length s)) (longest_of k prefixes suffixes)) len ∙ ap (option_map (max (n + length s))) others.fits;
      values_are = ap (λ y. joined before (y ∷ prefixes) (s ∷ suffixes)) are.1 ∙ ap (λ l. l ∷ joined l prefixes suffixes) value
          ∙ ap (λ l. v ∷ l) others.values_are;
    }

many_joined : (before : List ℕ) (values : List (List ℕ)) (prefixes : List ℤ) (suffixes : List (List ℕ)) → AreJoined before values prefixes suffixes
    → (length prefixes ≡ length values) × (length suffixes ≡ length values)
many_joined before [] [] [] are = (refl, refl)
many_joined before [] [] (s ∷ suffixes) are = absurd are
many_joined before [] (z ∷ prefixes) suffixes are = absurd are
many_joined before (v ∷ values) [] suffixes are = absurd are
many_joined before (v ∷ values) (z ∷ prefixes) [] are = absurd are
many_joined before (v ∷ values) (z ∷ prefixes) (s ∷ suffixes) are =
    let others = many_joined v values prefixes suffixes are.5 in
    (omega (arith, others.0), omega (arith, others.1))

fronts_read : (values : List (List ℕ)) (text rest : List ℕ) → SpellsFronts values text → fronts_at (length values) (text ++ rest) ≡ Some values
unfolding fronts_at
fronts_read values text rest s =
    let many = many_joined [] values s.prefixes s.suffixes s.are_joined in
    let read = join_read [] values s.prefixes s.suffixes s.are_joined in
    let joins : text ++ rest ≡ s.prefixes_text ++ (s.suffixes_text ++ rest) = ap (λ l. l ++ rest) s.text_is ∙ append_assoc s.prefixes_text s.suffixes_text rest in
    let list : list_at Bits32 (length values) (text ++ rest) ≡ Some (s.prefixes, s.suffixes_text ++ rest) =
    ap (λ n. list_at Bits32 n (text ++ rest)) (sym many.0) ∙ ap (list_at Bits32 (length s.prefixes)) joins
    ∙ list_read Bits32 s.prefixes s.prefixes_text (s.suffixes_text ++ rest) s.prefixes_spelled in
    let arrays : arrays_at (length values) (s.suffixes_text ++ rest) ≡ Some s.suffixes =
    ap (λ n. arrays_at n (s.suffixes_text ++ rest)) (sym many.1) ∙ arrays_read s.suffixes s.suffixes_text rest s.suffixes_spelled in
    ap (option_and_then (λ x. option_and_then (joined_by x.0) (arrays_at (length values) x.1))) list
    ∙ ap (option_and_then (joined_by s.prefixes)) arrays ∙ ap (option_map (λ n. joined [] s.prefixes s.suffixes)) read.fits
    ∙ ap (λ l. Some l) read.values_are

three : (a b c : Bool) → (a && b && c) ≡ true → (a ≡ true) × (b ≡ true) × (c ≡ true)
three true true true is = (refl, refl, refl)
three true true false is = cc
three true false c is = cc
three false b c is = cc

natural_is : (z : ℤ) → is_natural z ≡ true → z ≡ pos (size_of z)
natural_is (pos n) is = refl
natural_is (negsuc n) is = cc

mapped : (f : ℕ → ℕ) (o : Option ℕ) (n : ℕ) → option_map f o ≡ Some n → (m : ℕ) × (o ≡ Some m)
mapped f None n is = absurd (none-some n is)
mapped f (Some m) n is = (m, refl)

tested : (t : Bool) (o : Option ℕ) (n : ℕ) → (if t then o else None) ≡ Some n → (t ≡ true) × (o ≡ Some n)
tested true o n is = (refl, is)
tested false o n is = absurd (none-some n is)

join_found : (before : List ℕ) (prefixes : List ℤ) (suffixes : List (List ℕ)) (n : ℕ) → length prefixes ≡ length suffixes
    → longest_of (length before) prefixes suffixes ≡ Some n → AreJoined before (joined before prefixes suffixes) prefixes suffixes
unfolding longest_of joined
join_found before [] [] n many is = tt
join_found before [] (s ∷ suffixes) n many is = absurd (omega (arith, many))
join_found before (z ∷ prefixes) [] n many is = absurd (omega (arith, many))
join_found before (z ∷ prefixes) (s ∷ suffixes) n many is =
    let test = tested (may_join z (length before) (length s)) (option_map (max (size_of z + length s)) (longest_of (size_of z + length s) prefixes suffixes)) n is in
    let parts = three (is_natural z) (nat_le (size_of z) (length before)) (nat_le (size_of z + length s) longest_value) test.0 in
    let within = leb-true (size_of z) (length before) parts.1 in
    let short = leb-true (size_of z + length s) longest_value parts.2 in
    let len : length (take (size_of z) before ++ s) ≡ size_of z + length s = length_joined (size_of z) before s within in
    let others = mapped (max (size_of z + length s)) (longest_of (size_of z + length s) prefixes suffixes) n test.1 in (
      size_of z,
      natural_is z parts.0,
      within,
      refl,
      omega (arith, len, short),
      join_found (take (size_of z) before ++ s) prefixes suffixes others.0 (omega (arith, many))
          (ap (λ k. longest_of k prefixes suffixes) len ∙ others.1),
    )

still : (rest : List ℕ) (n : ℕ) (bytes : List ℕ) → IsBytes bytes → rest ≡ drop n bytes → IsBytes rest
still rest n bytes are is = subst IsBytes (sym is) (still_bytes n bytes are)

-- values were made of prefixes and suffixes that fit
abbrev IsMade : List ℤ → List (List ℕ) → Option ℕ → List (List ℕ) → Type 0
IsMade prefixes suffixes o values = (n : ℕ) × (o ≡ Some n) × (joined [] prefixes suffixes ≡ values)

made_of : (prefixes : List ℤ) (suffixes : List (List ℕ)) (o : Option ℕ) (values : List (List ℕ)) → option_map (λ n. joined [] prefixes suffixes) o ≡ Some values
    → IsMade prefixes suffixes o values
made_of prefixes suffixes None values is = absurd (none-some values is)
made_of prefixes suffixes (Some n) values is = (n, refl, some_same (joined [] prefixes suffixes) values is)

pub fronts_found : (count : ℕ) (bytes : List ℕ) (values : List (List ℕ)) → IsBytes bytes → fronts_at count bytes ≡ Some values → FrontsFront count values bytes
unfolding fronts_at
fronts_found count bytes values are is =
    option_and_then_some _ (list_at Bits32 count bytes) values is
    (λ x list more. option_and_then_some _ (arrays_at count x.1) values more
    (λ suffixes arrays last.
    let l = list_found Bits32 count (length bytes - length x.1) bytes x are list refl in
    let front = l.front in
    let rest : front.rest ≡ x.1 =
    sym (drop-append_seam front.text front.rest) ∙ ap (λ n. drop n (front.text ++ front.rest)) (sym front.used_is)
    ∙ ap (drop (length bytes - length x.1)) (sym front.joined) ∙ sym (begins x.1 bytes (behind_list Bits32 count bytes x list)) in
    let a = arrays_found count x.1 suffixes (still x.1 (length bytes - length x.1) bytes are (begins x.1 bytes (behind_list Bits32 count bytes x list))) arrays in
    let made = made_of x.0 suffixes (longest_of 0 x.0 suffixes) values last in
    let joins = join_found [] x.0 suffixes made.0 (l.many ∙ sym a.many) made.1 in
    let values_are = subst (λ v. AreJoined [] v x.0 suffixes) made.2 joins in
    record {
      text = front.text ++ a.text;
      spelled = record {
        prefixes = x.0;
        prefixes_text = front.text;
        prefixes_spelled = front.spelled;
        suffixes = suffixes;
        suffixes_text = a.text;
        suffixes_spelled = a.spelled;
        are_joined = values_are;
        text_is = refl;
      };
      rest = a.rest;
      joined = front.joined ∙ ap (λ t. front.text ++ t) (rest ∙ a.joined) ∙ sym (append_assoc front.text a.text a.rest);
      many = sym (many_joined [] values x.0 suffixes values_are).0 ∙ l.many;
    }))

pub not_fronts : (count : ℕ) (bytes : List ℕ) → fronts_at count bytes ≡ None → NoFronts count bytes
not_fronts count bytes none values text rest many joins spelled =
    none-some values
    (sym none ∙ ap (fronts_at count) joins ∙ ap (λ n. fronts_at n (text ++ rest)) (sym many) ∙ fronts_read values text rest spelled)

abbrev pub AnswersFronts : ℕ → List ℕ → Result FrontState FrontError → Type 0
AnswersFronts count bytes r =
    MatchResult r (λ f. fronts_at count bytes ≡ Some f.left) (λ e. (f : DeltaFault) → e ≡ Fault f → fronts_at count bytes ≡ None)

pub fronts_of : (count : ℕ) (bytes : List ℕ) (r : Result FrontState FrontError) → IsBytes bytes → AnswersFronts count bytes r
    → IfOk r (λ f. FrontsFront count f.left bytes)
fronts_of count bytes (Ok f) are answer = fronts_found count bytes f.left are answer
fronts_of count bytes (Err e) are answer = tt

pub no_fronts_of : (count : ℕ) (bytes : List ℕ) (r : Result FrontState FrontError) → AnswersFronts count bytes r
    → IfErr r (λ e. (f : DeltaFault) → e ≡ Fault f → NoFronts count bytes)
no_fronts_of count bytes (Ok f) answer = tt
no_fronts_of count bytes (Err e) answer = λ f is. not_fronts count bytes (answer f is)
