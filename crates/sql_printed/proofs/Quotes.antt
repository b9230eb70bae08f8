-- The tokens of printed texts and quoted names.
use Rattle.std.proofs.Common.{◌≡◌, ℕ, suc, ◌+◌, ◌<◌, ◌==◌, Bool, true, false, List, [], ◌∷◌, ◌++◌, length, take, drop, refl, sym, ap, ◌∙◌, append_assoc, arith, if◌then◌else◌, Some, eqb-true, eq-eqb, ne_eqb, length-append}
use Rattle.std.proofs.Math.Seq.{take-append_seam, drop-append_seam}
use Rattle.sql_tokens.specs.TokenForms.{text_literal, quoted_name, begins, is_called, closing_behind, closing, name_by, text_by, token_from}
use Rattle.sql_tokens.specs.Cutting.{cut}
use Rattle.sql_tokens.specs.Payloads.{once_behind, undoubled}
use Rattle.sql_tokens.proofs.CutSteps.{cut_token}
use Rattle.sql_printed.specs.Shown.{doubled, within_quotes, literal_text}
use Rattle.sql_printed.proofs.Words.{if_true, if_false}

same : (q : ℕ) → (q == q) ≡ true
same q = eq-eqb q q refl

closing_doubled : (q at : ℕ) (t rest : List ℕ) → begins (λ c. c == q) rest ≡ false → closing_behind q 0 at (doubled q t ++ (q ∷ rest)) ≡ Some (at + length (doubled q t))
closing_doubled q at [] rest e =
    let z : at ≡ at + 0 = omega arith in
    if_true (q == q) _ _ (same q) ∙ (if_false (begins (λ c. c == q) rest) _ _ e ∙ ap (λ n. Some n) z)
closing_doubled q at (b ∷ t) rest e =
    let P : Bool → Type 0 = λ v. (b == q) ≡ v → closing_behind q 0 at ((if v then q ∷ q ∷ doubled q t else b ∷ doubled q t) ++ (q ∷ rest)) ≡ Some (at + length (if v then q ∷ q ∷ doubled q t else b ∷ doubled q t)) in
    (elim (b == q) as P [
      | true ↦ λ v.
          let z : at + 1 + 1 + length (doubled q t) ≡ at + suc (suc (length (doubled q t))) = omega arith in
          if_true (q == q) _ _ (same q) ∙ (if_true (q == q) _ _ (same q) ∙ (closing_doubled q (at + 1 + 1) t rest e ∙ ap (λ n. Some n) z))
      | false ↦ λ v.
          let z : at + 1 + length (doubled q t) ≡ at + suc (length (doubled q t)) = omega arith in
          if_false (b == q) _ _ v ∙ (closing_doubled q (at + 1) t rest e ∙ ap (λ n. Some n) z)
    ]) refl

second_passed : (q : ℕ) (ds : List ℕ) (t : Bool) → t ≡ true → (q == q) ≡ true → once_behind q t (q ∷ ds) ≡ once_behind q false ds
second_passed q ds true e s = if_true (q == q) _ _ s
second_passed q ds false e s = cc

other_kept : (q : ℕ) (ds : List ℕ) (t : Bool) → t ≡ false → once_behind q t ds ≡ once_behind q false ds
other_kept q ds true e = cc
other_kept q ds false e = refl

once_doubled : (q : ℕ) (t : List ℕ) → once_behind q false (doubled q t) ≡ t
once_doubled q [] = refl
once_doubled q (b ∷ t) =
    let P : Bool → Type 0 = λ v. (b == q) ≡ v → once_behind q false (if v then q ∷ q ∷ doubled q t else b ∷ doubled q t) ≡ b ∷ t in
    (elim (b == q) as P [
      | true ↦ λ v.
          let s : q ≡ b = sym (eqb-true b q v) in
          ap (λ l. q ∷ l) (second_passed q (doubled q t) (q == q) (same q) (same q) ∙ once_doubled q t) ∙ ap (λ x. x ∷ t) s
      | false ↦ λ v. ap (λ l. b ∷ l) (other_kept q (doubled q t) (b == q) v ∙ once_doubled q t)
    ]) refl

-- what is doubled is undoubled
pub undoubled_doubled : (q : ℕ) (t : List ℕ) → undoubled q (doubled q t) ≡ t
unfolding undoubled
undoubled_doubled q t = once_doubled q t

closes : (q : ℕ) (t rest : List ℕ) → begins (λ c. c == q) rest ≡ false → closing q ((doubled q t ++ q ∷ []) ++ rest) ≡ Some (length (doubled q t))
unfolding closing
closes q t rest e =
    let f : (doubled q t ++ q ∷ []) ++ rest ≡ doubled q t ++ (q ∷ rest) = append_assoc (doubled q t) (q ∷ []) rest in
    let z : 0 + length (doubled q t) ≡ length (doubled q t) = omega arith in
    ap (λ l. closing_behind q 0 0 l) f ∙ (closing_doubled q 0 t rest e ∙ ap (λ n. Some n) z)

front : (q : ℕ) (t rest : List ℕ) → take (length (doubled q t)) ((doubled q t ++ q ∷ []) ++ rest) ≡ doubled q t
front q t rest = ap (λ l. take (length (doubled q t)) l) (append_assoc (doubled q t) (q ∷ []) rest) ∙ take-append_seam (doubled q t) (q ∷ rest)

back : (q : ℕ) (t rest : List ℕ) → drop (length (doubled q t) + 1) ((doubled q t ++ q ∷ []) ++ rest) ≡ rest
back q t rest =
    let l : length (doubled q t) + 1 ≡ length (doubled q t ++ q ∷ []) = sym (length-append (doubled q t) (q ∷ [])) in
    rw l (drop-append_seam (doubled q t ++ q ∷ []) rest)

whole_back : (q : ℕ) (t rest : List ℕ) → drop (length (doubled q t) + 2) (q ∷ ((doubled q t ++ q ∷ []) ++ rest)) ≡ rest
whole_back q t rest =
    let z : length (doubled q t) + 2 ≡ suc (length (doubled q t) + 1) = omega arith in
    rw z (back q t rest)

literal_token : (t rest : List ℕ) → begins (λ c. c == 39) rest ≡ false → token_from 39 ((doubled 39 t ++ 39 ∷ []) ++ rest) ≡ text_literal (doubled 39 t)
unfolding token_from
literal_token t rest e =
    ap (λ o. text_by o ((doubled 39 t ++ 39 ∷ []) ++ rest)) (closes 39 t rest e) ∙ ap (λ l. text_literal l) (front 39 t rest)

-- a text, where no apostrophe follows
pub cut_literal : (at : ℕ) (t rest : List ℕ) → begins (λ c. c == 39) rest ≡ false
    → cut at (literal_text t ++ rest) ≡ record { at = at; token = text_literal (doubled 39 t) } ∷ cut (at + (length (doubled 39 t) + 2)) rest
cut_literal at t rest e =
    let c = cut_token at 39 ((doubled 39 t ++ 39 ∷ []) ++ rest) refl in
    rw (literal_token t rest e) at c ∙ ap (λ l. record { at = at; token = text_literal (doubled 39 t) } ∷ cut (at + (length (doubled 39 t) + 2)) l) (whole_back 39 t rest)

some_doubled : (q : ℕ) (t : List ℕ) → 0 < length t → 0 < length (doubled q t)
some_doubled q [] l = l
some_doubled q (b ∷ t) l =
    let P : Bool → Type 0 = λ v. 0 < length (if v then q ∷ q ∷ doubled q t else b ∷ doubled q t) in
    elim (b == q) as P [ true ↦ omega arith | false ↦ omega arith ]

name_token : (t rest : List ℕ) → 0 < length t → begins (λ c. c == 34) rest ≡ false → token_from 34 ((doubled 34 t ++ 34 ∷ []) ++ rest) ≡ quoted_name (is_called rest) (doubled 34 t)
unfolding token_from
name_token t rest some e =
    let bs = (doubled 34 t ++ 34 ∷ []) ++ rest in
    let l = some_doubled 34 t some in
    let z : (length (doubled 34 t) == 0) ≡ false = ne_eqb (length (doubled 34 t)) 0 (λ i. absurd (omega (arith, i, l))) in
    ap (λ o. name_by o bs) (closes 34 t rest e)
    ∙ (if_false (length (doubled 34 t) == 0) _ _ z
    ∙ (ap (λ x. quoted_name (is_called x) (take (length (doubled 34 t)) bs)) (back 34 t rest) ∙ ap (λ x. quoted_name (is_called rest) x) (front 34 t rest)))

-- a quoted name, where no quote follows
pub cut_quoted : (at : ℕ) (t rest : List ℕ) → 0 < length t → begins (λ c. c == 34) rest ≡ false
    → cut at (within_quotes 34 t ++ rest) ≡ record { at = at; token = quoted_name (is_called rest) (doubled 34 t) } ∷ cut (at + (length (doubled 34 t) + 2)) rest
cut_quoted at t rest some e =
    let c = cut_token at 34 ((doubled 34 t ++ 34 ∷ []) ++ rest) refl in
    rw (name_token t rest some e) at c ∙ ap (λ l. record { at = at; token = quoted_name (is_called rest) (doubled 34 t) } ∷ cut (at + (length (doubled 34 t) + 2)) l) (whole_back 34 t rest)
