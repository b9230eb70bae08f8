-- The value of a text as a function of its bytes.
use Rattle.std.proofs.Common.{◌≡◌, ℕ, zero, suc, ◌≤◌, ◌<◌, Bool, true, false, List, [], take, length, Ok, Err, refl, sym, ◌∙◌, ap, subst, arith, ⊎_elim, true≢false}
use Rattle.std.proofs.lemmas.Bool.{cases_lt, cond-true, cond-false}
use Rattle.std.proofs.lemmas.List.{take_all}
use Rattle.std.proofs.lemmas.Str.{IsUtf8-from_is_utf8, is_utf8-from_IsUtf8}
use Rattle.std.specs.Str.{IsUtf8, is_utf8, IsValidUpTo}
use Rattle.json_text.specs.Machine.{Verdict, accepted, unfit, too_deep, verdict}
use Rattle.json_text.specs.Nodes.{value_by, value_of, IsTold}
use Rattle.json_text.specs.Trimmed.{content, skip_blanks}
use Rattle.json_text.specs.declared.checking.JsonCode.TheVariants.{InvalidTextEncoding, JSONParsingError, JSONTooDeep}
use Rattle.json_text.specs.declared.machine.Mode.TheVariants.{ValueDue}
use Rattle.json_text.proofs.Trims.{text_node, text_stands}
use Rattle.json_text.proofs.Verdicts.{accepted_text, unfit_fault, deep_fault}

-- ---- what is told

no_text : (bytes : List ℕ) → ¬ (IsUtf8 bytes) → is_utf8 bytes ≡ false
no_text bytes h = by_test (is_utf8 bytes) refl
  where
    by_test : (b : Bool) → is_utf8 bytes ≡ b → is_utf8 bytes ≡ false
    by_test true e = absurd (h (IsUtf8-from_is_utf8 bytes e))
    by_test false e = e

pub told_encoding : (bytes : List ℕ) → ¬ (IsUtf8 bytes) → Err InvalidTextEncoding ≡ value_of bytes
unfolding value_of
told_encoding bytes h = sym (cond-false _ _ _ (no_text bytes h))

told_by : (bytes : List ℕ) (v : Verdict) → IsUtf8 bytes → v ≡ verdict bytes ValueDue [] 0 → value_by v bytes ≡ value_of bytes
unfolding value_of
told_by bytes v u e = ap (λ w. value_by w bytes) e ∙ sym (cond-true _ _ _ (is_utf8-from_IsUtf8 bytes u))

-- the text that was read is the bytes
module _ (bytes text raw : List ℕ) (same : text ≡ bytes) (read : raw ≡ text) (utf8 : IsUtf8 text) where
  at_bytes : verdict raw ValueDue [] 0 ≡ verdict bytes ValueDue [] 0
  at_bytes = ap (λ l. verdict l ValueDue [] 0) (read ∙ same)

  pub told_value : (token : List ℕ) → accepted ≡ verdict raw ValueDue [] 0 → token ≡ content (skip_blanks text) → Ok token ≡ value_of bytes
  told_value token v t = ap Ok (t ∙ ap (λ l. content (skip_blanks l)) same) ∙ told_by bytes accepted (subst IsUtf8 same utf8) (v ∙ at_bytes)

  pub told_unfit : (at : ℕ) → unfit at ≡ verdict raw ValueDue [] 0 → Err JSONParsingError ≡ value_of bytes
  told_unfit at v = told_by bytes (unfit at) (subst IsUtf8 same utf8) (v ∙ at_bytes)

  pub told_deep : (at : ℕ) → too_deep at ≡ verdict raw ValueDue [] 0 → Err JSONTooDeep ≡ value_of bytes
  told_deep at v = told_by bytes (too_deep at) (subst IsUtf8 same utf8) (v ∙ at_bytes)

-- ---- the longest front that is UTF-8

record Longest (bytes : List ℕ) (most n : ℕ) : Type 0 where
  within : n ≤ most
  front : IsUtf8 (take n bytes)
  longest : (k : ℕ) → n < k → k ≤ most → ¬ (IsUtf8 (take k bytes))

record HasLongest (bytes : List ℕ) (most : ℕ) : Type 0 where
  n : ℕ
  is : Longest bytes most n

longest_up_to : (bytes : List ℕ) (most : ℕ) → HasLongest bytes most
longest_up_to bytes zero = record { n = 0; is = record { within = omega arith; front = ([], (refl, refl)); longest = λ k above within. absurd (omega arith) } }
longest_up_to bytes (suc most) = by_test (longest_up_to bytes most) (is_utf8 (take (suc most) bytes)) refl
  where
    by_test : HasLongest bytes most → (b : Bool) → is_utf8 (take (suc most) bytes) ≡ b → HasLongest bytes (suc most)
    by_test rest true e = record {
      n = suc most;
      is = record { within = omega arith; front = IsUtf8-from_is_utf8 (take (suc most) bytes) e; longest = λ k above within. absurd (omega arith) };
    }
    by_test rest false e = record {
      n = rest.n;
      is = record {
        within = omega (arith, rest.is.within);
        front = rest.is.front;
        longest = λ k above within u. ⊎_elim
            (λ (top : most < k).
            let same : k ≡ suc most = omega arith in
            true≢false (sym (is_utf8-from_IsUtf8 _ (subst (λ m. IsUtf8 (take m bytes)) same u)) ∙ e))
            (λ (low : k ≤ most). rest.is.longest k above low u)
            (cases_lt most k);
      };
    }

stops_at : (bytes : List ℕ) (n : ℕ) → ¬ (IsUtf8 bytes) → Longest bytes (length bytes) n → IsValidUpTo bytes n
stops_at bytes n h x = record {
  short = ⊎_elim (λ (l : n < length bytes). l) (λ (past : length bytes ≤ n). absurd (h (subst IsUtf8 (take_all n bytes past) x.front))) (cases_lt n (length bytes));
  front = x.front;
  longest = λ m above u. ⊎_elim
      (λ (past : length bytes < m). h (subst IsUtf8 (take_all m bytes (omega arith)) u))
      (λ (low : m ≤ length bytes). x.longest m above low u)
      (cases_lt (length bytes) m);
}

-- ---- each text is told

told_text : (bytes : List ℕ) → IsUtf8 bytes → (v : Verdict) → verdict bytes ValueDue [] 0 ≡ v → IsTold bytes (value_of bytes)
told_text bytes u accepted e =
    let text = accepted_text bytes e in
    subst (IsTold bytes) (told_by bytes accepted u (sym e)) (u, text_stands bytes _ text refl, text_node bytes _ text refl)
told_text bytes u (unfit at) e = subst (IsTold bytes) (told_by bytes (unfit at) u (sym e)) (record { at = at; fault = (u, unfit_fault bytes at e) })
told_text bytes u (too_deep at) e = subst (IsTold bytes) (told_by bytes (too_deep at) u (sym e)) (record { at = at; fault = (u, deep_fault bytes at e) })

pub told : (bytes : List ℕ) → IsTold bytes (value_of bytes)
told bytes = by_test (is_utf8 bytes) refl
  where
    by_test : (b : Bool) → is_utf8 bytes ≡ b → IsTold bytes (value_of bytes)
    by_test true e = told_text bytes (IsUtf8-from_is_utf8 bytes e) (verdict bytes ValueDue [] 0) refl
    by_test false e =
        let no : ¬ (IsUtf8 bytes) = λ u. true≢false (sym (is_utf8-from_IsUtf8 bytes u) ∙ e) in
        let x = longest_up_to bytes (length bytes) in
        subst (IsTold bytes) (told_encoding bytes no) (record { at = x.n; fault = (no, stops_at bytes x.n no x.is) })
