-- Blanks in front and at the end.
use Rattle.std.proofs.Common.{◌≡◌, ℕ, suc, ◌+◌, ◌-◌, ◌<◌, ◌≤◌, Bool, true, false, cond, List, [], ◌∷◌, ◌++◌, length, take, drop, get_or, one-add, refl, sym, ◌∙◌, ap, subst, arith}
use Rattle.std.proofs.lemmas.Bool.Decides.{nat_tests}
use Rattle.std.proofs.lemmas.List.Sums.{prefix_len_passes, prefix_len-le-length}
use Rattle.std.proofs.lemmas.Str.{IsCharBoundary-after_ascii}
use Rattle.std.proofs.Math.Seq.{take-suc}
use Rattle.std.specs.List.{prefix_len}
use Rattle.std.specs.Str.{IsUtf8, IsCharBoundary}
use Rattle.json_text.specs.Grammar.{is_blank, AreBlanks, print}
use Rattle.json_text.specs.Texts.{IsText, levels}
use Rattle.json_text.specs.Trimmed.{glue, content, skip_blanks}
use Rattle.json_text.specs.Nodes.{IsNode, StandsIn}
use Rattle.json_text.proofs.Prints.{Kept, kept_is, kept_app, kept_firm, content_blank, skip_app, value_kept, value_front, value_front_apart}

pub blank_ascii : (c : ℕ) → is_blank c ≡ true → c < 128
blank_ascii c h = grind (arith, nat_tests)

drop_step : (c : ℕ) (cs : List ℕ) (b : Bool) → drop (prefix_len is_blank cs) cs ≡ skip_blanks cs
    → drop (cond b (1 + prefix_len is_blank cs) 0) (c ∷ cs) ≡ cond b (skip_blanks cs) (c ∷ cs)
drop_step c cs true ih = rw one-add ih
drop_step c cs false ih = refl

pub drop_prefix : (s : List ℕ) → drop (prefix_len is_blank s) s ≡ skip_blanks s
drop_prefix [] = refl
drop_prefix (c ∷ cs) = drop_step c cs (is_blank c) (drop_prefix cs)

pub front_boundary : (s : List ℕ) (n : ℕ) → n ≡ prefix_len is_blank s → IsUtf8 s → 0 < n → IsCharBoundary s n
front_boundary s n e u h =
    let within : n ≤ length s = omega (arith, prefix_len-le-length is_blank s) in
    let last : is_blank (get_or s (n - 1) 0) ≡ true = prefix_len_passes is_blank s (n - 1) 0 (omega arith) in
    let there : IsCharBoundary s (n - 1 + 1) = IsCharBoundary-after_ascii s (n - 1) u (omega arith) (blank_ascii _ last) in
    let same : n - 1 + 1 ≡ n = omega arith in
    subst (IsCharBoundary s) same there

-- ---- the end

content_app : (xs bs : List ℕ) → AreBlanks bs → content (xs ++ bs) ≡ content xs
content_app [] bs h = content_blank bs h
content_app (x ∷ xs) bs h = ap (glue x) (content_app xs bs h)

pub content_firm : (s : List ℕ) (n : ℕ) → n < length s → is_blank (get_or s n 0) ≡ false → content (take (suc n) s) ≡ take (suc n) s
content_firm s n l h =
    let k : Kept (take n s ++ get_or s n 0 ∷ []) (take n s ++ get_or s n 0 ∷ []) = kept_app (take n s) (kept_firm (get_or s n 0) [] [] h (record { is = refl })) in
    rw (take-suc s n 0 l) (kept_is k).is

pub content_less : (s : List ℕ) (n : ℕ) → n < length s → is_blank (get_or s n 0) ≡ true → content (take (suc n) s) ≡ content (take n s)
content_less s n l h = ap content (take-suc s n 0 l) ∙ content_app (take n s) (get_or s n 0 ∷ []) (h, tt)

pub end_boundary : (s : List ℕ) (n : ℕ) → n ≤ length s → (n < length s → get_or s n 0 < 128) → IsCharBoundary s n
end_boundary s n l h = (l, λ m high. absurd (omega (arith, h m)))

-- ---- the value of a text

pub text_token : (bytes : List ℕ) (x : IsText levels bytes) → content (skip_blanks bytes) ≡ print x.tree []
text_token bytes x =
    let k : Kept (print x.tree x.behind) (print x.tree []) = value_kept x.tree levels 0 x.valid (record { is = content_blank x.behind x.blank_behind }) in
    ap (λ l. content (skip_blanks l)) x.spelled
    ∙ ap content (skip_app x.before (print x.tree x.behind) x.blank_before ∙ value_front x.tree levels 0 x.behind x.valid)
    ∙ (kept_is k).is

pub text_node : (bytes token : List ℕ) → IsText levels bytes → token ≡ content (skip_blanks bytes) → IsNode token
text_node bytes token x e = record { tree = x.tree; spells = record { valid = x.valid; spelled = e ∙ text_token bytes x } }

pub text_stands : (bytes token : List ℕ) → IsText levels bytes → token ≡ content (skip_blanks bytes) → StandsIn bytes token
text_stands bytes token x e = record {
  before = x.before;
  behind = x.behind;
  blank_before = x.blank_before;
  blank_behind = x.blank_behind;
  spelled = x.spelled ∙ ap (λ l. x.before ++ l) (value_front_apart x.tree x.behind ∙ ap (λ l. l ++ x.behind) (sym (e ∙ text_token bytes x)));
}

pub firm_end : (s : List ℕ) (n : ℕ) → 0 < n → n ≤ length s → is_blank (get_or s (n - 1) 0) ≡ false → content (take n s) ≡ content s → take n s ≡ content s
firm_end s n h l f e =
    let one : suc (n - 1) ≡ n = omega arith in
    sym (subst (λ k. content (take k s) ≡ take k s) one (content_firm s (n - 1) (omega arith) f)) ∙ e

pub blank_end : (s : List ℕ) (n : ℕ) → 0 < n → n ≤ length s → is_blank (get_or s (n - 1) 0) ≡ true → content (take n s) ≡ content s → content (take (n - 1) s) ≡ content s
blank_end s n h l f e =
    let one : suc (n - 1) ≡ n = omega arith in
    sym (subst (λ k. content (take k s) ≡ content (take (n - 1) s)) one (content_less s (n - 1) (omega arith) f)) ∙ e
