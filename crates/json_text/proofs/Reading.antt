-- The reader's verdict along a token.
use Rattle.std.proofs.Common.{◌≡◌, ℕ, zero, suc, ◌+◌, ◌<◌, ◌≤◌, Bool, true, false, cond, ◌&&◌, ◌==◌, List, [], ◌∷◌, length, drop, get_or, Some, None, add-one, one-add, drop-cons, inl, inr, nat_lt, refl, sym, ◌∙◌, ap, arith}
use Rattle.std.specs.List.{prefix_len}
use Rattle.std.proofs.lemmas.Bool.Decides.{nat_tests}
use Rattle.std.proofs.lemmas.List.{length-drop, get_or-drop}
use Rattle.std.proofs.lemmas.List.Sums.{prefix_len_stops}
use Rattle.json_text.specs.Grammar.{is_blank, is_digit}
use Rattle.json_text.specs.Machine.{class, step, accepted, unfit, may_end, is_outside, moved, verdict, around_of, part_next, closes, to_text, to_name, number_next, may_end_number, digits_move, behind_number, word_move, may_end_value, colon_move}
use Rattle.json_text.specs.Judged.{after_taken, Takes, Closes, spelling_move}
use Rattle.json_text.specs.Runs.{is_plain}
use Rattle.json_text.proofs.Classes.{Means, class_means, class_digit}
use Rattle.json_text.specs.declared.bytes.Class.{Class}
use Rattle.json_text.specs.declared.bytes.Class.TheVariants.{Blank, Colon, Zero, Nonzero}
use Rattle.json_text.specs.declared.machine.Mode.{Mode}
use Rattle.json_text.specs.declared.machine.Mode.TheVariants.{ValueDue, ColonDue, Ended, InWord, InNumber, InText, InName}
use Rattle.json_text.specs.declared.machine.Letters.{Letters}
use Rattle.json_text.specs.declared.machine.Digits.{Digits}
use Rattle.json_text.specs.declared.machine.Part.{Part}
use Rattle.json_text.specs.declared.machine.Part.TheVariants.{Inside}
use Rattle.json_text.specs.declared.machine.Around.{Around}
use Rattle.json_text.specs.declared.machine.Move.{Move}
use Rattle.json_text.specs.declared.machine.Move.TheVariants.{To, Refuse}
use Rattle.json_text.specs.declared.machine.Due.TheVariants.{Value, Rest}
use Rattle.json_text.specs.declared.machine.Spelling.TheVariants.{More, Whole, Wrong}
use Rattle.json_text.specs.declared.tokens.Taken.{Taken}
use Rattle.json_text.specs.declared.tokens.Taken.TheVariants.{Next, Refused}
use Rattle.json_text.specs.declared.tokens.StringEnd.{StringEnd}
use Rattle.json_text.specs.declared.tokens.StringEnd.TheVariants.{Closed, Broken}

drop_nil : (k : ℕ) → drop {A = ℕ} k [] ≡ []
drop_nil zero = refl
drop_nil (suc k) = refl

pub drop_past : (s : List ℕ) (n : ℕ) → length s ≤ n → drop n s ≡ []
drop_past [] n h = drop_nil n
drop_past (x ∷ xs) zero h = absurd (omega arith)
drop_past (x ∷ xs) (suc n) h = drop_past xs n (omega arith)

-- the byte at a place
pub verdict_byte : (bytes : List ℕ) (m : Mode) (nest : List Bool) (at : ℕ) → at < length bytes
    → verdict (drop at bytes) m nest at ≡ moved (step m (around_of nest) (get_or bytes at 0)) nest at (λ n ns. verdict (drop (at + 1) bytes) n ns (at + 1))
unfolding verdict
verdict_byte bytes m nest at h =
    ap (λ l. verdict l m nest at) (drop-cons bytes at 0 h)
    ∙ ap (λ k. moved (step m (around_of nest) (get_or bytes at 0)) nest at (λ n ns. verdict (drop k bytes) n ns k)) (sym (add-one at))

pub verdict_move : (bytes : List ℕ) (m : Mode) (nest : List Bool) (at : ℕ) (around : Around) (r mv : Move) → at < length bytes → around ≡ around_of nest
    → r ≡ step m around (get_or bytes at 0) → r ≡ mv → moved mv nest at (λ n ns. verdict (drop (at + 1) bytes) n ns (at + 1)) ≡ verdict (drop at bytes) m nest at
verdict_move bytes m nest at around r mv h a e is =
    ap (λ x. moved x nest at (λ n ns. verdict (drop (at + 1) bytes) n ns (at + 1))) (sym is ∙ e ∙ ap (λ k. step m k (get_or bytes at 0)) a) ∙ sym (verdict_byte bytes m nest at h)

-- the end of the bytes
pub verdict_end : (bytes : List ℕ) (m : Mode) (nest : List Bool) (at : ℕ) → length bytes ≤ at → verdict (drop at bytes) m nest at ≡ cond (may_end m nest) accepted (unfit at)
unfolding verdict
verdict_end bytes m nest at h = ap (λ l. verdict l m nest at) (drop_past bytes at h)

-- a byte after which the same is due, or something else
pub verdict_to : (bytes : List ℕ) (m next : Mode) (nest : List Bool) (at : ℕ) → at < length bytes → step m (around_of nest) (get_or bytes at 0) ≡ To next
    → verdict (drop at bytes) m nest at ≡ verdict (drop (at + 1) bytes) next nest (at + 1)
verdict_to bytes m next nest at h e =
    verdict_byte bytes m nest at h ∙ ap (λ mv. moved mv nest at (λ n ns. verdict (drop (at + 1) bytes) n ns (at + 1))) e

pub verdict_refused : (bytes : List ℕ) (m : Mode) (nest : List Bool) (at : ℕ) → at < length bytes → step m (around_of nest) (get_or bytes at 0) ≡ Refuse
    → verdict (drop at bytes) m nest at ≡ unfit at
verdict_refused bytes m nest at h e =
    verdict_byte bytes m nest at h ∙ ap (λ mv. moved mv nest at (λ n ns. verdict (drop (at + 1) bytes) n ns (at + 1))) e

-- a place where nothing may end
none_ends : (b : Bool) (at : ℕ) → cond (b && false) accepted (unfit at) ≡ unfit at
none_ends true at = refl
none_ends false at = refl

-- ---- a run of bytes after which the same is due

run_step : (c : ℕ) (cs : List ℕ) (m : Mode) (nest : List Bool) (at k : ℕ) (b : Bool) → (b ≡ true → step m (around_of nest) c ≡ To m)
    → verdict cs m nest (suc at) ≡ verdict (drop k cs) m nest (suc at + k) → verdict (c ∷ cs) m nest at ≡ verdict (drop (cond b (1 + k) 0) (c ∷ cs)) m nest (at + cond b (1 + k) 0)
unfolding verdict
run_step c cs m nest at k true h e =
    let one : drop (1 + k) (c ∷ cs) ≡ drop k cs = ap (λ n. drop n (c ∷ cs)) (one-add k) in
    let place : suc at + k ≡ at + (1 + k) = omega arith in
    ap (λ mv. moved mv nest at (λ n ns. verdict cs n ns (suc at))) (h refl) ∙ e ∙ ap (λ n. verdict (drop k cs) m nest n) place ∙ ap (λ l. verdict l m nest (at + (1 + k))) (sym one)
run_step c cs m nest at k false h e = ap (λ n. verdict (c ∷ cs) m nest n) (sym (zero_more at))
  where
    zero_more : (n : ℕ) → n + 0 ≡ n
    zero_more n = omega arith

run : (test : ℕ → Bool) (m : Mode) (nest : List Bool) → ((c : ℕ) → test c ≡ true → step m (around_of nest) c ≡ To m) → (cs : List ℕ) (at : ℕ)
    → verdict cs m nest at ≡ verdict (drop (prefix_len test cs) cs) m nest (at + prefix_len test cs)
run test m nest h [] at = ap (verdict [] m nest) (zero_more at)
  where
    zero_more : (n : ℕ) → n ≡ n + 0
    zero_more n = omega arith
run test m nest h (c ∷ cs) at = run_step c cs m nest at (prefix_len test cs) (test c) (h c) (run test m nest h cs (suc at))

pub drop_more : (s : List ℕ) (i n : ℕ) → drop n (drop i s) ≡ drop (i + n) s
drop_more s zero n = ap (λ k. drop k s) (zero_first n)
  where
    zero_first : (k : ℕ) → k ≡ 0 + k
    zero_first k = omega arith
drop_more [] (suc i) n = drop_past [] n (omega arith) ∙ sym (drop_past [] (suc i + n) (omega arith))
drop_more (x ∷ xs) (suc i) n = drop_more xs i n ∙ ap (λ k. drop k (x ∷ xs)) (suc_first i n)
  where
    suc_first : (j k : ℕ) → suc (j + k) ≡ suc j + k
    suc_first j k = omega arith

pub run_at : (test : ℕ → Bool) (m : Mode) (nest : List Bool) → ((c : ℕ) → test c ≡ true → step m (around_of nest) c ≡ To m) → (bytes : List ℕ) (from at : ℕ)
    → at ≡ from + prefix_len test (drop from bytes) → verdict (drop at bytes) m nest at ≡ verdict (drop from bytes) m nest from
run_at test m nest h bytes from at e =
    ap (λ k. verdict (drop k bytes) m nest k) e
    ∙ ap (λ l. verdict l m nest (from + prefix_len test (drop from bytes))) (sym (drop_more bytes from (prefix_len test (drop from bytes))))
    ∙ sym (run test m nest h (drop from bytes) from)

-- ---- blanks

pub colon_blank : (nest : List Bool) (c : ℕ) → is_blank c ≡ true → step ColonDue (around_of nest) c ≡ To ColonDue
unfolding step
colon_blank nest c h = rw h refl

pub value_blank : (nest : List Bool) (c : ℕ) → is_blank c ≡ true → step ValueDue (around_of nest) c ≡ To ValueDue
unfolding step
value_blank nest c h = rw h refl

-- ---- strings

module _ (bytes : List ℕ) (part : Part) (at : ℕ) where
  pub closes_past : length bytes ≤ at → Closes bytes part at (Broken at)
  closes_past h = record {
    text = λ nest. sym (verdict_end bytes (InText part) nest at h ∙ none_ends (is_outside nest) at);
    name = λ nest. sym (verdict_end bytes (InName part) nest at h ∙ none_ends (is_outside nest) at);
  }

  pub closes_here : at < length bytes → closes part (get_or bytes at 0) ≡ true → Closes bytes part at (Closed (at + 1))
  unfolding step
  closes_here h e = record {
    text = λ nest. sym (verdict_to bytes (InText part) Ended nest at h (ap (λ b. cond b (To Ended) (to_text (part_next part (get_or bytes at 0)))) e));
    name = λ nest. sym (verdict_to bytes (InName part) ColonDue nest at h (ap (λ b. cond b (To ColonDue) (to_name (part_next part (get_or bytes at 0)))) e));
  }

  pub closes_wrong : at < length bytes → closes part (get_or bytes at 0) ≡ false → part_next part (get_or bytes at 0) ≡ None → Closes bytes part at (Broken at)
  unfolding step
  closes_wrong h e x = record {
    text = λ nest. sym (verdict_refused bytes (InText part) nest at h (ap (λ b. cond b (To Ended) (to_text (part_next part (get_or bytes at 0)))) e ∙ ap to_text x));
    name = λ nest. sym (verdict_refused bytes (InName part) nest at h (ap (λ b. cond b (To ColonDue) (to_name (part_next part (get_or bytes at 0)))) e ∙ ap to_name x));
  }

  pub closes_on : (next : Part) (end : StringEnd) → at < length bytes → closes part (get_or bytes at 0) ≡ false → part_next part (get_or bytes at 0) ≡ Some next
      → Closes bytes next (at + 1) end → Closes bytes part at end
  unfolding step
  closes_on next end h e x k = record {
    text = λ nest. k.text nest ∙ sym (verdict_to bytes (InText part) (InText next) nest at h (ap (λ b. cond b (To Ended) (to_text (part_next part (get_or bytes at 0)))) e ∙ ap to_text x));
    name = λ nest. k.name nest ∙ sym (verdict_to bytes (InName part) (InName next) nest at h (ap (λ b. cond b (To ColonDue) (to_name (part_next part (get_or bytes at 0)))) e ∙ ap to_name x));
  }

text_plain : (nest : List Bool) (c : ℕ) → is_plain c ≡ true → step (InText Inside) (around_of nest) c ≡ To (InText Inside)
unfolding step
text_plain nest c h =
    let q : (c == 34) ≡ false = grind (arith, nat_tests) in
    let s : (c == 92) ≡ false = grind (arith, nat_tests) in
    let l : nat_lt c 32 ≡ false = grind (arith, nat_tests) in
    rw (q, s, l) refl

name_plain : (nest : List Bool) (c : ℕ) → is_plain c ≡ true → step (InName Inside) (around_of nest) c ≡ To (InName Inside)
unfolding step
name_plain nest c h =
    let q : (c == 34) ≡ false = grind (arith, nat_tests) in
    let s : (c == 92) ≡ false = grind (arith, nat_tests) in
    let l : nat_lt c 32 ≡ false = grind (arith, nat_tests) in
    rw (q, s, l) refl

pub plain_closes : (bytes : List ℕ) (from at : ℕ) (end : StringEnd) → at ≡ from + prefix_len is_plain (drop from bytes) → Closes bytes Inside at end → Closes bytes Inside from end
plain_closes bytes from at end e x = record {
  text = λ nest. x.text nest ∙ run_at is_plain (InText Inside) nest (text_plain nest) bytes from at e;
  name = λ nest. x.name nest ∙ run_at is_plain (InName Inside) nest (name_plain nest) bytes from at e;
}

-- ---- from one place in a token to the next

pub takes_same : (taken : Taken) (bytes : List ℕ) (m n : Mode) (from at : ℕ) → ((nest : List Bool) → verdict (drop at bytes) n nest at ≡ verdict (drop from bytes) m nest from)
    → Takes taken bytes n at → Takes taken bytes m from
takes_same taken bytes m n from at e x = record { same = λ nest. x.same nest ∙ e nest }

pub takes_on : (taken : Taken) (bytes : List ℕ) (m next : Mode) (at : ℕ) → at < length bytes → ((nest : List Bool) → step m (around_of nest) (get_or bytes at 0) ≡ To next)
    → Takes taken bytes next (at + 1) → Takes taken bytes m at
takes_on taken bytes m next at h e x = record { same = λ nest. x.same nest ∙ sym (verdict_to bytes m next nest at h (e nest)) }

pub takes_wrong : (bytes : List ℕ) (m : Mode) (at : ℕ) → at < length bytes → ((nest : List Bool) → step m (around_of nest) (get_or bytes at 0) ≡ Refuse)
    → Takes (Refused at) bytes m at
takes_wrong bytes m at h e = record { same = λ nest. sym (verdict_refused bytes m nest at h (e nest)) }

pub takes_past : (bytes : List ℕ) (m : Mode) (at : ℕ) → length bytes ≤ at → may_end_value m ≡ false → Takes (Refused at) bytes m at
takes_past bytes m at h e = record {
  same = λ nest. sym (verdict_end bytes m nest at h ∙ ap (λ b. cond (is_outside nest && b) accepted (unfit at)) e ∙ none_ends (is_outside nest) at);
}

-- ---- numbers

pub digit_passes : (d : Digits) (nest : List Bool) (c : ℕ) → number_next d Zero ≡ Some d → number_next d Nonzero ≡ Some d → is_digit c ≡ true
    → step (InNumber d) (around_of nest) c ≡ To (InNumber d)
unfolding step
digit_passes d nest c z n h =
    elim (class_digit c h) [
      | inl e ↦ ap (λ k. digits_move (number_next d k) d (around_of nest) k) e ∙ ap (λ o. digits_move o d (around_of nest) Zero) z
      | inr e ↦ ap (λ k. digits_move (number_next d k) d (around_of nest) k) e ∙ ap (λ o. digits_move o d (around_of nest) Nonzero) n
    ]

module _ (bytes : List ℕ) (d : Digits) (at : ℕ) where
  ended_by : (b : Bool) → may_end_number d ≡ b → at < length bytes → number_next d (class (get_or bytes at 0)) ≡ None
      → (nest : List Bool) → after_taken (cond b (Next Rest at) (Refused at)) bytes nest ≡ verdict (drop at bytes) (InNumber d) nest at
  unfolding step
  ended_by true m h e nest =
      let falls : step (InNumber d) (around_of nest) (get_or bytes at 0) ≡ step Ended (around_of nest) (get_or bytes at 0) =
      ap (λ o. digits_move o d (around_of nest) (class (get_or bytes at 0))) e ∙ ap (λ b. behind_number b (around_of nest) (class (get_or bytes at 0))) m in
      verdict_byte bytes Ended nest at h ∙ ap (λ mv. moved mv nest at (λ n ns. verdict (drop (at + 1) bytes) n ns (at + 1))) (sym falls) ∙ sym (verdict_byte bytes (InNumber d) nest at h)
  ended_by false m h e nest =
      let refused : step (InNumber d) (around_of nest) (get_or bytes at 0) ≡ Refuse =
      ap (λ o. digits_move o d (around_of nest) (class (get_or bytes at 0))) e ∙ ap (λ b. behind_number b (around_of nest) (class (get_or bytes at 0))) m in
      sym (verdict_refused bytes (InNumber d) nest at h refused)

  past_by : (b : Bool) → may_end_number d ≡ b → length bytes ≤ at
      → (nest : List Bool) → after_taken (cond b (Next Rest at) (Refused at)) bytes nest ≡ verdict (drop at bytes) (InNumber d) nest at
  past_by true m h nest =
      verdict_end bytes Ended nest at h ∙ ap (λ b. cond (is_outside nest && b) accepted (unfit at)) (sym m) ∙ sym (verdict_end bytes (InNumber d) nest at h)
  past_by false m h nest =
      sym (verdict_end bytes (InNumber d) nest at h ∙ ap (λ b. cond (is_outside nest && b) accepted (unfit at)) m ∙ none_ends (is_outside nest) at)

  pub number_ended : (taken : Taken) → taken ≡ cond (may_end_number d) (Next Rest at) (Refused at) → at < length bytes → number_next d (class (get_or bytes at 0)) ≡ None
      → Takes taken bytes (InNumber d) at
  number_ended taken e h x = record { same = λ nest. ap (λ t. after_taken t bytes nest) e ∙ ended_by (may_end_number d) refl h x nest }

  pub number_past : (taken : Taken) → taken ≡ cond (may_end_number d) (Next Rest at) (Refused at) → length bytes ≤ at → Takes taken bytes (InNumber d) at
  number_past taken e h = record { same = λ nest. ap (λ t. after_taken t bytes nest) e ∙ past_by (may_end_number d) refl h nest }

pub number_on : (bytes : List ℕ) (d : Digits) (at : ℕ) → at < length bytes → (next : Digits) (taken : Taken) → number_next d (class (get_or bytes at 0)) ≡ Some next
    → Takes taken bytes (InNumber next) (at + 1) → Takes taken bytes (InNumber d) at
unfolding step
number_on bytes d at h next taken e x =
    takes_on taken bytes (InNumber d) (InNumber next) at h (λ nest. ap (λ o. digits_move o d (around_of nest) (class (get_or bytes at 0))) e) x

-- ---- words

module _ (bytes : List ℕ) (letters : Letters) (at : ℕ) (h : at < length bytes) where
  pub word_on : (taken : Taken) (next : Letters) → spelling_move (More next) ≡ word_move letters (get_or bytes at 0) → Takes taken bytes (InWord next) (at + 1)
      → Takes taken bytes (InWord letters) at
  unfolding step
  word_on taken next e x = takes_on taken bytes (InWord letters) (InWord next) at h (λ nest. sym e) x

  pub word_whole : spelling_move Whole ≡ word_move letters (get_or bytes at 0) → Takes (Next Rest (at + 1)) bytes (InWord letters) at
  unfolding step
  word_whole e = record { same = λ nest. sym (verdict_to bytes (InWord letters) Ended nest at h (sym e)) }

  pub word_wrong : spelling_move Wrong ≡ word_move letters (get_or bytes at 0) → Takes (Refused at) bytes (InWord letters) at
  unfolding step
  word_wrong e = takes_wrong bytes (InWord letters) at h (λ nest. sym e)

-- ---- colons

clash : true ≡ false → ⊥
clash e = cc

colon_refused : (c : ℕ) (k : Class) → Means k c → is_blank c ≡ false → (c ≡ 58 → ⊥) → colon_move k ≡ Refuse
colon_refused c Blank m b h = absurd (clash (sym m ∙ b))
colon_refused c Colon m b h = absurd (h m)
colon_refused c k m b h = refl

module _ (bytes : List ℕ) (from colon : ℕ) (e : colon ≡ from + prefix_len is_blank (drop from bytes)) where
  to_colon : (taken : Taken) → Takes taken bytes ColonDue colon → Takes taken bytes ColonDue from
  to_colon taken x = takes_same taken bytes ColonDue ColonDue from colon (λ nest. run_at is_blank ColonDue nest (colon_blank nest) bytes from colon e) x

  pub colon_past : length bytes ≤ colon → Takes (Refused colon) bytes ColonDue from
  colon_past h = to_colon (Refused colon) (takes_past bytes ColonDue colon h refl)

  pub colon_here : (end : ℕ) → colon < length bytes → get_or bytes colon 0 ≡ 58 → end ≡ colon + 1 + prefix_len is_blank (drop (colon + 1) bytes)
      → Takes (Next Value end) bytes ColonDue from
  unfolding step
  colon_here end h c f =
      to_colon (Next Value end)
      (record {
        same = λ nest.
            run_at is_blank ValueDue nest (value_blank nest) bytes (colon + 1) end f
            ∙ sym (verdict_to bytes ColonDue ValueDue nest colon h (ap (λ k. colon_move (class k)) c));
      })

  pub colon_wrong : from ≤ length bytes → colon < length bytes → (get_or bytes colon 0 ≡ 58 → ⊥) → Takes (Refused colon) bytes ColonDue from
  unfolding step
  colon_wrong w h c =
      let firm : is_blank (get_or bytes colon 0) ≡ false =
      ap (λ k. is_blank (get_or bytes k 0)) e ∙ ap is_blank (sym (get_or-drop from bytes (prefix_len is_blank (drop from bytes)) 0))
      ∙ prefix_len_stops is_blank (drop from bytes) 0 (omega (arith, length-drop from bytes)) in
      to_colon (Refused colon)
      (takes_wrong bytes ColonDue colon h (λ nest. colon_refused (get_or bytes colon 0) (class (get_or bytes colon 0)) (class_means (get_or bytes colon 0)) firm c))
