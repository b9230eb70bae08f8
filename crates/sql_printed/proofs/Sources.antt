-- The source of a query is told again.
use Rattle.std.proofs.Common.{◌≡◌, ℕ, zero, suc, ◌+◌, ◌-◌, ◌≤◌, ◌==◌, ◌&&◌, not, nat_le, Bool, true, false, List, [], ◌∷◌, ◌++◌, length, drop, Option, Some, None, refl, sym, ap, ◌∙◌, subst, arith, append_assoc, codes, decimal}
use Rattle.std.specs.List.{prefix_len}
use Rattle.std.proofs.lemmas.Bool.{leb-true}
use Rattle.sql_tokens.specs.declared.class.Class.TheVariants as k
use Rattle.sql_tokens.specs.Keywords.{class_of_word}
use Rattle.sql_tokens.specs.TokenForms.{word, begins, is_blank, is_word_byte, is_called}
use Rattle.sql_tokens.specs.Cutting.{Symbol, cut}
use Rattle.grammar_rules.specs.Rules.{terminal, token, made, either}
use Rattle.grammar_rules.specs.Counted.{plain, given, both, past, before, many_from, bounded_from, item}
use Rattle.grammar_rules.specs.Spelled.{print_all}
use Rattle.grammar_rules.proofs.Printing.{spelled-token, spelled-room, spelled-many_from_nil, spelled-many_from_cons}
use Rattle.sql_grammar.specs.declared.tree.Name.{Name}
use Rattle.sql_grammar.specs.declared.tree.Step.{Step}
use Rattle.sql_grammar.specs.declared.tree.Step.TheVariants as step
use Rattle.sql_grammar.specs.Marks.{Fault, class, of, is_name, name, digits, is_source}
use Rattle.sql_grammar.specs.Queries.{named_step, element_step, all_step, own_step, source_step, over_step, steps, source_steps, alias, source}
use Rattle.sql_printed.specs.Shown.{name_text}
use Rattle.sql_printed.specs.Printed.{step_text, steps_front, alias_text, source_text}
use Rattle.sql_printed.proofs.Telling.{is_clear, Cuts, IsWord, Told, cuts-into, cuts-past, cuts-before, cuts-sequence, cuts-nothing, fit-one, fit-append}
use Rattle.sql_printed.proofs.Words.{and_left, and_right, cut_word, dot, left_bracket, right_bracket, star}
use Rattle.sql_printed.proofs.Names.{after_name, clear_name}
use Rattle.sql_printed.proofs.Again.{AllGood, Again, good_left, good_right, good_one, taken_one, cuts-one}
use Rattle.sql_printed.proofs.Listed.{spelled_item}
use Rattle.sql_printed.proofs.Paths.{NameTold, any_name_told, name_one, digits_taken, digits_print, after_bracket}
use Rattle.sql_printed.proofs.Items.{names}

-- ---- steps

-- what is known of a step that was spelled
abbrev pub StepFit : Step → Type 0
StepFit (step.Member x) = NameTold is_name x
StepFit (step.Element n) = (nat_le 0 n && nat_le n 9223372036854775807) ≡ true
StepFit step.All = Unit {0}

abbrev pub StepsFit : List Step → Type 0
StepsFit [] = Unit {0}
StepsFit (s ∷ ss) = StepFit s × StepsFit ss

member_prints : (x : Name) → NameTold is_name x → (j place : ℕ) (rest : List ℕ) → after_name rest ≡ true → Cuts (own_step j) (step.Member x, j) (step_text (step.Member x)) rest place
member_prints x t j place rest a =
    let first = dot (name_text x ++ rest) place (t.starts rest) in
    let one = cuts-one name x (name_text x) rest first.next (name_one is_name x rest first.next (t.prints first.next rest a)) in
    let G = plain (made step.Member (terminal name)) in
    let body = cuts-into (terminal name) (G j) x (step.Member x, j) (name_text x) rest first.next (λ ts w. (step.Member x, refl, (x, refl, w))) one in
    cuts-into (named_step j) (own_step j) (step.Member x, j) (step.Member x, j) (step_text (step.Member x)) rest place (λ ts w. (true, w))
    (cuts-past (G j) (of k.Dot) (step.Member x, j) (codes ".") (name_text x) rest place first body)

element_prints : (x : ℕ) → (nat_le 0 x && nat_le x 9223372036854775807) ≡ true → (j place : ℕ) (rest : List ℕ) → Cuts (own_step j) (step.Element x, j) (step_text (step.Element x)) rest place
element_prints x t j place rest =
    let l = leb-true x 9223372036854775807 (and_right (nat_le 0 x) _ t) in
    let first = left_bracket place ((decimal x ++ codes "]") ++ rest) in
    let one = cuts-one digits x (decimal x) (codes "]" ++ rest) first.next (digits_print 0 9223372036854775807 x (codes "]" ++ rest) first.next (omega arith) t (after_bracket rest)) in
    let G = plain (made step.Element (terminal digits)) in
    let body = cuts-into (terminal digits) (G j) x (step.Element x, j) (decimal x) (codes "]" ++ rest) first.next (λ ts w. (step.Element x, refl, (x, refl, w))) one in
    let closed = cuts-before (G j) (of k.RightBracket) (step.Element x, j) (decimal x) (codes "]") rest first.next body (right_bracket body.next rest) in
    let B = before G (of k.RightBracket) in
    cuts-into (element_step j) (own_step j) (step.Element x, j) (step.Element x, j) (step_text (step.Element x)) rest place (λ ts w. (false, w))
    (cuts-past (B j) (of k.LeftBracket) (step.Element x, j) (codes "[") (decimal x ++ codes "]") rest place first closed)

all_prints : (j place : ℕ) (rest : List ℕ) → Cuts (all_step j) (step.All, j) (codes "[*]") rest place
all_prints j place rest =
    let first = left_bracket place (codes "*]" ++ rest) in
    let w = star first.next (codes "]" ++ rest) in
    let G = plain (made (λ s. step.All) (token (of k.Star))) in
    let body : Cuts (G j) (step.All, j) (codes "*") (codes "]" ++ rest) first.next =
    record { symbols = w.symbol ∷ []; next = w.next; is = w.is; spelled = (step.All, refl, (w.symbol, refl, spelled-token (of k.Star) w.symbol w.passes)); fit = fit-one w.symbol [] w.fit refl } in
    let closed = cuts-before (G j) (of k.RightBracket) (step.All, j) (codes "*") (codes "]") rest first.next body (right_bracket body.next rest) in
    let B = before G (of k.RightBracket) in
    cuts-past (B j) (of k.LeftBracket) (step.All, j) (codes "[") (codes "*]") rest place first closed

step_prints : (s : Step) → StepFit s → (j place : ℕ) (rest : List ℕ) → after_name rest ≡ true → Cuts (source_step j) (s, j) (step_text s) rest place
step_prints (step.Member x) t j place rest a = cuts-into (own_step j) (source_step j) (step.Member x, j) (step.Member x, j) (step_text (step.Member x)) rest place (λ ts w. (true, w)) (member_prints x t j place rest a)
step_prints (step.Element x) t j place rest a = cuts-into (own_step j) (source_step j) (step.Element x, j) (step.Element x, j) (step_text (step.Element x)) rest place (λ ts w. (true, w)) (element_prints x t j place rest)
step_prints step.All t j place rest a = cuts-into (all_step j) (source_step j) (step.All, j) (step.All, j) (codes "[*]") rest place (λ ts w. (false, w)) (all_prints j place rest)

-- a step that was spelled
record IsStep (n : ℕ) (p : Step × ℕ) : Type 0 where
  same : p.1 ≡ n
  fit : StepFit p.0

own_told : (n : ℕ) (p : Step × ℕ) (ts : List Symbol) → AllGood ts → (own_step n).Spells p ts → IsStep n p
own_told n p ts good (true, w) =
    let x = w.after in
    let y = x.2 in
    let t = taken_one name y.0 w.right y.2 in
    let g = good_one w.right t.symbol t.is (good_right ts w.left w.right w.joined good) in
    subst (IsStep n) (ap (λ s. (s, n)) y.1 ∙ x.1) (record { same = refl; fit = any_name_told t.symbol y.0 g t.taken })
own_told n p ts good (false, w) =
    let b = w.after in
    let x = b.whole in
    let y = x.2 in
    let t = taken_one digits y.0 b.left y.2 in
    subst (IsStep n) (ap (λ s. (s, n)) y.1 ∙ (x.1 ∙ b.after.1)) (record { same = refl; fit = digits_taken 0 9223372036854775807 t.symbol y.0 t.taken })

step_told : (n : ℕ) (p : Step × ℕ) (ts : List Symbol) → AllGood ts → (source_step n).Spells p ts → IsStep n p
step_told n p ts good (true, w) = own_told n p ts good w
step_told n p ts good (false, w) =
    let b = w.after in
    let x = b.whole in
    let y = x.2 in
    subst (IsStep n) (ap (λ s. (s, n)) y.1 ∙ (x.1 ∙ b.after.1)) (record { same = refl; fit = tt })

abbrev over : Symbol → Option Fault
over s = over_step (class s)

-- steps that were spelled
record AreSteps (most n : ℕ) (p : List Step × (ℕ × ℕ)) : Type 0 where
  fit : StepsFit p.0
  room : most ≡ length p.0 + p.1.0
  same : p.1.1 ≡ n

no_steps : (most n : ℕ) → AreSteps most n ([], (most, n))
no_steps most n = record { fit = tt; room = omega arith; same = refl }

steps_told : (b most n : ℕ) (p : List Step × (ℕ × ℕ)) (ts : List Symbol) → AllGood ts → (bounded_from b (item over source_step) (most, n)).Spells p ts → AreSteps most n p
steps_told zero most n p ts good w = subst (AreSteps most n) w.0 (no_steps most n)
steps_told (suc b) most n p ts good (false, w) = subst (AreSteps most n) w.0 (no_steps most n)
steps_told (suc b) most n p ts good (true, j) =
    let q = j.after.0 in
    let i = spelled_item over source_step most n j.value j.left j.whole in
    let s = step_told n (j.value.0, j.value.1.1) j.left (good_left ts j.left j.right j.joined good) i.spelled in
    let r = steps_told b j.value.1.0 j.value.1.1 q j.right (good_right ts j.left j.right j.joined good) j.after.2 in
    subst (AreSteps most n) j.after.1 (record { fit = (s.fit, r.fit); room = let x = i.room in let y = r.room in omega arith; same = r.same ∙ s.same })

-- ---- steps are printed

step_starts : (s : Step) (rest : List ℕ) → after_name (step_text s ++ rest) ≡ true
step_starts (step.Member x) rest = refl
step_starts (step.Element x) rest = refl
step_starts step.All rest = refl

steps_start : (xs : List Step) (rest : List ℕ) → after_name rest ≡ true → after_name (print_all step_text xs ++ rest) ≡ true
steps_start [] rest a = a
steps_start (x ∷ xs) rest a =
    let e : (step_text x ++ print_all step_text xs) ++ rest ≡ step_text x ++ (print_all step_text xs ++ rest) = append_assoc (step_text x) (print_all step_text xs) rest in
    rw e (step_starts x (print_all step_text xs ++ rest))

many_prints : (xs : List Step) → StepsFit xs → (i j place : ℕ) (rest : List ℕ) → after_name rest ≡ true → Cuts (many_from (item over source_step) (length xs + i, j)) (xs, (i, j)) (print_all step_text xs) rest place
many_prints [] f i j place rest a =
    let z : 0 + i ≡ i = omega arith in
    rw z (cuts-nothing (many_from (item over source_step) (i, j)) ([], (i, j)) rest place (spelled-many_from_nil (item over source_step) (i, j)))
many_prints (x ∷ xs) f i j place rest a =
    let more = print_all step_text xs in
    let room : suc (length xs) + i ≡ suc (length xs + i) = omega arith in
    let first = step_prints x f.0 j place (more ++ rest) (steps_start xs rest a) in
    let second = many_prints xs f.1 i j first.next rest a in
    let e : (step_text x ++ more) ++ rest ≡ step_text x ++ (more ++ rest) = append_assoc (step_text x) more rest in
    let one = spelled-room over source_step (suc (length xs + i)) (length xs + i) j j x first.symbols refl first.spelled in
    rw room (record {
      symbols = first.symbols ++ second.symbols;
      next = second.next;
      is = rw e (first.is ∙ ap (λ l. first.symbols ++ l) second.is ∙ sym (append_assoc first.symbols second.symbols (cut second.next rest)));
      spelled = spelled-many_from_cons (item over source_step) (suc (length xs + i), j) (length xs + i, j) (i, j) x xs first.symbols second.symbols one second.spelled;
      fit = fit-append first.symbols second.symbols first.fit second.fit;
    })

steps_print : (most : ℕ) (xs : List Step) → StepsFit xs → length xs ≤ most → (j place : ℕ) (rest : List ℕ) → after_name rest ≡ true → Cuts (steps most j) (xs, j) (print_all step_text xs) rest place
steps_print most xs f l j place rest a =
    let i = most - length xs in
    let z : length xs + i ≡ most = omega arith in
    let c = many_prints xs f i j place rest a in
    subst (λ m. Cuts (steps m j) (xs, j) (print_all step_text xs) rest place) z
    (cuts-into (many_from (item over source_step) (length xs + i, j)) (steps (length xs + i) j) (xs, (i, j)) (xs, j) (print_all step_text xs) rest place (λ ts w. ((xs, (i, j)), refl, w)) c)

behind_own : (s : Step) (xs : List Step) → StepsFit xs → length (s ∷ xs) ≤ 64 → (j place : ℕ) (rest : List ℕ) → after_name rest ≡ true
    → ((more : List ℕ) → after_name more ≡ true → Cuts (own_step j) (s, j) (step_text s) more place) → Cuts (source_steps j) (s ∷ xs, j) (step_text s ++ print_all step_text xs) rest place
behind_own s xs f l j place rest a own =
    let more = print_all step_text xs in
    let first = own (more ++ rest) (steps_start xs rest a) in
    let second = steps_print 63 xs f (omega (arith, l)) j first.next rest a in
    let boxed = cuts-into (steps 63 j) (given (λ r. s ∷ r) (steps 63) j) (xs, j) (s ∷ xs, j) more rest first.next (λ ts w. ((xs, j), refl, w)) second in
    let H = λ (p : Step × ℕ). given (λ r. p.0 ∷ r) (steps 63) p.1 in
    let c = cuts-sequence (own_step j) H (s, j) (s ∷ xs, j) (step_text s) more rest place first boxed in
    record { symbols = c.symbols; next = c.next; is = c.is; spelled = (false, (true, c.spelled)); fit = c.fit }

source_steps_print : (xs : List Step) → StepsFit xs → length xs ≤ 64 → (j place : ℕ) (rest : List ℕ) → after_name rest ≡ true → Cuts (source_steps j) (xs, j) (steps_front xs ++ print_all step_text xs) rest place
source_steps_print [] f l j place rest a = cuts-nothing (source_steps j) ([], j) rest place (false, (false, (refl, refl)))
source_steps_print (step.Member x ∷ xs) f l j place rest a = behind_own (step.Member x) xs f.1 l j place rest a (λ more b. member_prints x f.0 j place more b)
source_steps_print (step.Element x ∷ xs) f l j place rest a = behind_own (step.Element x) xs f.1 l j place rest a (λ more b. element_prints x f.0 j place more)
source_steps_print (step.All ∷ xs) f l j place rest a =
    let more = print_all step_text (step.All ∷ xs) in
    let first = all_prints j place (more ++ rest) in
    let second = steps_print 64 (step.All ∷ xs) f l j first.next rest a in
    let c = cuts-sequence (all_step j) (λ p. steps 64 p.1) (step.All, j) (step.All ∷ xs, j) (codes "[*]") more rest place first second in
    record { symbols = c.symbols; next = c.next; is = c.is; spelled = (true, c.spelled); fit = c.fit }

-- ---- the source

-- the steps of a source, as many as may come
record StepsTold (most n : ℕ) (p : List Step × ℕ) : Type 0 where
  fit : StepsFit p.0
  room : length p.0 ≤ most
  same : p.1 ≡ n

steps_of : (most n : ℕ) (p : List Step × ℕ) (ts : List Symbol) → AllGood ts → (steps most n).Spells p ts → StepsTold most n p
steps_of most n p ts good w =
    let s = steps_told w.2.0 most n w.0 ts good w.2.1 in
    subst (StepsTold most n) w.1 (record { fit = s.fit; room = let r = s.room in omega (arith, r); same = s.same })

source_steps_told : (n : ℕ) (p : List Step × ℕ) (ts : List Symbol) → AllGood ts → (source_steps n).Spells p ts → StepsTold 64 n p
source_steps_told n p ts good (true, j) =
    let first = step_told n j.value j.left (good_left ts j.left j.right j.joined good) (false, j.whole) in
    let s = steps_of 64 j.value.1 p j.right (good_right ts j.left j.right j.joined good) j.after in
    record { fit = s.fit; room = s.room; same = s.same ∙ first.same }
source_steps_told n p ts good (false, (true, j)) =
    let first = own_told n j.value j.left (good_left ts j.left j.right j.joined good) j.whole in
    let x = j.after in
    let s = steps_of 63 j.value.1 x.0 j.right (good_right ts j.left j.right j.joined good) x.2 in
    subst (StepsTold 64 n) x.1 (record { fit = (first.fit, s.fit); room = let r = s.room in omega (arith, r); same = s.same ∙ first.same })
source_steps_told n p ts good (false, (false, w)) = subst (StepsTold 64 n) w.0 (record { fit = tt; room = omega arith; same = refl })

abbrev AliasFit : Option Name → Type 0
AliasFit None = Unit {0}
AliasFit (Some x) = NameTold is_name x

record AliasTold (n : ℕ) (p : Option Name × ℕ) : Type 0 where
  fit : AliasFit p.0
  same : p.1 ≡ n

names_told : (n : ℕ) (p : Name × ℕ) (ts : List Symbol) → AllGood ts → (names n).Spells p ts → AliasTold n (Some p.0, p.1)
names_told n p ts good w =
    let t = taken_one name w.0 ts w.2 in
    subst (λ v. AliasTold n (Some v.0, v.1)) w.1 (record { fit = any_name_told t.symbol w.0 (good_one ts t.symbol t.is good) t.taken; same = refl })

alias_told : (n : ℕ) (p : Option Name × ℕ) (ts : List Symbol) → AllGood ts → (alias n).Spells p ts → AliasTold n p
alias_told n p ts good (false, w) = subst (AliasTold n) w.0 (record { fit = tt; same = refl })
alias_told n p ts good (true, w) = subst (AliasTold n) w.1 (by w.2)
  where
    by : (either (past (of k.As) names n) (names n)).Spells w.0 ts → AliasTold n (Some w.0.0, w.0.1)
    by (true, v) = names_told n w.0 v.right (good_right ts v.left v.right v.joined good) v.after
    by (false, v) = names_told n w.0 ts good v

alias_print : (o : Option Name) → AliasFit o → (j place : ℕ) (rest : List ℕ) → is_clear rest ≡ true → Cuts (alias j) (o, j) (alias_text o) rest place
unfolding cut
alias_print None f j place rest c = cuts-nothing (alias j) (None, j) rest place (false, (refl, refl))
alias_print (Some x) f j place rest c =
    let one = name_one is_name x rest (place + 1) (f.prints (place + 1) rest (clear_name rest c)) in
    record { symbols = one.symbol ∷ []; next = one.next; is = one.is; spelled = (true, ((x, j), refl, (false, (x, refl, one.taken)))); fit = fit-one one.symbol [] one.fit refl }

blank_front : (r : List ℕ) → is_called (32 ∷ r) ≡ is_called r
blank_front r = let z : 1 + prefix_len is_blank r ≡ suc (prefix_len is_blank r) = omega arith in ap (λ n. begins (λ b. b == 40) (drop n (32 ∷ r))) z

alias_start : (o : Option Name) → AliasFit o → (rest : List ℕ) → is_clear rest ≡ true → after_name (alias_text o ++ rest) ≡ true
alias_start None f rest c = clear_name rest c
alias_start (Some x) f rest c = ap not (blank_front (name_text x ++ rest) ∙ f.uncalled rest)

not_true : (t : Bool) → not t ≡ true → t ≡ false
not_true true e = cc
not_true false e = refl

no_word : (rest : List ℕ) → after_name rest ≡ true → begins is_word_byte rest ≡ false
no_word rest a = not_true (begins is_word_byte rest) (and_left (not (begins is_word_byte rest)) (not (begins (λ c. c == 34) rest) && not (is_called rest)) a)

source_word : (rest : List ℕ) (place : ℕ) → begins is_word_byte rest ≡ false → IsWord (λ s. is_source (class s)) (codes "S3Object") rest place
unfolding class_of_word
source_word rest place b = record {
  symbol = record { at = place; token = word (is_called rest) (codes "S3Object") };
  next = place + 8;
  is = cut_word place (codes "S3Object") rest refl b;
  passes = elim (is_called rest) as (λ c. is_source (class_of_word c (codes "S3Object")) ≡ true) [ true ↦ refl | false ↦ refl ];
  fit = refl;
}

front_start : (xs : List Step) (rest : List ℕ) → after_name rest ≡ true → after_name ((steps_front xs ++ print_all step_text xs) ++ rest) ≡ true
front_start [] rest a = a
front_start (step.Member x ∷ xs) rest a = steps_start (step.Member x ∷ xs) rest a
front_start (step.Element x ∷ xs) rest a = steps_start (step.Element x ∷ xs) rest a
front_start (step.All ∷ xs) rest a = refl

source_told : (n : ℕ) (xs : List Step) (o : Option Name) → StepsFit xs → length xs ≤ 64 → AliasFit o → Told (λ f. source) 0 n n (xs, o) (source_text xs o)
unfolding source
source_told n xs o f l g = record {
  used = 0;
  within = omega arith;
  prints = λ e below j place rest c.
      let z : 0 + j ≡ j = omega arith in
      let text = steps_front xs ++ print_all step_text xs in
      let a = alias_start o g rest c in
      let same : text ++ alias_text o ≡ steps_front xs ++ (print_all step_text xs ++ alias_text o) = append_assoc (steps_front xs) (print_all step_text xs) (alias_text o) in
      let back : (text ++ alias_text o) ++ rest ≡ text ++ (alias_text o ++ rest) = append_assoc text (alias_text o) rest in
      let b : begins is_word_byte ((text ++ alias_text o) ++ rest) ≡ false = ap (λ q. begins is_word_byte q) back ∙ no_word (text ++ (alias_text o ++ rest)) (front_start xs (alias_text o ++ rest) a) in
      let first = source_word ((text ++ alias_text o) ++ rest) place b in
      let H = λ (p : List Step × ℕ). made (λ q. ((p.0, q.0), q.1)) (alias p.1) in
      let one = source_steps_print xs f l j first.next (alias_text o ++ rest) a in
      let two = alias_print o g j one.next rest c in
      let boxed = cuts-into (alias j) (H (xs, j)) (o, j) ((xs, o), j) (alias_text o) rest one.next (λ ts w. ((o, j), refl, w)) two in
      let body = cuts-sequence (source_steps j) H (xs, j) ((xs, o), j) text (alias_text o) rest first.next one boxed in
      let all = cuts-past (both source_steps alias j) (λ s. is_source (class s)) ((xs, o), j) (codes "S3Object") (text ++ alias_text o) rest place first body in
      rw z (subst (λ t. Cuts (source j) ((xs, o), j) (codes "S3Object" ++ t) rest place) same all);
}

pub source_again : Again source (λ f. source) 0 (λ p. source_text p.0 p.1)
unfolding source
source_again n p ts good w =
    let j = w.after in
    let g = good_right ts w.left w.right w.joined good in
    let s = source_steps_told n j.value j.left (good_left w.right j.left j.right j.joined g) j.whole in
    let q = j.after.0 in
    let a = alias_told j.value.1 q j.right (good_right w.right j.left j.right j.joined g) j.after.2 in
    let t = source_told n j.value.0 q.0 s.fit s.room a.fit in
    let m : n ≡ q.1 = sym (a.same ∙ s.same) in
    subst (λ v. Told (λ f. source) 0 n v.1 v.0 (source_text v.0.0 v.0.1)) j.after.1
    (subst (λ y. Told (λ f. source) 0 n y (j.value.0, q.0) (source_text j.value.0 q.0)) m t)
