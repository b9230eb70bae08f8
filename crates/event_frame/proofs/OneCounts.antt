-- A payload spells one count each, if it spells any.
use Rattle.std.proofs.Common.{◌≡◌, ℕ, ◌+◌, suc, ◌<◌, List, [], ◌∷◌, ◌++◌, length, get_or, Bool, true, false, cond, eqb, refl, sym, ap, ◌∙◌, arith, append_assoc}
use Rattle.std.specs.Prelude.{codes, ⊤}
use Rattle.std.specs.Char.{is_ascii_digit}
use Rattle.std.specs.Str.Parse.{digits_value}
use Rattle.std.proofs.lemmas.Bool.{eqb-true}
use Rattle.std.proofs.lemmas.List.{append_cancel_left}
use Rattle.std.proofs.lemmas.List.Sums.{sum_by-append, sum_by-cons}
use Rattle.std.specs.List.{sum_by}
use Rattle.event_frame.specs.declared.counts.Counts.{Counts}
use Rattle.event_frame.proofs.HeaderLaws.{head_of, tail_of}
use Rattle.event_frame.specs.CountsText.{CountsText, IsNumber, SpellsCounts, ReadsCounts, declaration, opening, print_element, print_counts}

-- ---- digits

abbrev AreDigits : List ℕ → Type 0
AreDigits [] = ⊤
AreDigits (d ∷ digits) = (is_ascii_digit d ≡ true) × AreDigits digits

are_digits : (digits : List ℕ) → ((k : ℕ) → k < length digits → is_ascii_digit (get_or digits k 0) ≡ true) → AreDigits digits
are_digits [] each = tt
are_digits (d ∷ digits) each = (each 0 (omega arith), are_digits digits (λ k within. each (suc k) (omega arith)))

no_digit : (d : ℕ) → 60 ≡ d → is_ascii_digit d ≡ true → ⊥
no_digit d is digit = clash (ap is_ascii_digit is ∙ digit)
  where
    clash : is_ascii_digit 60 ≡ true → ⊥
    clash e = cc

-- digits up to a `<` are told by the text
same_digits : (ds es xs ys : List ℕ) → AreDigits ds → AreDigits es → ds ++ 60 ∷ xs ≡ es ++ 60 ∷ ys → (ds ≡ es) × (xs ≡ ys)
same_digits [] [] xs ys ads aes same = (refl, tail_of 60 60 xs ys same)
same_digits [] (e ∷ es) xs ys ads aes same = absurd (no_digit e (head_of 60 e xs (es ++ 60 ∷ ys) same) aes.0)
same_digits (d ∷ ds) [] xs ys ads aes same = absurd (no_digit d (sym (head_of d 60 (ds ++ 60 ∷ xs) ys same)) ads.0)
same_digits (d ∷ ds) (e ∷ es) xs ys ads aes same =
    let rest = same_digits ds es xs ys ads.1 aes.1 (tail_of d e (ds ++ 60 ∷ xs) (es ++ 60 ∷ ys) same) in
    (ap (λ n. n ∷ ds) (head_of d e (ds ++ 60 ∷ xs) (es ++ 60 ∷ ys) same) ∙ ap (λ l. e ∷ l) rest.0, rest.1)

-- a number with the same text behind it
same_field : (ds es behind xs ys : List ℕ) (n m : ℕ) → IsNumber ds n → IsNumber es m → ds ++ ((60 ∷ behind) ++ xs) ≡ es ++ ((60 ∷ behind) ++ ys)
    → (n ≡ m) × (xs ≡ ys)
same_field ds es behind xs ys n m is_n is_m same =
    let parts = same_digits ds es (behind ++ xs) (behind ++ ys) (are_digits ds is_n.are_digits) (are_digits es is_m.are_digits) same in
    (sym is_n.value ∙ ap (digits_value 10) parts.0 ∙ is_m.value, append_cancel_left behind xs ys parts.1)

-- ---- the element

-- the parts of an element, grouped from the end
regroup : (a b c d e f g h i : List ℕ) → (((((((a ++ b) ++ c) ++ d) ++ e) ++ f) ++ g) ++ h) ++ i
    ≡ a ++ (b ++ (c ++ (d ++ (e ++ (f ++ (g ++ (h ++ i)))))))
regroup a b c d e f g h i = simp append_assoc

pub record SameNumbers (a b c a' b' c' : ℕ) : Type 0 where
  pub first : a ≡ a'
  pub second : b ≡ b'
  pub third : c ≡ c'

-- three numbers with the same texts between them
same_numbers : (o o' s s' p p' r r' u v w name close : List ℕ) (a a' b b' c c' : ℕ) → IsNumber s a → IsNumber s' a' → IsNumber p b → IsNumber p' b' → IsNumber r c → IsNumber r' c'
    → ((x y : List ℕ) → o ++ x ≡ o' ++ y → x ≡ y)
    → (((((((o ++ s) ++ (60 ∷ u)) ++ p) ++ (60 ∷ v)) ++ r) ++ (60 ∷ w)) ++ name) ++ close
    ≡ (((((((o' ++ s') ++ (60 ∷ u)) ++ p') ++ (60 ∷ v)) ++ r') ++ (60 ∷ w)) ++ name) ++ close
    → SameNumbers a b c a' b' c'
same_numbers o o' s s' p p' r r' u v w name close a a' b b' c c' is_a is_a' is_b is_b' is_c is_c' cut same =
    let whole = sym (regroup o s (60 ∷ u) p (60 ∷ v) r (60 ∷ w) name close) ∙ same ∙ regroup o' s' (60 ∷ u) p' (60 ∷ v) r' (60 ∷ w) name close in
    let first = same_field s s' u _ _ a a' is_a is_a' (cut _ _ whole) in
    let second = same_field p p' v _ _ b b' is_b is_b' first.1 in
    let third = same_field r r' w _ _ c c' is_c is_c' second.1 in
    record { first = first.0; second = second.0; third = third.0 }

-- ---- the opening and the declaration

differs : (p u v w x y : List ℕ) → ((p ++ (32 ∷ u)) ++ v) ++ x ≡ ((p ++ []) ++ (62 ∷ w)) ++ y → ⊥
differs p u v w x y same =
    let left : ((p ++ (32 ∷ u)) ++ v) ++ x ≡ p ++ ((32 ∷ u) ++ (v ++ x)) = simp append_assoc in
    let right : ((p ++ []) ++ (62 ∷ w)) ++ y ≡ p ++ ([] ++ ((62 ∷ w) ++ y)) = simp append_assoc in
    clash (head_of 32 62 (u ++ (v ++ x)) (w ++ y) (append_cancel_left p (32 ∷ (u ++ (v ++ x))) (62 ∷ (w ++ y)) (sym left ∙ same ∙ right)))
  where
    clash : ◌≡◌ {A = ℕ} 32 62 → ⊥
    clash e = cc

same_opening : (name : List ℕ) (b b' : Bool) (x y : List ℕ) → opening name b ++ x ≡ opening name b' ++ y → x ≡ y
unfolding opening
same_opening name true true x y same = append_cancel_left (codes "<" ++ name ++ codes " xmlns=\"\"" ++ codes "><BytesScanned>") x y same
same_opening name false false x y same = append_cancel_left (codes "<" ++ name ++ [] ++ codes "><BytesScanned>") x y same
same_opening name true false x y same = absurd (differs (codes "<" ++ name) (codes "xmlns=\"\"") (codes "><BytesScanned>") (codes "<BytesScanned>") x y same)
same_opening name false true x y same = absurd (differs (codes "<" ++ name) (codes "xmlns=\"\"") (codes "><BytesScanned>") (codes "<BytesScanned>") y x (sym same))

pub record SameElements (c d : Counts) : Type 0 where
  pub scanned : c.scanned ≡ d.scanned
  pub processed : c.processed ≡ d.processed
  pub returned : c.returned ≡ d.returned

same_element : (name : List ℕ) (t t' : CountsText) (c d : Counts) → SpellsCounts t c → SpellsCounts t' d → print_element name t ≡ print_element name t' → SameElements c d
unfolding print_element
same_element name t t' c d spelled spelled' same =
    let numbers = same_numbers (opening name t.namespaced) (opening name t'.namespaced) t.scanned t'.scanned t.processed t'.processed t.returned t'.returned
    (codes "/BytesScanned><BytesProcessed>") (codes "/BytesProcessed><BytesReturned>") (codes "/BytesReturned></") name (codes ">")
    c.scanned d.scanned c.processed d.processed c.returned d.returned spelled.scanned spelled'.scanned spelled.processed spelled'.processed
    spelled.returned spelled'.returned (same_opening name t.namespaced t'.namespaced) same in
    record { scanned = numbers.first; processed = numbers.second; returned = numbers.third }

-- how many question marks stand in the bytes
mark : ℕ → ℕ
mark b = cond (eqb b 63) 1 0

marks : List ℕ → ℕ
marks bytes = sum_by mark bytes

marks-append : (xs ys : List ℕ) → marks (xs ++ ys) ≡ marks xs + marks ys
unfolding marks
marks-append xs ys = sum_by-append mark xs ys

marks-more : (b : ℕ) (bytes : List ℕ) → marks (b ∷ bytes) ≡ mark b + marks bytes
unfolding marks
marks-more b bytes = sum_by-cons mark b bytes

-- none among digits
mark-digit : (d : ℕ) → is_ascii_digit d ≡ true → mark d ≡ 0
unfolding mark
mark-digit d digit = other (eqb d 63) refl
  where
    clash : is_ascii_digit 63 ≡ true → ⊥
    clash e = cc

    other : (b : Bool) → eqb d 63 ≡ b → ◌≡◌ {A = ℕ} (cond b 1 0) 0
    other false e = refl
    other true e = absurd (clash (ap is_ascii_digit (sym (eqb-true d 63 e)) ∙ digit))

marks-digits : (digits : List ℕ) → AreDigits digits → marks digits ≡ 0
unfolding marks
marks-digits [] are = refl
marks-digits (d ∷ digits) are = omega (arith, marks-more d digits, mark-digit d are.0, marks-digits digits are.1)

marks-number : (digits : List ℕ) (n : ℕ) → IsNumber digits n → marks digits ≡ 0
marks-number digits n is = marks-digits digits (are_digits digits is.are_digits)

marks-opening : (name : List ℕ) (b : Bool) → marks (opening name b) ≡ marks name
unfolding opening marks mark
marks-opening name b =
    let none : marks (cond b (codes " xmlns=\"\"") []) ≡ 0 = of b in
    omega (
      arith,
      marks-append (codes "<" ++ name ++ cond b (codes " xmlns=\"\"") []) (codes "><BytesScanned>"),
      marks-append (codes "<" ++ name) (cond b (codes " xmlns=\"\"") []),
      marks-append (codes "<") name,
    )
  where
    of : (b : Bool) → marks (cond b (codes " xmlns=\"\"") []) ≡ 0
    of true = refl
    of false = refl

marks-parts : (a b c d e f g h i : List ℕ) → marks ((((((((a ++ b) ++ c) ++ d) ++ e) ++ f) ++ g) ++ h) ++ i)
    ≡ marks a + marks b + marks c + marks d + marks e + marks f + marks g + marks h + marks i
marks-parts a b c d e f g h i = simp marks-append

-- the texts between the numbers have none
record NoMarks : Type 0 where
  pub behind_scanned : marks (codes "</BytesScanned><BytesProcessed>") ≡ 0
  pub behind_processed : marks (codes "</BytesProcessed><BytesReturned>") ≡ 0
  pub behind_returned : marks (codes "</BytesReturned></") ≡ 0
  pub at_end : marks (codes ">") ≡ 0

no_marks : NoMarks
unfolding marks mark
no_marks = record { behind_scanned = refl; behind_processed = refl; behind_returned = refl; at_end = refl }

-- an element has those of its name, twice
marks-element : (name : List ℕ) (t : CountsText) (c : Counts) → SpellsCounts t c → marks (print_element name t) ≡ marks name + marks name
unfolding print_element
marks-element name t c spelled =
    marks-parts (opening name t.namespaced) t.scanned (codes "</BytesScanned><BytesProcessed>") t.processed (codes "</BytesProcessed><BytesReturned>")
    t.returned (codes "</BytesReturned></") name (codes ">")
    ∙ omega (
      arith,
      no_marks.behind_scanned,
      no_marks.behind_processed,
      no_marks.behind_returned,
      no_marks.at_end,
      marks-opening name t.namespaced,
      marks-number t.scanned c.scanned spelled.scanned,
      marks-number t.processed c.processed spelled.processed,
      marks-number t.returned c.returned spelled.returned,
    )

marks-declaration : marks declaration ≡ 2
unfolding marks mark
marks-declaration = refl

-- a declaration has two more, so that no element is one with an element of the same name behind it
undeclared : (name : List ℕ) (t t' : CountsText) (c d : Counts) → SpellsCounts t c → SpellsCounts t' d
    → declaration ++ print_element name t ≡ print_element name t' → ⊥
undeclared name t t' c d spelled spelled' same =
    let both : marks (declaration ++ print_element name t) ≡ marks (print_element name t') = ap marks same in
    omega (arith, marks-append declaration (print_element name t), marks-declaration, marks-element name t c spelled, marks-element name t' d spelled')

same_printed : (name : List ℕ) (b b' : Bool) (t t' : CountsText) (c d : Counts) → SpellsCounts t c → SpellsCounts t' d
    → cond b declaration [] ++ print_element name t ≡ cond b' declaration [] ++ print_element name t'
    → print_element name t ≡ print_element name t'
same_printed name true true t t' c d spelled spelled' same = append_cancel_left declaration (print_element name t) (print_element name t') same
same_printed name true false t t' c d spelled spelled' same = absurd (undeclared name t t' c d spelled spelled' same)
same_printed name false true t t' c d spelled spelled' same = absurd (undeclared name t' t d c spelled' spelled (sym same))
same_printed name false false t t' c d spelled spelled' same = same

counts : ℕ → ℕ → ℕ → Counts
counts scanned processed returned = record { scanned = scanned; processed = processed; returned = returned }

counts_are : (c d : Counts) → SameElements c d → c ≡ d
unfolding counts
counts_are c d same =
    ap (λ n. counts n c.processed c.returned) same.scanned ∙ ap (λ n. counts d.scanned n c.returned) same.processed
    ∙ ap (λ n. counts d.scanned d.processed n) same.returned

pub one_counts : (name payload : List ℕ) (c d : Counts) → ReadsCounts name payload c → ReadsCounts name payload d → c ≡ d
unfolding print_counts
one_counts name payload c d first second =
    counts_are c d
    (same_element name first.text second.text c d first.spelled second.spelled
    (same_printed name first.text.declared second.text.declared first.text second.text c d first.spelled second.spelled (sym first.printed ∙ second.printed)))
