-- A value's bytes within what stands around them.
use Rattle.std.proofs.Common.{◌≡◌, ℕ, suc, ◌⊎◌, inl, inr, Bool, true, false, cond, ◌||◌, ◌==◌, List, [], ◌∷◌, ◌++◌, refl, sym, ◌∙◌, ap, arith}
use Rattle.std.proofs.lemmas.Bool.Decides.{nat_tests}
use Rattle.json_text.specs.Grammar.{Json, null, truth, number, string, empty_array, array, empty_object, object, Element, element, Elements, no_elements, more_elements, Member, member, Members, no_members, more_members, Number, unsigned, negative, print_number, IsNumber, Int, zero_int, nonzero_int, print_int, IsInt, Frac, no_frac, frac, print_frac, IsFrac, Exp, no_exp, unsigned_exp, signed_exp, print_exp, IsExp, AreDigits, print, print_element, print_elements, print_member, print_members, IsValue, IsElement, AreElements, IsMember, AreMembers, AreBlanks, is_blank, is_digit, is_nonzero_digit}
use Rattle.json_text.specs.Trimmed.{glue, content, skip_blanks}

-- ---- without the blanks at the end

-- without the blanks at its end, the first is the second, which isn't empty
pub record Kept (us ws : List ℕ) : Type 0 where
  pub head : ℕ
  pub tail : List ℕ
  pub kept : content us ≡ head ∷ tail
  pub whole : ws ≡ head ∷ tail

-- the second is the first without the blanks at its end
pub record Trims (us ws : List ℕ) : Type 0 where
  pub is : content us ≡ ws

pub kept_is : {us ws : List ℕ} → Kept us ws → Trims us ws
kept_is k = record { is = k.kept ∙ sym k.whole }

pub kept_cons : (c : ℕ) {us ws : List ℕ} → Kept us ws → Kept (c ∷ us) (c ∷ ws)
kept_cons c k = record { head = c; tail = k.head ∷ k.tail; kept = ap (glue c) k.kept; whole = ap (λ l. c ∷ l) k.whole }

pub kept_app : (xs : List ℕ) {us ws : List ℕ} → Kept us ws → Kept (xs ++ us) (xs ++ ws)
kept_app [] k = k
kept_app (x ∷ xs) k = kept_cons x (kept_app xs k)

-- a byte that is no blank, before what may be blank
glue_firm : (c : ℕ) (ws : List ℕ) → is_blank c ≡ false → glue c ws ≡ c ∷ ws
glue_firm c [] h = rw h refl
glue_firm c (d ∷ ds) h = refl

pub kept_firm : (c : ℕ) (us ws : List ℕ) → is_blank c ≡ false → Trims us ws → Kept (c ∷ us) (c ∷ ws)
kept_firm c us ws h e = record { head = c; tail = ws; kept = ap (glue c) e.is ∙ glue_firm c ws h; whole = refl }

pub content_blank : (bs : List ℕ) → AreBlanks bs → content bs ≡ []
content_blank [] h = refl
content_blank (b ∷ bs) h = ap (glue b) (content_blank bs h.1) ∙ blank_glue (is_blank b) b h.0
  where
    blank_glue : (t : Bool) (c : ℕ) → t ≡ true → cond t [] (c ∷ []) ≡ []
    blank_glue t c e = rw e refl

-- ---- bytes of numbers are no blanks

nonzero_firm : (c : ℕ) → is_nonzero_digit c ≡ true → is_blank c ≡ false
nonzero_firm c h = grind (arith, nat_tests)

either : (x y : Bool) → (x || y) ≡ true → (x ≡ true) ⊎ (y ≡ true)
either true y h = inl refl
either false y h = inr h

eq_is : (c d : ℕ) → (c == d) ≡ true → c ≡ d
eq_is c d h = grind (arith, nat_tests)

pub digit_firm : (c : ℕ) → is_digit c ≡ true → is_blank c ≡ false
digit_firm c h = elim (either (c == 48) (is_nonzero_digit c) h) [ inl e ↦ ap is_blank (eq_is c 48 e) | inr e ↦ nonzero_firm c e ]

module _ {us ws : List ℕ} (e : Trims us ws) where
  digits_content : (ds : List ℕ) → AreDigits ds → Trims (ds ++ us) (ds ++ ws)
  digits_content [] h = e
  digits_content (d ∷ ds) h = kept_is (kept_firm d (ds ++ us) (ds ++ ws) (digit_firm d h.0) (digits_content ds h.1))

  digits_kept : (d : ℕ) (ds : List ℕ) → is_digit d ≡ true → AreDigits ds → Kept (d ∷ (ds ++ us)) (d ∷ (ds ++ ws))
  digits_kept d ds h v = kept_firm d (ds ++ us) (ds ++ ws) (digit_firm d h) (digits_content ds v)

  exp_content : (x : Exp) → IsExp x → Trims (print_exp x us) (print_exp x ws)
  exp_content no_exp h = e
  exp_content (unsigned_exp x d ds) h = kept_is (kept_cons x (digits_kept d ds h.1 h.2))
  exp_content (signed_exp x s d ds) h = kept_is (kept_cons x (kept_cons s (digits_kept d ds h.2 h.3)))

frac_content : {us ws : List ℕ} → Trims us ws → (f : Frac) → IsFrac f → Trims (print_frac f us) (print_frac f ws)
frac_content e no_frac h = e
frac_content e (frac d ds) h = kept_is (kept_cons 46 (digits_kept e d ds h.0 h.1))

int_kept : {us ws : List ℕ} → Trims us ws → (i : Int) → IsInt i → Kept (print_int i us) (print_int i ws)
int_kept {us} {ws} e zero_int h = kept_firm 48 us ws refl e
int_kept {us} {ws} e (nonzero_int d ds) h = kept_firm d (ds ++ us) (ds ++ ws) (nonzero_firm d h.0) (digits_content e ds h.1)

number_kept : {us ws : List ℕ} → Trims us ws → (n : Number) → IsNumber n → Kept (print_number n us) (print_number n ws)
number_kept e (unsigned i f x) h = int_kept (frac_content (exp_content e x h.2) f h.1) i h.0
number_kept e (negative i f x) h = kept_cons 45 (int_kept (frac_content (exp_content e x h.2) f h.1) i h.0)

-- ---- values

mutual
  unfolding print IsValue

  pub value_kept : (v : Json) (n d : ℕ) {us ws : List ℕ} → IsValue n d v → Trims us ws → Kept (print v us) (print v ws)
  value_kept null n d {us} {ws} h e = kept_cons 110 (kept_cons 117 (kept_cons 108 (kept_firm 108 us ws refl e)))
  value_kept (truth true) n d {us} {ws} h e = kept_cons 116 (kept_cons 114 (kept_cons 117 (kept_firm 101 us ws refl e)))
  value_kept (truth false) n d {us} {ws} h e = kept_cons 102 (kept_cons 97 (kept_cons 108 (kept_cons 115 (kept_firm 101 us ws refl e))))
  value_kept (number x) n d h e = number_kept e x h
  value_kept (string raw) n d {us} {ws} h e = kept_cons 34 (kept_app raw (kept_firm 34 us ws refl e))
  value_kept (empty_array b) n d {us} {ws} h e = kept_cons 91 (kept_app b (kept_firm 93 us ws refl e))
  value_kept (array x xs) n d h e = kept_cons 91 (element_kept x n (suc d) h.1 (elements_kept xs n (suc d) h.2 e))
  value_kept (empty_object b) n d {us} {ws} h e = kept_cons 123 (kept_app b (kept_firm 125 us ws refl e))
  value_kept (object m ms) n d h e = kept_cons 123 (member_kept m n (suc d) h.1 (members_kept ms n (suc d) h.2 e))

  pub element_kept : (x : Element) (n d : ℕ) {us ws : List ℕ} → IsElement n d x → Kept us ws → Kept (print_element x us) (print_element x ws)
  element_kept (element before v behind) n d h k = kept_app before (value_kept v n d h.1 (kept_is (kept_app behind k)))

  pub elements_kept : (xs : Elements) (n d : ℕ) {us ws : List ℕ} → AreElements n d xs → Trims us ws → Kept (print_elements xs us) (print_elements xs ws)
  elements_kept no_elements n d {us} {ws} h e = kept_firm 93 us ws refl e
  elements_kept (more_elements x xs) n d h e = kept_cons 44 (element_kept x n d h.0 (elements_kept xs n d h.1 e))

  pub member_kept : (m : Member) (n d : ℕ) {us ws : List ℕ} → IsMember n d m → Kept us ws → Kept (print_member m us) (print_member m ws)
  member_kept (member before name behind x) n d h k = kept_app before (kept_cons 34 (kept_app name (kept_cons 34 (kept_app behind (kept_cons 58 (element_kept x n d h.3 k))))))

  pub members_kept : (ms : Members) (n d : ℕ) {us ws : List ℕ} → AreMembers n d ms → Trims us ws → Kept (print_members ms us) (print_members ms ws)
  members_kept no_members n d {us} {ws} h e = kept_firm 125 us ws refl e
  members_kept (more_members m ms) n d h e = kept_cons 44 (member_kept m n d h.0 (members_kept ms n d h.1 e))

-- ---- without the blanks in front

pub skip_app : (bs us : List ℕ) → AreBlanks bs → skip_blanks (bs ++ us) ≡ skip_blanks us
skip_app [] us h = refl
skip_app (b ∷ bs) us h = ap (λ t. cond t (skip_blanks (bs ++ us)) (b ∷ (bs ++ us))) h.0 ∙ skip_app bs us h.1

firm_front : (c : ℕ) (cs : List ℕ) → is_blank c ≡ false → skip_blanks (c ∷ cs) ≡ c ∷ cs
firm_front c cs h = ap (λ t. cond t (skip_blanks cs) (c ∷ cs)) h

number_front : (n : Number) (rest : List ℕ) → IsNumber n → skip_blanks (print_number n rest) ≡ print_number n rest
number_front (unsigned zero_int f e) rest h = refl
number_front (unsigned (nonzero_int d ds) f e) rest h = firm_front d _ (nonzero_firm d h.0.0)
number_front (negative i f e) rest h = refl

pub value_front : (v : Json) (n d : ℕ) (rest : List ℕ) → IsValue n d v → skip_blanks (print v rest) ≡ print v rest
unfolding print IsValue
value_front null n d rest h = refl
value_front (truth true) n d rest h = refl
value_front (truth false) n d rest h = refl
value_front (number x) n d rest h = number_front x rest h
value_front (string raw) n d rest h = refl
value_front (empty_array b) n d rest h = refl
value_front (array x xs) n d rest h = refl
value_front (empty_object b) n d rest h = refl
value_front (object m ms) n d rest h = refl

-- ---- what follows isn't seen

pub app_assoc : (xs ys zs : List ℕ) → (xs ++ ys) ++ zs ≡ xs ++ (ys ++ zs)
app_assoc [] ys zs = refl
app_assoc (x ∷ xs) ys zs = ap (λ l. x ∷ l) (app_assoc xs ys zs)

exp_apart : (e : Exp) (us rest : List ℕ) → print_exp e (us ++ rest) ≡ print_exp e us ++ rest
exp_apart no_exp us rest = refl
exp_apart (unsigned_exp x d ds) us rest = ap (λ l. x ∷ d ∷ l) (sym (app_assoc ds us rest))
exp_apart (signed_exp x s d ds) us rest = ap (λ l. x ∷ s ∷ d ∷ l) (sym (app_assoc ds us rest))

frac_apart : (f : Frac) (us rest : List ℕ) → print_frac f (us ++ rest) ≡ print_frac f us ++ rest
frac_apart no_frac us rest = refl
frac_apart (frac d ds) us rest = ap (λ l. 46 ∷ d ∷ l) (sym (app_assoc ds us rest))

int_apart : (i : Int) (us rest : List ℕ) → print_int i (us ++ rest) ≡ print_int i us ++ rest
int_apart zero_int us rest = refl
int_apart (nonzero_int d ds) us rest = ap (λ l. d ∷ l) (sym (app_assoc ds us rest))

number_apart : (n : Number) (us rest : List ℕ) → print_number n (us ++ rest) ≡ print_number n us ++ rest
number_apart (unsigned i f e) us rest =
    ap (λ l. print_int i (print_frac f l)) (exp_apart e us rest) ∙ ap (print_int i) (frac_apart f (print_exp e us) rest) ∙ int_apart i (print_frac f (print_exp e us)) rest
number_apart (negative i f e) us rest =
    ap (λ l. 45 ∷ print_int i (print_frac f l)) (exp_apart e us rest) ∙ ap (λ l. 45 ∷ print_int i l) (frac_apart f (print_exp e us) rest) ∙ ap (λ l. 45 ∷ l) (int_apart i (print_frac f (print_exp e us)) rest)

mutual
  unfolding print

  pub value_apart : (v : Json) (us rest : List ℕ) → print v (us ++ rest) ≡ print v us ++ rest
  value_apart null us rest = refl
  value_apart (truth true) us rest = refl
  value_apart (truth false) us rest = refl
  value_apart (number n) us rest = number_apart n us rest
  value_apart (string raw) us rest = ap (λ l. 34 ∷ l) (sym (app_assoc raw (34 ∷ us) rest))
  value_apart (empty_array b) us rest = ap (λ l. 91 ∷ l) (sym (app_assoc b (93 ∷ us) rest))
  value_apart (array x xs) us rest = ap (λ l. 91 ∷ l) (ap (print_element x) (elements_apart xs us rest) ∙ element_apart x (print_elements xs us) rest)
  value_apart (empty_object b) us rest = ap (λ l. 123 ∷ l) (sym (app_assoc b (125 ∷ us) rest))
  value_apart (object m ms) us rest = ap (λ l. 123 ∷ l) (ap (print_member m) (members_apart ms us rest) ∙ member_apart m (print_members ms us) rest)

  pub element_apart : (x : Element) (us rest : List ℕ) → print_element x (us ++ rest) ≡ print_element x us ++ rest
  element_apart (element before v behind) us rest =
      ap (λ l. before ++ l) (ap (print v) (sym (app_assoc behind us rest)) ∙ value_apart v (behind ++ us) rest) ∙ sym (app_assoc before (print v (behind ++ us)) rest)

  pub elements_apart : (xs : Elements) (us rest : List ℕ) → print_elements xs (us ++ rest) ≡ print_elements xs us ++ rest
  elements_apart no_elements us rest = refl
  elements_apart (more_elements x xs) us rest = ap (λ l. 44 ∷ l) (ap (print_element x) (elements_apart xs us rest) ∙ element_apart x (print_elements xs us) rest)

  pub member_apart : (m : Member) (us rest : List ℕ) → print_member m (us ++ rest) ≡ print_member m us ++ rest
  member_apart (member before name behind x) us rest =
      ap (λ l. before ++ 34 ∷ (name ++ 34 ∷ (behind ++ 58 ∷ l))) (element_apart x us rest)
      ∙ ap (λ l. before ++ 34 ∷ (name ++ 34 ∷ l)) (sym (app_assoc behind (58 ∷ print_element x us) rest))
      ∙ ap (λ l. before ++ 34 ∷ l) (sym (app_assoc name (34 ∷ (behind ++ 58 ∷ print_element x us)) rest))
      ∙ sym (app_assoc before (34 ∷ (name ++ 34 ∷ (behind ++ 58 ∷ print_element x us))) rest)

  pub members_apart : (ms : Members) (us rest : List ℕ) → print_members ms (us ++ rest) ≡ print_members ms us ++ rest
  members_apart no_members us rest = refl
  members_apart (more_members m ms) us rest = ap (λ l. 44 ∷ l) (ap (print_member m) (members_apart ms us rest) ∙ member_apart m (print_members ms us) rest)

pub value_front_apart : (v : Json) (rest : List ℕ) → print v rest ≡ print v [] ++ rest
value_front_apart v rest = value_apart v [] rest
