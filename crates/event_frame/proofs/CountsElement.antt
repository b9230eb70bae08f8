-- The parts of an element of counts, one behind the other.
use Rattle.std.proofs.Common.{◌≡◌, ◌≢◌, ℕ, ◌<◌, ◌≤◌, List, [], ◌∷◌, ◌++◌, length, get_or, drop, Bool, true, false, cond, Option, None, Some, MatchOption, Bor, refl, sym, ap, ◌∙◌, arith, append_assoc, codes}
use Rattle.std.proofs.lemmas.List.{append_cancel_left, get_or_append_left}
use Rattle.std.specs.Char.{is_ascii_digit}
use Rattle.std.specs.Str.Parse.{digits_value}
use Rattle.event_frame.specs.CountsText.{CountsText, opening, print_element, print_counts, declaration, IsNumber, SpellsCounts, ReadsCounts, HasNoCounts}
use Rattle.event_frame.specs.CountsParts.{LacksFront, HasNoNumber, SpellsNumber, HasNoOpening, SpellsOpening, HasNoField, SpellsField, HasNoElement, ReadsElement, HasNoDeclared, ReadsDeclared}
use Rattle.event_frame.specs.declared.counts.Counts.{Counts}
use Rattle.event_frame.proofs.CountsLaws.{span-le}
use Rattle.event_frame.proofs.HeaderLaws.{same_front}

-- ---- numbers

-- a text that begins with `<`
pub angle : (behind : List ℕ) → get_or behind 0 0 ≡ 60 → behind ≡ 60 ∷ drop 1 behind
angle [] e = absurd (omega arith)
angle (b ∷ behind) e = ap (λ n. n ∷ behind) e

-- the digits at the front are those that the text has there
record SameNumber (n m : ℕ) (rest more : List ℕ) : Type 0 where
  value : n ≡ m
  behind : rest ≡ more

digit_front : (bytes digits more : List ℕ) (n : ℕ) → IsNumber digits n → bytes ≡ digits ++ more
    → (k : ℕ) → k < length digits → is_ascii_digit (get_or bytes k 0) ≡ true
digit_front bytes digits more n is e k h =
    ap (λ (l : List ℕ). is_ascii_digit (get_or l k 0)) e ∙ ap is_ascii_digit (get_or_append_left digits more 0 k h) ∙ is.are_digits k h

at_seam : (xs ys : List ℕ) → get_or (xs ++ ys) (length xs) 0 ≡ get_or ys 0 0
at_seam [] ys = refl
at_seam (x ∷ xs) ys = at_seam xs ys

same-number : (bytes rest digits more : List ℕ) (n m : ℕ) → SpellsNumber bytes n rest → IsNumber digits m → bytes ≡ digits ++ 60 ∷ more
    → SameNumber n m rest (60 ∷ more)
same-number bytes rest digits more n m s is e =
    let short : length s.digits ≤ length digits =
    span-le bytes digits more (length s.digits) e (digit_front bytes s.digits rest n s.is_number s.spelled) in
    let long : length s.digits < length digits → ⊥ = λ less.
    (let there : get_or bytes (length s.digits) 0 ≡ get_or rest 0 0 =
    ap (λ (l : List ℕ). get_or l (length s.digits) 0) s.spelled ∙ at_seam s.digits rest in
    let digit : is_ascii_digit (get_or rest 0 0) ≡ true =
    ap is_ascii_digit (sym there) ∙ digit_front bytes digits (60 ∷ more) m is e (length s.digits) less in
    not_both (get_or rest 0 0) digit s.ended) in
    let size : length s.digits ≡ length digits = omega arith in
    let both : s.digits ++ rest ≡ digits ++ 60 ∷ more = sym s.spelled ∙ e in
    let same : s.digits ≡ digits = same_front s.digits digits rest (60 ∷ more) size both in
    record {
      value = sym s.is_number.value ∙ ap (digits_value 10) same ∙ is.value;
      behind = append_cancel_left digits rest (60 ∷ more) (ap (λ (l : List ℕ). l ++ rest) (sym same) ∙ both);
    }
  where
    not_both : (c : ℕ) → is_ascii_digit c ≡ true → is_ascii_digit c ≡ false → ⊥
    not_both c p q = let clash : true ≡ false = sym p ∙ q in cc

-- ---- fields

spread : (digits behind more : List ℕ) → get_or behind 0 0 ≡ 60 → digits ++ (behind ++ more) ≡ digits ++ 60 ∷ (drop 1 behind ++ more)
spread digits behind more h = ap (λ (l : List ℕ). digits ++ (l ++ more)) (angle behind h)

pub no_field-number : (bytes behind : List ℕ) → get_or behind 0 0 ≡ 60 → HasNoNumber bytes → HasNoField bytes behind
no_field-number bytes behind h none digits more n is e = none digits (drop 1 behind ++ more) n is (e ∙ spread digits behind more h)

pub no_field-behind : (bytes rest behind : List ℕ) (n : ℕ) → get_or behind 0 0 ≡ 60 → SpellsNumber bytes n rest → LacksFront rest behind → HasNoField bytes behind
no_field-behind bytes rest behind n h s lacks digits more m is e =
    let same = same-number bytes rest digits (drop 1 behind ++ more) n m s is (e ∙ spread digits behind more h) in
    lacks more (same.behind ∙ ap (λ (l : List ℕ). l ++ more) (sym (angle behind h)))

pub spells-field : (bytes rest behind after : List ℕ) (n : ℕ) → SpellsNumber bytes n rest → rest ≡ behind ++ after → SpellsField bytes behind n after
spells-field bytes rest behind after n s e =
    record { digits = s.digits; is_number = s.is_number; spelled = s.spelled ∙ ap (λ (l : List ℕ). s.digits ++ l) e }

-- no digit behind a number's digits
ended-angle : (behind more : List ℕ) → get_or behind 0 0 ≡ 60 → is_ascii_digit (get_or (behind ++ more) 0 0) ≡ false
ended-angle behind more h = ap (λ (l : List ℕ). is_ascii_digit (get_or (l ++ more) 0 0)) (angle behind h)

same-field : (bytes behind after digits more : List ℕ) (n m : ℕ) → get_or behind 0 0 ≡ 60 → SpellsField bytes behind n after → IsNumber digits m
    → bytes ≡ digits ++ (behind ++ more) → SameNumber n m after more
same-field bytes behind after digits more n m h s is e =
    let number : SpellsNumber bytes n (behind ++ after) =
    record { digits = s.digits; is_number = s.is_number; spelled = s.spelled; ended = ended-angle behind after h } in
    let same = same-number bytes (behind ++ after) digits (drop 1 behind ++ more) n m number is (e ∙ spread digits behind more h) in
    record {
      value = same.value;
      behind = append_cancel_left behind after more (same.behind ∙ ap (λ (l : List ℕ). l ++ more) (sym (angle behind h)));
    }

-- ---- the opening

-- what stands behind the name in an opening
pub tag_end : Bool → List ℕ
tag_end namespaced = (cond namespaced (codes " xmlns=\"\"") []) ++ codes "><BytesScanned>"

regroup : (a name n y more : List ℕ) → a ++ name ++ n ++ y ++ more ≡ a ++ (name ++ ((n ++ y) ++ more))
regroup a name n y more = simp append_assoc

opening-flat : (name : List ℕ) (namespaced : Bool) (more : List ℕ) → opening name namespaced ++ more ≡ (60 ∷ []) ++ (name ++ (tag_end namespaced ++ more))
unfolding opening tag_end
opening-flat name namespaced more = regroup (60 ∷ []) name (cond namespaced (codes " xmlns=\"\"") []) (codes "><BytesScanned>") more

pub no_opening-angle : (name bytes : List ℕ) → LacksFront bytes (60 ∷ []) → HasNoOpening name bytes
no_opening-angle name bytes lacks namespaced more e = lacks (name ++ (tag_end namespaced ++ more)) (e ∙ opening-flat name namespaced more)

pub no_opening-name : (name bytes rest : List ℕ) → bytes ≡ (60 ∷ []) ++ rest → LacksFront rest name → HasNoOpening name bytes
no_opening-name name bytes rest first lacks namespaced more e =
    lacks (tag_end namespaced ++ more)
    (append_cancel_left (60 ∷ []) rest (name ++ (tag_end namespaced ++ more)) (sym first ∙ e ∙ opening-flat name namespaced more))

-- what an opening has behind its name
opening-end : (name bytes rest behind : List ℕ) (namespaced : Bool) (more : List ℕ) → bytes ≡ (60 ∷ []) ++ rest → rest ≡ name ++ behind
    → bytes ≡ opening name namespaced ++ more → behind ≡ tag_end namespaced ++ more
opening-end name bytes rest behind namespaced more first second e =
    append_cancel_left name behind (tag_end namespaced ++ more)
    (sym second ∙ append_cancel_left (60 ∷ []) rest (name ++ (tag_end namespaced ++ more)) (sym first ∙ e ∙ opening-flat name namespaced more))

pub spells-opening : (name bytes rest behind after : List ℕ) (namespaced : Bool) → bytes ≡ (60 ∷ []) ++ rest → rest ≡ name ++ behind
    → behind ≡ tag_end namespaced ++ after → SpellsOpening name bytes after
spells-opening name bytes rest behind after namespaced first second third =
    record {
      namespaced = namespaced;
      spelled = first ∙ ap (λ (l : List ℕ). (60 ∷ []) ++ l) (second ∙ ap (λ (l : List ℕ). name ++ l) third)
          ∙ sym (opening-flat name namespaced after);
    }

pub spells-spaced : (name bytes rest behind after : List ℕ) → bytes ≡ (60 ∷ []) ++ rest → rest ≡ name ++ behind
    → behind ≡ codes " xmlns=\"\"><BytesScanned>" ++ after → SpellsOpening name bytes after
unfolding tag_end
spells-spaced name bytes rest behind after first second third = spells-opening name bytes rest behind after true first second third

no_end : (name bytes rest behind : List ℕ) → bytes ≡ (60 ∷ []) ++ rest → rest ≡ name ++ behind
    → LacksFront behind (codes " xmlns=\"\"><BytesScanned>") → LacksFront behind (codes "><BytesScanned>") → HasNoOpening name bytes
unfolding tag_end
no_end name bytes rest behind first second spaced plain true more e = spaced more (opening-end name bytes rest behind true more first second e)
no_end name bytes rest behind first second spaced plain false more e = plain more (opening-end name bytes rest behind false more first second e)

pub opening-last : (name bytes rest behind : List ℕ) (last : Option (Bor (List ℕ))) → bytes ≡ (60 ∷ []) ++ rest → rest ≡ name ++ behind
    → LacksFront behind (codes " xmlns=\"\"><BytesScanned>")
    → MatchOption last (LacksFront behind (codes "><BytesScanned>")) (λ r. behind ≡ codes "><BytesScanned>" ++ r.now)
    → MatchOption last (HasNoOpening name bytes) (λ r. SpellsOpening name bytes r.now)
unfolding tag_end
opening-last name bytes rest behind None first second spaced plain = no_end name bytes rest behind first second spaced plain
opening-last name bytes rest behind (Some r) first second spaced plain = spells-opening name bytes rest behind r.now false first second plain

-- two openings at the front are one
apart : ◌≡◌ {A = ℕ} 32 62 → ⊥
apart e = omega arith

differ : (x y : List ℕ) → tag_end true ++ x ≡ tag_end false ++ y → ⊥
unfolding tag_end
differ x y e = apart (ap (λ (l : List ℕ). get_or l 0 0) e)

same-end : (a b : Bool) (x y : List ℕ) → tag_end a ++ x ≡ tag_end b ++ y → x ≡ y
same-end true true x y e = append_cancel_left (tag_end true) x y e
same-end false false x y e = append_cancel_left (tag_end false) x y e
same-end true false x y e = absurd (differ x y e)
same-end false true x y e = absurd (differ y x (sym e))

same-opening : (name bytes rest : List ℕ) (namespaced : Bool) (more : List ℕ) → SpellsOpening name bytes rest → bytes ≡ opening name namespaced ++ more → rest ≡ more
same-opening name bytes rest namespaced more s e =
    same-end s.namespaced namespaced rest more
    (append_cancel_left name (tag_end s.namespaced ++ rest) (tag_end namespaced ++ more)
    (append_cancel_left (60 ∷ []) (name ++ (tag_end s.namespaced ++ rest)) (name ++ (tag_end namespaced ++ more))
    (sym (opening-flat name s.namespaced rest) ∙ sym s.spelled ∙ e ∙ opening-flat name namespaced more)))

-- ---- the element

text_one : List ℕ
text_one = codes "</BytesScanned><BytesProcessed>"

text_two : List ℕ
text_two = codes "</BytesProcessed><BytesReturned>"

text_three : List ℕ
text_three = codes "</BytesReturned></"

regroup_all : (o s a p b r d n z : List ℕ) → o ++ s ++ a ++ p ++ b ++ r ++ d ++ n ++ z ≡ o ++ (s ++ (a ++ (p ++ (b ++ (r ++ (d ++ (n ++ z)))))))
regroup_all o s a p b r d n z = simp append_assoc

element-flat : (name : List ℕ) (t : CountsText) → print_element name t
    ≡ opening name t.namespaced ++ (t.scanned ++ (text_one ++ (t.processed ++ (text_two ++ (t.returned ++ (text_three ++ (name ++ (62 ∷ []))))))))
unfolding print_element text_one text_two text_three
element-flat name t = regroup_all (opening name t.namespaced) t.scanned (codes "</BytesScanned><BytesProcessed>") t.processed (codes "</BytesProcessed><BytesReturned>") t.returned (codes "</BytesReturned></") name (62 ∷ [])

pub no_element-opening : (name bytes : List ℕ) → HasNoOpening name bytes → HasNoElement name bytes
no_element-opening name bytes none c x = none x.text.namespaced _ (x.printed ∙ element-flat name x.text)

-- what stands behind the opening, behind the first count and behind the second
behind_opening : (name bytes r0 : List ℕ) → SpellsOpening name bytes r0 → (c : Counts) (x : ReadsElement name bytes c)
    → r0 ≡ x.text.scanned ++ (text_one ++ (x.text.processed ++ (text_two ++ (x.text.returned ++ (text_three ++ (name ++ (62 ∷ [])))))))
behind_opening name bytes r0 o c x = same-opening name bytes r0 x.text.namespaced _ o (x.printed ∙ element-flat name x.text)

-- the texts begin with `<`
one_angle : get_or text_one 0 0 ≡ 60
unfolding text_one
one_angle = refl

two_angle : get_or text_two 0 0 ≡ 60
unfolding text_two
two_angle = refl

three_angle : get_or text_three 0 0 ≡ 60
unfolding text_three
three_angle = refl

behind_scanned : (name bytes r0 r1 : List ℕ) (n : ℕ) → SpellsOpening name bytes r0 → SpellsField r0 text_one n r1 → (c : Counts) (x : ReadsElement name bytes c)
    → SameNumber n c.scanned r1 (x.text.processed ++ (text_two ++ (x.text.returned ++ (text_three ++ (name ++ (62 ∷ []))))))
behind_scanned name bytes r0 r1 n o f c x =
    same-field r0 text_one r1 x.text.scanned _ n c.scanned one_angle f x.spelled.scanned (behind_opening name bytes r0 o c x)

behind_processed : (name bytes r0 r1 r2 : List ℕ) (n m : ℕ) → SpellsOpening name bytes r0 → SpellsField r0 text_one n r1 → SpellsField r1 text_two m r2
    → (c : Counts) (x : ReadsElement name bytes c) → SameNumber m c.processed r2 (x.text.returned ++ (text_three ++ (name ++ (62 ∷ []))))
behind_processed name bytes r0 r1 r2 n m o f g c x =
    same-field r1 text_two r2 x.text.processed _ m c.processed two_angle g x.spelled.processed (behind_scanned name bytes r0 r1 n o f c x).behind

behind_returned : (name bytes r0 r1 r2 r3 : List ℕ) (n m k : ℕ) → SpellsOpening name bytes r0 → SpellsField r0 text_one n r1 → SpellsField r1 text_two m r2
    → SpellsField r2 text_three k r3 → (c : Counts) (x : ReadsElement name bytes c) → SameNumber k c.returned r3 (name ++ (62 ∷ []))
behind_returned name bytes r0 r1 r2 r3 n m k o f g h c x =
    same-field r2 text_three r3 x.text.returned _ k c.returned three_angle h x.spelled.returned (behind_processed name bytes r0 r1 r2 n m o f g c x).behind

pub no_element-scanned : (name bytes r0 : List ℕ) → SpellsOpening name bytes r0 → HasNoField r0 (codes "</BytesScanned><BytesProcessed>") → HasNoElement name bytes
unfolding text_one
no_element-scanned name bytes r0 o none c x = none x.text.scanned _ c.scanned x.spelled.scanned (behind_opening name bytes r0 o c x)

pub no_element-processed : (name bytes r0 r1 : List ℕ) (n : ℕ) → SpellsOpening name bytes r0 → SpellsField r0 (codes "</BytesScanned><BytesProcessed>") n r1
    → HasNoField r1 (codes "</BytesProcessed><BytesReturned>") → HasNoElement name bytes
unfolding text_one text_two
no_element-processed name bytes r0 r1 n o f none c x =
    none x.text.processed _ c.processed x.spelled.processed (behind_scanned name bytes r0 r1 n o f c x).behind

pub no_element-returned : (name bytes r0 r1 r2 : List ℕ) (n m : ℕ) → SpellsOpening name bytes r0 → SpellsField r0 (codes "</BytesScanned><BytesProcessed>") n r1
    → SpellsField r1 (codes "</BytesProcessed><BytesReturned>") m r2 → HasNoField r2 (codes "</BytesReturned></") → HasNoElement name bytes
unfolding text_one text_two text_three
no_element-returned name bytes r0 r1 r2 n m o f g none c x =
    none x.text.returned _ c.returned x.spelled.returned (behind_processed name bytes r0 r1 r2 n m o f g c x).behind

pub no_element-name : (name bytes r0 r1 r2 r3 : List ℕ) (n m k : ℕ) → SpellsOpening name bytes r0 → SpellsField r0 (codes "</BytesScanned><BytesProcessed>") n r1
    → SpellsField r1 (codes "</BytesProcessed><BytesReturned>") m r2 → SpellsField r2 (codes "</BytesReturned></") k r3 → LacksFront r3 name → HasNoElement name bytes
unfolding text_one text_two text_three
no_element-name name bytes r0 r1 r2 r3 n m k o f g h lacks c x =
    lacks (62 ∷ []) (behind_returned name bytes r0 r1 r2 r3 n m k o f g h c x).behind

pub no_element-end : (name bytes r0 r1 r2 r3 r4 : List ℕ) (n m k : ℕ) → SpellsOpening name bytes r0 → SpellsField r0 (codes "</BytesScanned><BytesProcessed>") n r1
    → SpellsField r1 (codes "</BytesProcessed><BytesReturned>") m r2 → SpellsField r2 (codes "</BytesReturned></") k r3 → r3 ≡ name ++ r4 → r4 ≢ 62 ∷ []
    → HasNoElement name bytes
unfolding text_one text_two text_three
no_element-end name bytes r0 r1 r2 r3 r4 n m k o f g h e differs c x =
    differs (append_cancel_left name r4 (62 ∷ []) (sym e ∙ (behind_returned name bytes r0 r1 r2 r3 n m k o f g h c x).behind))

pub reads-element : (name bytes r0 r1 r2 r3 r4 : List ℕ) (c : Counts) → SpellsOpening name bytes r0
    → SpellsField r0 (codes "</BytesScanned><BytesProcessed>") c.scanned r1
    → SpellsField r1 (codes "</BytesProcessed><BytesReturned>") c.processed r2 → SpellsField r2 (codes "</BytesReturned></") c.returned r3
    → r3 ≡ name ++ r4 → r4 ≡ 62 ∷ [] → ReadsElement name bytes c
unfolding text_one text_two text_three
reads-element name bytes r0 r1 r2 r3 r4 c o f g h e last =
    let t : CountsText = record { declared = false; namespaced = o.namespaced; scanned = f.digits; processed = g.digits; returned = h.digits } in
    record {
      text = t;
      printed =
          o.spelled
          ∙ ap (λ (l : List ℕ). opening name o.namespaced ++ l)
          (f.spelled ∙ ap (λ (l : List ℕ). f.digits ++ (text_one ++ l))
          (g.spelled ∙ ap (λ (l : List ℕ). g.digits ++ (text_two ++ l))
          (h.spelled ∙ ap (λ (l : List ℕ). h.digits ++ (text_three ++ l)) (e ∙ ap (λ (l : List ℕ). name ++ l) last))))
          ∙ sym (element-flat name t);
      spelled = record { scanned = f.is_number; processed = g.is_number; returned = h.is_number };
    }

-- ---- the payload

pub no_counts : (name payload : List ℕ) → HasNoDeclared name payload → HasNoElement name payload → HasNoCounts name payload
unfolding print_counts
no_counts name payload declared plain c x = go x.text x.text.declared refl x.printed x.spelled
  where
    go : (t : CountsText) (d : Bool) → t.declared ≡ d → payload ≡ print_counts name t → SpellsCounts t c → ⊥
    go t true e printed spelled =
        declared (print_element name t) (printed ∙ ap (λ (b : Bool). (cond b declaration []) ++ print_element name t) e)
        c (record { text = t; printed = refl; spelled = spelled })
    go t false e printed spelled =
        plain c (record { text = t; printed = printed ∙ ap (λ (b : Bool). (cond b declaration []) ++ print_element name t) e; spelled = spelled })

with_declaration : Bool → CountsText → CountsText
with_declaration d t = record t { declared = d }

pub reads-plain : (name payload : List ℕ) (c : Counts) → ReadsElement name payload c → ReadsCounts name payload c
unfolding print_counts print_element with_declaration
reads-plain name payload c x =
    record {
      text = with_declaration false x.text;
      printed = x.printed;
      spelled = record { scanned = x.spelled.scanned; processed = x.spelled.processed; returned = x.spelled.returned };
    }

pub reads-declared : (name payload : List ℕ) (c : Counts) → ReadsDeclared name payload c → ReadsCounts name payload c
unfolding print_counts print_element with_declaration
reads-declared name payload c x =
    record {
      text = with_declaration true x.element.text;
      printed = x.declared ∙ ap (λ (l : List ℕ). declaration ++ l) x.element.printed;
      spelled = record { scanned = x.element.spelled.scanned; processed = x.element.spelled.processed; returned = x.element.spelled.returned };
    }
