-- The fields of a line are what a walk over it cuts.
use Rattle.std.proofs.Common.{◌≡◌, ◌≢◌, ℕ, zero, suc, ◌≤◌, Bool, true, false, cond, ◌&&◌, ◌||◌, ◌==◌, List, [], ◌∷◌, ◌++◌, map, drop, length, refl, sym, ◌∙◌, ap, subst, arith, append_assoc, length-append}
use Rattle.std.proofs.lemmas.List.{append-nil}
use Rattle.std.specs.List.{onto_first}
use Rattle.text_view.specs.QuotedField.{unquoted, begins_special, FieldPiece, escaped, single, print_field, field_text, AreFieldPieces, StandsFor, closed as closed_part, unclosed}
use Rattle.text_view.proofs.Grammars.{field_alone, field_stands}
use Rattle.csv_cutter.specs.declared.dialect.Dialect.{Dialect}
use Rattle.csv_cutter.specs.declared.walk.State.{State}
use Rattle.csv_cutter.specs.declared.walk.State.TheVariants.{Start, Tail, Inside, Paired}
use Rattle.csv_cutter.specs.Fields.{begins_with, IsUncut, SpellsField, plain, closed, SpellsOpen, BeginsWithField, last_field, last_open, more_fields, SpellsTexts, SpellsFields, text_of}
use Rattle.csv_cutter.specs.Walk.{is_outside, special, is_cut, step, cut_from, cut_fields, Goes, onto}
use Rattle.csv_cutter.proofs.Characters.{eq_self, eq_not, eq_is, IsApart}

-- ---- a walk, step by step

pub cut_nil : (d : Dialect) (s : State) → cut_from d s [] ≡ [] ∷ []
unfolding cut_from
cut_nil d s = refl

cut_cons : (d : Dialect) (s : State) (c : ℕ) (cs : List ℕ)
    → cut_from d s (c ∷ cs) ≡ cond (is_cut d s c) ([] ∷ cut_from d Start cs) (onto_first c (cut_from d (step d s c (special d cs)) cs))
unfolding cut_from
cut_cons d s c cs = refl

pub cut_here : (d : Dialect) (s : State) (c : ℕ) (cs : List ℕ) → is_cut d s c ≡ true → cut_from d s (c ∷ cs) ≡ [] ∷ cut_from d Start cs
cut_here d s c cs h = cut_cons d s c cs ∙ ap (λ b. cond b ([] ∷ cut_from d Start cs) (onto_first c (cut_from d (step d s c (special d cs)) cs))) h

pub cut_onwards : (d : Dialect) (s : State) (c : ℕ) (cs : List ℕ) → is_cut d s c ≡ false → cut_from d s (c ∷ cs) ≡ onto_first c (cut_from d (step d s c (special d cs)) cs)
cut_onwards d s c cs h = cut_cons d s c cs ∙ ap (λ b. cond b ([] ∷ cut_from d Start cs) (onto_first c (cut_from d (step d s c (special d cs)) cs))) h

pub onto_cons : (us p : List ℕ) (ps : List (List ℕ)) → onto us (p ∷ ps) ≡ (us ++ p) ∷ ps
onto_cons [] p ps = refl
onto_cons (u ∷ us) p ps = ap (onto_first u) (onto_cons us p ps)

pub onto_append : (us vs : List ℕ) (parts : List (List ℕ)) → onto (us ++ vs) parts ≡ onto us (onto vs parts)
onto_append [] vs parts = refl
onto_append (u ∷ us) vs parts = ap (onto_first u) (onto_append us vs parts)

-- where a walk goes, nothing is cut
pub goes_cut : (d : Dialect) (s : State) (us rest : List ℕ) (s' : State) → Goes d s us rest s' → cut_from d s (us ++ rest) ≡ onto us (cut_from d s' rest)
goes_cut d s [] rest s' g = ap (λ t. cut_from d t rest) g
goes_cut d s (u ∷ us) rest s' g =
    cut_onwards d s u (us ++ rest) g.0 ∙ ap (onto_first u) (goes_cut d (step d s u (special d (us ++ rest))) us rest s' g.1)

pub goes_append : (d : Dialect) (s m s' : State) (us vs rest : List ℕ) → Goes d s us (vs ++ rest) m → Goes d m vs rest s' → Goes d s (us ++ vs) rest s'
goes_append d s m s' [] vs rest g h = let P : State → Type 0 = λ t. Goes d t vs rest s' in subst P (sym g) h
goes_append d s m s' (u ∷ us) vs rest g h =
    let P : List ℕ → Type 0 = λ l. Goes d (step d s u (special d l)) (us ++ vs) rest s' in
    (g.0, subst P (sym (append_assoc us vs rest)) (goes_append d (step d s u (special d (us ++ (vs ++ rest)))) m s' us vs rest g.1 h))

-- one step to a state that is named
pub goes_one : (d : Dialect) (s m s' : State) (u : ℕ) (us rest : List ℕ) → is_cut d s u ≡ false → step d s u (special d (us ++ rest)) ≡ m → Goes d m us rest s' → Goes d s (u ∷ us) rest s'
goes_one d s m s' u us rest c e g = let P : State → Type 0 = λ t. Goes d t us rest s' in (c, subst P (sym e) g)

-- ---- the steps

pub tail_stays : (d : Dialect) (c : ℕ) (x : Bool) → (c == d.field) ≡ false → step d Tail c x ≡ Tail
tail_stays d c x h = ap (λ b. cond b Start Tail) h

pub start_plain : (d : Dialect) (c : ℕ) (x : Bool) → (c == d.field) ≡ false → (c == d.quote) ≡ false → step d Start c x ≡ Tail
start_plain d c x h g = ap (λ b. cond b Start (cond (c == d.quote) Inside Tail)) h ∙ ap (λ b. cond b Inside Tail) g

pub start_quote : (d : Dialect) (x : Bool) → IsApart d → step d Start d.quote x ≡ Inside
start_quote d x a =
    ap (λ b. cond b Start (cond (d.quote == d.quote) Inside Tail)) (eq_not d.quote d.field (λ e. a.field_quote (sym e))) ∙ ap (λ b. cond b Inside Tail) (eq_self d.quote)

no_pair : (b x : Bool) (c e : ℕ) → (c == e) ≡ b → (c ≡ e → x ≡ false) → (b && x) ≡ false
no_pair true x c e h f = f (eq_is c e h)
no_pair false x c e h f = refl

pub inside_single : (d : Dialect) (c : ℕ) (x : Bool) → c ≢ d.quote → (c ≡ d.escape → x ≡ false) → step d Inside c x ≡ Inside
inside_single d c x h f =
    ap (λ b. cond b Paired (cond (c == d.quote) Tail Inside)) (no_pair (c == d.escape) x c d.escape refl f) ∙ ap (λ b. cond b Tail Inside) (eq_not c d.quote h)

pub inside_closing : (d : Dialect) (x : Bool) → (d.quote ≡ d.escape → x ≡ false) → step d Inside d.quote x ≡ Tail
inside_closing d x f =
    ap (λ b. cond b Paired (cond (d.quote == d.quote) Tail Inside)) (no_pair (d.quote == d.escape) x d.quote d.escape refl f) ∙ ap (λ b. cond b Tail Inside) (eq_self d.quote)

pub inside_escape : (d : Dialect) (x : Bool) → x ≡ true → step d Inside d.escape x ≡ Paired
inside_escape d x h = let both : (d.escape == d.escape && x) ≡ true = rw (eq_self d.escape, h) refl in ap (λ b. cond b Paired (cond (d.escape == d.quote) Tail Inside)) both

-- ---- what the parts of a field do

pub tail_goes : (d : Dialect) (v rest : List ℕ) → IsUncut d v → Goes d Tail v rest Tail
tail_goes d [] rest h = refl
tail_goes d (c ∷ cs) rest h = goes_one d Tail Tail Tail c cs rest h.0 (tail_stays d c (special d (cs ++ rest)) h.0) (tail_goes d cs rest h.1)

-- before anything but the quote, a field's start is as any place of a plain field
pub start_as_tail : (d : Dialect) (cs : List ℕ) → begins_with d.quote cs ≡ false → cut_from d Start cs ≡ cut_from d Tail cs
start_as_tail d [] h = cut_nil d Start ∙ sym (cut_nil d Tail)
start_as_tail d (c ∷ cs) h = by_cut (c == d.field) refl
  where
    by_cut : (b : Bool) → (c == d.field) ≡ b → cut_from d Start (c ∷ cs) ≡ cut_from d Tail (c ∷ cs)
    by_cut true e = cut_here d Start c cs e ∙ sym (cut_here d Tail c cs e)
    by_cut false e =
        cut_onwards d Start c cs e ∙ ap (λ s. onto_first c (cut_from d s cs)) (start_plain d c (special d cs) e h ∙ sym (tail_stays d c (special d cs) e)) ∙ sym (cut_onwards d Tail c cs e)

print_split : (e : ℕ) (pieces : List FieldPiece) (rest : List ℕ) → print_field e pieces rest ≡ print_field e pieces [] ++ rest
print_split e [] rest = refl
print_split e (escaped c ∷ pieces) rest = ap (λ l. e ∷ c ∷ l) (print_split e pieces rest)
print_split e (single c ∷ pieces) rest = ap (λ l. c ∷ l) (print_split e pieces rest)

pieces_go : (d : Dialect) (pieces : List FieldPiece) (rest : List ℕ) → AreFieldPieces d.quote d.escape pieces rest
    → Goes d Inside (print_field d.escape pieces []) rest Inside
pieces_go d [] rest h = refl
pieces_go d (escaped c ∷ pieces) rest h =
    goes_one d Inside Paired Inside d.escape (c ∷ print_field d.escape pieces []) rest refl (inside_escape d (special d (c ∷ print_field d.escape pieces [] ++ rest)) h.0)
    (goes_one d Paired Inside Inside c (print_field d.escape pieces []) rest refl refl (pieces_go d pieces rest h.1))
pieces_go d (single c ∷ pieces) rest h =
    goes_one d Inside Inside Inside c (print_field d.escape pieces []) rest refl
    (inside_single d c (special d (print_field d.escape pieces [] ++ rest)) h.0 (λ e. ap (special d) (sym (print_split d.escape pieces rest)) ∙ h.1 e)) (pieces_go d pieces rest h.2)

same_head : (q e x : ℕ) (pieces : List FieldPiece) (one other : List ℕ)
    → begins_special q e (print_field e pieces (x ∷ other)) ≡ begins_special q e (print_field e pieces (x ∷ one))
same_head q e x [] one other = refl
same_head q e x (escaped c ∷ pieces) one other = refl
same_head q e x (single c ∷ pieces) one other = refl

-- what stands behind the closing quote doesn't matter to the pieces
pieces_behind : (q e x : ℕ) (pieces : List FieldPiece) (one other : List ℕ) → AreFieldPieces q e pieces (x ∷ one) → AreFieldPieces q e pieces (x ∷ other)
pieces_behind q e x [] one other h = tt
pieces_behind q e x (escaped c ∷ pieces) one other h = (h.0, pieces_behind q e x pieces one other h.1)
pieces_behind q e x (single c ∷ pieces) one other h =
    (h.0, (λ i. same_head q e x pieces one other ∙ h.1 i), pieces_behind q e x pieces one other h.2)

special_behind : (d : Dialect) (tail rest : List ℕ) → special d tail ≡ false → special d rest ≡ false → special d (tail ++ rest) ≡ false
special_behind d [] rest h g = g
special_behind d (c ∷ cs) rest h g = h

or_none : (x y : Bool) → (x || y) ≡ false → x ≡ false
or_none true y e = e
or_none false y e = refl

not_quoted : (d : Dialect) (rest : List ℕ) → special d rest ≡ false → begins_with d.quote rest ≡ false
not_quoted d [] h = refl
not_quoted d (c ∷ cs) h = or_none (c == d.quote) (c == d.escape) h

-- a walk from a field's start goes over the field, and then stands outside of a quoted part
pub record GoesOver (d : Dialect) (w rest : List ℕ) : Type 0 where
  pub state : State
  pub outside : is_outside state ≡ true
  pub goes : Goes d Start w rest state
  pub same : cut_from d state rest ≡ cut_from d Tail rest

pub plain_goes : (d : Dialect) (w rest : List ℕ) → begins_with d.quote w ≡ false → IsUncut d w → special d rest ≡ false → GoesOver d w rest
plain_goes d [] rest h u e = record { state = Start; outside = refl; goes = refl; same = start_as_tail d rest (not_quoted d rest e) }
plain_goes d (c ∷ cs) rest h u e =
    record { state = Tail; outside = refl; goes = goes_one d Start Tail Tail c cs rest u.0 (start_plain d c (special d (cs ++ rest)) u.0 h) (tail_goes d cs rest u.1); same = refl }

-- behind an opening quote
opened_goes : (d : Dialect) → IsApart d → (pieces : List FieldPiece) (back rest : List ℕ) (s : State) → AreFieldPieces d.quote d.escape pieces (back ++ rest)
    → Goes d Inside back rest s → Goes d Start (d.quote ∷ print_field d.escape pieces back) rest s
opened_goes d a pieces back rest s h g =
    let all : Goes d Inside (print_field d.escape pieces [] ++ back) rest s =
    goes_append d Inside Inside s (print_field d.escape pieces []) back rest (pieces_go d pieces (back ++ rest) h) g in
    let P : List ℕ → Type 0 = λ l. Goes d Inside l rest s in
    goes_one d Start Inside s d.quote (print_field d.escape pieces back) rest (eq_not d.quote d.field (λ e. a.field_quote (sym e))) (start_quote d (special d (print_field d.escape pieces back ++ rest)) a)
    (subst P (sym (print_split d.escape pieces back)) all)

closed_goes : (d : Dialect) → IsApart d → (pieces : List FieldPiece) (tail rest : List ℕ) → AreFieldPieces d.quote d.escape pieces (d.quote ∷ tail) → IsUncut d tail
    → (d.quote ≡ d.escape → begins_special d.quote d.escape tail ≡ false) → special d rest ≡ false
    → Goes d Start (d.quote ∷ print_field d.escape pieces (d.quote ∷ tail)) rest Tail
closed_goes d a pieces tail rest h u b e =
    opened_goes d a pieces (d.quote ∷ tail) rest Tail (pieces_behind d.quote d.escape d.quote pieces tail (tail ++ rest) h)
    (goes_one d Inside Tail Tail d.quote tail rest refl (inside_closing d (special d (tail ++ rest)) (λ i. special_behind d tail rest (b i) e)) (tail_goes d tail rest u))

over : (d : Dialect) (w v rest : List ℕ) → w ≡ v → GoesOver d v rest → GoesOver d w rest
over d w v rest e g = let P : List ℕ → Type 0 = λ l. GoesOver d l rest in subst P (sym e) g

pub field_goes : (d : Dialect) → IsApart d → (w text rest : List ℕ) → SpellsField d w text → special d rest ≡ false → GoesOver d w rest
field_goes d a w text rest (plain h u t) e = plain_goes d w rest h u e
field_goes d a w text rest (closed pieces tail h u b s t) e =
    over d w (d.quote ∷ print_field d.escape pieces (d.quote ∷ tail)) rest s
    (record { state = Tail; outside = refl; goes = closed_goes d a pieces tail rest h u b e; same = refl })

pub field_cut : (d : Dialect) → IsApart d → (w text rest : List ℕ) → SpellsField d w text → special d rest ≡ false → cut_from d Start (w ++ rest) ≡ onto w (cut_from d Tail rest)
field_cut d a w text rest f e = let g = field_goes d a w text rest f e in goes_cut d Start w rest g.state g.goes ∙ ap (onto w) g.same

pub open_goes : (d : Dialect) → IsApart d → (w text : List ℕ) → SpellsOpen d w text → Goes d Start w [] Inside
open_goes d a w text o =
    let P : List ℕ → Type 0 = λ l. Goes d Start l [] Inside in
    subst P (sym o.opened) (opened_goes d a o.pieces [] [] Inside o.valid refl)

-- ---- what a field stands for

text_plain : (d : Dialect) (w : List ℕ) → begins_with d.quote w ≡ false → text_of d w ≡ w
text_plain d w h = ap (λ b. cond b (unquoted d.quote d.escape (drop 1 w)) w) h

text_quoted : (d : Dialect) (raw : List ℕ) → text_of d (d.quote ∷ raw) ≡ unquoted d.quote d.escape raw
text_quoted d raw = ap (λ b. cond b (unquoted d.quote d.escape raw) (d.quote ∷ raw)) (eq_self d.quote)

field_text_of : (d : Dialect) (w text : List ℕ) → SpellsField d w text → text_of d w ≡ text
field_text_of d w text (plain h u t) = text_plain d w h ∙ sym t
field_text_of d w text (closed pieces tail h u b s t) =
    ap (text_of d) s ∙ text_quoted d (print_field d.escape pieces (d.quote ∷ tail))
    ∙ field_alone d.quote d.escape (print_field d.escape pieces (d.quote ∷ tail)) text (closed_part pieces tail h b refl t)

open_text_of : (d : Dialect) (w text : List ℕ) → SpellsOpen d w text → text_of d w ≡ text
open_text_of d w text o =
    ap (text_of d) o.opened ∙ text_quoted d (print_field d.escape o.pieces [])
    ∙ field_alone d.quote d.escape (print_field d.escape o.pieces []) text (unclosed o.pieces o.valid refl o.meant)

-- ---- a line has no other fields

pub no_special : (d : Dialect) → IsApart d → (rest : List ℕ) → special d (d.field ∷ rest) ≡ false
no_special d a rest = rw (eq_not d.field d.quote a.field_quote, eq_not d.field d.escape a.field_escape) refl

cut_last : (d : Dialect) (s : State) (w : List ℕ) → Goes d Start w [] s → cut_fields d w ≡ w ∷ []
cut_last d s w g =
    ap (cut_from d Start) (sym (append-nil w)) ∙ goes_cut d Start w [] s g ∙ ap (onto w) (cut_nil d s) ∙ onto_cons w [] [] ∙ ap (λ l. l ∷ []) (append-nil w)

pub cut_more : (d : Dialect) → IsApart d → (w text rest : List ℕ) → SpellsField d w text → cut_fields d (w ++ d.field ∷ rest) ≡ w ∷ cut_fields d rest
cut_more d a w text rest f =
    field_cut d a w text (d.field ∷ rest) f (no_special d a rest) ∙ ap (onto w) (cut_here d Tail d.field rest (eq_self d.field)) ∙ onto_cons w [] (cut_fields d rest)
    ∙ ap (λ l. l ∷ cut_fields d rest) (append-nil w)

pub texts_cut : (d : Dialect) → IsApart d → (o : Bool) (line : List ℕ) (texts : List (List ℕ)) → SpellsTexts d o line texts → map (text_of d) (cut_fields d line) ≡ texts
texts_cut d a o line [] h = absurd h
texts_cut d a o line (text ∷ texts) h = by_field (λ rest g. texts_cut d a o rest texts g) h
  where
    by_field : ((rest : List ℕ) → SpellsTexts d o rest texts → map (text_of d) (cut_fields d rest) ≡ texts) → BeginsWithField d o line text texts (λ rest. SpellsTexts d o rest texts) → map (text_of d) (cut_fields d line) ≡ text ∷ texts
    by_field rest_cut (last_field none f) =
        let g = field_goes d a line text [] f refl in
        ap (map (text_of d)) (cut_last d g.state line g.goes) ∙ ap (λ t. t ∷ []) (field_text_of d line text f) ∙ ap (λ l. text ∷ l) (sym none)
    by_field rest_cut (last_open none may f) =
        ap (map (text_of d)) (cut_last d Inside line (open_goes d a line text f)) ∙ ap (λ t. t ∷ []) (open_text_of d line text f) ∙ ap (λ l. text ∷ l) (sym none)
    by_field rest_cut (more_fields w rest is f others) =
        ap (λ l. map (text_of d) (cut_fields d l)) is ∙ ap (map (text_of d)) (cut_more d a w text rest f)
        ∙ ap (λ t. t ∷ map (text_of d) (cut_fields d rest)) (field_text_of d w text f) ∙ ap (λ l. text ∷ l) (rest_cut rest others)

-- ---- each line has fields

-- a field character stands behind a front without one, or none does
data Uncut (d : Dialect) (cs : List ℕ) : Type 0 where
  whole : IsUncut d cs → Uncut d cs
  front : (v rest : List ℕ) → IsUncut d v → cs ≡ v ++ d.field ∷ rest → Uncut d cs

uncut : (d : Dialect) (cs : List ℕ) → Uncut d cs
uncut d [] = whole tt
uncut d (c ∷ cs) = by_test (c == d.field) refl (uncut d cs)
  where
    by_test : (b : Bool) → (c == d.field) ≡ b → Uncut d cs → Uncut d (c ∷ cs)
    by_test true e later = front [] cs tt (ap (λ x. x ∷ cs) (eq_is c d.field e))
    by_test false e (whole u) = whole (e, u)
    by_test false e (front v rest u is) = front (c ∷ v) rest (e, u) (ap (λ l. c ∷ l) is)

-- the texts of a line
pub record HasFields (d : Dialect) (line : List ℕ) : Type 0 where
  pub texts : List (List ℕ)
  pub spelled : SpellsFields d line texts

uncut_front : (d : Dialect) (line : List ℕ) (c : ℕ) (cs : List ℕ) → line ≡ c ∷ cs → (c == d.quote) ≡ false → (n : ℕ) → length line ≤ suc n
    → ((rest : List ℕ) → length rest ≤ n → HasFields d rest) → Uncut d line → HasFields d line
uncut_front d line c cs is h n l ih (whole u) =
    record { texts = line ∷ []; spelled = last_field refl (plain (ap (begins_with d.quote) is ∙ h) u refl) }
uncut_front d line c cs is h n l ih (front [] rest u e) =
    let later = ih rest (omega (arith, ap length e)) in
    record { texts = [] ∷ later.texts; spelled = more_fields [] rest e (plain refl tt refl) later.spelled }
uncut_front d line c cs is h n l ih (front (x ∷ v) rest u e) =
    let later = ih rest (omega (arith, ap length e, length-append (x ∷ v) (d.field ∷ rest))) in
    let same : x ≡ c = cc in
    record { texts = (x ∷ v) ∷ later.texts; spelled = more_fields (x ∷ v) rest e (plain (ap (λ y. y == d.quote) same ∙ h) u refl) later.spelled }

print_behind : (e x : ℕ) (pieces : List FieldPiece) (v rest : List ℕ) → print_field e pieces (x ∷ (v ++ rest)) ≡ print_field e pieces (x ∷ v) ++ rest
print_behind e x pieces v rest =
    print_split e pieces (x ∷ (v ++ rest)) ∙ sym (append_assoc (print_field e pieces []) (x ∷ v) rest) ∙ ap (λ l. l ++ rest) (sym (print_split e pieces (x ∷ v)))

front_special : (q e : ℕ) (v rest : List ℕ) → begins_special q e (v ++ rest) ≡ false → begins_special q e v ≡ false
front_special q e [] rest h = refl
front_special q e (x ∷ v) rest h = h

closed_front : (d : Dialect) (raw tail : List ℕ) (pieces : List FieldPiece) → AreFieldPieces d.quote d.escape pieces (d.quote ∷ tail)
    → (d.quote ≡ d.escape → begins_special d.quote d.escape tail ≡ false) → raw ≡ print_field d.escape pieces (d.quote ∷ tail) → (n : ℕ) → length raw ≤ n
    → ((rest : List ℕ) → length rest ≤ n → HasFields d rest) → Uncut d tail → HasFields d (d.quote ∷ raw)
closed_front d raw tail pieces h b s n l ih (whole u) =
    record { texts = (field_text pieces ++ tail) ∷ []; spelled = last_field refl (closed pieces tail h u b (ap (λ l. d.quote ∷ l) s) refl) }
closed_front d raw tail pieces h b s n l ih (front v rest u e) =
    let w : List ℕ = print_field d.escape pieces (d.quote ∷ v) in
    let split : raw ≡ w ++ d.field ∷ rest = s ∙ ap (λ t. print_field d.escape pieces (d.quote ∷ t)) e ∙ print_behind d.escape d.quote pieces v (d.field ∷ rest) in
    let later = ih rest (omega (arith, ap length split, length-append w (d.field ∷ rest))) in
    let T : List ℕ → Type 0 = λ t. AreFieldPieces d.quote d.escape pieces (d.quote ∷ t) in
    let valid : AreFieldPieces d.quote d.escape pieces (d.quote ∷ v) = pieces_behind d.quote d.escape d.quote pieces tail v h in
    let behind : d.quote ≡ d.escape → begins_special d.quote d.escape v ≡ false = λ i. front_special d.quote d.escape v (d.field ∷ rest) (ap (begins_special d.quote d.escape) (sym e) ∙ b i) in
    record {
      texts = (field_text pieces ++ v) ∷ later.texts;
      spelled = more_fields (d.quote ∷ w) rest (ap (λ l. d.quote ∷ l) split) (closed pieces v valid u behind refl refl) later.spelled;
    }

quoted_front : (d : Dialect) (raw text : List ℕ) → StandsFor d.quote d.escape raw text → (n : ℕ) → length raw ≤ n
    → ((rest : List ℕ) → length rest ≤ n → HasFields d rest) → HasFields d (d.quote ∷ raw)
quoted_front d raw text (closed_part pieces tail h b s t) n l ih = closed_front d raw tail pieces h b s n l ih (uncut d tail)
quoted_front d raw text (unclosed pieces h s t) n l ih =
    record { texts = field_text pieces ∷ []; spelled = last_open refl refl (record { pieces = pieces; valid = h; opened = ap (λ l. d.quote ∷ l) s; meant = refl }) }

fields_within : (d : Dialect) (n : ℕ) (line : List ℕ) → length line ≤ n → HasFields d line
fields_within d n [] l = record { texts = [] ∷ []; spelled = last_field refl (plain refl tt refl) }
fields_within d zero (c ∷ cs) l = absurd (omega arith)
fields_within d (suc n) (c ∷ cs) l = by_quote (λ rest h. fields_within d n rest h) (c == d.quote) refl
  where
    by_quote : ((rest : List ℕ) → length rest ≤ n → HasFields d rest) → (b : Bool) → (c == d.quote) ≡ b → HasFields d (c ∷ cs)
    by_quote later true e =
        let P : ℕ → Type 0 = λ x. HasFields d (x ∷ cs) in
        subst P (sym (eq_is c d.quote e)) (quoted_front d cs (unquoted d.quote d.escape cs) (field_stands d.quote d.escape cs) n (omega arith) later)
    by_quote later false e = uncut_front d (c ∷ cs) c cs refl e n (omega arith) later (uncut d (c ∷ cs))

pub has_fields : (d : Dialect) (line : List ℕ) → HasFields d line
has_fields d line = fields_within d (length line) line (omega arith)

-- the fields of a line are those that the walk cuts, and no others
pub fields_cut : (d : Dialect) → IsApart d → (line : List ℕ) → SpellsFields d line (map (text_of d) (cut_fields d line))
fields_cut d a line =
    let h = has_fields d line in
    let P : List (List ℕ) → Type 0 = SpellsFields d line in
    subst P (sym (texts_cut d a true line h.texts h.spelled)) h.spelled

pub fields_alone : (d : Dialect) → IsApart d → (line : List ℕ) (one other : List (List ℕ)) → SpellsFields d line one → SpellsFields d line other → one ≡ other
fields_alone d a line one other h g = sym (texts_cut d a true line one h) ∙ texts_cut d a true line other g
