-- Where a walk over a record stops is where the record ends.
use Rattle.std.proofs.Common.{◌↔◌, ◌≡◌, ℕ, zero, suc, ◌+◌, ◌-◌, ◌≤◌, ◌<◌, Bool, true, false, cond, ◌&&◌, ◌==◌, List, [], ◌∷◌, ◌++◌, take, drop, length, slice_index, refl, sym, ◌∙◌, ap, subst, arith, length-drop, ⊎_elim, inl, inr}
use Rattle.std.specs.Prelude.{nat_lt, if◌then◌else◌}
use Rattle.std.proofs.lemmas.Bool.{cases_lt, ltb-true, ltb-false}
use Rattle.std.proofs.lemmas.List.{append-nil, get_or-drop, take-take, drop-drop, length-take, take_all}
use Rattle.std.proofs.lemmas.Slice.Eq.{bytes_eq-Decides}
use Rattle.std.specs.Str.{bytes_eq}
use Rattle.line_window.specs.Delimiters.{StandsAt}
use Rattle.line_window.specs.Cuts.{Cut, without_mark}
use Rattle.csv_cutter.specs.declared.dialect.Dialect.{Dialect}
use Rattle.csv_cutter.specs.declared.walk.State.{State}
use Rattle.csv_cutter.specs.declared.walk.State.TheVariants.{Start, Tail, Inside, Paired, Comment}
use Rattle.csv_cutter.specs.Fields.{begins_with, SpellsField, BeginsWithField, last_field, last_open, more_fields, SpellsTexts, IsClosed}
use Rattle.csv_cutter.specs.Walk.{is_outside, special, step, Goes}
use Rattle.csv_cutter.specs.Records.{delimiter_of, content_at, MayEndWith, MayEnd, EndsRecord, delimited as ends_at_delimiter, unended, CutsRecord, AreRecords}
use Rattle.csv_cutter.specs.Stops.{may_end, delimited, stops, stop_from, state_after, first_state, mark_len, content_len, body_len, cut_of}
use Rattle.csv_cutter.specs.Cuttings.{quoted_from, quoted_cuts}
use Rattle.csv_cutter.proofs.Characters.{eq_self, eq_not, clash, IsApart, Delimits}
use Rattle.csv_cutter.proofs.Lines.{has_fields, field_goes, open_goes, no_special}

-- ---- the state behind some bytes

state_cons : (d : Dialect) (s : State) (c : ℕ) (cs : List ℕ) → state_after d s (c ∷ cs) ≡ state_after d (step d s c (special d cs)) cs
unfolding state_after
state_cons d s c cs = refl

state_nil : (d : Dialect) (s : State) → state_after d s [] ≡ s
unfolding state_after
state_nil d s = refl

goes_state : (d : Dialect) (s : State) (us rest : List ℕ) (s' : State) → Goes d s us rest s' → state_after d s (us ++ rest) ≡ state_after d s' rest
goes_state d s [] rest s' g = ap (λ t. state_after d t rest) g
goes_state d s (u ∷ us) rest s' g = state_cons d s u (us ++ rest) ∙ goes_state d (step d s u (special d (us ++ rest))) us rest s' g.1

step_field : (d : Dialect) (s : State) (x : Bool) → is_outside s ≡ true → step d s d.field x ≡ Start
step_field d Start x o = ap (λ b. cond b Start (cond (d.field == d.quote) Inside Tail)) (eq_self d.field)
step_field d Tail x o = ap (λ b. cond b Start Tail) (eq_self d.field)
step_field d Inside x o = absurd (clash (sym o))
step_field d Paired x o = absurd (clash (sym o))
step_field d Comment x o = absurd (clash (sym o))

state_end : (d : Dialect) (w : List ℕ) (s : State) → Goes d Start w [] s → state_after d Start w ≡ s
state_end d w s g = ap (state_after d Start) (sym (append-nil w)) ∙ goes_state d Start w [] s g ∙ state_nil d s

state_more : (d : Dialect) → IsApart d → (w text rest : List ℕ) → SpellsField d w text → state_after d Start (w ++ d.field ∷ rest) ≡ state_after d Start rest
state_more d a w text rest f =
    let g = field_goes d a w text (d.field ∷ rest) f (no_special d a rest) in
    goes_state d Start w (d.field ∷ rest) g.state g.goes ∙ state_cons d g.state d.field rest ∙ ap (λ t. state_after d t rest) (step_field d g.state (special d rest) g.outside)

-- where the fields are closed, the walk stands outside of a quoted part
closed_outside : (d : Dialect) → IsApart d → (line : List ℕ) (texts : List (List ℕ)) → SpellsTexts d false line texts → is_outside (state_after d Start line) ≡ true
closed_outside d a line [] h = absurd h
closed_outside d a line (text ∷ texts) h = by_field (λ rest g. closed_outside d a rest texts g) h
  where
    by_field : ((rest : List ℕ) → SpellsTexts d false rest texts → is_outside (state_after d Start rest) ≡ true) → BeginsWithField d false line text texts (λ rest. SpellsTexts d false rest texts)
        → is_outside (state_after d Start line) ≡ true
    by_field ih (last_field none f) = let g = field_goes d a line text [] f refl in ap is_outside (state_end d line g.state g.goes) ∙ g.outside
    by_field ih (last_open none may f) = absurd (clash (sym may))
    by_field ih (more_fields w rest is f others) = ap (λ l. is_outside (state_after d Start l)) is ∙ ap is_outside (state_more d a w text rest f) ∙ ih rest others

outside_closed : (d : Dialect) → IsApart d → (line : List ℕ) (texts : List (List ℕ)) → SpellsTexts d true line texts → is_outside (state_after d Start line) ≡ true → SpellsTexts d false line texts
outside_closed d a line [] h o = absurd h
outside_closed d a line (text ∷ texts) h o = by_field (λ rest g p. outside_closed d a rest texts g p) h
  where
    by_field : ((rest : List ℕ) → SpellsTexts d true rest texts → is_outside (state_after d Start rest) ≡ true → SpellsTexts d false rest texts)
        → BeginsWithField d true line text texts (λ rest. SpellsTexts d true rest texts) → BeginsWithField d false line text texts (λ rest. SpellsTexts d false rest texts)
    by_field ih (last_field none f) = last_field none f
    by_field ih (last_open none may f) = absurd (clash (sym o ∙ ap is_outside (state_end d line Inside (open_goes d a line text f))))
    by_field ih (more_fields w rest is f others) =
        more_fields w rest is f (ih rest others (sym (ap (λ l. is_outside (state_after d Start l)) is ∙ ap is_outside (state_more d a w text rest f)) ∙ o))

closed_by_walk : (d : Dialect) → IsApart d → (line : List ℕ) → IsClosed d line ↔ (is_outside (state_after d Start line) ≡ true)
closed_by_walk d a line = (
  (λ c. closed_outside d a line c.texts c.spelled),
  λ o. let h = has_fields d line in record { texts = h.texts; spelled = outside_closed d a line h.texts h.spelled o },
)

-- a walk over fields comes to no comment
reads_fields : State → Bool
reads_fields Start = true
reads_fields Tail = true
reads_fields Inside = true
reads_fields Paired = true
reads_fields Comment = false

cond_fields : (b : Bool) (s t : State) → reads_fields s ≡ true → reads_fields t ≡ true → reads_fields (cond b s t) ≡ true
cond_fields true s t h g = h
cond_fields false s t h g = g

step_fields : (d : Dialect) (s : State) (c : ℕ) (x : Bool) → reads_fields s ≡ true → reads_fields (step d s c x) ≡ true
unfolding reads_fields
step_fields d Start c x h = cond_fields (c == d.field) Start (cond (c == d.quote) Inside Tail) refl (cond_fields (c == d.quote) Inside Tail refl refl)
step_fields d Tail c x h = cond_fields (c == d.field) Start Tail refl refl
step_fields d Inside c x h = cond_fields (c == d.escape && x) Paired (cond (c == d.quote) Tail Inside) refl (cond_fields (c == d.quote) Tail Inside refl refl)
step_fields d Paired c x h = refl
step_fields d Comment c x h = h

start_fields : reads_fields Start ≡ true
unfolding reads_fields
start_fields = refl

state_fields : (d : Dialect) (s : State) (cs : List ℕ) → reads_fields s ≡ true → reads_fields (state_after d s cs) ≡ true
state_fields d s [] h = ap reads_fields (state_nil d s) ∙ h
state_fields d s (c ∷ cs) h = ap reads_fields (state_cons d s c cs) ∙ state_fields d (step d s c (special d cs)) cs (step_fields d s c (special d cs) h)

ends_outside : (s : State) → reads_fields s ≡ true → may_end s ≡ true → is_outside s ≡ true
unfolding reads_fields
ends_outside Start h m = refl
ends_outside Tail h m = refl
ends_outside Inside h m = m
ends_outside Paired h m = m
ends_outside Comment h m = h

outside_ends : (s : State) → is_outside s ≡ true → may_end s ≡ true
outside_ends Start o = refl
outside_ends Tail o = refl
outside_ends Inside o = o
outside_ends Paired o = o
outside_ends Comment o = refl

pub state_comment : (d : Dialect) (cs : List ℕ) → state_after d Comment cs ≡ Comment
state_comment d [] = state_nil d Comment
state_comment d (c ∷ cs) = state_cons d Comment c cs ∙ state_comment d cs

-- ---- where the delimiter stands

pub are_same : (a b : List ℕ) → bytes_eq a b ≡ true → a ≡ b
are_same a b e = (bytes_eq-Decides a b).0 e

pub same_test : (a b : List ℕ) → a ≡ b → bytes_eq a b ≡ true
same_test a b e = (bytes_eq-Decides a b).1 e

drop_none : (xs : List ℕ) → drop 0 xs ≡ xs
drop_none [] = refl
drop_none (x ∷ xs) = refl

take_none : (xs : List ℕ) → take 0 xs ≡ []
take_none [] = refl
take_none (x ∷ xs) = refl

pub stands_delimited : (d : Dialect) (xs : List ℕ) → StandsAt (delimiter_of d) xs 0 → delimited d xs ≡ true
stands_delimited d xs h = same_test (take (length (delimiter_of d)) xs) (delimiter_of d) (ap (take (length (delimiter_of d))) (sym (drop_none xs)) ∙ h)

pub delimited_stands : (d : Dialect) (xs : List ℕ) → delimited d xs ≡ true → StandsAt (delimiter_of d) xs 0
delimited_stands d xs h = ap (take (length (delimiter_of d))) (drop_none xs) ∙ are_same (take (length (delimiter_of d)) xs) (delimiter_of d) h

-- the byte where it stands
pub stands_first : (d : Dialect) (p : Delimits d) (xs : List ℕ) (j : ℕ) → StandsAt (delimiter_of d) xs j → (j < length xs) × (slice_index xs j ≡ p.first)
stands_first d p xs j h = by_rest (drop j xs) refl (sym (ap (λ l. take (length l) (drop j xs)) p.is) ∙ h ∙ p.is)
  where
    by_rest : (rest : List ℕ) → drop j xs ≡ rest → take (length (p.first ∷ p.more)) (drop j xs) ≡ p.first ∷ p.more → (j < length xs) × (slice_index xs j ≡ p.first)
    by_rest [] e g = let f : take (length (p.first ∷ p.more)) [] ≡ p.first ∷ p.more = ap (take (length (p.first ∷ p.more))) (sym e) ∙ g in absurd (cc)
    by_rest (x ∷ rest) e g =
        let f : x ∷ take (length p.more) rest ≡ p.first ∷ p.more = ap (take (length (p.first ∷ p.more))) (sym e) ∙ g in
        let z : j + 0 ≡ j = omega arith in
        (omega (arith, ap length e, length-drop j xs), ap (slice_index xs) (sym z) ∙ sym (get_or-drop j xs 0 0) ∙ ap (λ l. slice_index l 0) e ∙ (let same : x ≡ p.first = cc in same))

stands_special : (d : Dialect) → Delimits d → (xs : List ℕ) → StandsAt (delimiter_of d) xs 0 → special d xs ≡ false
stands_special d p [] h = refl
stands_special d p (x ∷ xs) h =
    let first : x ≡ p.first = (stands_first d p (x ∷ xs) 0 h).1 in
    rw (eq_not x d.quote (λ e. p.quote (sym first ∙ e)), eq_not x d.escape (λ e. p.escape (sym first ∙ e))) refl

-- ---- where the walk stops

pub stop_nil : (d : Dialect) (s : State) → stop_from d s [] ≡ 0
unfolding stop_from
stop_nil d s = refl

stop_cons : (d : Dialect) (s : State) (c : ℕ) (cs : List ℕ) → stop_from d s (c ∷ cs) ≡ cond (stops d s (c ∷ cs)) 0 (suc (stop_from d (step d s c (special d cs)) cs))
unfolding stop_from
stop_cons d s c cs = refl

pub stop_here : (d : Dialect) (s : State) (c : ℕ) (cs : List ℕ) → stops d s (c ∷ cs) ≡ true → stop_from d s (c ∷ cs) ≡ 0
stop_here d s c cs h = stop_cons d s c cs ∙ ap (λ b. cond b 0 (suc (stop_from d (step d s c (special d cs)) cs))) h

pub stop_onwards : (d : Dialect) (s : State) (c : ℕ) (cs : List ℕ) → stops d s (c ∷ cs) ≡ false → stop_from d s (c ∷ cs) ≡ suc (stop_from d (step d s c (special d cs)) cs)
stop_onwards d s c cs h = stop_cons d s c cs ∙ ap (λ b. cond b 0 (suc (stop_from d (step d s c (special d cs)) cs))) h

pub stop_within : (d : Dialect) (s : State) (xs : List ℕ) → stop_from d s xs ≤ length xs
stop_within d s [] = omega (arith, stop_nil d s)
stop_within d s (c ∷ cs) = by_stop (stops d s (c ∷ cs)) refl (stop_within d (step d s c (special d cs)) cs)
  where
    by_stop : (b : Bool) → stops d s (c ∷ cs) ≡ b → stop_from d (step d s c (special d cs)) cs ≤ length cs → stop_from d s (c ∷ cs) ≤ length (c ∷ cs)
    by_stop true e ih = omega (arith, stop_here d s c cs e)
    by_stop false e ih = omega (arith, stop_onwards d s c cs e)

-- the front of the bytes leaves the state as all of them do, where the delimiter stands behind it
front_special : (d : Dialect) → Delimits d → (cs : List ℕ) (i : ℕ) → StandsAt (delimiter_of d) cs i → special d (take i cs) ≡ special d cs
front_special d p cs zero h = ap (special d) (take_none cs) ∙ sym (stands_special d p cs h)
front_special d p [] (suc i) h = refl
front_special d p (c ∷ cs) (suc i) h = refl

state_front : (d : Dialect) → Delimits d → (s : State) (c : ℕ) (cs : List ℕ) (i : ℕ) → StandsAt (delimiter_of d) cs i
    → state_after d s (take (suc i) (c ∷ cs)) ≡ state_after d (step d s c (special d cs)) (take i cs)
state_front d p s c cs i h = state_cons d s c (take i cs) ∙ ap (λ x. state_after d (step d s c x) (take i cs)) (front_special d p cs i h)

and_false : (x y : Bool) → (x && y) ≡ false → y ≡ true → x ≡ false
and_false true y h e = absurd (clash (sym e ∙ h))
and_false false y h e = refl

and_left : (x y : Bool) → (x && y) ≡ true → x ≡ true
and_left true y e = refl
and_left false y e = absurd (cc)

pub and_right : (x y : Bool) → (x && y) ≡ true → y ≡ true
and_right true y e = e
and_right false y e = absurd (cc)

-- before the walk stops, the record may end at no delimiter
stop_before : (d : Dialect) → Delimits d → (s : State) (xs : List ℕ) (j : ℕ) → j < stop_from d s xs → StandsAt (delimiter_of d) xs j → may_end (state_after d s (take j xs)) ≡ false
stop_before d p s [] j l h = absurd (omega (arith, stop_nil d s))
stop_before d p s (c ∷ cs) j l h = by_stop (stops d s (c ∷ cs)) refl (λ t i k g. stop_before d p t cs i k g) j l h
  where
    by_stop : (b : Bool) → stops d s (c ∷ cs) ≡ b
        → ((t : State) (i : ℕ) → i < stop_from d t cs → StandsAt (delimiter_of d) cs i → may_end (state_after d t (take i cs)) ≡ false)
        → (j : ℕ) → j < stop_from d s (c ∷ cs) → StandsAt (delimiter_of d) (c ∷ cs) j → may_end (state_after d s (take j (c ∷ cs))) ≡ false
    by_stop true e ih j l h = absurd (omega (arith, stop_here d s c cs e))
    by_stop false e ih zero l h = ap may_end (state_nil d s) ∙ and_false (may_end s) (delimited d (c ∷ cs)) e (stands_delimited d (c ∷ cs) h)
    by_stop false e ih (suc i) l h =
        ap may_end (state_front d p s c cs i h) ∙ ih (step d s c (special d cs)) i (omega (arith, stop_onwards d s c cs e)) h

-- where the walk stops, it may
record Stopped (d : Dialect) (s : State) (xs : List ℕ) (k : ℕ) : Type 0 where
  here : StandsAt (delimiter_of d) xs k
  ends : may_end (state_after d s (take k xs)) ≡ true

stop_at : (d : Dialect) → Delimits d → (s : State) (xs : List ℕ) (k : ℕ) → stop_from d s xs ≡ k → k < length xs → Stopped d s xs k
stop_at d p s [] k is l = absurd (omega arith)
stop_at d p s (c ∷ cs) k is l = by_stop (stops d s (c ∷ cs)) refl (λ t i e g. stop_at d p t cs i e g) k is l
  where
    by_stop : (b : Bool) → stops d s (c ∷ cs) ≡ b
        → ((t : State) (i : ℕ) → stop_from d t cs ≡ i → i < length cs → Stopped d t cs i)
        → (k : ℕ) → stop_from d s (c ∷ cs) ≡ k → k < length (c ∷ cs) → Stopped d s (c ∷ cs) k
    by_stop true e ih zero is l = record {
      here = delimited_stands d (c ∷ cs) (and_right (may_end s) (delimited d (c ∷ cs)) e);
      ends = ap may_end (state_nil d s) ∙ and_left (may_end s) (delimited d (c ∷ cs)) e;
    }
    by_stop true e ih (suc k) is l = absurd (omega (arith, stop_here d s c cs e))
    by_stop false e ih zero is l = absurd (omega (arith, stop_onwards d s c cs e))
    by_stop false e ih (suc k) is l =
        let later = ih (step d s c (special d cs)) k (omega (arith, stop_onwards d s c cs e)) (omega arith) in
        record { here = later.here; ends = ap may_end (state_front d p s c cs k later.here) ∙ later.ends }

-- ---- a record's content

-- a record with the content up to a delimiter may end there
abbrev MayEndIn : Dialect → List ℕ → ℕ → Type 0
MayEndIn d content j = StandsAt (delimiter_of d) content j × MayEndWith d (take j content)

-- where the delimiter stands, a front begins with the comment character as the whole does
front_comment : (d : Dialect) → Delimits d → (cs : List ℕ) (j : ℕ) → StandsAt (delimiter_of d) cs j → begins_with d.comment (take j cs) ≡ begins_with d.comment cs
front_comment d p [] zero h = refl
front_comment d p (c ∷ cs) zero h = let first = (stands_first d p (c ∷ cs) 0 h).1 in sym (eq_not c d.comment (λ e. p.comment (sym first ∙ e)))
front_comment d p [] (suc j) h = refl
front_comment d p (c ∷ cs) (suc j) h = refl

pub walk_ends : (d : Dialect) → IsApart d → Delimits d → (content : List ℕ) (j : ℕ) → StandsAt (delimiter_of d) content j
    → MayEndWith d (take j content) ↔ (may_end (state_after d (first_state d content) (take j content)) ≡ true)
walk_ends d a p content j h = by_comment (begins_with d.comment content) refl
  where
    by_comment : (b : Bool) → begins_with d.comment content ≡ b
        → MayEndWith d (take j content) ↔ (may_end (state_after d (first_state d content) (take j content)) ≡ true)
    by_comment true e = (
      (λ _. ap (λ b. may_end (state_after d (cond b Comment Start) (take j content))) e ∙ ap may_end (state_comment d (take j content))),
      λ _. inl (front_comment d p content j h ∙ e),
    )
    by_comment false e =
        let same : may_end (state_after d (first_state d content) (take j content)) ≡ may_end (state_after d Start (take j content)) = ap (λ b. may_end (state_after d (cond b Comment Start) (take j content))) e in (
          (λ m. same ∙ ⊎_elim (λ c. absurd (clash (sym c ∙ (front_comment d p content j h ∙ e)))) (λ c. outside_ends (state_after d Start (take j content)) ((closed_by_walk d a (take j content)).0 c)) m),
          λ m. inr ((closed_by_walk d a (take j content)).1 (ends_outside (state_after d Start (take j content)) (state_fields d Start (take j content) start_fields) (sym same ∙ m))),
        )

-- where the walk over a content stops at a delimiter, it is the first one at which the record may end
content_ends : (d : Dialect) → IsApart d → Delimits d → (content : List ℕ) → content_len d content < length content → MayEndIn d content (content_len d content)
content_ends d a p content l =
    let s = stop_at d p (first_state d content) content (content_len d content) refl l in
    (s.here, (walk_ends d a p content (content_len d content) s.here).1 s.ends)

content_none : (d : Dialect) → IsApart d → Delimits d → (content : List ℕ) (j : ℕ) → j < content_len d content → MayEndIn d content j → ⊥
content_none d a p content j l m =
    clash (sym ((walk_ends d a p content j m.0).0 m.1) ∙ stop_before d p (first_state d content) content j l m.0)

-- ---- behind a byte order mark

-- the content of a record and its body, where a mark of so many bytes stands at its front
pub record Marked (d : Dialect) (p : ℕ) (bytes : List ℕ) (n : ℕ) : Type 0 where
  pub short : n ≤ length bytes
  pub inner : (k : ℕ) → StandsAt (delimiter_of d) bytes k → n ≤ k
  pub content : (k : ℕ) → n ≤ k → content_at p (take k bytes) ≡ take (k - n) (drop n bytes)

by_three : (b : Bool) (k : ℕ) (bytes : List ℕ) → bytes_eq (take 3 bytes) (0xef ∷ 0xbb ∷ 0xbf ∷ []) ≡ false → bytes_eq (take 3 (take k bytes)) (0xef ∷ 0xbb ∷ 0xbf ∷ []) ≡ b → b ≡ false
by_three false k bytes h e = refl
by_three true k bytes h e =
    let same : take 3 (take k bytes) ≡ 0xef ∷ 0xbb ∷ 0xbf ∷ [] = are_same (take 3 (take k bytes)) (0xef ∷ 0xbb ∷ 0xbf ∷ []) e in
    let long : 3 ≤ k = omega (arith, ap length same, length-take 3 (take k bytes), length-take k bytes) in
    clash_bool (sym h ∙ ap (λ l. bytes_eq l (0xef ∷ 0xbb ∷ 0xbf ∷ [])) (sym (take-take 3 k bytes long)) ∙ e)
  where
    clash_bool : false ≡ true → true ≡ false
    clash_bool f = sym f

not_marked : (k : ℕ) (bytes : List ℕ) → bytes_eq (take 3 bytes) (0xef ∷ 0xbb ∷ 0xbf ∷ []) ≡ false → without_mark (take k bytes) ≡ take k bytes
not_marked k bytes h =
    ap (λ b. cond b (drop 3 (take k bytes)) (take k bytes)) (by_three (bytes_eq (take 3 (take k bytes)) (0xef ∷ 0xbb ∷ 0xbf ∷ [])) k bytes h refl)

no_mark : (d : Dialect) (p : ℕ) (bytes : List ℕ) → ((k : ℕ) → content_at p (take k bytes) ≡ take k bytes) → Marked d p bytes 0
no_mark d p bytes h = record {
  short = omega arith;
  inner = λ k _. omega arith;
  content = λ k _. let z : k - 0 ≡ k = omega arith in h k ∙ ap (take k) (sym (drop_none bytes)) ∙ ap (λ n. take n (drop 0 bytes)) (sym z);
}

marked_front : (d : Dialect) → Delimits d → (p : ℕ) (bytes : List ℕ) → (p == 0) ≡ true → take 3 bytes ≡ 0xef ∷ 0xbb ∷ 0xbf ∷ [] → Marked d p bytes 3
marked_front d q p bytes front e = by_bytes bytes e
  where
    by_bytes : (bytes : List ℕ) → take 3 bytes ≡ 0xef ∷ 0xbb ∷ 0xbf ∷ [] → Marked d p bytes 3
    by_bytes [] f = absurd (cc)
    by_bytes (a ∷ []) f = absurd (omega (arith, ap length f))
    by_bytes (a ∷ b ∷ []) f = absurd (omega (arith, ap length f))
    by_bytes (a ∷ b ∷ c ∷ rest) f = record {
      short = omega arith;
      inner = λ k h. not_before rest k h;
      content = λ k l. content_of rest k l;
    }
      where
        not_before : (rest : List ℕ) (k : ℕ) → StandsAt (delimiter_of d) (a ∷ b ∷ c ∷ rest) k → 3 ≤ k
        not_before rest zero h = let x = (stands_first d q (a ∷ b ∷ c ∷ rest) 0 h).1 in let y : a ≡ 0xef = cc in absurd (omega (arith, q.low))
        not_before rest (suc zero) h = let x = (stands_first d q (a ∷ b ∷ c ∷ rest) 1 h).1 in let y : b ≡ 0xbb = cc in absurd (omega (arith, q.low))
        not_before rest (suc (suc zero)) h = let x = (stands_first d q (a ∷ b ∷ c ∷ rest) 2 h).1 in let y : c ≡ 0xbf = cc in absurd (omega (arith, q.low))
        not_before rest (suc (suc (suc k))) h = omega arith

        content_of : (rest : List ℕ) (k : ℕ) → 3 ≤ k → content_at p (take k (a ∷ b ∷ c ∷ rest)) ≡ take (k - 3) rest
        content_of rest zero l = absurd (omega arith)
        content_of rest (suc zero) l = absurd (omega arith)
        content_of rest (suc (suc zero)) l = absurd (omega arith)
        content_of rest (suc (suc (suc k))) l =
            let z : suc (suc (suc k)) - 3 ≡ k = omega arith in
            let y : a ∷ b ∷ c ∷ [] ≡ 0xef ∷ 0xbb ∷ 0xbf ∷ [] = f in
            ap (λ t. cond t (without_mark (a ∷ b ∷ c ∷ take k rest)) (a ∷ b ∷ c ∷ take k rest)) front
            ∙ ap (λ t. cond t (take k rest) (a ∷ b ∷ c ∷ take k rest)) (same_test (a ∷ b ∷ c ∷ []) (0xef ∷ 0xbb ∷ 0xbf ∷ []) y)
            ∙ ap (λ n. take n rest) (sym z)

pub marked : (d : Dialect) → Delimits d → (p : ℕ) (bytes : List ℕ) → Marked d p bytes (mark_len p bytes)
marked d q p bytes = by_place (p == 0) refl (bytes_eq (take 3 bytes) (0xef ∷ 0xbb ∷ 0xbf ∷ [])) refl
  where
    along : (n m : ℕ) → n ≡ m → Marked d p bytes m → Marked d p bytes n
    along n m e h = let P : ℕ → Type 0 = Marked d p bytes in subst P (sym e) h

    by_place : (x : Bool) → (p == 0) ≡ x → (y : Bool) → bytes_eq (take 3 bytes) (0xef ∷ 0xbb ∷ 0xbf ∷ []) ≡ y → Marked d p bytes (mark_len p bytes)
    by_place false e y f =
        along (mark_len p bytes) 0 (ap (λ t. cond (t && bytes_eq (take 3 bytes) (0xef ∷ 0xbb ∷ 0xbf ∷ [])) 3 0) e)
        (no_mark d p bytes (λ k. ap (λ t. cond t (without_mark (take k bytes)) (take k bytes)) e))
    by_place true e false f =
        along (mark_len p bytes) 0 (ap (λ t. cond (t && bytes_eq (take 3 bytes) (0xef ∷ 0xbb ∷ 0xbf ∷ [])) 3 0) e ∙ ap (λ t. cond t 3 0) f)
        (no_mark d p bytes (λ k. ap (λ t. cond t (without_mark (take k bytes)) (take k bytes)) e ∙ not_marked k bytes f))
    by_place true e true f =
        along (mark_len p bytes) 3 (ap (λ t. cond (t && bytes_eq (take 3 bytes) (0xef ∷ 0xbb ∷ 0xbf ∷ [])) 3 0) e ∙ ap (λ t. cond t 3 0) f)
        (marked_front d q p bytes e (are_same (take 3 bytes) (0xef ∷ 0xbb ∷ 0xbf ∷ []) f))

-- ---- the record at a place

pub body_is : (d : Dialect) (p : ℕ) (bytes : List ℕ) → body_len d p bytes ≡ mark_len p bytes + content_len d (drop (mark_len p bytes) bytes)
unfolding body_len
body_is d p bytes = refl

pub width_some : (d : Dialect) → Delimits d → 0 < length (delimiter_of d)
width_some d q = omega (arith, ap length q.is)

pub stands_short : (d : Dialect) (xs : List ℕ) (k : ℕ) → 0 < length (delimiter_of d) → StandsAt (delimiter_of d) xs k → k + length (delimiter_of d) ≤ length xs
stands_short d xs k some h =
    omega (arith, ap length h, length-take (length (delimiter_of d)) (drop k xs), length-drop k xs)

behind_mark : (d : Dialect) (bytes : List ℕ) (n k : ℕ) → n ≤ k → drop (k - n) (drop n bytes) ≡ drop k bytes
behind_mark d bytes n k l = let e : n + (k - n) ≡ k = omega arith in drop-drop (k - n) n bytes ∙ ap (λ m. drop m bytes) e

inner_end : (d : Dialect) (object : List ℕ) (p k n : ℕ) → Marked d p (drop p object) n → MayEnd d object p k → (n ≤ k) × MayEndIn d (drop n (drop p object)) (k - n)
inner_end d object p k n m e =
    let l = m.inner k e.here in
    (l, (ap (take (length (delimiter_of d))) (behind_mark d (drop p object) n k l) ∙ e.here, subst (MayEndWith d) (m.content k l) e.ends))

outer_end : (d : Dialect) (object : List ℕ) (p k n : ℕ) → Marked d p (drop p object) n → n ≤ k → MayEndIn d (drop n (drop p object)) (k - n) → MayEnd d object p k
outer_end d object p k n m l e = record {
  here = ap (take (length (delimiter_of d))) (sym (behind_mark d (drop p object) n k l)) ∙ e.0;
  ends = subst (MayEndWith d) (sym (m.content k l)) e.1;
}

pub body_within : (d : Dialect) → Delimits d → (p : ℕ) (bytes : List ℕ) → body_len d p bytes ≤ length bytes
body_within d q p bytes =
    let n = mark_len p bytes in
    omega (arith, body_is d p bytes, stop_within d (first_state d (drop n bytes)) (drop n bytes), length-drop n bytes, (marked d q p bytes).short)

body_ends : (d : Dialect) → IsApart d → Delimits d → (object : List ℕ) (p : ℕ) → body_len d p (drop p object) < length (drop p object) → MayEnd d object p (body_len d p (drop p object))
body_ends d a q object p l =
    let bytes : List ℕ = drop p object in
    let n = mark_len p bytes in
    let inner : body_len d p bytes - n ≡ content_len d (drop n bytes) = omega (arith, body_is d p bytes) in
    let P : ℕ → Type 0 = MayEndIn d (drop n bytes) in
    outer_end d object p (body_len d p bytes) n (marked d q p bytes) (omega (arith, body_is d p bytes))
    (subst P (sym inner) (content_ends d a q (drop n bytes) (omega (arith, body_is d p bytes, length-drop n bytes, (marked d q p bytes).short))))

body_none : (d : Dialect) → IsApart d → Delimits d → (object : List ℕ) (p j : ℕ) → j < body_len d p (drop p object) → MayEnd d object p j → ⊥
body_none d a q object p j l m =
    let bytes : List ℕ = drop p object in
    let n = mark_len p bytes in
    let i = inner_end d object p j n (marked d q p bytes) m in
    content_none d a q (drop n bytes) (j - n) (omega (arith, body_is d p bytes, i.0)) i.1

-- each place has a record, and no other
pub record_there : (d : Dialect) → IsApart d → Delimits d → (object : List ℕ) (p : ℕ) → p < length object → CutsRecord d object p (cut_of d object p)
record_there d a q object p some = record {
  some = some;
  start = refl;
  ends = ⊎_elim
      (λ l.
      let short = stands_short d bytes len (width_some d q) (body_ends d a q object p l).here in
      ends_at_delimiter len (body_ends d a q object p l) (λ j g m. body_none d a q object p j g m) refl (omega (arith, length-drop p object)))
      (λ past.
      unended (λ j m. body_none d a q object p j (omega (arith, stands_short d bytes j (width_some d q) m.here, width_some d q)) m) (take_all len bytes past) (omega (arith, length-drop p object)))
      (cases_lt len (length bytes));
}
  where
    bytes : List ℕ
    bytes = drop p object

    len : ℕ
    len = body_len d p bytes

same_cut : (one other : Cut) → one.start ≡ other.start → one.body ≡ other.body → one.whole ≡ other.whole → one ≡ other
same_cut one other s b w =
    ap (λ x. record { start = x; body = one.body; whole = one.whole }) s
    ∙ ap (λ x. record { start = other.start; body = x; whole = one.whole }) b
    ∙ ap (λ x. record { start = other.start; body = other.body; whole = x }) w

pub record_alone : (d : Dialect) → IsApart d → Delimits d → (object : List ℕ) (p : ℕ) (cut : Cut) → CutsRecord d object p cut → cut ≡ cut_of d object p
record_alone d a q object p cut c = by_end c.ends
  where
    by_end : EndsRecord d object p cut.body cut.whole → cut ≡ cut_of d object p
    by_end (ends_at_delimiter k m before body whole) =
        let bytes : List ℕ = drop p object in
        let len = body_len d p bytes in
        let short = stands_short d bytes k (width_some d q) m.here in
        let low : k < len → ⊥ = λ l. body_none d a q object p k l m in
        let high : len < k → ⊥ = λ l. before len l (body_ends d a q object p (omega (arith, short))) in
        let same : k ≡ len = ⊎_elim (λ l. absurd (low l)) (λ g. ⊎_elim (λ l. absurd (high l)) (λ h. omega arith) (cases_lt len k)) (cases_lt k len) in
        same_cut cut (cut_of d object p) c.start (body ∙ ap (λ n. take n bytes) same) (omega (arith, whole, same, short, length-drop p object))
    by_end (unended none body whole) =
        let bytes : List ℕ = drop p object in
        let len = body_len d p bytes in
        let past : length bytes ≤ len = ⊎_elim (λ l. absurd (none len (body_ends d a q object p l))) (λ g. g) (cases_lt len (length bytes)) in
        same_cut cut (cut_of d object p) c.start (body ∙ sym (take_all len bytes past)) (omega (arith, whole, past, length-drop p object))

whole_some : (d : Dialect) → Delimits d → (object : List ℕ) (p : ℕ) → p < length object → 0 < (cut_of d object p).whole
whole_some d q object p l = omega (arith, width_some d q)

-- ---- all records

pub record HasRecords (d : Dialect) (object : List ℕ) (p : ℕ) : Type 0 where
  pub cuts : List Cut
  pub are : AreRecords d object p cuts

records_within : (d : Dialect) → IsApart d → Delimits d → (object : List ℕ) (n p : ℕ) → length object ≤ p + n → HasRecords d object p
records_within d a q object zero p l = record { cuts = []; are = omega arith }
records_within d a q object (suc n) p l =
    ⊎_elim
    (λ some.
    let later = records_within d a q object n (p + (cut_of d object p).whole) (omega (arith, whole_some d q object p some)) in
    record { cuts = cut_of d object p ∷ later.cuts; are = (record_there d a q object p some, later.are) })
    (λ past. record { cuts = []; are = past }) (cases_lt p (length object))

pub has_records : (d : Dialect) → IsApart d → Delimits d → (object : List ℕ) (p : ℕ) → HasRecords d object p
has_records d a q object p = records_within d a q object (length object) p (omega arith)

pub records_alone : (d : Dialect) → IsApart d → Delimits d → (object : List ℕ) (p : ℕ) (one other : List Cut) → AreRecords d object p one → AreRecords d object p other → one ≡ other
records_alone d a q object p [] [] h g = refl
records_alone d a q object p [] (cut ∷ cuts) h g = absurd (omega (arith, g.0.some))
records_alone d a q object p (cut ∷ cuts) [] h g = absurd (omega (arith, h.0.some))
records_alone d a q object p (one ∷ ones) (other ∷ others) h g =
    let same : one ≡ other = record_alone d a q object p one h.0 ∙ sym (record_alone d a q object p other g.0) in
    let P : ℕ → Type 0 = λ w. AreRecords d object (p + w) others in
    ap (λ c. c ∷ ones) same ∙ ap (λ cs. other ∷ cs) (records_alone d a q object (p + one.whole) ones others h.1 (subst P (ap (λ c. c.whole) (sym same)) g.1))

-- ---- the records as a function

cut_so_from : (d : Dialect) → IsApart d → Delimits d → (object : List ℕ) (n p : ℕ) → length object ≤ p + n → AreRecords d object p (quoted_from d object p n)
cut_so_from d a q object zero p l = omega arith
cut_so_from d a q object (suc n) p l =
    let cut = cut_of d object p in
    let P : Bool → Type 0 = λ b. nat_lt p (length object) ≡ b → AreRecords d object p (if b then cut ∷ quoted_from d object (p + cut.whole) n else []) in
    (elim (nat_lt p (length object)) as P [
      | true ↦ λ is.
          let some : p < length object = ltb-true p (length object) is in
          (record_there d a q object p some, cut_so_from d a q object n (p + cut.whole) (omega (arith, whole_some d q object p some)))
      | false ↦ λ is. ltb-false p (length object) is
    ]) refl

pub cut_so : (d : Dialect) → IsApart d → Delimits d → (object : List ℕ) → AreRecords d object 0 (quoted_cuts d object)
unfolding quoted_cuts
cut_so d a q object = cut_so_from d a q object (length object) 0 (omega arith)
