-- The element that comes next.
use Rattle.std.proofs.Common.{◌≡◌, ℕ, zero, suc, ◌+◌, ◌-◌, ◌<◌, ◌≤◌, Bool, true, false, cond, ◌||◌, ◌==◌, List, [], ◌∷◌, ◌++◌, length, take, drop, get_or, lit<, add-one, drop-cons, length-drop, length-append, refl, sym, ◌∙◌, ap, subst, arith}
use Rattle.std.specs.Prelude.{slice_range, slice_get, Some}
use Rattle.std.proofs.lemmas.Bool.Decides.{nat_tests}
use Rattle.std.proofs.lemmas.Str.{IsCharBoundary-before_ascii}
use Rattle.std.specs.Str.{IsCharBoundary}
use Rattle.std.proofs.Math.Bridge.{le_prop}
use Rattle.std.proofs.Math.Logic.{∥∥₁_elim, ∥∥₁_map}
use Rattle.json_text.specs.Grammar.{Json, null, truth, number, string, empty_array, array, empty_object, object, Element, element, Elements, no_elements, more_elements, Member, member, Members, no_members, more_members, Number, unsigned, negative, zero_int, nonzero_int, print_number, IsNumber, print, print_element, print_elements, IsValue, IsElement, AreElements, IsMember, AreMembers, AreBlanks, is_nonzero_digit}
use Rattle.json_text.specs.Texts.{levels}
use Rattle.json_text.specs.Trimmed.{skip_blanks}
use Rattle.json_text.specs.Skipped.{value_rest, is_close}
use Rattle.json_text.specs.Nodes.{IsNode, Spells}
use Rattle.json_text.specs.Walks.{Placed, items_from, elements_of, Cursor, Ahead, due, over, IsOver, at_end, at_bracket, IsFirst, Split, comma_place, IsWalk, IsAt, bytes_left, walk_start}
use Rattle.json_text.proofs.Prints.{skip_app, value_front, value_front_apart}
use Rattle.json_text.proofs.Skips.{Stops, value_passed}
use Rattle.json_text.proofs.Trims.{blank_ascii}

-- ---- a value inside others is a value

mutual
  unfolding IsValue

  pub value_weaker : (v : Json) (l d : ℕ) → IsValue l (suc d) v → IsValue l d v
  value_weaker null l d h = h
  value_weaker (truth b) l d h = h
  value_weaker (number n) l d h = h
  value_weaker (string raw) l d h = h
  value_weaker (empty_array b) l d h = (omega (arith, h.0), h.1)
  value_weaker (array x xs) l d h = (omega (arith, h.0), element_weaker x l (suc d) h.1, elements_weaker xs l (suc d) h.2)
  value_weaker (empty_object b) l d h = (omega (arith, h.0), h.1)
  value_weaker (object m ms) l d h = (omega (arith, h.0), member_weaker m l (suc d) h.1, members_weaker ms l (suc d) h.2)

  pub element_weaker : (x : Element) (l d : ℕ) → IsElement l (suc d) x → IsElement l d x
  element_weaker (element before v behind) l d h = (h.0, value_weaker v l d h.1, h.2)

  pub elements_weaker : (xs : Elements) (l d : ℕ) → AreElements l (suc d) xs → AreElements l d xs
  elements_weaker no_elements l d h = h
  elements_weaker (more_elements x xs) l d h = (element_weaker x l d h.0, elements_weaker xs l d h.1)

  pub member_weaker : (m : Member) (l d : ℕ) → IsMember l (suc d) m → IsMember l d m
  member_weaker (member before name behind x) l d h = (h.0, h.1, h.2, element_weaker x l d h.3)

  pub members_weaker : (ms : Members) (l d : ℕ) → AreMembers l (suc d) ms → AreMembers l d ms
  members_weaker no_members l d h = h
  members_weaker (more_members m ms) l d h = (member_weaker m l d h.0, members_weaker ms l d h.1)

-- ---- the first byte of a value

pub record Head (bytes : List ℕ) : Type 0 where
  pub byte : ℕ
  pub rest : List ℕ
  pub is : bytes ≡ byte ∷ rest
  pub ascii : byte < 128

nonzero_ascii : (d : ℕ) → is_nonzero_digit d ≡ true → d < 128
nonzero_ascii d h = grind (arith, nat_tests)

number_head : (n : Number) (rest : List ℕ) → IsNumber n → Head (print_number n rest)
number_head (unsigned zero_int f e) rest h = record { byte = 48; rest = _; is = refl; ascii = lit< tt }
number_head (unsigned (nonzero_int d ds) f e) rest h = record { byte = d; rest = _; is = refl; ascii = nonzero_ascii d h.0.0 }
number_head (negative i f e) rest h = record { byte = 45; rest = _; is = refl; ascii = lit< tt }

value_head : (v : Json) (l d : ℕ) (rest : List ℕ) → IsValue l d v → Head (print v rest)
unfolding print IsValue
value_head null l d rest h = record { byte = 110; rest = _; is = refl; ascii = lit< tt }
value_head (truth true) l d rest h = record { byte = 116; rest = _; is = refl; ascii = lit< tt }
value_head (truth false) l d rest h = record { byte = 102; rest = _; is = refl; ascii = lit< tt }
value_head (number n) l d rest h = number_head n rest h
value_head (string raw) l d rest h = record { byte = 34; rest = _; is = refl; ascii = lit< tt }
value_head (empty_array b) l d rest h = record { byte = 91; rest = _; is = refl; ascii = lit< tt }
value_head (array x xs) l d rest h = record { byte = 91; rest = _; is = refl; ascii = lit< tt }
value_head (empty_object b) l d rest h = record { byte = 123; rest = _; is = refl; ascii = lit< tt }
value_head (object m ms) l d rest h = record { byte = 123; rest = _; is = refl; ascii = lit< tt }

-- ---- places

pub behind_drop : (s xs : List ℕ) (k : ℕ) → k ≤ length s → drop k s ≡ xs → length xs + k ≡ length s
behind_drop s xs k h e = omega (arith, length-drop k s, ap length e)

pub byte_at : (s xs : List ℕ) (k c : ℕ) → k ≤ length s → drop k s ≡ c ∷ xs → (k < length s) × (get_or s k 0 ≡ c) × (drop (k + 1) s ≡ xs)
byte_at s xs k c h e =
    let l : k < length s = omega (arith, behind_drop s (c ∷ xs) k h e) in
    let both : get_or s k 0 ∷ drop (suc k) s ≡ c ∷ xs = sym (drop-cons s k 0 l) ∙ e in
    let first : get_or s k 0 ≡ c = cc (both) in
    let rest : drop (suc k) s ≡ xs = cc (both) in
    (l, first, rw add-one rest)

take_front : (xs ys : List ℕ) → take (length xs) (xs ++ ys) ≡ xs
take_front [] ys = refl
take_front (x ∷ xs) ys = ap (λ l. x ∷ l) (take_front xs ys)

head_boundary : (s : List ℕ) (k : ℕ) → k ≤ length s → Head (drop k s) → IsCharBoundary s k
head_boundary s k h x =
    let b = byte_at s x.rest k x.byte h x.is in
    IsCharBoundary-before_ascii s k b.0 (subst (λ c. c < 128) (sym b.1) x.ascii)

-- ---- the next element

pub blanks_stop : (bs rest : List ℕ) → AreBlanks bs → Stops rest → Stops (bs ++ rest)
blanks_stop [] rest h s = s
blanks_stop (b ∷ bs) rest h s = ap (λ t. t || b == 44 || is_close b) h.0

elements_head : (es : Elements) (rest : List ℕ) → Head (print_elements es rest)
unfolding print
elements_head no_elements rest = record { byte = 93; rest = rest; is = refl; ascii = lit< tt }
elements_head (more_elements x xs) rest = record { byte = 44; rest = _; is = refl; ascii = lit< tt }

blanks_head : (bs rest : List ℕ) → AreBlanks bs → Head rest → Head (bs ++ rest)
blanks_head [] rest h x = x
blanks_head (b ∷ bs) rest h x = record { byte = b; rest = bs ++ rest; is = refl; ascii = blank_ascii b h.0 }

-- a walk that found where a value begins, where it ends, and what stands behind the blanks behind it
pub record Walked (bytes : List ℕ) (at start end behind : ℕ) : Type 0 where
  pub at_within : at ≤ length bytes
  pub started : drop start bytes ≡ skip_blanks (drop at bytes)
  pub start_after : at ≤ start
  pub start_within : start ≤ length bytes
  pub ended : drop end bytes ≡ value_rest (drop start bytes)
  pub end_after : start ≤ end
  pub end_within : end ≤ length bytes
  pub passed : drop behind bytes ≡ skip_blanks (drop end bytes)
  pub behind_after : end ≤ behind
  pub behind_within : behind ≤ length bytes

-- the same, where an element stands with `tail` behind it
pub record Met (bytes : List ℕ) (at start end behind : ℕ) (before : List ℕ) (v : Json) (gap tail : List ℕ) : Type 0 where
  pub place : start ≡ at + length before
  pub token : slice_range bytes start end ≡ print v []
  pub length_is : end ≡ start + length (print v [])
  pub behind_is : behind ≡ end + length gap
  pub rest : drop behind bytes ≡ tail
  pub begins : IsCharBoundary bytes start
  pub ends : IsCharBoundary bytes end

pub met : (bytes : List ℕ) (at start end behind : ℕ) (before : List ℕ) (v : Json) (gap tail : List ℕ) (l d : ℕ) → Walked bytes at start end behind
    → AreBlanks before → IsValue l d v → AreBlanks gap → Stops tail → skip_blanks tail ≡ tail → Head tail → drop at bytes ≡ before ++ print v (gap ++ tail)
    → Met bytes at start end behind before v gap tail
met bytes at start end behind before v gap tail l d w hb hv hg stops front head e =
    let one : drop start bytes ≡ print v (gap ++ tail) = w.started ∙ ap skip_blanks e ∙ skip_app before (print v (gap ++ tail)) hb ∙ value_front v l d (gap ++ tail) hv in
    let two : drop end bytes ≡ gap ++ tail = w.ended ∙ ap value_rest one ∙ value_passed v l d (gap ++ tail) hv (blanks_stop gap tail hg stops) in
    let three : drop behind bytes ≡ tail = w.passed ∙ ap skip_blanks two ∙ skip_app gap tail hg ∙ front in
    let apart : drop start bytes ≡ print v [] ++ (gap ++ tail) = one ∙ value_front_apart v (gap ++ tail) in
    let n0 : length (before ++ print v (gap ++ tail)) + at ≡ length bytes = behind_drop bytes _ at w.at_within e in
    let n1 : length (print v (gap ++ tail)) + start ≡ length bytes = behind_drop bytes _ start w.start_within one in
    let n1' : length (print v [] ++ (gap ++ tail)) + start ≡ length bytes = behind_drop bytes _ start w.start_within apart in
    let n2 : length (gap ++ tail) + end ≡ length bytes = behind_drop bytes _ end w.end_within two in
    let n3 : length tail + behind ≡ length bytes = behind_drop bytes _ behind w.behind_within three in
    let size : end ≡ start + length (print v []) = omega (arith, n1', n2, length-append (print v []) (gap ++ tail)) in
    let same : end - start ≡ length (print v []) = omega arith in
    record {
      place = omega (arith, n0, n1, length-append before (print v (gap ++ tail)));
      token = ap (λ n. take n (drop start bytes)) same ∙ ap (take (length (print v []))) apart ∙ take_front (print v []) (gap ++ tail);
      length_is = size;
      behind_is = omega (arith, n2, n3, length-append gap tail);
      rest = three;
      begins = head_boundary bytes start w.start_within (subst Head (sym one) (value_head v l d (gap ++ tail) hv));
      ends = head_boundary bytes end w.end_within (subst Head (sym two) (blanks_head gap tail hg head));
    }

pub comma_yes : (bytes : List ℕ) (k : ℕ) → k < length bytes → get_or bytes k 0 ≡ 44 → comma_place bytes k ≡ k + 1
comma_yes bytes k l e = grind (arith, nat_tests)

pub comma_no : (bytes : List ℕ) (k : ℕ) → get_or bytes k 0 ≡ 93 → comma_place bytes k ≡ length bytes
comma_no bytes k e = grind (arith, nat_tests)

pub drop_all : (s : List ℕ) → drop (length s) s ≡ []
drop_all [] = refl
drop_all (x ∷ xs) = drop_all xs

begins_end : List ℕ → Bool
begins_end [] = false
begins_end (c ∷ cs) = c == 93

nonzero_no_end : (d : ℕ) → is_nonzero_digit d ≡ true → (d == 93) ≡ false
nonzero_no_end d h = grind (arith, nat_tests)

number_no_end : (n : Number) (rest : List ℕ) → IsNumber n → begins_end (print_number n rest) ≡ false
unfolding begins_end
number_no_end (unsigned zero_int f e) rest h = refl
number_no_end (unsigned (nonzero_int d ds) f e) rest h = nonzero_no_end d h.0.0
number_no_end (negative i f e) rest h = refl

value_no_end : (v : Json) (l d : ℕ) (rest : List ℕ) → IsValue l d v → begins_end (print v rest) ≡ false
unfolding print IsValue begins_end
value_no_end null l d rest h = refl
value_no_end (truth true) l d rest h = refl
value_no_end (truth false) l d rest h = refl
value_no_end (number n) l d rest h = number_no_end n rest h
value_no_end (string raw) l d rest h = refl
value_no_end (empty_array b) l d rest h = refl
value_no_end (array x y) l d rest h = refl
value_no_end (empty_object b) l d rest h = refl
value_no_end (object m ms) l d rest h = refl

clash : true ≡ false → ⊥
clash x = cc

bracket_no_value : (xs us : List ℕ) → us ≡ 93 ∷ xs → begins_end us ≡ false → ⊥
unfolding begins_end
bracket_no_value xs us e h = clash (sym (ap begins_end e) ∙ h)

-- an element begins where its blanks end
element_starts : (bytes : List ℕ) (at start : ℕ) (e : Element) (tail : List ℕ) → drop start bytes ≡ skip_blanks (drop at bytes) → IsElement levels 1 e
    → drop at bytes ≡ print_element e tail → (v : Json) × (rest : List ℕ) × IsValue levels 1 v × (drop start bytes ≡ print v rest)
unfolding print IsValue
element_starts bytes at start (element before v behind) tail s h e =
    (v, (behind ++ tail), h.1, s ∙ ap skip_blanks e ∙ skip_app before (print v (behind ++ tail)) h.0 ∙ value_front v levels 1 (behind ++ tail) h.1)

pub none_past : (bytes : List ℕ) (at start : ℕ) (items : List Placed) → drop start bytes ≡ skip_blanks (drop at bytes) → start ≤ length bytes → length bytes ≤ start
    → Ahead (record { text = bytes; at = at }) items → items ≡ []
none_past bytes at start items s w h (over x e) = e
none_past bytes at start items s w h (due e es he hs is e2) =
    let x = element_starts bytes at start e _ s he is in
    let head = value_head x.0 levels 1 x.1 x.2 in
    let b = byte_at bytes head.rest start head.byte w (x.3 ∙ head.is) in
    absurd (omega (arith, b.0))

pub none_bracket : (bytes : List ℕ) (at start : ℕ) (items : List Placed) → drop start bytes ≡ skip_blanks (drop at bytes) → start < length bytes → get_or bytes start 0 ≡ 93
    → Ahead (record { text = bytes; at = at }) items → items ≡ []
none_bracket bytes at start items s l h (over x e) = e
none_bracket bytes at start items s l h (due e es he hs is e2) =
    let x = element_starts bytes at start e _ s he is in
    absurd (bracket_no_value (drop (suc start) bytes) (print x.0 x.1) (sym x.3 ∙ drop-cons bytes start 0 l ∙ ap (λ c. c ∷ drop (suc start) bytes) h) (value_no_end x.0 levels 1 x.1 x.2))

not_over : (bytes : List ℕ) (at start : ℕ) → drop start bytes ≡ skip_blanks (drop at bytes) → start < length bytes → (get_or bytes start 0 ≡ 93 → ⊥) → IsOver (drop at bytes) → ⊥
not_over bytes at start s l h (at_end e) = absurd (omega (arith, behind_drop bytes [] start (omega arith) (s ∙ ap skip_blanks e)))
not_over bytes at start s l h (at_bracket blanks b e) =
    h (byte_at bytes [] start 93 (omega arith) (s ∙ ap skip_blanks e ∙ skip_app blanks (93 ∷ []) b)).1

pub is_node : (v : Json) (token : List ℕ) → IsValue levels 1 v → token ≡ print v [] → IsNode token
is_node v token h e = record { tree = v; spells = record { valid = value_weaker v levels 0 h; spelled = e } }

split_due : (bytes : List ℕ) (at start end behind next : ℕ) (items : List Placed) (e : Element) (es : Elements) → Walked bytes at start end behind
    → IsElement levels 1 e → AreElements levels 1 es → drop at bytes ≡ print_element e (print_elements es []) → items ≡ items_from at e es → next ≡ comma_place bytes behind
    → Split bytes items start end next
unfolding print IsValue
split_due bytes at start end behind next items (element before v gap) no_elements w h hs is e n =
    let m = met bytes at start end behind before v gap (93 ∷ []) levels 1 w h.0 h.1 h.2 refl refl (elements_head no_elements []) is in
    let b = byte_at bytes [] behind 93 w.behind_within m.rest in
    let last : next ≡ length bytes = n ∙ comma_no bytes behind b.1 in
    record {
      order = w.end_after;
      within = w.end_within;
      begins = m.begins;
      ends = m.ends;
      node = is_node v _ h.1 m.token;
      first = record {
        first = v;
        others = [];
        whole = e ∙ ap (λ p. record { place = p; value = v } ∷ []) (sym m.place);
        same = m.token;
        ahead = over (at_end (ap (λ k. drop k bytes) last ∙ drop_all bytes)) refl;
      };
      behind = omega arith;
    }
split_due bytes at start end behind next items (element before v gap) (more_elements f fs) w h hs is e n =
    let tail : List ℕ = print_elements (more_elements f fs) [] in
    let m = met bytes at start end behind before v gap tail levels 1 w h.0 h.1 h.2 refl refl (elements_head (more_elements f fs) []) is in
    let b = byte_at bytes (print_element f (print_elements fs [])) behind 44 w.behind_within m.rest in
    let on : next ≡ behind + 1 = n ∙ comma_yes bytes behind b.0 b.1 in
    let place : at + length before + length (print v []) + length gap + 1 ≡ next = omega (arith, m.place, m.length_is, m.behind_is, on) in
    record {
      order = w.end_after;
      within = w.end_within;
      begins = m.begins;
      ends = m.ends;
      node = is_node v _ h.1 m.token;
      first = record {
        first = v;
        others = items_from next f fs;
        whole = e ∙ ap (λ p. record { place = p; value = v } ∷ items_from (at + length before + length (print v []) + length gap + 1) f fs) (sym m.place)
            ∙ ap (λ k. record { place = start; value = v } ∷ items_from k f fs) place;
        same = m.token;
        ahead = due f fs hs.0 hs.1 (ap (λ k. drop k bytes) on ∙ b.2) refl;
      };
      behind = omega (arith, b.0, on);
    }

pub split_of : (bytes : List ℕ) (at start end behind next : ℕ) (items : List Placed) → Walked bytes at start end behind → start < length bytes → (get_or bytes start 0 ≡ 93 → ⊥)
    → next ≡ comma_place bytes behind → Ahead (record { text = bytes; at = at }) items → Split bytes items start end next
split_of bytes at start end behind next items w l h n (over x e) = absurd (not_over bytes at start w.started l h x)
split_of bytes at start end behind next items w l h n (due e es he hs is same) = split_due bytes at start end behind next items e es w he hs is same n

-- ---- one step of the walk

module _ (text : List ℕ) (at start end next : ℕ) (f : (items : List Placed) → Ahead (record { text = text; at = at }) items → Split text items start end next) where
  pub part_order : ∥ IsWalk (record { text = text; at = at }) ∥₁ → start ≤ end
  part_order w = ∥∥₁_elim w le_prop (λ x. (f x.items x.ahead).order)

  pub part_begins : ∥ IsWalk (record { text = text; at = at }) ∥₁ → IsCharBoundary text start
  part_begins w = ∥∥₁_elim w (hlevel le_prop) (λ x. (f x.items x.ahead).begins)

  pub part_ends : ∥ IsWalk (record { text = text; at = at }) ∥₁ → IsCharBoundary text end
  part_ends w = ∥∥₁_elim w (hlevel le_prop) (λ x. (f x.items x.ahead).ends)

  pub part_node : (token : List ℕ) → token ≡ slice_range text start end → ∥ IsWalk (record { text = text; at = at }) ∥₁ → ∥ IsNode token ∥₁
  part_node token e w = ∥∥₁_map w (λ x. subst IsNode (sym e) (f x.items x.ahead).node)

  pub part_within : ∥ IsWalk (record { text = text; at = at }) ∥₁ → next ≤ length text
  part_within w = ∥∥₁_elim w le_prop (λ x. (f x.items x.ahead).behind)

  pub part_goes : ∥ IsWalk (record { text = text; at = at }) ∥₁ → ∥ IsWalk (record { text = text; at = next }) ∥₁
  part_goes w = ∥∥₁_map w (λ x. record { items = (f x.items x.ahead).first.others; ahead = (f x.items x.ahead).first.ahead })

  pub part_first : (cursor : Cursor) (node : List ℕ) → record { text = text; at = at } ≡ cursor → node ≡ slice_range text start end
      → (items : List Placed) → Ahead cursor items → IsFirst items start node (record { text = text; at = next })
  part_first cursor node e n items x =
      let y : Ahead (record { text = text; at = at }) items = subst (λ c. Ahead c items) (sym e) x in
      subst (λ t. IsFirst items start t (record { text = text; at = next })) (sym n) (f items y).first

pub walk_shorter : (text : List ℕ) (at next : ℕ) (cursor : Cursor) → record { text = text; at = at } ≡ cursor → at < next → next ≤ length text
    → length text - next < bytes_left cursor
walk_shorter text at next cursor e after within = subst (λ k. length text - next < bytes_left k) e (omega arith)

-- ---- where a walk begins

none_from : (s : List ℕ) → Ahead (record { text = s; at = length s }) []
none_from s = over (at_end (drop_all s)) refl

nonzero_no_array : (d : ℕ) → is_nonzero_digit d ≡ true → (d == 91) ≡ false
nonzero_no_array d h = grind (arith, nat_tests)

number_walk : (n : Number) → IsNumber n → walk_start (print_number n []) ≡ length (print_number n [])
number_walk (unsigned zero_int f e) h = refl
number_walk (unsigned (nonzero_int d ds) f e) h = ap (λ t. cond t 1 (length (print_number (unsigned (nonzero_int d ds) f e) []))) (nonzero_no_array d h.0.0)
number_walk (negative i f e) h = refl

value_walk : (v : Json) → IsValue levels 0 v → Ahead (record { text = print v []; at = walk_start (print v []) }) (elements_of v)
unfolding print IsValue
value_walk null h = none_from (print null [])
value_walk (truth true) h = none_from (print (truth true) [])
value_walk (truth false) h = none_from (print (truth false) [])
value_walk (number n) h = subst (λ k. Ahead (record { text = print_number n []; at = k }) []) (sym (number_walk n h)) (none_from (print_number n []))
value_walk (string raw) h = none_from (print (string raw) [])
value_walk (empty_array b) h = over (at_bracket b h.1 refl) refl
value_walk (array x xs) h = due x xs h.1 h.2 refl refl
value_walk (empty_object b) h = none_from (print (empty_object b) [])
value_walk (object m ms) h = none_from (print (object m ms) [])

pub begins_walk : (bytes : List ℕ) (at : ℕ) → at ≡ walk_start bytes → (tree : Json) → Spells bytes tree → Ahead (record { text = bytes; at = at }) (elements_of tree)
begins_walk bytes at e tree x =
    let there : Ahead (record { text = bytes; at = walk_start bytes }) (elements_of tree) =
    subst (λ s. Ahead (record { text = s; at = walk_start s }) (elements_of tree)) (sym x.spelled) (value_walk tree x.valid) in
    subst (λ k. Ahead (record { text = bytes; at = k }) (elements_of tree)) (sym e) there

start_within : (t : Bool) (n : ℕ) → cond t 1 (suc n) ≤ suc n
start_within true n = omega arith
start_within false n = omega arith

pub walk_within : (bytes : List ℕ) → walk_start bytes ≤ length bytes
walk_within [] = omega arith
walk_within (c ∷ cs) = start_within (c == 91) (length cs)

pub walk_invariant : (text bytes : List ℕ) (at : ℕ) → at ≡ walk_start bytes → bytes ≡ text → ∥ IsNode text ∥₁ → (at ≤ length text) × ∥ IsWalk (record { text = text; at = at }) ∥₁
walk_invariant text bytes at e same n =
    let is : at ≡ walk_start text = e ∙ ap walk_start same in
    let within : at ≤ length text = subst (λ k. k ≤ length text) (sym is) (walk_within text) in
    (within, ∥∥₁_map n (λ x. record { items = elements_of x.tree; ahead = begins_walk text at is x.tree x.spells }))

-- ---- an index

pub past_end : (items : List Placed) (i k : ℕ) → drop i items ≡ [] → i ≤ k → length items ≤ k
past_end items i k e h = omega (arith, length-drop i items, ap length e)

pub one_passed : (items others : List Placed) (i : ℕ) (p : Placed) → drop i items ≡ p ∷ others → others ≡ drop (i + 1) items
one_passed [] others zero p e = absurd (cc)
one_passed [] others (suc i) p e = absurd (cc)
one_passed (q ∷ qs) others zero p e = let same : others ≡ qs = cc in same
one_passed (q ∷ qs) others (suc i) p e = one_passed qs others i p e ∙ ap (λ k. drop k qs) (add-one i) ∙ ap (λ k. drop k (q ∷ qs)) (sym (add-one (suc i)))

pub at_index : (items others : List Placed) (i : ℕ) (p : Placed) → drop i items ≡ p ∷ others → slice_get items i ≡ Some p
at_index [] others zero p e = absurd (cc)
at_index [] others (suc i) p e = absurd (cc)
at_index (q ∷ qs) others zero p e = let same : q ≡ p = cc in ap Some same
at_index (q ∷ qs) others (suc i) p e = at_index qs others i p e

pub is_at : (items others : List Placed) (i place : ℕ) (v : Json) (node : List ℕ) → drop i items ≡ record { place = place; value = v } ∷ others → node ≡ print v [] → IsAt (slice_get items i) node
is_at items others i place v node e n = rw (at_index items others i (record { place = place; value = v }) e) n

pub goes_on : (items : List Placed) (i place : ℕ) (node : List ℕ) (next : Cursor) → IsFirst (drop i items) place node next → Ahead next (drop (i + 1) items)
goes_on items i place node next f = subst (Ahead next) (one_passed items f.others i (record { place = place; value = f.first }) f.whole) f.ahead

pub first_is_at : (items : List Placed) (i k place : ℕ) (node : List ℕ) (next : Cursor) → i ≡ k → IsFirst (drop i items) place node next → IsAt (slice_get items k) node
first_is_at items i k place node next e f =
    is_at items f.others k place f.first node (ap (λ n. drop n items) (sym e) ∙ f.whole) f.same
