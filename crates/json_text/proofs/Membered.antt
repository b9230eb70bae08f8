-- The member that comes next.
use Rattle.std.proofs.Common.{◌≡◌, ℕ, zero, suc, ◌+◌, ◌-◌, ◌<◌, ◌≤◌, Bool, true, false, cond, ◌==◌, List, [], ◌∷◌, ◌++◌, length, take, drop, get_or, lit<, add-one, length-drop, length-append, refl, sym, ◌∙◌, ap, subst, arith}
use Rattle.std.specs.Prelude.{slice_range, slice_get, Some, None}
use Rattle.std.specs.List.{find}
use Rattle.text_view.specs.JsonString.{unescaped_text}
use Rattle.std.proofs.Math.Bridge.{le_prop}
use Rattle.std.proofs.Math.Logic.{∥∥₁_elim, ∥∥₁_map}
use Rattle.std.proofs.Math.Seq.{take-append_seam}
use Rattle.std.proofs.lemmas.Str.{IsCharBoundary-before_ascii, IsCharBoundary-after_ascii}
use Rattle.std.specs.Str.{IsCharBoundary, IsUtf8, chars}
use Rattle.std.proofs.lemmas.Bool.Decides.{nat_tests}
use Rattle.json_text.specs.Grammar.{Json, null, truth, number, string, empty_array, array, empty_object, object, Number, unsigned, negative, zero_int, nonzero_int, print_number, IsNumber, element, Member, member, Members, no_members, more_members, print, print_element, print_member, print_members, IsValue, IsMember, AreMembers, AreBlanks, IsInside, is_nonzero_digit}
use Rattle.json_text.specs.Texts.{levels}
use Rattle.json_text.specs.Trimmed.{skip_blanks}
use Rattle.json_text.specs.Skipped.{string_rest}
use Rattle.json_text.specs.Nodes.{IsNode, Spells}
use Rattle.json_text.specs.Walks.{Cursor, comma_place}
use Rattle.json_text.specs.Naming.{Named, value_place, members_from, members_of, IsClosed, no_bytes, at_brace, Coming, member_due, members_over, IsFirstMember, IsNextMember, SplitMember, IsMemberWalk, IsMemberAt, IsPlacedValueOf, object_start}
use Rattle.json_text.proofs.Prints.{skip_app}
use Rattle.json_text.proofs.Skips.{inside_rest}
use Rattle.json_text.proofs.Walking.{behind_drop, byte_at, Head, Walked, met, comma_yes, drop_all, is_node}

-- a walk that found a name's opening quotation mark, the place behind its closing one, and the colon
pub record Named_ (bytes : List ℕ) (at quote close colon : ℕ) : Type 0 where
  pub at_within : at ≤ length bytes
  pub quoted : drop quote bytes ≡ skip_blanks (drop at bytes)
  pub quote_within : quote ≤ length bytes
  pub closed : drop close bytes ≡ string_rest false (drop (quote + 1) bytes)
  pub close_after : quote + 1 ≤ close
  pub close_within : close ≤ length bytes
  pub colon_at : drop colon bytes ≡ skip_blanks (drop close bytes)
  pub colon_after : close ≤ colon
  pub colon_within : colon ≤ length bytes

drop_on : (s xs ys : List ℕ) (k : ℕ) → k ≤ length s → drop k s ≡ xs ++ ys → drop (k + length xs) s ≡ ys
drop_on s [] ys k h e = ap (λ n. drop n s) (add_zero k) ∙ e
  where
    add_zero : (n : ℕ) → n + 0 ≡ n
    add_zero n = omega arith
drop_on s (x ∷ xs) ys k h e =
    let b = byte_at s (xs ++ ys) k x h e in
    let same : k + suc (length xs) ≡ k + 1 + length xs = omega arith in
    ap (λ n. drop n s) same ∙ drop_on s xs ys (k + 1) (omega (arith, b.0)) b.2

pub record NameMet (bytes : List ℕ) (at quote close colon : ℕ) (before name gap behind : List ℕ) : Type 0 where
  pub quote_is : quote ≡ at + length before
  pub close_is : close ≡ quote + length name + 2
  pub colon_is : colon ≡ close + length gap
  pub colon_inside : colon < length bytes
  pub rest : drop (colon + 1) bytes ≡ behind
  pub name_is : slice_range bytes (quote + 1) (close - 1) ≡ name
  pub begins : IsCharBoundary bytes (quote + 1)
  pub ends : IsCharBoundary bytes (close - 1)

pub name_met : (bytes : List ℕ) (at quote close colon : ℕ) (before name gap behind : List ℕ) → Named_ bytes at quote close colon → IsUtf8 bytes
    → AreBlanks before → IsInside name → AreBlanks gap → drop at bytes ≡ before ++ 34 ∷ (name ++ 34 ∷ (gap ++ 58 ∷ behind))
    → NameMet bytes at quote close colon before name gap behind
name_met bytes at quote close colon before name gap behind w u hb hn hg e =
    let rest : List ℕ = gap ++ 58 ∷ behind in
    let one : drop quote bytes ≡ 34 ∷ (name ++ 34 ∷ rest) = w.quoted ∙ ap skip_blanks e ∙ skip_app before (34 ∷ (name ++ 34 ∷ rest)) hb in
    let q = byte_at bytes (name ++ 34 ∷ rest) quote 34 w.quote_within one in
    let two : drop close bytes ≡ rest = w.closed ∙ ap (string_rest false) q.2 ∙ inside_rest name rest hn in
    let three : drop colon bytes ≡ 58 ∷ behind = w.colon_at ∙ ap skip_blanks two ∙ skip_app gap (58 ∷ behind) hg in
    let k = byte_at bytes behind colon 58 w.colon_within three in
    let n0 : length (before ++ 34 ∷ (name ++ 34 ∷ rest)) + at ≡ length bytes = behind_drop bytes _ at w.at_within e in
    let n1 : length (34 ∷ (name ++ 34 ∷ rest)) + quote ≡ length bytes = behind_drop bytes _ quote w.quote_within one in
    let n2 : length rest + close ≡ length bytes = behind_drop bytes _ close w.close_within two in
    let n3 : length (58 ∷ behind) + colon ≡ length bytes = behind_drop bytes _ colon w.colon_within three in
    let close_is : close ≡ quote + length name + 2 = omega (arith, n1, n2, length-append name (34 ∷ rest)) in
    let size : close - 1 - (quote + 1) ≡ length name = omega arith in
    let last : close - 1 ≡ quote + 1 + length name = omega arith in
    let inside : quote + 1 ≤ length bytes = omega (arith, q.0) in
    let mark : drop (close - 1) bytes ≡ 34 ∷ rest = ap (λ n. drop n bytes) last ∙ drop_on bytes name (34 ∷ rest) (quote + 1) inside q.2 in
    let m = byte_at bytes rest (close - 1) 34 (omega (arith, w.close_within)) mark in
    let low : get_or bytes quote 0 < 128 = omega (arith, q.1) in
    let low_end : get_or bytes (close - 1) 0 < 128 = omega (arith, m.1) in
    record {
      quote_is = omega (arith, n0, n1, length-append before (34 ∷ (name ++ 34 ∷ rest)));
      close_is = close_is;
      colon_is = omega (arith, n2, n3, length-append gap (58 ∷ behind));
      colon_inside = k.0;
      rest = k.2;
      name_is = ap (λ n. take n (drop (quote + 1) bytes)) size ∙ ap (take (length name)) q.2 ∙ take-append_seam name (34 ∷ rest);
      begins = IsCharBoundary-after_ascii bytes quote u q.0 low;
      ends = IsCharBoundary-before_ascii bytes (close - 1) m.0 low_end;
    }

members_head : (ms : Members) (rest : List ℕ) → Head (print_members ms rest)
unfolding print
members_head no_members rest = record { byte = 125; rest = rest; is = refl; ascii = lit< tt }
members_head (more_members m ms) rest = record { byte = 44; rest = _; is = refl; ascii = lit< tt }

brace_no_comma : (bytes : List ℕ) (k : ℕ) → get_or bytes k 0 ≡ 125 → comma_place bytes k ≡ length bytes
brace_no_comma bytes k e = grind (arith, nat_tests)

member_split : (bytes : List ℕ) (at quote close colon start end behind next : ℕ) (items : List Named) (m : Member) (ms : Members)
    → Named_ bytes at quote close colon → (colon < length bytes → Walked bytes (colon + 1) start end behind) → IsUtf8 bytes
    → IsMember levels 1 m → AreMembers levels 1 ms → drop at bytes ≡ print_member m (print_members ms []) → items ≡ members_from at m ms
    → next ≡ comma_place bytes behind → SplitMember bytes items (quote + 1) (close - 1) start end next
unfolding print IsValue
member_split bytes at quote close colon start end behind next items (member before name gap (element front v after)) no_members w walk u h hs e is n =
    let a = name_met bytes at quote close colon before name gap (front ++ print v (after ++ 125 ∷ [])) w u h.0 h.1 h.2 e in
    let m = met bytes (colon + 1) start end behind front v after (125 ∷ []) levels 1 (walk a.colon_inside) h.3.0 h.3.1 h.3.2 refl refl (members_head no_members []) a.rest in
    let b = byte_at bytes [] behind 125 (walk a.colon_inside).behind_within m.rest in
    let last : next ≡ length bytes = n ∙ brace_no_comma bytes behind b.1 in
    let place : value_place at before name gap front ≡ start = omega (arith, a.quote_is, a.close_is, a.colon_is, m.place) in
    record {
      name_order = omega (arith, a.close_is);
      name_begins = a.begins;
      name_ends = a.ends;
      order = (walk a.colon_inside).end_after;
      begins = m.begins;
      ends = m.ends;
      node = is_node v _ h.3.1 m.token;
      first = record {
        first = v;
        others = [];
        whole = is ∙ ap (λ k. record { name = name; place = k; value = v } ∷ []) place ∙ ap (λ s. record { name = s; place = start; value = v } ∷ []) (sym a.name_is);
        same = m.token;
        ahead = members_over (no_bytes (ap (λ k. drop k bytes) last ∙ drop_all bytes)) refl;
      };
      behind = omega arith;
    }
member_split bytes at quote close colon start end behind next items (member before name gap (element front v after)) (more_members f fs) w walk u h hs e is n =
    let tail : List ℕ = print_members (more_members f fs) [] in
    let a = name_met bytes at quote close colon before name gap (front ++ print v (after ++ tail)) w u h.0 h.1 h.2 e in
    let m = met bytes (colon + 1) start end behind front v after tail levels 1 (walk a.colon_inside) h.3.0 h.3.1 h.3.2 refl refl (members_head (more_members f fs) []) a.rest in
    let b = byte_at bytes (print_member f (print_members fs [])) behind 44 (walk a.colon_inside).behind_within m.rest in
    let on : next ≡ behind + 1 = n ∙ comma_yes bytes behind b.0 b.1 in
    let place : value_place at before name gap front ≡ start = omega (arith, a.quote_is, a.close_is, a.colon_is, m.place) in
    let goes : value_place at before name gap front + length (print v []) + length after + 1 ≡ next = omega (arith, place, m.length_is, m.behind_is, on) in
    record {
      name_order = omega (arith, a.close_is);
      name_begins = a.begins;
      name_ends = a.ends;
      order = (walk a.colon_inside).end_after;
      begins = m.begins;
      ends = m.ends;
      node = is_node v _ h.3.1 m.token;
      first = record {
        first = v;
        others = members_from next f fs;
        whole = is ∙ ap (λ k. record { name = name; place = value_place at before name gap front; value = v } ∷ members_from k f fs) goes
            ∙ ap (λ k. record { name = name; place = k; value = v } ∷ members_from next f fs) place
            ∙ ap (λ s. record { name = s; place = start; value = v } ∷ members_from next f fs) (sym a.name_is);
        same = m.token;
        ahead = member_due f fs hs.0 hs.1 (ap (λ k. drop k bytes) on ∙ b.2) refl;
      };
      behind = omega (arith, b.0, on);
    }

-- where a member begins
member_starts : (bytes : List ℕ) (at quote : ℕ) (m : Member) (tail : List ℕ) → drop quote bytes ≡ skip_blanks (drop at bytes) → IsMember levels 1 m
    → drop at bytes ≡ print_member m tail → (rest : List ℕ) × (drop quote bytes ≡ 34 ∷ rest)
unfolding print IsValue
member_starts bytes at quote (member before name gap x) tail s h e =
    (name ++ 34 ∷ (gap ++ 58 ∷ print_element x tail), s ∙ ap skip_blanks e ∙ skip_app before (34 ∷ (name ++ 34 ∷ (gap ++ 58 ∷ print_element x tail))) h.0)

pub none_left : (bytes : List ℕ) (at quote : ℕ) (items : List Named) → drop quote bytes ≡ skip_blanks (drop at bytes) → quote ≤ length bytes → length bytes ≤ quote
    → Coming (record { text = bytes; at = at }) items → items ≡ []
none_left bytes at quote items s w h (members_over x e) = e
none_left bytes at quote items s w h (member_due m ms hm hs is e) =
    let x = member_starts bytes at quote m _ s hm is in
    absurd (omega (arith, (byte_at bytes x.0 quote 34 w x.1).0))

pub none_behind : (bytes : List ℕ) (at quote : ℕ) (items : List Named) → drop quote bytes ≡ skip_blanks (drop at bytes) → quote < length bytes → get_or bytes quote 0 ≡ 125
    → Coming (record { text = bytes; at = at }) items → items ≡ []
none_behind bytes at quote items s l h (members_over x e) = e
none_behind bytes at quote items s l h (member_due m ms hm hs is e) =
    let x = member_starts bytes at quote m _ s hm is in
    absurd (omega (arith, (byte_at bytes x.0 quote 34 (omega arith) x.1).1))

-- a colon stands behind each name
colon_there : (bytes : List ℕ) (at quote close colon : ℕ) (m : Member) (tail : List ℕ) → Named_ bytes at quote close colon → IsUtf8 bytes → IsMember levels 1 m
    → drop at bytes ≡ print_member m tail → colon < length bytes
unfolding print IsValue
colon_there bytes at quote close colon (member before name gap x) tail w u h e =
    (name_met bytes at quote close colon before name gap (print_element x tail) w u h.0 h.1 h.2 e).colon_inside

pub none_colon : (bytes : List ℕ) (at quote close colon : ℕ) (items : List Named) → Named_ bytes at quote close colon → IsUtf8 bytes → length bytes ≤ colon
    → Coming (record { text = bytes; at = at }) items → items ≡ []
none_colon bytes at quote close colon items w u h (members_over x e) = e
none_colon bytes at quote close colon items w u h (member_due m ms hm hs is e) =
    let l : colon < length bytes = colon_there bytes at quote close colon m _ w u hm is in
    absurd (omega arith)

still_there : (bytes : List ℕ) (at quote : ℕ) → drop quote bytes ≡ skip_blanks (drop at bytes) → quote < length bytes → (get_or bytes quote 0 ≡ 125 → ⊥) → IsClosed (drop at bytes) → ⊥
still_there bytes at quote s l h (no_bytes e) = absurd (omega (arith, behind_drop bytes [] quote (omega arith) (s ∙ ap skip_blanks e)))
still_there bytes at quote s l h (at_brace blanks b e) =
    h (byte_at bytes [] quote 125 (omega arith) (s ∙ ap skip_blanks e ∙ skip_app blanks (125 ∷ []) b)).1

pub member_of : (bytes : List ℕ) (at quote close colon start end behind next : ℕ) (items : List Named)
    → Named_ bytes at quote close colon → Walked bytes (colon + 1) start end behind → IsUtf8 bytes
    → quote < length bytes → (get_or bytes quote 0 ≡ 125 → ⊥) → next ≡ comma_place bytes behind
    → Coming (record { text = bytes; at = at }) items → SplitMember bytes items (quote + 1) (close - 1) start end next
member_of bytes at quote close colon start end behind next items w walk u l h n (members_over x e) = absurd (still_there bytes at quote w.quoted l h x)
member_of bytes at quote close colon start end behind next items w walk u l h n (member_due m ms hm hs is e) =
    member_split bytes at quote close colon start end behind next items m ms w (λ x. walk) u hm hs is e n

-- ---- one step of the walk

module _ (text : List ℕ) (at ns ne start end next : ℕ) (f : (items : List Named) → Coming (record { text = text; at = at }) items → SplitMember text items ns ne start end next) where
  pub name_order : ∥ IsMemberWalk (record { text = text; at = at }) ∥₁ → ns ≤ ne
  name_order w = ∥∥₁_elim w le_prop (λ x. (f x.items x.ahead).name_order)

  pub name_begins : ∥ IsMemberWalk (record { text = text; at = at }) ∥₁ → IsCharBoundary text ns
  name_begins w = ∥∥₁_elim w (hlevel le_prop) (λ x. (f x.items x.ahead).name_begins)

  pub name_ends : ∥ IsMemberWalk (record { text = text; at = at }) ∥₁ → IsCharBoundary text ne
  name_ends w = ∥∥₁_elim w (hlevel le_prop) (λ x. (f x.items x.ahead).name_ends)

  pub value_order : ∥ IsMemberWalk (record { text = text; at = at }) ∥₁ → start ≤ end
  value_order w = ∥∥₁_elim w le_prop (λ x. (f x.items x.ahead).order)

  pub value_begins : ∥ IsMemberWalk (record { text = text; at = at }) ∥₁ → IsCharBoundary text start
  value_begins w = ∥∥₁_elim w (hlevel le_prop) (λ x. (f x.items x.ahead).begins)

  pub value_ends : ∥ IsMemberWalk (record { text = text; at = at }) ∥₁ → IsCharBoundary text end
  value_ends w = ∥∥₁_elim w (hlevel le_prop) (λ x. (f x.items x.ahead).ends)

  pub value_node : (token : List ℕ) → token ≡ slice_range text start end → ∥ IsMemberWalk (record { text = text; at = at }) ∥₁ → ∥ IsNode token ∥₁
  value_node token e w = ∥∥₁_map w (λ x. subst IsNode (sym e) (f x.items x.ahead).node)

  pub goes_within : ∥ IsMemberWalk (record { text = text; at = at }) ∥₁ → next ≤ length text
  goes_within w = ∥∥₁_elim w le_prop (λ x. (f x.items x.ahead).behind)

  pub member_goes : ∥ IsMemberWalk (record { text = text; at = at }) ∥₁ → ∥ IsMemberWalk (record { text = text; at = next }) ∥₁
  member_goes w = ∥∥₁_map w (λ x. record { items = (f x.items x.ahead).first.others; ahead = (f x.items x.ahead).first.ahead })

  pub member_first : (cursor : Cursor) (name node : List ℕ) → record { text = text; at = at } ≡ cursor → name ≡ slice_range text ns ne → node ≡ slice_range text start end
      → (items : List Named) → Coming cursor items → IsFirstMember items name start node (record { text = text; at = next })
  member_first cursor name node e m n items x =
      let y : Coming (record { text = text; at = at }) items = subst (λ c. Coming c items) (sym e) x in
      subst (λ s. IsFirstMember items s start node (record { text = text; at = next })) (sym m)
      (subst (λ t. IsFirstMember items (slice_range text ns ne) start t (record { text = text; at = next })) (sym n) (f items y).first)

-- ---- where a walk begins

none_from : (s : List ℕ) → Coming (record { text = s; at = length s }) []
none_from s = members_over (no_bytes (drop_all s)) refl

nonzero_no_object : (d : ℕ) → is_nonzero_digit d ≡ true → (d == 123) ≡ false
nonzero_no_object d h = grind (arith, nat_tests)

number_walk : (n : Number) → IsNumber n → object_start (print_number n []) ≡ length (print_number n [])
number_walk (unsigned zero_int f e) h = refl
number_walk (unsigned (nonzero_int d ds) f e) h = ap (λ t. cond t 1 (length (print_number (unsigned (nonzero_int d ds) f e) []))) (nonzero_no_object d h.0.0)
number_walk (negative i f e) h = refl

value_walk : (v : Json) → IsValue levels 0 v → Coming (record { text = print v []; at = object_start (print v []) }) (members_of v)
unfolding print IsValue
value_walk null h = none_from (print null [])
value_walk (truth true) h = none_from (print (truth true) [])
value_walk (truth false) h = none_from (print (truth false) [])
value_walk (number n) h = subst (λ k. Coming (record { text = print_number n []; at = k }) []) (sym (number_walk n h)) (none_from (print_number n []))
value_walk (string raw) h = none_from (print (string raw) [])
value_walk (empty_array b) h = none_from (print (empty_array b) [])
value_walk (array x xs) h = none_from (print (array x xs) [])
value_walk (empty_object b) h = members_over (at_brace b h.1 refl) refl
value_walk (object m ms) h = member_due m ms h.1 h.2 refl refl

pub begins_members : (bytes : List ℕ) (at : ℕ) → at ≡ object_start bytes → (tree : Json) → Spells bytes tree → Coming (record { text = bytes; at = at }) (members_of tree)
begins_members bytes at e tree x =
    let there : Coming (record { text = bytes; at = object_start bytes }) (members_of tree) =
    subst (λ s. Coming (record { text = s; at = object_start s }) (members_of tree)) (sym x.spelled) (value_walk tree x.valid) in
    subst (λ k. Coming (record { text = bytes; at = k }) (members_of tree)) (sym e) there

start_within : (t : Bool) (n : ℕ) → cond t 1 (suc n) ≤ suc n
start_within true n = omega arith
start_within false n = omega arith

object_within : (bytes : List ℕ) → object_start bytes ≤ length bytes
object_within [] = omega arith
object_within (c ∷ cs) = start_within (c == 123) (length cs)

pub members_invariant : (text bytes : List ℕ) (at : ℕ) → at ≡ object_start bytes → bytes ≡ text → ∥ IsNode text ∥₁ → (at ≤ length text) × ∥ IsMemberWalk (record { text = text; at = at }) ∥₁
members_invariant text bytes at e same n =
    let is : at ≡ object_start text = e ∙ ap object_start same in
    let within : at ≤ length text = subst (λ k. k ≤ length text) (sym is) (object_within text) in
    (within, ∥∥₁_map n (λ x. record { items = members_of x.tree; ahead = begins_members text at is x.tree x.spells }))

-- ---- an index

pub past_members : (items : List Named) (i k : ℕ) → drop i items ≡ [] → i ≤ k → length items ≤ k
past_members items i k e h = omega (arith, length-drop i items, ap length e)

one_passed : (items others : List Named) (i : ℕ) (p : Named) → drop i items ≡ p ∷ others → others ≡ drop (i + 1) items
one_passed [] others zero p e = absurd (cc)
one_passed [] others (suc i) p e = absurd (cc)
one_passed (q ∷ qs) others zero p e = let same : others ≡ qs = cc in same
one_passed (q ∷ qs) others (suc i) p e = one_passed qs others i p e ∙ ap (λ k. drop k qs) (add-one i) ∙ ap (λ k. drop k (q ∷ qs)) (sym (add-one (suc i)))

at_index : (items others : List Named) (i : ℕ) (p : Named) → drop i items ≡ p ∷ others → slice_get items i ≡ Some p
at_index [] others zero p e = absurd (cc)
at_index [] others (suc i) p e = absurd (cc)
at_index (q ∷ qs) others zero p e = let same : q ≡ p = cc in ap Some same
at_index (q ∷ qs) others (suc i) p e = at_index qs others i p e

pub goes_on : (items : List Named) (i place : ℕ) (name node : List ℕ) (next : Cursor) → IsFirstMember (drop i items) name place node next → Coming next (drop (i + 1) items)
goes_on items i place name node next f = subst (Coming next) (one_passed items f.others i (record { name = name; place = place; value = f.first }) f.whole) f.ahead

pub member_is_at : (items : List Named) (i k place : ℕ) (name node text : List ℕ) (next : Cursor) → i ≡ k → IsFirstMember (drop i items) name place node next
    → text ≡ unescaped_text (chars name) → IsMemberAt (slice_get items k) text node
member_is_at items i k place name node text next e f t =
    let whole : drop k items ≡ record { name = name; place = place; value = f.first } ∷ f.others = ap (λ n. drop n items) (sym e) ∙ f.whole in
    rw (at_index items f.others k (record { name = name; place = place; value = f.first }) whole) (t, f.same)

pub next_member : (items : List Named) (name text : List ℕ) (place : ℕ) (node : List ℕ) (next : Cursor) → IsFirstMember items name place node next
    → text ≡ unescaped_text (chars name) → IsNextMember items text place node next
next_member items name text place node next f t = record {
  first = record { name = name; place = place; value = f.first };
  others = f.others;
  whole = f.whole;
  named = t;
  placed = refl;
  same = f.same;
  ahead = f.ahead;
}

-- ---- a name

-- the members that a walk has ahead hold the first one that passes the test
pub record StillFinds (test : Named → Bool) (walk : Cursor) (all : List Named) : Type 0 where
  pub items : List Named
  pub ahead : Coming walk items
  pub same : find test items ≡ find test all

pub finds_all : (test : Named → Bool) (walk : Cursor) (all : List Named) → Coming walk all → StillFinds test walk all
finds_all test walk all x = record { items = all; ahead = x; same = refl }

pub finds_on : (test : Named → Bool) (walk next : Cursor) (all : List Named) (name : List ℕ) (place : ℕ) (node : List ℕ) → (s : StillFinds test walk all)
    → IsFirstMember s.items name place node next → ((m : Named) → m.name ≡ name → test m ≡ false) → StillFinds test next all
finds_on test walk next all name place node s f other =
    let first : Named = record { name = name; place = place; value = f.first } in
    record {
      items = f.others;
      ahead = f.ahead;
      same = sym (ap (find test) f.whole ∙ ap (λ b. cond b (Some first) (find test f.others)) (other first refl)) ∙ s.same;
    }

pub found_here : (test : Named → Bool) (walk next : Cursor) (all : List Named) (name : List ℕ) (place : ℕ) (node : List ℕ) → (s : StillFinds test walk all)
    → IsFirstMember s.items name place node next → ((m : Named) → m.name ≡ name → test m ≡ true) → IsPlacedValueOf (find test all) place node
found_here test walk next all name place node s f here =
    let first : Named = record { name = name; place = place; value = f.first } in
    let e : find test all ≡ Some first = sym s.same ∙ ap (find test) f.whole ∙ ap (λ b. cond b (Some first) (find test f.others)) (here first refl) in
    subst (λ o. IsPlacedValueOf o place node) (sym e) (refl, f.same)

pub found_none : (test : Named → Bool) (walk : Cursor) (all : List Named) → (s : StillFinds test walk all) → s.items ≡ [] → find test all ≡ None
found_none test walk all s e = sym s.same ∙ ap (find test) e
