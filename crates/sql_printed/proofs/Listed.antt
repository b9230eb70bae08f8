-- A list with commas, of at most so many items, is told again.
use Rattle.std.proofs.Common.{◌≡◌, ℕ, zero, suc, ◌+◌, ◌-◌, ◌≤◌, nat_lt, Bool, true, false, List, [], ◌∷◌, ◌++◌, length, Option, Some, None, refl, sym, ap, ◌∙◌, subst, arith, append_assoc, codes}
use Rattle.std.proofs.lemmas.Bool.{ltb-true}
use Rattle.sql_tokens.specs.declared.class.Class.TheVariants as k
use Rattle.sql_tokens.specs.Cutting.{Symbol, cut}
use Rattle.grammar_rules.specs.Rules.{takes, told, terminal, made, one_of_two}
use Rattle.grammar_rules.specs.Counted.{past, many_from, bounded_from, item, list_of}
use Rattle.grammar_rules.specs.Spelled.{print_all}
use Rattle.grammar_rules.proofs.Printing.{spelled-room, spelled-many_from_nil, spelled-many_from_cons, spelled-chain}
use Rattle.sql_grammar.specs.Marks.{Fault, of}
use Rattle.sql_grammar.specs.Expressions.{Counting}
use Rattle.sql_printed.proofs.Telling.{is_clear, Starts, starts-all, Cuts, Told, cuts-into, cuts-past, cuts-nothing, fit-append}
use Rattle.sql_printed.proofs.Words.{comma_blank}
use Rattle.sql_printed.proofs.Again.{AllGood, good_left, good_right, Again}

-- the text of a list
abbrev pub list_text : {A : Type 0} → (A → List ℕ) → List A → List ℕ
list_text print [] = []
list_text print (a ∷ xs) = print a ++ print_all (λ b. codes ", " ++ print b) xs

-- ---- one item

-- an item that was spelled had room
pub record IsItem {A : Type 0} (G : Counting A) (most n : ℕ) (p : A × (ℕ × ℕ)) (ts : List Symbol) : Type 0 where
  pub room : most ≡ suc p.1.0
  pub spelled : (G n).Spells (p.0, p.1.1) ts

pub none_told : {A : Type 0} (over : Symbol → Option Fault) (a : A) (ts : List Symbol) → (terminal (λ t. told (over t))).Spells a ts → ⊥
none_told over a [] w = w
none_told over a (t ∷ u ∷ ts) w = w
none_told {A = A} over a (t ∷ []) w = by (over t) w
  where
    by : (o : Option Fault) → told o ≡ takes a → ⊥
    by None e = cc
    by (Some j) e = cc

pub spelled_item : {A : Type 0} (over : Symbol → Option Fault) (G : Counting A) (most n : ℕ) (p : A × (ℕ × ℕ)) (ts : List Symbol) → (item over G (most, n)).Spells p ts → IsItem G most n p ts
spelled_item over G most n p ts w =
    let R = made (λ q. (q.0, (most - 1, q.1))) (G n) in
    let P : Bool → Type 0 = λ v. nat_lt 0 most ≡ v → (one_of_two R (terminal (λ t. told (over t))) v).Spells p ts → IsItem G most n p ts in
    (elim (nat_lt 0 most) as P [
      | true ↦ λ v x.
          let l = ltb-true 0 most v in
          let one : IsItem G most n (x.0.0, (most - 1, x.0.1)) ts = record { room = omega arith; spelled = x.2 } in
          subst (λ y. IsItem G most n y ts) x.1 one
      | false ↦ λ v x. absurd (none_told over p ts x)
    ]) refl w

-- ---- more items

-- these items are told behind commas, at each depth, with room for them
pub record ToldItems {A : Type 0} (over : ℕ → Symbol → Option Fault) (I : ℕ → Counting A) (d most n left m : ℕ) (xs : List A) (print : A → List ℕ) : Type 0 where
  pub used : ℕ
  pub within : used + m ≤ n
  pub room : most ≡ length xs + left
  pub prints : (f : ℕ) → d ≤ f → (j i : ℕ) (place : ℕ) (rest : List ℕ) → is_clear rest ≡ true
      → Cuts (many_from (past (of k.Comma) (item (over f) (I f))) (length xs + i, used + j)) (xs, (i, j)) (print_all (λ a. codes ", " ++ print a) xs) rest place

module _ {A : Type 0} (over : ℕ → Symbol → Option Fault) (G : Counting A) (I : ℕ → Counting A) (d : ℕ) (print : A → List ℕ) (g : Again G I d print) where
  items_nil : (most n : ℕ) → ToldItems over I d most n most n [] print
  items_nil most n = record {
    used = 0;
    within = omega arith;
    room = omega arith;
    prints = λ f below j i place rest c.
        let y : 0 + i ≡ i = omega arith in
        let z : 0 + j ≡ j = omega arith in
        rw (y, z) (cuts-nothing (many_from (past (of k.Comma) (item (over f) (I f))) (i, j)) ([], (i, j)) rest place (spelled-many_from_nil (past (of k.Comma) (item (over f) (I f))) (i, j)));
  }

  starts_comma : (a : A) → Starts (codes ", " ++ print a)
  unfolding is_clear
  starts_comma a rest c = refl

  items_cons : (most n mid m left l : ℕ) (a : A) (xs : List A) → most ≡ suc mid → Told I d n m a (print a) → ToldItems over I d mid m left l xs print → ToldItems over I d most n left l (a ∷ xs) print
  items_cons most n mid m left l a xs r t h = record {
    used = t.used + h.used;
    within = let p = t.within in let q = h.within in omega arith;
    room = let p = h.room in omega arith;
    prints = λ f below j i place rest c.
        let P = past (of k.Comma) (item (over f) (I f)) in
        let sum : t.used + h.used + j ≡ t.used + (h.used + j) = omega arith in
        let room : suc (length xs) + i ≡ suc (length xs + i) = omega arith in
        let more = print_all (λ b. codes ", " ++ print b) xs in
        let clear = starts-all (λ b. codes ", " ++ print b) starts_comma xs rest c in
        let comma = comma_blank place (print a ++ (more ++ rest)) in
        let body = t.prints f below (h.used + j) comma.next (more ++ rest) clear in
        let boxed = cuts-into (I f (t.used + (h.used + j))) (item (over f) (I f) (suc (length xs + i), t.used + (h.used + j))) (a, h.used + j) (a, (length xs + i, h.used + j)) (print a) (more ++ rest) comma.next
        (λ ts w. spelled-room (over f) (I f) (suc (length xs + i)) (length xs + i) (t.used + (h.used + j)) (h.used + j) a ts refl w) body in
        let first = cuts-past (item (over f) (I f) (suc (length xs + i), t.used + (h.used + j))) (of k.Comma) (a, (length xs + i, h.used + j)) (codes ", ") (print a) (more ++ rest) place comma boxed in
        let second = h.prints f below j i first.next rest c in
        let e : ((codes ", " ++ print a) ++ more) ++ rest ≡ (codes ", " ++ print a) ++ (more ++ rest) = append_assoc (codes ", " ++ print a) more rest in
        rw (sum, room) (record {
          symbols = first.symbols ++ second.symbols;
          next = second.next;
          is = rw e (first.is ∙ ap (λ y. first.symbols ++ y) second.is ∙ sym (append_assoc first.symbols second.symbols (cut second.next rest)));
          spelled = spelled-many_from_cons P (suc (length xs + i), t.used + (h.used + j)) (length xs + i, h.used + j) (i, j) a xs first.symbols second.symbols first.spelled second.spelled;
          fit = fit-append first.symbols second.symbols first.fit second.fit;
        });
  }

  module _ (own_over : Symbol → Option Fault) where
    items_again : (b most n : ℕ) (p : List A × (ℕ × ℕ)) (ts : List Symbol) → AllGood ts → (bounded_from b (past (of k.Comma) (item own_over G)) (most, n)).Spells p ts → ToldItems over I d most n p.1.0 p.1.1 p.0 print
    items_again zero most n p ts good w = subst (λ v. ToldItems over I d most n v.1.0 v.1.1 v.0 print) w.0 (items_nil most n)
    items_again (suc b) most n p ts good (false, w) = subst (λ v. ToldItems over I d most n v.1.0 v.1.1 v.0 print) w.0 (items_nil most n)
    items_again (suc b) most n p ts good (true, j) =
        let q = j.after.0 in
        let good_first = good_left ts j.left j.right j.joined good in
        let s = j.whole in
        let one = spelled_item own_over G most n j.value s.right s.after in
        let first = g n (j.value.0, j.value.1.1) s.right (good_right j.left s.left s.right s.joined good_first) one.spelled in
        let rest = items_again b j.value.1.0 j.value.1.1 q j.right (good_right ts j.left j.right j.joined good) j.after.2 in
        subst (λ v. ToldItems over I d most n v.1.0 v.1.1 v.0 print) j.after.1
        (items_cons most n j.value.1.0 j.value.1.1 q.1.0 q.1.1 j.value.0 q.0 one.room first rest)

    pub again-list : (limit : ℕ) → Again (list_of limit own_over (of k.Comma) G) (λ f. list_of limit (over f) (of k.Comma) (I f)) d (list_text print)
    again-list limit n p ts good w =
        let x = w.2 in
        let j = x.2 in
        let q = j.after.0 in
        let one = spelled_item own_over G limit n j.value j.left j.whole in
        let first = g n (j.value.0, j.value.1.1) j.left (good_left ts j.left j.right j.joined good) one.spelled in
        let rest = items_again j.after.2.0 j.value.1.0 j.value.1.1 q j.right (good_right ts j.left j.right j.joined good) j.after.2.1 in
        let all : Told (λ f. list_of limit (over f) (of k.Comma) (I f)) d n q.1.1 (j.value.0 ∷ q.0) (print j.value.0 ++ print_all (λ b. codes ", " ++ print b) q.0) = record {
          used = first.used + rest.used;
          within = let a = first.within in let b = rest.within in omega arith;
          prints = λ f below u place r c.
              let more = print_all (λ b. codes ", " ++ print b) q.0 in
              let sum : first.used + rest.used + u ≡ first.used + (rest.used + u) = omega arith in
              let limit_is : limit ≡ suc (length q.0 + q.1.0) = let a = one.room in let b = rest.room in omega arith in
              let clear = starts-all (λ b. codes ", " ++ print b) starts_comma q.0 r c in
              let head = first.prints f below (rest.used + u) place (more ++ r) clear in
              let tail = rest.prints f below u q.1.0 head.next r c in
              let e : (print j.value.0 ++ more) ++ r ≡ print j.value.0 ++ (more ++ r) = append_assoc (print j.value.0) more r in
              rw sum (record {
                symbols = head.symbols ++ tail.symbols;
                next = tail.next;
                is = rw e (head.is ∙ ap (λ y. head.symbols ++ y) tail.is ∙ sym (append_assoc head.symbols tail.symbols (cut tail.next r)));
                spelled = (
                  (j.value.0 ∷ q.0, (q.1.0, u)),
                  refl,
                  spelled-chain (λ a xs. a ∷ xs) (item (over f) (I f)) (past (of k.Comma) (item (over f) (I f))) (limit, first.used + (rest.used + u)) (length q.0 + q.1.0, rest.used + u) (q.1.0, u) j.value.0 q.0 head.symbols tail.symbols
                      (spelled-room (over f) (I f) limit (length q.0 + q.1.0) (first.used + (rest.used + u)) (rest.used + u) j.value.0 head.symbols limit_is head.spelled) tail.spelled,
                );
                fit = fit-append head.symbols tail.symbols head.fit tail.fit;
              });
        } in
        let a : ((j.value.0 ∷ q.0), q.1.1) ≡ (x.0.0.0 ∷ x.0.0.1, x.0.1.1) = ap (λ v. (v.0.0 ∷ v.0.1, v.1.1)) j.after.1 in
        let b : (x.0.0.0 ∷ x.0.0.1, x.0.1.1) ≡ (w.0.0, w.0.1.1) = ap (λ v. (v.0, v.1.1)) x.1 in
        subst (λ v. Told (λ f. list_of limit (over f) (of k.Comma) (I f)) d n v.1 v.0 (list_text print v.0)) (a ∙ (b ∙ w.1)) all
