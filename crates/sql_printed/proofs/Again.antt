-- Each value that a rule spells is told again: one law a combinator, from a rule to the rule of each depth.
use Rattle.std.proofs.Common.{◌≡◌, ℕ, zero, suc, ◌+◌, ◌-◌, ◌≤◌, nat_lt, Bool, true, false, List, [], ◌∷◌, ◌++◌, Option, Some, None, refl, sym, subst, arith}
use Rattle.std.proofs.lemmas.Bool.Decides.{nat_tests}
use Rattle.sql_tokens.specs.Cutting.{Symbol, cut, is_unfit}
use Rattle.grammar_rules.specs.Rules.{Verdict, takes, faults, refuses, limited, terminal, either}
use Rattle.grammar_rules.specs.Counted.{plain, one_more, given, both, past, maybe, many_from, bounded_from}
use Rattle.grammar_rules.specs.Spelled.{print_all}
use Rattle.grammar_rules.proofs.Printing.{spelled-one_more}
use Rattle.sql_grammar.specs.Marks.{Fault}
use Rattle.sql_grammar.specs.Expressions.{Counting}
use Rattle.sql_printed.proofs.Telling.{is_clear, Starts, Cuts, Word, Told, told-both, told-given, told-first, told-second, told-some, told-past, told-as, told-none, told-plain, told-nil, told-cons, fit-one}
use Rattle.sql_printed.proofs.Names.{GoodToken}

-- ---- symbols that stand in a text

abbrev pub AllGood : List Symbol → Type 0
AllGood [] = Unit {0}
AllGood (s ∷ ss) = GoodToken s.token × AllGood ss

good_parts : (l r : List Symbol) → AllGood (l ++ r) → AllGood l × AllGood r
good_parts [] r g = (tt, g)
good_parts (s ∷ l) r g = let p = good_parts l r g.1 in ((g.0, p.0), p.1)

pub good_left : (ts l r : List Symbol) → ts ≡ l ++ r → AllGood ts → AllGood l
good_left ts l r e g = (good_parts l r (subst AllGood e g)).0

pub good_right : (ts l r : List Symbol) → ts ≡ l ++ r → AllGood ts → AllGood r
good_right ts l r e g = (good_parts l r (subst AllGood e g)).1

-- ---- one symbol

-- the text is one token, which is taken for the value
pub record IsOne {A : Type 0} (look : Symbol → Verdict Fault A) (a : A) (text rest : List ℕ) (at : ℕ) : Type 0 where
  pub symbol : Symbol
  pub next : ℕ
  pub is : cut at (text ++ rest) ≡ symbol ∷ cut next rest
  pub taken : look symbol ≡ takes a
  pub fit : is_unfit symbol.token ≡ false

abbrev pub OnePrints : {A : Type 0} → (Symbol → Verdict Fault A) → A → List ℕ → Type 0
OnePrints look a text = (at : ℕ) (rest : List ℕ) → is_clear rest ≡ true → IsOne look a text rest at

pub cuts-one : {A : Type 0} (look : Symbol → Verdict Fault A) (a : A) (text rest : List ℕ) (at : ℕ) → IsOne look a text rest at → Cuts (terminal look) a text rest at
cuts-one look a text rest at o = record { symbols = o.symbol ∷ []; next = o.next; is = o.is; spelled = o.taken; fit = fit-one o.symbol [] o.fit refl }

limited_takes : {A : Type 0} (k : Fault) (room : Bool) (v : Verdict Fault A) (a : A) → limited k room v ≡ takes a → (room ≡ true) × (v ≡ takes a)
limited_takes k true v a e = (refl, e)
limited_takes k false (takes b) a e = absurd (let no : ⊥ = cc in no)
limited_takes k false (faults j) a e = absurd (let no : ⊥ = cc in no)
limited_takes k false refuses a e = absurd (let no : ⊥ = cc in no)

-- a symbol that is taken, alone
pub record IsTaken {A : Type 0} (look : Symbol → Verdict Fault A) (a : A) (ts : List Symbol) : Type 0 where
  pub symbol : Symbol
  pub is : ts ≡ symbol ∷ []
  pub taken : look symbol ≡ takes a

pub taken_one : {A : Type 0} (look : Symbol → Verdict Fault A) (a : A) (ts : List Symbol) → (terminal look).Spells a ts → IsTaken look a ts
taken_one look a [] w = absurd w
taken_one look a (t ∷ []) w = record { symbol = t; is = refl; taken = w }
taken_one look a (t ∷ u ∷ ts) w = absurd w

pub good_one : (ts : List Symbol) (s : Symbol) → ts ≡ s ∷ [] → AllGood ts → GoodToken s.token
good_one ts s e g = (subst AllGood e g).0

-- a symbol that counts, and is taken
pub record IsCounted {A : Type 0} (look : Symbol → Verdict Fault A) (n : ℕ) (p : A × ℕ) (ts : List Symbol) : Type 0 where
  pub one : IsTaken look p.0 ts
  pub counts : n ≡ suc p.1

pub counted_one : {A : Type 0} (k : Fault) (look : Symbol → Verdict Fault A) (n : ℕ) (p : A × ℕ) (ts : List Symbol) → (one_more k look n).Spells p ts → IsCounted look n p ts
counted_one k look n p ts w =
    let t = taken_one (λ t. limited k (nat_lt 0 n) (look t)) w.0 ts w.2 in
    let l = limited_takes k (nat_lt 0 n) (look t.symbol) w.0 t.taken in
    let c : n ≡ suc (n - 1) = grind (arith, nat_tests, l.0) in
    let one : IsTaken look w.0 ts = record { symbol = t.symbol; is = t.is; taken = l.1 } in
    subst (λ v. IsCounted look n v ts) w.1 (record { one = one; counts = c })

pub told-one : {A : Type 0} (look : Symbol → Verdict Fault A) (k : Fault) (d n m : ℕ) (a : A) (text : List ℕ) → n ≡ suc m → OnePrints look a text → Told (λ e. one_more k look) d n m a text
told-one look k d n m a text c o = record {
  used = 1;
  within = omega arith;
  prints = λ e below j at rest clear.
      let f = o at rest clear in
      record {
        symbols = f.symbol ∷ [];
        next = f.next;
        is = f.is;
        spelled = spelled-one_more k look f.symbol a (1 + j) j (omega arith) f.taken;
        fit = fit-one f.symbol [] f.fit refl;
      };
}

-- ---- the combinators

-- what the rule spells is told again by the rules of each depth
abbrev pub Again : {A : Type 0} → Counting A → (ℕ → Counting A) → ℕ → (A → List ℕ) → Type 0
Again {A = A} G H d print = (n : ℕ) (p : A × ℕ) (ts : List Symbol) → AllGood ts → (G n).Spells p ts → Told H d n p.1 p.0 (print p.0)

pub again-terminal : {A : Type 0} (look : Symbol → Verdict Fault A) (into : ℕ → Symbol → Verdict Fault A) (d : ℕ) (print : A → List ℕ)
    → ((s : Symbol) (a : A) → GoodToken s.token → look s ≡ takes a → (e : ℕ) → d ≤ e → OnePrints (into e) a (print a))
    → Again (plain (terminal look)) (λ e. plain (terminal (into e))) d print
again-terminal look into d print f n p ts g w =
    let t = taken_one look w.0 ts w.2 in
    let h = f t.symbol w.0 (good_one ts t.symbol t.is g) t.taken in
    subst (λ v. Told (λ e. plain (terminal (into e))) d n v.1 v.0 (print v.0)) w.1
    (told-plain (λ e. terminal (into e)) d n w.0 (print w.0) (λ e below at rest c. cuts-one (into e) w.0 (print w.0) rest at (h e below at rest c)))

pub again-both : {A B : Type 0} (G : Counting A) (H : Counting B) (I : ℕ → Counting A) (J : ℕ → Counting B) (d : ℕ) (front : A → List ℕ) (back : B → List ℕ)
    → ((b : B) → Starts (back b)) → Again G I d front → Again H J d back → Again (both G H) (λ e. both (I e) (J e)) d (λ p. front p.0 ++ back p.1)
again-both G H I J d front back s g h n p ts good j =
    let q = j.after.0 in
    let first = g n j.value j.left (good_left ts j.left j.right j.joined good) j.whole in
    let second = h j.value.1 q j.right (good_right ts j.left j.right j.joined good) j.after.2 in
    subst (λ v. Told (λ e. both (I e) (J e)) d n v.1 v.0 (front v.0.0 ++ back v.0.1)) j.after.1
    (told-both I J d n j.value.1 q.1 j.value.0 q.0 (front j.value.0) (back q.0) (s q.0) first second)

pub again-given : {A B : Type 0} (f : A → B) (G : Counting A) (I : ℕ → Counting A) (d : ℕ) (print : B → List ℕ) → Again G I d (λ a. print (f a)) → Again (given f G) (λ e. given f (I e)) d print
again-given f G I d print g n p ts good w =
    subst (λ v. Told (λ e. given f (I e)) d n v.1 v.0 (print v.0)) w.1
    (told-given I d f n w.0.1 w.0.0 (print (f w.0.0)) (g n w.0 ts good w.2))

pub again-past : {A : Type 0} (test : Symbol → Bool) (G : Counting A) (I : ℕ → Counting A) (d : ℕ) (front : List ℕ) (print : A → List ℕ) → Word test front → Again G I d print → Again (past test G) (λ e. past test (I e)) d (λ a. front ++ print a)
again-past test G I d front print w g n p ts good j =
    told-past I d n p.1 p.0 (print p.0) (g n p j.right (good_right ts j.left j.right j.joined good) j.after) test front w

pub again-maybe : {A : Type 0} (G : Counting A) (I : ℕ → Counting A) (d : ℕ) (print : Option A → List ℕ) → print None ≡ [] → Again G I d (λ a. print (Some a)) → Again (maybe G) (λ e. maybe (I e)) d print
again-maybe G I d print none g n p ts good (true, w) =
    subst (λ v. Told (λ e. maybe (I e)) d n v.1 v.0 (print v.0)) w.1 (told-some I d n w.0.1 w.0.0 (print (Some w.0.0)) (g n w.0 ts good w.2))
again-maybe G I d print none g n p ts good (false, w) =
    subst (λ v. Told (λ e. maybe (I e)) d n v.1 v.0 (print v.0)) w.0 (told-as (λ e. maybe (I e)) d n n None [] (told-none I d n) (print None) (sym none))

module _ {A : Type 0} (G : Counting A) (I : ℕ → Counting A) (d : ℕ) (print : A → List ℕ) (starts : (a : A) → Starts (print a)) (g : Again G I d print) where
  again_bounded : (k n : ℕ) (p : List A × ℕ) (ts : List Symbol) → AllGood ts → (bounded_from k G n).Spells p ts → Told (λ e. many_from (I e)) d n p.1 p.0 (print_all print p.0)
  again_bounded zero n p ts good w = subst (λ v. Told (λ e. many_from (I e)) d n v.1 v.0 (print_all print v.0)) w.0 (told-nil I d print starts n)
  again_bounded (suc k) n p ts good (false, w) = subst (λ v. Told (λ e. many_from (I e)) d n v.1 v.0 (print_all print v.0)) w.0 (told-nil I d print starts n)
  again_bounded (suc k) n p ts good (true, j) =
      let q = j.after.0 in
      let first = g n j.value j.left (good_left ts j.left j.right j.joined good) j.whole in
      let rest = again_bounded k j.value.1 q j.right (good_right ts j.left j.right j.joined good) j.after.2 in
      subst (λ v. Told (λ e. many_from (I e)) d n v.1 v.0 (print_all print v.0)) j.after.1
      (told-cons I d print starts n j.value.1 q.1 j.value.0 q.0 first rest)

  pub again-many_from : Again (many_from G) (λ e. many_from (I e)) d (print_all print)
  again-many_from n p ts good w = again_bounded w.0 n p ts good w.1

pub again-as : {A : Type 0} (G : Counting A) (I : ℕ → Counting A) (d : ℕ) (print other : A → List ℕ) → ((a : A) → print a ≡ other a) → Again G I d print → Again G I d other
again-as G I d print other e g n p ts good w = told-as I d n p.1 p.0 (print p.0) (g n p ts good w) (other p.0) (e p.0)

pub again-either : {A : Type 0} (G H : Counting A) (I J : ℕ → Counting A) (d : ℕ) (print : A → List ℕ) → Again G I d print → Again H J d print → Again (λ n. either (G n) (H n)) (λ e n. either (I e n) (J e n)) d print
again-either G H I J d print g h n p ts good (true, w) = told-first I d n p.1 p.0 (print p.0) (g n p ts good w) J
again-either G H I J d print g h n p ts good (false, w) = told-second J d n p.1 p.0 (print p.0) (h n p ts good w) I
