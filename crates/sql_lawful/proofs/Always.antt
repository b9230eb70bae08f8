-- What holds of each value that a counting rule spells: one law a combinator.
use Rattle.std.proofs.Common.{◌≡◌, ℕ, zero, suc, ◌-◌, nat_lt, Bool, true, false, List, ◌∷◌, Option, Some, None, subst, if◌then◌else◌}
use Rattle.sql_tokens.specs.declared.class.Class.{Class}
use Rattle.sql_tokens.specs.declared.class.Class.TheVariants as k
use Rattle.sql_tokens.specs.Cutting.{Symbol}
use Rattle.grammar_rules.specs.Rules.{Rule, Verdict, takes, faults, refuses, limited, told, terminal, fault, made, either, one_of_two}
use Rattle.grammar_rules.specs.Counted.{Counted, plain, one_more, given, both, after, past, before, maybe, many_from, bounded_from, chain, item, list_of}
use Rattle.grammar_rules.specs.Spelled.{Each, All}
use Rattle.grammar_rules.proofs.EachValue.{each-terminal}
use Rattle.sql_grammar.specs.Marks.{Fault, too_many, of, class}
use Rattle.sql_grammar.specs.Expressions.{Counting, perhaps, enclosed, literal}
use Rattle.sql_grammar.specs.declared.tree.Expr.{Expr}

-- this holds of each value that the rule spells, at each count
abbrev pub Always : {S A : Type 0} → (A → Type 0) → Counted S Symbol Fault A → Type 0
Always {S = S} {A = A} P G = (n : S) (p : A × S) (ts : List Symbol) → (G n).Spells p ts → P p.0

-- this holds of what is there
abbrev pub IfThere : {A : Type 0} → (A → Type 0) → Option A → Type 0
IfThere P None = Unit {0}
IfThere P (Some a) = P a

-- nothing is asked
abbrev pub Any : {A : Type 0} → A → Type 0
Any a = Unit {0}

pub always-any : {S A : Type 0} (G : Counted S Symbol Fault A) → Always Any G
always-any G n p ts w = tt

pub always-so : {S A : Type 0} (G : Counted S Symbol Fault A) (P Q : A → Type 0) → ((a : A) → P a → Q a) → Always P G → Always Q G
always-so G P Q f g n p ts w = f p.0 (g n p ts w)

-- ---- one symbol

pub always-plain : {A : Type 0} (S : Type 0) (G : Rule Symbol Fault A) (P : A → Type 0) → Each P G → Always {S = S} P (plain G)
always-plain S G P g n p ts w = subst (λ v. P v.0) w.1 (g w.0 ts w.2)

pub always-terminal : {A : Type 0} (S : Type 0) (look : Symbol → Verdict Fault A) (P : A → Type 0) → ((s : Symbol) (a : A) → look s ≡ takes a → P a) → Always {S = S} P (plain (terminal look))
always-terminal S look P h = always-plain S (terminal look) P (each-terminal look P h)

limited_takes : {A : Type 0} (j : Fault) (room : Bool) (v : Verdict Fault A) (a : A) → limited j room v ≡ takes a → v ≡ takes a
limited_takes j true v a e = e
limited_takes j false (takes b) a e = absurd (let no : ⊥ = cc in no)
limited_takes j false (faults i) a e = absurd (let no : ⊥ = cc in no)
limited_takes j false refuses a e = absurd (let no : ⊥ = cc in no)

pub always-one_more : {A : Type 0} (j : Fault) (look : Symbol → Verdict Fault A) (P : A → Type 0) → ((s : Symbol) (a : A) → look s ≡ takes a → P a) → Always P (one_more j look)
always-one_more j look P h n p ts w =
    let l = λ (s : Symbol). limited j (nat_lt 0 n) (look s) in
    subst (λ v. P v.0) w.1 (each-terminal l P (λ s a e. h s a (limited_takes j (nat_lt 0 n) (look s) a e)) w.0 ts w.2)

abbrev pub verdict : {A : Type 0} → Verdict Fault A → Verdict Fault A
verdict v = v

-- what a test lets through, for what is made of it
pub tested_takes : {A : Type 0} (t : Bool) (made_of a : A) (P : A → Type 0) → P made_of → verdict (if t then takes made_of else refuses) ≡ takes a → P a
tested_takes true made_of a P h e = let i : made_of ≡ a = cc in subst P i h
tested_takes false made_of a P h e = absurd (let no : ⊥ = cc in no)

pub always-literal : (test : Class → Bool) (spelled : Symbol → Expr) (P : Expr → Type 0) → ((s : Symbol) → P (spelled s)) → Always P (literal test spelled)
always-literal test spelled P h =
    always-one_more too_many (λ s. if test (class s) then takes (spelled s) else refuses) P (λ s a e. tested_takes (test (class s)) (spelled s) a P (h s) e)

-- a fault spells nothing
no_fault : {A : Type 0} (t : Bool) (j : Fault) (a : A) → verdict (if t then faults j else refuses) ≡ takes a → ⊥
no_fault true j a e = cc
no_fault false j a e = cc

pub always-fault : {A : Type 0} (S : Type 0) (j : Fault) (test : Symbol → Bool) (P : A → Type 0) → Always {S = S} P (plain (fault j test))
always-fault S j test P = always-terminal S (λ s. if test s then faults j else refuses) P (λ s a e. absurd (no_fault (test s) j a e))

pub no_told : {A : Type 0} (o : Option Fault) (a : A) → told o ≡ takes a → ⊥
no_told None a e = cc
no_told (Some j) a e = cc

pub always-told : {A : Type 0} (S : Type 0) (over : Symbol → Option Fault) (P : A → Type 0) → Always {S = S} P (plain (terminal (λ s. told (over s))))
always-told S over P = always-terminal S (λ s. told (over s)) P (λ s a e. absurd (no_told (over s) a e))

-- ---- combinators

module _ {S A B : Type 0} where
  pub always-given : (f : A → B) (G : Counted S Symbol Fault A) (P : A → Type 0) (Q : B → Type 0) → ((a : A) → P a → Q (f a)) → Always P G → Always Q (given f G)
  always-given f G P Q h g n p ts w = subst (λ v. Q v.0) w.1 (h w.0.0 (g n w.0 ts w.2))

  pub always-both : (G : Counted S Symbol Fault A) (H : Counted S Symbol Fault B) (P : A → Type 0) (Q : B → Type 0) → Always P G → Always Q H → Always (λ p. P p.0 × Q p.1) (both G H)
  always-both G H P Q g h n p ts j =
      let q = j.after.0 in
      subst (λ v. P v.0.0 × Q v.0.1) j.after.1 (g n j.value j.left j.whole, h j.value.1 q j.right j.after.2)

  pub always-after : (G : Counted S Symbol Fault A) (H : A → Counted S Symbol Fault B) (Q : B → Type 0) → ((a : A) → Always Q (H a)) → Always Q (after G H)
  always-after G H Q h n p ts j = h j.value.0 j.value.1 p j.right j.after

module _ {S A : Type 0} where
  pub always-past : (test : Symbol → Bool) (G : Counted S Symbol Fault A) (P : A → Type 0) → Always P G → Always P (past test G)
  always-past test G P g n p ts j = g n p j.right j.after

  pub always-before : (G : Counted S Symbol Fault A) (test : Symbol → Bool) (P : A → Type 0) → Always P G → Always P (before G test)
  always-before G test P g n p ts j = subst (λ v. P v.0) j.after.1 (g n j.value j.left j.whole)

  pub always-maybe : (G : Counted S Symbol Fault A) (P : A → Type 0) → Always P G → Always (IfThere P) (maybe G)
  always-maybe G P g n p ts (true, w) = subst (λ v. IfThere P v.0) w.1 (g n w.0 ts w.2)
  always-maybe G P g n p ts (false, w) = subst (λ v. IfThere P v.0) w.0 tt

  pub always-either : (G H : Counted S Symbol Fault A) (P : A → Type 0) → Always P G → Always P H → Always P (λ n. either (G n) (H n))
  always-either G H P g h n p ts (true, w) = g n p ts w
  always-either G H P g h n p ts (false, w) = h n p ts w

  bounded : (G : Counted S Symbol Fault A) (P : A → Type 0) → Always P G → (b : ℕ) → Always (All P) (bounded_from b G)
  bounded G P g zero n p ts w = subst (λ v. All P v.0) w.0 tt
  bounded G P g (suc b) n p ts (false, w) = subst (λ v. All P v.0) w.0 tt
  bounded G P g (suc b) n p ts (true, j) =
      let q = j.after.0 in
      subst (λ v. All P v.0) j.after.1 (g n j.value j.left j.whole, bounded G P g b j.value.1 q j.right j.after.2)

  pub always-many_from : (G : Counted S Symbol Fault A) (P : A → Type 0) → Always P G → Always (All P) (many_from G)
  always-many_from G P g n p ts w = bounded G P g w.0 n p ts w.1

  pub always-item : (over : Symbol → Option Fault) (G : Counted S Symbol Fault A) (P : A → Type 0) → Always P G → Always P (item over G)
  always-item over G P g c p ts w = by (nat_lt 0 c.0) w
    where
      by : (v : Bool) → (one_of_two {A = A × (ℕ × S)} (made (λ q. (q.0, (c.0 - 1, q.1))) (G c.1)) (terminal (λ t. told (over t))) v).Spells p ts → P p.0
      by true x = subst (λ y. P y.0) x.1 (g c.1 x.0 ts x.2)
      by false x = each-terminal (λ t. told (over t)) (λ y. P y.0) (λ s a e. absurd (no_told (over s) a e)) p ts x

module _ {S A B C : Type 0} where
  pub always-chain : (node : A → List B → C) (G : Counted S Symbol Fault A) (H : Counted S Symbol Fault B) (P : A → Type 0) (Q : B → Type 0) (R : C → Type 0)
      → ((a : A) (bs : List B) → P a → All Q bs → R (node a bs)) → Always P G → Always Q H → Always R (chain node G H)
  always-chain node G H P Q R f g h =
      always-given (λ p. node p.0 p.1) (both G (many_from H)) (λ p. P p.0 × All Q p.1) R (λ p x. f p.0 p.1 x.0 x.1) (always-both G (many_from H) P (All Q) g (always-many_from H Q h))

-- a list of one or more
pub always-listed : {S A : Type 0} (G H : Counted S Symbol Fault A) (P : A → Type 0) → Always P G → Always P H → Always (All P) (chain (λ a rest. a ∷ rest) G H)
always-listed G H P g h = always-chain (λ a rest. a ∷ rest) G H P P (All P) (λ a bs x xs. (x, xs)) g h

pub always-list_of : {S A : Type 0} (limit : ℕ) (over : Symbol → Option Fault) (separates : Symbol → Bool) (G : Counted S Symbol Fault A) (P : A → Type 0) → Always P G → Always (All P) (list_of limit over separates G)
always-list_of limit over separates G P g n p ts w =
    let one = always-item over G P g in
    let all = always-listed (item over G) (past separates (item over G)) P one (always-past separates (item over G) P one) in
    subst (λ v. All P v.0) w.1 (all (limit, n) w.0 ts w.2)

-- ---- parts of this grammar's rules

pub always-perhaps : {A B : Type 0} (G : Counting A) (H : Option A → Counting B) (P : A → Type 0) (Q : B → Type 0) → Always P G → ((o : Option A) → IfThere P o → Always Q (H o)) → Always Q (perhaps G H)
always-perhaps G H P Q g h n p ts (true, j) = h (Some j.value.0) (g n j.value j.left j.whole) j.value.1 p j.right j.after
always-perhaps G H P Q g h n p ts (false, w) = h None tt n p ts w

pub always-enclosed : {A : Type 0} (room : Bool) (G : Counting A) (P : A → Type 0) → Always P G → Always P (enclosed room G)
always-enclosed room G P g n p ts j = always-before G (of k.RightParenthesis) P g n p j.right j.after
