-- What stands between parentheses is told again.
use Rattle.std.proofs.Common.{◌≡◌, ℕ, ◌+◌, ◌≤◌, Bool, true, false, List, ◌++◌, refl, subst, arith, codes}
use Rattle.std.proofs.lemmas.Bool.{ltb-true, lt-ltb}
use Rattle.sql_tokens.specs.declared.class.Class.{Class}
use Rattle.sql_tokens.specs.declared.class.Class.TheVariants as k
use Rattle.sql_tokens.specs.Cutting.{Symbol}
use Rattle.grammar_rules.specs.Rules.{Verdict, takes, faults, refuses, limited, terminal}
use Rattle.grammar_rules.specs.Counted.{before}
use Rattle.sql_grammar.specs.Marks.{Fault, too_deep, of}
use Rattle.sql_grammar.specs.Expressions.{Counting, room_of, word, opening, enclosed}
use Rattle.sql_printed.specs.Shown.{enclosed_text}
use Rattle.sql_printed.proofs.Telling.{Told, cuts-before}
use Rattle.sql_printed.proofs.Words.{left, right}
use Rattle.sql_printed.proofs.Again.{good_left, good_right, Again, taken_one}
use Rattle.sql_printed.proofs.Levels.{cuts-behind, opened, starts-right}

-- a bracket that is taken shows that there is room for it
pub open_room : (room : Bool) (c : Class) (s t : Symbol) → opening room c s ≡ takes t → room ≡ true
open_room true c s t e = refl
open_room false c s t e = shut (word c s) e
  where
    shut : (v : Verdict Fault Symbol) → limited too_deep false v ≡ takes t → false ≡ true
    shut (takes u) e = absurd (let no : ⊥ = cc in no)
    shut (faults j) e = absurd (let no : ⊥ = cc in no)
    shut refuses e = absurd (let no : ⊥ = cc in no)

-- room at a depth is room at each greater one
pub more_room : (d f : ℕ) → d ≤ f → (room_of d).here ≡ true → (room_of f).here ≡ true
more_room d f below r = let l = ltb-true 0 d r in lt-ltb 0 f (omega arith)

pub more_deeper : (d f : ℕ) → d ≤ f → (room_of d).deeper ≡ true → (room_of f).deeper ≡ true
more_deeper d f below r = let l = ltb-true 1 d r in lt-ltb 1 f (omega arith)

pub told-enclosed : {A : Type 0} (room : ℕ → Bool) (I : ℕ → Counting A) (d n m : ℕ) (a : A) (text : List ℕ) → ((f : ℕ) → d ≤ f → room f ≡ true) → Told I d n m a text → Told (λ f. enclosed (room f) (I f)) d n m a (enclosed_text text)
told-enclosed room I d n m a text r t = record {
  used = t.used;
  within = t.within;
  prints = λ f below j place rest c.
      let first = left place ((text ++ codes ")") ++ rest) in
      let body = t.prints f below j first.next (codes ")" ++ rest) (starts-right rest c) in
      let close = right body.next rest in
      let inside = cuts-before (I f (t.used + j)) (of k.RightParenthesis) (a, j) text (codes ")") rest first.next body close in
      cuts-behind (terminal (opening (room f) k.LeftParenthesis)) (λ s. before (I f) (of k.RightParenthesis) (t.used + j)) first.symbol (a, j) (codes "(") (text ++ codes ")") rest place first.next first.symbol first.is first.fit
      (opened (room f) k.LeftParenthesis first.symbol (r f below) first.passes) inside;
}

pub again-enclosed : {A : Type 0} (room : ℕ → Bool) (G : Counting A) (I : ℕ → Counting A) (d : ℕ) (print : A → List ℕ) → ((f : ℕ) → d ≤ f → room d ≡ true → room f ≡ true) → Again G I d print
    → Again (enclosed (room d) G) (λ f. enclosed (room f) (I f)) d (λ a. enclosed_text (print a))
again-enclosed room G I d print more g n p ts good j =
    let s = taken_one (opening (room d) k.LeftParenthesis) j.value j.left j.whole in
    let r = open_room (room d) k.LeftParenthesis s.symbol j.value s.taken in
    let b = j.after in
    let good_rest = good_right ts j.left j.right j.joined good in
    subst (λ v. Told (λ f. enclosed (room f) (I f)) d n v.1 v.0 (enclosed_text (print v.0))) b.after.1
    (told-enclosed room I d n b.value.1 b.value.0 (print b.value.0) (λ f below. more f below r) (g n b.value b.left (good_left j.right b.left b.right b.joined good_rest) b.whole))
