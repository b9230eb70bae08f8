-- The steps of the functions on single tokens.
use Rattle.std.proofs.Common.{◌≡◌, ◌||◌, Bool, true, false, not, List, [], ◌∷◌, drop, Option, Some, None, refl}
use Rattle.std.specs.List.{list_all}
use Rattle.sql_tokens.specs.declared.class.Class.{Class}
use Rattle.sql_tokens.specs.declared.class.Class.TheVariants as k
use Rattle.sql_tokens.specs.Classes.{same_class, all_classes}
use Rattle.sql_tokens.specs.Cutting.{Symbol, first_class}
use Rattle.sql_tokens.proofs.ClassLaws.{every}
use Rattle.grammar_rules.specs.Readers.{found, failed, starts, read_terminal}
use Rattle.grammar_rules.proofs.Classes.{agree}
use Rattle.sql_grammar.specs.Marks.{of, is_name, one_told}
use Rattle.sql_leaves.specs.Parsing.{is_token, between}
use Rattle.sql_grammar.proofs.ExpressionReads.{same_truth}

names_between : list_all (λ c. agree (between k.Name k.TimezoneMinuteCalled c || between k.CoalesceCalled k.ToTimestampCalled c) (is_name c)) all_classes ≡ true
names_between = refl

pub name_between : (c : Class) → (between k.Name k.TimezoneMinuteCalled c || between k.CoalesceCalled k.ToTimestampCalled c) ≡ is_name c
name_between c =
    same_truth (between k.Name k.TimezoneMinuteCalled c || between k.CoalesceCalled k.ToTimestampCalled c) (is_name c)
    (every (λ d. agree (between k.Name k.TimezoneMinuteCalled d || between k.CoalesceCalled k.ToTimestampCalled d) (is_name d)) names_between c)

at_end : (c : Class) → is_token c ≡ true → same_class c k.NoToken ≡ false
unfolding same_class
at_end c h = not_both (same_class c k.NoToken) (implied (is_token c) (not (same_class c k.NoToken)) (every (λ d. not (is_token d) || not (same_class d k.NoToken)) refl c) h)
  where
    implied : (a b : Bool) → (not a || b) ≡ true → a ≡ true → b ≡ true
    implied true b h q = h
    implied false b h q = cc

    not_both : (b : Bool) → not b ≡ true → b ≡ false
    not_both true h = cc
    not_both false h = refl

pub sees_first : (c : Class) (ts : List Symbol) → is_token c ≡ true → same_class c (first_class ts) ≡ starts (of c) ts
sees_first c [] h = at_end c h
sees_first c (t ∷ ts) h = refl

-- ---- tokens that are told by their class

pub told_refused : {A : Type 0} (tell : Class → Option A) (ts : List Symbol) → tell (first_class ts) ≡ None → read_terminal (one_told tell) ts ≡ failed None ts
told_refused tell [] h = refl
told_refused tell (s ∷ ts) h = rw h refl

pub told_found : {A : Type 0} (tell : Class → Option A) (ts left : List Symbol) (a : A) → tell k.NoToken ≡ None → tell (first_class ts) ≡ Some a → left ≡ drop 1 ts → read_terminal (one_told tell) ts ≡ found a left
told_found tell [] left a none h l = let p : Some a ≡ None = cc in cc
told_found tell (s ∷ ts) left a none h l = rw (l, h) refl
