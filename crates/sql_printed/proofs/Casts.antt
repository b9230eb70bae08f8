-- CAST and its types are told again.
use Rattle.std.proofs.Common.{◌≡◌, ℕ, ◌+◌, ◌≤◌, ◌&&◌, nat_le, Bool, true, false, List, [], ◌++◌, Option, Some, None, refl, sym, ap, ◌∙◌, subst, arith, append_assoc, codes, decimal}
use Rattle.std.proofs.lemmas.Bool.{leb-true, le-leb}
use Rattle.sql_tokens.specs.declared.class.Class.{Class}
use Rattle.sql_tokens.specs.declared.class.Class.TheVariants as k
use Rattle.sql_tokens.specs.Classes.{same_class}
use Rattle.sql_tokens.specs.Keywords.{class_of_word}
use Rattle.sql_tokens.specs.TokenForms.{word, begins, is_word_byte, is_called}
use Rattle.sql_tokens.specs.Cutting.{Symbol}
use Rattle.grammar_rules.specs.Rules.{Rule, takes, terminal, token, made, optional, begun, preceded_by, followed_by}
use Rattle.grammar_rules.specs.Counted.{plain, given, both, past}
use Rattle.sql_grammar.specs.declared.tree.Expr.{Expr}
use Rattle.sql_grammar.specs.declared.tree.Expr.TheVariants as e
use Rattle.sql_grammar.specs.declared.tree.CastTarget.{CastTarget}
use Rattle.sql_grammar.specs.declared.tree.CastTarget.TheVariants as target
use Rattle.sql_grammar.specs.Marks.{Fault, class, of, is_decimal, simple_type, precision, scale, cast_form}
use Rattle.sql_grammar.specs.Expressions.{Counting, room_of, opening, decimal_target, decimal_digits, type_of, primary_of}
use Rattle.sql_printed.specs.Shown.{shown, form, enclosed_text, target_text}
use Rattle.sql_printed.proofs.Telling.{is_clear, Starts, Cuts, Prints, IsWord, Word, Told, told-plain, cuts-into, cuts-past, cuts-before, cuts-sequence, cuts-nothing}
use Rattle.sql_printed.proofs.Words.{is_word, and_right, cut_word, comma_blank, keyword_blanks, left, right}
use Rattle.sql_printed.proofs.Names.{clear_words}
use Rattle.sql_printed.proofs.Numbers.{AfterNumber}
use Rattle.sql_printed.proofs.Again.{AllGood, IsOne, taken_one, cuts-one, Again, again-both, again-past}
use Rattle.sql_printed.proofs.Enclosed.{open_room, more_deeper}
use Rattle.sql_printed.proofs.Folds.{shown_cast}
use Rattle.sql_printed.proofs.Levels.{inner_of, Own, opened, cuts-behind}
use Rattle.sql_printed.proofs.Sentences.{word_taken}
use Rattle.sql_printed.proofs.Calls.{own-call, forms-given}
use Rattle.sql_printed.proofs.Paths.{digits_taken, digits_print}

-- ---- types of one word

data IsSimple : CastTarget → Type 0 where
  is_bool : IsSimple target.Bool
  is_int : IsSimple target.Int
  is_text : IsSimple target.Text
  is_timestamp : IsSimple target.Timestamp

simple_told : (c : Class) (t : CastTarget) → simple_type c ≡ takes t → IsSimple t
simple_told k.BoolType t x = let i : target.Bool ≡ t = cc in subst IsSimple i is_bool
simple_told k.BoolTypeCalled t x = let i : target.Bool ≡ t = cc in subst IsSimple i is_bool
simple_told k.IntType t x = let i : target.Int ≡ t = cc in subst IsSimple i is_int
simple_told k.IntTypeCalled t x = let i : target.Int ≡ t = cc in subst IsSimple i is_int
simple_told k.StringType t x = let i : target.Text ≡ t = cc in subst IsSimple i is_text
simple_told k.StringTypeCalled t x = let i : target.Text ≡ t = cc in subst IsSimple i is_text
simple_told k.TimestampType t x = let i : target.Timestamp ≡ t = cc in subst IsSimple i is_timestamp
simple_told k.TimestampTypeCalled t x = let i : target.Timestamp ≡ t = cc in subst IsSimple i is_timestamp
simple_told _ t x = absurd (let no : ⊥ = cc in no)

type_looks : (t : CastTarget) (w rest : List ℕ) (place : ℕ) → is_word w ≡ true → ((called : Bool) → simple_type (class_of_word called w) ≡ takes t) → begins is_word_byte rest ≡ false → IsOne (λ s. simple_type (class s)) t w rest place
type_looks t w rest place i l b = word_taken (λ s. simple_type (class s)) t w rest place i (λ called at. l called) b

simple_prints : (t : CastTarget) → IsSimple t → (place : ℕ) (rest : List ℕ) → is_clear rest ≡ true → IsOne (λ s. simple_type (class s)) t (target_text t) rest place
unfolding class_of_word
simple_prints target.Bool is_bool place rest c = type_looks target.Bool (codes "BOOL") rest place refl (λ b. elim b as (λ b. simple_type (class_of_word b (codes "BOOL")) ≡ takes target.Bool) [ true ↦ refl | false ↦ refl ]) (clear_words rest c)
simple_prints target.Int is_int place rest c = type_looks target.Int (codes "INT") rest place refl (λ b. elim b as (λ b. simple_type (class_of_word b (codes "INT")) ≡ takes target.Int) [ true ↦ refl | false ↦ refl ]) (clear_words rest c)
simple_prints target.Text is_text place rest c = type_looks target.Text (codes "STRING") rest place refl (λ b. elim b as (λ b. simple_type (class_of_word b (codes "STRING")) ≡ takes target.Text) [ true ↦ refl | false ↦ refl ]) (clear_words rest c)
simple_prints target.Timestamp is_timestamp place rest c = type_looks target.Timestamp (codes "TIMESTAMP") rest place refl (λ b. elim b as (λ b. simple_type (class_of_word b (codes "TIMESTAMP")) ≡ takes target.Timestamp) [ true ↦ refl | false ↦ refl ]) (clear_words rest c)
simple_prints target.Decimal x place rest c = elim x [ ]
simple_prints (target.DecimalOf p s) x place rest c = elim x [ ]

-- ---- DECIMAL

decimal_word : (rest : List ℕ) (place : ℕ) → begins is_word_byte rest ≡ false → IsWord (λ s. is_decimal (class s)) (codes "DECIMAL") rest place
unfolding class_of_word
decimal_word rest place b = record {
  symbol = record { at = place; token = word (is_called rest) (codes "DECIMAL") };
  next = place + 7;
  is = cut_word place (codes "DECIMAL") rest refl b;
  passes = elim (is_called rest) as (λ c. is_decimal (class_of_word c (codes "DECIMAL")) ≡ true) [ true ↦ refl | false ↦ refl ];
  fit = refl;
}

abbrev sizes : Bool → Rule Symbol Fault (Option (ℕ × Option ℕ))
sizes room = optional (begun (opening room k.LeftParenthesis) (λ s. followed_by decimal_digits (token (of k.RightParenthesis))))

abbrev sized : Bool → Rule Symbol Fault CastTarget
sized room = made decimal_target (sizes room)

bare_prints : (room : Bool) → Prints (type_of room) target.Decimal (codes "DECIMAL")
bare_prints room place rest c =
    let first = decimal_word rest place (clear_words rest c) in
    let body = cuts-nothing (sized room) target.Decimal rest first.next (None, refl, (false, (refl, refl))) in
    cuts-into (preceded_by (token (λ s. is_decimal (class s))) (sized room)) (type_of room) target.Decimal target.Decimal (codes "DECIMAL") rest place (λ ts w. (false, w))
    (cuts-past (sized room) (λ s. is_decimal (class s)) target.Decimal (codes "DECIMAL") [] rest place first body)

-- the digits that were spelled
record IsSized (p s : ℕ) : Type 0 where
  digits : (nat_le 1 p && nat_le p 38) ≡ true
  scale : (nat_le 0 s && nat_le s p) ≡ true

after_comma : (rest : List ℕ) → AfterNumber (codes ", " ++ rest)
after_comma rest = record { digit = refl; point = refl; letter = refl }

after_right : (rest : List ℕ) → AfterNumber (codes ")" ++ rest)
after_right rest = record { digit = refl; point = refl; letter = refl }

bounded : (least most n : ℕ) → most ≤ 38 → (nat_le least n && nat_le n most) ≡ true → n ≤ 38
bounded least most n l t = let b = leb-true n most (and_right (nat_le least n) (nat_le n most) t) in omega arith

sized_prints : (room : Bool) (p s : ℕ) → room ≡ true → IsSized p s → (place : ℕ) (rest : List ℕ) → Cuts (type_of room) (target.DecimalOf p s) (target_text (target.DecimalOf p s)) rest place
sized_prints room p s r z place rest =
    let low = bounded 1 38 p (omega arith) z.digits in
    let low_scale = bounded 0 p s low z.scale in
    let scales = decimal s ++ codes ")" in
    let inside = decimal p ++ (codes ", " ++ scales) in
    let first = decimal_word ((codes "(" ++ inside) ++ rest) place refl in
    let bracket = left first.next (inside ++ rest) in
    let after = codes ", " ++ (decimal s ++ (codes ")" ++ rest)) in
    let one = cuts-one precision p (decimal p) after bracket.next (digits_print 1 38 p after bracket.next (omega arith) z.digits (after_comma (decimal s ++ (codes ")" ++ rest)))) in
    let mark = comma_blank one.next (decimal s ++ (codes ")" ++ rest)) in
    let two = cuts-one (scale p) s (decimal s) (codes ")" ++ rest) mark.next (digits_print 0 p s (codes ")" ++ rest) mark.next (omega arith) z.scale (after_right rest)) in
    let C = preceded_by (token (of k.Comma)) (terminal (scale p)) in
    let F = followed_by decimal_digits (token (of k.RightParenthesis)) in
    let O = begun (opening room k.LeftParenthesis) (λ t. F) in
    let scaled = cuts-past (terminal (scale p)) (of k.Comma) s (codes ", ") (decimal s) (codes ")" ++ rest) one.next mark two in
    let part = cuts-into C (made (λ t. (p, t)) (optional C)) s (p, Some s) (codes ", " ++ decimal s) (codes ")" ++ rest) one.next (λ ts w. (Some s, refl, (true, (s, refl, w)))) scaled in
    let both_parts = cuts-sequence (terminal precision) (λ q. made (λ t. (q, t)) (optional (preceded_by (token (of k.Comma)) (terminal (scale q))))) p (p, Some s) (decimal p) (codes ", " ++ decimal s) (codes ")" ++ rest) bracket.next one part in
    let close = right both_parts.next rest in
    let closed = cuts-before decimal_digits (of k.RightParenthesis) (p, Some s) (decimal p ++ (codes ", " ++ decimal s)) (codes ")") rest bracket.next both_parts close in
    let same : (decimal p ++ (codes ", " ++ decimal s)) ++ codes ")" ≡ inside = append_assoc (decimal p) (codes ", " ++ decimal s) (codes ")") in
    let joined = subst (λ t. Cuts F (p, Some s) t rest bracket.next) same closed in
    let boxed = cuts-behind (terminal (opening room k.LeftParenthesis)) (λ t. F) bracket.symbol (p, Some s) (codes "(") inside rest first.next bracket.next bracket.symbol bracket.is bracket.fit (opened room k.LeftParenthesis bracket.symbol r bracket.passes) joined in
    let body = cuts-into O (sized room) (p, Some s) (target.DecimalOf p s) (codes "(" ++ inside) rest first.next (λ ts w. (Some (p, Some s), refl, (true, ((p, Some s), refl, w)))) boxed in
    cuts-into (preceded_by (token (λ s. is_decimal (class s))) (sized room)) (type_of room) (target.DecimalOf p s) (target.DecimalOf p s) (target_text (target.DecimalOf p s)) rest place (λ ts w. (false, w))
    (cuts-past (sized room) (λ s. is_decimal (class s)) (target.DecimalOf p s) (codes "DECIMAL") (codes "(" ++ inside) rest place first body)

-- ---- types

record HasSizes (q : ℕ × Option ℕ) : Type 0 where
  first : ℕ
  second : ℕ
  is : decimal_target (Some q) ≡ target.DecimalOf first second
  sized : IsSized first second

sizes_by : (p : ℕ) → (nat_le 1 p && nat_le p 38) ≡ true → (o : Option ℕ) (us : List Symbol) → (optional (preceded_by (token (of k.Comma)) (terminal (scale p)))).Spells o us → HasSizes (p, o)
sizes_by p l o us (false, w) =
    subst (λ o. HasSizes (p, o)) w.0 (record { first = p; second = 0; is = refl; sized = record { digits = l; scale = let z : nat_le 0 p ≡ true = le-leb 0 p (omega arith) in rw z refl } })
sizes_by p l o us (true, w) =
    let t = taken_one (scale p) w.0 w.2.right w.2.after in
    subst (λ o. HasSizes (p, o)) w.1 (record { first = p; second = w.0; is = refl; sized = record { digits = l; scale = digits_taken 0 p t.symbol w.0 t.taken } })

sizes_told : (q : ℕ × Option ℕ) (ts : List Symbol) → decimal_digits.Spells q ts → HasSizes q
sizes_told q ts j =
    let t = taken_one precision j.value j.left j.whole in
    let x = j.after in
    subst HasSizes x.1 (sizes_by j.value (digits_taken 1 38 t.symbol j.value t.taken) x.0 j.right x.2)

-- a type that was spelled
record TypeTold (d n m : ℕ) (t : CastTarget) : Type 0 where
  told : Told (λ f. plain (type_of (room_of f).deeper)) d n m t (target_text t)

type_cases : (d n : ℕ) (t : CastTarget) (ts : List Symbol) → (type_of (room_of d).deeper).Spells t ts → TypeTold d n n t
type_cases d n t ts (true, w) =
    let x = taken_one (λ s. simple_type (class s)) t ts w in
    let simple = simple_told (class x.symbol) t x.taken in
    record {
      told = told-plain (λ f. type_of (room_of f).deeper) d n t (target_text t) (λ f below place rest c.
          cuts-into (terminal (λ s. simple_type (class s))) (type_of (room_of f).deeper) t t (target_text t) rest place (λ us v. (true, v))
          (cuts-one (λ s. simple_type (class s)) t (target_text t) rest place (simple_prints t simple place rest c)));
    }
type_cases d n t ts (false, w) = by w.after.0 w.right w.after.2 w.after.1
  where
    bare : TypeTold d n n target.Decimal
    bare = record { told = told-plain (λ f. type_of (room_of f).deeper) d n target.Decimal (codes "DECIMAL") (λ f below. bare_prints (room_of f).deeper) }

    by : (o : Option (ℕ × Option ℕ)) (us : List Symbol) → (sizes (room_of d).deeper).Spells o us → decimal_target o ≡ t → TypeTold d n n t
    by o us (false, v) is = subst (TypeTold d n n) (ap decimal_target v.0 ∙ is) bare
    by o us (true, v) is =
        let j = v.2 in
        let s = taken_one (opening (room_of d).deeper k.LeftParenthesis) j.value j.left j.whole in
        let r = open_room (room_of d).deeper k.LeftParenthesis s.symbol j.value s.taken in
        let q = j.after in
        let z = sizes_told q.value q.left q.whole in
        let same : q.value ≡ v.0 = q.after.1 in
        let one : TypeTold d n n (target.DecimalOf z.first z.second) = record {
          told = told-plain (λ f. type_of (room_of f).deeper) d n (target.DecimalOf z.first z.second) (target_text (target.DecimalOf z.first z.second))
              (λ f below place rest c. sized_prints (room_of f).deeper z.first z.second (more_deeper d f below r) z.sized place rest);
        } in
        subst (TypeTold d n n) (sym z.is ∙ (ap (λ y. decimal_target (Some y)) same ∙ (ap decimal_target v.1 ∙ is))) one

type_again : (d : ℕ) → Again (plain (type_of (room_of d).deeper)) (λ f. plain (type_of (room_of f).deeper)) d target_text
type_again d n p ts good w =
    let t = type_cases d n w.0 ts w.2 in
    subst (λ v. Told (λ f. plain (type_of (room_of f).deeper)) d n v.1 v.0 (target_text v.0)) w.1 t.told

-- ---- CAST

pub as_word : Word (of k.As) (codes " AS ")
unfolding class_of_word same_class
as_word = keyword_blanks k.As (codes "AS") refl

starts_type : (t : CastTarget) → Starts (codes " AS " ++ target_text t)
unfolding is_clear
starts_type t rest c = refl

cast_is : (p : Expr × CastTarget) → shown (e.Cast p.0 p.1) ≡ form 0 (codes "CAST" ++ enclosed_text ((shown p.0).text ++ (codes " AS " ++ target_text p.1)))
cast_is p =
    shown_cast p.0 p.1 ∙ ap (λ l. form 0 (codes "CAST(" ++ l)) (ap (λ l. (shown p.0).text ++ l) (sym (append_assoc (codes " AS ") (target_text p.1) (codes ")"))) ∙ sym (append_assoc (shown p.0).text (codes " AS " ++ target_text p.1) (codes ")")))

abbrev cast_parts : ℕ → Counting (Expr × CastTarget)
cast_parts f = both (inner_of f) (past (of k.As) (plain (type_of (room_of f).deeper)))

module _ (d : ℕ) (inside : Again (inner_of d) inner_of d (λ x. (shown x).text)) where
  pub own-cast : (n : ℕ) (p : Expr × ℕ) (ts : List Symbol) → AllGood ts → (primary_of (room_of d) (inner_of d) cast_form n).Spells p ts → Own d n p.1 0 p.0
  unfolding class_of_word same_class
  own-cast = own-call d k.Cast (codes "CAST") cast_form (given (λ p. e.Cast p.0 p.1) (cast_parts d)) (λ f. given (λ p. e.Cast p.0 p.1) (cast_parts f)) refl refl (λ f n p ts w. w)
      (forms-given (codes "CAST") (λ p. e.Cast p.0 p.1) (cast_parts d) cast_parts d (λ p. (shown p.0).text ++ (codes " AS " ++ target_text p.1)) cast_is
      (again-both (inner_of d) (past (of k.As) (plain (type_of (room_of d).deeper))) inner_of (λ f. past (of k.As) (plain (type_of (room_of f).deeper))) d (λ x. (shown x).text) (λ t. codes " AS " ++ target_text t) starts_type inside
      (again-past (of k.As) (plain (type_of (room_of d).deeper)) (λ f. plain (type_of (room_of f).deeper)) d (codes " AS ") target_text as_word (type_again d))))
