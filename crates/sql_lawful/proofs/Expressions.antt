-- What is closed under the forms of expressions holds of each expression that the grammar spells.
use Rattle.std.proofs.Common.{◌≡◌, ℕ, zero, suc, ◌&&◌, nat_le, Bool, true, false, List, [], ◌∷◌, Option, Some, None, is_some, refl, subst, if◌then◌else◌, chars, arith}
use Rattle.std.specs.Option.{option_map}
use Rattle.std.proofs.lemmas.Bool.{le-leb}
use Rattle.text_view.specs.declared.view.Side.{Side}
use Rattle.text_view.specs.declared.view.Side.TheVariants as side
use Rattle.text_view.specs.LikePattern.{parts_after, pattern_parts, part_of}
use Rattle.sql_tokens.specs.declared.class.Class.{Class}
use Rattle.sql_tokens.specs.declared.class.Class.TheVariants as k
use Rattle.sql_tokens.specs.Classes.{same_class}
use Rattle.sql_tokens.specs.Cutting.{Symbol}
use Rattle.grammar_rules.specs.Rules.{Rule, Verdict, takes, faults, refuses, terminal, token, fault, nothing, made, either, optional, begun, preceded_by, followed_by}
use Rattle.grammar_rules.specs.Counted.{plain, one_more, given, both, after, past, before, maybe, chain, list_of}
use Rattle.grammar_rules.specs.Spelled.{Each, All}
use Rattle.grammar_rules.proofs.EachValue.{each-terminal, each-nothing, each-made, each-either, each-sequence}
use Rattle.sql_grammar.specs.declared.tree.Expr.{Expr}
use Rattle.sql_grammar.specs.declared.tree.Expr.TheVariants as e
use Rattle.sql_grammar.specs.declared.tree.SumPart.{SumPart, roll-SumPart, out-SumPart}
use Rattle.sql_grammar.specs.declared.tree.ProdPart.{ProdPart, roll-ProdPart, out-ProdPart}
use Rattle.sql_grammar.specs.declared.tree.Arm.{Arm, roll-Arm, out-Arm}
use Rattle.sql_grammar.specs.declared.tree.PathStep.TheVariants as step
use Rattle.sql_grammar.specs.declared.tree.SumOp.{SumOp}
use Rattle.sql_grammar.specs.declared.tree.ProdOp.{ProdOp}
use Rattle.sql_grammar.specs.declared.tree.CastTarget.{CastTarget}
use Rattle.sql_grammar.specs.declared.tree.CastTarget.TheVariants as target
use Rattle.sql_grammar.specs.declared.tree.DatePart.{DatePart}
use Rattle.sql_grammar.specs.declared.tree.DatePart.TheVariants as part
use Rattle.sql_grammar.specs.Marks.{Fault, unknown_function, unsupported_type, bad_escape, wrong_number, too_deep, too_many, class, of, is_unknown_call, is_number, is_decimal, is_for, begins_expression, text_in, number_in, text, digits_within, whole_within, whole_of, precision, scale, escape, escape_by, told_by, one_told, compare_op, sum_op, prod_op, date_part, stamp_part, simple_type, Form, literal_text, literal_number, truth, untruth, null_form, missing_form, path_form, unknown_call, exponent_form, cast_form, group_form, case_form, coalesce_form, nullif_form, char_length_form, lower_form, upper_form, substring_form, trim_form, extract_form, date_add_form, to_timestamp_form}
use Rattle.sql_grammar.specs.Expressions.{Counting, Room, perhaps, word, opening, enclosed, listed, decimal_target, decimal_digits, type_of, path_step, path_name, or_node, and_node, sum_node, prod_node, Tail, comparing, lying, among, liking, being_null, being_missing, pred_node, not_node, unary_node, is_what, over_class, trim_side, side_or_both, flag, call, cast, group, arm, case_rest, case, coalesce, nullif, substring, trim_set, trim, extract, date_add, primary_of, primary, unary, prod_part, prod, sum_part, sum, comparison, between, members, in_members, like, is_tail, negatable, tail, pred, negation, conjunction, disjunction, room_of, expression}
use Rattle.sql_lawful.specs.Lawful.{fits_escape, is_lawful_target, can_be_moved}
use Rattle.sql_lawful.proofs.Always.{verdict, Always, IfThere, Any, always-any, always-so, always-plain, always-terminal, always-literal, always-fault, always-given, always-both, always-after, always-past, always-before, always-maybe, always-either, always-chain, always-listed, always-list_of, always-perhaps, always-enclosed}
use Rattle.sql_lawful.proofs.Closed.{Closed}

-- ---- types

abbrev FitTarget : CastTarget → Type 0
FitTarget t = is_lawful_target t ≡ true

and_both : (s t : Bool) → s ≡ true → t ≡ true → (s && t) ≡ true
and_both true t e f = f
and_both false t e f = cc

and_left : (s t : Bool) → (s && t) ≡ true → s ≡ true
and_left true t e = refl
and_left false t e = cc

and_right : (s t : Bool) → (s && t) ≡ true → t ≡ true
and_right true t e = e
and_right false t e = cc

abbrev number_verdict : Verdict Fault ℕ → Verdict Fault ℕ
number_verdict v = v

within_taken : (least most : ℕ) (o : Option ℕ) (n : ℕ) → whole_within least most o ≡ takes n → (nat_le least n && nat_le n most) ≡ true
within_taken least most None n e = absurd (let no : ⊥ = cc in no)
within_taken least most (Some m) n e = by (nat_le least m && nat_le m most) refl e
  where
    by : (t : Bool) → (nat_le least m && nat_le m most) ≡ t → number_verdict (if t then takes m else faults wrong_number) ≡ takes n → (nat_le least n && nat_le n most) ≡ true
    by true f g = let i : m ≡ n = cc in subst (λ x. (nat_le least x && nat_le x most) ≡ true) i f
    by false f g = absurd (let no : ⊥ = cc in no)

digits_taken : (least most : ℕ) (s : Symbol) (n : ℕ) → digits_within least most s ≡ takes n → (nat_le least n && nat_le n most) ≡ true
digits_taken least most s n e = by (same_class k.WholeNumber (class s)) e
  where
    by : (t : Bool) → number_verdict (if t then whole_within least most (whole_of (number_in s.token)) else refuses) ≡ takes n → (nat_le least n && nat_le n most) ≡ true
    by true g = within_taken least most (whole_of (number_in s.token)) n g
    by false g = absurd (let no : ⊥ = cc in no)

simple_fits : (c : Class) (t : CastTarget) → simple_type c ≡ takes t → FitTarget t
simple_fits k.BoolType t x = let i : target.Bool ≡ t = cc in subst FitTarget i refl
simple_fits k.BoolTypeCalled t x = let i : target.Bool ≡ t = cc in subst FitTarget i refl
simple_fits k.IntType t x = let i : target.Int ≡ t = cc in subst FitTarget i refl
simple_fits k.IntTypeCalled t x = let i : target.Int ≡ t = cc in subst FitTarget i refl
simple_fits k.StringType t x = let i : target.Text ≡ t = cc in subst FitTarget i refl
simple_fits k.StringTypeCalled t x = let i : target.Text ≡ t = cc in subst FitTarget i refl
simple_fits k.TimestampType t x = let i : target.Timestamp ≡ t = cc in subst FitTarget i refl
simple_fits k.TimestampTypeCalled t x = let i : target.Timestamp ≡ t = cc in subst FitTarget i refl
simple_fits _ t x = absurd (let no : ⊥ = cc in no)

-- digits in their range, and a scale that is at most the digits
abbrev FitSizes : ℕ × Option ℕ → Type 0
FitSizes z = ((nat_le 1 z.0 && nat_le z.0 38) ≡ true) × IfThere (λ s. (nat_le 0 s && nat_le s z.0) ≡ true) z.1

zero_fits : (p : ℕ) → nat_le 0 p ≡ true
zero_fits p = le-leb 0 p (omega arith)

sizes_fit : (o : Option (ℕ × Option ℕ)) → IfThere FitSizes o → FitTarget (decimal_target o)
sizes_fit None f = refl
sizes_fit (Some (p, None)) f = and_both (nat_le 1 p) (nat_le p 38 && nat_le 0 p) (and_left (nat_le 1 p) (nat_le p 38) f.0) (and_both (nat_le p 38) (nat_le 0 p) (and_right (nat_le 1 p) (nat_le p 38) f.0) (zero_fits p))
sizes_fit (Some (p, Some s)) f = and_both (nat_le 1 p) (nat_le p 38 && nat_le s p) (and_left (nat_le 1 p) (nat_le p 38) f.0) (and_both (nat_le p 38) (nat_le s p) (and_right (nat_le 1 p) (nat_le p 38) f.0) (and_right (nat_le 0 s) (nat_le s p) f.1))

each-optional : {A : Type 0} (G : Rule Symbol Fault A) (P : A → Type 0) → Each P G → Each (IfThere P) (optional G)
each-optional G P g =
    each-either (made Some G) (nothing None) (IfThere P) (each-made Some G (IfThere P) g) (each-nothing Symbol Fault None (IfThere P) tt)

digits_fit : Each FitSizes decimal_digits
digits_fit =
    let scaled = λ (p : ℕ). preceded_by (token {K = Fault} (of k.Comma)) (terminal (scale p)) in
    let H = λ (p : ℕ). made (λ (s : Option ℕ). (p, s)) (optional (scaled p)) in
    each-sequence (terminal precision) H FitSizes (λ p ts w.
    let fits = each-terminal precision (λ n. (nat_le 1 n && nat_le n 38) ≡ true) (λ s n e. digits_taken 1 38 s n e) p ts w in
    let S = λ (s : ℕ). (nat_le 0 s && nat_le s p) ≡ true in
    each-made (λ (s : Option ℕ). (p, s)) (optional (scaled p)) FitSizes (λ o us v.
    (fits, each-optional (scaled p) S (each-sequence (token (of k.Comma)) (λ s. terminal (scale p)) S (λ s vs x. each-terminal (scale p) S (λ t n e. digits_taken 0 p t n e))) o us v)))

type_fits : (room : Bool) → Each FitTarget (type_of room)
type_fits room =
    let F = followed_by decimal_digits (token (of k.RightParenthesis)) in
    let O = begun (opening room k.LeftParenthesis) (λ s. F) in
    let D = made decimal_target (optional O) in
    let closed = each-sequence decimal_digits (λ z. made (λ s. z) (token (of k.RightParenthesis))) FitSizes
    (λ z ts w. each-made (λ s. z) (token (of k.RightParenthesis)) FitSizes (λ s us v. digits_fit z ts w)) in
    let opened = each-sequence (terminal (opening room k.LeftParenthesis)) (λ s. F) FitSizes (λ s ts w. closed) in
    let sized = each-made decimal_target (optional O) FitTarget (λ o ts w. sizes_fit o (each-optional O FitSizes opened o ts w)) in
    each-either (terminal (λ s. simple_type (class s))) (preceded_by (token (λ s. is_decimal (class s))) D) FitTarget
    (each-terminal (λ s. simple_type (class s)) FitTarget (λ s t x. simple_fits (class s) t x))
    (each-sequence (token (λ s. is_decimal (class s))) (λ s. D) FitTarget (λ s ts w. sized))

-- ---- parts of timestamps

moved_part : (c : Class) (p : DatePart) → verdict (told_by (date_part c)) ≡ takes p → can_be_moved p ≡ true
moved_part k.Year p x = let i : part.Year ≡ p = cc in subst (λ q. can_be_moved q ≡ true) i refl
moved_part k.YearCalled p x = let i : part.Year ≡ p = cc in subst (λ q. can_be_moved q ≡ true) i refl
moved_part k.Month p x = let i : part.Month ≡ p = cc in subst (λ q. can_be_moved q ≡ true) i refl
moved_part k.MonthCalled p x = let i : part.Month ≡ p = cc in subst (λ q. can_be_moved q ≡ true) i refl
moved_part k.Day p x = let i : part.Day ≡ p = cc in subst (λ q. can_be_moved q ≡ true) i refl
moved_part k.DayCalled p x = let i : part.Day ≡ p = cc in subst (λ q. can_be_moved q ≡ true) i refl
moved_part k.Hour p x = let i : part.Hour ≡ p = cc in subst (λ q. can_be_moved q ≡ true) i refl
moved_part k.HourCalled p x = let i : part.Hour ≡ p = cc in subst (λ q. can_be_moved q ≡ true) i refl
moved_part k.Minute p x = let i : part.Minute ≡ p = cc in subst (λ q. can_be_moved q ≡ true) i refl
moved_part k.MinuteCalled p x = let i : part.Minute ≡ p = cc in subst (λ q. can_be_moved q ≡ true) i refl
moved_part k.Second p x = let i : part.Second ≡ p = cc in subst (λ q. can_be_moved q ≡ true) i refl
moved_part k.SecondCalled p x = let i : part.Second ≡ p = cc in subst (λ q. can_be_moved q ≡ true) i refl
moved_part _ p x = absurd (let no : ⊥ = cc in no)

-- ---- patterns

still_some : {A B : Type 0} (f : A → B) (o : Option A) → is_some o ≡ true → is_some (option_map f o) ≡ true
still_some f (Some a) e = refl
still_some f None e = cc

parts_without : (cs : List ℕ) → is_some (parts_after None false cs) ≡ true
parts_without [] = refl
parts_without (c ∷ cs) = still_some (λ parts. part_of c ∷ parts) (parts_after None false cs) (parts_without cs)

-- a pattern without an escape fits
without_escape : (pattern : List ℕ) → fits_escape pattern None ≡ true
unfolding pattern_parts
without_escape pattern = parts_without (chars pattern)

abbrev escape_verdict : Verdict Fault (Option ℕ) → Verdict Fault (Option ℕ)
escape_verdict v = v

escape_fits : (pattern cs : List ℕ) (o : Option ℕ) → escape_by pattern cs ≡ takes o → fits_escape pattern o ≡ true
escape_fits pattern [] o e = absurd (let no : ⊥ = cc in no)
escape_fits pattern (c ∷ d ∷ cs) o e = absurd (let no : ⊥ = cc in no)
escape_fits pattern (c ∷ []) o e = by (is_some (pattern_parts (Some c) (chars pattern))) refl e
  where
    by : (t : Bool) → is_some (pattern_parts (Some c) (chars pattern)) ≡ t → escape_verdict (if t then takes (Some c) else faults bad_escape) ≡ takes o → fits_escape pattern o ≡ true
    by true f g = let i : Some c ≡ o = cc in subst (λ x. fits_escape pattern x ≡ true) i f
    by false f g = absurd (let no : ⊥ = cc in no)

escape_taken : (pattern : List ℕ) (s : Symbol) (o : Option ℕ) → escape pattern s ≡ takes o → fits_escape pattern o ≡ true
escape_taken pattern s o e = by (same_class k.Text (class s)) e
  where
    by : (t : Bool) → escape_verdict (if t then escape_by pattern (chars (text_in s.token)) else refuses) ≡ takes o → fits_escape pattern o ≡ true
    by true g = escape_fits pattern (chars (text_in s.token)) o g
    by false g = absurd (let no : ⊥ = cc in no)

-- the height of the expressions of each depth: eight forms stand in one another between two brackets
abbrev pub height : ℕ → ℕ
height zero = 8
height (suc depth) = suc (suc (suc (suc (suc (suc (suc (suc (height depth))))))))

-- ---- nodes, where F is closed
module _ (F : ℕ → Expr → Type 0) (z : Closed F) where
  -- F of what a tail holds
  abbrev OfTail : ℕ → Tail → Type 0
  OfTail h (comparing op b) = F h b
  OfTail h (lying t low high) = F h low × F h high
  OfTail h (among t xs) = All (F h) xs
  OfTail h (liking t pattern esc) = fits_escape pattern esc ≡ true
  OfTail h (being_null t) = Unit {0}
  OfTail h (being_missing t) = Unit {0}

  abbrev OfSumPart : ℕ → SumPart → Type 0
  OfSumPart h p = F h (out-SumPart p).member

  abbrev OfProdPart : ℕ → ProdPart → Type 0
  OfProdPart h p = F h (out-ProdPart p).member

  abbrev OfArm : ℕ → Arm → Type 0
  OfArm h a = F h (out-Arm a).when × F h (out-Arm a).then

  of_pred_node : (h : ℕ) (a : Expr) (o : Option Tail) → F h a → IfThere (OfTail h) o → F (suc h) (pred_node a o)
  of_pred_node h a None f g = z.more h a f
  of_pred_node h a (Some (comparing op b)) f g = z.of_compare h op a b f g
  of_pred_node h a (Some (lying t low high)) f g = z.of_between h t a low high f g.0 g.1
  of_pred_node h a (Some (among t xs)) f g = z.of_among h t a xs f g
  of_pred_node h a (Some (liking t pattern esc)) f g = z.of_like h t a pattern esc f g
  of_pred_node h a (Some (being_null t)) f g = z.of_is_null h t a f
  of_pred_node h a (Some (being_missing t)) f g = z.of_is_missing h t a f

  of_or_node : (h : ℕ) (a : Expr) (xs : List Expr) → F h a → All (F h) xs → F (suc h) (or_node a xs)
  of_or_node h a [] f g = z.more h a f
  of_or_node h a (b ∷ xs) f g = z.of_or h (a ∷ b ∷ xs) (f, g)

  of_and_node : (h : ℕ) (a : Expr) (xs : List Expr) → F h a → All (F h) xs → F (suc h) (and_node a xs)
  of_and_node h a [] f g = z.more h a f
  of_and_node h a (b ∷ xs) f g = z.of_and h (a ∷ b ∷ xs) (f, g)

  of_sum_node : (h : ℕ) (a : Expr) (xs : List SumPart) → F h a → All (OfSumPart h) xs → F (suc h) (sum_node a xs)
  of_sum_node h a [] f g = z.more h a f
  of_sum_node h a (b ∷ xs) f g = z.of_sum h a (b ∷ xs) f g

  of_prod_node : (h : ℕ) (a : Expr) (xs : List ProdPart) → F h a → All (OfProdPart h) xs → F (suc h) (prod_node a xs)
  of_prod_node h a [] f g = z.more h a f
  of_prod_node h a (b ∷ xs) f g = z.of_prod h a (b ∷ xs) f g

  of_not_node : (h : ℕ) (t : Bool) (a : Expr) → F h a → F (suc h) (not_node t a)
  of_not_node h true a f = z.of_not h a f
  of_not_node h false a f = z.more h a f

  of_unary_node : (h : ℕ) (t : Bool) (a : Expr) → F h a → F (suc h) (unary_node t a)
  of_unary_node h true a f = z.of_minus h a f
  of_unary_node h false a f = z.more h a f

  of_what : (h : ℕ) (t : Bool) (c : Class) (x : Tail) → verdict (told_by (is_what t c)) ≡ takes x → OfTail h x
  of_what h t k.Null x e = let i : being_null t ≡ x = cc in subst (OfTail h) i tt
  of_what h t k.Missing x e = let i : being_missing t ≡ x = cc in subst (OfTail h) i tt
  of_what h t _ x e = absurd (let no : ⊥ = cc in no)

  -- ---- expressions, where those between brackets have this height
  module _ (room : Room) (inner : Counting Expr) (h : ℕ) (i : Always (F h) inner) where
    in_call : {A : Type 0} (c : Class) (arguments : Counting A) (P : A → Type 0) → Always P arguments → Always P (after (one_more too_many (word c)) (λ s. enclosed room.here arguments))
    in_call c arguments P g = always-after (one_more too_many (word c)) (λ s. enclosed room.here arguments) P (λ s. always-enclosed room.here arguments P g)

    behind : (test : Symbol → Bool) → Always (F h) (past test inner)
    behind test = always-past test inner (F h) i

    fits_cast : Always (F (suc h)) (cast room inner)
    fits_cast =
        let T = plain {S = ℕ} (type_of room.deeper) in
        let B = both inner (past (of k.As) T) in
        in_call k.Cast (given (λ p. e.Cast p.0 p.1) B) (F (suc h))
        (always-given (λ p. e.Cast p.0 p.1) B (λ p. F h p.0 × FitTarget p.1) (F (suc h)) (λ p x. z.of_cast h p.0 p.1 x.0 x.1)
        (always-both inner (past (of k.As) T) (F h) FitTarget i (always-past (of k.As) T FitTarget (always-plain ℕ (type_of room.deeper) FitTarget (type_fits room.deeper)))))

    fits_group : Always (F (suc h)) (group room inner)
    fits_group =
        let B = before inner (of k.RightParenthesis) in
        always-after (one_more too_many (opening room.here k.LeftParenthesis)) (λ s. B) (F (suc h)) (λ s. always-so B (F h) (F (suc h)) (z.more h) (always-before inner (of k.RightParenthesis) (F h) i))

    fits_arm : Always (OfArm h) (arm room inner)
    fits_arm =
        let B = both inner (past (of k.Then) inner) in
        let f = λ (p : Expr × Expr). roll-Arm (record { when = p.0; then = p.1 }) in
        always-past (of k.When) (given f B) (OfArm h)
        (always-given f B (λ p. F h p.0 × F h p.1) (OfArm h) (λ p x. x) (always-both inner (past (of k.Then) inner) (F h) (F h) i (behind (of k.Then))))

    fits_case : Always (F (suc h)) (case room inner)
    fits_case =
        let arms = chain (λ a rest. a ∷ rest) (arm room inner) (arm room inner) in
        let otherwise = before (maybe (past (of k.Else) inner)) (of k.End) in
        let B = both (maybe inner) (both arms otherwise) in
        let f = λ (p : Option Expr × (List Arm × Option Expr)). e.Case p.0 p.1.0 p.1.1 in
        let rest = always-before (maybe (past (of k.Else) inner)) (of k.End) (IfThere (F h)) (always-maybe (past (of k.Else) inner) (F h) (behind (of k.Else))) in
        let body =
        always-given f B (λ p. IfThere (F h) p.0 × (All (OfArm h) p.1.0 × IfThere (F h) p.1.1)) (F (suc h)) (λ p x. z.of_case h p.0 p.1.0 p.1.1 x.0 x.1.0 x.1.1)
        (always-both (maybe inner) (both arms otherwise) (IfThere (F h)) (λ q. All (OfArm h) q.0 × IfThere (F h) q.1) (always-maybe inner (F h) i)
        (always-both arms otherwise (All (OfArm h)) (IfThere (F h)) (always-listed (arm room inner) (arm room inner) (OfArm h) fits_arm fits_arm) rest)) in
        always-after (one_more too_many (opening room.here k.Case)) (λ s. case_rest room inner) (F (suc h)) (λ s. body)

    fits_coalesce : Always (F (suc h)) (coalesce room inner)
    fits_coalesce =
        in_call k.CoalesceCalled (given e.Coalesce (listed inner)) (F (suc h))
        (always-given e.Coalesce (listed inner) (All (F h)) (F (suc h)) (z.of_coalesce h) (always-listed inner (past (of k.Comma) inner) (F h) i (behind (of k.Comma))))

    fits_nullif : Always (F (suc h)) (nullif room inner)
    fits_nullif =
        let B = both inner (past (of k.Comma) inner) in
        in_call k.NullifCalled (given (λ p. e.NullIf p.0 p.1) B) (F (suc h))
        (always-given (λ p. e.NullIf p.0 p.1) B (λ p. F h p.0 × F h p.1) (F (suc h)) (λ p x. z.of_nullif h p.0 p.1 x.0 x.1) (always-both inner (past (of k.Comma) inner) (F h) (F h) i (behind (of k.Comma))))

    -- a function of one expression
    fits_one : (c : Class) (node : Expr → Expr) → ((a : Expr) → F h a → F (suc h) (node a)) → Always (F (suc h)) (call room inner c (given node inner))
    fits_one c node f = in_call c (given node inner) (F (suc h)) (always-given node inner (F h) (F (suc h)) f i)

    fits_cut : (from to : Symbol → Bool) → Always (F (suc h)) (call room inner k.SubstringCalled (given (λ p. e.Substring p.0 p.1.0 p.1.1) (both inner (past from (both inner (maybe (past to inner)))))))
    fits_cut from to =
        let R = both inner (maybe (past to inner)) in
        let B = both inner (past from R) in
        let f = λ (p : Expr × (Expr × Option Expr)). e.Substring p.0 p.1.0 p.1.1 in
        let rest = always-both inner (maybe (past to inner)) (F h) (IfThere (F h)) i (always-maybe (past to inner) (F h) (behind to)) in
        in_call k.SubstringCalled (given f B) (F (suc h))
        (always-given f B (λ p. F h p.0 × (F h p.1.0 × IfThere (F h) p.1.1)) (F (suc h)) (λ p x. z.of_substring h p.0 p.1.0 p.1.1 x.0 x.1.0 x.1.1)
        (always-both inner (past from R) (F h) (λ q. F h q.0 × IfThere (F h) q.1) i (always-past from R (λ q. F h q.0 × IfThere (F h) q.1) rest)))

    fits_substring : Always (F (suc h)) (substring room inner)
    fits_substring =
        let f = λ (p : Expr × (Expr × Option Expr)). e.Substring p.0 p.1.0 p.1.1 in
        always-either (call room inner k.SubstringCalled (given f (both inner (past (of k.Comma) (both inner (maybe (past (of k.Comma) inner)))))))
        (call room inner k.SubstringCalled (given f (both inner (past (of k.From) (both inner (maybe (past (λ s. is_for (class s)) inner))))))) (F (suc h))
        (fits_cut (of k.Comma) (of k.Comma)) (fits_cut (of k.From) (λ s. is_for (class s)))

    fits_trim_set : Always (F (suc h)) (trim_set room inner)
    fits_trim_set =
        let G = plain {S = ℕ} (terminal (one_told trim_side)) in
        let S = λ (s : Option Side) (set : Option Expr). past (of k.From) (given (λ a. e.Trim (side_or_both s) set a) inner) in
        always-perhaps G (λ s. perhaps inner (S s)) Any (F (suc h)) (always-any G) (λ s t.
        always-perhaps inner (S s) (F h) (F (suc h)) i (λ set f.
        always-past (of k.From) (given (λ a. e.Trim (side_or_both s) set a) inner) (F (suc h))
        (always-given (λ a. e.Trim (side_or_both s) set a) inner (F h) (F (suc h)) (λ a x. z.of_trim h (side_or_both s) set a f x) i)))

    fits_trim : Always (F (suc h)) (trim room inner)
    fits_trim =
        in_call k.TrimCalled (λ n. either (trim_set room inner n) (given (λ a. e.Trim side.Both None a) inner n)) (F (suc h))
        (always-either (trim_set room inner) (given (λ a. e.Trim side.Both None a) inner) (F (suc h)) fits_trim_set
        (always-given (λ a. e.Trim side.Both None a) inner (F h) (F (suc h)) (λ a x. z.of_trim h side.Both None a tt x) i))

    fits_extract : Always (F (suc h)) (extract room inner)
    fits_extract =
        let G = plain {S = ℕ} (terminal (one_told stamp_part)) in
        let B = both G (past (of k.From) inner) in
        in_call k.ExtractCalled (given (λ p. e.Extract p.0 p.1) B) (F (suc h))
        (always-given (λ p. e.Extract p.0 p.1) B (λ p. Any p.0 × F h p.1) (F (suc h)) (λ p x. z.of_extract h p.0 p.1 x.1) (always-both G (past (of k.From) inner) Any (F h) (always-any G) (behind (of k.From))))

    fits_date_add : Always (F (suc h)) (date_add room inner)
    fits_date_add =
        let M = λ (p : DatePart). can_be_moved p ≡ true in
        let G = plain {S = ℕ} (terminal (one_told date_part)) in
        let R = both inner (past (of k.Comma) inner) in
        let B = both G (past (of k.Comma) R) in
        let f = λ (p : DatePart × (Expr × Expr)). e.DateAdd p.0 p.1.0 p.1.1 in
        in_call k.DateAddCalled (given f B) (F (suc h))
        (always-given f B (λ p. M p.0 × (F h p.1.0 × F h p.1.1)) (F (suc h)) (λ p x. z.of_date_add h p.0 p.1.0 p.1.1 x.1.0 x.1.1 x.0)
        (always-both G (past (of k.Comma) R) M (λ q. F h q.0 × F h q.1) (always-terminal ℕ (one_told date_part) M (λ s p x. moved_part (class s) p x))
        (always-past (of k.Comma) R (λ q. F h q.0 × F h q.1) (always-both inner (past (of k.Comma) inner) (F h) (F h) i (behind (of k.Comma))))))

    fits_path : Always (F (suc h)) (primary_of room inner path_form)
    fits_path =
        let one = one_more too_many path_name in
        always-chain (λ first rest. e.Path (step.Member first ∷ rest)) one path_step Any Any (F (suc h)) (λ a bs x xs. z.of_path h (step.Member a ∷ bs)) (always-any one) (always-any path_step)

    fits_form : (form : Form) → Always (F (suc h)) (primary_of room inner form)
    fits_form literal_text = always-literal (same_class k.Text) (λ s. e.Text (text_in s.token)) (F (suc h)) (λ s. z.of_text h (text_in s.token))
    fits_form literal_number = always-literal is_number (λ s. e.Number (number_in s.token)) (F (suc h)) (λ s. z.of_number h (number_in s.token))
    fits_form truth = always-literal (same_class k.True) (λ s. e.Bool true) (F (suc h)) (λ s. z.of_bool h true)
    fits_form untruth = always-literal (same_class k.False) (λ s. e.Bool false) (F (suc h)) (λ s. z.of_bool h false)
    fits_form null_form = always-literal (same_class k.Null) (λ s. e.Null) (F (suc h)) (λ s. z.of_null h)
    fits_form missing_form = always-literal (same_class k.Missing) (λ s. e.Missing) (F (suc h)) (λ s. z.of_missing h)
    fits_form path_form = fits_path
    fits_form unknown_call = always-fault ℕ unknown_function (λ s. is_unknown_call (class s)) (F (suc h))
    fits_form exponent_form = always-fault ℕ unsupported_type (of k.ExponentNumber) (F (suc h))
    fits_form cast_form = fits_cast
    fits_form group_form = fits_group
    fits_form case_form = fits_case
    fits_form coalesce_form = fits_coalesce
    fits_form nullif_form = fits_nullif
    fits_form char_length_form = fits_one k.CharLengthCalled e.CharLength (z.of_char_length h)
    fits_form lower_form = fits_one k.LowerCalled e.Lower (z.of_lower h)
    fits_form upper_form = fits_one k.UpperCalled e.Upper (z.of_upper h)
    fits_form substring_form = fits_substring
    fits_form trim_form = fits_trim
    fits_form extract_form = fits_extract
    fits_form date_add_form = fits_date_add
    fits_form to_timestamp_form = fits_one k.ToTimestampCalled e.ToTimestamp (z.of_to_timestamp h)

    fits_primary : Always (F (suc h)) (primary room inner)
    unfolding primary
    fits_primary n p ts w = fits_form w.0 n p ts w.1

    fits_unary : Always (F (suc (suc h))) (unary room inner)
    unfolding unary
    fits_unary =
        let B = both (flag k.Minus) (primary room inner) in
        always-given (λ p. unary_node p.0 p.1) B (λ p. Any p.0 × F (suc h) p.1) (F (suc (suc h))) (λ p x. of_unary_node (suc h) p.0 p.1 x.1) (always-both (flag k.Minus) (primary room inner) Any (F (suc h)) (always-any (flag k.Minus)) fits_primary)

    fits_prod_part : Always (OfProdPart (suc (suc h))) (prod_part room inner)
    fits_prod_part =
        let G = plain {S = ℕ} (terminal (one_told prod_op)) in
        let f = λ (p : ProdOp × Expr). roll-ProdPart (record { op = p.0; member = p.1 }) in
        always-given f (both G (unary room inner)) (λ p. Any p.0 × F (suc (suc h)) p.1) (OfProdPart (suc (suc h))) (λ p x. x.1) (always-both G (unary room inner) Any (F (suc (suc h))) (always-any G) fits_unary)

    fits_prod : Always (F (suc (suc (suc h)))) (prod room inner)
    unfolding prod
    fits_prod = always-chain prod_node (unary room inner) (prod_part room inner) (F (suc (suc h))) (OfProdPart (suc (suc h))) (F (suc (suc (suc h)))) (of_prod_node (suc (suc h))) fits_unary fits_prod_part

    fits_sum_part : Always (OfSumPart (suc (suc (suc h)))) (sum_part room inner)
    fits_sum_part =
        let G = plain {S = ℕ} (terminal (one_told sum_op)) in
        let f = λ (p : SumOp × Expr). roll-SumPart (record { op = p.0; member = p.1 }) in
        always-given f (both G (prod room inner)) (λ p. Any p.0 × F (suc (suc (suc h))) p.1) (OfSumPart (suc (suc (suc h)))) (λ p x. x.1) (always-both G (prod room inner) Any (F (suc (suc (suc h)))) (always-any G) fits_prod)

    fits_sum : Always (F (suc (suc (suc (suc h))))) (sum room inner)
    unfolding sum
    fits_sum = always-chain sum_node (prod room inner) (sum_part room inner) (F (suc (suc (suc h)))) (OfSumPart (suc (suc (suc h)))) (F (suc (suc (suc (suc h))))) (of_sum_node (suc (suc (suc h)))) fits_prod fits_sum_part

    fits_comparison : Always (OfTail (suc (suc (suc (suc h))))) (comparison room inner)
    fits_comparison =
        let G = plain {S = ℕ} (terminal (one_told compare_op)) in
        always-given (λ p. comparing p.0 p.1) (both G (sum room inner)) (λ p. Any p.0 × F (suc (suc (suc (suc h)))) p.1) (OfTail (suc (suc (suc (suc h))))) (λ p x. x.1) (always-both G (sum room inner) Any (F (suc (suc (suc (suc h))))) (always-any G) fits_sum)

    fits_between : (t : Bool) → Always (OfTail (suc (suc (suc (suc h))))) (between room inner t)
    fits_between t =
        let high = past (of k.And) (sum room inner) in
        let B = both (sum room inner) high in
        always-past (of k.Between) (given (λ p. lying t p.0 p.1) B) (OfTail (suc (suc (suc (suc h)))))
        (always-given (λ p. lying t p.0 p.1) B (λ p. F (suc (suc (suc (suc h)))) p.0 × F (suc (suc (suc (suc h)))) p.1) (OfTail (suc (suc (suc (suc h))))) (λ p x. x) (always-both (sum room inner) high (F (suc (suc (suc (suc h))))) (F (suc (suc (suc (suc h))))) fits_sum (always-past (of k.And) (sum room inner) (F (suc (suc (suc (suc h))))) fits_sum)))

    fits_in : (t : Bool) → Always (OfTail (suc (suc (suc (suc h))))) (in_members room inner t)
    fits_in t =
        let over = λ (s : Symbol). over_class room.deeper (class s) in
        let L = list_of 1000 over (of k.Comma) inner in
        always-past (of k.In) (given (among t) (members room inner)) (OfTail (suc (suc (suc (suc h)))))
        (always-given (among t) (members room inner) (All (F (suc (suc (suc (suc h)))))) (OfTail (suc (suc (suc (suc h))))) (λ xs f. f) (always-enclosed room.here L (All (F (suc (suc (suc (suc h)))))) (always-list_of 1000 over (of k.Comma) inner (F (suc (suc (suc (suc h))))) (always-so inner (F h) (F (suc (suc (suc (suc h))))) (λ a f. z.more (suc (suc (suc h))) a (z.more (suc (suc h)) a (z.more (suc h) a (z.more h a f)))) i))))

    fits_like : (t : Bool) → Always (OfTail (suc (suc (suc (suc h))))) (like room inner t)
    fits_like t =
        let E = λ (pattern : List ℕ). preceded_by (token {K = Fault} (of k.Escape)) (terminal (escape pattern)) in
        let O = λ (pattern : List ℕ). either (E pattern) (nothing None) in
        let H = λ (pattern : List ℕ). made (λ (o : Option ℕ). liking t pattern o) (O pattern) in
        let R = begun text H in
        always-past (of k.Like) (plain R) (OfTail (suc (suc (suc (suc h)))))
        (always-plain ℕ R (OfTail (suc (suc (suc (suc h))))) (each-sequence (terminal text) H (OfTail (suc (suc (suc (suc h))))) (λ pattern ts w.
        let P = λ (o : Option ℕ). fits_escape pattern o ≡ true in
        each-made (λ (o : Option ℕ). liking t pattern o) (O pattern) (OfTail (suc (suc (suc (suc h)))))
        (each-either (E pattern) (nothing None) P
        (each-sequence (token (of k.Escape)) (λ s. terminal (escape pattern)) P (λ s us v. each-terminal (escape pattern) P (escape_taken pattern)))
        (each-nothing Symbol Fault None P (without_escape pattern))))))

    fits_is : Always (OfTail (suc (suc (suc (suc h))))) (is_tail room inner)
    fits_is =
        let G = plain {S = ℕ} (token {K = Fault} (of k.Not)) in
        let H = λ (o : Option Symbol). plain {S = ℕ} (terminal (one_told (is_what (is_some o)))) in
        always-past (of k.Is) (perhaps G H) (OfTail (suc (suc (suc (suc h)))))
        (always-perhaps G H Any (OfTail (suc (suc (suc (suc h))))) (always-any G) (λ o t. always-terminal ℕ (one_told (is_what (is_some o))) (OfTail (suc (suc (suc (suc h))))) (λ s x w. of_what (suc (suc (suc (suc h)))) (is_some o) (class s) x w)))

    fits_negatable : (G : Bool → Counting Tail) → ((t : Bool) → Always (OfTail (suc (suc (suc (suc h))))) (G t)) → Always (OfTail (suc (suc (suc (suc h))))) (negatable room inner G)
    fits_negatable G g =
        let N = plain {S = ℕ} (token {K = Fault} (of k.Not)) in
        always-perhaps N (λ o. G (is_some o)) Any (OfTail (suc (suc (suc (suc h))))) (always-any N) (λ o t. g (is_some o))

    fits_tail : Always (OfTail (suc (suc (suc (suc h))))) (tail room inner)
    unfolding tail
    fits_tail n p ts (true, w) = fits_comparison n p ts w
    fits_tail n p ts (false, (true, (true, w))) = fits_negatable (between room inner) fits_between n p ts w
    fits_tail n p ts (false, (true, (false, (true, w)))) = fits_negatable (in_members room inner) fits_in n p ts w
    fits_tail n p ts (false, (true, (false, (false, w)))) = fits_negatable (like room inner) fits_like n p ts w
    fits_tail n p ts (false, (false, w)) = fits_is n p ts w

    fits_pred : Always (F (suc (suc (suc (suc (suc h)))))) (pred room inner)
    unfolding pred
    fits_pred =
        let B = both (sum room inner) (maybe (tail room inner)) in
        always-given (λ p. pred_node p.0 p.1) B (λ p. F (suc (suc (suc (suc h)))) p.0 × IfThere (OfTail (suc (suc (suc (suc h))))) p.1) (F (suc (suc (suc (suc (suc h)))))) (λ p x. of_pred_node (suc (suc (suc (suc h)))) p.0 p.1 x.0 x.1) (always-both (sum room inner) (maybe (tail room inner)) (F (suc (suc (suc (suc h))))) (IfThere (OfTail (suc (suc (suc (suc h)))))) fits_sum (always-maybe (tail room inner) (OfTail (suc (suc (suc (suc h))))) fits_tail))

    fits_negation : Always (F (suc (suc (suc (suc (suc (suc h))))))) (negation room inner)
    unfolding negation
    fits_negation =
        let B = both (flag k.Not) (pred room inner) in
        always-given (λ p. not_node p.0 p.1) B (λ p. Any p.0 × F (suc (suc (suc (suc (suc h))))) p.1) (F (suc (suc (suc (suc (suc (suc h))))))) (λ p x. of_not_node (suc (suc (suc (suc (suc h))))) p.0 p.1 x.1) (always-both (flag k.Not) (pred room inner) Any (F (suc (suc (suc (suc (suc h)))))) (always-any (flag k.Not)) fits_pred)

    fits_conjunction : Always (F (suc (suc (suc (suc (suc (suc (suc h)))))))) (conjunction room inner)
    unfolding conjunction
    fits_conjunction = always-chain and_node (negation room inner) (past (of k.And) (negation room inner)) (F (suc (suc (suc (suc (suc (suc h))))))) (F (suc (suc (suc (suc (suc (suc h))))))) (F (suc (suc (suc (suc (suc (suc (suc h)))))))) (of_and_node (suc (suc (suc (suc (suc (suc h))))))) fits_negation (always-past (of k.And) (negation room inner) (F (suc (suc (suc (suc (suc (suc h))))))) fits_negation)

    fits_disjunction : Always (F (suc (suc (suc (suc (suc (suc (suc (suc h))))))))) (disjunction room inner)
    unfolding disjunction
    fits_disjunction = always-chain or_node (conjunction room inner) (past (of k.Or) (conjunction room inner)) (F (suc (suc (suc (suc (suc (suc (suc h)))))))) (F (suc (suc (suc (suc (suc (suc (suc h)))))))) (F (suc (suc (suc (suc (suc (suc (suc (suc h))))))))) (of_or_node (suc (suc (suc (suc (suc (suc (suc h)))))))) fits_conjunction (always-past (of k.Or) (conjunction room inner) (F (suc (suc (suc (suc (suc (suc (suc h)))))))) fits_conjunction)

  pub fits_expression : (depth : ℕ) → Always (F (height depth)) (expression depth)
  unfolding expression
  fits_expression zero =
      fits_disjunction (room_of 0) (plain (fault too_deep (λ s. begins_expression (class s)))) 0 (always-fault ℕ too_deep (λ s. begins_expression (class s)) (F 0))
  fits_expression (suc depth) = fits_disjunction (room_of (suc depth)) (expression depth) (height depth) (fits_expression depth)
