-- MIN and MAX over values of one kind, whose order is total: what two parts keep tells what is kept of both.
use Rattle.std.proofs.Common.{◌≡◌, ℕ, ◌*◌, ◌^◌, ℤ, pos, ◌*ℤ◌, Bool, true, false, cond, ◌||◌, ◌&&◌, List, [], ◌∷◌, ◌++◌, append-nil, ◌⊎◌, inl, inr, refl, sym, ◌∙◌, ap, subst, arith}
use Rattle.std.specs.Prelude.{Result, Ok, Err}
use Rattle.std.specs.List.{list_all}
use Rattle.std.specs.Ordering.{ordering_reverse, is_lt, int_cmp, bool_cmp, nat_cmp}
use Rattle.std.specs.Cmp.{IsTotalOrder, bool_cmp_total}
use Rattle.std.specs.Cmp.Lexicographic.{slice_cmp}
use Rattle.std.specs.declared.cmp.Ordering.{Ordering}
use Rattle.std.specs.declared.cmp.Ordering.TheVariants as ordering
use Rattle.std.proofs.lemmas.Cmp.{int_cmp_total, nat_list_cmp_total}
use Rattle.sql_decimal.specs.Decimal.{Decimal, compared}
use Rattle.sql_decimal.specs.declared.number.Num.{Num}
use Rattle.sql_decimal.specs.declared.number.Num.TheVariants as number
use Rattle.sql_timestamp.specs.Instants.{Timestamp}
use Rattle.sql_eval.specs.Operations.{number_value}
use Rattle.sql_decimal.proofs.Scaling.{scale_scale, scale_cmp}
use Rattle.sql_decimal.proofs.PowersOfTen.{ten_pow_pos}
use Rattle.sql_value.specs.declared.value.Value.{Value}
use Rattle.sql_value.specs.declared.value.Value.TheVariants.{Missing, Null, Bool as Truth, Int, Dec, Text, Stamp, Node, Bad}
use Rattle.sql_value.specs.Compared.{known, order_of}
use Rattle.sql_value.specs.Numbers.{whole}
use Rattle.sql_totals.specs.declared.fault.TotalFault.{TotalFault}
use Rattle.sql_totals.specs.declared.fault.TotalFault.TheVariants as refused
use Rattle.sql_totals.specs.declared.keeping.Extreme.{Extreme}
use Rattle.sql_totals.specs.declared.keeping.Extreme.TheVariants.{Least, Greatest}
use Rattle.sql_totals.specs.Keeping.{precedes, replaces, kept_by, kept_of_two, kept_with, fits_room}
use Rattle.sql_totals.specs.Stepped.{is_there}
use Rattle.sql_totals.specs.Overall.{and_on, kept_on}
use Rattle.sql_totals.specs.Extremes.{is_number, is_text, is_timestamp, is_truth, are_of_one_kind, IsAmong, NonePrecedes, IsExtreme}
use Rattle.sql_totals.specs.Merging.{merged_kept}

-- ---- a kind, and its order

record IsKind (p : Value → Bool) (lt : Value → Value → Bool) : Type 0 where
  there : (v : Value) → p v ≡ true → is_there v ≡ true
  less : (v w : Value) → p v ≡ true → p w ≡ true → precedes Least (order_of v w) ≡ Ok (lt v w)
  more : (v w : Value) → p v ≡ true → p w ≡ true → precedes Greatest (order_of v w) ≡ Ok (lt w v)
  trans : (x y z : Value) → lt x y ≡ true → lt y z ≡ true → lt x z ≡ true
  between : (x y z : Value) → lt y z ≡ false → lt x y ≡ false → lt x z ≡ false
  irrefl : (x : Value) → lt x x ≡ false

least_known : (r : Ordering) → precedes Least (known r) ≡ Ok (is_lt r)
least_known ordering.Less = refl
least_known ordering.Equal = refl
least_known ordering.Greater = refl

greatest_known : (r : Ordering) → precedes Greatest (known (ordering_reverse r)) ≡ Ok (is_lt r)
greatest_known ordering.Less = refl
greatest_known ordering.Equal = refl
greatest_known ordering.Greater = refl

lt_told : (r : Ordering) → is_lt r ≡ true → r ≡ ordering.Less
lt_told ordering.Less e = refl
lt_told ordering.Equal e = absurd (cc)
lt_told ordering.Greater e = absurd (cc)

lt_trans : {K : Type 0} (R : K → K → Ordering) → IsTotalOrder R → (x y z : K) → is_lt (R x y) ≡ true → is_lt (R y z) ≡ true
    → is_lt (R x z) ≡ true
lt_trans R total x y z e f = ap is_lt (total.trans x y z (lt_told (R x y) e) (lt_told (R y z) f))

lt_between : {K : Type 0} (R : K → K → Ordering) → IsTotalOrder R → (x y z : K) → is_lt (R y z) ≡ false → is_lt (R x y) ≡ false
    → is_lt (R x z) ≡ false
lt_between R total x y z e f = by (is_lt (R x z)) refl
  where
    at : (r : Ordering) → R x y ≡ r → R x z ≡ ordering.Less → is_lt (R x z) ≡ false
    at ordering.Less is h = let yes : is_lt (R x y) ≡ true = ap is_lt is in absurd (cc)
    at ordering.Equal is h = let yes : is_lt (R y z) ≡ true = ap is_lt (sym (total.congr x y z is) ∙ h) in absurd (cc)
    at ordering.Greater is h =
        let back : R y x ≡ ordering.Less = total.antisymm y x ∙ ap ordering_reverse is in
        let yes : is_lt (R y z) ≡ true = ap is_lt (total.trans y x z back h) in
        absurd (cc)

    by : (b : Bool) → is_lt (R x z) ≡ b → is_lt (R x z) ≡ false
    by false h = h
    by true h = at (R x y) refl (lt_told (R x z) h)

lt_irrefl : {K : Type 0} (R : K → K → Ordering) → IsTotalOrder R → (x : K) → is_lt (R x x) ≡ false
lt_irrefl R total x = by (R x x) (total.antisymm x x)
  where
    by : (r : Ordering) → r ≡ ordering_reverse r → is_lt r ≡ false
    by ordering.Less e = absurd (cc)
    by ordering.Equal e = refl
    by ordering.Greater e = refl

kind_of : {K : Type 0} (R : K → K → Ordering) (key : Value → K) (p : Value → Bool) → IsTotalOrder R → ((v : Value) → p v ≡ true
    → is_there v ≡ true)
    → ((v w : Value) → p v ≡ true → p w ≡ true → order_of v w ≡ known (R (key v) (key w))) → IsKind p (λ v w. is_lt (R (key v) (key w)))
kind_of R key p total there tells =
    record {
      there = there;
      less = λ v w x y. ap (precedes Least) (tells v w x y) ∙ least_known (R (key v) (key w));
      more = λ v w x y. ap (precedes Greatest) (tells v w x y)
          ∙ ap (λ r. precedes Greatest (known r)) (total.antisymm (key v) (key w)) ∙ greatest_known (R (key w) (key v));
      trans = λ x y z. lt_trans R total (key x) (key y) (key z);
      between = λ x y z. lt_between R total (key x) (key y) (key z);
      irrefl = λ x. lt_irrefl R total (key x);
    }

-- ---- the four kinds

-- two fractions over the denominators of three
over_three : (a b : ℤ) (d e f : ℕ) → int_cmp (a *ℤ pos (10 ^ e)) (b *ℤ pos (10 ^ d)) ≡ int_cmp (a *ℤ pos (10 ^ e * 10 ^ f)) (b *ℤ pos
    (10 ^ d * 10 ^ f))
over_three a b d e f =
    scale_cmp (a *ℤ pos (10 ^ e)) (b *ℤ pos (10 ^ d)) (10 ^ f) (ten_pow_pos f)
    ∙ ap (λ x. int_cmp x ((b *ℤ pos (10 ^ d)) *ℤ pos (10 ^ f))) (scale_scale a (10 ^ e) (10 ^ f))
    ∙ ap (int_cmp (a *ℤ pos (10 ^ e * 10 ^ f))) (scale_scale b (10 ^ d) (10 ^ f))

flipped : (c : ℤ) (m n : ℕ) → c *ℤ pos (m * n) ≡ c *ℤ pos (n * m)
flipped c m n = let same : m * n ≡ n * m = omega arith in ap (λ k. c *ℤ pos k) same

-- each of three fractions over the denominators of all
abbrev over : Decimal → Decimal → Decimal → ℤ
over a b c = a.coefficient *ℤ pos (10 ^ b.scale * 10 ^ c.scale)

first_two : (a b c : Decimal)
    → compared a b ≡ int_cmp (over a b c) (over b a c)
unfolding compared
first_two a b c = over_three a.coefficient b.coefficient a.scale b.scale c.scale

last_two : (a b c : Decimal)
    → compared b c ≡ int_cmp (over b a c) (over c a b)
unfolding compared
last_two a b c =
    over_three b.coefficient c.coefficient b.scale c.scale a.scale
    ∙ ap (λ x. int_cmp x (c.coefficient *ℤ pos (10 ^ b.scale * 10 ^ a.scale))) (flipped b.coefficient (10 ^ c.scale) (10 ^ a.scale))
    ∙ ap (int_cmp (b.coefficient *ℤ pos (10 ^ a.scale * 10 ^ c.scale))) (flipped c.coefficient (10 ^ b.scale) (10 ^ a.scale))

outer_two : (a b c : Decimal)
    → compared a c ≡ int_cmp (over a b c) (over c a b)
unfolding compared
outer_two a b c =
    over_three a.coefficient c.coefficient a.scale c.scale b.scale
    ∙ ap (λ x. int_cmp x (c.coefficient *ℤ pos (10 ^ a.scale * 10 ^ b.scale))) (flipped a.coefficient (10 ^ c.scale) (10 ^ b.scale))

compared_back : (a b : Decimal) → compared a b ≡ ordering_reverse (compared b a)
unfolding compared
compared_back a b = int_cmp_total.antisymm (a.coefficient *ℤ pos (10 ^ b.scale)) (b.coefficient *ℤ pos (10 ^ a.scale))

fractions_total : IsTotalOrder compared
fractions_total =
    record {
      antisymm = compared_back;
      trans = λ a b c x y. outer_two a b c ∙ int_cmp_total.trans (over a b c) (over b a c) (over c a b) (sym (first_two a b c)
          ∙ x) (sym (last_two a b c) ∙ y);
      congr = λ a b c x. outer_two a b c ∙ int_cmp_total.congr (over a b c) (over b a c) (over c a b) (sym (first_two a b c) ∙ x)
          ∙ sym (last_two a b c);
    }

-- a value of a kind, by what it is made from
record Told {A : Type 0} (make : A → Value) (v : Value) : Type 0 where
  from : A
  is : v ≡ make from

kind_from : {A K : Type 0} (make : A → Value) (R : K → K → Ordering) (key : Value → K) (p : Value → Bool) → IsTotalOrder R
    → ((v : Value) → p v ≡ true → Told make v) → ((a : A) → is_there (make a) ≡ true)
    → ((a b : A) → order_of (make a) (make b) ≡ known (R (key (make a)) (key (make b)))) → IsKind p (λ v w. is_lt (R (key v) (key w)))
kind_from make R key p total told there orders =
    kind_of R key p total (λ v x. ap is_there (told v x).is ∙ there (told v x).from) (λ v w x y. by v w (told v x) (told w y))
  where
    by : (v w : Value) → Told make v → Told make w → order_of v w ≡ known (R (key v) (key w))
    by v w a b =
        ap (λ u. order_of u w) a.is ∙ ap (order_of (make a.from)) b.is ∙ orders a.from b.from
        ∙ sym (ap (λ u. known (R (key u) (key w))) a.is ∙ ap (λ u. known (R (key (make a.from)) (key u))) b.is)

number_told : (v : Value) → is_number v ≡ true → Told number_value v
number_told Missing e = absurd (cc)
number_told Null e = absurd (cc)
number_told (Truth b) e = absurd (cc)
number_told (Int n) e = record { from = number.Int n; is = refl }
number_told (Dec d) e = record { from = number.Dec d; is = refl }
number_told (Text t) e = absurd (cc)
number_told (Stamp s) e = absurd (cc)
number_told (Node bytes) e = absurd (cc)
number_told (Bad fault) e = absurd (cc)

number_there : (n : Num) → is_there (number_value n) ≡ true
number_there (number.Int n) = refl
number_there (number.Dec d) = refl

abbrev fraction_key : Value → Decimal
fraction_key (Int n) = whole n
fraction_key (Dec d) = d
fraction_key _ = whole (pos 0)

number_orders : (a b : Num) → order_of (number_value a) (number_value b) ≡ known (compared (fraction_key (number_value a))
    (fraction_key (number_value b)))
unfolding order_of
number_orders (number.Int a) (number.Int b) = refl
number_orders (number.Int a) (number.Dec b) = refl
number_orders (number.Dec a) (number.Int b) = refl
number_orders (number.Dec a) (number.Dec b) = refl

numbers_kind : IsKind is_number (λ v w. is_lt (compared (fraction_key v) (fraction_key w)))
numbers_kind = kind_from number_value compared fraction_key is_number fractions_total number_told number_there number_orders

text_told : (v : Value) → is_text v ≡ true → Told Text v
text_told Missing e = absurd (cc)
text_told Null e = absurd (cc)
text_told (Truth b) e = absurd (cc)
text_told (Int n) e = absurd (cc)
text_told (Dec d) e = absurd (cc)
text_told (Text t) e = record { from = t; is = refl }
text_told (Stamp s) e = absurd (cc)
text_told (Node bytes) e = absurd (cc)
text_told (Bad fault) e = absurd (cc)

abbrev text_key : Value → List ℕ
text_key (Text t) = t
text_key _ = []

text_orders : (a b : List ℕ) → order_of (Text a) (Text b) ≡ known ((slice_cmp nat_cmp) (text_key (Text a)) (text_key (Text b)))
unfolding order_of
text_orders a b = refl

texts_kind : IsKind is_text (λ v w. is_lt ((slice_cmp nat_cmp) (text_key v) (text_key w)))
texts_kind = kind_from Text (slice_cmp nat_cmp) text_key is_text nat_list_cmp_total text_told (λ a. refl) text_orders

truth_told : (v : Value) → is_truth v ≡ true → Told Truth v
truth_told Missing e = absurd (cc)
truth_told Null e = absurd (cc)
truth_told (Truth b) e = record { from = b; is = refl }
truth_told (Int n) e = absurd (cc)
truth_told (Dec d) e = absurd (cc)
truth_told (Text t) e = absurd (cc)
truth_told (Stamp s) e = absurd (cc)
truth_told (Node bytes) e = absurd (cc)
truth_told (Bad fault) e = absurd (cc)

abbrev truth_key : Value → Bool
truth_key (Truth b) = b
truth_key _ = false

truth_orders : (a b : Bool) → order_of (Truth a) (Truth b) ≡ known (bool_cmp (truth_key (Truth a)) (truth_key (Truth b)))
unfolding order_of
truth_orders a b = refl

truths_kind : IsKind is_truth (λ v w. is_lt (bool_cmp (truth_key v) (truth_key w)))
truths_kind = kind_from Truth bool_cmp truth_key is_truth bool_cmp_total truth_told (λ a. refl) truth_orders

moment_told : (v : Value) → is_timestamp v ≡ true → Told Stamp v
moment_told Missing e = absurd (cc)
moment_told Null e = absurd (cc)
moment_told (Truth b) e = absurd (cc)
moment_told (Int n) e = absurd (cc)
moment_told (Dec d) e = absurd (cc)
moment_told (Text t) e = absurd (cc)
moment_told (Stamp s) e = record { from = s; is = refl }
moment_told (Node bytes) e = absurd (cc)
moment_told (Bad fault) e = absurd (cc)

abbrev moment_key : Value → ℤ
moment_key (Stamp s) = s.instant
moment_key _ = pos 0

moment_orders : (a b : Timestamp) → order_of (Stamp a) (Stamp b) ≡ known (int_cmp (moment_key (Stamp a)) (moment_key (Stamp b)))
unfolding order_of
moment_orders a b = refl

moments_kind : IsKind is_timestamp (λ v w. is_lt (int_cmp (moment_key v) (moment_key w)))
moments_kind = kind_from Stamp int_cmp moment_key is_timestamp int_cmp_total moment_told (λ a. refl) moment_orders

-- ---- keeping one of two

-- whether v is kept in the place of k
abbrev before : (Value → Value → Bool) → Extreme → Value → Value → Bool
before lt Least v k = lt v k
before lt Greatest v k = lt k v

abbrev pick : (Value → Value → Bool) → Extreme → Value → Value → Value
pick lt e k v = cond (before lt e v k) v k

replaces_there : (e : Extreme) (k v : Value) → is_there k ≡ true → replaces e k v ≡ precedes e (order_of v k)
replaces_there e Missing v x = absurd (cc)
replaces_there e Null v x = absurd (cc)
replaces_there e (Truth b) v x = refl
replaces_there e (Int n) v x = refl
replaces_there e (Dec d) v x = refl
replaces_there e (Text t) v x = refl
replaces_there e (Stamp s) v x = refl
replaces_there e (Node bytes) v x = refl
replaces_there e (Bad fault) v x = refl

precedes_is : (p : Value → Bool) (lt : Value → Value → Bool) → IsKind p lt → (e : Extreme) (k v : Value) → p k ≡ true → p v ≡ true
    → precedes e (order_of v k) ≡ Ok (before lt e v k)
precedes_is p lt kind Least k v x y = kind.less v k y x
precedes_is p lt kind Greatest k v x y = kind.more v k y x

kept_cond : (b : Bool) (k v : Value) → kept_by (Ok b) k v ≡ Ok (cond b v k)
kept_cond true k v = refl
kept_cond false k v = refl

two_kept : (p : Value → Bool) (lt : Value → Value → Bool) → IsKind p lt → (e : Extreme) (k v : Value) → p k ≡ true → p v ≡ true
    → kept_of_two e k v ≡ Ok (pick lt e k v)
two_kept p lt kind e k v x y =
    ap (λ r. kept_by r k v) (replaces_there e k v (kind.there k x) ∙ precedes_is p lt kind e k v x y) ∙ kept_cond (before lt e v k) k v

text_kept : (b : Bool) (o : Result Value TotalFault) (m : Value) → cond b o (Err refused.OverMaxRecordSize) ≡ Ok m → o ≡ Ok m
text_kept true o m h = h
text_kept false o m h = absurd (cc)

with_kept : (e : Extreme) (k v m : Value) → kept_with e k v ≡ Ok m → kept_of_two e k v ≡ Ok m
with_kept e k Missing m h = h
with_kept e k Null m h = h
with_kept e k (Truth b) m h = h
with_kept e k (Int n) m h = h
with_kept e k (Dec d) m h = h
with_kept e k (Text t) m h = text_kept (fits_room t) (kept_of_two e k (Text t)) m h
with_kept e k (Stamp s) m h = h
with_kept e k (Node bytes) m h = absurd (cc)
with_kept e k (Bad fault) m h = h

before_trans : (p : Value → Bool) (lt : Value → Value → Bool) → IsKind p lt → (e : Extreme) (w v k : Value) → before lt e w v ≡ true
    → before lt e v k ≡ true → before lt e w k ≡ true
before_trans p lt kind Least w v k x y = kind.trans w v k x y
before_trans p lt kind Greatest w v k x y = kind.trans k v w y x

before_between : (p : Value → Bool) (lt : Value → Value → Bool) → IsKind p lt → (e : Extreme) (w v k : Value) → before lt e w v ≡ false
    → before lt e v k ≡ false → before lt e w k ≡ false
before_between p lt kind Least w v k x y = kind.between w v k y x
before_between p lt kind Greatest w v k x y = kind.between k v w x y

pick_assoc : (p : Value → Bool) (lt : Value → Value → Bool) → IsKind p lt → (e : Extreme) (k v w : Value)
    → pick lt e (pick lt e k v) w ≡ pick lt e k (pick lt e v w)
pick_assoc p lt kind e k v w = by (before lt e v k) (before lt e w v) refl refl
  where
    by : (b c : Bool) → before lt e v k ≡ b → before lt e w v ≡ c → pick lt e (cond b v k) w ≡ pick lt e k (cond c w v)
    by true true x y =
        ap (λ b. cond b w v) y ∙ sym (ap (λ b. cond b w k) (before_trans p lt kind e w v k y x))
    by true false x y = ap (λ b. cond b w v) y ∙ sym (ap (λ b. cond b v k) x)
    by false true x y = refl
    by false false x y = ap (λ b. cond b w k) (before_between p lt kind e w v k y x) ∙ sym (ap (λ b. cond b v k) x)

pick_kind : (p : Value → Bool) (lt : Value → Value → Bool) (e : Extreme) (k v : Value) → p k ≡ true → p v ≡ true → p (pick lt e k v) ≡ true
pick_kind p lt e k v x y = by (before lt e v k)
  where
    by : (b : Bool) → p (cond b v k) ≡ true
    by true = y
    by false = x

-- ---- keeping one of many

abbrev picks : (Value → Value → Bool) → Extreme → Value → List Value → Value
picks lt e k [] = k
picks lt e k (v ∷ vs) = picks lt e (pick lt e k v) vs

abbrev pub AllOf : (Value → Bool) → List Value → Type 0
AllOf p [] = Unit {0}
AllOf p (v ∷ vs) = (p v ≡ true) × AllOf p vs

picks_kind : (p : Value → Bool) (lt : Value → Value → Bool) (e : Extreme) (k : Value) (vs : List Value) → p k ≡ true → AllOf p vs
    → p (picks lt e k vs) ≡ true
picks_kind p lt e k [] x all = x
picks_kind p lt e k (v ∷ vs) x all = picks_kind p lt e (pick lt e k v) vs (pick_kind p lt e k v x all.0) all.1

picks_from : (p : Value → Bool) (lt : Value → Value → Bool) → IsKind p lt → (e : Extreme) (k v : Value) (vs : List Value)
    → picks lt e (pick lt e k v) vs ≡ pick lt e k (picks lt e v vs)
picks_from p lt kind e k v [] = refl
picks_from p lt kind e k v (w ∷ ws) =
    ap (λ x. picks lt e x ws) (pick_assoc p lt kind e k v w) ∙ picks_from p lt kind e k (pick lt e v w) ws

picks-append : (lt : Value → Value → Bool) (e : Extreme) (k : Value) (xs ys : List Value)
    → picks lt e k (xs ++ ys) ≡ picks lt e (picks lt e k xs) ys
picks-append lt e k [] ys = refl
picks-append lt e k (x ∷ xs) ys = picks-append lt e (pick lt e k x) xs ys

on_kept : (p : Value → Bool) (lt : Value → Value → Bool) → IsKind p lt → (e : Extreme) (vs : List Value) (k m : Value) → p k ≡ true
    → AllOf p vs
    → kept_on e k vs ≡ Ok m → m ≡ picks lt e k vs
on_kept p lt kind e [] k m x all h = let same : k ≡ m = cc in sym same
on_kept p lt kind e (v ∷ vs) k m x all h =
    by (kept_with e k v) refl (λ n y. on_kept p lt kind e vs n m y all.1) h
  where
    at : (n : Value) → n ≡ pick lt e k v → ((w : Value) → p w ≡ true → kept_on e w vs ≡ Ok m → m ≡ picks lt e w vs) → kept_on e n vs ≡ Ok m
        → m ≡ picks lt e (pick lt e k v) vs
    at n is same g = same (pick lt e k v) (pick_kind p lt e k v x all.0) (ap (λ w. kept_on e w vs) (sym is) ∙ g)

    by : (o : Result Value TotalFault) → kept_with e k v ≡ o → ((w : Value) → p w ≡ true → kept_on e w vs ≡ Ok m → m ≡ picks lt e w vs)
        → and_on o (λ n. kept_on e n vs) ≡ Ok m → m ≡ picks lt e (pick lt e k v) vs
    by (Err fault) is same g = absurd (cc)
    by (Ok n) is same g =
        let told : Ok n ≡ Ok (pick lt e k v) = sym (with_kept e k v n is) ∙ two_kept p lt kind e k v x all.0 in
        let picked : n ≡ pick lt e k v = cc in
        at n picked same g

first_kept : (e : Extreme) (v : Value) (vs : List Value) (m : Value) → kept_on e Null (v ∷ vs) ≡ Ok m → kept_on e v vs ≡ Ok m
first_kept e v vs m h = by (kept_with e Null v) refl h
  where
    by : (o : Result Value TotalFault) → kept_with e Null v ≡ o → and_on o (λ n. kept_on e n vs) ≡ Ok m → kept_on e v vs ≡ Ok m
    by (Err fault) is g = absurd (cc)
    by (Ok n) is g =
        let told : Ok v ≡ Ok n = with_kept e Null v n is in
        let same : v ≡ n = cc in
        ap (λ w. kept_on e w vs) same ∙ g

all_front : (p : Value → Bool) (xs ys : List Value) → AllOf p (xs ++ ys) → AllOf p xs
all_front p [] ys all = tt
all_front p (x ∷ xs) ys all = (all.0, all_front p xs ys all.1)

all_back : (p : Value → Bool) (xs ys : List Value) → AllOf p (xs ++ ys) → AllOf p ys
all_back p [] ys all = all
all_back p (x ∷ xs) ys all = all_back p xs ys all.1

of_parts : (p : Value → Bool) (lt : Value → Value → Bool) → IsKind p lt → (e : Extreme) (xs ys : List Value) (a b m : Value)
    → AllOf p (xs ++ ys)
    → kept_on e Null xs ≡ Ok a → kept_on e Null ys ≡ Ok b → kept_on e Null (xs ++ ys) ≡ Ok m → merged_kept e a b ≡ Ok m
of_parts p lt kind e [] [] a b m all f g h =
    let first : Null ≡ a = cc in
    let second : Null ≡ b = cc in
    let whole : Null ≡ m = cc in
    ap (λ v. merged_kept e v b) (sym first) ∙ ap (merged_kept e Null) (sym second) ∙ ap Ok whole
of_parts p lt kind e [] (y ∷ ys) a b m all f g h =
    let first : Null ≡ a = cc in
    let same : b ≡ m = on_kept p lt kind e ys y b all.0 all.1 (first_kept e y ys b g)
    ∙ sym (on_kept p lt kind e ys y m all.0 all.1 (first_kept e y ys m h)) in
    let is_kind : p b ≡ true = ap p (on_kept p lt kind e ys y b all.0 all.1 (first_kept e y ys b g)) ∙ picks_kind p lt e y ys all.0 all.1 in
    ap (λ v. merged_kept e v b) (sym first) ∙ ap (λ t. cond t (kept_of_two e Null b) (Ok Null)) (kind.there b is_kind) ∙ ap Ok same
of_parts p lt kind e (x ∷ xs) [] a b m all f g h =
    let second : Null ≡ b = cc in
    let same : Ok a ≡ Ok m = sym f ∙ ap (kept_on e Null) (sym (append-nil (x ∷ xs))) ∙ h in
    ap (merged_kept e a) (sym second) ∙ same
of_parts p lt kind e (x ∷ xs) (y ∷ ys) a b m all f g h =
    let fronts : AllOf p xs = all_front p xs (y ∷ ys) all.1 in
    let backs : AllOf p (y ∷ ys) = all_back p xs (y ∷ ys) all.1 in
    let first : a ≡ picks lt e x xs = on_kept p lt kind e xs x a all.0 fronts (first_kept e x xs a f) in
    let second : b ≡ picks lt e y ys = on_kept p lt kind e ys y b backs.0 backs.1 (first_kept e y ys b g) in
    let whole : m ≡ picks lt e x (xs ++ y ∷ ys) = on_kept p lt kind e (xs ++ y ∷ ys) x m all.0 all.1 (first_kept e x (xs ++ y ∷ ys) m h) in
    let first_kind : p a ≡ true = ap p first ∙ picks_kind p lt e x xs all.0 fronts in
    let second_kind : p b ≡ true = ap p second ∙ picks_kind p lt e y ys backs.0 backs.1 in
    ap (λ t. cond t (kept_of_two e a b) (Ok a)) (kind.there b second_kind) ∙ two_kept p lt kind e a b first_kind second_kind
    ∙ ap Ok (ap (λ v. pick lt e v b) first ∙ ap (pick lt e (picks lt e x xs)) second ∙ sym (picks_from p lt kind e (picks lt e x xs) y ys)
    ∙ sym (picks-append lt e x xs (y ∷ ys)) ∙ sym whole)

-- ---- what is kept is one of the values, and none precedes it

before_none : (p : Value → Bool) (lt : Value → Value → Bool) → IsKind p lt → (e : Extreme) (x : Value) → before lt e x x ≡ false
before_none p lt kind Least x = kind.irrefl x
before_none p lt kind Greatest x = kind.irrefl x

first_not_before : (p : Value → Bool) (lt : Value → Value → Bool) → IsKind p lt → (e : Extreme) (k : Value) (vs : List Value)
    → before lt e k (picks lt e k vs) ≡ false
first_not_before p lt kind e k [] = before_none p lt kind e k
first_not_before p lt kind e k (v ∷ vs) =
    by (before lt e v k) (before lt e k (picks lt e (pick lt e k v) vs)) refl refl (first_not_before p lt kind e (pick lt e k v) vs)
  where
    by : (b c : Bool) → before lt e v k ≡ b → before lt e k (picks lt e (pick lt e k v) vs) ≡ c
        → before lt e (cond b v k) (picks lt e (pick lt e k v) vs) ≡ false → before lt e k (picks lt e (pick lt e k v) vs) ≡ false
    by false c x y h = h
    by true false x y h = y
    by true true x y h =
        let after : before lt e v (picks lt e (pick lt e k v) vs) ≡ true =
        before_trans p lt kind e v k (picks lt e (pick lt e k v) vs) x y in
        absurd (cc)

-- a value is not before what is kept of the other one and it, nor before what that one isn't before
not_before : (p : Value → Bool) (lt : Value → Value → Bool) → IsKind p lt → (e : Extreme) (k v m : Value)
    → before lt e (pick lt e k v) m ≡ false → before lt e v m ≡ false
not_before p lt kind e k v m = by (before lt e v k) refl
  where
    by : (b : Bool) → before lt e v k ≡ b → before lt e (cond b v k) m ≡ false → before lt e v m ≡ false
    by true x h = h
    by false x h = before_between p lt kind e v k m x h

none_before : (p : Value → Bool) (lt : Value → Value → Bool) → IsKind p lt → (e : Extreme) (k : Value) (vs : List Value) (m : Value)
    → m ≡ picks lt e k vs → p m ≡ true → AllOf p vs → NonePrecedes e m vs
none_before p lt kind e k [] m is x all = tt
none_before p lt kind e k (v ∷ vs) m is x all =
    let first : before lt e (pick lt e k v) m ≡ false =
    ap (before lt e (pick lt e k v)) is ∙ first_not_before p lt kind e (pick lt e k v) vs in (
      precedes_is p lt kind e m v x all.0 ∙ ap Ok (not_before p lt kind e k v m first),
      none_before p lt kind e (pick lt e k v) vs m is x all.1,
    )

picked_among : (lt : Value → Value → Bool) (e : Extreme) (k v m : Value) (vs : List Value) → (pick lt e k v ≡ m) ⊎ IsAmong m vs
    → (k ≡ m) ⊎ ((v ≡ m) ⊎ IsAmong m vs)
picked_among lt e k v m vs = by (before lt e v k)
  where
    by : (b : Bool) → (cond b v k ≡ m) ⊎ IsAmong m vs → (k ≡ m) ⊎ ((v ≡ m) ⊎ IsAmong m vs)
    by true (inl h) = inr (inl h)
    by false (inl h) = inl h
    by b (inr h) = inr (inr h)

among : (lt : Value → Value → Bool) (e : Extreme) (k : Value) (vs : List Value) → IsAmong (picks lt e k vs) (k ∷ vs)
among lt e k [] = inl refl
among lt e k (v ∷ vs) = picked_among lt e k v (picks lt e (pick lt e k v) vs) vs (among lt e (pick lt e k v) vs)

extreme_of : (p : Value → Bool) (lt : Value → Value → Bool) → IsKind p lt → (e : Extreme) (vs : List Value) (m : Value) → AllOf p vs
    → is_there m ≡ true → kept_on e Null vs ≡ Ok m → IsExtreme e m vs
extreme_of p lt kind e [] m all there h = let none : Null ≡ m = cc in let not : is_there Null ≡ true = ap is_there none
    ∙ there in absurd (cc)
extreme_of p lt kind e (v ∷ vs) m all there h =
    let is : m ≡ picks lt e v vs = on_kept p lt kind e vs v m all.0 all.1 (first_kept e v vs m h) in
    let one : p m ≡ true = ap p is ∙ picks_kind p lt e v vs all.0 all.1 in
    record {
      among = subst (λ w. IsAmong w (v ∷ vs)) (sym is) (among lt e v vs);
      none_before = (
        precedes_is p lt kind e m v one all.0 ∙ ap Ok (ap (before lt e v) is ∙ first_not_before p lt kind e v vs),
        none_before p lt kind e v vs m is one all.1,
      );
    }

and_left : (a b : Bool) → (a && b) ≡ true → a ≡ true
and_left true b e = refl
and_left false b e = absurd (cc)

and_right : (a b : Bool) → (a && b) ≡ true → b ≡ true
and_right true b e = e
and_right false b e = absurd (cc)

all_told : (p : Value → Bool) (vs : List Value) → list_all p vs ≡ true → AllOf p vs
all_told p [] e = tt
all_told p (v ∷ vs) e = (and_left (p v) (list_all p vs) e, all_told p vs (and_right (p v) (list_all p vs) e))

-- values of one kind are of one of the four
of_one_kind : (T : Type 0) (vs : List Value) → are_of_one_kind vs ≡ true
    → ((p : Value → Bool) (lt : Value → Value → Bool) → IsKind p lt → AllOf p vs → T) → T
of_one_kind T vs one then = by (list_all is_number vs) (list_all is_text vs) (list_all is_timestamp vs) (list_all is_truth vs) refl
    refl refl refl one
  where
    by : (n t s u : Bool) → list_all is_number vs ≡ n → list_all is_text vs ≡ t → list_all is_timestamp vs ≡ s → list_all is_truth vs ≡ u
        → n || (t || (s || u)) ≡ true → T
    by true t s u w x y z o = then is_number _ numbers_kind (all_told is_number vs w)
    by false true s u w x y z o = then is_text _ texts_kind (all_told is_text vs x)
    by false false true u w x y z o = then is_timestamp _ moments_kind (all_told is_timestamp vs y)
    by false false false true w x y z o = then is_truth _ truths_kind (all_told is_truth vs z)
    by false false false false w x y z o = absurd (cc)

pub kept_of_parts : (e : Extreme) (xs ys : List Value) (a b m : Value) → are_of_one_kind (xs ++ ys) ≡ true
    → kept_on e Null xs ≡ Ok a → kept_on e Null ys ≡ Ok b → kept_on e Null (xs ++ ys) ≡ Ok m → merged_kept e a b ≡ Ok m
kept_of_parts e xs ys a b m one f g h =
    of_one_kind (merged_kept e a b ≡ Ok m) (xs ++ ys) one (λ p lt kind all. of_parts p lt kind e xs ys a b m all f g h)

pub kept_is_extreme : (e : Extreme) (vs : List Value) (m : Value) → are_of_one_kind vs ≡ true → is_there m ≡ true → kept_on e Null vs ≡ Ok m
    → IsExtreme e m vs
kept_is_extreme e vs m one there h = of_one_kind (IsExtreme e m vs) vs one (λ p lt kind all. extreme_of p lt kind e vs m all there h)
