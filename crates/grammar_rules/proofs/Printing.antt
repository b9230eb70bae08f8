-- What is printed is spelled: one law a combinator, for a law of printing over a tree.
use Rattle.std.proofs.Common.{◌≡◌, ℕ, zero, suc, ◌-◌, nat_lt, Bool, true, false, List, [], ◌∷◌, ◌++◌, Option, Some, None, refl, sym, ap, subst, append_assoc, append-nil, arith}
use Rattle.std.proofs.lemmas.Bool.Decides.{nat_tests}
use Rattle.grammar_rules.specs.Rules.{Rule, Verdict, takes, begun, token, nothing, made, sequence, ◌&◌, preceded_by, followed_by, headed, either, optional, bounded, many, allowed}
use Rattle.grammar_rules.specs.Counted.{Counted, one_more, item, both, many_from, chain}
use Rattle.grammar_rules.specs.Spelled.{Prints, All, print_all}

-- ---- a value and its text

module _ {T K : Type 0} where
  pub spelled-token : (test : T → Bool) (t : T) → test t ≡ true → (token {K = K} test).Spells t (t ∷ [])
  spelled-token test t e = rw e refl

  module _ {A : Type 0} (G : Rule T K A) (a : A) (ts : List T) (w : G.Spells a ts) where
    pub spelled-made : {B : Type 0} (f : A → B) → (made f G).Spells (f a) ts
    spelled-made f = (a, refl, w)

    pub spelled-first : (H : Rule T K A) → (either G H).Spells a ts
    spelled-first H = (true, w)

    pub spelled-second : (H : Rule T K A) → (either H G).Spells a ts
    spelled-second H = (false, w)

    pub spelled-some : (optional G).Spells (Some a) ts
    spelled-some = (true, (a, refl, w))

    pub spelled-allowed : (b : Bool) → b ≡ true → (allowed b G).Spells a ts
    spelled-allowed b e = rw e w

    pub spelled-past : (test : T → Bool) (t : T) → test t ≡ true → (preceded_by (token test) G).Spells a (t ∷ ts)
    spelled-past test t e = record { value = t; left = t ∷ []; right = ts; joined = refl; whole = spelled-token test t e; after = w }

    pub spelled-before : (test : T → Bool) (t : T) → test t ≡ true → (followed_by G (token test)).Spells a (ts ++ t ∷ [])
    spelled-before test t e = record { value = a; left = ts; right = t ∷ []; joined = refl; whole = w; after = (t, refl, spelled-token test t e) }

    pub spelled-sequence : {B : Type 0} (H : A → Rule T K B) (b : B) (us : List T) → (H a).Spells b us → (sequence G H).Spells b (ts ++ us)
    spelled-sequence H b us v = record { value = a; left = ts; right = us; joined = refl; whole = w; after = v }

  -- behind a terminal, whose value tells what follows
  pub spelled-begun : {A B : Type 0} (look : T → Verdict K A) (H : A → Rule T K B) (t : T) (a : A) (b : B) (us : List T) → look t ≡ takes a → (H a).Spells b us → (begun look H).Spells b (t ∷ us)
  spelled-begun look H t a b us e v = record { value = a; left = t ∷ []; right = us; joined = refl; whole = e; after = v }

  pub spelled-none : {A : Type 0} (G : Rule T K A) → (optional G).Spells None []
  spelled-none G = (false, (refl, refl))

  pub spelled-pair : {A B : Type 0} (G : Rule T K A) (H : Rule T K B) (a : A) (b : B) (ts us : List T) → G.Spells a ts → H.Spells b us → (G & H).Spells (a, b) (ts ++ us)
  spelled-pair G H a b ts us w v = spelled-sequence G a ts w (λ c. made (λ d. (c, d)) H) (a, b) us (b, refl, v)

  -- a list: nothing, one before, and one at the end
  pub spelled-many_nil : {A : Type 0} (G : Rule T K A) → (many G).Spells [] []
  spelled-many_nil G = (0, (refl, refl))

  pub spelled-many_cons : {A : Type 0} (G : Rule T K A) (a : A) (rest : List A) (ts us : List T) → G.Spells a ts → (many G).Spells rest us → (many G).Spells (a ∷ rest) (ts ++ us)
  spelled-many_cons G a rest ts us w v = (suc v.0, (true, spelled-sequence G a ts w (λ c. made (λ r. c ∷ r) (bounded v.0 G (nothing []))) (a ∷ rest) us (rest, refl, v.1)))

  module _ {A : Type 0} (G : Rule T K A) (b : A) (us : List T) (w : G.Spells b us) where
    snoc_cases : (n : ℕ) (front : List A) (ts : List T) → (bounded n G (nothing [])).Spells front ts → (many G).Spells (front ++ b ∷ []) (ts ++ us)
    snoc_cases zero front ts v = rw (← v.0, v.1) (subst (λ l. (many G).Spells (b ∷ []) l) (append-nil us) (spelled-many_cons G b [] us [] w (spelled-many_nil G)))
    snoc_cases (suc n) front ts (false, v) = rw (← v.0, v.1) (subst (λ l. (many G).Spells (b ∷ []) l) (append-nil us) (spelled-many_cons G b [] us [] w (spelled-many_nil G)))
    snoc_cases (suc n) front ts (true, j) =
        let rest = snoc_cases n j.after.0 j.right j.after.2 in
        rw (← j.after.1, j.joined)
        (subst (λ l. (many G).Spells (j.value ∷ (j.after.0 ++ b ∷ [])) l) (sym (append_assoc j.left j.right us))
        (spelled-many_cons G j.value (j.after.0 ++ b ∷ []) j.left (j.right ++ us) j.whole rest))

    -- a part at the end
    pub spelled-many_snoc : (front : List A) (ts : List T) → (many G).Spells front ts → (many G).Spells (front ++ b ∷ []) (ts ++ us)
    spelled-many_snoc front ts v = snoc_cases v.0 front ts v.1

-- ---- with counts

-- a value, where one more may come
pub spelled-one_more : {T K A : Type 0} (k : K) (look : T → Verdict K A) (t : T) (a : A) (n m : ℕ) → n ≡ suc m → look t ≡ takes a → (one_more k look n).Spells (a, m) (t ∷ [])
spelled-one_more k look t a n m e f =
    let q : nat_lt 0 n ≡ true = grind (arith, nat_tests) in
    let p : n - 1 ≡ m = omega (arith, e) in
    (a, ap (λ l. (a, l)) p, rw (q, f) refl)

-- an item, where there is room for it
pub spelled-room : {S T K A : Type 0} (over : T → Option K) (G : Counted S T K A) (most left : ℕ) (n m : S) (a : A) (ts : List T) → most ≡ suc left → (G n).Spells (a, m) ts → (item over G (most, n)).Spells (a, (left, m)) ts
spelled-room over G most left n m a ts e w =
    let q : nat_lt 0 most ≡ true = grind (arith, nat_tests) in
    let p : most - 1 ≡ left = omega (arith, e) in
    rw q ((a, m), ap (λ l. (a, (l, m))) p, w)

module _ {S T K : Type 0} where
  pub spelled-both : {A B : Type 0} (G : Counted S T K A) (H : Counted S T K B) (n m l : S) (a : A) (b : B) (ts us : List T) → (G n).Spells (a, m) ts → (H m).Spells (b, l) us → (both G H n).Spells ((a, b), l) (ts ++ us)
  spelled-both G H n m l a b ts us w v =
      record { value = (a, m); left = ts; right = us; joined = refl; whole = w; after = ((b, l), refl, v) }

  pub spelled-many_from_nil : {A : Type 0} (G : Counted S T K A) (n : S) → (many_from G n).Spells ([], n) []
  spelled-many_from_nil G n = (0, (refl, refl))

  pub spelled-many_from_cons : {A : Type 0} (G : Counted S T K A) (n m l : S) (a : A) (rest : List A) (ts us : List T) → (G n).Spells (a, m) ts → (many_from G m).Spells (rest, l) us → (many_from G n).Spells (a ∷ rest, l) (ts ++ us)
  spelled-many_from_cons G n m l a rest ts us w v =
      (suc v.0, (true, record { value = (a, m); left = ts; right = us; joined = refl; whole = w; after = ((rest, l), refl, v.1) }))

  pub spelled-chain : {A B C : Type 0} (node : A → List B → C) (G : Counted S T K A) (H : Counted S T K B) (n m l : S) (a : A) (rest : List B) (ts us : List T) → (G n).Spells (a, m) ts → (many_from H m).Spells (rest, l) us → (chain node G H n).Spells (node a rest, l) (ts ++ us)
  spelled-chain node G H n m l a rest ts us w v = (((a, rest), l), refl, spelled-both G (many_from H) n m l a rest ts us w v)

-- ---- printers

module _ {T K A : Type 0} (G : Rule T K A) (P : A → Type 0) (print : A → List T) (g : Prints G P print) where
  -- a repetition, element by element
  pub prints-many : Prints (many G) (All P) (print_all print)
  prints-many [] h = spelled-many_nil G
  prints-many (a ∷ rest) h = spelled-many_cons G a rest (print a) (print_all print rest) (g a h.0) (prints-many rest h.1)

  -- a list whose separators are all printed as this symbol
  module _ (test : T → Bool) (t : T) (e : test t ≡ true) where
    pub prints-list : (a : A) (rest : List A) → P a → All P rest → (headed G (many (preceded_by (token test) G))).Spells (a ∷ rest) (print a ++ print_all (λ b. t ∷ print b) rest)
    prints-list a rest h k =
        let others = prints_others rest k in
        record { value = a; left = print a; right = print_all (λ b. t ∷ print b) rest; joined = refl; whole = g a h; after = (rest, refl, others) }
      where
        prints_others : (bs : List A) → All P bs → (many (preceded_by (token test) G)).Spells bs (print_all (λ b. t ∷ print b) bs)
        prints_others [] h = spelled-many_nil (preceded_by (token test) G)
        prints_others (b ∷ bs) h =
            spelled-many_cons (preceded_by (token test) G) b bs (t ∷ print b) (print_all (λ c. t ∷ print c) bs)
            (spelled-past G b (print b) (g b h.0) test t e) (prints_others bs h.1)
