-- The fronts of rules that are put together are closed.
use Rattle.std.proofs.Common.{◌≡◌, ℕ, zero, suc, Bool, true, false, List, [], ◌∷◌, ◌++◌, refl, subst, inl, inr, if◌then◌else◌}
use Rattle.grammar_rules.specs.Rules.{Rule, Last, fits, faulty, Verdict, takes, faults, refuses, token, nothing, made, headed, ◌&◌, bounded, many, preceded_by, followed_by}
use Rattle.grammar_rules.proofs.Clear.{Closed}
use Rattle.grammar_rules.proofs.Sequences.{closed-sequence}
use Rattle.grammar_rules.proofs.Alternatives.{closed-alternatives}
use Rattle.grammar_rules.proofs.Terminals.{closed-terminal, closed-nothing, closed-made}
use Rattle.grammar_rules.proofs.Choices.{closed-either}

pub closed-pair : {T K A B : Type 0} (G : Rule T K A) (H : Rule T K B) → Closed G → Closed H → Closed (G & H)
closed-pair G H g h = closed-sequence G (λ a. made (λ b. (a, b)) H) g (λ a. closed-made (λ b. (a, b)) H h)

pub closed-headed : {T K A : Type 0} (G : Rule T K A) (H : Rule T K (List A)) → Closed G → Closed H → Closed (headed G H)
closed-headed G H g h = closed-sequence G (λ a. made (λ rest. a ∷ rest) H) g (λ a. closed-made (λ rest. a ∷ rest) H h)

pub closed-token : {T K : Type 0} (test : T → Bool) → Closed (token {T = T} {K = K} test)
closed-token test = closed-terminal (λ t. if test t then takes t else refuses)

pub closed-preceded_by : {T K A B : Type 0} (G : Rule T K A) (H : Rule T K B) → Closed G → Closed H → Closed (preceded_by G H)
closed-preceded_by G H g h = closed-sequence G (λ a. H) g (λ a. h)

pub closed-followed_by : {T K A B : Type 0} (G : Rule T K A) (H : Rule T K B) → Closed G → Closed H → Closed (followed_by G H)
closed-followed_by G H g h = closed-sequence G (λ a. made (λ b. a) H) g (λ a. closed-made (λ b. a) H h)

pub closed-bounded : {T K A : Type 0} (n : ℕ) (G : Rule T K A) (end : Rule T K (List A)) → Closed G → Closed end → Closed (bounded n G end)
closed-bounded zero G end g e = e
closed-bounded (suc n) G end g e =
    closed-either (headed G (bounded n G end)) (nothing []) (closed-headed G (bounded n G end) g (closed-bounded n G end g e)) (closed-nothing [])

pub closed-many : {T K A : Type 0} (G : Rule T K A) → Closed G → Closed (many G)
closed-many G g = closed-alternatives (λ n. bounded n G (nothing [])) (λ n. closed-bounded n G (nothing []) g (closed-nothing []))

-- what begins with a symbol that passes the test
module _ {T K A : Type 0} (test : T → Bool) (G : Rule T K A) where
  passed : (t : T) (b : Bool) (a : T) → ◌≡◌ {A = Verdict K T} (if b then takes t else refuses) (takes a) → b ≡ true
  passed t true a e = refl
  passed t false a e = cc

  not_faulty : (t : T) (b : Bool) (k : K) → ◌≡◌ {A = Verdict K T} (if b then takes t else refuses) (faults k) → ⊥
  not_faulty t true k e = cc
  not_faulty t false k e = cc

  token_starts : (m : Last K) (t : T) (r : List T) → (token {T = T} {K = K} test).Front m (t ∷ r) → test t ≡ true
  token_starts fits t [] f = passed t (test t) f.0 f.1
  token_starts fits t (u ∷ r) f = absurd f
  token_starts (faulty k) t [] f = absurd (not_faulty t (test t) k f)
  token_starts (faulty k) t (u ∷ r) f = absurd f

  second_starts : (m : Last K) (t : T) (r : List T) (v : T) (left right : List T) → t ∷ r ≡ left ++ right → (token {T = T} {K = K} test).Spells v left → test t ≡ true
  second_starts m t r v [] right e w = absurd w
  second_starts m t r v (u ∷ []) right e w =
      let p : u ≡ t = cc in
      subst (λ z. test z ≡ true) p (passed u (test u) v w)
  second_starts m t r v (u ∷ x ∷ left) right e w = absurd w

  pub preceded_starts : (m : Last K) (t : T) (r : List T) → (preceded_by (token test) G).Front m (t ∷ r) → test t ≡ true
  preceded_starts m t r f =
      elim f [ inl g ↦ token_starts m t r g | inr j ↦ second_starts m t r j.value j.left j.right j.joined j.whole ]

  no_left : (v : T) (left right : List T) → [] ≡ left ++ right → (token {T = T} {K = K} test).Spells v left → ⊥
  no_left v [] right e w = w
  no_left v (u ∷ left) right e w = cc

  pub preceded_wants : (a : A) → (preceded_by (token test) G).Spells a [] → ⊥
  preceded_wants a j = no_left j.value j.left j.right j.joined j.whole

  pub preceded_no_fault : (k : K) → (preceded_by (token test) G).Front (faulty k) [] → ⊥
  preceded_no_fault k f = elim f [ inl g ↦ g | inr j ↦ no_left j.value j.left j.right j.joined j.whole ]
