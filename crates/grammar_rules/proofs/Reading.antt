-- A rule, its lookahead and a reader that is right for it, and how these are put together.
use Rattle.std.proofs.Common.{◌≡◌, ◌||◌, ◌&&◌, ◌⊎◌, Bool, true, false, List, [], ◌∷◌, ◌++◌, if◌then◌else◌, Some, None, refl, sym, ◌∙◌, subst, inl, inr}
use Rattle.grammar_rules.specs.Rules.{Rule, Last, fits, faulty, Verdict, takes, faults, refuses, terminal, nothing, made, sequence, alternatives, headed, ◌&◌, token, fault, preceded_by, followed_by}
use Rattle.grammar_rules.specs.Readers.{Outcome, found, failed, and_then, read_made, read_symbol, read_terminal, chosen, is_seen, read_fault, read_past, closed_by, read_before, read_pair, read_headed}
use Rattle.grammar_rules.proofs.Lists.{or_left}
use Rattle.grammar_rules.proofs.Clear.{Closed, Sight, Clear}
use Rattle.grammar_rules.proofs.Alternatives.{cons_not_nil}
use Rattle.grammar_rules.proofs.Sequences.{Apart, sequence_sight, clear-sequence}
use Rattle.grammar_rules.proofs.Terminals.{terminal_sight, clear-terminal, nothing_sight, clear-nothing, clear-made, Sees, clear-wider}
use Rattle.grammar_rules.proofs.Right.{Stops, Right, right-nothing, right-terminal, right-made, right-sequence}

-- each symbol that passes the test is a front or a fault
abbrev pub Exact : {T K A : Type 0} → Rule T K A → (T → Bool) → Type 0
Exact {T = T} {K = K} G test = (t : T) → test t ≡ true → (m : Last K) × G.Front m (t ∷ [])

-- the reader reads the rule with this lookahead
pub record Reads {T K A : Type 0} (G : Rule T K A) (s : Sight T) (read : List T → Outcome T K A) : Type 0 where
  pub clear : Clear G s
  pub exact : Exact G s.first
  pub empty : s.null ≡ true → (a : A) × G.Spells a []
  pub right : (ts : List T) → Right G ts (read ts)

pub reads-nothing : {T K A : Type 0} (a : A) → Reads (nothing {T = T} {K = K} a) nothing_sight (λ ts. found a ts)
reads-nothing a = record {
  clear = clear-nothing a;
  exact = λ t e. cc;
  empty = λ e. (a, (refl, refl));
  right = right-nothing a;
}

module _ {T K A : Type 0} (look : T → Verdict K A) where
  exact_symbol : (t : T) (v : Verdict K A) → look t ≡ v → is_seen v ≡ true → (m : Last K) × (terminal look).Front m (t ∷ [])
  exact_symbol t (takes a) e f = (fits, (a, e))
  exact_symbol t (faults k) e f = (faulty k, e)
  exact_symbol t refuses e f = cc

  pub reads-terminal : Reads (terminal look) (terminal_sight look) (read_terminal look)
  reads-terminal = record {
    clear = clear-terminal look;
    exact = λ t e. exact_symbol t (look t) refl e;
    empty = λ e. cc;
    right = right-terminal look;
  }

pub reads-made : {T K A B : Type 0} (f : A → B) (G : Rule T K A) (s : Sight T) (read : List T → Outcome T K A) → Reads G s read → Reads (made f G) s (λ ts. read_made f (read ts))
reads-made f G s read g = record {
  clear = clear-made f G s g.clear;
  exact = g.exact;
  empty = λ e. let w = g.empty e in (f w.0, (w.0, refl, w.1));
  right = λ ts. right-made f G ts (read ts) (g.right ts);
}

-- a test that is joined is passed in one way
pub or_cases : (a b : Bool) → (a || b) ≡ true → (a ≡ true) ⊎ (b ≡ true)
or_cases true b e = inl refl
or_cases false b e = inr e

pub and_first : (a b : Bool) → (a && b) ≡ true → a ≡ true
and_first true b e = refl
and_first false b e = e

pub and_second : (a b : Bool) → (a && b) ≡ true → b ≡ true
and_second true b e = e
and_second false b e = cc

module _ {T K A B : Type 0} (G : Rule T K A) (H : A → Rule T K B) (s t : Sight T) (read : List T → Outcome T K A) (next : A → List T → Outcome T K B) (g : Reads G s read) (h : (a : A) → Reads (H a) t (next a)) (off : Apart s t) where
  exact_cases : (u : T) → (s.first u ≡ true) ⊎ ((s.null && t.first u) ≡ true) → (m : Last K) × (sequence G H).Front m (u ∷ [])
  exact_cases u (inl e) = let f = g.exact u e in (f.0, inl f.1)
  exact_cases u (inr e) =
      let w = g.empty (and_first s.null (t.first u) e) in
      let f = (h w.0).exact u (and_second s.null (t.first u) e) in
      (f.0, inr (record { value = w.0; left = []; right = u ∷ []; joined = refl; whole = w.1; after = f.1 }))

  empty_both : (s.null && t.null) ≡ true → (b : B) × (sequence G H).Spells b []
  empty_both e =
      let w = g.empty (and_first s.null t.null e) in
      let v = (h w.0).empty (and_second s.null t.null e) in
      (v.0, record { value = w.0; left = []; right = []; joined = refl; whole = w.1; after = v.1 })

  pub reads-sequence : Reads (sequence G H) (sequence_sight s t) (λ ts. and_then (read ts) next)
  reads-sequence = record {
    clear = clear-sequence G H s t g.clear (λ a. (h a).clear) off;
    exact = λ u e. exact_cases u (or_cases (s.first u) _ e);
    empty = empty_both;
    right = λ ts. right-sequence G H s t g.clear (λ a. (h a).clear) off ts (read ts) (g.right ts) next (λ a left. (h a).right left);
  }

pub reads-pair : {T K A B : Type 0} (G : Rule T K A) (H : Rule T K B) (s t : Sight T) (read : List T → Outcome T K A) (next : List T → Outcome T K B) → Reads G s read → Reads H t next → Apart s t → Reads (G & H) (sequence_sight s t) (read_pair read next)
reads-pair G H s t read next g h off =
    reads-sequence G (λ a. made (λ b. (a, b)) H) s t read (λ a left. read_made (λ b. (a, b)) (next left)) g (λ a. reads-made (λ b. (a, b)) H t next h) off

pub reads-headed : {T K A : Type 0} (G : Rule T K A) (H : Rule T K (List A)) (s t : Sight T) (read : List T → Outcome T K A) (next : List T → Outcome T K (List A)) → Reads G s read → Reads H t next → Apart s t → Reads (headed G H) (sequence_sight s t) (read_headed read next)
reads-headed G H s t read next g h off =
    reads-sequence G (λ a. made (λ rest. a ∷ rest) H) s t read (λ a left. read_made (λ rest. a ∷ rest) (next left)) g (λ a. reads-made (λ rest. a ∷ rest) H t next h) off

-- the outcome of the member i is right for all, where no other member begins so
module _ {T K A I : Type 0} (G : I → Rule T K A) (closed : (i : I) → Closed (G i)) (i : I) (ts : List T)
    (only : (j : I) (m : Last K) (t : T) (r x : List T) → ts ≡ t ∷ r → (G j).Front m (t ∷ x) → j ≡ i)
    (nulls : (j : I) (a : A) → (G j).Spells a [] → (j ≡ i) ⊎ ((t : T) × (r : List T) × (m : Last K) × (ts ≡ t ∷ r) × (G i).Front m (t ∷ []))) where
  stops_all : (pre left : List T) → ts ≡ pre ++ left → Stops (G i) pre left → Stops (alternatives G) pre left
  stops_all pre left is st t r m x e (inl f) = cons_not_nil pre t x f.1
  stops_all [] left is st t r m x e (inr f) =
      st t r m x e (subst (λ z. (G z).Front m (t ∷ x)) (only f.0 m t r x (is ∙ e) f.1) f.1)
  stops_all (u ∷ pre) left is st t r m x e (inr f) =
      st t r m x e (subst (λ z. (G z).Front m (u ∷ (pre ++ t ∷ x))) (only f.0 m u (pre ++ left) (pre ++ t ∷ x) is f.1) f.1)

  unspelled_all : (pre left : List T) → ts ≡ pre ++ left → Stops (G i) pre left → ((a : A) → (G i).Spells a pre → ⊥) → (j : I) (a : A) → (G j).Spells a pre → ⊥
  unspelled_all [] left is st un j a w =
      elim (nulls j a w) [
        | inl e ↦ un a (subst (λ z. (G z).Spells a []) e w)
        | inr f ↦ st f.0 f.1 f.2 [] (sym is ∙ f.3) f.4
      ]
  unspelled_all (u ∷ pre) left is st un j a w =
      un a (subst (λ z. (G z).Spells a (u ∷ pre)) (only j fits u (pre ++ left) pre is ((closed j).spelled a (u ∷ pre) w)) w)

  pub right-alternative : (o : Outcome T K A) → Right (G i) ts o → Right (alternatives G) ts o
  right-alternative (found a left) w = record { pre = w.pre; is = w.is; spells = (i, w.spells); stops = stops_all w.pre left w.is w.stops }
  right-alternative (failed None left) w = record {
    pre = w.pre;
    is = w.is;
    front = inr (i, w.front);
    stops = stops_all w.pre left w.is w.stops;
    unspelled = λ a v. unspelled_all w.pre left w.is w.stops w.unspelled v.0 a v.1;
  }
  right-alternative (failed (Some k) left) w = record { pre = w.pre; at = w.at; behind = w.behind; is = w.is; stands = w.stands; front = inr (i, w.front) }

-- another reader that answers the same
pub reads_as : {T K A : Type 0} (G : Rule T K A) (s : Sight T) (read as_well : List T → Outcome T K A) → ((ts : List T) → read ts ≡ as_well ts) → Reads G s read → Reads G s as_well
reads_as G s read as_well e g = record {
  clear = g.clear;
  exact = g.exact;
  empty = g.empty;
  right = λ ts. subst (λ o. Right G ts o) (e ts) (g.right ts);
}

-- the lookahead of a symbol that passes the test
abbrev pub token_sight : {T : Type 0} → (T → Bool) → Sight T
token_sight test = record { first = test; null = false; more = λ t. false }

module _ {T : Type 0} (test : T → Bool) where
  seen_token : (K : Type 0) (t : T) (b : Bool) → is_seen {K = K} (if b then takes t else refuses) ≡ b
  seen_token K t true = refl
  seen_token K t false = refl

  seen_fault : {K : Type 0} (A : Type 0) (k : K) (b : Bool) → is_seen {A = A} (if b then faults k else refuses) ≡ b
  seen_fault A k true = refl
  seen_fault A k false = refl

  sight_token : (K : Type 0) → terminal_sight {K = K} (λ t. if test t then takes t else refuses) ≡ token_sight test
  sight_token K = λ i. record { first = λ t. seen_token K t (test t) i; null = false; more = λ t. false }

  sight_fault : {K : Type 0} (A : Type 0) (k : K) → terminal_sight {A = A} (λ t. if test t then faults k else refuses) ≡ token_sight test
  sight_fault A k = λ i. record { first = λ t. seen_fault A k (test t) i; null = false; more = λ t. false }

pub reads-token : {T K : Type 0} (test : T → Bool) → Reads (token {T = T} {K = K} test) (token_sight test) (read_terminal (λ t. if test t then takes t else refuses))
reads-token {T = T} {K = K} test =
    subst (λ s. Reads (token {T = T} {K = K} test) s (read_terminal (λ t. if test t then takes t else refuses))) (sight_token test K)
    (reads-terminal (λ t. if test t then takes t else refuses))

fault_symbol : {T K A : Type 0} (k : K) (b : Bool) (t : T) (ts : List T) → read_symbol {A = A} (if b then faults k else refuses) t ts ≡ chosen b (failed (Some k) (t ∷ ts)) (failed None (t ∷ ts))
fault_symbol k true t ts = refl
fault_symbol k false t ts = refl

fault_reader : {T K A : Type 0} (k : K) (test : T → Bool) (ts : List T) → read_terminal {A = A} (λ t. if test t then faults k else refuses) ts ≡ read_fault k test ts
fault_reader k test [] = refl
fault_reader k test (t ∷ ts) = fault_symbol k (test t) t ts

pub reads-fault : {T K : Type 0} (A : Type 0) (k : K) (test : T → Bool) → Reads (fault {A = A} k test) (token_sight test) (read_fault k test)
reads-fault A k test =
    reads_as (fault {A = A} k test) (token_sight test) (read_terminal (λ t. if test t then faults k else refuses)) (read_fault k test) (fault_reader k test)
    (subst (λ s. Reads (fault {A = A} k test) s (read_terminal (λ t. if test t then faults k else refuses))) (sight_fault test A k)
    (reads-terminal (λ t. if test t then faults k else refuses)))

-- another lookahead that sees the same first symbols, and no less behind
pub reads_seen : {T K A : Type 0} (G : Rule T K A) (s t : Sight T) (read : List T → Outcome T K A) → Sees s t → ((x : T) → t.first x ≡ true → s.first x ≡ true) → (t.null ≡ true → s.null ≡ true) → Reads G s read → Reads G t read
reads_seen G s t read w first null g = record {
  clear = clear-wider G s t w g.clear;
  exact = λ x e. g.exact x (first x e);
  empty = λ e. g.empty (null e);
  right = g.right;
}

or_false : (b : Bool) → (b || false) ≡ true → b ≡ true
or_false true e = refl
or_false false e = e

and_false : (b : Bool) → (b && false) ≡ true → false ≡ true
and_false true e = e
and_false false e = e

past_symbol : {T K A : Type 0} (b : Bool) (next : List T → Outcome T K A) (t : T) (ts : List T) → and_then (read_symbol (if b then takes t else refuses) t ts) (λ a left. next left) ≡ chosen b (next ts) (failed None (t ∷ ts))
past_symbol true next t ts = refl
past_symbol false next t ts = refl

past_reader : {T K A : Type 0} (test : T → Bool) (next : List T → Outcome T K A) (ts : List T) → and_then (read_terminal (λ t. if test t then takes t else refuses) ts) (λ a left. next left) ≡ read_past test next ts
past_reader test next [] = refl
past_reader test next (t ∷ ts) = past_symbol (test t) next t ts

-- the lookahead behind a symbol that passes the test
abbrev pub past_sight : {T : Type 0} → (T → Bool) → Sight T → Sight T
past_sight test s = record { first = test; null = false; more = s.more }

module _ {T K A : Type 0} (test : T → Bool) (G : Rule T K A) (s : Sight T) (read : List T → Outcome T K A) (g : Reads G s read) where
  more_past : (x : T) → (s.more x ≡ true) ⊎ ((s.null && false) ≡ true) → s.more x ≡ true
  more_past x (inl e) = e
  more_past x (inr e) = let f = and_false s.null e in cc

  pub reads-past : Reads (preceded_by (token test) G) (past_sight test s) (read_past test read)
  reads-past =
      reads_seen (preceded_by (token test) G) (sequence_sight (token_sight test) s) (past_sight test s) (read_past test read)
      (record {
        first = λ x e. or_false (test x) e;
        null = λ e. e;
        more = λ x e. more_past x (or_cases (s.more x) (s.null && false) e);
      })
      (λ x e. or_left (test x) false e)
      (λ e. e)
      (reads_as (preceded_by (token test) G) (sequence_sight (token_sight test) s) (λ ts. and_then (read_terminal (λ t. if test t then takes t else refuses) ts) (λ a left. read left)) (read_past test read) (past_reader test read)
      (reads-sequence (token test) (λ t. G) (token_sight test) s (read_terminal (λ t. if test t then takes t else refuses)) (λ t left. read left)
      (reads-token test) (λ t. g) (λ x. refl)))

-- the lookahead before a symbol that passes a test
abbrev pub before_sight : {T : Type 0} → Sight T → Sight T
before_sight s = record { first = s.first; null = false; more = λ t. false }

closed_symbol : {T K A : Type 0} (b : Bool) (a : A) (t : T) (ts : List T) → read_made {K = K} (λ u. a) (read_symbol (if b then takes t else refuses) t ts) ≡ chosen b (found a ts) (failed None (t ∷ ts))
closed_symbol true a t ts = refl
closed_symbol false a t ts = refl

closed_reader : {T K A : Type 0} (test : T → Bool) (a : A) (ts : List T) → read_made {K = K} (λ u. a) (read_terminal (λ t. if test t then takes t else refuses) ts) ≡ closed_by test a ts
closed_reader test a [] = refl
closed_reader test a (t ∷ ts) = closed_symbol (test t) a t ts

before_outcome : {T K A : Type 0} (test : T → Bool) (o : Outcome T K A) → and_then o (λ a left. read_made (λ u. a) (read_terminal (λ t. if test t then takes t else refuses) left)) ≡ and_then o (closed_by test)
before_outcome test (found a left) = closed_reader test a left
before_outcome test (failed k left) = refl

module _ {T K A : Type 0} (G : Rule T K A) (s : Sight T) (read : List T → Outcome T K A) (test : T → Bool) (g : Reads G s read) (wants : s.null ≡ false) (off : (x : T) → (s.more x && test x) ≡ false) where
  first_before : (x : T) → (s.first x ≡ true) ⊎ ((s.null && test x) ≡ true) → s.first x ≡ true
  first_before x (inl e) = e
  first_before x (inr e) = let f = and_first s.null (test x) e in cc

  pub reads-before : Reads (followed_by G (token test)) (before_sight s) (read_before test read)
  reads-before =
      reads_seen (followed_by G (token test)) (sequence_sight s (token_sight test)) (before_sight s) (read_before test read)
      (record {
        first = λ x e. first_before x (or_cases (s.first x) (s.null && test x) e);
        null = λ e. and_second s.null false e;
        more = λ x e. e;
      })
      (λ x e. or_left (s.first x) (s.null && test x) e)
      (λ e. cc)
      (reads_as (followed_by G (token test)) (sequence_sight s (token_sight test)) (λ ts. and_then (read ts) (λ a left. read_made (λ u. a) (read_terminal (λ t. if test t then takes t else refuses) left))) (read_before test read) (λ ts. before_outcome test (read ts))
      (reads-sequence G (λ a. made (λ u. a) (token test)) s (token_sight test) read (λ a left. read_made (λ u. a) (read_terminal (λ t. if test t then takes t else refuses) left))
      g (λ a. reads-made (λ u. a) (token test) (token_sight test) (read_terminal (λ t. if test t then takes t else refuses)) (reads-token test)) off))

-- the lookahead of a sequence whose first rule has no empty text
abbrev pub then_sight : {T : Type 0} → Sight T → Sight T → Sight T
then_sight s t = record { first = s.first; null = false; more = λ x. t.more x || (t.null && s.more x) }

module _ {T K A : Type 0} (G : Rule T K A) (s t : Sight T) (read : List T → Outcome T K A) (wants : s.null ≡ false) where
  first_then : (x : T) → (s.first x ≡ true) ⊎ ((s.null && t.first x) ≡ true) → s.first x ≡ true
  first_then x (inl e) = e
  first_then x (inr e) = let f = and_first s.null (t.first x) e in cc

  pub reads_then : Reads G (sequence_sight s t) read → Reads G (then_sight s t) read
  reads_then g =
      reads_seen G (sequence_sight s t) (then_sight s t) read
      (record {
        first = λ x e. first_then x (or_cases (s.first x) (s.null && t.first x) e);
        null = λ e. let f = and_first s.null t.null e in cc;
        more = λ x e. e;
      })
      (λ x e. or_left (s.first x) (s.null && t.first x) e)
      (λ e. cc) g
