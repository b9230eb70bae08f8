-- What a rule spells is spelled again by its text, with no more primaries and no more depth: one law a combinator.
use Rattle.std.proofs.Common.{if◌then◌else◌, ◌≡◌, ℕ, ◌+◌, ◌≤◌, ◌==◌, ◌||◌, ◌&&◌, not, Bool, true, false, List, [], ◌∷◌, ◌++◌, Some, None, refl, sym, ap, ◌∙◌, subst, append_assoc, arith}
use Rattle.sql_tokens.specs.TokenForms.{is_called}
use Rattle.sql_tokens.specs.Cutting.{Symbol, cut, is_unfit, first_unfit}
use Rattle.grammar_rules.specs.Rules.{Rule, token, made, either, sequence, preceded_by, followed_by}
use Rattle.grammar_rules.specs.Counted.{plain, given, both, past, maybe, many_from}
use Rattle.grammar_rules.specs.Spelled.{print_all}
use Rattle.grammar_rules.proofs.Printing.{spelled-past, spelled-before, spelled-sequence, spelled-many_from_nil, spelled-many_from_cons}
use Rattle.sql_grammar.specs.Marks.{Fault}
use Rattle.sql_grammar.specs.Expressions.{Counting}

-- ---- what may stand behind an expression

-- the text's end, or a blank, `)` or `,`
abbrev pub ends_words : List ℕ → Bool
ends_words [] = true
ends_words (b ∷ bs) = (b == 32) || ((b == 41) || (b == 44))

-- and no `(` behind blanks
unfoldable pub is_clear : List ℕ → Bool
is_clear rest = ends_words rest && not (is_called rest)

-- the text may stand behind an expression, before what may
abbrev pub Starts : List ℕ → Type 0
Starts text = (rest : List ℕ) → is_clear rest ≡ true → is_clear (text ++ rest) ≡ true

pub starts-nothing : Starts []
starts-nothing rest c = c

pub starts-append : (a b : List ℕ) → Starts a → Starts b → Starts (a ++ b)
starts-append a b f g rest c = let e : (a ++ b) ++ rest ≡ a ++ (b ++ rest) = append_assoc a b rest in rw e (f (b ++ rest) (g rest c))

pub starts-all : {A : Type 0} (print : A → List ℕ) → ((a : A) → Starts (print a)) → (xs : List A) → Starts (print_all print xs)
starts-all print s [] = starts-nothing
starts-all print s (a ∷ rest) = starts-append (print a) (print_all print rest) (s a) (starts-all print s rest)

-- ---- a text and its symbols

-- in front of this rest the text is cut into symbols that spell the value
pub record Cuts {A : Type 0} (G : Rule Symbol Fault A) (a : A) (text rest : List ℕ) (at : ℕ) : Type 0 where
  pub symbols : List Symbol
  pub next : ℕ
  pub is : cut at (text ++ rest) ≡ symbols ++ cut next rest
  pub spelled : G.Spells a symbols
  pub fit : first_unfit symbols ≡ None

-- in front of what may stand behind an expression
abbrev pub Prints : {A : Type 0} → Rule Symbol Fault A → A → List ℕ → Type 0
Prints G a text = (at : ℕ) (rest : List ℕ) → is_clear rest ≡ true → Cuts G a text rest at

-- a token that passes the test, in front of this rest
pub record IsWord (test : Symbol → Bool) (text rest : List ℕ) (at : ℕ) : Type 0 where
  pub symbol : Symbol
  pub next : ℕ
  pub is : cut at (text ++ rest) ≡ symbol ∷ cut next rest
  pub passes : test symbol ≡ true
  pub fit : is_unfit symbol.token ≡ false

-- in front of anything
abbrev pub Word : (Symbol → Bool) → List ℕ → Type 0
Word test text = (at : ℕ) (rest : List ℕ) → IsWord test text rest at

pub fit-append : (ss ts : List Symbol) → first_unfit ss ≡ None → first_unfit ts ≡ None → first_unfit (ss ++ ts) ≡ None
fit-append [] ts f g = g
fit-append (s ∷ ss) ts f g =
    let P : Bool → Type 0 = λ t. (if t then Some s.at else first_unfit ss) ≡ None → (if t then Some s.at else first_unfit (ss ++ ts)) ≡ None in
    (elim (is_unfit s.token) as P [ true ↦ λ e. cc | false ↦ λ e. fit-append ss ts e g ]) f

pub fit-one : (s : Symbol) (ts : List Symbol) → is_unfit s.token ≡ false → first_unfit ts ≡ None → first_unfit (s ∷ ts) ≡ None
fit-one s ts e f = rw e f

module _ {A : Type 0} (G : Rule Symbol Fault A) where
  -- the same text for another rule
  pub cuts-into : {B : Type 0} (H : Rule Symbol Fault B) (a : A) (b : B) (text rest : List ℕ) (at : ℕ) → ((ts : List Symbol) → G.Spells a ts → H.Spells b ts) → Cuts G a text rest at → Cuts H b text rest at
  cuts-into H a b text rest at f c = record { symbols = c.symbols; next = c.next; is = c.is; spelled = f c.symbols c.spelled; fit = c.fit }

  -- behind a token
  pub cuts-past : (test : Symbol → Bool) (a : A) (front text rest : List ℕ) (at : ℕ) → (w : IsWord test front (text ++ rest) at) → Cuts G a text rest w.next → Cuts (preceded_by (token test) G) a (front ++ text) rest at
  cuts-past test a front text rest at w c = record {
    symbols = w.symbol ∷ c.symbols;
    next = c.next;
    is = let e : (front ++ text) ++ rest ≡ front ++ (text ++ rest) = append_assoc front text rest in rw e (w.is ∙ ap (λ l. w.symbol ∷ l) c.is);
    spelled = spelled-past G a c.symbols c.spelled test w.symbol w.passes;
    fit = fit-one w.symbol c.symbols w.fit c.fit;
  }

  -- before a token
  pub cuts-before : (test : Symbol → Bool) (a : A) (text back rest : List ℕ) (at : ℕ) → (c : Cuts G a text (back ++ rest) at) → IsWord test back rest c.next → Cuts (followed_by G (token test)) a (text ++ back) rest at
  cuts-before test a text back rest at c w = record {
    symbols = c.symbols ++ w.symbol ∷ [];
    next = w.next;
    is =
        let e : (text ++ back) ++ rest ≡ text ++ (back ++ rest) = append_assoc text back rest in
        rw e (c.is ∙ ap (λ l. c.symbols ++ l) w.is ∙ sym (append_assoc c.symbols (w.symbol ∷ []) (cut w.next rest)));
    spelled = spelled-before G a c.symbols c.spelled test w.symbol w.passes;
    fit = fit-append c.symbols (w.symbol ∷ []) c.fit (fit-one w.symbol [] w.fit refl);
  }

  -- one after the other
  pub cuts-sequence : {B : Type 0} (H : A → Rule Symbol Fault B) (a : A) (b : B) (text more rest : List ℕ) (at : ℕ) → (c : Cuts G a text (more ++ rest) at) → Cuts (H a) b more rest c.next → Cuts (sequence G H) b (text ++ more) rest at
  cuts-sequence H a b text more rest at c d = record {
    symbols = c.symbols ++ d.symbols;
    next = d.next;
    is =
        let e : (text ++ more) ++ rest ≡ text ++ (more ++ rest) = append_assoc text more rest in
        rw e (c.is ∙ ap (λ l. c.symbols ++ l) d.is ∙ sym (append_assoc c.symbols d.symbols (cut d.next rest)));
    spelled = spelled-sequence G a c.symbols c.spelled H b d.symbols d.spelled;
    fit = fit-append c.symbols d.symbols c.fit d.fit;
  }

  pub cuts-nothing : (a : A) (rest : List ℕ) (at : ℕ) → G.Spells a [] → Cuts G a [] rest at
  cuts-nothing a rest at s = record { symbols = []; next = at; is = refl; spelled = s; fit = refl }

-- ---- rules that count, by the depth that they are read at

-- at each depth from this one on, with these primaries and no more than were used, the value's text is this
pub record Told {A : Type 0} (G : ℕ → Counting A) (d n m : ℕ) (a : A) (text : List ℕ) : Type 0 where
  pub used : ℕ
  pub within : used + m ≤ n
  pub prints : (e : ℕ) → d ≤ e → (k : ℕ) → Prints (G e (used + k)) (a, k) text

module _ {A B : Type 0} (G : ℕ → Counting A) (H : ℕ → Counting B) (d : ℕ) where
  -- one after the other
  pub told-both : (n m l : ℕ) (a : A) (b : B) (text more : List ℕ) → Starts more → Told G d n m a text → Told H d m l b more → Told (λ e. both (G e) (H e)) d n l (a, b) (text ++ more)
  told-both n m l a b text more s g h = record {
    used = g.used + h.used;
    within = let p = g.within in let q = h.within in omega arith;
    prints = λ e below k at rest c.
        let sum : g.used + h.used + k ≡ g.used + (h.used + k) = omega arith in
        let first = g.prints e below (h.used + k) at (more ++ rest) (s rest c) in
        let second = h.prints e below k first.next rest c in
        rw sum (cuts-sequence (G e (g.used + (h.used + k))) (λ p. made (λ q. ((p.0, q.0), q.1)) (H e p.1)) (a, h.used + k) ((a, b), k) text more rest at first
        (cuts-into (H e (h.used + k)) (made (λ q. ((a, q.0), q.1)) (H e (h.used + k))) (b, k) ((a, b), k) more rest first.next (λ ts w. ((b, k), refl, w)) second));
  }

-- for what a function makes of the value
pub told-given : {A B : Type 0} (G : ℕ → Counting A) (d : ℕ) (f : A → B) (n m : ℕ) (a : A) (text : List ℕ) → Told G d n m a text → Told (λ e. given f (G e)) d n m (f a) text
told-given G d f n m a text g = record {
  used = g.used;
  within = g.within;
  prints = λ e below k at rest c.
      cuts-into (G e (g.used + k)) (given f (G e) (g.used + k)) (a, k) (f a, k) text rest at (λ ts w. ((a, k), refl, w)) (g.prints e below k at rest c);
}

module _ {A : Type 0} (G : ℕ → Counting A) (d n m : ℕ) (a : A) (text : List ℕ) (g : Told G d n m a text) where
  -- with the same text for another rule
  pub told-into : {B : Type 0} (H : ℕ → Counting B) (b : B) → ((e k n : ℕ) (ts : List Symbol) → (G e n).Spells (a, k) ts → (H e n).Spells (b, k) ts) → Told H d n m b text
  told-into H b f = record {
    used = g.used;
    within = g.within;
    prints = λ e below k at rest c.
        cuts-into (G e (g.used + k)) (H e (g.used + k)) (a, k) (b, k) text rest at (f e k (g.used + k)) (g.prints e below k at rest c);
  }

  pub told-first : (H : ℕ → Counting A) → Told (λ e k. either (G e k) (H e k)) d n m a text
  told-first H = told-into (λ e k. either (G e k) (H e k)) a (λ e k n ts w. (true, w))

  pub told-second : (H : ℕ → Counting A) → Told (λ e k. either (H e k) (G e k)) d n m a text
  told-second H = told-into (λ e k. either (H e k) (G e k)) a (λ e k n ts w. (false, w))

  pub told-some : Told (λ e. maybe (G e)) d n m (Some a) text
  told-some = told-into (λ e. maybe (G e)) (Some a) (λ e k n ts w. (true, ((a, k), refl, w)))

  -- behind a token
  pub told-past : (test : Symbol → Bool) (front : List ℕ) → Word test front → Told (λ e. past test (G e)) d n m a (front ++ text)
  told-past test front w = record {
    used = g.used;
    within = g.within;
    prints = λ e below k at rest c.
        let first = w at (text ++ rest) in
        cuts-past (G e (g.used + k)) test (a, k) front text rest at first (g.prints e below k first.next rest c);
  }

  -- the text may be told otherwise
  pub told-as : (other : List ℕ) → text ≡ other → Told G d n m a other
  told-as other is = subst (λ t. Told G d n m a t) is g

-- nothing
pub told-none : {A : Type 0} (G : ℕ → Counting A) (d n : ℕ) → Told (λ e. maybe (G e)) d n n None []
told-none G d n = record {
  used = 0;
  within = omega arith;
  prints = λ e below k at rest c.
      let z : 0 + k ≡ k = omega arith in
      rw z (cuts-nothing (maybe (G e) k) (None, k) rest at (false, (refl, refl)));
}

-- a rule that counts nothing
pub told-plain : {A : Type 0} (G : ℕ → Rule Symbol Fault A) (d n : ℕ) (a : A) (text : List ℕ) → ((e : ℕ) → d ≤ e → Prints (G e) a text) → Told (λ e. plain (G e)) d n n a text
told-plain G d n a text p = record {
  used = 0;
  within = omega arith;
  prints = λ e below k at rest c.
      let z : 0 + k ≡ k = omega arith in
      rw z (cuts-into (G e) (plain (G e) k) a (a, k) text rest at (λ ts w. (a, refl, w)) (p e below at rest c));
}

-- any number of parts
module _ {A : Type 0} (G : ℕ → Counting A) (d : ℕ) (print : A → List ℕ) (starts : (a : A) → Starts (print a)) where
  pub told-nil : (n : ℕ) → Told (λ e. many_from (G e)) d n n [] []
  told-nil n = record {
    used = 0;
    within = omega arith;
    prints = λ e below k at rest c.
        let z : 0 + k ≡ k = omega arith in
        rw z (cuts-nothing (many_from (G e) k) ([], k) rest at (spelled-many_from_nil (G e) k));
  }

  pub told-cons : (n m l : ℕ) (a : A) (xs : List A) → Told G d n m a (print a) → Told (λ e. many_from (G e)) d m l xs (print_all print xs) → Told (λ e. many_from (G e)) d n l (a ∷ xs) (print a ++ print_all print xs)
  told-cons n m l a xs g h = record {
    used = g.used + h.used;
    within = let p = g.within in let q = h.within in omega arith;
    prints = λ e below k at rest c.
        let sum : g.used + h.used + k ≡ g.used + (h.used + k) = omega arith in
        let more = print_all print xs in
        let first = g.prints e below (h.used + k) at (more ++ rest) (starts-all print starts xs rest c) in
        let second = h.prints e below k first.next rest c in
        rw sum (record {
          symbols = first.symbols ++ second.symbols;
          next = second.next;
          is =
              let f : (print a ++ more) ++ rest ≡ print a ++ (more ++ rest) = append_assoc (print a) more rest in
              rw f (first.is ∙ ap (λ l. first.symbols ++ l) second.is ∙ sym (append_assoc first.symbols second.symbols (cut second.next rest)));
          spelled = spelled-many_from_cons (G e) (g.used + (h.used + k)) (h.used + k) k a xs first.symbols second.symbols first.spelled second.spelled;
          fit = fit-append first.symbols second.symbols first.fit second.fit;
        });
  }
