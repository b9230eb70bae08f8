-- All is tried ahead of the items, and what the parser of selections answers.
use Rattle.std.proofs.Common.{◌≡◌, ◌≢◌, ℕ, ◌-◌, ◌⊎◌, true, false, List, [], ◌∷◌, ◌++◌, length, Option, Some, None, Err, IfSome, refl, sym, ap, subst, inl, inr, arith}
use Rattle.grammar_rules.specs.declared.worked.selections.Word.{Word}
use Rattle.grammar_rules.specs.declared.worked.selections.Word.TheVariants.{Number, Name, Dash, Dot, Star, Comma}
use Rattle.grammar_rules.specs.declared.worked.selections.Class.{Class}
use Rattle.grammar_rules.specs.declared.worked.selections.Class.TheVariants.{Names, Dots, Stars}
use Rattle.grammar_rules.specs.declared.worked.selections.Selection.{Selection}
use Rattle.grammar_rules.specs.declared.worked.selections.Selection.TheVariants.{All, Listed}
use Rattle.grammar_rules.specs.declared.worked.selections.Stop.{Stop}
use Rattle.grammar_rules.specs.declared.worked.selections.Stop.TheVariants.{Unfit, ManyItems, ManyValues, Memory}
use Rattle.grammar_rules.specs.Rules.{Rule, Last, fits, faulty, takes, faults, FrontOfOne, token, nothing, made, preceded_by}
use Rattle.grammar_rules.specs.Readers.{Outcome, found, failed, read_made, read_past, answer_named}
use Rattle.grammar_rules.specs.CountedReaders.{read_chain, read_links, read_many_from}
use Rattle.grammar_rules.specs.Places.{Answer, value, refusal, named_first, AnswersNamed}
use Rattle.grammar_rules.specs.WorkedSelections.{Fault, of, is, name, item, items, all_of, selection, star_name}
use Rattle.grammar_rules.specs.WorkedSelectionReaders.{read_name, read_head, read_name_rest, read_item, read_items, read_all_of, read_selection}
use Rattle.grammar_rules.specs.WorkedSelecting.{fault_of, refused_at, error_of, answer_of}
use Rattle.grammar_rules.proofs.Clear.{Sight}
use Rattle.grammar_rules.proofs.Alternatives.{cons_not_nil}
use Rattle.grammar_rules.proofs.Terminals.{nothing_sight}
use Rattle.grammar_rules.proofs.Right.{Right}
use Rattle.grammar_rules.proofs.Reading.{Reads, past_sight, reads-nothing, reads-made, reads-past}
use Rattle.grammar_rules.proofs.Begun.{FrontBehind, no_symbol, one_symbol, front_behind, TextBehind, text_behind, begun_text, begun_front, past_text, past_front, reads-begun}
use Rattle.grammar_rules.proofs.Ahead.{Ahead, ahead_sight, refused_no_front, reads-ahead}
use Rattle.grammar_rules.proofs.Answering.{answers_named}
use Rattle.grammar_rules.proofs.OneAnswer.{one_named_answer}
use Rattle.grammar_rules.proofs.WorkedSelectionReads.{on, seen_name, items_sight, reads-items}

-- ---- the texts and fronts of all

named_word : (w : Word) (a : ℕ) → name w ≡ takes a → w ≡ Name a
named_word (Number n) a e = cc
named_word (Name n) a e = let p : n ≡ a = cc in ap Name p
named_word Dash a e = cc
named_word Dot a e = cc
named_word Star a e = cc
named_word Comma a e = cc

dot_word : (w : Word) → of Dots w ≡ true → w ≡ Dot
dot_word (Number n) e = cc
dot_word (Name n) e = cc
dot_word Dash e = cc
dot_word Dot e = refl
dot_word Star e = cc
dot_word Comma e = cc

star_word : (w : Word) → of Stars w ≡ true → w ≡ Star
star_word (Number n) e = cc
star_word (Name n) e = cc
star_word Dash e = cc
star_word Dot e = cc
star_word Star e = refl
star_word Comma e = cc

no_fault : (w : Word) (k : Fault) → name w ≡ faults k → ⊥
no_fault (Number n) k e = cc
no_fault (Name n) k e = cc
no_fault Dash k e = cc
no_fault Dot k e = cc
no_fault Star k e = cc
no_fault Comma k e = cc

-- a front of all is one of four
data AllFront (last : Last Fault) (ts : List Word) : Type 0 where
  front0 : last ≡ fits → ts ≡ [] → AllFront last ts
  front1 : last ≡ fits → (a : ℕ) → ts ≡ Name a ∷ [] → AllFront last ts
  front2 : last ≡ fits → (a : ℕ) → ts ≡ Name a ∷ Dot ∷ [] → AllFront last ts
  front3 : last ≡ fits → (a : ℕ) → ts ≡ Name a ∷ Dot ∷ Star ∷ [] → AllFront last ts

-- the rest of all behind its name
abbrev starred : ℕ → Rule Word Fault ℕ
starred a = preceded_by (token (of Stars)) (nothing a)

abbrev dotted : ℕ → Rule Word Fault ℕ
dotted a = preceded_by (token (of Dots)) (starred a)

module _ (a : ℕ) where
  reads-starred : Reads (starred a) (past_sight (of Stars) nothing_sight) (read_past (of Stars) (λ ts. found a ts))
  reads-starred = reads-past (of Stars) (nothing a) nothing_sight (λ ts. found a ts) (reads-nothing a)

  reads-dotted : Reads (dotted a) (past_sight (of Dots) (past_sight (of Stars) nothing_sight)) (read_past (of Dots) (read_past (of Stars) (λ ts. found a ts)))
  reads-dotted = reads-past (of Dots) (starred a) (past_sight (of Stars) nothing_sight) (read_past (of Stars) (λ ts. found a ts)) reads-starred

abbrev all_sight : Sight Class
all_sight = record { first = λ c. is Names c; null = false; more = λ c. false }

reads-all_of : Reads all_of (on all_sight) read_all_of
unfolding read_all_of
reads-all_of =
    reads-begun name dotted (λ a. past_sight (of Dots) (past_sight (of Stars) nothing_sight)) (λ a. read_past (of Dots) (read_past (of Stars) (λ ts. found a ts)))
    (of Names) seen_name reads-dotted (λ w. false) (λ a w e. e)

module _ (a : ℕ) (last : Last Fault) (ts : List Word) where
  front_starred : (r : List Word) → ts ≡ Name a ∷ Dot ∷ r → ((last ≡ fits) × (r ≡ [])) ⊎ ((s : Word) × (q : List Word) × (r ≡ s ∷ q) × (of Stars s ≡ true) × (nothing {T = Word} {K = Fault} a).Front last q) → AllFront last ts
  front_starred r e (inl f) = front2 f.0 a (let g = f.1 in cc)
  front_starred r e (inr f) = front3 f.4.0 a (let p = star_word f.0 f.3 in let q = f.4.1 in let g = f.2 in cc)

  front_dotted : (r : List Word) → ts ≡ Name a ∷ r → ((last ≡ fits) × (r ≡ [])) ⊎ ((d : Word) × (q : List Word) × (r ≡ d ∷ q) × (of Dots d ≡ true) × (starred a).Front last q) → AllFront last ts
  front_dotted r e (inl f) = front1 f.0 a (let g = f.1 in cc)
  front_dotted r e (inr f) =
      front_starred f.1 (let p = dot_word f.0 f.3 in let g = f.2 in cc) (past_front (of Stars) (nothing a) (reads-nothing {T = Word} {K = Fault} a).clear.fronts last f.1 f.4)

one_named : (last : Last Fault) (w : Word) → FrontOfOne name last (w ∷ []) → AllFront last (w ∷ [])
one_named fits w f = front1 refl f.0 (let p = named_word w f.0 f.1 in cc)
one_named (faulty k) w f = absurd (no_fault w k f)

all_front_cases : (last : Last Fault) (ts : List Word) → FrontBehind name dotted last ts → AllFront last ts
all_front_cases last ts (no_symbol e f) = front0 e f
all_front_cases last ts (one_symbol w e f) = subst (λ l. AllFront last l) (sym e) (one_named last w f)
all_front_cases last ts (front_behind w a r e f v) =
    front_dotted a last ts r (let p = named_word w a f in cc) (past_front (of Dots) (starred a) (reads-starred a).clear.fronts last r v)

all_front : (last : Last Fault) (ts : List Word) → all_of.Front last ts → AllFront last ts
all_front last ts f = all_front_cases last ts (begun_front name dotted last ts f)

-- a text of all
all_text_cases : (b : ℕ) (ts : List Word) → TextBehind name dotted b ts → (a : ℕ) × (ts ≡ Name a ∷ Dot ∷ Star ∷ [])
all_text_cases b ts (text_behind w a r e f v) =
    let d = past_text (of Dots) (starred a) b r v in
    let s = past_text (of Stars) (nothing a) b d.1 d.4 in
    let p = named_word w a f in
    let q = dot_word d.0 d.3 in
    let z = star_word s.0 s.3 in
    let g = d.2 in
    let h = s.2 in
    let n = s.4.1 in
    (a, cc)

all_text : (b : ℕ) (ts : List Word) → all_of.Spells b ts → (a : ℕ) × (ts ≡ Name a ∷ Dot ∷ Star ∷ [])
all_text b ts w = all_text_cases b ts (begun_text name dotted b ts w)

-- ---- the items of a selection, and all

abbrev listed : Rule Word Fault Selection
listed = made Listed (items 3 4)

abbrev all : Rule Word Fault Selection
all = made All all_of

front_of_name : (a : ℕ) → listed.Front fits (Name a ∷ [])
unfolding item
front_of_name a = inl (inr (false, inl (a, refl)))

front_of_dot : (a : ℕ) → listed.Front fits (Name a ∷ Dot ∷ [])
unfolding item
front_of_dot a =
    inl (inr (false, inr (record { value = (a, 3); left = Name a ∷ []; right = Dot ∷ []; joined = refl; whole = (a, refl, refl); after = inr (1, inr (true, inl (inl (Dot, refl)))) })))

text_of_all : (a : ℕ) → all.Spells (All a) (Name a ∷ Dot ∷ Star ∷ [])
text_of_all a = (
  a,
  refl,
  record {
    value = a;
    left = Name a ∷ [];
    right = Dot ∷ Star ∷ [];
    joined = refl;
    whole = refl;
    after = record { value = Dot; left = Dot ∷ []; right = Star ∷ []; joined = refl; whole = refl; after = record { value = Star; left = Star ∷ []; right = []; joined = refl; whole = refl; after = (refl, refl) } };
  },
)

shared_cases : (ts : List Word) → AllFront fits ts → listed.Front fits ts ⊎ ((s : Selection) × all.Spells s ts)
shared_cases ts (front0 l e) = inl (rw e (reads-items 3 4).clear.fronts.nil)
shared_cases ts (front1 l a e) = inl (rw e (front_of_name a))
shared_cases ts (front2 l a e) = inl (rw e (front_of_dot a))
shared_cases ts (front3 l a e) = inr (All a, rw e (text_of_all a))

-- the reader of the items refuses the star
refused_star : (a : ℕ) (r : List Word) → read_items 3 4 (Name a ∷ Dot ∷ Star ∷ r) ≡ failed None (Star ∷ r)
unfolding read_items read_chain read_item read_head read_name_rest read_links read_many_from read_name
refused_star a r = refl

own_text : (a : ℕ) (m : Last Fault) (r : List Word) → (items 3 4).Front m (Name a ∷ Dot ∷ Star ∷ r) → ⊥
own_text a m r f =
    let ts : List Word = Name a ∷ Dot ∷ Star ∷ r in
    refused_no_front (items 3 4) ts Star r m (subst (λ o. Right (items 3 4) ts o) (refused_star a r) ((reads-items 3 4).right ts)) f

not_faulty : (k : Fault) (ts : List Word) → AllFront (faulty k) ts → ⊥
not_faulty k ts (front0 l e) = cc
not_faulty k ts (front1 l a e) = cc
not_faulty k ts (front2 l a e) = cc
not_faulty k ts (front3 l a e) = cc

ends_there : (pre : List Word) (t x y z : Word) → pre ++ t ∷ [] ≡ x ∷ y ∷ z ∷ [] → t ≡ z
ends_there [] t x y z e = cc
ends_there (p ∷ []) t x y z e = cc
ends_there (p ∷ q ∷ []) t x y z e = cc
ends_there (p ∷ q ∷ s ∷ pre) t x y z e = let n : pre ++ t ∷ [] ≡ [] = cc in absurd (cons_not_nil pre t [] n)

ahead : Ahead listed all (of Stars)
ahead = record {
  shared = λ ts f. shared_cases ts (all_front fits ts f);
  own = λ s pre m r w f. let t = all_text w.0 pre w.2 in own_text t.0 m r (subst (λ l. (items 3 4).Front m (l ++ r)) t.1 f);
  faultless = λ k ts f. not_faulty k ts (all_front (faulty k) ts f);
  ends = λ a b pre t w v. let x = all_text v.0 (pre ++ t ∷ []) v.2 in rw (ends_there pre t (Name x.0) Dot Star x.1) refl;
}

reads-selection : Reads (selection 3 4) (ahead_sight (on items_sight) (on all_sight) (of Stars)) (read_selection 3 4)
unfolding selection read_selection
reads-selection =
    reads-ahead listed all (on items_sight) (on all_sight) (of Stars) (λ ts. read_made Listed (read_items 3 4 ts)) (λ ts. read_made All (read_all_of ts))
    (reads-made Listed (items 3 4) (on items_sight) (read_items 3 4) (reads-items 3 4)) (reads-made All all_of (on all_sight) read_all_of reads-all_of) ahead refl

-- ---- answers

abbrev Said : List Word → Answer Fault Selection → Type 0
Said ts x = AnswersNamed star_name (selection 3 4) ts x

module _ (ts : List Word) where
  said : (o : Outcome Word Fault Selection) → read_selection 3 4 ts ≡ o → Said ts (answer_named star_name (length ts) o)
  said o e = answers_named (selection 3 4) reads-selection.clear.fronts star_name ts o (subst (λ q. Right (selection 3 4) ts q) e (reads-selection.right ts))

  pub at_end : (s : Selection) (left : List Word) → read_selection 3 4 ts ≡ found s left → length left ≡ 0 → Said ts (value s)
  at_end s [] e l = said (found s []) e
  at_end s (w ∷ left) e l = absurd (omega arith)

  named_error : (w : Word) (at : ℕ) → answer_of (Err (refused_at (star_name w) at)) ≡ Some (refusal (star_name w) at)
  named_error (Number n) at = refl
  named_error (Name n) at = refl
  named_error Dash at = refl
  named_error Dot at = refl
  named_error Star at = refl
  named_error Comma at = refl

  first_error : (left : List Word) (at : ℕ) → answer_of (Err (refused_at (named_first star_name left) at)) ≡ Some (refusal (named_first star_name left) at)
  first_error [] at = refl
  first_error (w ∷ left) at = named_error w at

  pub before_end : (s : Selection) (left : List Word) → read_selection 3 4 ts ≡ found s left → (length left ≡ 0 → ⊥) → IfSome (answer_of (Err (refused_at (named_first star_name left) (length ts - length left)))) (Said ts)
  before_end s [] e l = absurd (l refl)
  before_end s (w ∷ left) e l = rw (named_error w (length ts - length (w ∷ left))) (said (found s (w ∷ left)) e)

  pub stopped : (k : Stop) (left : List Word) → (k ≢ Memory → read_selection 3 4 ts ≡ failed (fault_of k) left) → IfSome (answer_of (Err (error_of k left (length ts - length left)))) (Said ts)
  stopped Unfit left e = rw (first_error left (length ts - length left)) (said (failed None left) (e (λ q. cc)))
  stopped ManyItems left e = said (failed (fault_of ManyItems) left) (e (λ q. cc))
  stopped ManyValues left e = said (failed (fault_of ManyValues) left) (e (λ q. cc))
  stopped Memory left e = tt

  -- the grammar says one thing of the words
  pub only_said : (r : Option (Answer Fault Selection)) → IfSome r (Said ts) → (x : Answer Fault Selection) → Said ts x → IfSome r (λ y. y ≡ x)
  only_said None w x v = tt
  only_said (Some y) w x v = one_named_answer (selection 3 4) (ahead_sight (on items_sight) (on all_sight) (of Stars)) reads-selection.clear ts star_name y x w v
