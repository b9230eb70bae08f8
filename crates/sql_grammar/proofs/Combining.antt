-- How the rules over tokens and their readers are put together: one law a form, with lookaheads over the classes of tokens, whose
-- side conditions are tests over all classes.
use Rattle.std.proofs.Common.{◌≡◌, ℕ, nat_le, ◌&&◌, Bool, true, false, List, [], ◌∷◌, Option, Some, None, is_some, refl, ◌∙◌, if◌then◌else◌}
use Rattle.std.specs.Prelude.{chars}
use Rattle.sql_tokens.specs.declared.class.Class.{Class}
use Rattle.sql_tokens.specs.declared.class.Class.TheVariants as k
use Rattle.sql_tokens.specs.Classes.{same_class, all_classes}
use Rattle.sql_tokens.specs.TokenForms.{Token}
use Rattle.sql_tokens.specs.Cutting.{Symbol}
use Rattle.sql_tokens.proofs.ClassLaws.{every}
use Rattle.text_view.specs.LikePattern.{pattern_parts}
use Rattle.grammar_rules.specs.Rules.{Rule, Verdict, takes, faults, refuses, terminal, begun, either}
use Rattle.grammar_rules.specs.Readers.{Outcome, read_terminal, is_seen, read_begun, read_either}
use Rattle.grammar_rules.specs.Counted.{plain, one_more, given, both, after, past, before, maybe, chain}
use Rattle.grammar_rules.specs.CountedReaders.{read_plain, read_one_more, read_given, read_both, read_after, read_counted_past, read_counted_before, read_maybe, read_chain}
use Rattle.grammar_rules.proofs.Clear.{Sight}
use Rattle.grammar_rules.proofs.Sequences.{sequence_sight}
use Rattle.grammar_rules.proofs.Reading.{Reads, past_sight, before_sight}
use Rattle.grammar_rules.proofs.Choices.{either_sight, optional_sight, reads-either}
use Rattle.grammar_rules.proofs.Many.{many_sight}
use Rattle.grammar_rules.proofs.Counts.{seen_limited, reads_look, reads-plain, reads-one_more, reads-given, reads-both, reads-after, reads-counted_past, reads-counted_before, reads-maybe}
use Rattle.grammar_rules.proofs.CountedMany.{reads-chain}
use Rattle.grammar_rules.proofs.Begun.{reads-begun, reads-counted_begun}
use Rattle.grammar_rules.proofs.Classes.{by_class, apart_in, distinct_in, seen_in, more_in, apart_by, distinct_by, more_by, reads_by}
use Rattle.sql_grammar.specs.Marks.{Fault, wrong_number, bad_escape, too_deep, too_many, class, of, those, whole_of, whole_within, digits_within, escape_by, escape, text_in, number_in, told_by}
use Rattle.sql_grammar.specs.Expressions.{Counting, word, opening, enclosed, perhaps}
use Rattle.sql_grammar.specs.Readers.{Reader, read_enclosed, read_perhaps}

-- the lookahead over tokens that tells them by their class
abbrev pub on : Sight Class → Sight Symbol
on s = by_class class s

-- the reader reads the rule
abbrev pub Readable : {A : Type 0} → Rule Symbol Fault A → Sight Class → (List Symbol → Outcome Symbol Fault A) → Type 0
Readable G s read = Reads G (on s) read

-- the same from each count
abbrev pub Countable : {A : Type 0} → Counting A → Sight Class → Reader A → Type 0
Countable G s read = (n : ℕ) → Reads (G n) (on s) (read n)

-- ---- lookaheads

abbrev pub is : Class → Class → Bool
is c d = same_class c d

-- one token
abbrev pub one : (Class → Bool) → Sight Class
one test = record { first = test; null = false; more = λ c. false }

-- what begins and goes on so
abbrev pub seen : (Class → Bool) → (Class → Bool) → Sight Class
seen first more = record { first = first; null = false; more = more }

-- the same, where nothing may stand too
abbrev pub seen_or_nothing : (Class → Bool) → (Class → Bool) → Sight Class
seen_or_nothing first more = record { first = first; null = true; more = more }

-- ---- what terminals see

pub seen_if : {A : Type 0} (b : Bool) (v : Verdict Fault A) → is_seen v ≡ true → is_seen (if b then v else refuses) ≡ b
seen_if true v e = e
seen_if false v e = refl

pub seen_those : {A : Type 0} (test : Class → Bool) (spelled : Token → A) (s : Symbol) → is_seen (those test spelled s) ≡ test (class s)
seen_those test spelled s = seen_if (test (class s)) (takes (spelled s.token)) refl

pub seen_word : (c : Class) (s : Symbol) → is_seen (word c s) ≡ of c s
seen_word c s = seen_if (of c s) (takes s) refl

pub seen_opening : (room : Bool) (c : Class) (s : Symbol) → is_seen (opening room c s) ≡ of c s
seen_opening room c s = seen_limited too_deep room (word c s) ∙ seen_word c s

pub seen_told_by : {A : Type 0} (o : Option A) → is_seen (told_by o) ≡ is_some o
seen_told_by None = refl
seen_told_by (Some a) = refl

seen_either_way : {A : Type 0} (b : Bool) (a : A) (j : Fault) → is_seen (if b then takes a else faults j) ≡ true
seen_either_way true a j = refl
seen_either_way false a j = refl

seen_whole : (least most : ℕ) (o : Option ℕ) → is_seen (whole_within least most o) ≡ true
seen_whole least most None = refl
seen_whole least most (Some n) = seen_either_way (nat_le least n && nat_le n most) n wrong_number

pub seen_digits : (least most : ℕ) (s : Symbol) → is_seen (digits_within least most s) ≡ of k.WholeNumber s
seen_digits least most s = seen_if (of k.WholeNumber s) (whole_within least most (whole_of (number_in s.token))) (seen_whole least most (whole_of (number_in s.token)))

pub seen_escape_by : (pattern cs : List ℕ) → is_seen (escape_by pattern cs) ≡ true
seen_escape_by pattern [] = refl
seen_escape_by pattern (c ∷ []) = seen_either_way (is_some (pattern_parts (Some c) (chars pattern))) (Some c) bad_escape
seen_escape_by pattern (c ∷ d ∷ cs) = refl

pub seen_escape : (pattern : List ℕ) (s : Symbol) → is_seen (escape pattern s) ≡ of k.Text s
seen_escape pattern s = seen_if (of k.Text s) (escape_by pattern (chars (text_in s.token))) (seen_escape_by pattern (chars (text_in s.token)))

-- ---- terminals

pub reads_terminal : {A : Type 0} (look : Symbol → Verdict Fault A) (test : Class → Bool) → ((s : Symbol) → is_seen (look s) ≡ test (class s)) → Readable (terminal look) (one test) (read_terminal look)
reads_terminal look test e = reads_look look (λ s. test (class s)) e

pub reads_counted : {A : Type 0} (look : Symbol → Verdict Fault A) (test : Class → Bool) → ((s : Symbol) → is_seen (look s) ≡ test (class s)) → Countable (one_more too_many look) (one test) (read_one_more too_many look)
reads_counted look test e n = reads-one_more too_many look (λ s. test (class s)) e n

-- ---- the lookahead as it is written

pub written : {A : Type 0} (G : Counting A) (s t : Sight Class) (read : Reader A) → seen_in all_classes s t ≡ true → Countable G s read → Countable G t read
written G s t read e g n = reads_by class all_classes every s (G n) t (read n) e (g n)

-- ---- forms

pub plainly : {A : Type 0} (G : Rule Symbol Fault A) (s : Sight Class) (read : List Symbol → Outcome Symbol Fault A) → Readable G s read → Countable (plain G) s (read_plain read)
plainly G s read g n = reads-plain G (on s) read g n

pub as_given : {A B : Type 0} (f : A → B) (G : Counting A) (s : Sight Class) (read : Reader A) → Countable G s read → Countable (given f G) s (read_given f read)
as_given f G s read g n = reads-given f G (on s) read g n

pub in_pair : {A B : Type 0} (G : Counting A) (H : Counting B) (s t u : Sight Class) (read : Reader A) (next : Reader B) → apart_in all_classes s t ≡ true → seen_in all_classes (sequence_sight s t) u ≡ true → Countable G s read → Countable H t next → Countable (both G H) u (read_both read next)
in_pair G H s t u read next off e g h =
    written (both G H) (sequence_sight s t) u (read_both read next) e
    (λ n. reads-both G H (on s) (on t) read next g h (apart_by class all_classes every s t off) n)

pub behind : {A : Type 0} (test : Class → Bool) (G : Counting A) (s : Sight Class) (read : Reader A) → Countable G s read → Countable (past (λ s. test (class s)) G) (past_sight test s) (read_counted_past (λ s. test (class s)) read)
behind test G s read g n = reads-counted_past (λ s. test (class s)) G (on s) read g n

pub closed : {A : Type 0} (G : Counting A) (s : Sight Class) (read : Reader A) (c : Class) → s.null ≡ false → apart_in all_classes s (one (is c)) ≡ true → Countable G s read → Countable (before G (of c)) (before_sight s) (read_counted_before read (of c))
closed G s read c wants off g n = reads-counted_before G (on s) read (of c) g wants (apart_by class all_classes every s (one (is c)) off) n

pub maybe_so : {A : Type 0} (G : Counting A) (s u : Sight Class) (read : Reader A) → s.null ≡ false → seen_in all_classes (optional_sight s) u ≡ true → Countable G s read → Countable (maybe G) u (read_maybe (λ x. s.first (class x)) read)
maybe_so G s u read wants e g =
    written (maybe G) (optional_sight s) u (read_maybe (λ x. s.first (class x)) read) e (λ n. reads-maybe G (on s) read g wants n)

pub one_or_other : {A : Type 0} (G H : Counting A) (s t u : Sight Class) (read other : Reader A) → distinct_in all_classes s t ≡ true → (s.null && t.null) ≡ false → s.null ≡ false → seen_in all_classes (either_sight s t) u ≡ true → Countable G s read → Countable H t other → Countable (λ n. either (G n) (H n)) u (λ n. read_either (λ x. s.first (class x)) (read n) (other n))
one_or_other G H s t u read other off nulls wants e g h =
    written (λ n. either (G n) (H n)) (either_sight s t) u (λ n. read_either (λ x. s.first (class x)) (read n) (other n)) e
    (λ n. reads-either (G n) (H n) (on s) (on t) (read n) (other n) (g n) (h n) (distinct_by class all_classes every s t off) wants)

-- what one token begins
pub behind_one : {A B : Type 0} (look : Symbol → Verdict Fault A) (H : A → Counting B) (test more : Class → Bool) (each : A → Sight Class) (next : A → Reader B) → ((s : Symbol) → is_seen (look s) ≡ test (class s)) → ((a : A) → more_in all_classes (each a) more ≡ true) → ((a : A) → Countable (H a) (each a) (next a)) → Countable (λ n. begun look (λ a. H a n)) (seen test more) (λ n. read_begun look (λ a. next a n))
behind_one look H test more each next e wide h n =
    reads-begun look (λ a. H a n) (λ a. on (each a)) (λ a. next a n) (λ s. test (class s)) e (λ a. h a n) (λ x. more (class x)) (λ a x f. more_by class all_classes every (each a) more (wide a) x f)

-- what one token that is counted begins
pub behind_counted : {A B : Type 0} (look : Symbol → Verdict Fault A) (H : A → Counting B) (test more : Class → Bool) (each : A → Sight Class) (next : A → Reader B) → ((s : Symbol) → is_seen (look s) ≡ test (class s)) → ((a : A) → more_in all_classes (each a) more ≡ true) → ((a : A) → Countable (H a) (each a) (next a)) → Countable (after (one_more too_many look) H) (seen test more) (read_after (read_one_more too_many look) next)
behind_counted look H test more each next e wide h n =
    reads-counted_begun (one_more too_many look) H (λ a. on (each a)) (read_one_more too_many look) next (λ s. test (class s)) (reads_counted look test e) h (λ x. more (class x)) (λ a x f. more_by class all_classes every (each a) more (wide a) x f) n

-- one and others
pub in_chain : {A B C : Type 0} (node : A → List B → C) (G : Counting A) (H : Counting B) (s t u : Sight Class) (first : Reader A) (part : Reader B) → t.null ≡ false → apart_in all_classes t t ≡ true → apart_in all_classes s t ≡ true → seen_in all_classes (sequence_sight s (many_sight t)) u ≡ true → Countable G s first → Countable H t part → Countable (chain node G H) u (read_chain node (λ x. t.first (class x)) first part)
in_chain node G H s t u first part wants loops off e g h =
    written (chain node G H) (sequence_sight s (many_sight t)) u (read_chain node (λ x. t.first (class x)) first part) e
    (λ n. reads-chain node G H (on s) (on t) first part g h wants (apart_by class all_classes every t t loops) (apart_by class all_classes every s t off) n)

-- ( G )
pub in_brackets : {A : Type 0} (room : Bool) (G : Counting A) (s : Sight Class) (read : Reader A) → s.null ≡ false → apart_in all_classes s (one (is k.RightParenthesis)) ≡ true → Countable G s read → Countable (enclosed room G) (one (is k.LeftParenthesis)) (read_enclosed room read)
in_brackets room G s read wants off g n =
    reads-begun (opening room k.LeftParenthesis) (λ a. before G (of k.RightParenthesis) n) (λ a. before_sight (on s)) (λ a. read_counted_before read (of k.RightParenthesis) n) (of k.LeftParenthesis)
    (seen_opening room k.LeftParenthesis) (λ a. closed G s read k.RightParenthesis wants off g n) (λ x. false) (λ a x f. f)

-- one after the other, where the first one's value tells the second
pub in_turn : {A B : Type 0} (G : Counting A) (H : A → Counting B) (s t u : Sight Class) (read : Reader A) (next : A → Reader B) → apart_in all_classes s t ≡ true → seen_in all_classes (sequence_sight s t) u ≡ true → Countable G s read → ((a : A) → Countable (H a) t (next a)) → Countable (after G H) u (read_after read next)
in_turn G H s t u read next off e g h =
    written (after G H) (sequence_sight s t) u (read_after read next) e
    (λ n. reads-after G H (on s) (on t) read next g h (apart_by class all_classes every s t off) n)

-- [G] H
pub in_perhaps : {A B : Type 0} (G : Counting A) (H : Option A → Counting B) (s t v u : Sight Class) (read : Reader A) (next : Option A → Reader B) → apart_in all_classes s t ≡ true → seen_in all_classes (sequence_sight s t) v ≡ true → distinct_in all_classes v t ≡ true → (v.null && t.null) ≡ false → v.null ≡ false → seen_in all_classes (either_sight v t) u ≡ true → Countable G s read → ((o : Option A) → Countable (H o) t (next o)) → Countable (perhaps G H) u (read_perhaps (λ x. v.first (class x)) read next)
in_perhaps G H s t v u read next off e apart nulls wants f g h =
    one_or_other (after G (λ a. H (Some a))) (H None) v t u (read_after read (λ a. next (Some a))) (next None) apart nulls wants f
    (in_turn G (λ a. H (Some a)) s t v read (λ a. next (Some a)) off e g (λ a. h (Some a))) (h None)
