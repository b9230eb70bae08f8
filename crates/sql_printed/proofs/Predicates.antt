-- Comparisons, BETWEEN, IN, LIKE and IS are told again.
use Rattle.std.proofs.Common.{◌≡◌, ℕ, ◌+◌, ◌==◌, Bool, true, false, List, [], ◌∷◌, ◌++◌, map, Option, Some, None, is_some, refl, sym, ap, ◌∙◌, subst, arith, if◌then◌else◌, codes, chars, length}
use Rattle.std.proofs.lemmas.Bool.Decides.{nat_tests}
use Rattle.std.specs.Char.{encode_utf8}
use Rattle.text_view.specs.LikePattern.{pattern_parts}
use Rattle.sql_tokens.specs.declared.class.Class.TheVariants as k
use Rattle.sql_tokens.specs.Classes.{same_class}
use Rattle.sql_tokens.specs.TokenForms.{Token, text_literal, punctuation, token_from, punctuation_token, begins, is_word_byte}
use Rattle.sql_tokens.specs.Keywords.{class_of_word}
use Rattle.sql_tokens.specs.Cutting.{Symbol, cut}
use Rattle.grammar_rules.specs.Rules.{Rule, takes, faults, refuses, terminal, token, nothing, made, either, begun, preceded_by}
use Rattle.grammar_rules.specs.Counted.{plain, given, both, after, past, list_of}
use Rattle.grammar_rules.proofs.Printing.{spelled-token}
use Rattle.sql_grammar.specs.declared.tree.Expr.{Expr}
use Rattle.sql_grammar.specs.declared.tree.CompareOp.{CompareOp}
use Rattle.sql_grammar.specs.declared.tree.CompareOp.TheVariants as compares
use Rattle.sql_grammar.specs.Marks.{Fault, class, of, one_told, bad_escape, compare_op, text, text_in, escape, escape_by}
use Rattle.sql_grammar.specs.Expressions.{Counting, room_of, Tail, comparing, lying, among, liking, being_null, being_missing, over_class, comparison, between, members, in_members, like, negatable}
use Rattle.sql_printed.specs.Shown.{shown, at, compare_text, not_text, literal_text, escape_text, joined, enclosed_text, doubled}
use Rattle.sql_printed.proofs.Telling.{is_clear, ends_words, Starts, Prints, IsWord, Word, Told, told-into, told-as, told-plain, cuts-into, cuts-past, cuts-sequence, cuts-nothing}
use Rattle.sql_printed.proofs.Words.{if_true, and_left, keyword_blanks, keyword_behind}
use Rattle.sql_printed.proofs.Characters.{char_again}
use Rattle.sql_printed.proofs.Quotes.{cut_literal, undoubled_doubled}
use Rattle.sql_printed.proofs.Again.{AllGood, good_right, taken_one, OnePrints, cuts-one, Again, again-both, again-given, again-past, again-as}
use Rattle.sql_printed.proofs.Enclosed.{again-enclosed, more_room}
use Rattle.sql_printed.proofs.Listed.{again-list, list_text}
use Rattle.sql_printed.proofs.Levels.{inner_of, rule_at, cuts-behind}
use Rattle.sql_printed.proofs.Folds.{joined_rest}
use Rattle.sql_printed.proofs.Operators.{Owned, again-own, OneAlways, again-op}

compare_op_prints : (op : CompareOp) → OneAlways (one_told compare_op) op (compare_text op)
unfolding cut token_from punctuation_token
compare_op_prints compares.Equal place rest = record { symbol = record { at = place + 1; token = punctuation k.Equal }; next = place + 1 + 1 + 1; is = refl; taken = refl; fit = refl }
compare_op_prints compares.NotEqual place rest = record { symbol = record { at = place + 1; token = punctuation k.NotEqual }; next = place + 1 + 1 + 1 + 1; is = refl; taken = refl; fit = refl }
compare_op_prints compares.Less place rest = record { symbol = record { at = place + 1; token = punctuation k.Less }; next = place + 1 + 1 + 1; is = refl; taken = refl; fit = refl }
compare_op_prints compares.AtMost place rest = record { symbol = record { at = place + 1; token = punctuation k.LessOrEqual }; next = place + 1 + 1 + 1 + 1; is = refl; taken = refl; fit = refl }
compare_op_prints compares.Greater place rest = record { symbol = record { at = place + 1; token = punctuation k.Greater }; next = place + 1 + 1 + 1; is = refl; taken = refl; fit = refl }
compare_op_prints compares.AtLeast place rest = record { symbol = record { at = place + 1; token = punctuation k.GreaterOrEqual }; next = place + 1 + 1 + 1 + 1; is = refl; taken = refl; fit = refl }

-- ---- the text of a tail

abbrev pub tail_text : Tail → List ℕ
tail_text (comparing op b) = compare_text op ++ at 3 (shown b)
tail_text (lying t low high) = not_text t ++ (codes " BETWEEN " ++ (at 3 (shown low) ++ (codes " AND " ++ at 3 (shown high))))
tail_text (among t xs) = not_text t ++ (codes " IN (" ++ (joined (codes ", ") (map (at 7) (map shown xs)) ++ codes ")"))
tail_text (liking t pattern esc) = not_text t ++ (codes " LIKE " ++ (literal_text pattern ++ escape_text esc))
tail_text (being_null t) = codes " IS" ++ (not_text t ++ codes " NULL")
tail_text (being_missing t) = codes " IS" ++ (not_text t ++ codes " MISSING")

-- behind their first words
abbrev pub between_body : Tail → List ℕ
between_body (lying t low high) = at 3 (shown low) ++ (codes " AND " ++ at 3 (shown high))
between_body _ = []

abbrev pub among_body : Tail → List ℕ
among_body (among t xs) = enclosed_text (joined (codes ", ") (map (at 7) (map shown xs)))
among_body _ = []

abbrev pub like_body : Tail → List ℕ
like_body (liking t pattern esc) = literal_text pattern ++ escape_text esc
like_body _ = []

pub not_before : (rest : List ℕ) (place : ℕ) → begins is_word_byte rest ≡ false → IsWord (of k.Not) (codes " NOT") rest place
unfolding class_of_word same_class
not_before rest place b = keyword_behind k.Not (codes "NOT") rest place refl b

between_word : Word (of k.Between) (codes " BETWEEN ")
unfolding class_of_word same_class
between_word = keyword_blanks k.Between (codes "BETWEEN") refl

and_word : Word (of k.And) (codes " AND ")
unfolding class_of_word same_class
and_word = keyword_blanks k.And (codes "AND") refl

in_word : Word (of k.In) (codes " IN ")
unfolding class_of_word same_class
in_word = keyword_blanks k.In (codes "IN") refl

like_word : Word (of k.Like) (codes " LIKE ")
unfolding class_of_word same_class
like_word = keyword_blanks k.Like (codes "LIKE") refl

escape_word : Word (of k.Escape) (codes " ESCAPE ")
unfolding class_of_word same_class
escape_word = keyword_blanks k.Escape (codes "ESCAPE") refl

-- ---- [NOT]

told-not : (G : Bool → ℕ → Counting Tail) (d n m : ℕ) (x : Tail) (text : List ℕ) → ((r : List ℕ) → begins is_word_byte (text ++ r) ≡ false) → Told (G true) d n m x text → Told (λ f. negatable (room_of f) (inner_of f) (λ b. G b f)) d n m x (codes " NOT" ++ text)
told-not G d n m x text blank t = record {
  used = t.used;
  within = t.within;
  prints = λ f below j place rest c.
      let first = not_before (text ++ rest) place (blank rest) in
      let body = t.prints f below j first.next rest c in
      let A = after (plain (token (of k.Not))) (λ a. G (is_some (Some a)) f) in
      cuts-into (A (t.used + j)) (negatable (room_of f) (inner_of f) (λ b. G b f) (t.used + j)) (x, j) (x, j) (codes " NOT" ++ text) rest place (λ ts w. (true, w))
      (cuts-behind (plain (token (of k.Not)) (t.used + j)) (λ p. G true f p.1) (first.symbol, t.used + j) (x, j) (codes " NOT") text rest place first.next first.symbol first.is first.fit
      (first.symbol, refl, spelled-token (of k.Not) first.symbol first.passes) body);
}

pub again-negatable : (G : Bool → Counting Tail) (J : Bool → ℕ → Counting Tail) (d : ℕ) (front : List ℕ) (body : Tail → List ℕ) → ((t : Bool) → Again (G t) (J t) d (λ x. front ++ body x))
    → ((t : Bool) (n : ℕ) (p : Tail × ℕ) (ts : List Symbol) → (G t n).Spells p ts → not_text t ++ (front ++ body p.0) ≡ tail_text p.0) → ((y r : List ℕ) → begins is_word_byte ((front ++ y) ++ r) ≡ false)
    → Again (negatable (room_of d) (inner_of d) G) (λ f. negatable (room_of f) (inner_of f) (λ b. J b f)) d tail_text
again-negatable G J d front body g same blank n p ts good (true, j) =
    let plain_n : n ≡ j.value.1 = ap (λ v. v.1) j.whole.1 in
    let t = g true j.value.1 p j.right (good_right ts j.left j.right j.joined good) j.after in
    let u = subst (λ y. Told (J true) d y p.1 p.0 (front ++ body p.0)) (sym plain_n) t in
    told-as (λ f. negatable (room_of f) (inner_of f) (λ b. J b f)) d n p.1 p.0 (codes " NOT" ++ (front ++ body p.0)) (told-not J d n p.1 p.0 (front ++ body p.0) (blank (body p.0)) u) (tail_text p.0) (same true j.value.1 p j.right j.after)
again-negatable G J d front body g same blank n p ts good (false, w) =
    let t = g false n p ts good w in
    let u = told-into (J false) d n p.1 p.0 (front ++ body p.0) t (λ f. negatable (room_of f) (inner_of f) (λ b. J b f)) p.0 (λ f j i vs v. (false, v)) in
    told-as (λ f. negatable (room_of f) (inner_of f) (λ b. J b f)) d n p.1 p.0 (front ++ body p.0) u (tail_text p.0) (same false n p ts w)

-- ---- comparisons and BETWEEN

starts_high : (x : Expr) → Starts (codes " AND " ++ at 3 (shown x))
unfolding is_clear
starts_high x rest c = refl

module _ (d : ℕ) (below : Owned d 3) where
  sums : Again (rule_at 3 d) (rule_at 3) d (λ x. at 3 (shown x))
  sums = again-own d 3 below

  pub comparison_again : Again (comparison (room_of d) (inner_of d)) (λ f. comparison (room_of f) (inner_of f)) d tail_text
  comparison_again =
      again-given (λ p. comparing p.0 p.1) (both (plain (terminal (one_told compare_op))) (rule_at 3 d)) (λ f. both (plain (terminal (one_told compare_op))) (rule_at 3 f)) d tail_text
      (again-op (one_told compare_op) (rule_at 3 d) (rule_at 3) d compare_text (λ x. at 3 (shown x)) compare_op_prints sums)

  pub between_again : (t : Bool) → Again (between (room_of d) (inner_of d) t) (λ f. between (room_of f) (inner_of f) t) d (λ x. codes " BETWEEN " ++ between_body x)
  between_again t =
      again-past (of k.Between) (given (λ p. lying t p.0 p.1) (both (rule_at 3 d) (past (of k.And) (rule_at 3 d)))) (λ f. given (λ p. lying t p.0 p.1) (both (rule_at 3 f) (past (of k.And) (rule_at 3 f)))) d (codes " BETWEEN ") between_body between_word
      (again-given (λ p. lying t p.0 p.1) (both (rule_at 3 d) (past (of k.And) (rule_at 3 d))) (λ f. both (rule_at 3 f) (past (of k.And) (rule_at 3 f))) d between_body
      (again-both (rule_at 3 d) (past (of k.And) (rule_at 3 d)) (rule_at 3) (λ f. past (of k.And) (rule_at 3 f)) d (λ x. at 3 (shown x)) (λ x. codes " AND " ++ at 3 (shown x)) starts_high sums
      (again-past (of k.And) (rule_at 3 d) (rule_at 3) d (codes " AND ") (λ x. at 3 (shown x)) and_word sums)))

pub between_same : (d : ℕ) (t : Bool) (n : ℕ) (p : Tail × ℕ) (ts : List Symbol) → (between (room_of d) (inner_of d) t n).Spells p ts → not_text t ++ (codes " BETWEEN " ++ between_body p.0) ≡ tail_text p.0
between_same d t n p ts j = subst (λ v. not_text t ++ (codes " BETWEEN " ++ between_body v.0) ≡ tail_text v.0) j.after.1 refl

pub between_blank : (y r : List ℕ) → begins is_word_byte ((codes " BETWEEN " ++ y) ++ r) ≡ false
between_blank y r = refl

-- ---- IN

pub list_is : (xs : List Expr) → list_text (λ x. at 7 (shown x)) xs ≡ joined (codes ", ") (map (at 7) (map shown xs))
list_is [] = refl
list_is (x ∷ xs) = ap (λ l. at 7 (shown x) ++ l) (sym (joined_rest (codes ", ") (at 7) shown xs))

module _ (d : ℕ) (inside : Again (inner_of d) inner_of d (λ x. at 7 (shown x))) where
  pub members_again : Again (members (room_of d) (inner_of d)) (λ f. members (room_of f) (inner_of f)) d (λ xs. enclosed_text (joined (codes ", ") (map (at 7) (map shown xs))))
  members_again =
      again-as (members (room_of d) (inner_of d)) (λ f. members (room_of f) (inner_of f)) d (λ xs. enclosed_text (list_text (λ x. at 7 (shown x)) xs)) (λ xs. enclosed_text (joined (codes ", ") (map (at 7) (map shown xs)))) (λ xs. ap enclosed_text (list_is xs))
      (again-enclosed (λ f. (room_of f).here) (list_of 1000 (λ s. over_class (room_of d).deeper (class s)) (of k.Comma) (inner_of d)) (λ f. list_of 1000 (λ s. over_class (room_of f).deeper (class s)) (of k.Comma) (inner_of f)) d (list_text (λ x. at 7 (shown x)))
      (λ f below r. more_room d f below r)
      (again-list (λ f s. over_class (room_of f).deeper (class s)) (inner_of d) inner_of d (λ x. at 7 (shown x)) inside (λ s. over_class (room_of d).deeper (class s)) 1000))

  pub in_again : (t : Bool) → Again (in_members (room_of d) (inner_of d) t) (λ f. in_members (room_of f) (inner_of f) t) d (λ x. codes " IN " ++ among_body x)
  in_again t =
      again-past (of k.In) (given (among t) (members (room_of d) (inner_of d))) (λ f. given (among t) (members (room_of f) (inner_of f))) d (codes " IN ") among_body in_word
      (again-given (among t) (members (room_of d) (inner_of d)) (λ f. members (room_of f) (inner_of f)) d among_body members_again)

pub in_same : (d : ℕ) (t : Bool) (n : ℕ) (p : Tail × ℕ) (ts : List Symbol) → (in_members (room_of d) (inner_of d) t n).Spells p ts → not_text t ++ (codes " IN " ++ among_body p.0) ≡ tail_text p.0
in_same d t n p ts j = subst (λ v. not_text t ++ (codes " IN " ++ among_body v.0) ≡ tail_text v.0) j.after.1 refl

pub in_blank : (y r : List ℕ) → begins is_word_byte ((codes " IN " ++ y) ++ r) ≡ false
in_blank y r = refl

-- ---- LIKE

pub clear_quote : (rest : List ℕ) → is_clear rest ≡ true → begins (λ c. c == 39) rest ≡ false
unfolding is_clear
clear_quote [] c = refl
clear_quote (b ∷ rest) c = let e : ends_words (b ∷ rest) ≡ true = and_left (ends_words (b ∷ rest)) _ c in grind (arith, nat_tests)

-- a text
pub text_prints : (bytes : List ℕ) → OnePrints text bytes (literal_text bytes)
unfolding same_class
text_prints bytes place rest c = record {
  symbol = record { at = place; token = text_literal (doubled 39 bytes) };
  next = place + (length (doubled 39 bytes) + 2);
  is = cut_literal place bytes rest (clear_quote rest c);
  taken = ap (λ l. takes l) (undoubled_doubled 39 bytes);
  fit = refl;
}

-- what an escape that was taken tells
record IsEscape (pattern : List ℕ) (esc : Option ℕ) (t : Token) : Type 0 where
  character : ℕ
  some : esc ≡ Some character
  alone : chars (text_in t) ≡ character ∷ []
  fits : is_some (pattern_parts (Some character) (chars pattern)) ≡ true

escape_cases : (pattern : List ℕ) (cs : List ℕ) (esc : Option ℕ) (t : Token) → chars (text_in t) ≡ cs → escape_by pattern cs ≡ takes esc → IsEscape pattern esc t
escape_cases pattern [] esc t is e = absurd (let no : ⊥ = cc in no)
escape_cases pattern (c ∷ d ∷ cs) esc t is e = absurd (let no : ⊥ = cc in no)
escape_cases pattern (c ∷ []) esc t is e =
    let P : Bool → Type 0 = λ v. is_some (pattern_parts (Some c) (chars pattern)) ≡ v → (if v then takes (Some c) else faults bad_escape) ≡ takes esc → IsEscape pattern esc t in
    (elim (is_some (pattern_parts (Some c) (chars pattern))) as P [
      | true ↦ λ v f. let s : esc ≡ Some c = cc in record { character = c; some = s; alone = is; fits = v }
      | false ↦ λ v f. absurd (let no : ⊥ = cc in no)
    ]) refl e

escape_taken : (pattern : List ℕ) (s : Symbol) (esc : Option ℕ) → escape pattern s ≡ takes esc → IsEscape pattern esc s.token
escape_taken pattern s esc e =
    let P : Bool → Type 0 = λ v. (if v then escape_by pattern (chars (text_in s.token)) else refuses) ≡ takes esc → IsEscape pattern esc s.token in
    (elim (same_class k.Text (class s)) as P [
      | true ↦ λ f. escape_cases pattern (chars (text_in s.token)) esc s.token refl f
      | false ↦ λ f. absurd (let no : ⊥ = cc in no)
    ]) e

escape_prints : (pattern : List ℕ) (c : ℕ) → is_some (pattern_parts (Some c) (chars pattern)) ≡ true → chars (encode_utf8 c) ≡ c ∷ [] → OnePrints (escape pattern) (Some c) (literal_text (encode_utf8 c))
unfolding same_class
escape_prints pattern c f r place rest clear = record {
  symbol = record { at = place; token = text_literal (doubled 39 (encode_utf8 c)) };
  next = place + (length (doubled 39 (encode_utf8 c)) + 2);
  is = cut_literal place (encode_utf8 c) rest (clear_quote rest clear);
  taken = ap (λ l. escape_by pattern (chars l)) (undoubled_doubled 39 (encode_utf8 c)) ∙ (ap (λ l. escape_by pattern l) r ∙ if_true (is_some (pattern_parts (Some c) (chars pattern))) _ _ f);
  fit = refl;
}

-- [ESCAPE text]
abbrev escape_part : List ℕ → Rule Symbol Fault (Option ℕ)
escape_part pattern = either (preceded_by (token (of k.Escape)) (terminal (escape pattern))) (nothing None)

escape_again : (pattern : List ℕ) (esc : Option ℕ) (ts : List Symbol) → AllGood ts → (escape_part pattern).Spells esc ts → Prints (escape_part pattern) esc (escape_text esc)
escape_again pattern esc ts good (false, w) = subst (λ x. Prints (escape_part pattern) x (escape_text x)) w.0 (λ place rest c. cuts-nothing (escape_part pattern) None rest place (false, (refl, refl)))
escape_again pattern esc ts good (true, j) =
    let t = taken_one (escape pattern) esc j.right j.after in
    let x = escape_taken pattern t.symbol esc t.taken in
    let r = char_again x.character in
    let o = escape_prints pattern x.character x.fits r in
    subst (λ y. Prints (escape_part pattern) y (escape_text y)) (sym x.some) (λ place rest c.
    let first = escape_word place (literal_text (encode_utf8 x.character) ++ rest) in
    let one = cuts-one (escape pattern) (Some x.character) (literal_text (encode_utf8 x.character)) rest first.next (o first.next rest c) in
    cuts-into (preceded_by (token (of k.Escape)) (terminal (escape pattern))) (escape_part pattern) (Some x.character) (Some x.character) (escape_text (Some x.character)) rest place (λ us v. (true, v))
    (cuts-past (terminal (escape pattern)) (of k.Escape) (Some x.character) (codes " ESCAPE ") (literal_text (encode_utf8 x.character)) rest place first one))

starts_escape : (esc : Option ℕ) → Starts (escape_text esc)
unfolding is_clear
starts_escape None rest c = c
starts_escape (Some x) rest c = refl

abbrev like_rule : Bool → Rule Symbol Fault Tail
like_rule t = begun text (λ pattern. made (λ esc. liking t pattern esc) (escape_part pattern))

like_plain : (d : ℕ) (t : Bool) → Again (plain (like_rule t)) (λ f. plain (like_rule t)) d like_body
like_plain d t n p ts good w =
    let j = w.2 in
    let a = j.after in
    let good_rest = good_right ts j.left j.right j.joined good in
    let back = escape_again j.value a.0 j.right good_rest a.2 in
    let both_printed : Prints (like_rule t) (liking t j.value a.0) (literal_text j.value ++ escape_text a.0) = λ place rest c.
    let more = escape_text a.0 in
    let first = cuts-one text j.value (literal_text j.value) (more ++ rest) place (text_prints j.value place (more ++ rest) (starts_escape a.0 rest c)) in
    cuts-sequence (terminal text) (λ pattern. made (λ esc. liking t pattern esc) (escape_part pattern)) j.value (liking t j.value a.0) (literal_text j.value) more rest place first
    (cuts-into (escape_part j.value) (made (λ esc. liking t j.value esc) (escape_part j.value)) a.0 (liking t j.value a.0) more rest first.next (λ us v. (a.0, refl, v)) (back first.next rest c)) in
    let told = told-plain (λ f. like_rule t) d n (liking t j.value a.0) (literal_text j.value ++ escape_text a.0) (λ f below. both_printed) in
    let e : (liking t j.value a.0, n) ≡ (w.0, n) = ap (λ x. (x, n)) a.1 in
    subst (λ v. Told (λ f. plain (like_rule t)) d n v.1 v.0 (like_body v.0)) (e ∙ w.1) told

pub like_again : (d : ℕ) (t : Bool) → Again (like (room_of d) (inner_of d) t) (λ f. like (room_of f) (inner_of f) t) d (λ x. codes " LIKE " ++ like_body x)
like_again d t = again-past (of k.Like) (plain (like_rule t)) (λ f. plain (like_rule t)) d (codes " LIKE ") like_body like_word (like_plain d t)

pub like_same : (d : ℕ) (t : Bool) (n : ℕ) (p : Tail × ℕ) (ts : List Symbol) → (like (room_of d) (inner_of d) t n).Spells p ts → not_text t ++ (codes " LIKE " ++ like_body p.0) ≡ tail_text p.0
like_same d t n p ts j =
    let w = j.after in
    let a = w.2.after in
    let e : (liking t w.2.value a.0, n) ≡ (w.0, n) = ap (λ x. (x, n)) a.1 in
    subst (λ v. not_text t ++ (codes " LIKE " ++ like_body v.0) ≡ tail_text v.0) (e ∙ w.1) refl

pub like_blank : (y r : List ℕ) → begins is_word_byte ((codes " LIKE " ++ y) ++ r) ≡ false
like_blank y r = refl
