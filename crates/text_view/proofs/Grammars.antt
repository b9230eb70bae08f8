-- What is read from the left is what the grammars say.
use Rattle.std.proofs.Common.{◌≡◌, ◌≢◌, ℕ, zero, suc, ◌≤◌, Bool, true, false, cond, ◌&&◌, ◌||◌, ◌==◌, not, List, [], ◌∷◌, ◌++◌, drop, length, slice_index, refl, sym, ◌∙◌, ap, subst, arith}
use Rattle.std.proofs.lemmas.Bool.Decides.{nat_tests}
use Rattle.std.proofs.lemmas.List.{append-nil}
use Rattle.text_view.specs.QuotedField.{unquoted, begins_special, FieldPiece, escaped, single, print_field, field_text, AreFieldPieces, StandsFor, closed, unclosed}
use Rattle.text_view.specs.JsonString.{Hex, is_hex, hex_value, is_high_surrogate, is_low_surrogate, pair_value, is_letter, letter_value, Piece, unescaped, short, code, pair, print_pieces, pieces_text, ArePieces, SpellsString, take_code, take_pair, take_letter, take_escape, Taken, unescaped_text, solidus_alone}
use Rattle.text_view.proofs.Escapes.{unquoted_nil, unquoted_cons, unescaped_nil, unescaped_cons, unescaped_other}

eq_self : (c : ℕ) → (c == c) ≡ true
eq_self c = grind (arith, nat_tests)

eq_not : (c d : ℕ) → c ≢ d → (c == d) ≡ false
eq_not c d h = grind (arith, nat_tests)

eq_is : (c d : ℕ) → (c == d) ≡ true → c ≡ d
eq_is c d h = grind (arith, nat_tests)

-- ---- quoted fields

escape_alone : (b x : Bool) (c e : ℕ) → (c == e) ≡ b → (c ≡ e → x ≡ false) → (b && x) ≡ false
escape_alone true x c e h f = f (eq_is c e h)
escape_alone false x c e h f = refl

unquoted_escaped : (q e c : ℕ) (cs : List ℕ) → (c == q || c == e) ≡ true → unquoted q e (e ∷ c ∷ cs) ≡ c ∷ unquoted q e cs
unquoted_escaped q e c cs h =
    let both : (e == e && (c == q || c == e)) ≡ true = rw (eq_self e, h) refl in
    unquoted_cons q e e (c ∷ cs) ∙ ap (λ b. cond b (c ∷ unquoted q e cs) (cond (e == q) (c ∷ cs) (e ∷ unquoted q e (c ∷ cs)))) both

unquoted_single : (q e c : ℕ) (cs : List ℕ) → c ≢ q → (c ≡ e → begins_special q e cs ≡ false) → unquoted q e (c ∷ cs) ≡ c ∷ unquoted q e cs
unquoted_single q e c cs h f =
    unquoted_cons q e c cs
    ∙ ap (λ b. cond b (slice_index cs 0 ∷ unquoted q e (drop 1 cs)) (cond (c == q) cs (c ∷ unquoted q e cs))) (escape_alone (c == e) (begins_special q e cs) c e refl f)
    ∙ ap (λ b. cond b cs (c ∷ unquoted q e cs)) (eq_not c q h)

unquoted_closing : (q e : ℕ) (tail : List ℕ) → (q ≡ e → begins_special q e tail ≡ false) → unquoted q e (q ∷ tail) ≡ tail
unquoted_closing q e tail f =
    unquoted_cons q e q tail
    ∙ ap (λ b. cond b (slice_index tail 0 ∷ unquoted q e (drop 1 tail)) (cond (q == q) tail (q ∷ unquoted q e tail))) (escape_alone (q == e) (begins_special q e tail) q e refl f)
    ∙ ap (λ b. cond b tail (q ∷ unquoted q e tail)) (eq_self q)

unquoted_pieces : (q e : ℕ) (pieces : List FieldPiece) (rest : List ℕ) → AreFieldPieces q e pieces rest → unquoted q e (print_field e pieces rest) ≡ field_text pieces ++ unquoted q e rest
unquoted_pieces q e [] rest h = refl
unquoted_pieces q e (escaped c ∷ pieces) rest h =
    unquoted_escaped q e c (print_field e pieces rest) h.0 ∙ ap (λ l. c ∷ l) (unquoted_pieces q e pieces rest h.1)
unquoted_pieces q e (single c ∷ pieces) rest h =
    unquoted_single q e c (print_field e pieces rest) h.0 h.1 ∙ ap (λ l. c ∷ l) (unquoted_pieces q e pieces rest h.2)

pub field_alone : (q e : ℕ) (raw text : List ℕ) → StandsFor q e raw text → unquoted q e raw ≡ text
field_alone q e raw text (closed pieces tail valid behind spelled meant) =
    ap (unquoted q e) spelled ∙ unquoted_pieces q e pieces (q ∷ tail) valid ∙ ap (λ l. field_text pieces ++ l) (unquoted_closing q e tail behind) ∙ sym meant
field_alone q e raw text (unclosed pieces valid spelled meant) =
    ap (unquoted q e) spelled ∙ unquoted_pieces q e pieces [] valid ∙ ap (λ l. field_text pieces ++ l) (unquoted_nil q e) ∙ append-nil (field_text pieces) ∙ sym meant

-- a piece in front of what stands for a text
more_escaped : (q e c : ℕ) (cs text : List ℕ) → (c == q || c == e) ≡ true → StandsFor q e cs text → StandsFor q e (e ∷ c ∷ cs) (c ∷ text)
more_escaped q e c cs text h (closed pieces tail valid behind spelled meant) =
    closed (escaped c ∷ pieces) tail (h, valid) behind (ap (λ l. e ∷ c ∷ l) spelled) (ap (λ l. c ∷ l) meant)
more_escaped q e c cs text h (unclosed pieces valid spelled meant) =
    unclosed (escaped c ∷ pieces) (h, valid) (ap (λ l. e ∷ c ∷ l) spelled) (ap (λ l. c ∷ l) meant)

more_single : (q e c : ℕ) (cs text : List ℕ) → c ≢ q → (c ≡ e → begins_special q e cs ≡ false) → StandsFor q e cs text → StandsFor q e (c ∷ cs) (c ∷ text)
more_single q e c cs text h f (closed pieces tail valid behind spelled meant) =
    closed (single c ∷ pieces) tail (h, (λ s. ap (begins_special q e) (sym spelled) ∙ f s), valid) behind (ap (λ l. c ∷ l) spelled) (ap (λ l. c ∷ l) meant)
more_single q e c cs text h f (unclosed pieces valid spelled meant) =
    unclosed (single c ∷ pieces) (h, (λ s. ap (begins_special q e) (sym spelled) ∙ f s), valid) (ap (λ l. c ∷ l) spelled) (ap (λ l. c ∷ l) meant)

closing : (q e : ℕ) (tail : List ℕ) → (q ≡ e → begins_special q e tail ≡ false) → StandsFor q e (q ∷ tail) tail
closing q e tail f = closed [] tail tt f refl refl

along : (q e : ℕ) (raw text other : List ℕ) → other ≡ text → StandsFor q e raw text → StandsFor q e raw other
along q e raw text other h s = let P : List ℕ → Type 0 = StandsFor q e raw in subst P (sym h) s

not_both : (x y : Bool) → (x && y) ≡ false → x ≡ true → y ≡ false
not_both true y e h = e
not_both false y e h = absurd (cc)

both_left : (x y : Bool) → (x && y) ≡ true → x ≡ true
both_left true y e = refl
both_left false y e = absurd (cc)

both_right : (x y : Bool) → (x && y) ≡ true → y ≡ true
both_right true y e = e
both_right false y e = absurd (cc)

not_eq : (c d : ℕ) → (c == d) ≡ false → c ≢ d
not_eq c d h = λ e. absurd (clash (sym h ∙ ap (λ x. x == d) e ∙ eq_self d))
  where
    clash : false ≡ true → ⊥
    clash e = cc

-- the first character is an escape, a closing quote, or stands for itself
stands_escaped : (q e c : ℕ) (cs : List ℕ) → c ≡ e → begins_special q e cs ≡ true → ((ds : List ℕ) → length ds ≤ length cs → StandsFor q e ds (unquoted q e ds)) → StandsFor q e (c ∷ cs) (unquoted q e (c ∷ cs))
stands_escaped q e c [] h s ih = absurd (cc)
stands_escaped q e c (d ∷ ds) h s ih =
    let P : ℕ → Type 0 = λ x. StandsFor q e (x ∷ d ∷ ds) (unquoted q e (x ∷ d ∷ ds)) in
    subst P (sym h) (along q e (e ∷ d ∷ ds) _ _ (unquoted_escaped q e d ds s) (more_escaped q e d ds (unquoted q e ds) s (ih ds (omega arith))))

stands_closing : (q e c : ℕ) (cs : List ℕ) → c ≡ q → (c ≡ e → begins_special q e cs ≡ false) → StandsFor q e (c ∷ cs) (unquoted q e (c ∷ cs))
stands_closing q e c cs h f =
    let behind : q ≡ e → begins_special q e cs ≡ false = λ g. f (h ∙ g) in
    let P : ℕ → Type 0 = λ x. StandsFor q e (x ∷ cs) (unquoted q e (x ∷ cs)) in
    subst P (sym h) (along q e (q ∷ cs) _ _ (unquoted_closing q e cs behind) (closing q e cs behind))

stands_step : (q e c : ℕ) (cs : List ℕ) (x y : Bool) → (c == e && begins_special q e cs) ≡ x → (c == q) ≡ y → ((ds : List ℕ) → length ds ≤ length cs → StandsFor q e ds (unquoted q e ds)) → StandsFor q e (c ∷ cs) (unquoted q e (c ∷ cs))
stands_step q e c cs true y h g ih =
    stands_escaped q e c cs (eq_is c e (both_left (c == e) (begins_special q e cs) h)) (both_right (c == e) (begins_special q e cs) h) ih
stands_step q e c cs false true h g ih =
    stands_closing q e c cs (eq_is c q g) (λ s. not_both (c == e) (begins_special q e cs) h (ap (λ z. c == z) (sym s) ∙ eq_self c))
stands_step q e c cs false false h g ih =
    let alone : c ≡ e → begins_special q e cs ≡ false = λ s. not_both (c == e) (begins_special q e cs) h (ap (λ z. c == z) (sym s) ∙ eq_self c) in
    along q e (c ∷ cs) _ _ (unquoted_single q e c cs (not_eq c q g) alone) (more_single q e c cs (unquoted q e cs) (not_eq c q g) alone (ih cs (omega arith)))

stands_within : (q e n : ℕ) (cs : List ℕ) → length cs ≤ n → StandsFor q e cs (unquoted q e cs)
stands_within q e n [] h = along q e [] [] _ (unquoted_nil q e) (unclosed [] tt refl refl)
stands_within q e zero (c ∷ cs) h = absurd (omega arith)
stands_within q e (suc n) (c ∷ cs) h =
    stands_step q e c cs (c == e && begins_special q e cs) (c == q) refl refl (λ ds l. stands_within q e n ds (omega arith))

pub field_stands : (q e : ℕ) (cs : List ℕ) → StandsFor q e cs (unquoted q e cs)
field_stands q e cs = stands_within q e (length cs) cs (omega arith)

-- ---- JSON strings

by_taken : (cs rest : List ℕ) (t : Taken) → take_escape cs ≡ t → drop t.further cs ≡ rest → unescaped_text (92 ∷ cs) ≡ t.character ∷ unescaped_text rest
by_taken cs rest t e d =
    unescaped_cons 92 cs ∙ ap (λ u. u.character ∷ unescaped_text (drop u.further cs)) e ∙ ap (λ l. t.character ∷ unescaped_text l) d

letter_not_code : (c : ℕ) (b : Bool) → (c == 117) ≡ b → is_letter c ≡ true → (c == 117) ≡ false
letter_not_code c true e h = absurd (clash (sym (ap is_letter (eq_is c 117 e)) ∙ h))
  where
    clash : false ≡ true → ⊥
    clash f = cc
letter_not_code c false e h = e

taken_letter : (c : ℕ) (rest : List ℕ) → is_letter c ≡ true → take_escape (c ∷ rest) ≡ record { character = letter_value c; further = 1 }
taken_letter c rest h =
    ap (λ b. cond (b && is_hex (record { first = slice_index (c ∷ rest) 1; second = slice_index (c ∷ rest) 2; third = slice_index (c ∷ rest) 3; fourth = slice_index (c ∷ rest) 4 })) (take_code (hex_value (record { first = slice_index (c ∷ rest) 1; second = slice_index (c ∷ rest) 2; third = slice_index (c ∷ rest) 3; fourth = slice_index (c ∷ rest) 4 })) (drop 5 (c ∷ rest))) (take_letter c)) (letter_not_code c (c == 117) refl h)
    ∙ ap (λ b. cond b (record { character = letter_value c; further = 1 }) solidus_alone) h

taken_code : (h : Hex) (rest : List ℕ) → is_hex h ≡ true → take_escape (117 ∷ h.first ∷ h.second ∷ h.third ∷ h.fourth ∷ rest) ≡ take_code (hex_value h) rest
taken_code h rest e = ap (λ b. cond b (take_code (hex_value h) rest) (take_letter 117)) e

neither_high : (x y : Bool) → (not x && not y) ≡ true → x ≡ false
neither_high true y e = absurd (cc)
neither_high false y e = refl

neither_low : (x y : Bool) → (not x && not y) ≡ true → y ≡ false
neither_low x false e = refl
neither_low true true e = absurd (cc)
neither_low false true e = absurd (cc)

taken_alone : (unit : ℕ) (rest : List ℕ) → is_high_surrogate unit ≡ false → is_low_surrogate unit ≡ false → take_code unit rest ≡ record { character = unit; further = 5 }
taken_alone unit rest h l =
    ap (λ b. cond b (take_pair unit rest) (cond (is_low_surrogate unit) solidus_alone (record { character = unit; further = 5 }))) h
    ∙ ap (λ b. cond b solidus_alone (record { character = unit; further = 5 })) l

taken_pair : (unit : ℕ) (l : Hex) (rest : List ℕ) → is_high_surrogate unit ≡ true → is_hex l ≡ true → is_low_surrogate (hex_value l) ≡ true → take_code unit (92 ∷ 117 ∷ l.first ∷ l.second ∷ l.third ∷ l.fourth ∷ rest) ≡ record { character = pair_value unit (hex_value l); further = 11 }
taken_pair unit l rest h e low =
    let both : (is_hex l && is_low_surrogate (hex_value l)) ≡ true = rw (e, low) refl in
    ap (λ b. cond b (take_pair unit (92 ∷ 117 ∷ l.first ∷ l.second ∷ l.third ∷ l.fourth ∷ rest)) (cond (is_low_surrogate unit) solidus_alone (record { character = unit; further = 5 }))) h
    ∙ ap (λ b. cond b (record { character = pair_value unit (hex_value l); further = 11 }) solidus_alone) both

pieces_read : (pieces : List Piece) → ArePieces pieces → unescaped_text (print_pieces pieces) ≡ pieces_text pieces
pieces_read [] h = unescaped_nil
pieces_read (unescaped c ∷ ps) h =
    unescaped_other c (print_pieces ps) h.0.2 ∙ ap (λ l. c ∷ l) (pieces_read ps h.1)
pieces_read (short c ∷ ps) h =
    by_taken (c ∷ print_pieces ps) (print_pieces ps) (record { character = letter_value c; further = 1 }) (taken_letter c (print_pieces ps) h.0) refl
    ∙ ap (λ l. letter_value c ∷ l) (pieces_read ps h.1)
pieces_read (code x ∷ ps) h =
    by_taken (117 ∷ x.first ∷ x.second ∷ x.third ∷ x.fourth ∷ print_pieces ps) (print_pieces ps) (record { character = hex_value x; further = 5 })
    (taken_code x (print_pieces ps) h.0.0 ∙ taken_alone (hex_value x) (print_pieces ps) (neither_high _ _ h.0.1) (neither_low _ _ h.0.1)) refl
    ∙ ap (λ l. hex_value x ∷ l) (pieces_read ps h.1)
pieces_read (pair x y ∷ ps) h =
    by_taken (117 ∷ x.first ∷ x.second ∷ x.third ∷ x.fourth ∷ 92 ∷ 117 ∷ y.first ∷ y.second ∷ y.third ∷ y.fourth ∷ print_pieces ps) (print_pieces ps) (record { character = pair_value (hex_value x) (hex_value y); further = 11 })
    (taken_code x (92 ∷ 117 ∷ y.first ∷ y.second ∷ y.third ∷ y.fourth ∷ print_pieces ps) h.0.0.0 ∙ taken_pair (hex_value x) y (print_pieces ps) h.0.1.0 h.0.0.1 h.0.1.1) refl
    ∙ ap (λ l. pair_value (hex_value x) (hex_value y) ∷ l) (pieces_read ps h.1)

pub string_read : (raw text : List ℕ) → SpellsString raw text → unescaped_text raw ≡ text
string_read raw text s = ap unescaped_text s.spelled ∙ pieces_read s.pieces s.valid ∙ sym s.meant
