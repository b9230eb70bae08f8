-- The fields of a line that come out as they went in, and the record of these.
use Rattle.std.specs.Prelude.{◌≡◌, ℕ, suc, ◌<◌, ◌≤◌, Bool, true, false, ◌||◌, ◌&&◌, ◌==◌, not, nat_le, List, [], ◌∷◌, map, length, Ok, refl}
use Rattle.std.proofs.Common.{ap, ap₂, sym, ◌∙◌, arith, append-nil}
use Rattle.std.specs.List.{list_any, flat_map, onto_first}
use Rattle.std.specs.Str.{chars, encode_utf8_all, IsAscii, NonePass}
use Rattle.std.proofs.lemmas.Bool.{cond-false}
use Rattle.std.proofs.lemmas.Bool.Decides.{nat_tests}
use Rattle.std.proofs.lemmas.Str.{chars-IsAscii, encodes-IsAscii}
use Rattle.std.proofs.lemmas.Str.Ascii.{IsAscii-nil, IsAscii-cons}
use Rattle.select_request.specs.declared.request.CsvOutput.{CsvOutput}
use Rattle.select_request.specs.declared.request.Output.TheVariants.{Csv}
use Rattle.sql_value.specs.declared.value.Value.TheVariants.{Text}
use Rattle.csv_cutter.specs.declared.dialect.Dialect.{Dialect}
use Rattle.csv_cutter.specs.declared.walk.State.{State}
use Rattle.csv_cutter.specs.declared.walk.State.TheVariants.{Start, Tail, Inside, Paired, Comment}
use Rattle.csv_cutter.specs.Fields.{begins_with, text_of}
use Rattle.csv_cutter.specs.Walk.{is_outside, special, cut_from}
use Rattle.csv_cutter.proofs.Lines.{cut_nil, cut_here, cut_onwards, tail_stays, start_plain}
use Rattle.record_output.specs.CsvFields.{is_guarded, is_delimiter_byte, is_quoted, csv_field}
use Rattle.record_output.specs.Records.{Field, parts_of, joined, record_text}
use Rattle.record_yields.specs.Names.{name_at}
use Rattle.record_yields.specs.Projections.{named, put_before, projections}
use Rattle.record_yields.specs.Yields.{limited, of_fields, of_cells}
use Rattle.planned_lines.specs.Copying.{is_marked, is_stop}

pub clash : {A : Type 0} → true ≡ false → A
clash e = absurd (cc)

pub or_left : (a b : Bool) → (a || b) ≡ false → a ≡ false
or_left true b e = e
or_left false b e = refl

pub or_right : (a b : Bool) → (a || b) ≡ false → b ≡ false
or_right true b e = clash e
or_right false b e = e

pub or_none : (a b : Bool) → a ≡ false → b ≡ false → (a || b) ≡ false
or_none a b e f = ap₂ (λ x y. x || y) e f

pub and_left : (a b : Bool) → (a && b) ≡ true → a ≡ true
and_left true b e = refl
and_left false b e = e

pub and_right : (a b : Bool) → (a && b) ≡ true → b ≡ true
and_right true b e = e
and_right false b e = clash (sym e)

pub low : (c : ℕ) → nat_le 128 c ≡ false → c < 128
low c h = grind (arith, nat_tests)

pub not_high : (c : ℕ) → c < 128 → nat_le 128 c ≡ false
not_high c h = grind (arith, nat_tests)

pub same_byte : (c d : ℕ) → (c == d) ≡ true → c ≡ d
same_byte c d h = grind (arith, nat_tests)

pub not_true : (b : Bool) → not b ≡ true → b ≡ false
not_true true e = clash (sym e)
not_true false e = refl

-- ---- what stands in a bare line

-- no byte of the fields of a bare line
abbrev pub ends_piece : Dialect → CsvOutput → ℕ → Bool
ends_piece d csv c = c == d.field || is_stop d csv c

abbrev pub ArePieces : Dialect → CsvOutput → List (List ℕ) → Type 0
ArePieces d csv [] = Unit {0}
ArePieces d csv (p ∷ ps) = NonePass (ends_piece d csv) p × ArePieces d csv ps

-- the fields that a line is cut into
pub record IsCut (d : Dialect) (csv : CsvOutput) (parts : List (List ℕ)) (line : List ℕ) : Type 0 where
  pub first : List ℕ
  pub others : List (List ℕ)
  pub is : parts ≡ first ∷ others
  pub pieces : ArePieces d csv (first ∷ others)
  pub joins : joined (d.field ∷ []) (first ∷ others) ≡ line
  pub few : length others ≤ length line

pub join_onto : (f c : ℕ) (p : List ℕ) (ps : List (List ℕ)) → joined (f ∷ []) ((c ∷ p) ∷ ps) ≡ c ∷ joined (f ∷ []) (p ∷ ps)
join_onto f c p [] = refl
join_onto f c p (q ∷ qs) = refl

module _ (d : Dialect) (csv : CsvOutput) where
  cut_again : (s : State) (c : ℕ) (cs : List ℕ) → cut_from d s (c ∷ cs) ≡ [] ∷ cut_from d Start cs → (c == d.field) ≡ true
      → IsCut d csv (cut_from d Start cs) cs → IsCut d csv (cut_from d s (c ∷ cs)) (c ∷ cs)
  cut_again s c cs is here r = record {
    first = [];
    others = r.first ∷ r.others;
    is = is ∙ ap (λ l. [] ∷ l) r.is;
    pieces = (tt, r.pieces);
    joins = ap₂ (λ a l. a ∷ l) (sym (same_byte c d.field here)) r.joins;
    few = omega (arith, r.few);
  }

  cut_on : (s : State) (c : ℕ) (cs : List ℕ) → cut_from d s (c ∷ cs) ≡ onto_first c (cut_from d Tail cs) → (c == d.field) ≡ false → is_stop d csv c ≡ false
      → IsCut d csv (cut_from d Tail cs) cs → IsCut d csv (cut_from d s (c ∷ cs)) (c ∷ cs)
  cut_on s c cs is other own r = record {
    first = c ∷ r.first;
    others = r.others;
    is = is ∙ ap (onto_first c) r.is;
    pieces = ((or_none (c == d.field) (is_stop d csv c) other own, r.pieces.0), r.pieces.1);
    joins = join_onto d.field c r.first r.others ∙ ap (λ l. c ∷ l) r.joins;
    few = omega (arith, r.few);
  }

  pub no_quote : (c : ℕ) → is_stop d csv c ≡ false → (c == d.quote) ≡ false
  no_quote c h =
      or_left (c == d.quote) (c == csv.quote) (or_left (c == d.quote || c == csv.quote) (is_delimiter_byte csv.delimiter c) (or_left (is_marked d csv c) (nat_le 128 c) h))

  pub cut_own : (s : State) (cs : List ℕ) → is_outside s ≡ true → NonePass (is_stop d csv) cs → IsCut d csv (cut_from d s cs) cs
  cut_own s [] o h = record { first = []; others = []; is = cut_nil d s; pieces = (tt, tt); joins = refl; few = omega arith }
  cut_own s (c ∷ cs) o h = by_cut s o (λ t p. cut_own t cs p h.1) (c == d.field) refl
    where
      by_cut : (s : State) → is_outside s ≡ true → ((t : State) → is_outside t ≡ true → IsCut d csv (cut_from d t cs) cs) → (b : Bool) → (c == d.field) ≡ b
          → IsCut d csv (cut_from d s (c ∷ cs)) (c ∷ cs)
      by_cut Start o ih true e = cut_again Start c cs (cut_here d Start c cs e) e (ih Start refl)
      by_cut Start o ih false e =
          cut_on Start c cs (cut_onwards d Start c cs e ∙ ap (λ t. onto_first c (cut_from d t cs)) (start_plain d c (special d cs) e (no_quote c h.0))) e h.0 (ih Tail refl)
      by_cut Tail o ih true e = cut_again Tail c cs (cut_here d Tail c cs e) e (ih Start refl)
      by_cut Tail o ih false e =
          cut_on Tail c cs (cut_onwards d Tail c cs e ∙ ap (λ t. onto_first c (cut_from d t cs)) (tail_stays d c (special d cs) e)) e h.0 (ih Tail refl)
      by_cut Inside o ih b e = clash (sym o)
      by_cut Paired o ih b e = clash (sym o)
      by_cut Comment o ih b e = clash (sym o)

-- ---- a field that comes out as it went in

-- the piece is read as the text, and the text is written as the piece
pub record IsOwn (d : Dialect) (csv : CsvOutput) (piece text : List ℕ) : Type 0 where
  pub reads : text_of d (chars piece) ≡ text
  pub writes : csv_field csv (encode_utf8_all text) ≡ piece

abbrev pub AreOwn : Dialect → CsvOutput → List (List ℕ) → List (List ℕ) → Type 0
AreOwn d csv [] [] = Unit {0}
AreOwn d csv [] (t ∷ ts) = ⊥
AreOwn d csv (p ∷ ps) [] = ⊥
AreOwn d csv (p ∷ ps) (t ∷ ts) = IsOwn d csv p t × AreOwn d csv ps ts

-- the fields that a line is cut into, each of which comes out as it went in
pub record IsOwnCut (d : Dialect) (csv : CsvOutput) (parts : List (List ℕ)) (line : List ℕ) : Type 0 where
  pub first : List ℕ
  pub others : List (List ℕ)
  pub text : List ℕ
  pub texts : List (List ℕ)
  pub is : parts ≡ first ∷ others
  pub own : IsOwn d csv first text
  pub owns : AreOwn d csv others texts
  pub joins : joined (d.field ∷ []) (first ∷ others) ≡ line
  pub few : length others ≤ length line

module _ (d : Dialect) (csv : CsvOutput) where
  piece_ascii : (p : List ℕ) → NonePass (ends_piece d csv) p → IsAscii p
  piece_ascii [] h = IsAscii-nil
  piece_ascii (c ∷ cs) h =
      IsAscii-cons c cs (low c (or_right (is_marked d csv c) (nat_le 128 c) (or_right (c == d.field) (is_stop d csv c) h.0))) (piece_ascii cs h.1)

  piece_begins : (p : List ℕ) → NonePass (ends_piece d csv) p → begins_with d.quote p ≡ false
  piece_begins [] h = refl
  piece_begins (c ∷ cs) h = no_quote d csv c (or_right (c == d.field) (is_stop d csv c) h.0)

  text_own : (p : List ℕ) → begins_with d.quote p ≡ false → text_of d p ≡ p
  text_own p h = cond-false (begins_with d.quote p) _ _ h

  piece_text : (p : List ℕ) → NonePass (ends_piece d csv) p → text_of d (chars p) ≡ p
  piece_text p h = ap (text_of d) (chars-IsAscii p (piece_ascii p h)) ∙ text_own p (piece_begins p h)

  module _ (always : csv.always ≡ false) (field : csv.field ≡ d.field) where
    unguarded : (c : ℕ) → ends_piece d csv c ≡ false → is_guarded csv c ≡ false
    unguarded c h =
        let marked = or_left (is_marked d csv c) (nat_le 128 c) (or_right (c == d.field) (is_stop d csv c) h) in
        or_none (c == csv.field || c == csv.quote) (is_delimiter_byte csv.delimiter c)
        (or_none (c == csv.field) (c == csv.quote)
        (ap (λ f. c == f) field ∙ or_left (c == d.field) (is_stop d csv c) h)
        (or_right (c == d.quote) (c == csv.quote) (or_left (c == d.quote || c == csv.quote) (is_delimiter_byte csv.delimiter c) marked)))
        (or_right (c == d.quote || c == csv.quote) (is_delimiter_byte csv.delimiter c) marked)

    piece_unguarded : (p : List ℕ) → NonePass (ends_piece d csv) p → list_any (is_guarded csv) p ≡ false
    piece_unguarded [] h = refl
    piece_unguarded (c ∷ cs) h = or_none (is_guarded csv c) (list_any (is_guarded csv) cs) (unguarded c h.0) (piece_unguarded cs h.1)

    field_own : (p : List ℕ) → NonePass (ends_piece d csv) p → csv_field csv p ≡ p
    unfolding csv_field is_quoted
    field_own p h = cond-false _ _ _ (or_none csv.always (list_any (is_guarded csv) p) always (piece_unguarded p h))

    piece_field : (p : List ℕ) → NonePass (ends_piece d csv) p → csv_field csv (encode_utf8_all p) ≡ p
    piece_field p h = ap (csv_field csv) (encodes-IsAscii p (piece_ascii p h)) ∙ field_own p h

    pub piece_own : (p : List ℕ) → NonePass (ends_piece d csv) p → IsOwn d csv p p
    piece_own p h = record { reads = piece_text p h; writes = piece_field p h }

    pieces_own : (ps : List (List ℕ)) → ArePieces d csv ps → AreOwn d csv ps ps
    pieces_own [] h = tt
    pieces_own (p ∷ ps) h = (piece_own p h.0, pieces_own ps h.1)

    pub bare_own : (parts : List (List ℕ)) (line : List ℕ) → IsCut d csv parts line → IsOwnCut d csv parts line
    bare_own parts line cut = record {
      first = cut.first;
      others = cut.others;
      text = cut.first;
      texts = cut.others;
      is = cut.is;
      own = piece_own cut.first cut.pieces.0;
      owns = pieces_own cut.others cut.pieces.1;
      joins = cut.joins;
      few = cut.few;
    }

  -- ---- the fields of a record

  pub texts_own : (ps ts : List (List ℕ)) → AreOwn d csv ps ts → map (λ spelled. text_of d (chars spelled)) ps ≡ ts
  texts_own [] [] h = refl
  texts_own [] (t ∷ ts) h = absurd h
  texts_own (p ∷ ps) [] h = absurd h
  texts_own (p ∷ ps) (t ∷ ts) h = ap₂ (λ x xs. x ∷ xs) h.0.reads (texts_own ps ts h.1)

  record AreMade (names : List (List ℕ)) (k : ℕ) (ps ts : List (List ℕ)) : Type 0 where
    fields : List Field
    is : projections (name_at names) k (map Ok (map Text ts)) ≡ Ok fields
    parts : flat_map (parts_of (Csv csv)) fields ≡ ps

  made : (names : List (List ℕ)) (ps ts : List (List ℕ)) → AreOwn d csv ps ts → (k : ℕ) → AreMade names k ps ts
  unfolding projections
  made names [] [] h k = record { fields = []; is = refl; parts = refl }
  made names [] (t ∷ ts) h k = absurd h
  made names (p ∷ ps) [] h k = absurd h
  made names (p ∷ ps) (t ∷ ts) h k =
      let r = made names ps ts h.1 (suc k) in
      record {
        fields = named (name_at names k) (Text t) ∷ r.fields;
        is = ap (put_before (named (name_at names k) (Text t))) r.is;
        parts = ap₂ (λ x xs. x ∷ xs) h.0.writes r.parts;
      }

  module _ (field : csv.field ≡ d.field) where
    record_own : (fields : List Field) (ps : List (List ℕ)) (line : List ℕ) → flat_map (parts_of (Csv csv)) fields ≡ ps → joined (d.field ∷ []) ps ≡ line
        → record_text (Csv csv) fields ≡ line
    record_own fields ps line parts joins =
        append-nil (joined (csv.field ∷ []) (flat_map (parts_of (Csv csv)) fields)) ∙ ap₂ (λ f l. joined (f ∷ []) l) field parts ∙ joins

    pub cells_own : (names : List (List ℕ)) (longest : ℕ) (ps ts : List (List ℕ)) (line : List ℕ) → AreOwn d csv ps ts → joined (d.field ∷ []) ps ≡ line
        → of_cells names (Csv csv) longest (map Text ts) ≡ limited (Csv csv) longest line
    cells_own names longest ps ts line own joins =
        let r = made names ps ts own 0 in
        ap (of_fields (Csv csv) longest) r.is ∙ ap (limited (Csv csv) longest) (record_own r.fields ps line r.parts joins)
