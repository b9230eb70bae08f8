-- A walk over a line tells that each field, in quotes or not, comes out as it went in.
use Rattle.std.specs.Prelude.{◌≡◌, ℕ, ◌+◌, ◌<◌, ◌≤◌, Bool, true, false, ◌||◌, ◌&&◌, ◌==◌, nat_le, List, [], ◌∷◌, ◌++◌, length, if◌then◌else◌, refl}
use Rattle.std.proofs.Common.{ap, ap₂, sym, subst, ◌∙◌, arith}
use Rattle.std.specs.List.{list_any, onto_first}
use Rattle.std.specs.Str.{chars, encode_utf8_all, IsAscii, NonePass}
use Rattle.std.proofs.lemmas.Bool.{cond-true}
use Rattle.std.proofs.lemmas.Bool.Decides.{nat_tests}
use Rattle.std.proofs.lemmas.Str.{chars-IsAscii, encodes-IsAscii}
use Rattle.std.proofs.lemmas.Str.Ascii.{IsAscii-nil, IsAscii-cons}
use Rattle.select_request.specs.declared.request.CsvOutput.{CsvOutput}
use Rattle.text_view.specs.QuotedField.{unquoted, unquoted_after}
use Rattle.csv_cutter.specs.declared.dialect.Dialect.{Dialect}
use Rattle.csv_cutter.specs.declared.walk.State.TheVariants.{Start as FieldStart, Tail, Inside, Paired}
use Rattle.csv_cutter.specs.Fields.{text_of}
use Rattle.csv_cutter.specs.Walk.{special, cut_from}
use Rattle.csv_cutter.proofs.Lines.{cut_nil, cut_here, cut_onwards, tail_stays, start_plain}
use Rattle.record_output.specs.CsvFields.{is_guarded, is_delimiter_byte, is_quoted, escaped_text, csv_field}
use Rattle.record_output.specs.Records.{joined}
use Rattle.planned_lines.specs.declared.respelled.Place.{Place}
use Rattle.planned_lines.specs.declared.respelled.Place.TheVariants.{Start, Bare, Quoted, Guarded, Closed, Other}
use Rattle.planned_lines.specs.Copying.{is_stop, is_odd, after, comes_out}
use Rattle.planned_lines.proofs.Pieces.{or_left, or_right, or_none, low, same_byte, join_onto, ends_piece, IsOwn, AreOwn, IsOwnCut, piece_own}

own_byte : (c : ℕ) → (c == c) ≡ true
own_byte c = grind (arith, nat_tests)

-- no byte between the quotes of a field
abbrev ends_inside : Dialect → CsvOutput → ℕ → Bool
ends_inside d csv c = c == d.quote || is_odd d csv c

odd_escape : (d : Dialect) (csv : CsvOutput) (c : ℕ) → is_odd d csv c ≡ false → (c == d.escape) ≡ false
odd_escape d csv c h = or_left (c == d.escape) (c == csv.escape) (or_left (c == d.escape || c == csv.escape) (nat_le 128 c) h)

odd_written : (d : Dialect) (csv : CsvOutput) (c : ℕ) → is_odd d csv c ≡ false → (c == csv.escape) ≡ false
odd_written d csv c h = or_right (c == d.escape) (c == csv.escape) (or_left (c == d.escape || c == csv.escape) (nat_le 128 c) h)

odd_low : (d : Dialect) (csv : CsvOutput) (c : ℕ) → is_odd d csv c ≡ false → c < 128
odd_low d csv c h = low c (or_right (c == d.escape || c == csv.escape) (nat_le 128 c) h)

-- ---- what stands between the quotes

module _ (d : Dialect) (csv : CsvOutput) (same : csv.quote ≡ d.quote) (always : csv.always ≡ false) (field : csv.field ≡ d.field) (quote_low : d.quote < 128) where
  inside_ascii : (inside : List ℕ) → NonePass (ends_inside d csv) inside → IsAscii inside
  inside_ascii [] h = IsAscii-nil
  inside_ascii (c ∷ cs) h = IsAscii-cons c cs (odd_low d csv c (or_right (c == d.quote) (is_odd d csv c) h.0)) (inside_ascii cs h.1)

  spelled_ascii : (inside : List ℕ) → NonePass (ends_inside d csv) inside → IsAscii (inside ++ d.quote ∷ [])
  spelled_ascii [] h = IsAscii-cons d.quote [] quote_low IsAscii-nil
  spelled_ascii (c ∷ cs) h = IsAscii-cons c (cs ++ d.quote ∷ []) (odd_low d csv c (or_right (c == d.quote) (is_odd d csv c) h.0)) (spelled_ascii cs h.1)

  read_on : (c : ℕ) (cs : List ℕ) (x a b : Bool) (skipped closed : List ℕ) → a ≡ false → b ≡ false
      → (if a && x then skipped else (if b then closed else c ∷ cs)) ≡ c ∷ cs
  read_on c cs x true b skipped closed e f = absurd (cc)
  read_on c cs x false true skipped closed e f = absurd (cc)
  read_on c cs x false false skipped closed e f = refl

  read_end : (a b : Bool) (skipped other : List ℕ) → b ≡ true → (if a && false then skipped else (if b then [] else other)) ≡ []
  read_end true true skipped other e = refl
  read_end true false skipped other e = absurd (cc)
  read_end false true skipped other e = refl
  read_end false false skipped other e = absurd (cc)

  inside_read : (inside : List ℕ) → NonePass (ends_inside d csv) inside → unquoted_after d.quote d.escape 0 (inside ++ d.quote ∷ []) ≡ inside
  inside_read [] h = read_end (d.quote == d.escape) (d.quote == d.quote) _ _ (own_byte d.quote)
  inside_read (c ∷ cs) h =
      read_on c _ _ (c == d.escape) (c == d.quote) _ _ (odd_escape d csv c (or_right (c == d.quote) (is_odd d csv c) h.0)) (or_left (c == d.quote) (is_odd d csv c) h.0)
      ∙ ap (λ l. c ∷ l) (inside_read cs h.1)

  quoted_read : (inside : List ℕ) → NonePass (ends_inside d csv) inside → text_of d (chars (d.quote ∷ (inside ++ d.quote ∷ []))) ≡ inside
  unfolding unquoted
  quoted_read inside h =
      ap (text_of d) (chars-IsAscii (d.quote ∷ (inside ++ d.quote ∷ [])) (IsAscii-cons d.quote (inside ++ d.quote ∷ []) quote_low (spelled_ascii inside h)))
      ∙ cond-true _ _ _ (own_byte d.quote) ∙ inside_read inside h

  own_escape : (a b : Bool) (c e : ℕ) (cs : List ℕ) → a ≡ false → b ≡ false → (if a || b then e ∷ c ∷ [] else c ∷ []) ++ cs ≡ c ∷ cs
  own_escape true b c e cs f g = absurd (cc)
  own_escape false true c e cs f g = absurd (cc)
  own_escape false false c e cs f g = refl

  inside_escaped : (inside : List ℕ) → NonePass (ends_inside d csv) inside → escaped_text csv inside ≡ inside
  unfolding escaped_text
  inside_escaped [] h = refl
  inside_escaped (c ∷ cs) h =
      own_escape (c == csv.quote) (c == csv.escape) c csv.escape _ (ap (λ q. c == q) same ∙ or_left (c == d.quote) (is_odd d csv c) h.0)
      (odd_written d csv c (or_right (c == d.quote) (is_odd d csv c) h.0)) ∙ ap (λ l. c ∷ l) (inside_escaped cs h.1)

  or_more : (a b x y r s : Bool) → b ≡ a → (a || r) ≡ true → (r ≡ true → s ≡ true) → (((b || x) || y) || s) ≡ true
  or_more true true x y r s e h more = refl
  or_more true false x y r s e h more = absurd (cc)
  or_more false true x y r s e h more = refl
  or_more false false true y r s e h more = refl
  or_more false false false true r s e h more = refl
  or_more false false false false r s e h more = more h

  has_guarded : (inside : List ℕ) → list_any (λ c. c == d.field) inside ≡ true → list_any (is_guarded csv) inside ≡ true
  has_guarded [] h = h
  has_guarded (c ∷ cs) h =
      or_more (c == d.field) (c == csv.field) (c == csv.quote) (is_delimiter_byte csv.delimiter c) (list_any (λ c. c == d.field) cs) (list_any (is_guarded csv) cs)
      (ap (λ f. c == f) field) h (has_guarded cs)

  inside_quoted : (inside : List ℕ) → list_any (λ c. c == d.field) inside ≡ true → is_quoted csv inside ≡ true
  unfolding is_quoted
  inside_quoted inside h = ap₂ (λ a b. a || b) always (has_guarded inside h)

  quoted_written : (inside : List ℕ) → NonePass (ends_inside d csv) inside → list_any (λ c. c == d.field) inside ≡ true
      → csv_field csv (encode_utf8_all inside) ≡ d.quote ∷ (inside ++ d.quote ∷ [])
  unfolding csv_field
  quoted_written inside h has =
      ap (csv_field csv) (encodes-IsAscii inside (inside_ascii inside h)) ∙ cond-true _ _ _ (inside_quoted inside has)
      ∙ ap₂ (λ q l. q ∷ (l ++ q ∷ [])) same (inside_escaped inside h)

  quoted_own : (inside : List ℕ) → NonePass (ends_inside d csv) inside → list_any (λ c. c == d.field) inside ≡ true
      → IsOwn d csv (d.quote ∷ (inside ++ d.quote ∷ [])) inside
  quoted_own inside h has = record { reads = quoted_read inside h; writes = quoted_written inside h has }

  empty_own : IsOwn d csv [] []
  empty_own = piece_own d csv always field [] tt

  -- ---- the walk, from each of its places

  -- behind the quote that a field begins with
  record IsOpenCut (has : Bool) (line : List ℕ) : Type 0 where
    inside : List ℕ
    others : List (List ℕ)
    texts : List (List ℕ)
    is : cut_from d Inside line ≡ (inside ++ d.quote ∷ []) ∷ others
    inner : NonePass (ends_inside d csv) inside
    guarded : (has || list_any (λ c. c == d.field) inside) ≡ true
    owns : AreOwn d csv others texts
    joins : joined (d.field ∷ []) ((inside ++ d.quote ∷ []) ∷ others) ≡ line
    few : length others ≤ length line

  -- behind the quote that closes it
  record IsClosedCut (line : List ℕ) : Type 0 where
    others : List (List ℕ)
    texts : List (List ℕ)
    is : cut_from d Tail line ≡ [] ∷ others
    quiet : special d line ≡ false
    owns : AreOwn d csv others texts
    joins : joined (d.field ∷ []) ([] ∷ others) ≡ line
    few : length others ≤ length line

  -- in a field without quotes
  record IsBareCut (line : List ℕ) : Type 0 where
    first : List ℕ
    others : List (List ℕ)
    texts : List (List ℕ)
    is : cut_from d Tail line ≡ first ∷ others
    bare : NonePass (ends_piece d csv) first
    owns : AreOwn d csv others texts
    joins : joined (d.field ∷ []) (first ∷ others) ≡ line
    few : length others ≤ length line

  abbrev AtPlace : Place → List ℕ → Type 0
  AtPlace Start line = IsOwnCut d csv (cut_from d FieldStart line) line
  AtPlace Bare line = IsBareCut line
  AtPlace Quoted line = IsOpenCut false line
  AtPlace Guarded line = IsOpenCut true line
  AtPlace Closed line = IsClosedCut line
  AtPlace Other line = ⊥

  no_end : (cs : List ℕ) → comes_out d csv Other cs ≡ true → ⊥
  unfolding comes_out
  no_end [] h = absurd (cc)
  no_end (c ∷ cs) h = no_end cs h

  module _ (apart : (d.field == d.quote) ≡ false) (unescaped : (d.field == d.escape) ≡ false) where
    module _ (c : ℕ) (cs : List ℕ) (on : (place : Place) → comes_out d csv place cs ≡ true → AtPlace place cs) where
      quote_no_field : (c == d.quote) ≡ true → (c == d.field) ≡ false
      quote_no_field e = ap (λ x. x == d.field) (same_byte c d.quote e) ∙ other_way (d.field == d.quote) (d.quote == d.field) refl refl apart
        where
          other_way : (a b : Bool) → (d.field == d.quote) ≡ a → (d.quote == d.field) ≡ b → a ≡ false → (d.quote == d.field) ≡ false
          other_way a b e f g = grind (arith, nat_tests)

      from_start : (a b x : Bool) → (c == d.quote) ≡ a → (c == d.field) ≡ b → is_stop d csv c ≡ x
          → comes_out d csv (if a then Quoted else (if b then Start else (if x then Other else Bare))) cs ≡ true → IsOwnCut d csv (cut_from d FieldStart (c ∷ cs)) (c ∷ cs)
      from_start true b x e f g h =
          let r = on Quoted h in
          let is = same_byte c d.quote e in
          let other = quote_no_field e in
          record {
            first = c ∷ (r.inside ++ d.quote ∷ []);
            others = r.others;
            text = r.inside;
            texts = r.texts;
            is = cut_onwards d FieldStart c cs other
                ∙ ap₂ (λ x y. onto_first c (cut_from d (if x then FieldStart else (if y then Inside else Tail)) cs)) other e ∙ ap (onto_first c) r.is;
            own = subst (λ y. IsOwn d csv (y ∷ (r.inside ++ d.quote ∷ [])) r.inside) (sym is) (quoted_own r.inside r.inner r.guarded);
            owns = r.owns;
            joins = join_onto d.field c (r.inside ++ d.quote ∷ []) r.others ∙ ap (λ l. c ∷ l) r.joins;
            few = omega (arith, r.few);
          }
      from_start false true x e f g h =
          let r = on Start h in
          record {
            first = [];
            others = r.first ∷ r.others;
            text = [];
            texts = r.text ∷ r.texts;
            is = cut_here d FieldStart c cs f ∙ ap (λ l. [] ∷ l) r.is;
            own = empty_own;
            owns = (r.own, r.owns);
            joins = ap₂ (λ y l. y ∷ l) (sym (same_byte c d.field f)) r.joins;
            few = omega (arith, r.few);
          }
      from_start false false true e f g h = absurd (no_end cs h)
      from_start false false false e f g h =
          let r = on Bare h in
          record {
            first = c ∷ r.first;
            others = r.others;
            text = c ∷ r.first;
            texts = r.texts;
            is = cut_onwards d FieldStart c cs f ∙ ap (λ t. onto_first c (cut_from d t cs)) (start_plain d c (special d cs) f e) ∙ ap (onto_first c) r.is;
            own = piece_own d csv always field (c ∷ r.first) (or_none (c == d.field) (is_stop d csv c) f g, r.bare);
            owns = r.owns;
            joins = join_onto d.field c r.first r.others ∙ ap (λ l. c ∷ l) r.joins;
            few = omega (arith, r.few);
          }

      from_bare : (b x : Bool) → (c == d.field) ≡ b → is_stop d csv c ≡ x → comes_out d csv (if b then Start else (if x then Other else Bare)) cs ≡ true → IsBareCut (c ∷ cs)
      from_bare true x f g h =
          let r = on Start h in
          record {
            first = [];
            others = r.first ∷ r.others;
            texts = r.text ∷ r.texts;
            is = cut_here d Tail c cs f ∙ ap (λ l. [] ∷ l) r.is;
            bare = tt;
            owns = (r.own, r.owns);
            joins = ap₂ (λ y l. y ∷ l) (sym (same_byte c d.field f)) r.joins;
            few = omega (arith, r.few);
          }
      from_bare false true f g h = absurd (no_end cs h)
      from_bare false false f g h =
          let r = on Bare h in
          record {
            first = c ∷ r.first;
            others = r.others;
            texts = r.texts;
            is = cut_onwards d Tail c cs f ∙ ap (λ t. onto_first c (cut_from d t cs)) (tail_stays d c (special d cs) f) ∙ ap (onto_first c) r.is;
            bare = (or_none (c == d.field) (is_stop d csv c) f g, r.bare);
            owns = r.owns;
            joins = join_onto d.field c r.first r.others ∙ ap (λ l. c ∷ l) r.joins;
            few = omega (arith, r.few);
          }

      stays_inside : (a b x : Bool) → a ≡ false → b ≡ false → (if a && x then Paired else (if b then Tail else Inside)) ≡ Inside
      stays_inside true b x e f = absurd (cc)
      stays_inside false true x e f = absurd (cc)
      stays_inside false false x e f = refl

      closes : (a b x : Bool) → x ≡ false → b ≡ true → (if a && x then Paired else (if b then Tail else Inside)) ≡ Tail
      closes a b true e f = absurd (cc)
      closes a false false e f = absurd (cc)
      closes true true false e f = refl
      closes false true false e f = refl

      one_inside : (has had : Bool) → (c == d.quote) ≡ false → is_odd d csv c ≡ false → ((r : IsOpenCut had cs) → (has || ((c == d.field) || list_any (λ y. y == d.field) r.inside)) ≡ true)
          → IsOpenCut had cs → IsOpenCut has (c ∷ cs)
      one_inside has had e g guards r = record {
        inside = c ∷ r.inside;
        others = r.others;
        texts = r.texts;
        is = cut_onwards d Inside c cs refl
            ∙ ap (λ t. onto_first c (cut_from d t cs)) (stays_inside (c == d.escape) (c == d.quote) (special d cs) (odd_escape d csv c g) e) ∙ ap (onto_first c) r.is;
        inner = (or_none (c == d.quote) (is_odd d csv c) e g, r.inner);
        guarded = guards r;
        owns = r.owns;
        joins = join_onto d.field c (r.inside ++ d.quote ∷ []) r.others ∙ ap (λ l. c ∷ l) r.joins;
        few = omega (arith, r.few);
      }

      from_quoted : (a x b : Bool) → (c == d.quote) ≡ a → is_odd d csv c ≡ x → (c == d.field) ≡ b
          → comes_out d csv (if a then Other else (if x then Other else (if b then Guarded else Quoted))) cs ≡ true → IsOpenCut false (c ∷ cs)
      from_quoted true x b e g f h = absurd (no_end cs h)
      from_quoted false true b e g f h = absurd (no_end cs h)
      from_quoted false false true e g f h = one_inside false true e g (λ r. ap (λ y. y || list_any (λ y. y == d.field) r.inside) f) (on Guarded h)
      from_quoted false false false e g f h = one_inside false false e g (λ r. ap (λ y. y || list_any (λ y. y == d.field) r.inside) f ∙ r.guarded) (on Quoted h)

      from_guarded : (a x : Bool) → (c == d.quote) ≡ a → is_odd d csv c ≡ x → comes_out d csv (if a then Closed else (if x then Other else Guarded)) cs ≡ true → IsOpenCut true (c ∷ cs)
      from_guarded true x e g h =
          let r = on Closed h in
          let is = same_byte c d.quote e in
          record {
            inside = [];
            others = r.others;
            texts = r.texts;
            is = cut_onwards d Inside c cs refl
                ∙ ap (λ t. onto_first c (cut_from d t cs)) (closes (c == d.escape) (c == d.quote) (special d cs) r.quiet e)
                ∙ ap (onto_first c) r.is ∙ ap (λ y. (y ∷ []) ∷ r.others) is;
            inner = tt;
            guarded = refl;
            owns = r.owns;
            joins = join_onto d.field d.quote [] r.others ∙ ap₂ (λ y l. y ∷ l) (sym is) r.joins;
            few = omega (arith, r.few);
          }
      from_guarded false true e g h = absurd (no_end cs h)
      from_guarded false false e g h = one_inside true true e g (λ r. refl) (on Guarded h)

      from_closed : (b : Bool) → (c == d.field) ≡ b → comes_out d csv (if b then Start else Other) cs ≡ true → IsClosedCut (c ∷ cs)
      from_closed true f h =
          let r = on Start h in
          record {
            others = r.first ∷ r.others;
            texts = r.text ∷ r.texts;
            is = cut_here d Tail c cs f ∙ ap (λ l. [] ∷ l) r.is;
            quiet = or_none (c == d.quote) (c == d.escape)
                (ap (λ y. y == d.quote) (same_byte c d.field f) ∙ apart) (ap (λ y. y == d.escape) (same_byte c d.field f) ∙ unescaped);
            owns = (r.own, r.owns);
            joins = ap₂ (λ y l. y ∷ l) (sym (same_byte c d.field f)) r.joins;
            few = omega (arith, r.few);
          }
      from_closed false f h = absurd (no_end cs h)

      onward : (place : Place) → comes_out d csv (after d csv place c) cs ≡ true → AtPlace place (c ∷ cs)
      onward Start h = from_start (c == d.quote) (c == d.field) (is_stop d csv c) refl refl refl h
      onward Bare h = from_bare (c == d.field) (is_stop d csv c) refl refl h
      onward Quoted h = from_quoted (c == d.quote) (is_odd d csv c) (c == d.field) refl refl refl h
      onward Guarded h = from_guarded (c == d.quote) (is_odd d csv c) refl refl h
      onward Closed h = from_closed (c == d.field) refl h
      onward Other h = no_end cs h

    walked : (place : Place) (cs : List ℕ) → comes_out d csv place cs ≡ true → AtPlace place cs
    unfolding comes_out
    walked Start [] h = record { first = []; others = []; text = []; texts = []; is = cut_nil d FieldStart; own = empty_own; owns = tt; joins = refl; few = omega arith }
    walked Bare [] h = record { first = []; others = []; texts = []; is = cut_nil d Tail; bare = tt; owns = tt; joins = refl; few = omega arith }
    walked Quoted [] h = absurd (cc)
    walked Guarded [] h = absurd (cc)
    walked Closed [] h = record { others = []; texts = []; is = cut_nil d Tail; quiet = refl; owns = tt; joins = refl; few = omega arith }
    walked Other [] h = absurd (cc)
    walked place (c ∷ cs) h = onward c cs (λ p e. walked p cs e) place h

    pub respelled_own : (line : List ℕ) → comes_out d csv Start line ≡ true → IsOwnCut d csv (cut_from d FieldStart line) line
    respelled_own line h = walked Start line h
