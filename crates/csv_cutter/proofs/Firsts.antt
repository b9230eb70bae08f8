-- The first fields of a line: where they lie, and what they stand for.
use Rattle.std.proofs.Common.{◌≡◌, ℕ, zero, suc, ◌+◌, ◌≤◌, ◌<◌, Bool, true, false, List, [], ◌∷◌, map, take, drop, length, refl, sym, ◌∙◌, ap, subst, arith, ⊎_elim}
use Rattle.std.proofs.lemmas.List.{length-set, take_all, take_at, take-take, length-map, length-take-le}
use Rattle.std.proofs.lemmas.Bool.{cases_lt}
use Rattle.std.proofs.lemmas.List.Elements.{All-take}
use Rattle.std.proofs.Math.ListN.{set}
use Rattle.std.specs.List.{All, onto_first}
use Rattle.std.specs.Str.{chars, IsUtf8}
use Rattle.byte_masks.specs.declared.split.Span.{Span}
use Rattle.byte_masks.specs.Parts.{part, Cuts, IsPlain}
use Rattle.csv_cutter.specs.declared.dialect.Dialect.{Dialect}
use Rattle.csv_cutter.specs.declared.walk.State.{State}
use Rattle.csv_cutter.specs.declared.walk.State.TheVariants.{Start}
use Rattle.csv_cutter.specs.Fields.{text_of}
use Rattle.csv_cutter.specs.Walk.{special, is_cut, step, cut_from, cut_fields, EndsField, IsLegible}
use Rattle.csv_cutter.specs.Reading.{texts_at, HasFirst, AreFirst, AreWanted}
use Rattle.csv_cutter.proofs.Characters.{IsApart}
use Rattle.csv_cutter.proofs.Lines.{cut_nil, cut_here, cut_onwards, fields_cut}
use Rattle.csv_cutter.proofs.Spelling.{has_first, cut_chars}
use Rattle.csv_cutter.proofs.Cuts.{Cutting, cutting_begins, cutting_goes, cutting_full, plain_first, plain_many, texts_are}

-- ---- a short line hasn't too many

onto_len : (c : ℕ) (d : Dialect) (s : State) (cs : List ℕ) → length (onto_first c (cut_from d s cs)) ≡ length (cut_from d s cs)
onto_len c d s cs = let h = has_first d s cs in ap (λ l. length (onto_first c l)) h.is ∙ sym (ap length h.is)

cut_len : (d : Dialect) (s : State) (cs : List ℕ) → length (cut_from d s cs) ≤ length cs + 1
cut_len d s [] = omega (arith, ap length (cut_nil d s))
cut_len d s (c ∷ cs) = by_cut (λ t. cut_len d t cs) (is_cut d s c) refl
  where
    by_cut : ((t : State) → length (cut_from d t cs) ≤ length cs + 1) → (b : Bool) → is_cut d s c ≡ b → length (cut_from d s (c ∷ cs)) ≤ length (c ∷ cs) + 1
    by_cut ih true e = omega (arith, ap length (cut_here d s c cs e), ih Start)
    by_cut ih false e =
        let t : State = step d s c (special d cs) in
        omega (arith, ap length (cut_onwards d s c cs e), onto_len c d t cs, ih t)

-- ---- on the way through a short line

-- the first spans are those of the fields before a place, and there is room for one more
pub record Fronting (d : Dialect) (line : List ℕ) (spans : List Span) (start count : ℕ) : Type 0 where
  pub cutting : Cutting d line spans start count
  pub room : count < 65536

pub fronting_begins : (d : Dialect) (line : List ℕ) (spans : List Span) → IsUtf8 line → Fronting d line spans 0 0
fronting_begins d line spans u = record { cutting = cutting_begins d line spans u; room = omega arith }

pub fronting_goes : (d : Dialect) → IsApart d → (line : List ℕ) (spans : List Span) (start count end : ℕ) → IsUtf8 line → length line < 65536 → count < length spans
    → end < length line → Cutting d line spans start count → EndsField d line start end
    → Fronting d line (set spans count (record { start = start; end = end })) (end + 1) (count + 1)
fronting_goes d a line spans start count end u small room l c e =
    let next : Cutting d line (set spans count (record { start = start; end = end })) (end + 1) (count + 1) = cutting_goes d a line spans start count end u room l c e in
    record {
      cutting = next;
      room =
          let within : count + 1 ≤ length (set spans count (record { start = start; end = end })) = omega (arith, length-set spans count (record { start = start; end = end })) in
          omega (arith, cutting_full d line (set spans count (record { start = start; end = end })) (end + 1) (count + 1) within next, cut_len d Start line);
    }

-- ---- the spans that are wanted

map_take : {X Y : Type 0} (f : X → Y) (n : ℕ) (xs : List X) → map f (take n xs) ≡ take n (map f xs)
map_take f zero xs = refl
map_take f (suc n) [] = refl
map_take f (suc n) (x ∷ xs) = ap (λ l. f x ∷ l) (map_take f n xs)

cut_so_far : (d : Dialect) (line : List ℕ) (spans : List Span) (start count : ℕ) → length line < 65536 → count ≤ length spans → Cutting d line spans start count
    → AreWanted d line count count spans
cut_so_far d line spans start count small room c = record {
  within = room;
  few = omega (arith, cut_len d Start line);
  parts =
      let n : length (map (part line) (take count spans)) ≡ count = length-map (take count spans) (part line) ∙ length-take-le count spans room in
      sym (ap (take count) (sym c.parts) ∙ take_at (map (part line) (take count spans)) (cut_from d Start (drop start line)) count n);
  legible = c.legible;
}

-- so many spans were cut as are wanted, and more of the line may be left
pub wanted_cut : (d : Dialect) (line : List ℕ) (spans : List Span) (start count wanted : ℕ) → length line < 65536 → count ≡ wanted → count ≤ length spans
    → Cutting d line spans start count → AreWanted d line wanted wanted spans
wanted_cut d line spans start count wanted small all room c = subst (λ n. AreWanted d line n n spans) all (cut_so_far d line spans start count small room c)

fields_many : (d : Dialect) (line : List ℕ) (spans : List Span) (count : ℕ) → AreFirst d line count spans → length (cut_fields d line) ≡ count
fields_many d line spans count f = sym (ap length f.parts) ∙ length-map (take count spans) (part line) ∙ length-take-le count spans f.within

-- no more fields are there than are wanted
pub all_wanted : (d : Dialect) (line : List ℕ) (spans : List Span) (wanted count : ℕ) → count ≤ wanted → AreFirst d line count spans → AreWanted d line wanted count spans
all_wanted d line spans wanted count l f = record {
  within = f.within;
  few = omega (arith, f.few, fields_many d line spans count f);
  parts = f.parts ∙ sym (take_all wanted (cut_fields d line) (omega (arith, fields_many d line spans count f)));
  legible = f.legible;
}

-- more fields were cut than are wanted
pub front_wanted : (d : Dialect) (line : List ℕ) (spans : List Span) (wanted count : ℕ) → wanted ≤ count → AreFirst d line count spans → AreWanted d line wanted wanted spans
front_wanted d line spans wanted count l f =
    let front : take wanted (take count spans) ≡ take wanted spans = take-take wanted count spans l in record {
      within = omega (arith, f.within);
      few = omega (arith, f.few, fields_many d line spans count f);
      parts = ap (map (part line)) (sym front) ∙ map_take (part line) wanted (take count spans) ∙ ap (take wanted) f.parts;
      legible = subst (All (IsLegible line)) front (All-take (IsLegible line) wanted (take count spans) f.legible);
    }

-- a plain line that is short was cut
pub plain_few : (d : Dialect) (line : List ℕ) (spans : List Span) (count : ℕ) → length line < 65536 → count ≤ length spans → IsPlain d.quote line
    → Cuts d.field line (take count spans) → AreFirst d line count spans
plain_few d line spans count small room plain cuts =
    let few : count ≤ 65536 = ⊎_elim (λ many. absurd (omega (arith, plain_many d line spans count room many plain cuts, cut_len d Start line))) (λ l. l) (cases_lt 65536 count) in
    plain_first d line spans count room few plain cuts

-- ---- what they stand for

pub wanted_read : (d : Dialect) → IsApart d → (line : List ℕ) (wanted count : ℕ) (spans : List Span) → IsUtf8 line → AreWanted d line wanted count spans
    → HasFirst d line wanted (texts_at d line (take count spans))
wanted_read d a line wanted count spans u w = record {
  texts = map (text_of d) (cut_fields d (chars line));
  read = record {
    utf8 = u;
    spelled = fields_cut d a (chars line);
    few = omega (
      arith,
      w.few,
      length-map (cut_fields d (chars line)) (text_of d),
      ap length (cut_chars d a line u),
      length-map (cut_fields d line) chars,
    );
  };
  first =
      texts_are d line (take count spans) ∙ ap (λ l. map (text_of d) (map chars l)) w.parts ∙ ap (map (text_of d)) (map_take chars wanted (cut_fields d line))
      ∙ map_take (text_of d) wanted (map chars (cut_fields d line)) ∙ ap (λ l. take wanted (map (text_of d) l)) (cut_chars d a line u);
}
