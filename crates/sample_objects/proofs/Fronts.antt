-- The lines that stand before a number, and what a sink was given of them.
use Rattle.std.proofs.Common.{◌≡◌, ℕ, zero, suc, ◌+◌, ◌-◌, ◌≤◌, List, [], ◌++◌, Option, sym, ap, ◌∙◌, subst, arith, append_assoc, append-nil}
use Rattle.std.specs.Io.KnownBytes.{Appends}
use Rattle.select_ports.specs.Streams.{IsFront, AppendsFront}
use Rattle.select_ports.proofs.Told.{appends-front-after}
use Rattle.std.proofs.KnownBytes.{Appends-trans}
use Rattle.sample_objects.specs.declared.kind.SampleKind.{SampleKind}
use Rattle.sample_objects.specs.Objects.{line_of, head_of, lines_below, sample}

-- a line more
pub one_more : (kind : SampleKind) (first i : ℕ) (old new : List ℕ) → lines_below kind i ≡ lines_below kind first ++ old
    → new ≡ old ++ line_of kind i → lines_below kind (i + 1) ≡ lines_below kind first ++ new
unfolding lines_below
one_more kind first i old new before added =
    let next : i + 1 ≡ suc i = omega arith in
    ap (lines_below kind) next ∙ ap (λ l. l ++ line_of kind i) before ∙ append_assoc (lines_below kind first) old (line_of kind i)
    ∙ ap (λ l. lines_below kind first ++ l) (sym added)

-- the lines below a number are a front of those below a larger one
front_below : (kind : SampleKind) (few more : ℕ) → IsFront (lines_below kind few) (lines_below kind (more + few))
unfolding lines_below
front_below kind few zero =
    let none : few ≡ 0 + few = omega arith in
    record { rest = []; joined = ap (lines_below kind) (sym none) ∙ sym (append-nil (lines_below kind few)) }
front_below kind few (suc more) =
    let front = front_below kind few more in
    let next : suc more + few ≡ suc (more + few) = omega arith in
    record {
      rest = front.rest ++ line_of kind (more + few);
      joined = ap (lines_below kind) next ∙ ap (λ l. l ++ line_of kind (more + few)) front.joined
          ∙ append_assoc (lines_below kind few) front.rest (line_of kind (more + few));
    }

lines_front : (kind : SampleKind) (few count : ℕ) → few ≤ count → IsFront (lines_below kind few) (lines_below kind count)
lines_front kind few count within =
    let same : count - few + few ≡ count = omega (arith, within) in
    subst (λ n. IsFront (lines_below kind few) (lines_below kind n)) same (front_below kind few (count - few))

-- the head and no line
pub head_alone : (kind : SampleKind) → head_of kind ++ lines_below kind 0 ≡ head_of kind
unfolding lines_below
head_alone kind = append-nil (head_of kind)

-- the next lines behind the head and those before them
pub next_lines : (kind : SampleKind) (i next : ℕ) (block : List ℕ) → lines_below kind next ≡ lines_below kind i ++ block
    → (head_of kind ++ lines_below kind i) ++ block ≡ head_of kind ++ lines_below kind next
next_lines kind i next block lines = append_assoc (head_of kind) (lines_below kind i) block ∙ ap (λ l. head_of kind ++ l) (sym lines)

-- the next lines were added to a sink
pub adds_lines : (kind : SampleKind) (i next : ℕ) (block text : List ℕ) (a b c : Option (List ℕ))
    → lines_below kind next ≡ lines_below kind i ++ block → text ≡ block → Appends a b (head_of kind ++ lines_below kind i) → Appends b c text
    → Appends a c (head_of kind ++ lines_below kind next)
adds_lines kind i next block text a b c lines same before added =
    subst (Appends a c) (ap (λ l. (head_of kind ++ lines_below kind i) ++ l) same ∙ next_lines kind i next block lines)
    (Appends-trans a b c _ _ before added)

-- a front was added where more would have followed
longer_front : (a b : Option (List ℕ)) (whole more : List ℕ) → AppendsFront a b whole → AppendsFront a b (whole ++ more)
longer_front a b whole more x = record {
  front = x.front;
  is_front = record { rest = x.is_front.rest ++ more; joined = ap (λ l. l ++ more) x.is_front.joined ∙ append_assoc x.front x.is_front.rest more };
  appended = x.appended;
}

-- the sink failed at the head
pub stops_at_head : (kind : SampleKind) (count : ℕ) (text : List ℕ) (a b : Option (List ℕ)) → text ≡ head_of kind → AppendsFront a b text
    → AppendsFront a b (sample kind count)
unfolding sample
stops_at_head kind count text a b same front =
    longer_front a b (head_of kind) (lines_below kind count) (subst (AppendsFront a b) same front)

-- the sink failed at the next lines
pub stops_at_lines : (kind : SampleKind) (i next count : ℕ) (block text : List ℕ) (a b c : Option (List ℕ)) → next ≤ count
    → lines_below kind next ≡ lines_below kind i ++ block → text ≡ block → Appends a b (head_of kind ++ lines_below kind i) → AppendsFront b c text
    → AppendsFront a c (sample kind count)
unfolding sample
stops_at_lines kind i next count block text a b c within lines same before front =
    let rest = lines_front kind next count within in
    let first = head_of kind ++ lines_below kind i in
    let whole : first ++ (text ++ rest.rest) ≡ head_of kind ++ lines_below kind count =
    ap (λ l. first ++ (l ++ rest.rest)) same ∙ sym (append_assoc first block rest.rest)
    ∙ ap (λ l. l ++ rest.rest) (next_lines kind i next block lines)
    ∙ append_assoc (head_of kind) (lines_below kind next) rest.rest ∙ ap (λ l. head_of kind ++ l) (sym rest.joined) in
    subst (AppendsFront a c) whole (appends-front-after a b c first text rest.rest before front)

-- all was added
pub adds_sample : (kind : SampleKind) (i count : ℕ) (a b : Option (List ℕ)) → i ≡ count → Appends a b (head_of kind ++ lines_below kind i)
    → Appends a b (sample kind count)
unfolding sample
adds_sample kind i count a b same added = subst (λ n. Appends a b (head_of kind ++ lines_below kind n)) same added

pub whole_sample : (kind : SampleKind) (i count : ℕ) → i ≡ count → head_of kind ++ lines_below kind i ≡ sample kind count
unfolding sample
whole_sample kind i count same = ap (λ n. head_of kind ++ lines_below kind n) same
