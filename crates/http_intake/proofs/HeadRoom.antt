-- A head within its limit has no more fields than there is room for.
use Rattle.std.proofs.Common.{◌≡◌, ℕ, ◌*◌, ◌≤◌, List, [], ◌∷◌, ◌++◌, length, All, refl, sym, arith, ap, length-append, length-take, take, drop, ◌∙◌}
use Rattle.std.proofs.Math.Seq.{take-append_seam}
use Rattle.std.proofs.lemmas.List.{take-take}
use Rattle.std.specs.List.{flat_map}
use Rattle.std.proofs.lemmas.List.Elements.{All-head, All-tail}
use Rattle.httparse.specs.Grammar.{LineEnd, crlf, lf, print_end, Field, IsField, print_field, RequestHead, IsRequestHead, print_request, print_section}
use Rattle.httparse.specs.Spans.{RequestExceeds, IsRequestAt, IsRequestOf, IsRequestWithin}
use Rattle.httparse.specs.declared.spans.HeaderSpan.{HeaderSpan}
use Rattle.httparse.specs.declared.spans.RequestSpans.{RequestSpans}
use Rattle.http_intake.specs.Heads.{most_head, most_fields, judged, HasHead, IsHead}

length-end : (e : LineEnd) → 1 ≤ length (print_end e)
length-end crlf = omega arith
length-end lf = omega arith

length-field : (f : Field) → IsField f → 3 ≤ length (print_field f)
length-field f is =
    let text : print_field f ≡ (f.name ++ 58 ∷ f.raw) ++ print_end f.end = refl in
    omega (arith, ap length text, length-append (f.name ++ 58 ∷ f.raw) (print_end f.end), length-append f.name (58 ∷ f.raw), length-end f.end, is.name.0)

length-fields : (fs : List Field) → All IsField fs → 3 * length fs ≤ length (flat_map print_field fs)
length-fields [] are = omega arith
length-fields (f ∷ fs) are =
    omega (
      arith,
      length-append (print_field f) (flat_map print_field fs),
      length-field f (All-head IsField f fs are),
      length-fields fs (All-tail IsField f fs are),
    )

section-last : (h : RequestHead) → (front : List ℕ) × (print_request h ≡ front ++ print_section h.fields h.last)
unfolding print_request
section-last h = (_, refl)

pub length-head : (h : RequestHead) → IsRequestHead h → 3 * length h.fields ≤ length (print_request h)
length-head h is =
    let text = section-last h in
    let section : print_section h.fields h.last ≡ flat_map print_field h.fields ++ print_end h.last = refl in
    omega (
      arith,
      ap length text.1,
      ap length section,
      length-append text.0 (print_section h.fields h.last),
      length-append (flat_map print_field h.fields) (print_end h.last),
      length-fields h.fields is.fields,
    )

-- so the parser never lacks room
pub no-excess : (kept : List ℕ) → RequestExceeds most_fields (judged kept) → ⊥
no-excess kept (front, rest, is, h, reads, more) = omega (
  arith,
  length-head h reads.0,
  ap length reads.1,
  length-append front (10 ∷ []),
  length-append (print_request h) [],
  ap length is,
  length-append front rest,
  length-take most_head kept,
)

-- ---- the text of the head in front

head_text : (kept : List ℕ) (spans : List HeaderSpan) (head : RequestSpans) (tree : RequestHead) → IsRequestWithin (judged kept) spans head
    → IsRequestAt (judged kept) spans head tree → IsHead kept spans head tree
head_text kept spans head tree within at =
    let short : head.len ≤ most_head = omega (arith, within.section.len_fits, length-take most_head kept) in
    record {
      at = at;
      text = sym (take-take head.len most_head kept short) ∙ ap (take head.len) at.reads.1
          ∙ ap (λ n. take n (print_request tree ++ drop head.len (judged kept))) at.len
          ∙ take-append_seam (print_request tree) (drop head.len (judged kept));
    }

pub head_found : (kept : List ℕ) (spans : List HeaderSpan) (head : RequestSpans) → IsRequestWithin (judged kept) spans head
    → IsRequestOf (judged kept) spans head → HasHead kept spans head
head_found kept spans head within (tree, at) = record { within = within; tree = tree; is_head = head_text kept spans head tree within at }
