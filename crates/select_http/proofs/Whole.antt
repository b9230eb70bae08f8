-- The message in front of what was kept.
use Rattle.std.proofs.Common.{◌≡◌, ℕ, ◌+◌, List, ◌++◌, length, take, drop, Option, Ok, sym, ap, ◌∙◌, subst, arith, append_assoc}
use Rattle.std.specs.Prelude.{is_some}
use Rattle.std.proofs.lemmas.List.{take-append-drop, drop-drop, length-take, length-take-le, length-drop}
use Rattle.std.proofs.Math.Seq.{drop-append_seam}
use Rattle.select_ports.specs.Stored.{Objects}
use Rattle.network_ports.specs.Calls.{Link}
use Rattle.httparse.specs.Grammar.{RequestHead, print_request}
use Rattle.httparse.specs.declared.spans.HeaderSpan.{HeaderSpan}
use Rattle.httparse.specs.declared.spans.RequestSpans.{RequestSpans}
use Rattle.http_intake.specs.Heads.{most_head, HasHead}
use Rattle.http_intake.specs.Targets.{object_of}
use Rattle.select_http.specs.Messages.{IsShortHead, closing_if, interim_if, interim_of}
use Rattle.select_http.specs.Answers.{IsReply}
use Rattle.select_http.specs.Exchanges.{IsAnswered}
use Rattle.select_http.specs.Turns.{named_of, IsHeadingIn, IsHeadingOf, Receives}
use Rattle.select_http.specs.declared.heading.Heading.{Heading}

pub short_head : (kept : List ℕ) (spans : List HeaderSpan) (head : RequestSpans) → (has : HasHead kept spans head) → IsShortHead has.tree
short_head kept spans head has =
    let within = has.within.section.len_fits in
    let len = has.is_head.at.len in
    record { valid = has.is_head.at.reads.0; short = omega (arith, within, len, length-take most_head kept) }

pub head_joined : (kept : List ℕ) (spans : List HeaderSpan) (head : RequestSpans) → (has : HasHead kept spans head)
    → kept ≡ print_request has.tree ++ drop head.len kept
head_joined kept spans head has = sym (take-append-drop head.len kept) ∙ ap (λ l. l ++ drop head.len kept) has.is_head.text

pub heading_in : (kept : List ℕ) (spans : List HeaderSpan) (head : RequestSpans) (heading : Heading) → (has : HasHead kept spans head)
    → IsHeadingOf has.tree heading → IsHeadingIn kept heading
heading_in kept spans head heading has says = record {
  tree = has.tree;
  short = short_head kept spans head has;
  says = says;
  behind = drop head.len kept;
  joined = head_joined kept spans head has;
}

-- the message in front is whole, with this body, and what stands behind it
pub record IsWhole (kept : List ℕ) (heading : Heading) (body behind : List ℕ) : Type 0 where
  pub tree : RequestHead
  pub short : IsShortHead tree
  pub says : IsHeadingOf tree heading
  pub size : length body ≡ heading.body
  pub joined : kept ≡ (print_request tree ++ body) ++ behind

-- a list of three parts, of which the first two have these lengths
three_parts : (kept front more : List ℕ) (m n : ℕ) → kept ≡ front ++ more → m ≡ length front
    → kept ≡ (front ++ take n (drop m kept)) ++ drop (m + n) kept
three_parts kept front more m n joined len =
    let rest : drop m kept ≡ more = ap (λ k. drop k kept) len ∙ ap (drop (length front)) joined ∙ drop-append_seam front more in
    let last : drop (m + n) kept ≡ drop n more = sym (drop-drop n m kept) ∙ ap (drop n) rest in
    joined ∙ ap (λ l. front ++ l) (sym (take-append-drop n more)) ∙ sym (append_assoc front (take n more) (drop n more))
    ∙ ap (λ l. (front ++ take n l) ++ drop n more) (sym rest) ∙ ap (λ l. (front ++ take n (drop m kept)) ++ l) (sym last)

pub whole_of : (held : Option Objects) (a b : Link) (x y interim : List ℕ) (heading : Heading) → IsHeadingIn x heading
    → Receives held a b x y interim (heading.head + heading.body)
    → IsWhole y heading (take heading.body (drop heading.head y)) (drop (heading.head + heading.body) y)
whole_of held a b x y interim heading head received =
    let more : y ≡ print_request head.tree ++ (head.behind ++ received.took) =
    received.joined ∙ ap (λ l. l ++ received.took) head.joined ∙ append_assoc (print_request head.tree) head.behind received.took in
    record {
      tree = head.tree;
      short = head.short;
      says = head.says;
      size = length-take-le heading.body (drop heading.head y) (omega (arith, received.enough, length-drop heading.head y));
      joined = three_parts y (print_request head.tree) (head.behind ++ received.took) heading.head heading.body more head.says.head_len;
    }

-- what the code says of a reply is what the message says
pub answered_by : (longest : ℕ) (held : Option Objects) (number : ℕ) (kept : List ℕ) (heading : Heading) (body behind reply : List ℕ)
    → (w : IsWhole kept heading body behind)
    → IsReply longest held (is_some (closing_if heading.asks_close number)) (named_of heading.target) body reply
    → IsAnswered longest held number (record { head = w.tree; body = body }) (interim_if heading.waits heading.body ++ reply)
answered_by longest held number kept heading body behind reply w replied = record {
  head = w.short;
  len = w.says.body_len ∙ ap (λ n. Ok n) (sym w.size);
  reply = reply;
  replied = subst (λ asks. IsReply longest held (is_some (closing_if asks number)) (object_of w.tree) body reply) w.says.asks_is
      (subst (λ target. IsReply longest held (is_some (closing_if heading.asks_close number)) target body reply) (sym w.says.target_is) replied);
  joined = ap (λ waits. interim_if waits heading.body ++ reply) w.says.waits_is ∙ ap (λ n. interim_of w.tree n ++ reply) (sym w.size);
}
