-- A message in front is one message, and has one answer.
use Rattle.std.proofs.Common.{◌≡◌, ℕ, ◌+◌, ◌-◌, List, [], ◌++◌, length, take, drop, Some, Result, Ok, Err, sym, ap, ◌∙◌, subst, arith, append_assoc, append-nil}
use Rattle.std.specs.Prelude.{Bool, is_some}
use Rattle.std.proofs.Math.Seq.{drop-append_seam, take-append_seam, take-append-add}
use Rattle.select_ports.specs.Stored.{Objects}
use Rattle.httparse.specs.Grammar.{HasNoRequest, RequestHead, print_request}
use Rattle.httparse.proofs.GrammarLemmas.{request_unique}
use Rattle.http_intake.specs.Bodies.{body_length}
use Rattle.http_intake.specs.Heads.{judged, most_head, RefusesHead}
use Rattle.http_intake.specs.Targets.{object_of}
use Rattle.http_intake.specs.declared.refusal.Refusal.{Refusal}
use Rattle.http_intake.specs.declared.refusal.Refusal.TheVariants.{BadHead, HeadTooLarge, OldVersion, TransferEncoding, BadLength, NoLength, BodyTooLarge, NotPost, BadTarget, NotSelect}
use Rattle.select_job.specs.Prepared.{EachAsksOneThing}
use Rattle.select_job.specs.declared.asked.Asked.{Asked}
use Rattle.select_job.specs.declared.asked.Asked.TheVariants as asked
use Rattle.select_http.specs.Messages.{Message, spelled, IsShortHead, closing, interim_of}
use Rattle.select_http.specs.Answers.{IsAskedReply, IsReply}
use Rattle.select_http.specs.Exchanges.{IsAnswered}

-- lists of the same length in front of others are the same
pub front_same : (xs ys a b : List ℕ) → xs ++ a ≡ ys ++ b → length xs ≡ length ys → (xs ≡ ys) × (a ≡ b)
front_same xs ys a b joined len =
    let front : xs ≡ ys =
    sym (take-append_seam xs a) ∙ ap (λ n. take n (xs ++ a)) len ∙ ap (take (length ys)) joined ∙ take-append_seam ys b in
    let behind : a ≡ b =
    sym (drop-append_seam xs a) ∙ ap (λ n. drop n (xs ++ a)) len ∙ ap (drop (length ys)) joined ∙ drop-append_seam ys b in
    (front, behind)

pub head_same : (rest : List ℕ) (h k : RequestHead) (a b : List ℕ) → IsShortHead h → IsShortHead k → rest ≡ print_request h ++ a
    → rest ≡ print_request k ++ b → (h ≡ k) × (a ≡ b)
head_same rest h k a b short other is_h is_k = request_unique rest h k a b (short.valid, is_h) (other.valid, is_k)

-- where a short head stands in front, there is a head
pub has_head : (rest : List ℕ) (h : RequestHead) (a : List ℕ) → IsShortHead h → rest ≡ print_request h ++ a → HasNoRequest (judged rest) → ⊥
has_head rest h a short joined none =
    let size : length (print_request h) + (most_head - length (print_request h)) ≡ most_head = omega (arith, short.short) in
    none h (take (most_head - length (print_request h)) a) (
      short.valid,
      ap judged joined ∙ ap (λ n. take n (print_request h ++ a)) (sym size)
          ∙ take-append-add (print_request h) a (most_head - length (print_request h)),
    )

pub refused_none : (rest : List ℕ) (refusal : Refusal) → RefusesHead rest refusal → HasNoRequest (judged rest)
refused_none rest BadHead refused = subst HasNoRequest (append-nil (judged rest)) (refused [])
refused_none rest HeadTooLarge refused = refused.1
refused_none rest OldVersion refused = absurd refused
refused_none rest TransferEncoding refused = absurd refused
refused_none rest BadLength refused = absurd refused
refused_none rest NoLength refused = absurd refused
refused_none rest BodyTooLarge refused = absurd refused
refused_none rest NotPost refused = absurd refused
refused_none rest BadTarget refused = absurd refused
refused_none rest NotSelect refused = absurd refused

pub len_same : {E : Type 0} (r : Result ℕ E) (n m : ℕ) → r ≡ Ok n → r ≡ Ok m → n ≡ m
len_same r n m e f = cc

pub not_both : {E : Type 0} (r : Result ℕ E) (n : ℕ) (x : E) → r ≡ Ok n → r ≡ Err x → ⊥
not_both r n x e f = absurd cc

pub refusal_same : {E : Type 0} (r : Result ℕ E) (x y : E) → r ≡ Err x → r ≡ Err y → x ≡ y
refusal_same r x y e f = cc

pub spelled_on : (m : Message) (a : List ℕ) → spelled m ++ a ≡ print_request m.head ++ (m.body ++ a)
spelled_on m a = append_assoc (print_request m.head) m.body a

-- ---- answers

module _ (once : EachAsksOneThing) (longest : ℕ) (objects : Objects) where
  asked_reply_same : (closes : Bool) (name : List ℕ) (a : Asked) (r q : List ℕ) → IsAskedReply longest (Some objects) closes name a r
      → IsAskedReply longest (Some objects) closes name a q → r ≡ q
  asked_reply_same closes name (asked.Refused code at) r q is other = is ∙ sym other
  asked_reply_same closes name (asked.Asks job) r q is other = is ∙ sym other

  reply_same : (closes : Bool) (target : Result (List ℕ) Refusal) (body r q : List ℕ) → IsReply longest (Some objects) closes target body r
      → IsReply longest (Some objects) closes target body q → r ≡ q
  reply_same closes (Err refusal) body r q is other = is ∙ sym other
  reply_same closes (Ok name) body r q is other =
      asked_reply_same closes name is.asked r q is.replied
      (subst (λ a. IsAskedReply longest (Some objects) closes name a q) (once body other.asked is.asked other.prepared is.prepared) other.replied)

  pub answer_same : (number : ℕ) (m : Message) (answer other : List ℕ) → IsAnswered longest (Some objects) number m answer
      → IsAnswered longest (Some objects) number m other → answer ≡ other
  answer_same number m answer other is also =
      is.joined
      ∙ ap (λ l. interim_of m.head (length m.body) ++ l) (reply_same (is_some (closing number m.head)) (object_of m.head) m.body is.reply also.reply is.replied also.replied)
      ∙ sym also.joined

  pub message_same : (number other_number : ℕ) (rest : List ℕ) (m k : Message) (answer other a b : List ℕ) → IsAnswered longest (Some objects) number m answer
      → IsAnswered longest (Some objects) other_number k other → rest ≡ spelled m ++ a → rest ≡ spelled k ++ b → (m ≡ k) × (a ≡ b)
  message_same number other_number rest m k answer other a b is also joined other_joined =
      let heads = head_same rest m.head k.head (m.body ++ a) (k.body ++ b) is.head also.head (joined ∙ spelled_on m a) (other_joined ∙ spelled_on k b) in
      let len = len_same (body_length m.head) (length m.body) (length k.body) is.len (ap (λ h. body_length h) heads.0 ∙ also.len) in
      let bodies = front_same m.body k.body a b heads.1 len in
      ((λ i. record { head = heads.0 i; body = bodies.0 i }), bodies.1)
