-- A connection is served in one way: its messages one by one, and what stands behind them.
use Rattle.std.proofs.Common.{◌≡◌, ◌⊎◌, inl, inr, ℕ, zero, suc, ◌+◌, ◌<◌, true, List, [], ◌++◌, length, Option, None, Some, Ok, Err, refl, sym, ap, ◌∙◌, subst, arith, append_assoc, append-nil, length-append}
use Rattle.std.proofs.lemmas.List.{append_cancel_left}
use Rattle.std.proofs.lemmas.Bool.{cases_order}
use Rattle.std.proofs.Math.Nat.{eq-or-lt_of_le}
use Rattle.select_ports.specs.Stored.{Objects}
use Rattle.httparse.specs.Grammar.{HasNoRequest, RequestHead, print_request}
use Rattle.http_intake.specs.Bodies.{body_length}
use Rattle.http_intake.specs.Heads.{judged}
use Rattle.http_intake.specs.declared.refusal.Refusal.{Refusal}
use Rattle.select_job.specs.Prepared.{EachAsksOneThing}
use Rattle.select_http.specs.Messages.{Message, spelled, IsShortHead, closing, interim_of}
use Rattle.select_http.specs.Answers.{refusal_reply}
use Rattle.select_http.specs.Exchanges.{Exchanged, IsAnswered, IsMessage, IsRefused, IsUnfinished}
use Rattle.select_http.specs.Endings.{EndsBy}
use Rattle.select_http.specs.OneServing.{is_complete, IsOneServing, IsServing}
use Rattle.select_http.specs.declared.served.End.{End}
use Rattle.select_http.specs.declared.served.End.TheVariants.{PeerClosed, AskedClose, Refused, Counted, ReadFault, WriteFault, StoreFault, OutOfMemory}
use Rattle.select_http.proofs.OneAnswer.{answer_same, front_same, has_head, head_same, len_same, message_same, not_both, refusal_same, refused_none, spelled_on}

-- ---- what a head in front means

-- some of the body is wanting
record IsLacking (head : RequestHead) (behind sent : List ℕ) : Type 0 where
  pub len : ℕ
  pub is_len : body_length head ≡ Ok len
  pub lacks : length behind < len
  pub sent_is : sent ≡ interim_of head len

-- the head is refused
record IsRefusedBy (head : RequestHead) (sent : List ℕ) : Type 0 where
  pub refusal : Refusal
  pub refused : body_length head ≡ Err refusal
  pub sent_is : sent ≡ refusal_reply refusal true

-- the message is whole, and the connection closes behind its answer, or goes on
record IsWholeBy (longest : ℕ) (objects : Objects) (number : ℕ) (head : RequestHead) (behind sent : List ℕ) (end : Option End) : Type 0 where
  pub message : Message
  pub head_is : message.head ≡ head
  pub answered : IsAnswered longest (Some objects) number message sent
  pub closed : closing number head ≡ end
  pub more : List ℕ
  pub joined : behind ≡ message.body ++ more

abbrev Means : ℕ → Objects → ℕ → RequestHead → List ℕ → List ℕ → Type 0
Means longest objects number head behind sent =
    IsLacking head behind sent ⊎ (IsRefusedBy head sent ⊎ ((end : End) × IsWholeBy longest objects number head behind sent (Some end)))

-- a head stands in front
record InFront (longest : ℕ) (objects : Objects) (number : ℕ) (rest sent : List ℕ) : Type 0 where
  pub head : RequestHead
  pub behind : List ℕ
  pub short : IsShortHead head
  pub joined : rest ≡ print_request head ++ behind
  pub means : Means longest objects number head behind sent

module _ (longest : ℕ) (objects : Objects) (number : ℕ) where
  of_unfinished : (rest sent : List ℕ) → IsUnfinished rest sent → HasNoRequest (judged rest) ⊎ InFront longest objects number rest sent
  of_unfinished rest sent (inl none) = inl none.0.1
  of_unfinished rest sent (inr lacks) = inr (record {
    head = lacks.begun.head;
    behind = lacks.behind;
    short = lacks.begun.short;
    joined = lacks.begun.joined;
    means = inl (record { len = lacks.len; is_len = lacks.begun.is_len; lacks = lacks.lacks; sent_is = lacks.begun.interim_is });
  })

  of_refused : (rest sent : List ℕ) → IsRefused rest sent → HasNoRequest (judged rest) ⊎ InFront longest objects number rest sent
  of_refused rest sent (inl none) = inl (refused_none rest none.refusal none.refused)
  of_refused rest sent (inr head) = inr (record {
    head = head.head;
    behind = head.behind;
    short = head.short;
    joined = head.joined;
    means = inr (inl (record { refusal = head.refusal; refused = head.refused; sent_is = head.reply }));
  })

  whole_by : (rest sent : List ℕ) (end : Option End) → (m : IsMessage longest (Some objects) number rest sent end)
      → IsWholeBy longest objects number m.message.head (m.message.body ++ m.behind) sent end
  whole_by rest sent end m = record { message = m.message; head_is = refl; answered = m.answered; closed = m.closed; more = m.behind; joined = refl }

  of_message : (rest sent : List ℕ) (end : End) → IsMessage longest (Some objects) number rest sent (Some end)
      → HasNoRequest (judged rest) ⊎ InFront longest objects number rest sent
  of_message rest sent end m = inr (record {
    head = m.message.head;
    behind = m.message.body ++ m.behind;
    short = m.answered.head;
    joined = m.joined ∙ spelled_on m.message m.behind;
    means = inr (inr (end, whole_by rest sent (Some end) m));
  })

  in_front : (rest sent : List ℕ) (end : End) → is_complete end ≡ true → EndsBy longest (Some objects) number rest sent end
      → HasNoRequest (judged rest) ⊎ InFront longest objects number rest sent
  in_front rest sent PeerClosed complete ended = of_unfinished rest sent ended
  in_front rest sent ReadFault complete ended = of_unfinished rest sent ended
  in_front rest sent AskedClose complete ended = of_message rest sent AskedClose ended
  in_front rest sent Counted complete ended = of_message rest sent Counted ended
  in_front rest sent Refused complete ended = of_refused rest sent ended
  in_front rest sent WriteFault complete ended = absurd cc
  in_front rest sent StoreFault complete ended = absurd cc
  in_front rest sent OutOfMemory complete ended = absurd cc

  -- ---- a head means one thing

  whole_len : (head : RequestHead) (behind sent : List ℕ) (end : Option End) → (w : IsWholeBy longest objects number head behind sent end)
      → body_length head ≡ Ok (length w.message.body)
  whole_len head behind sent end w = ap (λ h. body_length h) (sym w.head_is) ∙ w.answered.len

  lacking_refused : (head : RequestHead) (behind a b : List ℕ) → IsLacking head behind a → IsRefusedBy head b → ⊥
  lacking_refused head behind a b l r = not_both (body_length head) l.len r.refusal l.is_len r.refused

  lacking_whole : (head : RequestHead) (behind a b : List ℕ) (end : Option End) → IsLacking head behind a → IsWholeBy longest objects number head behind b end → ⊥
  lacking_whole head behind a b end l w =
      let len = len_same (body_length head) l.len (length w.message.body) l.is_len (whole_len head behind b end w) in
      let long : length behind ≡ length w.message.body + length w.more = ap length w.joined ∙ length-append w.message.body w.more in
      absurd (omega (arith, len, long, l.lacks))

  refused_whole : (head : RequestHead) (behind a b : List ℕ) (end : Option End) → IsRefusedBy head a → IsWholeBy longest objects number head behind b end → ⊥
  refused_whole head behind a b end r w = not_both (body_length head) (length w.message.body) r.refusal (whole_len head behind b end w) r.refused

module _ (once : EachAsksOneThing) (longest : ℕ) (objects : Objects) where
  whole_same : (number : ℕ) (head : RequestHead) (behind a b : List ℕ) (end other : Option End) → IsWholeBy longest objects number head behind a end
      → IsWholeBy longest objects number head behind b other → a ≡ b
  whole_same number head behind a b end other w v =
      let heads : w.message.head ≡ v.message.head = w.head_is ∙ sym v.head_is in
      let len = len_same (body_length head) (length w.message.body) (length v.message.body)
      (whole_len longest objects number head behind a end w) (whole_len longest objects number head behind b other v) in
      let bodies = front_same w.message.body v.message.body w.more v.more (sym w.joined ∙ v.joined) len in
      let messages : w.message ≡ v.message = λ i. record { head = heads i; body = bodies.0 i } in
      answer_same once longest objects number v.message a b (subst (λ m. IsAnswered longest (Some objects) number m a) messages w.answered) v.answered

  means_same : (number : ℕ) (head : RequestHead) (behind a b : List ℕ) → Means longest objects number head behind a
      → Means longest objects number head behind b → a ≡ b
  means_same number head behind a b (inl l) (inl k) =
      l.sent_is ∙ ap (λ n. interim_of head n) (len_same (body_length head) l.len k.len l.is_len k.is_len) ∙ sym k.sent_is
  means_same number head behind a b (inl l) (inr (inl r)) = absurd (lacking_refused longest objects number head behind a b l r)
  means_same number head behind a b (inl l) (inr (inr w)) = absurd (lacking_whole longest objects number head behind a b (Some w.0) l w.1)
  means_same number head behind a b (inr (inl r)) (inl l) = absurd (lacking_refused longest objects number head behind b a l r)
  means_same number head behind a b (inr (inl r)) (inr (inl q)) =
      r.sent_is ∙ ap (λ x. refusal_reply x true) (refusal_same (body_length head) r.refusal q.refusal r.refused q.refused) ∙ sym q.sent_is
  means_same number head behind a b (inr (inl r)) (inr (inr w)) = absurd (refused_whole longest objects number head behind a b (Some w.0) r w.1)
  means_same number head behind a b (inr (inr w)) (inl l) = absurd (lacking_whole longest objects number head behind b a (Some w.0) l w.1)
  means_same number head behind a b (inr (inr w)) (inr (inl r)) = absurd (refused_whole longest objects number head behind b a (Some w.0) r w.1)
  means_same number head behind a b (inr (inr w)) (inr (inr v)) = whole_same number head behind a b (Some w.0) (Some v.0) w.1 v.1

  front_means_same : (number : ℕ) (rest a b : List ℕ) → InFront longest objects number rest a → InFront longest objects number rest b → a ≡ b
  front_means_same number rest a b f g =
      let same = head_same rest f.head g.head f.behind g.behind f.short g.short f.joined g.joined in
      means_same number g.head g.behind a b
      (subst (λ l. Means longest objects number g.head l a) same.1 (subst (λ h. Means longest objects number h f.behind a) same.0 f.means)) g.means

  sent_same : (number : ℕ) (rest a b : List ℕ) → HasNoRequest (judged rest) ⊎ InFront longest objects number rest a
      → HasNoRequest (judged rest) ⊎ InFront longest objects number rest b → (a ≡ b) ⊎ HasNoRequest (judged rest)
  sent_same number rest a b (inl none) g = inr none
  sent_same number rest a b (inr f) (inl none) = inr none
  sent_same number rest a b (inr f) (inr g) = inl (front_means_same number rest a b f g)

  -- where a message goes on, no serving ends
  goes_means : (number : ℕ) (head : RequestHead) (behind a b : List ℕ) → IsWholeBy longest objects number head behind a None
      → Means longest objects number head behind b → ⊥
  goes_means number head behind a b w (inl l) = lacking_whole longest objects number head behind b a None l w
  goes_means number head behind a b w (inr (inl r)) = refused_whole longest objects number head behind b a None r w
  goes_means number head behind a b w (inr (inr v)) = absurd (some_none w.closed v.1.closed)
    where
      some_none : closing number head ≡ None → closing number head ≡ Some v.0 → ⊥
      some_none e f = absurd cc

  goes_in_front : (number : ℕ) (rest a b : List ℕ) → IsMessage longest (Some objects) number rest a None
      → HasNoRequest (judged rest) ⊎ InFront longest objects number rest b → ⊥
  goes_in_front number rest a b m (inl none) =
      has_head rest m.message.head (m.message.body ++ m.behind) m.answered.head (m.joined ∙ spelled_on m.message m.behind) none
  goes_in_front number rest a b m (inr g) =
      let same = head_same rest m.message.head g.head (m.message.body ++ m.behind) g.behind m.answered.head g.short
      (m.joined ∙ spelled_on m.message m.behind) g.joined in
      goes_means number g.head g.behind a b
      (subst (λ l. IsWholeBy longest objects number g.head l a None) same.1
      (subst (λ h. IsWholeBy longest objects number h (m.message.body ++ m.behind) a None) same.0 (whole_by longest objects number rest a None m))) g.means

  -- ---- the messages before

  exchanged_same : (count : ℕ) (came wrote rest other_came other_wrote other_rest : List ℕ) → Exchanged longest (Some objects) count came wrote
      → Exchanged longest (Some objects) count other_came other_wrote → came ++ rest ≡ other_came ++ other_rest
      → (came ≡ other_came) × (wrote ≡ other_wrote)
  exchanged_same zero came wrote rest other_came other_wrote other_rest first second joined =
      (first.0 ∙ sym second.0, first.1 ∙ sym second.1)
  exchanged_same (suc count) came wrote rest other_came other_wrote other_rest first second joined =
      let here : came ++ rest ≡ first.came_before ++ (spelled first.message ++ rest) =
      ap (λ l. l ++ rest) first.came_is ∙ append_assoc first.came_before (spelled first.message) rest in
      let there : other_came ++ other_rest ≡ second.came_before ++ (spelled second.message ++ other_rest) =
      ap (λ l. l ++ other_rest) second.came_is ∙ append_assoc second.came_before (spelled second.message) other_rest in
      let before = exchanged_same count first.came_before first.wrote_before (spelled first.message ++ rest) second.came_before second.wrote_before
      (spelled second.message ++ other_rest) first.before second.before (sym here ∙ joined ∙ there) in
      let left : spelled first.message ++ rest ≡ spelled second.message ++ other_rest =
      append_cancel_left second.came_before _ _ (ap (λ l. l ++ (spelled first.message ++ rest)) (sym before.0) ∙ sym here ∙ joined ∙ there) in
      let messages = message_same once longest objects (suc count) (suc count) (spelled first.message ++ rest) first.message second.message first.answer second.answer
      rest other_rest first.answered second.answered refl left in
      let answers = answer_same once longest objects (suc count) second.message first.answer second.answer
      (subst (λ m. IsAnswered longest (Some objects) (suc count) m first.answer) messages.0 first.answered) second.answered in (
        first.came_is ∙ ap (λ l. l ++ spelled first.message) before.0 ∙ ap (λ m. second.came_before ++ spelled m) messages.0 ∙ sym second.came_is,
        first.wrote_is ∙ ap (λ l. l ++ first.answer) before.1 ∙ ap (λ l. second.wrote_before ++ l) answers ∙ sym second.wrote_is,
      )

-- the messages up to one of them, and that one
record UpTo (longest : ℕ) (objects : Objects) (count : ℕ) (came : List ℕ) : Type 0 where
  pub front : List ℕ
  pub wrote : List ℕ
  pub exchanged : Exchanged longest (Some objects) count front wrote
  pub message : Message
  pub answer : List ℕ
  pub answered : IsAnswered longest (Some objects) (suc count) message answer
  pub goes_on : closing (suc count) message.head ≡ None
  pub behind : List ℕ
  pub joined : came ≡ front ++ (spelled message ++ behind)

module _ (longest : ℕ) (objects : Objects) where
  up_to : (count total : ℕ) (came wrote : List ℕ) → count < total → Exchanged longest (Some objects) total came wrote → UpTo longest objects count came
  up_to count zero came wrote less exchanged = absurd (omega (arith, less))
  up_to count (suc total) came wrote less exchanged =
      by_order (λ earlier. up_to count total exchanged.came_before exchanged.wrote_before earlier exchanged.before) (eq-or-lt_of_le (omega (arith, less)))
    where
      by_order : (count < total → UpTo longest objects count exchanged.came_before) → (count ≡ total) ⊎ (count < total) → UpTo longest objects count came
      by_order before (inl same) = subst (λ n. UpTo longest objects n came) (sym same)
          (record {
            front = exchanged.came_before;
            wrote = exchanged.wrote_before;
            exchanged = exchanged.before;
            message = exchanged.message;
            answer = exchanged.answer;
            answered = exchanged.answered;
            goes_on = exchanged.goes_on;
            behind = [];
            joined = exchanged.came_is ∙ ap (λ l. exchanged.came_before ++ l) (sym (append-nil (spelled exchanged.message)));
          })
      by_order before (inr earlier) =
          let u = before earlier in
          record {
            front = u.front;
            wrote = u.wrote;
            exchanged = u.exchanged;
            message = u.message;
            answer = u.answer;
            answered = u.answered;
            goes_on = u.goes_on;
            behind = u.behind ++ spelled exchanged.message;
            joined = exchanged.came_is ∙ ap (λ l. l ++ spelled exchanged.message) u.joined
                ∙ append_assoc u.front (spelled u.message ++ u.behind) (spelled exchanged.message)
                ∙ ap (λ l. u.front ++ l) (append_assoc (spelled u.message) u.behind (spelled exchanged.message));
          }

module _ (once : EachAsksOneThing) (longest : ℕ) (objects : Objects) where
  -- no serving ends before another one of the same bytes
  no_shorter : (count total : ℕ) (came wrote rest sent other_came other_wrote other_rest : List ℕ) (end : End) → count < total
      → IsServing longest objects count came wrote rest sent end → Exchanged longest (Some objects) total other_came other_wrote
      → came ++ rest ≡ other_came ++ other_rest → ⊥
  no_shorter count total came wrote rest sent other_came other_wrote other_rest end less s exchanged joined =
      let u = up_to longest objects count total other_came other_wrote less exchanged in
      let there : other_came ++ other_rest ≡ u.front ++ (spelled u.message ++ (u.behind ++ other_rest)) =
      ap (λ l. l ++ other_rest) u.joined ∙ append_assoc u.front (spelled u.message ++ u.behind) other_rest
      ∙ ap (λ l. u.front ++ l) (append_assoc (spelled u.message) u.behind other_rest) in
      let same = exchanged_same once longest objects count came wrote rest u.front u.wrote (spelled u.message ++ (u.behind ++ other_rest)) s.exchanged u.exchanged
      (joined ∙ there) in
      let left : rest ≡ spelled u.message ++ (u.behind ++ other_rest) =
      append_cancel_left u.front _ _ (ap (λ l. l ++ rest) (sym same.0) ∙ joined ∙ there) in
      goes_in_front once longest objects (suc count) rest u.answer sent
      (record { message = u.message; answered = u.answered; closed = u.goes_on; behind = u.behind ++ other_rest; joined = left })
      (in_front longest objects (suc count) rest sent end s.complete s.ended)

  same_serving : (count : ℕ) (came wrote rest sent other_came other_wrote other_rest other_sent : List ℕ) (end other_end : End)
      → IsServing longest objects count came wrote rest sent end → IsServing longest objects count other_came other_wrote other_rest other_sent other_end
      → came ++ rest ≡ other_came ++ other_rest → IsOneServing count count came wrote rest sent other_came other_wrote other_rest other_sent
  same_serving count came wrote rest sent other_came other_wrote other_rest other_sent end other_end s t joined =
      let same = exchanged_same once longest objects count came wrote rest other_came other_wrote other_rest s.exchanged t.exchanged joined in
      let left : rest ≡ other_rest = append_cancel_left other_came _ _ (ap (λ l. l ++ rest) (sym same.0) ∙ joined) in
      record {
        same_count = refl;
        same_came = same.0;
        same_wrote = same.1;
        same_rest = left;
        same_sent = sent_same once longest objects (suc count) rest sent other_sent
            (in_front longest objects (suc count) rest sent end s.complete s.ended)
            (subst (λ l. HasNoRequest (judged l) ⊎ InFront longest objects (suc count) l other_sent) (sym left)
            (in_front longest objects (suc count) other_rest other_sent other_end t.complete t.ended));
      }

  pub served_once : (count other_count : ℕ) (came wrote rest sent other_came other_wrote other_rest other_sent : List ℕ) (end other_end : End)
      → IsServing longest objects count came wrote rest sent end
      → IsServing longest objects other_count other_came other_wrote other_rest other_sent other_end → came ++ rest ≡ other_came ++ other_rest
      → IsOneServing count other_count came wrote rest sent other_came other_wrote other_rest other_sent
  served_once count other_count came wrote rest sent other_came other_wrote other_rest other_sent end other_end s t joined =
      by_order (cases_order count other_count)
    where
      by_order : (count ≡ other_count) ⊎ ((count < other_count) ⊎ (other_count < count))
          → IsOneServing count other_count came wrote rest sent other_came other_wrote other_rest other_sent
      by_order (inl same) = subst (λ n. IsOneServing count n came wrote rest sent other_came other_wrote other_rest other_sent) same
          (same_serving count came wrote rest sent other_came other_wrote other_rest other_sent end other_end s
          (subst (λ n. IsServing longest objects n other_came other_wrote other_rest other_sent other_end) (sym same) t) joined)
      by_order (inr (inl less)) = absurd (no_shorter count other_count came wrote rest sent other_came other_wrote other_rest end less s t.exchanged joined)
      by_order (inr (inr more)) = absurd (no_shorter other_count count other_came other_wrote other_rest other_sent came wrote rest other_end more t s.exchanged (sym joined))
