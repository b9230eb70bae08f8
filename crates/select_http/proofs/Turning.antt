-- How a connection ends in a turn, or goes on.
use Rattle.std.proofs.Common.{◌≡◌, ◌⊎◌, inl, inr, ℕ, ◌+◌, ◌<◌, true, List, [], ◌++◌, length, take, drop, Option, None, Some, Result, Ok, Err, refl, sym, ap, ◌∙◌, subst, arith, append_assoc, append-nil, length-append}
use Rattle.std.specs.Prelude.{Bool, false, ◌==◌, if◌then◌else◌, is_some}
use Rattle.std.specs.Io.KnownBytes.{Appends}
use Rattle.std.proofs.KnownBytes.{Appends-nil}
use Rattle.select_ports.specs.Causes.{Rose}
use Rattle.select_ports.specs.Stored.{Objects}
use Rattle.select_ports.specs.Streams.{IsFront}
use Rattle.select_ports.proofs.Told.{appends-kept}
use Rattle.network_ports.specs.Calls.{Link}
use Rattle.network_ports.specs.Sent.{SendsAll}
use Rattle.httparse.specs.Grammar.{print_request}
use Rattle.httparse.specs.declared.spans.HeaderSpan.{HeaderSpan}
use Rattle.httparse.specs.declared.spans.RequestSpans.{RequestSpans}
use Rattle.http_intake.specs.Coming.{Comes, Halts, HasNoHeadYet, LacksBody, LacksHead}
use Rattle.http_intake.specs.Heads.{HasHead}
use Rattle.http_intake.specs.declared.halt.Halt.{Halt}
use Rattle.http_intake.specs.declared.halt.Halt.TheVariants as halt
use Rattle.http_intake.specs.declared.refusal.Refusal.{Refusal}
use Rattle.http_replies.specs.Chunks.{IsMarked}
use Rattle.select_http.specs.Messages.{Message, most_messages, closing, closing_if, interim_if}
use Rattle.select_http.specs.Answers.{refusal_reply, written_if, IsReply, Sends, SendsOne}
use Rattle.select_http.specs.Exchanges.{IsAnswered, IsBegun, IsCutShort, IsMessage, IsRefused}
use Rattle.select_http.specs.Endings.{EndsBy, IsFresh, Progress}
use Rattle.select_http.specs.Turns.{end_of, named_of, Affects, Goes, IsHeadingIn, Receives, Refuses, Says, Stops, StopsAtHead, StopsAtHeading}
use Rattle.select_http.specs.declared.heading.Heading.{Heading}
use Rattle.select_http.specs.declared.heading.HeadingError.{HeadingError}
use Rattle.select_http.specs.declared.heading.HeadingError.TheVariants as error
use Rattle.select_http.specs.declared.served.End.{End}
use Rattle.select_http.specs.declared.served.End.TheVariants.{PeerClosed, AskedClose, Refused, Counted, ReadFault, WriteFault, StoreFault, OutOfMemory}
use Rattle.select_http.proofs.Progressing.{apart_progress, came_progress, cause_before, front_progress, progress_as, progress_then, quiet_apart, quiet_then, quiet_well, sent_progress, write_cause}
use Rattle.select_http.proofs.Whole.{answered_by, head_joined, short_head, whole_of, IsWhole}

marked_sent : {A E : Type 0} (a b : Link) (e : E) (bytes : List ℕ) → SendsAll {A = A} a b (Err e) bytes → IsMarked b
marked_sent a b e bytes s = λ _. s.broke

module _ (longest : ℕ) (held : Option Objects) (number before now : ℕ) where
  -- what came last is refused
  pub stops_refused : (a b c : Link) (x y : List ℕ) (refusal : Refusal) (end : End) → IsFresh a → Comes a b x y → IsRefused y (refusal_reply refusal true)
      → Refuses b c refusal end → Stops longest held a c number before now x end
  stops_refused a b c x y refusal PeerClosed fresh comes refused sent = absurd sent
  stops_refused a b c x y refusal ReadFault fresh comes refused sent = absurd sent
  stops_refused a b c x y refusal AskedClose fresh comes refused sent = absurd sent
  stops_refused a b c x y refusal Counted fresh comes refused sent = absurd sent
  stops_refused a b c x y refusal StoreFault fresh comes refused sent = absurd sent
  stops_refused a b c x y refusal OutOfMemory fresh comes refused sent = absurd sent
  stops_refused a b c x y refusal Refused fresh comes refused sent = record {
    took = comes.bytes;
    sent = refusal_reply refusal true;
    ended = subst (λ l. IsRefused l (refusal_reply refusal true)) comes.kept refused;
    cause = tt;
    progress = progress_as held a c _ _ _ _
        (progress_then held a b c comes.bytes [] [] _ (came_progress held a b comes.bytes comes.came) (sent_progress held b c _ _ sent))
        (append-nil comes.bytes) refl;
  }
  stops_refused a b c x y refusal WriteFault fresh comes refused sent = record {
    took = comes.bytes;
    sent = sent.written.front;
    ended = inr (inr (inl (record {
      answer = refusal_reply refusal true;
      refused = subst (λ l. IsRefused l (refusal_reply refusal true)) comes.kept refused;
      front = sent.written.is_front;
    })));
    cause =
        let rose : Rose a.write_faults c.write_faults = omega (arith, comes.came.write_faults, sent.write_faults.counted) in
        (rose, write_cause a c fresh (ap (λ p. p.begun_at) sent.apart_kept ∙ comes.came.begun_at) (marked_sent b c _ _ sent) rose);
    progress = progress_as held a c _ _ _ _
        (progress_then held a b c comes.bytes [] [] _ (came_progress held a b comes.bytes comes.came) (front_progress held b c _ _ sent))
        (append-nil comes.bytes) refl;
  }

  -- no head came
  pub stops_at_head : (a b c : Link) (x y : List ℕ) (h : Halt) (end : End) → IsFresh a → Halts a b x y h → LacksHead y h
      → StopsAtHead b c h end → Stops longest held a c number before now x end
  stops_at_head a b c x y halt.Closed end fresh halts lacks (is, same) =
      subst (λ l. Stops longest held a l number before now x end) (sym same)
      (subst (Stops longest held a b number before now x) (sym is)
      (record {
        took = halts.bytes;
        sent = [];
        ended = inl (subst HasNoHeadYet halts.kept lacks, refl);
        cause = (halts.rose, halts.left);
        progress = came_progress held a b halts.bytes halts.came;
      }))
  stops_at_head a b c x y (halt.Refused refusal) end fresh (comes, refused) lacks stops =
      stops_refused a b c x y refusal end fresh comes (inl (record { refusal = refusal; refused = refused; reply = refl })) stops
  stops_at_head a b c x y halt.ReadFault end fresh halts lacks (is, same) =
      subst (λ l. Stops longest held a l number before now x end) (sym same)
      (subst (Stops longest held a b number before now x) (sym is)
      (record {
        took = halts.bytes;
        sent = [];
        ended = inl (subst HasNoHeadYet halts.kept lacks, refl);
        cause = (halts.rose, halts.broke);
        progress = came_progress held a b halts.bytes halts.came;
      }))
  stops_at_head a b c x y halt.OutOfMemory end fresh halts lacks (is, same) =
      subst (λ l. Stops longest held a l number before now x end) (sym same)
      (subst (Stops longest held a b number before now x) (sym is)
      (record {
        took = halts.bytes;
        sent = [];
        ended = inl refl;
        cause = tt;
        progress = came_progress held a b halts.bytes halts.came;
      }))

  -- the head in front has no body
  pub stops_at_heading : (a b c : Link) (x y : List ℕ) (spans : List HeaderSpan) (head : RequestSpans) (e : HeadingError) (end : End) → IsFresh a
      → Comes a b x y → (has : HasHead y spans head) → Says has.tree (Err e) → StopsAtHeading b c e end → Stops longest held a c number before now x end
  stops_at_heading a b c x y spans head (error.Refused refusal) end fresh comes has says stops =
      stops_refused a b c x y refusal end fresh comes
      (inr (record {
        head = has.tree;
        short = short_head y spans head has;
        refusal = refusal;
        refused = says;
        behind = drop head.len y;
        joined = head_joined y spans head has;
        reply = refl;
      })) stops
  stops_at_heading a b c x y spans head error.OutOfMemory end fresh comes has says (is, same) =
      subst (λ l. Stops longest held a l number before now x end) (sym same)
      (subst (Stops longest held a b number before now x) (sym is)
      (record {
        took = comes.bytes;
        sent = [];
        ended = inl refl;
        cause = tt;
        progress = came_progress held a b comes.bytes comes.came;
      }))

-- ---- behind bytes that came

kept_on : (x y bytes took : List ℕ) → y ≡ x ++ bytes → y ++ took ≡ x ++ (bytes ++ took)
kept_on x y bytes took kept = ap (λ l. l ++ took) kept ∙ append_assoc x bytes took

pub stops_after : (longest : ℕ) (held : Option Objects) (a b c : Link) (number before now : ℕ) (x y : List ℕ) (end : End) → Comes a b x y
    → Stops longest held b c number before now y end → Stops longest held a c number before now x end
stops_after longest held a b c number before now x y end comes stops = record {
  took = comes.bytes ++ stops.took;
  sent = stops.sent;
  ended = subst (λ l. EndsBy longest held number l stops.sent end) (kept_on x y comes.bytes stops.took comes.kept) stops.ended;
  cause = cause_before a b c before before now end (quiet_well a b comes.well) (omega (arith, comes.came.write_faults)) (omega arith) stops.cause;
  progress = progress_then held a b c comes.bytes stops.took [] stops.sent (came_progress held a b comes.bytes comes.came) stops.progress;
}

pub goes_after : (longest : ℕ) (held : Option Objects) (a b c : Link) (number : ℕ) (x y z : List ℕ) → Comes a b x y
    → Goes longest held b c number y z → Goes longest held a c number x z
goes_after longest held a b c number x y z comes goes = record {
  message = goes.message;
  answer = goes.answer;
  answered = goes.answered;
  goes_on = goes.goes_on;
  took = comes.bytes ++ goes.took;
  joined = sym (kept_on x y comes.bytes goes.took comes.kept) ∙ goes.joined;
  progress = progress_then held a b c comes.bytes goes.took [] goes.answer (came_progress held a b comes.bytes comes.came) goes.progress;
  quiet = quiet_then a b c (quiet_well a b comes.well) goes.quiet;
}

pub goes_as : (longest : ℕ) (held : Option Objects) (a b c : Link) (number : ℕ) (x y z : List ℕ) → c ≡ b → z ≡ y
    → Goes longest held a b number x y → Goes longest held a c number x z
goes_as longest held a b c number x y z same kept goes =
    subst (λ l. Goes longest held a l number x z) (sym same) (subst (Goes longest held a b number x) (sym kept) goes)

-- ---- while a body is waited for

begun_of : (x more : List ℕ) (heading : Heading) → (head : IsHeadingIn x heading)
    → IsBegun (x ++ more) heading.body (head.behind ++ more) (interim_if heading.waits heading.body)
begun_of x more heading head = record {
  head = head.tree;
  short = head.short;
  is_len = head.says.body_len;
  joined = ap (λ l. l ++ more) head.joined ∙ append_assoc (print_request head.tree) head.behind more;
  interim_is = ap (λ waits. interim_if waits heading.body) head.says.waits_is;
}

-- the interim reply couldn't be sent
pub stops_interim : (longest : ℕ) (held : Option Objects) (a b : Link) (number before now : ℕ) (x : List ℕ) (heading : Heading) (end : End)
    → IsHeadingIn x heading → IsFresh a → SendsAll {A = Unit {0}} a b (Err end) (interim_if heading.waits heading.body) → end ≡ WriteFault
    → Stops longest held a b number before now x end
stops_interim longest held a b number before now x heading end head fresh s is =
    subst (Stops longest held a b number before now x) (sym is)
    (record {
      took = [];
      sent = s.written.front;
      ended = inr (inr (inr (record {
        len = heading.body;
        behind = head.behind ++ [];
        interim = interim_if heading.waits heading.body;
        begun = begun_of x [] heading head;
        front = s.written.is_front;
      })));
      cause = (s.write_faults.counted, write_cause a b fresh (ap (λ p. p.begun_at) s.apart_kept) (marked_sent a b _ _ s) s.write_faults.counted);
      progress = front_progress held a b _ _ s;
    })

lacks_rest : (x y bytes : List ℕ) (heading : Heading) → (head : IsHeadingIn x heading) → y ≡ x ++ bytes
    → length y < heading.head + heading.body → length (head.behind ++ bytes) < heading.body
lacks_rest x y bytes heading head kept lacks =
    let long : length y ≡ length (print_request head.tree) + length (head.behind ++ bytes) =
    ap length (kept ∙ ap (λ l. l ++ bytes) head.joined ∙ append_assoc (print_request head.tree) head.behind bytes)
    ∙ length-append (print_request head.tree) (head.behind ++ bytes) in
    omega (arith, long, lacks, head.says.head_len)

-- the body didn't come
pub stops_body : {E : Type 0} (longest : ℕ) (held : Option Objects) (a b c : Link) (number before now : ℕ) (x y : List ℕ) (heading : Heading) (h : Halt)
    (u : Unit {0}) → IsHeadingIn x heading → SendsAll {E = E} a b (Ok u) (interim_if heading.waits heading.body) → Halts b c x y h
    → LacksBody (heading.head + heading.body) y h → Stops longest held a c number before now x (end_of h)
stops_body longest held a b c number before now x y heading halt.Closed u head s halts lacks = record {
  took = halts.bytes;
  sent = interim_if heading.waits heading.body;
  ended = inr (record {
    len = heading.body;
    behind = head.behind ++ halts.bytes;
    begun = begun_of x halts.bytes heading head;
    lacks = lacks_rest x y halts.bytes heading head halts.kept lacks;
  });
  cause = (omega (arith, halts.rose, ap (λ p. p.ends) s.apart_kept), halts.left);
  progress = progress_as held a c _ _ _ _
      (progress_then held a b c [] halts.bytes _ [] (sent_progress held a b u _ s) (came_progress held b c halts.bytes halts.came)) refl (append-nil _);
}
stops_body longest held a b c number before now x y heading (halt.Refused refusal) u head s halts lacks = absurd lacks
stops_body longest held a b c number before now x y heading halt.ReadFault u head s halts lacks = record {
  took = halts.bytes;
  sent = interim_if heading.waits heading.body;
  ended = inr (record {
    len = heading.body;
    behind = head.behind ++ halts.bytes;
    begun = begun_of x halts.bytes heading head;
    lacks = lacks_rest x y halts.bytes heading head halts.kept lacks;
  });
  cause = (omega (arith, halts.rose, ap (λ p. p.read_faults) s.apart_kept), halts.broke);
  progress = progress_as held a c _ _ _ _
      (progress_then held a b c [] halts.bytes _ [] (sent_progress held a b u _ s) (came_progress held b c halts.bytes halts.came)) refl (append-nil _);
}
stops_body longest held a b c number before now x y heading halt.OutOfMemory u head s halts lacks = record {
  took = halts.bytes;
  sent = interim_if heading.waits heading.body;
  ended = inr (inr (inr (record {
    len = heading.body;
    behind = head.behind ++ halts.bytes;
    interim = interim_if heading.waits heading.body;
    begun = begun_of x halts.bytes heading head;
    front = record { rest = []; joined = sym (append-nil _) };
  })));
  cause = tt;
  progress = progress_as held a c _ _ _ _
      (progress_then held a b c [] halts.bytes _ [] (sent_progress held a b u _ s) (came_progress held b c halts.bytes halts.came)) refl (append-nil _);
}

-- ---- the message in front came whole

closes_by : (asks : Bool) (number : ℕ) (end : End) → closing_if asks number ≡ Some end → (end ≡ AskedClose) ⊎ (end ≡ Counted)
closes_by true number end is = inl cc
closes_by false number end is = by_count (number == most_messages) is
  where
    by_count : (last : Bool) → (if last then Some Counted else None) ≡ Some end → (end ≡ AskedClose) ⊎ (end ≡ Counted)
    by_count true is = inr cc
    by_count false is = absurd cc

front_behind : (first front whole : List ℕ) → IsFront front whole → IsFront (first ++ front) (first ++ whole)
front_behind first front whole is = record {
  rest = is.rest;
  joined = ap (λ l. first ++ l) is.joined ∙ sym (append_assoc first front is.rest);
}

-- a front of what goes out was sent
record Cut (longest : ℕ) (held : Option Objects) (a c : Link) (number : ℕ) (x : List ℕ) : Type 0 where
  pub took : List ℕ
  pub sent : List ℕ
  pub cut : IsCutShort longest held number (x ++ took) sent
  pub progress : Progress held a c took sent

module _ (longest : ℕ) (held : Option Objects) (a b c : Link) (number : ℕ) (x y body : List ℕ) (heading : Heading) (closes : Bool)
    (head : IsHeadingIn x heading)
    (received : Receives held a b x y (interim_if heading.waits heading.body) (heading.head + heading.body))
    (is_body : body ≡ take heading.body (drop heading.head y))
    (is_closes : closes ≡ is_some (closing_if heading.asks_close number)) where
  abbrev whole : IsWhole y heading (take heading.body (drop heading.head y)) (drop (heading.head + heading.body) y)
  whole = whole_of held a b x y (interim_if heading.waits heading.body) heading head received

  abbrev in_front : Message
  in_front = record { head = whole.tree; body = take heading.body (drop heading.head y) }

  abbrev answer_of : List ℕ → List ℕ
  answer_of reply = interim_if heading.waits heading.body ++ reply

  answers : (reply : List ℕ) → IsReply longest held closes (named_of heading.target) body reply
      → IsAnswered longest held number in_front (answer_of reply)
  answers reply is =
      answered_by longest held number y heading _ _ reply whole
      (subst (λ k. IsReply longest held k (named_of heading.target) (take heading.body (drop heading.head y)) reply) is_closes
      (subst (λ l. IsReply longest held closes (named_of heading.target) l reply) is_body is))

  message_in : (reply : List ℕ) → IsReply longest held closes (named_of heading.target) body reply
      → IsMessage longest held number (x ++ received.took) (answer_of reply) (closing number whole.tree)
  message_in reply is = record {
    message = in_front;
    answered = answers reply is;
    closed = refl;
    behind = drop (heading.head + heading.body) y;
    joined = sym received.joined ∙ whole.joined;
  }

  replied_progress : {A : Type 0} (sb sn : ℕ) (result : Result A End) (bytes : List ℕ) → Affects b c sb sn result
      → Appends (written_if held b.connections.written) (written_if held c.connections.written) bytes
      → Progress held a c received.took (answer_of bytes)
  replied_progress sb sn result bytes affects sent =
      progress_as held a c _ _ _ _
      (progress_then held a b c received.took [] _ bytes received.progress (apart_progress held b c bytes affects.apart_kept affects.write_faults sent))
      (append-nil received.took) refl

  cut_of : (sb sn : ℕ) (end : End) → Affects {A = Unit {0}} b c sb sn (Err end)
      → Sends {A = Unit {0}} (IsReply longest held closes (named_of heading.target) body) (written_if held b.connections.written)
      (written_if held c.connections.written) (Err end) → Cut longest held a c number x
  cut_of sb sn end affects (inl kept) = record {
    took = received.took;
    sent = answer_of [];
    cut = inr (inr (inr (record {
      len = heading.body;
      behind = head.behind ++ received.took;
      interim = interim_if heading.waits heading.body;
      begun = begun_of x received.took heading head;
      front = record { rest = []; joined = sym (append-nil (answer_of []) ∙ append-nil (interim_if heading.waits heading.body)) };
    })));
    progress = replied_progress sb sn (Err end) [] affects
        (appends-kept (written_if held b.connections.written) (written_if held b.connections.written) (written_if held c.connections.written) []
        (Appends-nil (written_if held b.connections.written)) kept);
  }
  cut_of sb sn end affects (inr f) = record {
    took = received.took;
    sent = answer_of f.sent.front;
    cut = inr (inl (record {
      answer = answer_of f.reply;
      end = closing number whole.tree;
      message = message_in f.reply f.is;
      front = front_behind (interim_if heading.waits heading.body) f.sent.front f.reply f.sent.is_front;
    }));
    progress = replied_progress sb sn (Err end) f.sent.front affects f.sent.appended;
  }

  -- the reply wasn't sent whole
  stops_cut : (sb sn : ℕ) (end : End) → IsFresh a → Affects {A = Unit {0}} b c sb sn (Err end) → Cut longest held a c number x
      → Stops longest held a c number sb sn x end
  stops_cut sb sn PeerClosed fresh affects cut = absurd affects.cause
  stops_cut sb sn ReadFault fresh affects cut = absurd affects.cause
  stops_cut sb sn AskedClose fresh affects cut = absurd affects.cause
  stops_cut sb sn Counted fresh affects cut = absurd affects.cause
  stops_cut sb sn Refused fresh affects cut = absurd affects.cause
  stops_cut sb sn WriteFault fresh affects cut = record {
    took = cut.took;
    sent = cut.sent;
    ended = cut.cut;
    cause =
        let rose : Rose a.write_faults c.write_faults = omega (arith, received.progress.write_faults, affects.cause) in
        (rose, write_cause a c fresh (ap (λ p. p.begun_at) affects.apart_kept ∙ received.progress.begun_at) affects.marked rose);
    progress = cut.progress;
  }
  stops_cut sb sn StoreFault fresh affects cut =
      record { took = cut.took; sent = cut.sent; ended = cut.cut; cause = affects.cause; progress = cut.progress }
  stops_cut sb sn OutOfMemory fresh affects cut =
      record { took = cut.took; sent = cut.sent; ended = cut.cut; cause = tt; progress = cut.progress }

  pub stops_answer : (sb sn : ℕ) (end : End) → IsFresh a → Affects {A = Unit {0}} b c sb sn (Err end)
      → Sends {A = Unit {0}} (IsReply longest held closes (named_of heading.target) body) (written_if held b.connections.written)
      (written_if held c.connections.written) (Err end) → Stops longest held a c number sb sn x end
  stops_answer sb sn end fresh affects sends = stops_cut sb sn end fresh affects (cut_of sb sn end affects sends)

  closing_is : closing_if heading.asks_close number ≡ closing number whole.tree
  closing_is = ap (λ asks. closing_if asks number) whole.says.asks_is

  -- the reply was sent, and the connection closes behind it
  pub stops_closing : {A : Type 0} (sb sn : ℕ) (result : Result A End) (end : End) → Affects b c sb sn result
      → SendsOne (IsReply longest held closes (named_of heading.target) body) (written_if held b.connections.written) (written_if held c.connections.written)
      → closing_if heading.asks_close number ≡ Some end → Stops longest held a c number sb sn x end
  stops_closing sb sn result end affects one is_end = by_end end (closes_by heading.asks_close number end is_end) (sym closing_is ∙ is_end)
    where
      ended_by : (e : End) → closing number whole.tree ≡ Some e → IsMessage longest held number (x ++ received.took) (answer_of one.reply) (Some e)
      ended_by e is = subst (IsMessage longest held number (x ++ received.took) (answer_of one.reply)) is (message_in one.reply one.is)

      progress : Progress held a c received.took (answer_of one.reply)
      progress = replied_progress sb sn result one.reply affects one.sent

      by_end : (e : End) → (e ≡ AskedClose) ⊎ (e ≡ Counted) → closing number whole.tree ≡ Some e → Stops longest held a c number sb sn x e
      by_end e (inl asked) is = subst (Stops longest held a c number sb sn x) (sym asked)
          (record {
            took = received.took;
            sent = answer_of one.reply;
            ended = ended_by AskedClose (is ∙ ap (λ e. Some e) asked);
            cause = tt;
            progress = progress;
          })
      by_end e (inr counted) is = subst (Stops longest held a c number sb sn x) (sym counted)
          (record {
            took = received.took;
            sent = answer_of one.reply;
            ended = ended_by Counted (is ∙ ap (λ e. Some e) counted);
            cause = tt;
            progress = progress;
          })

  -- and the connection goes on
  pub goes_on : {A : Type 0} (sb sn : ℕ) (result : Result A End) → Affects b c sb sn result
      → SendsOne (IsReply longest held closes (named_of heading.target) body) (written_if held b.connections.written) (written_if held c.connections.written)
      → closing_if heading.asks_close number ≡ None → Goes longest held a c number x (drop (heading.head + heading.body) y)
  goes_on sb sn result affects one none = record {
    message = in_front;
    answer = answer_of one.reply;
    answered = answers one.reply one.is;
    goes_on = sym closing_is ∙ none;
    took = received.took;
    joined = sym received.joined ∙ whole.joined;
    progress = replied_progress sb sn result one.reply affects one.sent;
    quiet = quiet_then a b c received.quiet (quiet_apart b c affects.apart_kept);
  }
