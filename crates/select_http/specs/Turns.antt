-- A connection while it is served, message by message.
use Rattle.std.specs.Prelude.{◌≡◌, ℕ, ◌≤◌, true, List, ◌++◌, length, Option, None, Some, Result, Ok, Err, IfErr, String, string_bytes}
use Rattle.select_ports.specs.Causes.{Rose}
use Rattle.select_ports.specs.Stored.{Objects}
use Rattle.network_ports.specs.Calls.{Link}
use Rattle.network_ports.specs.Sent.{apart, SendsAll}
use Rattle.httparse.specs.Grammar.{RequestHead, print_request}
use Rattle.http_intake.specs.declared.refusal.Refusal.{Refusal}
use Rattle.http_intake.specs.declared.target.TargetError.{TargetError}
use Rattle.http_intake.specs.declared.target.TargetError.TheVariants as target
use Rattle.http_intake.specs.declared.halt.Halt.{Halt}
use Rattle.http_intake.specs.declared.halt.Halt.TheVariants as halt
use Rattle.http_intake.specs.Bodies.{asks_close, body_length, expects_continue}
use Rattle.http_intake.specs.Targets.{object_of}
use Rattle.http_replies.specs.Chunks.{IsMarked}
use Rattle.select_http.specs.Messages.{Message, spelled, IsShortHead, closing}
use Rattle.select_http.specs.Answers.{refusal_reply}
use Rattle.select_http.specs.Exchanges.{Exchanged, IsAnswered}
use Rattle.select_http.specs.Endings.{Progress, EndsBy, HasCause}
use Rattle.select_http.specs.declared.served.End.{End}
use Rattle.select_http.specs.declared.served.End.TheVariants.{PeerClosed, AskedClose, Refused, Counted, ReadFault, WriteFault, StoreFault, OutOfMemory}
use Rattle.select_http.specs.declared.heading.Heading.{Heading}
use Rattle.select_http.specs.declared.heading.HeadingError.{HeadingError}
use Rattle.select_http.specs.declared.heading.HeadingError.TheVariants as error

-- the object that a message asks for, or why it is refused
abbrev pub named_of : {A : Type 0} → Result (String A) Refusal → Result (List ℕ) Refusal
named_of (Ok name) = Ok (string_bytes name)
named_of (Err refusal) = Err refusal

-- the refusal, where memory wasn't wanting
abbrev pub refusal_in : TargetError → Option Refusal
refusal_in (target.Refused refusal) = Some refusal
refusal_in target.OutOfMemory = None

-- what the head says of its message
pub record IsHeadingOf (tree : RequestHead) (heading : Heading) : Type 0 where
  pub head_len : heading.head ≡ length (print_request tree)
  pub body_len : body_length tree ≡ Ok heading.body
  pub waits_is : heading.waits ≡ expects_continue tree
  pub asks_is : heading.asks_close ≡ asks_close tree
  pub target_is : object_of tree ≡ named_of heading.target

-- that, or why the head is refused before a body
abbrev pub Says : RequestHead → Result Heading HeadingError → Type 0
Says tree (Ok heading) = IsHeadingOf tree heading
Says tree (Err (error.Refused refusal)) = body_length tree ≡ Err refusal
Says tree (Err error.OutOfMemory) = Unit {0}

-- the heading is that of the head in front
pub record IsHeadingIn (kept : List ℕ) (heading : Heading) : Type 0 where
  pub tree : RequestHead
  pub short : IsShortHead tree
  pub says : IsHeadingOf tree heading
  pub behind : List ℕ
  pub joined : kept ≡ print_request tree ++ behind

-- ---- what calls do to the link and the store

-- a failure of an answer has its cause
abbrev pub HasAnswerCause : Link → Link → ℕ → ℕ → End → Type 0
HasAnswerCause old new store_before store_now PeerClosed = ⊥
HasAnswerCause old new store_before store_now ReadFault = ⊥
HasAnswerCause old new store_before store_now AskedClose = ⊥
HasAnswerCause old new store_before store_now Counted = ⊥
HasAnswerCause old new store_before store_now Refused = ⊥
HasAnswerCause old new store_before store_now WriteFault = Rose old.write_faults new.write_faults
HasAnswerCause old new store_before store_now StoreFault = Rose store_before store_now
HasAnswerCause old new store_before store_now OutOfMemory = Unit {0}

-- bytes may have been sent, and the store read; nothing else befell the link
pub record Affects {A : Type 0} (old new : Link) (store_before store_now : ℕ) (result : Result A End) : Type 0 where
  pub apart_kept : apart new ≡ apart old
  pub write_faults : old.write_faults ≤ new.write_faults
  pub marked : IsMarked new
  pub store_faults : store_before ≤ store_now
  pub cause : IfErr result (HasAnswerCause old new store_before store_now)

-- a refusal was sent, behind which the connection closes, or a front of it
abbrev pub Refuses : Link → Link → Refusal → End → Type 0
Refuses old new refusal PeerClosed = ⊥
Refuses old new refusal ReadFault = ⊥
Refuses old new refusal AskedClose = ⊥
Refuses old new refusal Counted = ⊥
Refuses old new refusal Refused = SendsAll {A = Unit {0}} {E = End} old new (Ok tt) (refusal_reply refusal true)
Refuses old new refusal WriteFault = SendsAll {A = Unit {0}} {E = End} old new (Err WriteFault) (refusal_reply refusal true)
Refuses old new refusal StoreFault = ⊥
Refuses old new refusal OutOfMemory = ⊥

-- how a connection ends where no head came
abbrev pub StopsAtHead : Link → Link → Halt → End → Type 0
StopsAtHead old new halt.Closed end = (end ≡ PeerClosed) × (new ≡ old)
StopsAtHead old new (halt.Refused refusal) end = Refuses old new refusal end
StopsAtHead old new halt.ReadFault end = (end ≡ ReadFault) × (new ≡ old)
StopsAtHead old new halt.OutOfMemory end = (end ≡ OutOfMemory) × (new ≡ old)

-- how it ends where a head has no body
abbrev pub StopsAtHeading : Link → Link → HeadingError → End → Type 0
StopsAtHeading old new (error.Refused refusal) end = Refuses old new refusal end
StopsAtHeading old new error.OutOfMemory end = (end ≡ OutOfMemory) × (new ≡ old)

-- how it ends where a body doesn't come. No body is refused while it comes
abbrev pub end_of : Halt → End
end_of halt.Closed = PeerClosed
end_of (halt.Refused refusal) = Refused
end_of halt.ReadFault = ReadFault
end_of halt.OutOfMemory = OutOfMemory

-- ---- a turn

-- no read failed or found the end
pub record IsQuiet (old new : Link) : Type 0 where
  pub read_faults : new.read_faults ≡ old.read_faults
  pub ends : new.ends ≡ old.ends

-- one message was answered, and the connection goes on
pub record Goes (longest : ℕ) (held : Option Objects) (old new : Link) (number : ℕ) (before now : List ℕ) : Type 0 where
  pub message : Message
  pub answer : List ℕ
  pub answered : IsAnswered longest held number message answer
  pub goes_on : closing number message.head ≡ None
  pub took : List ℕ
  pub joined : before ++ took ≡ spelled message ++ now
  pub progress : Progress held old new took answer
  pub quiet : IsQuiet old new

-- the connection ended
pub record Stops (longest : ℕ) (held : Option Objects) (old new : Link) (number : ℕ) (store_before store_now : ℕ) (before : List ℕ)
    (end : End) : Type 0 where
  pub took : List ℕ
  pub sent : List ℕ
  pub ended : EndsBy longest held number (before ++ took) sent end
  pub cause : HasCause old new store_before store_now end
  pub progress : Progress held old new took sent

-- the whole message in front came, and its interim reply was sent
pub record Receives (held : Option Objects) (old new : Link) (before now interim : List ℕ) (len : ℕ) : Type 0 where
  pub took : List ℕ
  pub joined : now ≡ before ++ took
  pub enough : len ≤ length now
  pub progress : Progress held old new took interim
  pub quiet : IsQuiet old new

-- so many messages were answered
pub record Serving (longest : ℕ) (held : Option Objects) (old now : Link) (count : ℕ) (kept : List ℕ) : Type 0 where
  pub came : List ℕ
  pub wrote : List ℕ
  pub exchanged : Exchanged longest held count came wrote
  pub progress : Progress held old now (came ++ kept) wrote
  pub quiet : IsQuiet old now
