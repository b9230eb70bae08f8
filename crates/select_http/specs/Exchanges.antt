-- What goes out on a connection for what came on it: the messages in turn, each with its reply.
use Rattle.std.specs.Prelude.{◌≡◌, ◌⊎◌, ℕ, zero, suc, ◌<◌, true, List, [], ◌++◌, length, Option, None, is_some, Ok, Err}
use Rattle.select_ports.specs.Stored.{Objects}
use Rattle.select_ports.specs.Streams.{IsFront}
use Rattle.httparse.specs.Grammar.{RequestHead, print_request}
use Rattle.http_intake.specs.Bodies.{body_length}
use Rattle.http_intake.specs.Targets.{object_of}
use Rattle.http_intake.specs.Heads.{RefusesHead}
use Rattle.http_intake.specs.Coming.{HasNoHeadYet}
use Rattle.http_intake.specs.declared.refusal.Refusal.{Refusal}
use Rattle.select_http.specs.Messages.{Message, spelled, IsShortHead, interim_of, closing}
use Rattle.select_http.specs.Answers.{IsReply, refusal_reply}
use Rattle.select_http.specs.declared.served.End.{End}

-- a whole message and its answer: the interim reply where its head waits for one, and the reply
pub record IsAnswered (longest : ℕ) (held : Option Objects) (number : ℕ) (m : Message) (answer : List ℕ) : Type 0 where
  pub head : IsShortHead m.head
  pub len : body_length m.head ≡ Ok (length m.body)
  pub reply : List ℕ
  pub replied : IsReply longest held (is_some (closing number m.head)) (object_of m.head) m.body reply
  pub joined : answer ≡ interim_of m.head (length m.body) ++ reply

-- one more message, behind whose reply the connection goes on
pub record OneMore (longest : ℕ) (held : Option Objects) (number : ℕ) (Before : List ℕ → List ℕ → Type 0) (came wrote : List ℕ) : Type 0 where
  pub came_before : List ℕ
  pub wrote_before : List ℕ
  pub before : Before came_before wrote_before
  pub message : Message
  pub answer : List ℕ
  pub answered : IsAnswered longest held number message answer
  pub goes_on : closing number message.head ≡ None
  pub came_is : came ≡ came_before ++ spelled message
  pub wrote_is : wrote ≡ wrote_before ++ answer

-- so many messages came, behind whose replies the connection went on
abbrev pub Exchanged : ℕ → Option Objects → ℕ → List ℕ → List ℕ → Type 0
Exchanged longest held zero came wrote = (came ≡ []) × (wrote ≡ [])
Exchanged longest held (suc number) came wrote = OneMore longest held (suc number) (Exchanged longest held number) came wrote

-- ---- what comes last

-- a whole message stands in front, and its answer goes out
pub record IsMessage (longest : ℕ) (held : Option Objects) (number : ℕ) (rest answer : List ℕ) (end : Option End) : Type 0 where
  pub message : Message
  pub answered : IsAnswered longest held number message answer
  pub closed : closing number message.head ≡ end
  pub behind : List ℕ
  pub joined : rest ≡ spelled message ++ behind

-- no head can stand in front
pub record IsNoHead (rest answer : List ℕ) : Type 0 where
  pub refusal : Refusal
  pub refused : RefusesHead rest refusal
  pub reply : answer ≡ refusal_reply refusal true

-- a head in front is refused before its body
pub record IsRefusedHead (rest answer : List ℕ) : Type 0 where
  pub head : RequestHead
  pub short : IsShortHead head
  pub refusal : Refusal
  pub refused : body_length head ≡ Err refusal
  pub behind : List ℕ
  pub joined : rest ≡ print_request head ++ behind
  pub reply : answer ≡ refusal_reply refusal true

-- what comes next is refused, and the connection closes
abbrev pub IsRefused : List ℕ → List ℕ → Type 0
IsRefused rest answer = IsNoHead rest answer ⊎ IsRefusedHead rest answer

-- a head in front, with a body of so many bytes, of which some may be wanting
pub record IsBegun (rest : List ℕ) (len : ℕ) (behind interim : List ℕ) : Type 0 where
  pub head : RequestHead
  pub short : IsShortHead head
  pub is_len : body_length head ≡ Ok len
  pub joined : rest ≡ print_request head ++ behind
  pub interim_is : interim ≡ interim_of head len

-- a head whose body isn't whole has had its interim reply
pub record LacksRest (rest answer : List ℕ) : Type 0 where
  pub len : ℕ
  pub behind : List ℕ
  pub begun : IsBegun rest len behind answer
  pub lacks : length behind < len

-- no whole message stands in front
abbrev pub IsUnfinished : List ℕ → List ℕ → Type 0
IsUnfinished rest answer = (HasNoHeadYet rest × (answer ≡ [])) ⊎ LacksRest rest answer

-- ---- an answer that wasn't sent whole

pub record IsPartOfMessage (longest : ℕ) (held : Option Objects) (number : ℕ) (rest sent : List ℕ) : Type 0 where
  pub answer : List ℕ
  pub end : Option End
  pub message : IsMessage longest held number rest answer end
  pub front : IsFront sent answer

pub record IsPartOfRefusal (rest sent : List ℕ) : Type 0 where
  pub answer : List ℕ
  pub refused : IsRefused rest answer
  pub front : IsFront sent answer

pub record IsPartOfInterim (rest sent : List ℕ) : Type 0 where
  pub len : ℕ
  pub behind : List ℕ
  pub interim : List ℕ
  pub begun : IsBegun rest len behind interim
  pub front : IsFront sent interim

-- a front of what goes out next was sent, or nothing
abbrev pub IsCutShort : ℕ → Option Objects → ℕ → List ℕ → List ℕ → Type 0
IsCutShort longest held number rest sent =
    (sent ≡ []) ⊎ (IsPartOfMessage longest held number rest sent ⊎ (IsPartOfRefusal rest sent ⊎ IsPartOfInterim rest sent))
