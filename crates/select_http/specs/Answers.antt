-- The reply to a message whose body came: a function of the message and of what the store holds.
use Rattle.std.specs.Prelude.{◌≡◌, ◌⊎◌, ℕ, Bool, List, ◌++◌, Option, None, Some, Result, Ok, Err, MatchResult, codes}
use Rattle.std.specs.Io.KnownBytes.{Appends, Keeps}
use Rattle.select_ports.specs.Stored.{Objects}
use Rattle.select_ports.specs.Streams.{AppendsFront}
use Rattle.http_intake.specs.declared.refusal.Refusal.{Refusal}
use Rattle.http_intake.specs.Table.{status_of, reason_of, code_of}
use Rattle.http_replies.specs.Replies.{error_reply, success_head}
use Rattle.http_replies.specs.Chunks.{chunk, last_chunk}
use Rattle.select_reply.specs.declared.code.Code.{Code}
use Rattle.select_reply.specs.Codes.{code_text, message}
use Rattle.select_reply.specs.Events.{wrapped_frames}
use Rattle.select_job.specs.declared.asked.Asked.{Asked}
use Rattle.select_job.specs.declared.asked.Asked.TheVariants as asked
use Rattle.select_job.specs.Jobs.{Job}
use Rattle.select_job.specs.Prepared.{Prepares}
use Rattle.select_engine.specs.Answered.{answered, events_of}

-- a message is refused before its query is prepared
abbrev pub refusal_reply : Refusal → Bool → List ℕ
refusal_reply refusal closes = error_reply (status_of refusal) (reason_of refusal) (code_of refusal) (code_of refusal) closes

-- the body, or its expression, is refused: the message has the place
abbrev pub fault_reply : Code → ℕ → Bool → List ℕ
fault_reply code at closes = error_reply 400 (codes "Bad Request") (code_text code) (message code at) closes

-- no object of the name is held
abbrev pub missing_reply : Bool → List ℕ
missing_reply closes = error_reply 404 (codes "Not Found") (codes "NoSuchKey") (codes "NoSuchKey") closes

-- the frames of the reply to a query over an object, each a chunk
abbrev pub answer_chunks : ℕ → List ℕ → Job → List ℕ
answer_chunks longest object job = wrapped_frames chunk (events_of job.request.progress (answered longest object job.request job.query))

abbrev pub answer_reply : ℕ → Bool → List ℕ → Job → List ℕ
answer_reply longest closes object job = success_head closes ++ (answer_chunks longest object job ++ last_chunk)

-- the reply to a query over the object of a name, where there is one
abbrev pub query_reply : ℕ → Bool → Job → Option (List ℕ) → List ℕ
query_reply longest closes job None = missing_reply closes
query_reply longest closes job (Some object) = answer_reply longest closes object job

-- that over what the store holds, where it tells that
abbrev pub IsQueryReply : ℕ → Option Objects → Bool → List ℕ → Job → List ℕ → Type 0
IsQueryReply longest None closes name job reply = Unit {0}
IsQueryReply longest (Some objects) closes name job reply = reply ≡ query_reply longest closes job (objects name)

-- the reply to what a body asks
abbrev pub IsAskedReply : ℕ → Option Objects → Bool → List ℕ → Asked → List ℕ → Type 0
IsAskedReply longest held closes name (asked.Refused code at) reply = reply ≡ fault_reply code at closes
IsAskedReply longest held closes name (asked.Asks job) reply = IsQueryReply longest held closes name job reply

-- a body asks one thing
pub record IsBodyReply (longest : ℕ) (held : Option Objects) (closes : Bool) (name body reply : List ℕ) : Type 0 where
  pub asked : Asked
  pub prepared : Prepares body asked
  pub replied : IsAskedReply longest held closes name asked reply

-- the reply to a body about the object that its target names, or the target's refusal
abbrev pub IsReply : ℕ → Option Objects → Bool → Result (List ℕ) Refusal → List ℕ → List ℕ → Type 0
IsReply longest held closes (Err refusal) body reply = reply ≡ refusal_reply refusal closes
IsReply longest held closes (Ok name) body reply = IsBodyReply longest held closes name body reply

-- ---- while it is sent

-- the bytes written, where they and what the store holds are told: without the second nothing is said of them
abbrev pub written_if : Option Objects → Option (List ℕ) → Option (List ℕ)
written_if None written = None
written_if (Some objects) written = written

-- such a reply was sent whole
pub record SendsOne (Is : List ℕ → Type 0) (before now : Option (List ℕ)) : Type 0 where
  pub reply : List ℕ
  pub is : Is reply
  pub sent : Appends before now reply

-- a front of such a reply was sent
pub record SendsFront (Is : List ℕ → Type 0) (before now : Option (List ℕ)) : Type 0 where
  pub reply : List ℕ
  pub is : Is reply
  pub sent : AppendsFront before now reply

-- at `Ok` such a reply was sent whole, else a front of one, or nothing
abbrev pub Sends : {A E : Type 0} → (List ℕ → Type 0) → Option (List ℕ) → Option (List ℕ) → Result A E → Type 0
Sends Is before now result = MatchResult result (λ _. SendsOne Is before now) (λ _. Keeps before now ⊎ SendsFront Is before now)
