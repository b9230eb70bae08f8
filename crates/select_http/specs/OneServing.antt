-- A connection is served in one way.
use Rattle.std.specs.Prelude.{◌≡◌, ◌⊎◌, ℕ, suc, Bool, true, false, List, ◌++◌, Some}
use Rattle.select_ports.specs.Stored.{Objects}
use Rattle.httparse.specs.Grammar.{HasNoRequest}
use Rattle.http_intake.specs.Heads.{judged}
use Rattle.select_http.specs.Exchanges.{Exchanged}
use Rattle.select_http.specs.Endings.{EndsBy}
use Rattle.select_http.specs.declared.served.End.{End}
use Rattle.select_http.specs.declared.served.End.TheVariants.{PeerClosed, AskedClose, Refused, Counted, ReadFault, WriteFault, StoreFault, OutOfMemory}

-- what came was answered as far as it goes: no write and no read of the store failed, and memory sufficed
abbrev pub is_complete : End → Bool
is_complete PeerClosed = true
is_complete ReadFault = true
is_complete AskedClose = true
is_complete Counted = true
is_complete Refused = true
is_complete WriteFault = false
is_complete StoreFault = false
is_complete OutOfMemory = false

-- a serving over told objects, which ended so
pub record IsServing (longest : ℕ) (objects : Objects) (count : ℕ) (came wrote rest sent : List ℕ) (end : End) : Type 0 where
  pub exchanged : Exchanged longest (Some objects) count came wrote
  pub ended : EndsBy longest (Some objects) (suc count) rest sent end
  pub complete : is_complete end ≡ true

-- both have the same messages with the same answers, and sent the same at the end. Where no head stands in front, that may be
-- nothing yet, or a refusal
pub record IsOneServing (count other_count : ℕ) (came wrote rest sent other_came other_wrote other_rest other_sent : List ℕ) : Type 0 where
  pub same_count : count ≡ other_count
  pub same_came : came ≡ other_came
  pub same_wrote : wrote ≡ other_wrote
  pub same_rest : rest ≡ other_rest
  pub same_sent : (sent ≡ other_sent) ⊎ HasNoRequest (judged rest)

-- two servings of the same bytes are one
abbrev pub EachIsServedOnce : Type 0
EachIsServedOnce = (longest : ℕ) (objects : Objects) (count other_count : ℕ) (came wrote rest sent other_came other_wrote other_rest other_sent : List ℕ)
    (end other_end : End) → IsServing longest objects count came wrote rest sent end
    → IsServing longest objects other_count other_came other_wrote other_rest other_sent other_end → came ++ rest ≡ other_came ++ other_rest
    → IsOneServing count other_count came wrote rest sent other_came other_wrote other_rest other_sent
