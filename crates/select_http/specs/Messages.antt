-- The messages of a connection (RFC 9112, section 2.1): a head, and the body whose length its fields give. What a head says of
-- the reply.
use Rattle.std.specs.Prelude.{ℕ, ◌≤◌, ◌==◌, Bool, ◌&&◌, nat_lt, List, [], ◌++◌, length, if◌then◌else◌, Option, None, Some}
use Rattle.httparse.specs.Grammar.{RequestHead, IsRequestHead, print_request}
use Rattle.http_intake.specs.Bodies.{asks_close, expects_continue}
use Rattle.http_intake.specs.Heads.{most_head}
use Rattle.http_replies.specs.Replies.{continue_reply}
use Rattle.select_http.specs.declared.served.End.{End}
use Rattle.select_http.specs.declared.served.End.TheVariants.{AskedClose, Counted}

pub record Message : Type 0 where
  pub head : RequestHead
  pub body : List ℕ

-- the bytes of a message
abbrev pub spelled : Message → List ℕ
spelled m = print_request m.head ++ m.body

-- a head of the grammar, within the limit
pub record IsShortHead (head : RequestHead) : Type 0 where
  pub valid : IsRequestHead head
  pub short : length (print_request head) ≤ most_head

-- the interim reply, as soon as the head of a message with a body of so many bytes is there
abbrev pub interim_if : Bool → ℕ → List ℕ
interim_if waits len = if waits && nat_lt 0 len then continue_reply else []

abbrev pub interim_of : RequestHead → ℕ → List ℕ
interim_of head len = interim_if (expects_continue head) len

-- the most messages of a connection
abbrev pub most_messages : ℕ
most_messages = 100

-- why the connection closes behind the reply to the message of this number, counted from 1
abbrev pub closing_if : Bool → ℕ → Option End
closing_if asks number = if asks then Some AskedClose else (if number == most_messages then Some Counted else None)

abbrev pub closing : ℕ → RequestHead → Option End
closing number head = closing_if (asks_close head) number
