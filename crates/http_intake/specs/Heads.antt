-- The head at the front of the bytes that came (RFC 9112, section 2.1): one of httparse's grammar within its first 16,384 bytes.
use Rattle.std.specs.Prelude.{◌≡◌, ℕ, ◌<◌, ◌≤◌, List, length, take}
use Rattle.httparse.specs.Grammar.{HasNoRequest, NeverHasRequest, RequestHead, print_request}
use Rattle.httparse.specs.Spans.{IsRequestAt, IsRequestWithin}
use Rattle.httparse.specs.declared.spans.RequestSpans.{RequestSpans}
use Rattle.httparse.specs.declared.spans.HeaderSpan.{HeaderSpan}
use Rattle.http_intake.specs.declared.refusal.Refusal.{Refusal}
use Rattle.http_intake.specs.declared.refusal.Refusal.TheVariants.{BadHead, HeadTooLarge, OldVersion, TransferEncoding, BadLength, NoLength, BodyTooLarge, NotPost, BadTarget, NotSelect}
use Rattle.http_intake.specs.declared.look.Look.{Look}
use Rattle.http_intake.specs.declared.look.Look.TheVariants.{Head, More, Refused}

-- the longest head in bytes, with the empty lines before it
abbrev pub most_head : ℕ
most_head = 16384

-- a field line has three bytes at least, so that so many fields fill a head
abbrev pub most_fields : ℕ
most_fields = 5462

-- the bytes among which a head is looked for
abbrev pub judged : List ℕ → List ℕ
judged kept = take most_head kept

-- why no head stands in front: no bytes can follow that make one, or none is whole within the limit
abbrev pub RefusesHead : List ℕ → Refusal → Type 0
RefusesHead kept BadHead = NeverHasRequest (judged kept)
RefusesHead kept HeadTooLarge = (most_head ≤ length kept) × HasNoRequest (judged kept)
RefusesHead kept OldVersion = ⊥
RefusesHead kept TransferEncoding = ⊥
RefusesHead kept BadLength = ⊥
RefusesHead kept NoLength = ⊥
RefusesHead kept BodyTooLarge = ⊥
RefusesHead kept NotPost = ⊥
RefusesHead kept BadTarget = ⊥
RefusesHead kept NotSelect = ⊥

-- the head in front is this tree: the spans cover its parts, and the first bytes are its text
pub record IsHead (kept : List ℕ) (spans : List HeaderSpan) (head : RequestSpans) (tree : RequestHead) : Type 0 where
  pub at : IsRequestAt (judged kept) spans head tree
  pub text : take head.len kept ≡ print_request tree

-- a head stands in front, and its spans lie in it
pub record HasHead (kept : List ℕ) (spans : List HeaderSpan) (head : RequestSpans) : Type 0 where
  pub within : IsRequestWithin (judged kept) spans head
  pub tree : RequestHead
  pub is_head : IsHead kept spans head tree

-- what stands in front: a head with its spans, the beginning of one, or what is refused
abbrev pub Looks : List ℕ → List HeaderSpan → Look → Type 0
Looks kept spans (Head head) = HasHead kept spans head
Looks kept spans More = (length kept < most_head) × HasNoRequest (judged kept)
Looks kept spans (Refused refusal) = RefusesHead kept refusal
