-- The refusals of a request that doesn't reach a query: status, reason phrase (RFC 9110, section 15), code, and whether the
-- connection closes behind the reply.
use Rattle.std.specs.Prelude.{ℕ, Bool, true, false, List, codes}
use Rattle.http_intake.specs.declared.refusal.Refusal.{Refusal}
use Rattle.http_intake.specs.declared.refusal.Refusal.TheVariants.{BadHead, HeadTooLarge, OldVersion, TransferEncoding, BadLength, NoLength, BodyTooLarge, NotPost, BadTarget, NotSelect}

abbrev pub status_of : Refusal → ℕ
status_of BadHead = 400
status_of HeadTooLarge = 431
status_of OldVersion = 505
status_of TransferEncoding = 501
status_of BadLength = 400
status_of NoLength = 411
status_of BodyTooLarge = 413
status_of NotPost = 405
status_of BadTarget = 400
status_of NotSelect = 501

abbrev pub reason_of : Refusal → List ℕ
reason_of BadHead = codes "Bad Request"
reason_of HeadTooLarge = codes "Request Header Fields Too Large"
reason_of OldVersion = codes "HTTP Version Not Supported"
reason_of TransferEncoding = codes "Not Implemented"
reason_of BadLength = codes "Bad Request"
reason_of NoLength = codes "Length Required"
reason_of BodyTooLarge = codes "Content Too Large"
reason_of NotPost = codes "Method Not Allowed"
reason_of BadTarget = codes "Bad Request"
reason_of NotSelect = codes "Not Implemented"

abbrev pub code_of : Refusal → List ℕ
code_of BadHead = codes "InvalidRequest"
code_of HeadTooLarge = codes "HeadersTooLarge"
code_of OldVersion = codes "HTTPVersionNotSupported"
code_of TransferEncoding = codes "NotImplemented"
code_of BadLength = codes "InvalidRequest"
code_of NoLength = codes "MissingContentLength"
code_of BodyTooLarge = codes "EntityTooLarge"
code_of NotPost = codes "MethodNotAllowed"
code_of BadTarget = codes "InvalidURI"
code_of NotSelect = codes "NotImplemented"

-- the body isn't read, so what comes next isn't known to be a head
abbrev pub closes_after : Refusal → Bool
closes_after BadHead = true
closes_after HeadTooLarge = true
closes_after OldVersion = true
closes_after TransferEncoding = true
closes_after BadLength = true
closes_after NoLength = true
closes_after BodyTooLarge = true
closes_after NotPost = false
closes_after BadTarget = false
closes_after NotSelect = false
