-- What was sent, in several calls.
use Rattle.std.proofs.Common.{inl, inr, ℕ, List, [], ◌++◌, Option, None, Some, Result, Ok, Err, subst, append-nil}
use Rattle.std.specs.Io.KnownBytes.{Appends}
use Rattle.std.proofs.KnownBytes.{Appends-trans}
use Rattle.select_ports.specs.Stored.{Objects}
use Rattle.select_ports.specs.Streams.{AddsAll, AppendsFront}
use Rattle.select_ports.proofs.Told.{appends-front-after}
use Rattle.select_http.specs.Answers.{written_if, Sends}

-- some bytes were sent, and then others or a front of them
pub adds_then : {A E : Type 0} (a b c : Option (List ℕ)) (result : Result A E) (first second : List ℕ) → Appends a b first
    → AddsAll b c result second → AddsAll a c result (first ++ second)
adds_then a b c (Ok x) first second s t = Appends-trans a b c first second s t
adds_then a b c (Err e) first second s t =
    subst (λ l. AppendsFront a c (first ++ l)) (append-nil second) (appends-front-after a b c first second [] s t)

-- these very bytes were sent
pub sends_known : {A E : Type 0} (held : Option Objects) (a b : Option (List ℕ)) (result : Result A E) (Is : List ℕ → Type 0) (bytes : List ℕ)
    → Is bytes → AddsAll a b result bytes → Sends Is (written_if held a) (written_if held b) result
sends_known None a b (Ok x) Is bytes is sent = record { reply = bytes; is = is; sent = tt }
sends_known None a b (Err e) Is bytes is sent = inl tt
sends_known (Some objects) a b (Ok x) Is bytes is sent = record { reply = bytes; is = is; sent = sent }
sends_known (Some objects) a b (Err e) Is bytes is sent = inr (record { reply = bytes; is = is; sent = sent })
