-- All of some bytes sent in several calls.
use Rattle.std.proofs.Common.{◌≡◌, ℕ, ◌+◌, ◌-◌, ◌≤◌, List, [], Option, None, Some, Result, Ok, Err, length, take, drop, refl, sym, append-nil, subst, ◌∙◌, arith}
use Rattle.std.proofs.lemmas.List.{take_all}
use Rattle.std.specs.Io.KnownBytes.{Appends}
use Rattle.select_ports.proofs.Told.{appends-piece, appends-front}
use Rattle.network_ports.specs.Calls.{Link, LinkSends}
use Rattle.network_ports.specs.Sent.{apart, SendsAll}

-- these bytes were sent, and no call failed
pub record Sent (old new : Link) (bytes : List ℕ) : Type 0 where
  pub written : Appends old.connections.written new.connections.written bytes
  pub apart_kept : apart new ≡ apart old
  pub write_faults : new.write_faults ≡ old.write_faults
  pub broke : new.connections.broke ≡ old.connections.broke

apart-sends : {E : Type 0} (old new : Link) (result : Result ℕ E) (piece : List ℕ) → LinkSends old new result piece → apart new ≡ apart old
apart-sends old new result piece s =
    rw (s.missed, s.read_faults, s.ends, s.begun_at, s.connections.earlier, s.connections.left, s.connections.came) refl

appends_nothing : (a : Option (List ℕ)) → Appends a a []
appends_nothing None = tt
appends_nothing (Some xs) = sym (append-nil xs)

pub sent_nothing : (a : Link) → Sent a a []
sent_nothing a = record { written = appends_nothing a.connections.written; apart_kept = refl; write_faults = refl; broke = refl }

pub sent_more : {E : Type 0} (a b c : Link) (bytes : List ℕ) (done n : ℕ) → n ≤ length bytes - done → Sent a b (take done bytes)
    → LinkSends {E = E} b c (Ok n) (take (length bytes - done) (drop done bytes)) → Sent a c (take (done + n) bytes)
sent_more a b c bytes done n within before s = record {
  written = appends-piece a.connections.written b.connections.written c.connections.written bytes done n within before.written s.connections.written;
  apart_kept = apart-sends b c _ _ s ∙ before.apart_kept;
  write_faults = s.write_faults.counted ∙ before.write_faults;
  broke = s.connections.broke ∙ before.broke;
}

pub sent_failed : {A D E : Type 0} (a b c : Link) (bytes piece : List ℕ) (done : ℕ) (e : E) (d : D) → Sent a b (take done bytes)
    → LinkSends b c (Err e) piece → SendsAll {A = A} a c (Err d) bytes
sent_failed a b c bytes piece done e d before s = record {
  written = appends-front a.connections.written b.connections.written c.connections.written bytes done before.written s.connections.written;
  apart_kept = apart-sends b c _ _ s ∙ before.apart_kept;
  write_faults = rw (← before.write_faults) record { kept = s.write_faults.kept; counted = s.write_faults.counted };
  broke = s.connections.broke;
}

pub sent_all : {A E : Type 0} (a b : Link) (bytes : List ℕ) (done : ℕ) (x : A) → length bytes ≤ done → Sent a b (take done bytes)
    → SendsAll {E = E} a b (Ok x) bytes
sent_all a b bytes done x all sent = record {
  written = subst (Appends a.connections.written b.connections.written) (take_all done bytes all) sent.written;
  apart_kept = sent.apart_kept;
  write_faults = record { kept = omega (arith, sent.write_faults); counted = sent.write_faults };
  broke = sent.broke;
}
