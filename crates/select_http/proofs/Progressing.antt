-- What befell a connection in several calls.
use Rattle.std.proofs.Common.{◌≡◌, ℕ, ◌-◌, ◌^◌, ◌<◌, ◌≤◌, true, List, [], ◌++◌, Option, None, Some, Ok, Err, refl, sym, ap, ◌∙◌, subst, arith}
use Rattle.std.specs.Io.KnownBytes.{Appends, Consumes}
use Rattle.std.proofs.KnownBytes.{Appends-nil, Appends-trans, Consumes-nil, Consumes-trans}
use Rattle.select_ports.specs.Causes.{Rose}
use Rattle.select_ports.specs.Stored.{Objects}
use Rattle.network_ports.specs.Calls.{Link}
use Rattle.network_ports.specs.Sent.{apart, SendsAll}
use Rattle.http_intake.specs.Coming.{Came, IsWell}
use Rattle.http_replies.specs.Chunks.{IsMarked}
use Rattle.select_http.specs.Answers.{written_if}
use Rattle.select_http.specs.Endings.{HasCause, IsFresh, Progress}
use Rattle.select_http.specs.Turns.{IsQuiet}
use Rattle.select_http.specs.declared.served.End.{End}
use Rattle.select_http.specs.declared.served.End.TheVariants.{PeerClosed, AskedClose, Refused, Counted, ReadFault, WriteFault, StoreFault, OutOfMemory}

pub progress_same : (held : Option Objects) (a : Link) → Progress held a a [] []
progress_same held a = record {
  left = Consumes-nil a.connections.left;
  came = Appends-nil a.connections.came;
  written = Appends-nil (written_if held a.connections.written);
  earlier = refl;
  missed = refl;
  begun_at = refl;
  write_faults = omega arith;
}

pub progress_then : (held : Option Objects) (a b c : Link) (t u w v : List ℕ) → Progress held a b t w → Progress held b c u v
    → Progress held a c (t ++ u) (w ++ v)
progress_then held a b c t u w v first second = record {
  left = Consumes-trans a.connections.left b.connections.left c.connections.left t u first.left second.left;
  came = Appends-trans a.connections.came b.connections.came c.connections.came t u first.came second.came;
  written = Appends-trans (written_if held a.connections.written) (written_if held b.connections.written) (written_if held c.connections.written)
      w v first.written second.written;
  earlier = second.earlier ∙ first.earlier;
  missed = second.missed ∙ first.missed;
  begun_at = second.begun_at ∙ first.begun_at;
  write_faults = omega (arith, first.write_faults, second.write_faults);
}

pub progress_as : (held : Option Objects) (a b : Link) (t u w v : List ℕ) → Progress held a b t w → t ≡ u → w ≡ v → Progress held a b u v
progress_as held a b t u w v p e f = subst (λ l. Progress held a b l v) e (subst (Progress held a b t) f p)

written_same : (held : Option Objects) (a b : Option (List ℕ)) → b ≡ a → Appends (written_if held a) (written_if held b) []
written_same held a b same = subst (λ l. Appends (written_if held a) (written_if held l) []) (sym same) (Appends-nil (written_if held a))

pub came_progress : (held : Option Objects) (a b : Link) (bytes : List ℕ) → Came a b bytes → Progress held a b bytes []
came_progress held a b bytes came = record {
  left = came.left;
  came = came.came;
  written = written_same held a.connections.written b.connections.written came.written;
  earlier = came.earlier;
  missed = came.missed;
  begun_at = came.begun_at;
  write_faults = omega (arith, came.write_faults);
}

-- what was written, where what the store holds is told too
pub written_told : (held : Option Objects) (a b : Option (List ℕ)) (bytes : List ℕ) → Appends a b bytes → Appends (written_if held a) (written_if held b) bytes
written_told None a b bytes sent = tt
written_told (Some objects) a b bytes sent = sent

-- nothing came while bytes were sent
pub apart_progress : (held : Option Objects) (a b : Link) (bytes : List ℕ) → apart b ≡ apart a → a.write_faults ≤ b.write_faults
    → Appends (written_if held a.connections.written) (written_if held b.connections.written) bytes → Progress held a b [] bytes
apart_progress held a b bytes same faults sent = record {
  left = subst (λ l. Consumes a.connections.left l []) (sym (ap (λ p. p.left) same)) (Consumes-nil a.connections.left);
  came = subst (λ l. Appends a.connections.came l []) (sym (ap (λ p. p.came) same)) (Appends-nil a.connections.came);
  written = sent;
  earlier = ap (λ p. p.earlier) same;
  missed = ap (λ p. p.missed) same;
  begun_at = ap (λ p. p.begun_at) same;
  write_faults = faults;
}

pub sent_progress : {A E : Type 0} (held : Option Objects) (a b : Link) (x : A) (bytes : List ℕ) → SendsAll {E = E} a b (Ok x) bytes
    → Progress held a b [] bytes
sent_progress held a b x bytes s =
    apart_progress held a b bytes s.apart_kept s.write_faults.kept (written_told held a.connections.written b.connections.written bytes s.written)

pub front_progress : {A E : Type 0} (held : Option Objects) (a b : Link) (e : E) (bytes : List ℕ) → (s : SendsAll {A = A} a b (Err e) bytes)
    → Progress held a b [] s.written.front
front_progress held a b e bytes s =
    apart_progress held a b s.written.front s.apart_kept s.write_faults.kept
    (written_told held a.connections.written b.connections.written s.written.front s.written.appended)

-- ---- counts

pub quiet_apart : (a b : Link) → apart b ≡ apart a → IsQuiet a b
quiet_apart a b same = record { read_faults = ap (λ p. p.read_faults) same; ends = ap (λ p. p.ends) same }

pub quiet_well : (a b : Link) → IsWell a b → IsQuiet a b
quiet_well a b well = record { read_faults = well.read_faults; ends = well.ends }

pub quiet_same : (a : Link) → IsQuiet a a
quiet_same a = record { read_faults = refl; ends = refl }

pub quiet_then : (a b c : Link) → IsQuiet a b → IsQuiet b c → IsQuiet a c
quiet_then a b c first second = record { read_faults = second.read_faults ∙ first.read_faults; ends = second.ends ∙ first.ends }

-- a write failed, so the connection is broken
pub write_cause : (a c : Link) → IsFresh a → c.begun_at ≡ a.begun_at → IsMarked c → Rose a.write_faults c.write_faults
    → (c.write_faults < 2 ^ 64 - 1 → c.connections.broke ≡ true)
write_cause a c fresh same marked rose = λ few. marked (omega (arith, few, same, rose, fresh.begun))

-- a cause found later is one found from the start
pub cause_before : (a b c : Link) (sa sb sc : ℕ) (end : End) → IsQuiet a b → a.write_faults ≤ b.write_faults → sa ≤ sb
    → HasCause b c sb sc end → HasCause a c sa sc end
cause_before a b c sa sb sc PeerClosed quiet faults store cause = (omega (arith, quiet.ends, cause.0), cause.1)
cause_before a b c sa sb sc ReadFault quiet faults store cause = (omega (arith, quiet.read_faults, cause.0), cause.1)
cause_before a b c sa sb sc AskedClose quiet faults store cause = tt
cause_before a b c sa sb sc Counted quiet faults store cause = tt
cause_before a b c sa sb sc Refused quiet faults store cause = tt
cause_before a b c sa sb sc WriteFault quiet faults store cause = (omega (arith, faults, cause.0), cause.1)
cause_before a b c sa sb sc StoreFault quiet faults store cause = omega (arith, store, cause)
cause_before a b c sa sb sc OutOfMemory quiet faults store cause = tt
