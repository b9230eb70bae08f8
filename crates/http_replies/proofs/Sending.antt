-- Several lists sent one after the other.
use Rattle.std.proofs.Common.{◌≡◌, ℕ, List, [], ◌++◌, Result, Ok, Err, sym, ap, ◌∙◌, subst, arith, append_assoc, append-nil, length}
use Rattle.std.proofs.KnownBytes.{Appends-trans, Appends-nil}
use Rattle.select_ports.specs.Streams.{AppendsFront}
use Rattle.select_ports.proofs.Told.{appends-front-after}
use Rattle.network_ports.specs.Calls.{Link}
use Rattle.network_ports.specs.Sent.{SendsAll}
use Rattle.http_replies.specs.Chunks.{chunk, hex_of}
use Rattle.http_replies.specs.Replies.{crlf}

-- a failure in the first list leaves a front of both
pub sent_front : {A B E : Type 0} (a b : Link) (e : E) (first second : List ℕ) → SendsAll {A = A} a b (Err e) first
    → SendsAll {A = B} a b (Err e) (first ++ second)
sent_front a b e first second s = record {
  written = appends-front-after a.connections.written a.connections.written b.connections.written [] first second
      (Appends-nil a.connections.written) s.written;
  apart_kept = s.apart_kept;
  write_faults = record { kept = s.write_faults.kept; counted = s.write_faults.counted };
  broke = s.broke;
}

-- the first list was sent, and then the second
pub sent_then : {A B E : Type 0} (a b c : Link) (x : A) (result : Result B E) (first second : List ℕ) → SendsAll {E = E} a b (Ok x) first
    → SendsAll b c result second → SendsAll a c result (first ++ second)
sent_then a b c x (Ok y) first second s t = record {
  written = Appends-trans a.connections.written b.connections.written c.connections.written first second s.written t.written;
  apart_kept = t.apart_kept ∙ s.apart_kept;
  write_faults = record { kept = omega (arith, s.write_faults.kept, t.write_faults.kept); counted = t.write_faults.counted ∙ s.write_faults.counted };
  broke = t.broke ∙ s.broke;
}
sent_then a b c x (Err e) first second s t = record {
  written = subst (λ l. AppendsFront a.connections.written c.connections.written (first ++ l)) (append-nil second)
      (appends-front-after a.connections.written b.connections.written c.connections.written first second [] s.written t.written);
  apart_kept = t.apart_kept ∙ s.apart_kept;
  write_faults = record {
    kept = omega (arith, s.write_faults.kept, t.write_faults.kept);
    counted = omega (arith, s.write_faults.counted, t.write_faults.counted);
  };
  broke = t.broke;
}

-- the parts of a chunk
pub chunk_is : (bytes digits : List ℕ) → digits ≡ hex_of (length bytes) → (digits ++ crlf) ++ (bytes ++ crlf) ≡ chunk bytes
unfolding chunk
chunk_is bytes digits is = ap (λ d. (d ++ crlf) ++ (bytes ++ crlf)) is ∙ sym (append_assoc (hex_of (length bytes) ++ crlf) bytes crlf)
