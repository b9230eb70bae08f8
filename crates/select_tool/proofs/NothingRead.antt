-- Where nothing was read of an object, nothing had to be written.
use Rattle.std.proofs.Common.{◌≡◌, ℕ, ◌+◌, List, length, Option, arith}
use Rattle.std.specs.Io.KnownBytes.{Keeps}
use Rattle.select_job.specs.declared.asked.Asked.{Asked}
use Rattle.select_job.specs.declared.asked.Asked.TheVariants.{Refused, Asks}
use Rattle.select_engine.specs.Chosen.{chosen_range}
use Rattle.select_engine.specs.Early.{UnreadIsNotDue}
use Rattle.scan_ranges.specs.Resolved.{resolved}
use Rattle.record_stream.specs.Selected.{first_of}
use Rattle.select_tool.specs.Replies.{IsNotHeldBack}

pub wrote_none : UnreadIsNotDue → (wrap : List ℕ → List ℕ) (longest : ℕ) (object : List ℕ) (taken : ℕ) (asked : Asked) (before now : Option (List ℕ)) → taken ≡ 0 → Keeps before now
    → IsNotHeldBack wrap longest object taken asked before now
wrote_none undue wrap longest object taken (Refused code at) before now none kept = tt
wrote_none undue wrap longest object taken (Asks job) before now none kept =
    undue wrap job.request.progress longest object job.request job.query (first_of (resolved (chosen_range job.request) (length object)) + taken) before now
    (omega (arith, none)) kept
