-- What a body asks as far as it was read is what the whole input asks: a body that goes on further is too long.
use Rattle.std.proofs.Common.{◌≡◌, ℕ, ◌≤◌, List, ◌++◌, length, Option, None, Some, Result, Ok, Err, IfSome, inl, inr, sym, ap, ◌∙◌, subst, arith, append-nil}
use Rattle.std.specs.Prelude.{◌⊎◌, IfOk}
use Rattle.std.proofs.Math.ListN.{length-append}
use Rattle.select_request.specs.Reading.{longest_body, SpellsRequest, IsNoBody, FailsCheck, HasFault, Reads}
use Rattle.select_request.specs.declared.fault.ReadError.{ReadError}
use Rattle.select_request.specs.declared.fault.ReadError.TheVariants as read
use Rattle.select_request.specs.declared.fault.RequestFault.{RequestFault}
use Rattle.select_request.specs.declared.request.SelectRequest.{SelectRequest}
use Rattle.select_reply.specs.declared.code.Code.{Code}
use Rattle.select_job.specs.declared.asked.Asked.{Asked}
use Rattle.select_job.specs.declared.asked.Asked.TheVariants.{Refused, Asks}
use Rattle.select_job.specs.Prepared.{Prepares, HasBodyFault, HasQueryFault}
use Rattle.select_tool.specs.declared.trouble.Trouble.{Trouble}
use Rattle.select_tool.specs.Input.{IsReadOf, IsReadFrom}

module _ (whole body : List ℕ) (is : IsReadOf whole body) where
  same : length body ≤ longest_body → body ≡ whole
  same short = sym (is.joined ∙ ap (λ r. body ++ r) (is.ended short) ∙ append-nil body)

  fault_whole : (fault : RequestFault) → HasFault body fault → HasFault whole fault
  fault_whole fault (inl long) = inl (record {
    long = omega (arith, long.long, ap length is.joined, length-append body is.rest);
    code = long.code;
    place = long.place;
  })
  fault_whole fault (inr (inl none)) = inr (inl (subst (λ b. IsNoBody b fault) (same none.short) none))
  fault_whole fault (inr (inr fails)) = inr (inr (subst (λ b. FailsCheck b fault) (same fails.short) fails))

  reads_whole : (r : Result SelectRequest ReadError) → Reads body r → Reads whole r
  reads_whole (Ok request) reads = subst (λ b. SpellsRequest b request) (same reads.short) reads
  reads_whole (Err (read.Refused fault)) reads = fault_whole fault reads
  reads_whole (Err read.OutOfMemory) reads = tt

  refused_whole : (code : Code) (at : ℕ) → HasBodyFault body code at ⊎ HasQueryFault body code at → HasBodyFault whole code at ⊎ HasQueryFault whole code at
  refused_whole code at (inl f) = inl (record { fault = f.fault; read = fault_whole f.fault f.read; named = f.named; placed = f.placed })
  refused_whole code at (inr f) = inr (record { request = f.request; read = reads_whole (Ok f.request) f.read; refused = f.refused })

  prepares_whole : (asked : Asked) → Prepares body asked → Prepares whole asked
  prepares_whole (Refused code at) prepares = refused_whole code at prepares
  prepares_whole (Asks job) prepares = record {
    read = reads_whole (Ok job.request) prepares.read;
    spelled = prepares.spelled;
    built = prepares.built;
  }

all_whole : (left : Option (List ℕ)) (body : List ℕ) (asked : Asked) → IsReadFrom left body → Prepares body asked → IfSome left (λ whole. Prepares whole asked)
all_whole None body asked is prepares = tt
all_whole (Some whole) body asked is prepares = prepares_whole whole body is asked prepares

pub asked_whole : (left : Option (List ℕ)) (body : List ℕ) (result : Result Asked Trouble) → IsReadFrom left body → IfOk result (Prepares body)
    → IfOk result (λ asked. IfSome left (λ whole. Prepares whole asked))
asked_whole left body (Ok asked) is prepares = all_whole left body asked is prepares
asked_whole left body (Err trouble) is prepares = tt
