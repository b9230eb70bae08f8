use Rattle.std.proofs.Common.{Result, Ok, Err, ap, ◌∙◌, refl, subst}
use Rattle.thrift_compact.specs.States.{State, SkipsTo, skipped}
use Rattle.thrift_compact.specs.Opens.{ended}
use Rattle.thrift_compact.specs.declared.faults.ThriftFault.{ThriftFault}
use Rattle.thrift_compact.specs.Varints.{IsBytes}
use Rattle.thrift_compact.proofs.Clauses.{skip_takes, skip_refuses, skip_one}
use Rattle.thrift_compact.proofs.TreeCalls.{skip_ok, skip_err}
use Rattle.thrift_compact.proofs.reader.Reader.skip.Goals as goal

pub returns-in-Ok-clause-found : goal.returns-in-Ok-clause-found
returns-in-Ok-clause-found c =
    let P : State → Type 0 = λ s. SkipsTo c.args.kind s (Ok c.in-Ok.at) in
    let Q : State → Type 0 = λ s. IsBytes s.bytes in
    skip_takes c.args.kind c.args.self.now _ c.in-Ok.at (subst Q c.self.view_is c.pass.ensures.fits) (subst P c.self.view_is c.in-Ok.ensures.exact) (ap (λ s. s.bytes) c.self.view_is) refl

pub returns-in-Err-clause-refused : goal.returns-in-Err-clause-refused
returns-in-Err-clause-refused c =
    let P : State → Type 0 = λ s. SkipsTo c.args.kind s (Err c.in-Err.fault) in
    λ none. skip_refuses c.args.kind c.args.self.now c.in-Err.fault (subst P c.self.view_is c.in-Err.ensures.exact)

pub returns-in-Ok-clause-only : goal.returns-in-Ok-clause-only
returns-in-Ok-clause-only c =
    let P : State → Type 0 = λ s. SkipsTo c.args.kind s (Ok c.in-Ok.at) in
    let R : State → Result (Unit {0}) ThriftFault × State = λ s. (Ok tt, record { bytes = s.bytes; at = c.in-Ok.at; nesting = ended s.nesting; fault = s.fault }) in
    λ none to p. rw c.end_value.ensures.ended (ap R c.self.view_is ∙ ap (skipped c.args.self.now) (skip_one c.args.kind c.args.self.now (Ok c.in-Ok.at) to (subst P c.self.view_is c.in-Ok.ensures.exact) p))

pub returns-in-Err-clause-only : goal.returns-in-Err-clause-only
returns-in-Err-clause-only c =
    let P : State → Type 0 = λ s. SkipsTo c.args.kind s (Err c.in-Err.fault) in
    λ none to p. rw (c.keep.ensures.fault, c.keep.ensures.kept) (ap (skipped c.args.self.now) (skip_one c.args.kind c.args.self.now (Err c.in-Err.fault) to (subst P c.self.view_is c.in-Err.ensures.exact) p))

pub returns-in-Ok-clause-seen : goal.returns-in-Ok-clause-seen
returns-in-Ok-clause-seen c =
    let P : State → Type 0 = λ s. SkipsTo c.args.kind s (Ok c.in-Ok.at) in
    skip_ok c.args.kind c.args.self.now c.in-Ok.at (λ to p. skip_one c.args.kind c.args.self.now (Ok c.in-Ok.at) to (subst P c.self.view_is c.in-Ok.ensures.exact) p)

pub returns-in-Err-clause-seen : goal.returns-in-Err-clause-seen
returns-in-Err-clause-seen c =
    let P : State → Type 0 = λ s. SkipsTo c.args.kind s (Err c.in-Err.fault) in
    λ d answer at. rw c.keep.ensures.fault (skip_err c.args.kind c.args.self.now c.in-Err.fault (λ to p. skip_one c.args.kind c.args.self.now (Err c.in-Err.fault) to (subst P c.self.view_is c.in-Err.ensures.exact) p) d answer at)
