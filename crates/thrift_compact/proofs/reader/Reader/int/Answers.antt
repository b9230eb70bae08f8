use Rattle.std.proofs.Common.{◌+◌, ap, sym, ◌∙◌, w64}
use Rattle.std.proofs.lemmas.Int.{to_z-of_z}
use Rattle.thrift_compact.specs.Items.{number_at}
use Rattle.thrift_compact.specs.Grammar.{SpellsNumber}
use Rattle.thrift_compact.proofs.ItemLaws.{number_found, number_only}
use Rattle.thrift_compact.proofs.Clauses.{takes_by, no_front}
use Rattle.thrift_compact.specs.States.{left}
use Rattle.thrift_compact.proofs.TreeCalls.{int_ok, int_err}
use Rattle.thrift_compact.proofs.reader.Reader.int.Goals as goal

pub returns-in-Ok-clause-found : goal.returns-in-Ok-clause-found
returns-in-Ok-clause-found c =
    let here = c.rest_of.ensures.value ∙ ap left c.self.view_is in
    takes_by (SpellsNumber c.args.kind _) c.args.self.now _ c.rest_of.result.now c.in-Ok.taken here (rw (to_z-of_z w64 c.in-Ok.number c.in-Ok.ensures.range) (number_found c.args.kind c.rest_of.result.now c.in-Ok.number c.in-Ok.taken c.rest_of.ensures.fits (sym c.in-Ok.ensures.exact))) (ap (λ s. s.bytes) c.self.view_is) (ap (λ s. s.at + c.in-Ok.taken) c.self.view_is)

pub returns-in-Err-clause-refused : goal.returns-in-Err-clause-refused
returns-in-Err-clause-refused c =
    let here = c.rest_of.ensures.value ∙ ap left c.self.view_is in
    λ none. no_front (number_at c.args.kind) (SpellsNumber c.args.kind) (left c.args.self.now) c.in-Err.fault (c.in-Err.ensures.exact ∙ ap (number_at c.args.kind) here) (number_only c.args.kind)

pub returns-in-Ok-clause-seen : goal.returns-in-Ok-clause-seen
returns-in-Ok-clause-seen c =
    let here = c.rest_of.ensures.value ∙ ap left c.self.view_is in
    λ n d answer at. rw (to_z-of_z w64 c.in-Ok.number c.in-Ok.ensures.range) (int_ok c.args.kind c.args.self.now _ c.rest_of.result.now c.in-Ok.number c.in-Ok.taken here (sym c.in-Ok.ensures.exact) (ap (λ s. s.at + c.in-Ok.taken) c.self.view_is) n d answer at)

pub returns-in-Err-clause-seen : goal.returns-in-Err-clause-seen
returns-in-Err-clause-seen c =
    let here = c.rest_of.ensures.value ∙ ap left c.self.view_is in
    λ n d answer at. rw c.fail.ensures.fault (int_err c.args.kind c.args.self.now c.rest_of.result.now c.in-Err.fault here (sym c.in-Err.ensures.exact) n d answer at)
