use Rattle.std.proofs.Common.{length, ◌≡◌, ◌+◌, ap, sym, ◌∙◌, arith}
use Rattle.thrift_compact.specs.Items.{list_header_at, then_read}
use Rattle.thrift_compact.specs.Grammar.{SpellsListHeader}
use Rattle.thrift_compact.proofs.ItemLaws.{list_header_found, list_header_only}
use Rattle.thrift_compact.proofs.Clauses.{takes_by, no_front}
use Rattle.thrift_compact.specs.States.{left, if_room}
use Rattle.thrift_compact.proofs.TreeCalls.{list_ok, list_err}
use Rattle.thrift_compact.proofs.reader.Reader.list.Goals as goal

pub returns-in-Ok-clause-found : goal.returns-in-Ok-clause-found
returns-in-Ok-clause-found c =
    let here = c.rest_of.ensures.value ∙ ap left c.self.view_is in
    takes_by (SpellsListHeader (c.in-Ok.kind, c.in-Ok.size)) c.args.self.now _ c.rest_of.result.now c.in-Ok.taken here (list_header_found c.rest_of.result.now (c.in-Ok.kind, c.in-Ok.size) c.in-Ok.taken c.rest_of.ensures.fits c.in-Ok.ensures.header) (ap (λ s. s.bytes) c.self.view_is) (ap (λ s. s.at + c.in-Ok.taken) c.self.view_is)

pub returns-in-Err-clause-refused : goal.returns-in-Err-clause-refused
returns-in-Err-clause-refused c =
    let here = c.rest_of.ensures.value ∙ ap left c.self.view_is in
    λ none room. no_front list_header_at SpellsListHeader (left c.args.self.now) c.in-Err.fault (sym (c.in-Err.ensures.none (let n : c.len.result ≡ length c.args.self.now.nesting = c.len.ensures.len ∙ ap (λ s. length s.nesting) c.self.view_is in omega arith)) ∙ ap list_header_at here) list_header_only

pub returns-in-Ok-clause-seen : goal.returns-in-Ok-clause-seen
returns-in-Ok-clause-seen c =
    let here = c.rest_of.ensures.value ∙ ap left c.self.view_is in
    let n : c.len.result ≡ length c.args.self.now.nesting = c.len.ensures.len ∙ ap (λ s. length s.nesting) c.self.view_is in
    list_ok c.args.self.now _ c.rest_of.result.now c.in-Ok.kind c.in-Ok.size c.in-Ok.taken here c.in-Ok.ensures.header (omega (arith, n, c.in-Ok.ensures.room)) (ap (λ s. s.bytes) c.self.view_is) (ap (λ s. s.at + c.in-Ok.taken) c.self.view_is)

pub returns-in-Err-clause-seen : goal.returns-in-Err-clause-seen
returns-in-Err-clause-seen c =
    let here = c.rest_of.ensures.value ∙ ap left c.self.view_is in
    let n : c.len.result ≡ length c.args.self.now.nesting = c.len.ensures.len ∙ ap (λ s. length s.nesting) c.self.view_is in
    λ d answer at. rw c.fail.ensures.fault (list_err c.args.self.now _ c.rest_of.result.now c.in-Err.fault here (ap (λ z. then_read (list_header_at c.rest_of.result.now) (if_room z)) (sym n) ∙ sym c.in-Err.ensures.exact) d answer at)
