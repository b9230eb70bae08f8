use Rattle.std.proofs.Common.{◌+◌, ap, sym, ◌∙◌}
use Rattle.thrift_compact.specs.Items.{byte_list_at}
use Rattle.thrift_compact.specs.Grammar.{SpellsByteList}
use Rattle.thrift_compact.proofs.ItemLaws.{byte_list_found, byte_list_only}
use Rattle.thrift_compact.proofs.Clauses.{takes_by, no_front}
use Rattle.thrift_compact.specs.States.{left}
use Rattle.thrift_compact.proofs.TreeCalls.{bytes_ok, bytes_err}
use Rattle.thrift_compact.proofs.reader.Reader.bytes.Goals as goal

pub returns-in-Ok-clause-found : goal.returns-in-Ok-clause-found
returns-in-Ok-clause-found c =
    let here = c.rest_of.ensures.value ∙ ap left c.self.view_is in
    takes_by (SpellsByteList c.in-Ok.list.now) c.args.self.now _ c.rest_of.result.now c.in-Ok.taken here (byte_list_found c.rest_of.result.now c.in-Ok.list.now c.in-Ok.taken c.rest_of.ensures.fits c.in-Ok.ensures.exact) (ap (λ s. s.bytes) c.self.view_is) (ap (λ s. s.at + c.in-Ok.taken) c.self.view_is)

pub returns-in-Err-clause-refused : goal.returns-in-Err-clause-refused
returns-in-Err-clause-refused c =
    let here = c.rest_of.ensures.value ∙ ap left c.self.view_is in
    λ none. no_front byte_list_at SpellsByteList (left c.args.self.now) c.in-Err.fault (sym c.in-Err.ensures.fault ∙ ap byte_list_at here) byte_list_only

pub returns-in-Ok-clause-seen : goal.returns-in-Ok-clause-seen
returns-in-Ok-clause-seen c =
    let here = c.rest_of.ensures.value ∙ ap left c.self.view_is in
    bytes_ok c.args.self.now _ c.rest_of.result.now c.in-Ok.list.now c.in-Ok.taken here c.in-Ok.ensures.exact (ap (λ s. s.at + c.in-Ok.taken) c.self.view_is)

pub returns-in-Err-clause-seen : goal.returns-in-Err-clause-seen
returns-in-Err-clause-seen c =
    let here = c.rest_of.ensures.value ∙ ap left c.self.view_is in
    λ d answer at. rw c.fail.ensures.fault (bytes_err c.args.self.now c.rest_of.result.now c.in-Err.fault here c.in-Err.ensures.fault d answer at)
