use Rattle.std.proofs.Common.{◌≡◌, ◌+◌, ap, sym, ◌∙◌, w16, to_z, of_z}
use Rattle.std.proofs.lemmas.Int.{to_z-of_z}
use Rattle.thrift_compact.specs.Opens.{last_number}
use Rattle.thrift_compact.specs.Items.{header_at}
use Rattle.thrift_compact.specs.Grammar.{SpellsHeader}
use Rattle.thrift_compact.proofs.ItemLaws.{header_found, header_only}
use Rattle.thrift_compact.proofs.Clauses.{takes_by, no_front}
use Rattle.thrift_compact.specs.States.{left}
use Rattle.thrift_compact.proofs.reader.Reader.field.Goals as goal

pub returns-in-Ok-clause-found : goal.returns-in-Ok-clause-found
returns-in-Ok-clause-found c =
    let here = c.rest_of.ensures.value ∙ ap left c.self.view_is in
    let last_is : to_z w16 (of_z w16 c.last_field.result) ≡ last_number c.args.self.now.nesting = to_z-of_z w16 c.last_field.result c.last_field.ensures.range ∙ c.last_field.ensures.last ∙ ap (λ s. last_number s.nesting) c.self.view_is in
    takes_by (SpellsHeader (last_number c.args.self.now.nesting) c.in-Ok.header) c.args.self.now _ c.rest_of.result.now c.in-Ok.taken here (header_found (last_number c.args.self.now.nesting) c.rest_of.result.now c.in-Ok.header c.in-Ok.taken c.rest_of.ensures.fits (sym (c.in-Ok.ensures.exact ∙ ap (λ z. header_at z c.rest_of.result.now) last_is))) (ap (λ s. s.bytes) c.self.view_is) (ap (λ s. s.at + c.in-Ok.taken) c.self.view_is)

pub returns-in-Err-clause-refused : goal.returns-in-Err-clause-refused
returns-in-Err-clause-refused c =
    let here = c.rest_of.ensures.value ∙ ap left c.self.view_is in
    let last_is : to_z w16 (of_z w16 c.last_field.result) ≡ last_number c.args.self.now.nesting = to_z-of_z w16 c.last_field.result c.last_field.ensures.range ∙ c.last_field.ensures.last ∙ ap (λ s. last_number s.nesting) c.self.view_is in
    λ none. no_front (header_at (last_number c.args.self.now.nesting)) (SpellsHeader (last_number c.args.self.now.nesting)) (left c.args.self.now) c.in-Err.fault (c.in-Err.ensures.exact ∙ ap (λ z. header_at z c.rest_of.result.now) last_is ∙ ap (header_at (last_number c.args.self.now.nesting)) here) (header_only (last_number c.args.self.now.nesting))
