use Rattle.std.proofs.Common.{ap, sym, ◌∙◌}
use Rattle.std.specs.Str.{chars}
use Rattle.text_view.specs.JsonString.{unescaped_text}
use Rattle.json_text.specs.Naming.{members_of, is_named, same_name}
use Rattle.json_text.proofs.Membered.{finds_all, finds_on, found_here, found_none}
use Rattle.json_text.proofs.node.JsonNode.member_place.Goals as goal

pub each-init : goal.each-init
each-init c = λ tree x. finds_all _ _ (members_of tree) (c.members-walk.ensures tree x)

pub returns-then-is_named : goal.returns-then-is_named
returns-then-is_named c =
    λ tree x. let s = c.each.invariant tree x in
    found_here (is_named c.args.exact (chars c.args.name.now)) _ _ (members_of tree) _ _ _ s (c.in-Some.ensures.member s.items s.ahead)
    (λ m e. ap (λ n. same_name c.args.exact (chars c.args.name.now) (unescaped_text (chars n))) e ∙ sym c.is_named.ensures ∙ c.if-is_named.true)

pub each-preserved : goal.each-preserved
each-preserved c =
    λ tree x. let s = c.each.invariant tree x in
    finds_on (is_named c.args.exact (chars c.args.name.now)) _ _ (members_of tree) _ _ _ s (c.in-Some.ensures.member s.items s.ahead)
    (λ m e. ap (λ n. same_name c.args.exact (chars c.args.name.now) (unescaped_text (chars n))) e ∙ sym c.is_named.ensures ∙ c.if-is_named.false)

pub returns : goal.returns
returns c =
    λ tree x. let s = c.each.invariant tree x in
    found_none (is_named c.args.exact (chars c.args.name.now)) _ (members_of tree) s (c.in_default.ensures.member s.items s.ahead).0
