use Rattle.std.proofs.Common.{rules, ◌≡◌, ◌&&◌, true, Some, None, lit<, sym, ap, ◌∙◌}
use Rattle.std.proofs.lemmas.Str.Pattern.{split_parts}
use Rattle.std.specs.List.{list_all}
use Rattle.select_ports.specs.Names.{names_entry, segments_of}
use Rattle.select_ports.proofs.Segments.{judged_whole, judged_cut}
use Rattle.select_ports.proofs.names.all_name_entries.Goals as goal

pub loop-segment-preserved : goal.loop-segment-preserved
loop-segment-preserved c =
    let parts = split_parts 47 c.loop-segment.rest.now (Some (c.in-Some.segment, c.in-Some.behind)) c.in-Some.ensures.cases (lit< tt) in
    let entry : names_entry c.in-Some.segment.now ≡ true = sym c.is_entry_name.ensures ∙ c.if-not-is_entry_name.false in (
      search rules,
      sym (judged_cut c.loop-segment.rest.now c.in-Some.segment.now c.in-Some.behind.now parts.0 parts.1
          ∙ ap (λ b. b && list_all names_entry (segments_of c.in-Some.behind.now)) entry) ∙ c.loop-segment.invariant.1,
    )

pub returns : goal.returns
returns c =
    let none = split_parts 47 c.loop-segment.rest.now None c.in_default.ensures.cases (lit< tt) in
    c.is_entry_name-2.ensures ∙ judged_whole c.loop-segment.rest.now none ∙ c.loop-segment.invariant.1
