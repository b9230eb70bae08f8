use Rattle.std.proofs.Common.{[], map, ap, sym, ◌∙◌}
use Rattle.std.specs.List.{list_all}
use Rattle.parquet_footer.specs.Groups.{is_placed, kept, group_start, rises}
use Rattle.parquet_footer.specs.Walks.{leaves_by}
use Rattle.parquet_footer.proofs.SoundLaws.{footer_sound}
use Rattle.parquet_footer.proofs.footer.check_groups.Goals as goal

pub footer_of-requires-clause-sound : goal.footer_of-requires-clause-sound
footer_of-requires-clause-sound c =
    footer_sound c.args.size c.args.file.now.place c.args.below.now c.args.file.now.metadata c.requires.place
    (sym (c.in-Ok.ensures
    ∙ ap (list_all (is_placed c.args.file.now.place (leaves_by [] c.args.below.now))) c.as_slice-groups.ensures)
    ∙ c.if-not-placed.false)
    (sym (c.are_in_order.ensures ∙ ap (λ groups. rises 0 (map group_start (kept groups))) c.as_slice-groups.ensures)
    ∙ c.if-not-are_in_order.false)
