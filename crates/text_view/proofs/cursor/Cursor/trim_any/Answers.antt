use Rattle.std.proofs.Common.{◌∙◌, ap, ◌||◌}
use Rattle.text_view.specs.Spelled.{seen}
use Rattle.text_view.specs.Trimmed.{contains, is_marked}
use Rattle.text_view.proofs.Trims.{trimmed_same, none_marked}
use Rattle.text_view.proofs.cursor.Cursor.trim_any.Goals as goal

pub returns-then-mark : goal.returns-then-mark
returns-then-mark c =
    c.trim_marked.ensures ∙ trimmed_same c.args.side (is_marked c.mark.new.marks) (seen c.args.set.now) (seen c.args.self.now)
    (record { same = λ d. c.mark.ensures.marked c.if-mark.true d ∙ ap (λ b. b || contains (seen c.args.set.now) d) (none_marked 17408 d) })
