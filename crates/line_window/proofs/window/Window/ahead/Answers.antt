use Rattle.std.proofs.Common.{◌≡◌, true, false, refl, sym, ap, ◌∙◌}
use Rattle.std.specs.Prelude.{is_err}
use Rattle.line_window.specs.Sliding.{View}
use Rattle.line_window.proofs.TurnLaws.{is_ahead}
use Rattle.line_window.proofs.window.Window.ahead.Goals as goal

pub returns : goal.returns
returns g c =
    let works : c.args.self.now.failed ≡ false = ap (λ (v : View). v.failed) (sym c.self.view_is) ∙ c.if-self.false in
    let filled : c.fill.new.self.failed ≡ false = c.fill.ensures.failed ∙ ap is_err c.in_ok-fill.was in (
      (
        refl,
        λ _. tt,
        (c.fill.ensures.window, is_ahead c.fill.new.self c.args.want c.bytes_ahead.result.now c.bytes_ahead.ensures.sound filled c.bytes_ahead.ensures.value (c.in_ok-fill.ensures.enough (refl {a = true}))),
      ),
      record {
        after = tt;
        stays_failed = λ failed. sym works ∙ failed;
        cause = tt;
        faults = c.fill.ensures.faults.kept;
        held = c.fill.ensures.held;
        current = c.fill.ensures.current;
        absent = c.fill.ensures.absent;
      },
    )
