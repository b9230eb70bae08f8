use Rattle.std.proofs.Common.{refl, sym, ◌∙◌}
use Rattle.csv_cutter.proofs.Looking.{at_ok, at_err}
use Rattle.csv_cutter.proofs.Loans.{lent_ok, lent_err, lent_within}
use Rattle.csv_cutter.proofs.lending.lend.Goals as goal

pub returns-in-Ok : goal.returns-in-Ok
returns-in-Ok g c =
    let looks = c.ahead.follows.holds-at-none.0 in (
      (
        refl,
        (λ _. tt),
        lent_ok _ c.args.cutter.now _ c.args.window.now _ c.args.len c.args.behind c.place-start.result c.in-Ok.bytes.now c.content-bytes.result.now _ _ _
            c.requires.sound c.requires.ready c.requires.shown c.requires.short looks (at_ok _ _ _ _ c.in-Ok.is c.ahead.follows.holds-at-none.1)
            refl refl refl (λ object same. (c.place-start.ensures.value ∙ sym looks.place, same, refl)) c.content-bytes.ensures (c.place-start.ensures.value ∙ sym looks.place),
      ),
      record {
        after = tt;
        within = lent_within _ c.args.len c.args.window.now.longest _ c.content-bytes.result.now c.content-bytes.ensures c.requires.within;
        stays_failed = c.in-Ok.ensures.stays_failed;
        cause = c.in-Ok.ensures.cause;
        faults = c.in-Ok.ensures.faults;
        held = c.in-Ok.ensures.held;
        current = c.in-Ok.ensures.current;
        absent = c.in-Ok.ensures.absent;
      },
    )

pub returns-in-Err : goal.returns-in-Err
returns-in-Err g c = (
  (
    refl,
    (λ _. tt),
    lent_err _ c.args.cutter.now c.args.window.now _ c.args.len c.args.behind c.in-Err.failed _ _
        c.requires.sound c.requires.ready c.requires.settled c.requires.short c.ahead.follows.holds-at-none.0 (at_err _ _ _ _ c.in-Err.is c.ahead.follows.holds-at-none.1),
  ),
  record {
    after = tt;
    within = tt;
    stays_failed = c.in-Err.ensures.stays_failed;
    cause = c.in-Err.ensures.cause;
    faults = c.in-Err.ensures.faults;
    held = c.in-Err.ensures.held;
    current = c.in-Err.ensures.current;
    absent = c.in-Err.ensures.absent;
  },
)
