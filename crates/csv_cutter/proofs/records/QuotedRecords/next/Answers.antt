use Rattle.std.proofs.Common.{refl, sym, subst, Ok, ◌∙◌, arith}
use Rattle.select_ports.specs.Stored.{Opened}
use Rattle.csv_cutter.specs.declared.looks.Found.{Found}
use Rattle.csv_cutter.specs.Cutter.{FindsNext, LendsRecord}
use Rattle.csv_cutter.proofs.Characters.{clash}
use Rattle.csv_cutter.proofs.Taking.{took_end, took_long, took_record, later_cause, within_same}
use Rattle.csv_cutter.proofs.records.QuotedRecords.next.Goals as goal

pub returns-in-Past : goal.returns-in-Past
returns-in-Past g c =
    let F : Found → Type 0 = λ r. FindsNext (g.S.Store.current c.args.store.now) c.args.cutter.now c.find.new.self c.args.window.now c.find.new.window (Ok r) (g.S.Store.taken c.args.store.now) (g.S.Store.taken c.find.new.store) in
    ((refl, (λ _. tt), took_end _ c.args.cutter.now c.find.new.self c.args.window.now c.find.new.window _ _ (subst F c.in-Past.is c.in_ok-find.ensures.window)), record { after = tt; within = tt; stays_failed = c.in_ok-find.ensures.stays_failed; cause = tt; faults = c.in_ok-find.ensures.faults; held = c.in_ok-find.ensures.held; current = c.in_ok-find.ensures.current; absent = c.in_ok-find.ensures.absent })

pub returns-in-Long : goal.returns-in-Long
returns-in-Long g c =
    let F : Found → Type 0 = λ r. FindsNext (g.S.Store.current c.args.store.now) c.args.cutter.now c.find.new.self c.args.window.now c.find.new.window (Ok r) (g.S.Store.taken c.args.store.now) (g.S.Store.taken c.find.new.store) in (
      (
        refl,
        (λ _. tt),
        took_long _ c.args.cutter.now c.find.new.self _ c.args.window.now c.find.new.window c.in-Long.state c.in-Long.at c.place-start.result _ _ c.find.new.self.valid
            (subst F c.in-Long.is c.in_ok-find.ensures.window) c.place-start.ensures.value refl refl refl,
      ),
      record { after = tt; within = tt; stays_failed = c.in_ok-find.ensures.stays_failed; cause = tt; faults = c.in_ok-find.ensures.faults; held = c.in_ok-find.ensures.held; current = c.in_ok-find.ensures.current; absent = c.in_ok-find.ensures.absent },
    )

pub returns-in-Record : goal.returns-in-Record
returns-in-Record g c =
    let F : Found → Type 0 = λ r. FindsNext (g.S.Store.current c.args.store.now) c.args.cutter.now c.find.new.self c.args.window.now c.find.new.window (Ok r) (g.S.Store.taken c.args.store.now) (g.S.Store.taken c.find.new.store) in
    let L : Opened → Type 0 = λ o. LendsRecord o c.find.new.self c.lend.new.cutter c.find.new.window c.lend.follows.lender-at-none c.in-Record.len c.in-Record.behind c.lend.result (g.S.Store.taken c.find.new.store) (g.S.Store.taken c.lend.new.store) in (
      (
        refl,
        (λ _. tt),
        took_record _ c.args.cutter.now c.find.new.self c.lend.new.cutter c.args.window.now c.find.new.window _ c.in-Record.len c.in-Record.behind c.lend.result _ _ _ c.find.new.self.valid
            (subst F c.in-Record.is c.in_ok-find.ensures.window) (subst L c.in_ok-find.ensures.current c.lend.follows.holds-at-none),
      ),
      record {
        after = tt;
        within = within_same c.lend.result _ _ c.in_ok-find.ensures.window.moves.rules.longest c.lend.ensures.within;
        stays_failed = λ e. absurd (clash (sym (c.in_ok-find.ensures.stays_failed e)));
        cause = later_cause c.lend.result _ _ _ _ _ c.in_ok-find.ensures.window.failed c.in_ok-find.ensures.faults c.lend.ensures.cause;
        faults = omega (arith, c.in_ok-find.ensures.faults, c.lend.ensures.faults);
        held = c.lend.ensures.held ∙ c.in_ok-find.ensures.held;
        current = c.lend.ensures.current ∙ c.in_ok-find.ensures.current;
        absent = c.lend.ensures.absent ∙ c.in_ok-find.ensures.absent;
      },
    )
