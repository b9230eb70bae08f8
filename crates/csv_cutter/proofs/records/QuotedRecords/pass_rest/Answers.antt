use Rattle.std.proofs.Common.{◌≡◌, ◌+◌, ◌∙◌, sym, subst, refl, ap, length}
use Rattle.select_ports.specs.Stored.{Opened}
use Rattle.csv_cutter.specs.declared.dialect.Dialect.{Dialect}
use Rattle.csv_cutter.specs.declared.looks.Ahead.{Ahead}
use Rattle.csv_cutter.specs.Looks.{Stays, IsLook, Ends}
use Rattle.csv_cutter.specs.Records.{delimiter_of}
use Rattle.csv_cutter.proofs.Characters.{clash}
use Rattle.csv_cutter.proofs.Taking.{settle_rest, rest_delimiter, rest_object, records_at}
use Rattle.csv_cutter.proofs.records.QuotedRecords.pass_rest.Goals as goal

pub returns-in-Delimiter-clause-window : goal.returns-in-Delimiter-clause-window
returns-in-Delimiter-clause-window g c =
    let at = c.looks.invariant in
    let d = c.args.self.now.dialect in
    let x = c.look_ahead.new.window in
    let look = c.in_ok-look.look in
    let S : Opened → Type 0 = λ o. Stays o c.pass.new.self x (g.S.Store.taken c.looks.store) (g.S.Store.taken c.look_ahead.new.store) in
    let L : Dialect → Type 0 = λ y. IsLook y x 0 c.looks.state look in
    let is = subst L at.dialect c.in_ok-look.ensures.look in
    let E : Ahead → Type 0 = Ends d x 0 look.state look.at in
    let ends = subst E c.in-Delimiter.is is.ends in
    let width : c.width.result ≡ length (delimiter_of d) = c.width.ensures ∙ ap (λ y. length (delimiter_of y)) at.dialect in
    settle_rest _ c.args.self.now _ c.args.window.now c.looks.window c.pass.new.self x c.pass-in-Delimiter.new.self c.args.state c.args.n c.looks.state c.looks.n (look.at + c.width.result) _ _ _
    (record { before_it = at.moves; passing = at.passing; passes = c.pass.ensures; looks = subst S at.current c.look_ahead.ensures.window })
    c.pass-in-Delimiter.ensures c.requires.ready.limit c.requires.rest at.dialect at.limit refl
    (λ e. clash (sym (c.in_ok-look.ensures.stays_failed (c.pass.ensures.failed ∙ at.failed ∙ e)))) c.in_ok-look.ensures.failed
    (λ object h cuts r. records_at d object _ _ cuts (ap (λ n. x.place + (look.at + n)) (sym width)) (rest_delimiter d x c.looks.state look object cuts is ends h r))

pub returns-in-ObjectEnd-clause-window : goal.returns-in-ObjectEnd-clause-window
returns-in-ObjectEnd-clause-window g c =
    let at = c.looks.invariant in
    let d = c.args.self.now.dialect in
    let x = c.look_ahead.new.window in
    let look = c.in_ok-look.look in
    let S : Opened → Type 0 = λ o. Stays o c.pass.new.self x (g.S.Store.taken c.looks.store) (g.S.Store.taken c.look_ahead.new.store) in
    let L : Dialect → Type 0 = λ y. IsLook y x 0 c.looks.state look in
    let is = subst L at.dialect c.in_ok-look.ensures.look in
    let E : Ahead → Type 0 = Ends d x 0 look.state look.at in
    let ends = subst E c.in-ObjectEnd.is is.ends in
    settle_rest _ c.args.self.now _ c.args.window.now c.looks.window c.pass.new.self x c.pass-in-ObjectEnd.new.self c.args.state c.args.n c.looks.state c.looks.n look.at _ _ _
    (record { before_it = at.moves; passing = at.passing; passes = c.pass.ensures; looks = subst S at.current c.look_ahead.ensures.window })
    c.pass-in-ObjectEnd.ensures c.requires.ready.limit c.requires.rest at.dialect at.limit refl
    (λ e. clash (sym (c.in_ok-look.ensures.stays_failed (c.pass.ensures.failed ∙ at.failed ∙ e)))) c.in_ok-look.ensures.failed
    (λ object h cuts r. rest_object d x c.looks.state look object cuts is ends h r)
