use Rattle.std.proofs.Common.{◌∷◌, [], Ok, refl}
use Rattle.record_yields.specs.Names.{name_at}
use Rattle.record_yields.proofs.Selecting.{none_passed, settings_begun, no_more, settings_stay, step_ok, step_fault, step_over, end_yields}
use Rattle.record_yields.proofs.whole.write_alone.Goals as goal

pub returns-in-Ok-clause-yields : goal.returns-in-Ok-clause-yields
returns-in-Ok-clause-yields c =
    let v = c.args.value.now in
    let begun = settings_begun c.args.out.now c.begin.new.self c.begin.ensures.value in
    let passed =
    step_ok (name_at []) (Ok v ∷ []) (Ok v ∷ []) 0 c.begin.new.self (none_passed (name_at []) (Ok v ∷ []) c.begin.new.self c.begin.ensures.holds)
    c.add_named.new.out (Ok v) [] refl _ refl c.in-Ok.field-0 c.in-Ok.ensures in
    end_yields (name_at []) (Ok v ∷ []) [] 1 c.add_named.new.out passed refl c.args.out.now
    (settings_stay c.args.out.now c.begin.new.self c.add_named.new.out begun c.add_named.ensures.settings) _ c.finish.ensures

pub returns-in-Err-Value-clause-yields : goal.returns-in-Err-Value-clause-yields
returns-in-Err-Value-clause-yields c =
    let v = c.args.value.now in
    step_fault (name_at []) (Ok v ∷ []) (Ok v ∷ []) 0 c.begin.new.self (none_passed (name_at []) (Ok v ∷ []) c.begin.new.self c.begin.ensures.holds)
    c.add_named.new.out (Ok v) [] refl _ refl
    c.in-Err-Value.field-0 c.in-Err-Value.fault c.in-Err-Value.field-0-is c.in-Err-Value.ensures
    c.args.out.now.output c.args.out.now.longest c.value_code.result c.value_code.ensures

pub returns-in-Err-OverMaxRecordSize-clause-yields : goal.returns-in-Err-OverMaxRecordSize-clause-yields
returns-in-Err-OverMaxRecordSize-clause-yields c =
    let v = c.args.value.now in
    let begun = settings_begun c.args.out.now c.begin.new.self c.begin.ensures.value in
    step_over (name_at []) (Ok v ∷ []) (Ok v ∷ []) 0 c.begin.new.self (none_passed (name_at []) (Ok v ∷ []) c.begin.new.self c.begin.ensures.holds)
    c.add_named.new.out (Ok v) [] refl _ refl
    c.in-Err-OverMaxRecordSize.field-0 c.in-Err-OverMaxRecordSize.field-0-is c.in-Err-OverMaxRecordSize.ensures
    c.args.out.now begun _ no_more
