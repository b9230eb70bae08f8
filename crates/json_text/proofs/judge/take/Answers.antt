use Rattle.std.proofs.Common.{ap, ◌∙◌, ◌+◌, drop, true, false, ◌∷◌, refl}
use Rattle.json_text.specs.Machine.{verdict, opened, around_of}
use Rattle.json_text.specs.Judged.{mode_of}
use Rattle.json_text.specs.declared.machine.Mode.TheVariants.{ElementDue, FirstNameDue, Ended}
use Rattle.json_text.specs.declared.machine.Move.TheVariants.{To, OpenArray, OpenObject, Close, Refuse}
use Rattle.json_text.proofs.Reading.{verdict_move}
use Rattle.json_text.proofs.judge.take.Goals as goal

pub returns-in-To-clause-value : goal.returns-in-To-clause-value
returns-in-To-clause-value c =
    c.finish.ensures.value.same c.args.nest.now ∙ verdict_move c.args.bytes.now (mode_of c.args.due) c.args.nest.now c.args.at (around_of c.args.nest.now) c.step_of.result (To c.in-To.mode) c.requires refl c.step_of.ensures c.in-To.is

pub returns-then-open_array-clause-value : goal.returns-then-open_array-clause-value
returns-then-open_array-clause-value c =
    ap (λ n. verdict (drop (c.args.at + 1) c.args.bytes.now) ElementDue n (c.args.at + 1)) c.if-open_array.ensures.opened
    ∙ ap (λ b. opened b (verdict (drop (c.args.at + 1) c.args.bytes.now) ElementDue (true ∷ c.args.nest.now) (c.args.at + 1)) c.args.at) c.if-open_array.ensures.room
    ∙ verdict_move c.args.bytes.now (mode_of c.args.due) c.args.nest.now c.args.at (around_of c.args.nest.now) c.step_of.result OpenArray c.requires refl c.step_of.ensures c.in-OpenArray.is

pub returns-else-open_array-clause-value : goal.returns-else-open_array-clause-value
returns-else-open_array-clause-value c =
    ap (λ b. opened b (verdict (drop (c.args.at + 1) c.args.bytes.now) ElementDue (true ∷ c.args.nest.now) (c.args.at + 1)) c.args.at) c.if-open_array.ensures.room
    ∙ verdict_move c.args.bytes.now (mode_of c.args.due) c.args.nest.now c.args.at (around_of c.args.nest.now) c.step_of.result OpenArray c.requires refl c.step_of.ensures c.in-OpenArray.is

pub returns-then-open_object-clause-value : goal.returns-then-open_object-clause-value
returns-then-open_object-clause-value c =
    ap (λ n. verdict (drop (c.args.at + 1) c.args.bytes.now) FirstNameDue n (c.args.at + 1)) c.if-open_object.ensures.opened
    ∙ ap (λ b. opened b (verdict (drop (c.args.at + 1) c.args.bytes.now) FirstNameDue (false ∷ c.args.nest.now) (c.args.at + 1)) c.args.at) c.if-open_object.ensures.room
    ∙ verdict_move c.args.bytes.now (mode_of c.args.due) c.args.nest.now c.args.at (around_of c.args.nest.now) c.step_of.result OpenObject c.requires refl c.step_of.ensures c.in-OpenObject.is

pub returns-else-open_object-clause-value : goal.returns-else-open_object-clause-value
returns-else-open_object-clause-value c =
    ap (λ b. opened b (verdict (drop (c.args.at + 1) c.args.bytes.now) FirstNameDue (false ∷ c.args.nest.now) (c.args.at + 1)) c.args.at) c.if-open_object.ensures.room
    ∙ verdict_move c.args.bytes.now (mode_of c.args.due) c.args.nest.now c.args.at (around_of c.args.nest.now) c.step_of.result OpenObject c.requires refl c.step_of.ensures c.in-OpenObject.is

pub returns-in-Close-clause-value : goal.returns-in-Close-clause-value
returns-in-Close-clause-value c =
    ap (λ n. verdict (drop (c.args.at + 1) c.args.bytes.now) Ended n (c.args.at + 1)) c.close.ensures ∙ verdict_move c.args.bytes.now (mode_of c.args.due) c.args.nest.now c.args.at (around_of c.args.nest.now) c.step_of.result Close c.requires refl c.step_of.ensures c.in-Close.is

pub returns-in-Refuse-clause-value : goal.returns-in-Refuse-clause-value
returns-in-Refuse-clause-value c =
    verdict_move c.args.bytes.now (mode_of c.args.due) c.args.nest.now c.args.at (around_of c.args.nest.now) c.step_of.result Refuse c.requires refl c.step_of.ensures c.in-Refuse.is
