-- How a reply ends where its limit is reached, and goes on where it isn't.
use Rattle.std.proofs.Common.{◌≡◌, true, false, [], None, Some, refl}
use Rattle.select_reply.specs.declared.outcome.Outcome.TheVariants.{Done}
use Rattle.select_reply.specs.Begun.{Begun, is_full, begun_counts}
use Rattle.select_reply.specs.Turns.{end_events, events_if_full, outcome_if_full}

pub full_ends : (b : Begun) → is_full b.left ≡ true → events_if_full b ≡ end_events b
full_ends b full = rw full refl

pub nothing_if_on : (b : Begun) → is_full b.left ≡ false → events_if_full b ≡ []
nothing_if_on b on = rw on refl

pub none_if_on : (b : Begun) → is_full b.left ≡ false → outcome_if_full b ≡ None
none_if_on b on = rw on refl

pub done_if_full : (b : Begun) → is_full b.left ≡ true → outcome_if_full b ≡ Some (Done (begun_counts b))
done_if_full b full = rw full refl
