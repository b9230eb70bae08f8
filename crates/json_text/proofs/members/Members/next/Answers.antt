use Rattle.json_text.proofs.Membered.{next_member}
use Rattle.json_text.proofs.members.Members.next.Goals as goal

pub returns-in-Some-clause-member : goal.returns-in-Some-clause-member
returns-in-Some-clause-member c = λ items x. next_member items _ _ _ _ _ (c.in-Some.ensures.member items x) c.json.ensures.value
