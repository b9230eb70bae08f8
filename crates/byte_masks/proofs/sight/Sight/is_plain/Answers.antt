use Rattle.std.proofs.Common.{refl}
use Rattle.byte_masks.proofs.Plain.{IsPlain-unmarked, quotes_of_plain, high_of_plain}
use Rattle.byte_masks.proofs.sight.Sight.is_plain.Goals as goal

pub returns-then-self-ne0 : goal.returns-then-self-ne0
returns-then-self-ne0 c field quote bytes sees =
    (λ h. absurd (cc), λ plain. absurd (c.if-self-ne0.true (quotes_of_plain quote bytes c.args.self.now.quotes sees.quotes plain)))

pub returns-then-self-ne0-2 : goal.returns-then-self-ne0-2
returns-then-self-ne0-2 c field quote bytes sees =
    (λ h. absurd (cc), λ plain. absurd (c.if-self-ne0-2.true (high_of_plain quote bytes c.args.self.now.high sees.high plain)))

pub returns : goal.returns
returns c field quote bytes sees = (
  λ _. IsPlain-unmarked quote bytes c.args.self.now.quotes c.args.self.now.high sees.quotes sees.high c.if-self-ne0.false c.if-self-ne0-2.false,
  λ _. refl,
)
