use Rattle.std.proofs.Common.{◌∷◌, ◌≡◌, length, pos, ap, ◌∙◌, arith}
use Rattle.thrift_compact.specs.declared.stack.Open.TheVariants.{Fields}
use Rattle.thrift_compact.specs.States.{State}
use Rattle.thrift_compact.proofs.TreeCalls.{enter_ok, enter_err}
use Rattle.thrift_compact.proofs.reader.Reader.enter.Goals as goal

pub returns-clause-seen : goal.returns-clause-seen
returns-clause-seen c =
    let n : c.len.result ≡ length c.args.self.now.nesting = c.len.ensures.len ∙ ap (λ s. length s.nesting) c.self.view_is in
    enter_ok c.args.self.now _ (omega arith) (rw c.push.ensures (ap {A = State} {B = State} (λ s. record s { nesting = Fields (pos 0) ∷ s.nesting }) c.self.view_is))

pub returns-then-len-ge-MOST_OPEN-clause-seen : goal.returns-then-len-ge-MOST_OPEN-clause-seen
returns-then-len-ge-MOST_OPEN-clause-seen c =
    let n : c.len.result ≡ length c.args.self.now.nesting = c.len.ensures.len ∙ ap (λ s. length s.nesting) c.self.view_is in
    λ d answer at. rw (c.fail.ensures.fault, c.fault_at.ensures) (enter_err c.args.self.now _ (omega arith) d answer at)
