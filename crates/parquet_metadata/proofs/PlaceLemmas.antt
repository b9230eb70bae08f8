-- A call that meets a fault leaves the reader at the fault's place.
use Rattle.std.proofs.Common.{◌≡◌, ◌≤◌, ℕ, ℤ, List, Option, None, Some, Result, Ok, Err, ap, arith}
use Rattle.thrift_compact.specs.declared.faults.ThriftFault.{ThriftFault}
use Rattle.thrift_compact.specs.declared.kinds.Kind.{Kind}
use Rattle.thrift_compact.specs.declared.stack.Open.{Open}
use Rattle.thrift_compact.specs.Items.{Item}
use Rattle.thrift_compact.specs.Runs.{placed}
use Rattle.thrift_compact.specs.States.{State, answer, faulted, int_answer, bytes_answer, list_answer, field_answer, enter_answer, given_bytes}

same_fault : {B : Type 0} (r : Result B ThriftFault) (f g : ThriftFault) → r ≡ Err f → r ≡ Err g → f ≡ g
same_fault r f g a b = cc

at_fault : {A B : Type 0} (o : Option ThriftFault) (s : State) (value : A → B) (nest : A → List Open) (item : Item A) (r : Result B ThriftFault) (new : State) (f : ThriftFault) → o ≡ None → (r, new) ≡ answer o s value nest item → r ≡ Err f → f.at ≤ new.at
at_fault (Some g) s value nest item r new f none is err = absurd (cc)
at_fault None s value nest (Ok x) r new f none is err =
    let whole : r ≡ Ok (value x.0) = ap (λ p. p.0) is in
    absurd (cc)
at_fault None s value nest (Err g) r new f none is err =
    let fault_is : r ≡ Err (placed s.at g) = ap (λ p. p.0) is in
    let new_is : new ≡ faulted s (placed s.at g) = ap (λ p. p.1) is in
    let same = same_fault r f (placed s.at g) err fault_is in
    omega (arith, ap (λ (f : ThriftFault). f.at) same, ap (λ (s : State). s.at) new_is)

pub int_place : (kind : Kind) (s new : State) (r : Result ℤ ThriftFault) (f : ThriftFault) → s.fault ≡ None → (r, new) ≡ int_answer kind s → r ≡ Err f → f.at ≤ new.at
unfolding int_answer
int_place kind s new r f none is err = at_fault s.fault s _ _ _ r new f none is err

pub bytes_place : {R : Type 0} (now : R → List ℕ) (s new : State) (r : Result R ThriftFault) (f : ThriftFault) → s.fault ≡ None → (given_bytes now r, new) ≡ bytes_answer s → r ≡ Err f → f.at ≤ new.at
unfolding bytes_answer
bytes_place now s new r f none is err =
    at_fault s.fault s _ _ _ (given_bytes now r) new f none is (ap (given_bytes now) err)

pub list_place : (s new : State) (r : Result (Kind × ℕ) ThriftFault) (f : ThriftFault) → s.fault ≡ None → (r, new) ≡ list_answer s → r ≡ Err f → f.at ≤ new.at
unfolding list_answer
list_place s new r f none is err = at_fault s.fault s _ _ _ r new f none is err

pub field_place : (s new : State) (r : Result (Option (ℤ × Kind)) ThriftFault) (f : ThriftFault) → s.fault ≡ None → (r, new) ≡ field_answer s → r ≡ Err f → f.at ≤ new.at
unfolding field_answer
field_place s new r f none is err = at_fault s.fault s _ _ _ r new f none is err

pub enter_place : (s new : State) (r : Result (Unit {0}) ThriftFault) (f : ThriftFault) → s.fault ≡ None → (r, new) ≡ enter_answer s → r ≡ Err f → f.at ≤ new.at
unfolding enter_answer
enter_place s new r f none is err = at_fault s.fault s _ _ _ r new f none is err
