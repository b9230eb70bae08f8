-- The clauses of the calls, from the laws on what they read.
use Rattle.std.proofs.Common.{◌≡◌, ℕ, ◌+◌, List, ◌++◌, length, drop, take, Result, Ok, Err, IfOk, OnErr, refl, ap, sym, ◌∙◌}
use Rattle.std.proofs.lemmas.List.{take-append-drop, drop-drop}
use Rattle.thrift_compact.specs.declared.faults.ThriftFault.{ThriftFault}
use Rattle.thrift_compact.specs.Items.{Item}
use Rattle.thrift_compact.specs.declared.kinds.Kind.{Kind}
use Rattle.thrift_compact.specs.Opens.{in_members}
use Rattle.thrift_compact.specs.Varints.{IsBytes}
use Rattle.thrift_compact.specs.Grammar.{NoFront, print_value}
use Rattle.thrift_compact.specs.States.{State, left, Takes, SpellsValue, SkipsTo}
use Rattle.thrift_compact.proofs.RunLaws.{passes_found, passes_one, passes_only}

-- what is read is spelled
pub found_by : {X : Type 0} (r item : Item X) (Spells : X → List ℕ → Type 0) (bytes : List ℕ) → r ≡ item → ((x : X) (n : ℕ) → item ≡ Ok (x, n) → Spells x (take n bytes)) → IfOk r (λ x. Spells x.0 (take x.1 bytes))
found_by (Ok x) item Spells bytes e found = found x.0 x.1 (sym e)
found_by (Err f) item Spells bytes e found = tt

-- what is refused is spelled by no front
pub no_front : {X : Type 0} (read : List ℕ → Item X) (Spells : X → List ℕ → Type 0) (bytes : List ℕ) (f : ThriftFault) → Err f ≡ read bytes → ((x : X) (text rest : List ℕ) → Spells x text → read (text ++ rest) ≡ Ok (x, length text)) → (x : X) → NoFront (Spells x) bytes
no_front read Spells bytes f e only x text rest s front =
    let both = e ∙ ap read front ∙ only x text rest s in cc

pub refused_by : {X : Type 0} (r : Item X) (read : List ℕ → Item X) (Spells : X → List ℕ → Type 0) (bytes : List ℕ) → r ≡ read bytes → ((x : X) (text rest : List ℕ) → Spells x text → read (text ++ rest) ≡ Ok (x, length text)) → OnErr r ((x : X) → NoFront (Spells x) bytes)
refused_by (Ok x) read Spells bytes e only = tt
refused_by (Err f) read Spells bytes e only = no_front read Spells bytes f e only

-- the reader has moved behind what is spelled
pub takes_by : (Spells : List ℕ → Type 0) (old new : State) (rest : List ℕ) (taken : ℕ) → rest ≡ left old → Spells (take taken rest) → new.bytes ≡ old.bytes → new.at ≡ old.at + taken → Takes Spells old new
takes_by Spells old new rest taken here s same place =
    record {
      text = take taken rest;
      spelled = s;
      front = sym here ∙ sym (take-append-drop taken rest) ∙ ap (λ z. take taken rest ++ z) (ap (λ z. drop taken z) here ∙ drop-drop taken old.at old.bytes ∙ ap (λ z. drop z old.bytes) (sym place) ∙ ap (λ z. drop new.at z) (sym same));
    }

-- a value was passed over
pub skip_takes : (kind : Kind) (old new : State) (end : ℕ) → IsBytes old.bytes → SkipsTo kind old (Ok end) → new.bytes ≡ old.bytes → new.at ≡ end → Takes (SpellsValue kind old) old new
skip_takes kind old new end fits to same place =
    let p = passes_found (length old.nesting) (in_members old.nesting) kind old.bytes old.at end fits to in
    record {
      text = print_value p.0;
      spelled = (p.0, p.1, refl);
      front = p.2 ∙ ap (λ z. print_value p.0 ++ z) (ap (λ z. drop z old.bytes) (sym place) ∙ ap (λ z. drop new.at z) (sym same));
    }

-- no value could be passed over
pub skip_refuses : (kind : Kind) (s : State) (f : ThriftFault) → SkipsTo kind s (Err f) → NoFront (SpellsValue kind s) (left s)
skip_refuses kind s f to text rest spelled front =
    let whole : drop s.at s.bytes ≡ print_value spelled.0 ++ rest = front ∙ ap (λ z. z ++ rest) spelled.2 in
    let through = passes_only (length s.nesting) (in_members s.nesting) kind s.bytes s.at spelled.0 rest spelled.1 whole in
    let one = passes_one (length s.nesting) (in_members s.nesting) kind s.bytes s.at (Err f) (Ok (s.at + length (print_value spelled.0))) to through in
    cc

-- there is no other answer
pub skip_one : (kind : Kind) (s : State) (a b : Result ℕ ThriftFault) → SkipsTo kind s a → SkipsTo kind s b → a ≡ b
skip_one kind s a b p q = passes_one (length s.nesting) (in_members s.nesting) kind s.bytes s.at a b p q
