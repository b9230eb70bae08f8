-- One value more in a record.
use Rattle.std.specs.Prelude.{◌≡◌, ℕ, List, [], ◌∷◌, ◌++◌, Result, Ok, Err, OnOk, OnErr, refl}
use Rattle.std.proofs.Common.{ap, sym, subst}
use Rattle.sql_timestamp.specs.declared.fault.ValueFault.{ValueFault}
use Rattle.sql_value.specs.declared.value.Value.{Value}
use Rattle.sql_value.specs.Outcomes.{Outcome}
use Rattle.record_output.specs.declared.out.OutFault.{OutFault}
use Rattle.record_output.specs.declared.out.OutFault.TheVariants as fault
use Rattle.record_output.specs.Records.{Field}
use Rattle.record_output.specs.Writing.{Writing, verdict, with_field, HasSettings, Holds}
use Rattle.record_yields.specs.Projections.{named}
use Rattle.record_yields.specs.Adding.{Adds}

settings_of : (r : Result (Unit {0}) OutFault) (old new : Writing) (field : Field) → OnOk r (new ≡ with_field old field) → OnErr r (new ≡ old) → HasSettings old new
settings_of (Ok x) old new field ok err = record { output = ap (λ w. w.output) ok; longest = ap (λ w. w.longest) ok }
settings_of (Err e) old new field ok err = record { output = ap (λ w. w.output) err; longest = ap (λ w. w.longest) err }

pub field_added : (r : Result (Unit {0}) OutFault) (old new : Writing) (name : List ℕ) (v : Value) → r ≡ verdict old (named name v)
    → OnOk r (new ≡ with_field old (named name v)) → OnErr r (new ≡ old)
    → ((fields : List Field) → Holds old fields → OnOk r (Holds new (fields ++ named name v ∷ []))) → Adds old new name (Ok v) r
field_added r old new name v said ok err holds = record { verdict = said; holds = holds; settings = settings_of r old new (named name v) ok err }

pub meaning_added : (r : Result (Unit {0}) OutFault) (old new : Writing) (name : List ℕ) (v : Value) (o : Outcome) → o ≡ Ok v → Adds old new name (Ok v) r → Adds old new name o r
meaning_added r old new name v o is adds = subst (λ p. Adds old new name p r) (sym is) adds

pub meaning_faulty : (old : Writing) (name : List ℕ) (o : Outcome) (why : ValueFault) → o ≡ Err why → Adds old old name o (Err (fault.Value why))
meaning_faulty old name o why is =
    subst (λ p. Adds old old name p (Err (fault.Value why))) (sym is)
    (record { verdict = refl; holds = λ fields h. tt; settings = record { output = refl; longest = refl } })
