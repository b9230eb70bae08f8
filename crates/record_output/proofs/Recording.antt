-- A record grows field by field.
use Rattle.std.specs.Prelude.{◌≡◌, ℕ, ◌||◌, List, [], ◌∷◌, ◌++◌, Result, Ok, Err, OnOk, refl}
use Rattle.std.proofs.Common.{◌∙◌, ap, ap₂, sym, subst, append_assoc, append-nil}
use Rattle.std.proofs.lemmas.Grind.{flat_map-append}
use Rattle.std.specs.List.{flat_map}
use Rattle.select_request.specs.declared.request.Output.{Output}
use Rattle.select_request.specs.declared.request.Output.TheVariants.{Csv, Json}
use Rattle.sql_value.specs.declared.value.Value.{Value}
use Rattle.sql_value.specs.declared.value.Value.TheVariants.{Missing, Null, Bool as Truth, Int, Dec, Text, Stamp, Node, Bad}
use Rattle.record_output.specs.declared.out.OutFault.{OutFault}
use Rattle.record_output.specs.Records.{Field, parts_of, json_part_of, json_member, joined, opening, separator, closing, record_text}
use Rattle.record_output.specs.Writing.{Writing, between, added, any_part, with_field, closed, anew, Holds}

-- a field gives one part at most
AtMostOne : List (List ℕ) → Type 0
AtMostOne [] = Unit {0}
AtMostOne (part ∷ []) = Unit {0}
AtMostOne (part ∷ next ∷ parts) = ⊥

one_in_json : (v : Value) (member : List ℕ) → AtMostOne (json_part_of v member)
unfolding AtMostOne
one_in_json Missing member = tt
one_in_json Null member = tt
one_in_json (Truth b) member = tt
one_in_json (Int n) member = tt
one_in_json (Dec d) member = tt
one_in_json (Text t) member = tt
one_in_json (Stamp s) member = tt
one_in_json (Node bytes) member = tt
one_in_json (Bad why) member = tt

one_part : (output : Output) (field : Field) → AtMostOne (parts_of output field)
unfolding AtMostOne
one_part (Csv csv) field = tt
one_part (Json delimiter) field = one_in_json field.value (json_member field)

-- one part more
joined_more : (output : Output) (parts : List (List ℕ)) (part : List ℕ) → joined (separator output) (parts ++ part ∷ []) ≡ joined (separator output) parts ++ (between output (any_part parts) ++ part)
joined_more output [] part = refl
joined_more output (p ∷ []) part = refl
joined_more output (p ∷ q ∷ parts) part =
    let sep = separator output in
    let front = joined sep (q ∷ parts) in
    let back = sep ++ part in
    ap (λ l. p ++ (sep ++ l)) (joined_more output (q ∷ parts) part)
    ∙ ap (λ l. p ++ l) (sym (append_assoc sep front back)) ∙ sym (append_assoc p (sep ++ front) back)

parts_more : (output : Output) (parts more : List (List ℕ)) → AtMostOne more
    → joined (separator output) parts ++ added output (any_part parts) more ≡ joined (separator output) (parts ++ more)
unfolding AtMostOne
parts_more output parts [] one = append-nil (joined (separator output) parts) ∙ ap (joined (separator output)) (sym (append-nil parts))
parts_more output parts (part ∷ []) one = sym (joined_more output parts part)
parts_more output parts (part ∷ next ∷ more) one = absurd one

any_more : (parts more : List (List ℕ)) → (any_part parts || any_part more) ≡ any_part (parts ++ more)
any_more [] more = refl
any_more (part ∷ parts) more = refl

fields_more : (output : Output) (fields : List Field) (field : Field) → flat_map (parts_of output) (fields ++ field ∷ []) ≡ flat_map (parts_of output) fields ++ parts_of output field
fields_more output fields field = flat_map-append (parts_of output) fields (field ∷ []) ∙ ap (λ l. flat_map (parts_of output) fields ++ l) (append-nil (parts_of output field))

pub holds_more : (w : Writing) (fields : List Field) (field : Field) → Holds w fields → Holds (with_field w field) (fields ++ field ∷ [])
holds_more w fields field h =
    let parts = flat_map (parts_of w.output) fields in
    let more = parts_of w.output field in
    record {
      begun =
          ap₂ (λ b s. b ++ added w.output s more) h.begun h.some ∙ append_assoc (opening w.output) (joined (separator w.output) parts) (added w.output (any_part parts) more)
          ∙ ap (λ l. opening w.output ++ l) (parts_more w.output parts more (one_part w.output field))
          ∙ ap (λ l. opening w.output ++ joined (separator w.output) l) (sym (fields_more w.output fields field));
      some =
          ap (λ s. s || any_part more) h.some ∙ any_more parts more
          ∙ ap any_part (sym (fields_more w.output fields field));
    }

pub holds_after : (r : Result (Unit {0}) OutFault) (old new : Writing) (field : Field) → OnOk r (new ≡ with_field old field)
    → (fields : List Field) → Holds old fields → OnOk r (Holds new (fields ++ field ∷ []))
holds_after (Ok x) old new field is fields h = subst (λ w. Holds w (fields ++ field ∷ [])) (sym is) (holds_more old fields field h)
holds_after (Err e) old new field is fields h = tt

pub holds_closed : (w : Writing) (fields : List Field) → Holds w fields → closed w ≡ record_text w.output fields
holds_closed w fields h = ap (λ b. b ++ closing w.output) h.begun

pub holds_anew : (w : Writing) → Holds (anew w) []
holds_anew w = record { begun = sym (append-nil (opening w.output)); some = refl }
