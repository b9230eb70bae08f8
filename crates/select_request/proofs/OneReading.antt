-- Each body has one reading.
use Rattle.std.specs.Prelude.{◌≡◌, ℕ, ◌≤◌, Bool, true, false, nat_lt, List, [], ◌∷◌, length, Option, None, Some, Result, Ok, Err, refl}
use Rattle.std.proofs.Common.{sym, ◌∙◌, ap, arith, inl, inr}
use Rattle.std.proofs.lemmas.Bool.{ltb-true}
use Rattle.std.proofs.lemmas.Bool.Decides.{nat_tests}
use Rattle.grammar_rules.specs.Readers.{Outcome, found as reached, failed}
use Rattle.grammar_rules.specs.Placed.{first_place}
use Rattle.request_elements.specs.Pieces.{Symbol, symbols_of}
use Rattle.request_elements.specs.Body.{HasElements, IsMalformed}
use Rattle.request_elements.specs.Readers.{read_body}
use Rattle.request_elements.specs.declared.found.Found.{Found}
use Rattle.request_elements.proofs.ReaderSteps.{onto_nothing}
use Rattle.request_elements.proofs.BodyAnswers.{read_whole_body, body_goes_on, body_stops, one_list, not_both, one_place}
use Rattle.select_request.specs.Checks.{first_fault}
use Rattle.select_request.specs.Request.{request_from}
use Rattle.select_request.specs.Reading.{longest_body, SpellsRequest, HasFault, HasReading, SomeReading}
use Rattle.select_request.specs.declared.fault.RequestFault.{RequestFault}
use Rattle.select_request.specs.declared.fault.RequestFaultCode.TheVariants.{MalformedXML}
use Rattle.select_request.specs.declared.request.SelectRequest.{SelectRequest}

-- ---- one at least

abbrev pub refused_at : ℕ → RequestFault
refused_at at = record { code = MalformedXML; at = at }

-- a body that is none by its grammar, as its fault
pub no_body : (body : List ℕ) (at : ℕ) → length body ≤ longest_body → IsMalformed body at → HasFault body (refused_at at)
no_body body at short malformed = inr (inl (record { short = short; code = refl; malformed = malformed }))

module _ (body : List ℕ) (short : length body ≤ longest_body) where
  by_checks : (all : List Found) → HasElements body all → (o : Option RequestFault) → first_fault all ≡ o → SomeReading body
  by_checks all elements None e =
      record { reading = Ok (request_from all); holds = record { short = short; found = all; elements = elements; passes = e; values = refl } }
  by_checks all elements (Some fault) e =
      record { reading = Err fault; holds = inr (inr (record { short = short; found = all; elements = elements; fails = e })) }

  refused : (at : ℕ) → IsMalformed body at → SomeReading body
  refused at malformed = record { reading = Err (refused_at at); holds = no_body body at short malformed }

  by_grammar : (o : Outcome Symbol ⊥ (List Found)) → read_body (symbols_of body) ≡ o → SomeReading body
  by_grammar (reached all []) e = by_checks all (read_whole_body body all e) (first_fault all) refl
  by_grammar (reached all (s ∷ left)) e =
      refused (first_place (length body) (s ∷ left)) (body_goes_on body all (s ∷ left) (onto_nothing (read_body (symbols_of body)) ∙ e) (λ l. omega (arith, l)))
  by_grammar (failed None left) e = refused (first_place (length body) left) (body_stops body left (onto_nothing (read_body (symbols_of body)) ∙ e))
  by_grammar (failed (Some k) left) e = absurd k

not_longer : (n : ℕ) → nat_lt longest_body n ≡ false → n ≤ longest_body
not_longer n h = grind (arith, nat_tests)

by_length : (body : List ℕ) (long : Bool) → nat_lt longest_body (length body) ≡ long → SomeReading body
by_length body true e =
    record { reading = Err (refused_at longest_body); holds = inl (record { long = ltb-true longest_body (length body) e; code = refl; place = refl }) }
by_length body false e = by_grammar body (not_longer (length body) e) (read_body (symbols_of body)) refl

pub some_reading : (body : List ℕ) → SomeReading body
some_reading body = by_length body (nat_lt longest_body (length body)) refl

-- ---- one at most

some_is_none : {A : Type 0} (a : A) → Some a ≡ None → ⊥
some_is_none a e = cc

some_same : {A : Type 0} (a b : A) → Some a ≡ Some b → a ≡ b
some_same a b e = cc

one_request : (body : List ℕ) (request other : SelectRequest) → SpellsRequest body request → SpellsRequest body other → request ≡ other
one_request body request other w v = w.values ∙ ap request_from (one_list body w.found v.found w.elements v.elements) ∙ sym v.values

request_or_fault : (body : List ℕ) (request : SelectRequest) (fault : RequestFault) → SpellsRequest body request → HasFault body fault → ⊥
request_or_fault body request fault w (inl t) = omega (arith, w.short, t.long)
request_or_fault body request fault w (inr (inl n)) = not_both body w.found fault.at w.elements n.malformed
request_or_fault body request fault w (inr (inr f)) =
    some_is_none fault (sym f.fails ∙ ap first_fault (one_list body f.found w.found f.elements w.elements) ∙ w.passes)

-- a fault is its kind and its place
same_fault : (fault other : RequestFault) → fault.code ≡ other.code → fault.at ≡ other.at → fault ≡ other
same_fault fault other code place = λ i. record { code = code i; at = place i }

pub one_fault : (body : List ℕ) (fault other : RequestFault) → HasFault body fault → HasFault body other → fault ≡ other
one_fault body fault other (inl t) (inl s) = same_fault fault other (t.code ∙ sym s.code) (t.place ∙ sym s.place)
one_fault body fault other (inl t) (inr (inl n)) = absurd (omega (arith, t.long, n.short))
one_fault body fault other (inl t) (inr (inr f)) = absurd (omega (arith, t.long, f.short))
one_fault body fault other (inr (inl n)) (inl t) = absurd (omega (arith, t.long, n.short))
one_fault body fault other (inr (inl n)) (inr (inl m)) =
    same_fault fault other (n.code ∙ sym m.code) (one_place body fault.at other.at n.malformed m.malformed)
one_fault body fault other (inr (inl n)) (inr (inr f)) = absurd (not_both body f.found fault.at f.elements n.malformed)
one_fault body fault other (inr (inr f)) (inl t) = absurd (omega (arith, t.long, f.short))
one_fault body fault other (inr (inr f)) (inr (inl n)) = absurd (not_both body f.found other.at f.elements n.malformed)
one_fault body fault other (inr (inr f)) (inr (inr g)) =
    some_same fault other (sym f.fails ∙ ap first_fault (one_list body f.found g.found f.elements g.elements) ∙ g.fails)

pub one_reading : (body : List ℕ) (reading other : Result SelectRequest RequestFault) → HasReading body reading → HasReading body other → reading ≡ other
one_reading body (Ok request) (Ok other) w v = ap Ok (one_request body request other w v)
one_reading body (Ok request) (Err fault) w v = absurd (request_or_fault body request fault w v)
one_reading body (Err fault) (Ok request) w v = absurd (request_or_fault body request fault v w)
one_reading body (Err fault) (Err other) w v = ap Err (one_fault body fault other w v)
