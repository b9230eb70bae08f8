-- What the readers' outcome says of a body, in the grammar's words.
use Rattle.std.proofs.Common.{◌≡◌, ℕ, ◌-◌, List, [], ◌∷◌, ◌++◌, length, None, Err, refl, sym, ap, ◌∙◌, subst, arith, eq-eqb, eqb-true, Bool, true, false, ◌==◌}
use Rattle.grammar_rules.specs.Readers.{Outcome, found, failed, answer}
use Rattle.grammar_rules.specs.Places.{value, refusal, Answers}
use Rattle.grammar_rules.proofs.Right.{Right}
use Rattle.grammar_rules.proofs.Answering.{answers}
use Rattle.grammar_rules.proofs.OneAnswer.{one_answer}
use Rattle.grammar_rules.proofs.Places.{place-left}
use Rattle.request_elements.specs.declared.found.Found.{Found}
use Rattle.request_elements.specs.declared.elements.Failure.{Failure}
use Rattle.request_elements.specs.declared.elements.Failure.TheVariants.{Refused, Memory}
use Rattle.request_elements.specs.declared.elements.ElementsError.TheVariants.{OutOfMemory}
use Rattle.grammar_rules.specs.Placed.{first_place}
use Rattle.request_elements.specs.Pieces.{Symbol, symbols_of, place_of}
use Rattle.request_elements.specs.Grammar.{request_body}
use Rattle.request_elements.specs.Readers.{read_body, onto, Gives}
use Rattle.request_elements.specs.Body.{HasElements, IsMalformed, IsMalformedAs, IsAt, error_of}
use Rattle.request_elements.proofs.Readings.{body_sight, reads-body}
use Rattle.request_elements.proofs.ReaderSteps.{onto_nothing}

module _ (body : List ℕ) where
  right_of : (o : Outcome Symbol ⊥ (List Found)) → read_body (symbols_of body) ≡ o → Right request_body (symbols_of body) o
  right_of o e = subst (λ q. Right request_body (symbols_of body) q) e (reads-body.right (symbols_of body))

  said_of : (o : Outcome Symbol ⊥ (List Found)) → read_body (symbols_of body) ≡ o → Answers request_body (symbols_of body) (answer (length (symbols_of body)) o)
  said_of o e = answers request_body reads-body.clear.fronts (symbols_of body) o (right_of o e)

  piece_place : (pre left : List Symbol) → symbols_of body ≡ pre ++ left → first_place (length body) left ≡ place_of body (length (symbols_of body) - length left)
  unfolding place_of
  piece_place pre left e = place-left (length body) (symbols_of body) pre left e

  -- the readers find these elements and no piece more: the body has them
  pub read_whole_body : (fs : List Found) → read_body (symbols_of body) ≡ found fs [] → HasElements body fs
  read_whole_body fs e = said_of (found fs []) e

  more_pieces : (fs : List Found) (s : Symbol) (left : List Symbol) → read_body (symbols_of body) ≡ found fs (s ∷ left) → IsMalformed body (first_place (length body) (s ∷ left))
  more_pieces fs s left e = record {
    piece = length (symbols_of body) - length (s ∷ left);
    refused = said_of (found fs (s ∷ left)) e;
    place = let w = right_of (found fs (s ∷ left)) e in piece_place w.pre (s ∷ left) w.is;
  }

  stopped : (left : List Symbol) → read_body (symbols_of body) ≡ failed None left → IsMalformed body (first_place (length body) left)
  stopped left e = record {
    piece = length (symbols_of body) - length left;
    refused = said_of (failed None left) e;
    place = let w = right_of (failed None left) e in piece_place w.pre left w.is;
  }

  -- as the code tells it
  pub body_read : (fs : List Found) (left : List Symbol) → onto [] (read_body (symbols_of body)) ≡ found fs left → length left ≡ 0 → HasElements body fs
  body_read fs [] e l = read_whole_body fs (sym (onto_nothing (read_body (symbols_of body))) ∙ e)
  body_read fs (s ∷ left) e l = absurd (omega arith)

  pub body_goes_on : (fs : List Found) (left : List Symbol) → onto [] (read_body (symbols_of body)) ≡ found fs left → (length left ≡ 0 → ⊥) → IsMalformed body (first_place (length body) left)
  body_goes_on fs [] e l = absurd (l refl)
  body_goes_on fs (s ∷ left) e l = more_pieces fs s left (sym (onto_nothing (read_body (symbols_of body))) ∙ e)

  pub body_stops : (left : List Symbol) → onto [] (read_body (symbols_of body)) ≡ failed None left → IsMalformed body (first_place (length body) left)
  body_stops left e = stopped left (sym (onto_nothing (read_body (symbols_of body))) ∙ e)

  -- the grammar says one thing of each body
  pub one_list : (a b : List Found) → HasElements body a → HasElements body b → a ≡ b
  one_list a b w v = let e = one_answer request_body body_sight reads-body.clear (symbols_of body) (value a) (value b) w v in cc

  pub not_both : (a : List Found) (at : ℕ) → HasElements body a → IsMalformed body at → ⊥
  not_both a at w v = let e = one_answer request_body body_sight reads-body.clear (symbols_of body) (value a) (refusal None v.piece) w v.refused in cc

  pub one_place : (p q : ℕ) → IsMalformed body p → IsMalformed body q → p ≡ q
  one_place p q w v =
      let e = one_answer request_body body_sight reads-body.clear (symbols_of body) (refusal None w.piece) (refusal None v.piece) w.refused v.refused in
      let k : w.piece ≡ v.piece = cc in
      w.place ∙ (ap (place_of body) k ∙ sym v.place)

-- what a failure tells, where nothing was found before and all pieces were left
module _ (B : Type 0) (body : List ℕ) (before items : List Found) (ss left : List Symbol) (none : before ≡ []) (all_left : ss ≡ symbols_of body) where
  abbrev Failed : Failure → Type 0
  Failed e = Gives {B = B} (onto before (read_body ss)) (Err e) items left

  stops_there : Failed Refused → IsMalformed body (first_place (length body) left)
  stops_there g = body_stops body left (rw (none, all_left) at g)

  pub failure_sound : (e : Failure) → Failed e → IsMalformedAs body (error_of e (first_place (length body) left))
  failure_sound Refused g = stops_there g
  failure_sound Memory g = tt

  pub failure_spelled : (e : Failure) → Failed e → (all : List Found) → HasElements body all → error_of e (first_place (length body) left) ≡ OutOfMemory
  failure_spelled Refused g all w = absurd (not_both body all (first_place (length body) left) w (stops_there g))
  failure_spelled Memory g all w = refl

  pub failure_refused : (e : Failure) → Failed e → (place : ℕ) → IsMalformed body place → IsAt place (error_of e (first_place (length body) left))
  failure_refused Refused g place w = one_place body (first_place (length body) left) place (stops_there g) w
  failure_refused Memory g place w = tt

-- what the test for pieces that are left tells
pub none_left : (ss : List Symbol) (t : Bool) → t ≡ (length ss == 0) → t ≡ true → length ss ≡ 0
none_left ss t e h = eqb-true (length ss) 0 (sym e ∙ h)

pub some_left : (ss : List Symbol) (t : Bool) → t ≡ (length ss == 0) → t ≡ false → length ss ≡ 0 → ⊥
some_left ss t e h l = let q = eq-eqb (length ss) 0 l in let p : true ≡ false = sym q ∙ (sym e ∙ h) in cc
