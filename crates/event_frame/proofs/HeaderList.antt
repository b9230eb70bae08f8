-- A list of headers that grows at its end.
use Rattle.std.proofs.Common.{◌≡◌, ◌≢◌, ℕ, ◌+◌, ◌-◌, ◌<◌, ◌≤◌, List, [], ◌∷◌, ◌++◌, length, take, drop, Bool, true, false, cond, Option, None, Some, refl, sym, ap, ◌∙◌, arith, append_assoc, length-append, length-take, length-drop, Bor}
use Rattle.std.proofs.Math.Seq.{take-append_seam}
use Rattle.std.proofs.lemmas.List.{take-append-drop, take_all, append-nil}
use Rattle.std.proofs.lemmas.Grind.{flat_map-append}
use Rattle.std.proofs.lemmas.Slice.Eq.{bytes_eq-Decides}
use Rattle.std.specs.Option.{option_copied, is_some}
use Rattle.std.specs.Str.{bytes_eq}
use Rattle.event_frame.specs.Message.{Header, print_header, print_headers}
use Rattle.event_frame.specs.Event.{header}
use Rattle.event_frame.specs.Reading.{IsHeader, AreHeaders, value_of}
use Rattle.event_frame.specs.HeaderFront.{HasNoHeader, SpellsHeader, EndsWell, EndsBadly}
use Rattle.event_frame.proofs.HeaderLaws.{header-unique}

-- equal texts are told
pub bytes_eq-true : (a b : List ℕ) → bytes_eq a b ≡ true → a ≡ b
bytes_eq-true a b e = (bytes_eq-Decides a b).0 e

pub bytes_eq-same : (a : List ℕ) → bytes_eq a a ≡ true
bytes_eq-same a = (bytes_eq-Decides a a).1 refl

pub bytes_eq-false : (a b : List ℕ) → bytes_eq a b ≡ false → bytes_eq b a ≡ false
bytes_eq-false a b e = told (bytes_eq b a) refl
  where
    told : (r : Bool) → bytes_eq b a ≡ r → r ≡ false
    told false h = refl
    told true h =
        let same : b ≡ a = bytes_eq-true b a h in
        absurd (let both : bytes_eq a b ≡ true = ap (λ (l : List ℕ). bytes_eq a l) same ∙ bytes_eq-same a in cc)

-- no header of this name: neither the first nor a later one
pub first_differs : (b : Bool) (v : List ℕ) (o : Option (List ℕ)) → cond b (Some v) o ≡ None → b ≡ false
first_differs true v o e = absurd (cc)
first_differs false v o e = refl

pub others_lack : (b : Bool) (v : List ℕ) (o : Option (List ℕ)) → cond b (Some v) o ≡ None → o ≡ None
others_lack true v o e = absurd (cc)
others_lack false v o e = e

value_of-more : (name : List ℕ) (headers : List Header) (h : Header) → value_of name headers ≡ None → bytes_eq h.name name ≡ false
    → value_of name (headers ++ h ∷ []) ≡ None
value_of-more name [] h none differs = ap (λ (b : Bool). cond b (Some h.value) None) differs
value_of-more name (g ∷ headers) h none differs =
    let g_differs : bytes_eq g.name name ≡ false = first_differs (bytes_eq g.name name) g.value (value_of name headers) none in
    ap (λ (b : Bool). cond b (Some g.value) (value_of name (headers ++ h ∷ []))) g_differs
    ∙ value_of-more name headers h (others_lack (bytes_eq g.name name) g.value (value_of name headers) none) differs

pub are_headers-more : (headers : List Header) (h : Header) → AreHeaders headers → IsHeader h → value_of h.name headers ≡ None
    → AreHeaders (headers ++ h ∷ [])
are_headers-more [] h are h_is new = (h_is, refl, tt)
are_headers-more (g ∷ headers) h are h_is new =
    let differs : bytes_eq g.name h.name ≡ false = first_differs (bytes_eq g.name h.name) g.value (value_of h.name headers) new in (
      are.0,
      value_of-more g.name headers h are.1 (bytes_eq-false g.name h.name differs),
      are_headers-more headers h are.2 h_is (others_lack (bytes_eq g.name h.name) g.value (value_of h.name headers) new),
    )

-- the bytes are good headers up to this place
pub record GoodUpTo (bytes : List ℕ) (at : ℕ) : Type 0 where
  pub headers : List Header
  pub are_headers : AreHeaders headers
  pub front : take at bytes ≡ print_headers headers
  pub within : at ≤ length bytes

pub good-start : (bytes : List ℕ) → GoodUpTo bytes 0
good-start bytes = record { headers = []; are_headers = tt; front = refl; within = omega arith }

pub good-end : (bytes : List ℕ) (at : ℕ) → GoodUpTo bytes at → length bytes ≤ at → EndsWell bytes
good-end bytes at good end =
    record {
      headers = good.headers;
      are_headers = good.are_headers;
      spelled = sym (take_all at bytes end) ∙ good.front;
    }

-- the place is the length of what stands before it
place : (bytes : List ℕ) (at : ℕ) (good : GoodUpTo bytes at) → at ≡ length (print_headers good.headers)
place bytes at good =
    let size : length (take at bytes) ≡ length (print_headers good.headers) = ap length good.front in
    omega (arith, length-take at bytes, good.within)

pub ends_badly : (bytes : List ℕ) (at : ℕ) (good : GoodUpTo bytes at) → at < length bytes
    → ((h : Header) (more : List ℕ) → IsHeader h → value_of h.name good.headers ≡ None → drop at bytes ≢ print_header h ++ more)
    → EndsBadly bytes at
ends_badly bytes at good inside bad =
    record {
      headers = good.headers;
      rest = drop at bytes;
      are_headers = good.are_headers;
      stops = record { some = omega (arith, length-drop at bytes); bad = bad };
      spelled = sym (take-append-drop at bytes) ∙ ap (λ (l : List ℕ). l ++ drop at bytes) good.front;
      place_is = place bytes at good;
    }

pub bad-header : (bytes rest : List ℕ) (at : ℕ) → GoodUpTo bytes at → at < length bytes → rest ≡ drop at bytes → HasNoHeader rest
    → EndsBadly bytes at
bad-header bytes rest at good inside behind none =
    ends_badly bytes at good inside (λ h more h_is new e. none h more h_is (behind ∙ e))

pub bad-again : (bytes front rest name value after : List ℕ) (at : ℕ) (found : Option (Bor (List ℕ))) → GoodUpTo bytes at → at < length bytes
    → front ≡ take at bytes → rest ≡ drop at bytes → SpellsHeader rest name value after
    → ((good : List Header) → AreHeaders good → front ≡ print_headers good → option_copied found ≡ value_of name good)
    → true ≡ is_some found → EndsBadly bytes at
bad-again bytes front rest name value after at found good inside before behind spelled looked_up some =
    let known : option_copied found ≡ value_of name good.headers = looked_up good.headers good.are_headers (before ∙ good.front) in
    ends_badly bytes at good inside
    (λ h more h_is new e.
    let u = header-unique h (header name value) more after h_is spelled.is_header (sym e ∙ sym behind ∙ spelled.spelled) in
    let none : option_copied found ≡ None = known ∙ ap (λ (n : List ℕ). value_of n good.headers) (sym u.name) ∙ new in
    both found some none)
  where
    both : (o : Option (Bor (List ℕ))) → true ≡ is_some o → option_copied o ≡ None → ⊥
    both None h e = cc
    both (Some x) h e = cc

pub good-more : (bytes front rest name value after : List ℕ) (at : ℕ) (found : Option (Bor (List ℕ))) → GoodUpTo bytes at
    → front ≡ take at bytes → rest ≡ drop at bytes → SpellsHeader rest name value after
    → ((good : List Header) → AreHeaders good → front ≡ print_headers good → option_copied found ≡ value_of name good)
    → false ≡ is_some found → GoodUpTo bytes (length bytes - length after)
good-more bytes front rest name value after at found good before behind spelled looked_up none =
    let h : Header = header name value in
    let known : option_copied found ≡ value_of name good.headers = looked_up good.headers good.are_headers (before ∙ good.front) in
    let new : value_of name good.headers ≡ None = sym known ∙ absent found none in
    let all : List ℕ = print_headers (good.headers ++ h ∷ []) in
    let printed : all ≡ print_headers good.headers ++ print_header h =
    flat_map-append print_header good.headers (h ∷ []) ∙ ap (λ (l : List ℕ). print_headers good.headers ++ l) (append-nil (print_header h)) in
    let whole : bytes ≡ all ++ after =
    sym (take-append-drop at bytes) ∙ ap (λ (l : List ℕ). l ++ drop at bytes) good.front
    ∙ ap (λ (l : List ℕ). print_headers good.headers ++ l) (sym behind ∙ spelled.spelled)
    ∙ sym (append_assoc (print_headers good.headers) (print_header h) after)
    ∙ ap (λ (l : List ℕ). l ++ after) (sym printed) in
    let size : length bytes ≡ length all + length after = ap length whole ∙ length-append all after in
    let upto : length bytes - length after ≡ length all = omega arith in
    record {
      headers = good.headers ++ h ∷ [];
      are_headers = are_headers-more good.headers h good.are_headers spelled.is_header new;
      front = ap (λ n. take n bytes) upto ∙ ap (take (length all)) whole ∙ take-append_seam all after;
      within = omega arith;
    }
  where
    absent : (o : Option (Bor (List ℕ))) → false ≡ is_some o → option_copied o ≡ None
    absent None h = refl
    absent (Some x) h = absurd (cc)

-- different texts are told
pub bytes_eq-differs : (a b : List ℕ) → false ≡ bytes_eq a b → a ≢ b
bytes_eq-differs a b e same =
    let both : bytes_eq a b ≡ true = ap (λ (l : List ℕ). bytes_eq a l) (sym same) ∙ bytes_eq-same a in
    cc
