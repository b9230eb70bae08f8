-- What the kept bytes of a window say of the object.
use Rattle.std.proofs.Common.{◌≡◌, ℕ, zero, suc, ◌+◌, ◌-◌, ◌<◌, ◌≤◌, false, List, [], ◌∷◌, ◌++◌, length, take, drop, refl, sym, ap, ◌∙◌, subst, arith, length-drop, length-append}
use Rattle.std.proofs.lemmas.List.{drop-take, drop-drop, take_rest}
use Rattle.line_window.specs.Starts.{is_start}
use Rattle.line_window.specs.Delimiters.{StandsAt, HasNone}
use Rattle.line_window.specs.Cuts.{cuts}
use Rattle.line_window.specs.Sliding.{View, Holds, IsSound, SameRules, kept_from, ahead, left}
use Rattle.line_window.proofs.DelimiterLaws.{front_piece, stands_within, stands_behind, stands_of_behind, stands_of_front}
use Rattle.line_window.proofs.StartLaws.{no_start, cuts_passed}

take_none : (n : ℕ) → take {A = ℕ} n [] ≡ []
take_none zero = refl
take_none (suc n) = refl

-- a front in two parts
pub take-add : (m n : ℕ) (xs : List ℕ) → take (m + n) xs ≡ take m xs ++ take n (drop m xs)
take-add zero n xs =
    let e : 0 + n ≡ n = omega arith in
    rw e refl
take-add (suc m) n [] =
    let e : suc m + n ≡ suc (m + n) = omega arith in
    rw e (sym (take_none n))
take-add (suc m) n (x ∷ xs) =
    let e : suc m + n ≡ suc (m + n) = omega arith in
    rw e (ap (λ l. x ∷ l) (take-add m n xs))

-- the object's next bytes are kept too
pub holds_grown : (object : List ℕ) (old new : View) (piece : List ℕ) → kept_from old + length old.kept ≡ old.upto → new.size ≡ old.size
    → kept_from new ≡ kept_from old → new.kept ≡ old.kept ++ piece → piece ≡ take (length piece) (drop old.upto object)
    → Holds object old → Holds object new
holds_grown object old new piece upto size from kept read holds =
    let longer : length new.kept ≡ length old.kept + length piece = ap length kept ∙ length-append old.kept piece in
    record {
      size = holds.size ∙ sym size;
      kept =
          kept
          ∙ ap (λ l. l ++ piece) holds.kept
          ∙ ap (λ l. take (length old.kept) (drop (kept_from old) object) ++ l) read
          ∙ ap (λ q. take (length old.kept) (drop (kept_from old) object) ++ take (length piece) (drop q object)) (sym upto)
          ∙ ap (λ l. take (length old.kept) (drop (kept_from old) object) ++ take (length piece) l) (sym (drop-drop (length old.kept) (kept_from old) object))
          ∙ sym (take-add (length old.kept) (length piece) (drop (kept_from old) object))
          ∙ ap (λ n. take n (drop (kept_from old) object)) (sym longer)
          ∙ ap (λ q. take (length new.kept) (drop q object)) (sym from);
    }

-- kept bytes that were passed are kept no more
pub holds_passed : (object : List ℕ) (old new : View) (i : ℕ) → new.size ≡ old.size → kept_from new ≡ kept_from old + i
    → new.kept ≡ drop i old.kept → i ≤ length old.kept → Holds object old → Holds object new
holds_passed object old new i size from kept within holds =
    let shorter : length new.kept ≡ length old.kept - i = ap length kept ∙ length-drop i old.kept in
    let all : length old.kept ≡ i + (length old.kept - i) = omega arith in
    record {
      size = holds.size ∙ sym size;
      kept =
          kept
          ∙ ap (drop i) holds.kept
          ∙ ap (λ n. drop i (take n (drop (kept_from old) object))) all
          ∙ drop-take i (length old.kept - i) (drop (kept_from old) object)
          ∙ ap (take (length old.kept - i)) (drop-drop i (kept_from old) object)
          ∙ ap (λ q. take (length old.kept - i) (drop q object)) (sym from)
          ∙ ap (λ n. take n (drop (kept_from new) object)) (sym shorter);
    }

-- a piece of the kept bytes is the object's
pub kept_piece : (object : List ℕ) (v : View) (k m : ℕ) → Holds object v → k + m ≤ length v.kept
    → take m (drop k v.kept) ≡ take m (drop (kept_from v + k) object)
kept_piece object v k m holds within =
    ap (λ l. take m (drop k l)) holds.kept
    ∙ front_piece (drop (kept_from v) object) (length v.kept) k m within
    ∙ ap (take m) (drop-drop k (kept_from v) object)

pub stands_kept : (object d : List ℕ) (v : View) (k : ℕ) → Holds object v → 0 < length d → StandsAt d v.kept k → StandsAt d object (kept_from v + k)
stands_kept object d v k holds some stands =
    sym (kept_piece object v k (length d) holds (stands_within d v.kept k some stands)) ∙ stands

pub stands_of_kept : (object d : List ℕ) (v : View) (k : ℕ) → Holds object v → k + length d ≤ length v.kept
    → StandsAt d object (kept_from v + k) → StandsAt d v.kept k
stands_of_kept object d v k holds within stands = kept_piece object v k (length d) holds within ∙ stands

-- how many bytes are ahead
pub ahead_len : (v : View) → IsSound v → length (ahead v) ≡ v.upto - v.place
ahead_len v sound =
    let kept = sound.kept in
    let len = length-drop (v.place - kept_from v) v.kept in
    omega arith

-- they are the object's from the window's place on
pub ahead_is : (object : List ℕ) (v : View) → Holds object v → IsSound v → v.place ≤ v.upto → ahead v ≡ take (length (ahead v)) (drop v.place object)
ahead_is object v holds sound read =
    let lead = v.place - kept_from v in
    let kept = sound.kept in
    let at : kept_from v + lead ≡ v.place = omega arith in
    sym (take_rest v.kept lead)
    ∙ kept_piece object v lead (length v.kept - lead) holds (omega arith)
    ∙ ap (λ q. take (length v.kept - lead) (drop q object)) at
    ∙ ap (λ n. take n (drop v.place object)) (sym (length-drop lead v.kept))

pub stands_of_ahead : (object d : List ℕ) (v : View) (k : ℕ) → Holds object v → k + length d ≤ length (ahead v) → 0 < length d
    → StandsAt d object (v.place + k) → StandsAt d (ahead v) k
stands_of_ahead object d v k holds within some stands =
    let lead = v.place - kept_from v in
    let len = length-drop lead v.kept in
    let at : v.place + k ≡ kept_from v + (lead + k) = omega arith in
    stands_of_behind d v.kept lead k
    (stands_of_kept object d v (lead + k) holds (omega arith) (subst (StandsAt d object) at stands))

-- what begins no delimiter ahead begins none in the object
pub clear_ahead : (object d : List ℕ) (v : View) (n : ℕ) → Holds object v → 0 < length d → HasNone d (ahead v) n
    → (k : ℕ) → k < n → k + length d ≤ length (ahead v) → StandsAt d (drop v.place object) k → ⊥
clear_ahead object d v n holds some clear k lt within stands =
    clear k lt (stands_of_ahead object d v k holds within some (stands_behind d object v.place k stands))

-- places that are no starts were passed
pub left_passed : (object : List ℕ) (old new : View) → SameRules old new → old.place ≤ new.place
    → ((r : ℕ) → old.place ≤ r → r < new.place → is_start old.delimiter object r ≡ false) → left object new ≡ left object old
left_passed object old new rules onwards clear =
    ap (λ d. cuts d object new.place (new.stop - new.place)) rules.delimiter
    ∙ ap (λ n. cuts old.delimiter object new.place (n - new.place)) rules.stop
    ∙ cuts_passed old.delimiter object old.place new.place old.stop onwards clear

-- a search of the first n kept bytes passed places that are no starts
pub searched : (object : List ℕ) (v : View) (n i r : ℕ) → Holds object v → 0 < length v.delimiter → 0 < v.place → n ≤ length v.kept
    → HasNone v.delimiter (take n v.kept) i → v.place ≤ r → r < kept_from v + i + length v.delimiter → r ≤ kept_from v + n
    → is_start v.delimiter object r ≡ false
searched object v n i r holds some behind within clear low high reach =
    no_start v.delimiter object r (λ e. absurd (omega arith)) (λ fits stands.
    let k = r - length v.delimiter - kept_from v in
    let at : r - length v.delimiter ≡ kept_from v + k = omega arith in
    clear k (omega arith)
    (stands_of_front v.delimiter v.kept n k (omega arith)
    (stands_of_kept object v.delimiter v k holds (omega arith) (subst (StandsAt v.delimiter object) at stands))))
