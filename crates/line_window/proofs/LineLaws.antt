-- The line that is lent is the object's, and what is left behind it.
use Rattle.std.proofs.Common.{◌≡◌, ℕ, zero, suc, ◌+◌, ◌-◌, ◌<◌, ◌≤◌, ◌==◌, Bool, true, false, List, [], ◌∷◌, length, take, drop, sym, ap, ◌∙◌, subst, inl, inr, arith, length-drop}
use Rattle.std.proofs.lemmas.List.{length-take-le, take_all, take-take}
use Rattle.std.proofs.lemmas.Bool.{cases_lt}
use Rattle.std.specs.Prelude.{if◌then◌else◌, bytes_eq}
use Rattle.line_window.specs.declared.window.Body.{Body}
use Rattle.line_window.specs.Starts.{is_start, before_delimiter, body}
use Rattle.line_window.specs.Cuts.{cuts, cut_at, without_mark}
use Rattle.line_window.specs.Delimiters.{StandsAt, HasNone}
use Rattle.line_window.specs.Sliding.{View, Holds, IsSound, SameRules, kept_from, ahead}
use Rattle.line_window.specs.Answers.{IsLent}
use Rattle.line_window.specs.Steps.{IsNear, IsBody, Leaves}
use Rattle.line_window.proofs.DelimiterLaws.{width, apart, stands_within, stands_front}
use Rattle.line_window.proofs.StartLaws.{no_start, behind_start, cuts_passed}
use Rattle.line_window.proofs.BodyLaws.{body_found, body_open, body_long}
use Rattle.line_window.proofs.KeptLaws.{holds_passed, ahead_len, ahead_is, stands_of_ahead, clear_ahead}
use Rattle.line_window.proofs.StepLaws.{moved}

-- a body and its delimiter lie within the bytes ahead
pub fits : (v : View) (b : Body) → IsSound v → IsBody v b → b.len + b.behind ≤ length (ahead v)
fits v b sound is_body =
    elim (cases_lt 0 b.behind) [
      | inl some ↦
          let ended = is_body.ended some in
          omega (arith, stands_within v.delimiter (ahead v) b.len (width v.delimiter sound.delimiter).0 ended.1, ended.0)
      | inr none ↦ let opened = is_body.open_ (omega arith) in omega (arith, opened.0)
    ]

-- a line is some bytes long
some_bytes : (v : View) (b : Body) → IsSound v → IsNear v → IsBody v b → 0 < b.len + b.behind
some_bytes v b sound near is_body =
    elim (cases_lt 0 b.behind) [
      | inl some ↦ omega arith
      | inr none ↦
          let opened = is_body.open_ (omega arith) in
          let wide = (width v.delimiter sound.delimiter).0 in
          let len = ahead_len v sound in
          elim (cases_lt 0 b.len) [
            | inl more ↦ omega arith
            | inr empty ↦
                let full = opened.1 (omega arith) in
                let range = sound.range in
                let first = near.range in
                let read = near.read in
                absurd (omega (arith, opened.0))
          ]
    ]

-- no line starts within a line
none_within : (object : List ℕ) (v : View) (b : Body) (r : ℕ) → IsSound v → Holds object v → IsBody v b
    → is_start v.delimiter object v.place ≡ true → v.place + 1 ≤ r → r < v.place + (b.len + b.behind) → is_start v.delimiter object r ≡ false
none_within object v b r sound holds is_body starts low high =
    let d = v.delimiter in
    let wide = width d sound.delimiter in
    let within = fits v b sound is_body in
    no_start d object r (λ e. absurd (omega arith)) (λ room stands.
    elim (cases_lt (r - length d) v.place) [
      | inl before ↦
          let here = behind_start d object v.place starts (omega arith) in
          let far = apart d object (v.place - length d) (r - length d) sound.delimiter here.1 stands (omega (arith, here.0)) in
          absurd (omega (arith, here.0))
      | inr behind ↦
          let k = r - length d - v.place in
          let at : r - length d ≡ v.place + k = omega arith in
          let shown : StandsAt d (ahead v) k =
          stands_of_ahead object d v k holds (omega arith) wide.0 (subst (StandsAt d object) at stands) in
          let lower : k < b.len = elim (cases_lt 0 b.behind) [
            | inl some ↦ omega (arith, (is_body.ended some).0)
            | inr none ↦ omega arith
          ] in
          is_body.clear k lower shown
    ])

-- a line was passed
pub leaves : (old new : View) (b : Body) (i : ℕ) → IsSound old → SameRules old new → new.upto ≡ old.upto → new.failed ≡ old.failed
    → new.place ≡ old.place + (b.len + b.behind) → kept_from new ≡ kept_from old + i → new.kept ≡ drop i old.kept
    → IsNear old → IsBody old b → Leaves old new
leaves old new b i sound rules upto failed place from kept near is_body =
    let within = fits old b sound is_body in
    let some = some_bytes old b sound near is_body in
    let len = ahead_len old sound in
    let same : length new.delimiter ≡ length old.delimiter = ap length rules.delimiter in
    let room = sound.kept in
    let read = near.read in
    let passed : i ≤ length old.kept = omega arith in
    record {
      sound = moved old new i sound rules upto from kept passed (omega (arith, sound.read, rules.size));
      rules = rules;
      upto = upto;
      onwards = omega arith;
      failed = failed;
      told = λ object h starts. (
        holds_passed object old new i rules.size from kept passed h,
        ap (λ d. cuts d object new.place (new.stop - new.place)) rules.delimiter
            ∙ ap (λ n. cuts old.delimiter object new.place (n - new.place)) rules.stop
            ∙ cuts_passed old.delimiter object (old.place + 1) new.place old.stop (omega arith)
            (λ r low high. none_within object old b r sound h is_body starts low (omega arith)),
      );
    }

-- what begins no delimiter ahead begins none in the rest of the object
clear_rest : (object : List ℕ) (v : View) (n m : ℕ) → IsSound v → Holds object v → HasNone v.delimiter (ahead v) n → m ≤ n
    → m + length v.delimiter ≤ length (ahead v) + 1 → HasNone v.delimiter (drop v.place object) m
clear_rest object v n m sound holds clear less within k lt stands =
    clear_ahead object v.delimiter v n holds (width v.delimiter sound.delimiter).0 clear k (omega arith) (omega arith) stands

-- the rest of the object, where all of it was read
rest_len : (object : List ℕ) (v : View) → IsSound v → Holds object v → v.place ≤ v.upto → v.upto ≡ v.size
    → length (drop v.place object) ≡ length (ahead v)
rest_len object v sound holds read full =
    let size = holds.size in
    omega (arith, length-drop v.place object, ahead_len v sound)

open_body : (object : List ℕ) (v : View) (n : ℕ) → IsSound v → Holds object v → v.place ≤ v.upto → v.upto ≡ v.size
    → n ≡ length (ahead v) → HasNone v.delimiter (ahead v) n → body v.delimiter object v.place ≡ drop v.place object
open_body object v n sound holds read full all clear =
    let some = (width v.delimiter sound.delimiter).0 in
    let len = rest_len object v sound holds read full in
    body_open v.delimiter (drop v.place object) (λ k lt stands.
    clear_ahead object v.delimiter v n holds some clear k (omega arith)
    (omega (arith, stands_within v.delimiter (drop v.place object) k some stands)) stands)

ended_body : (object : List ℕ) (v : View) (n : ℕ) → IsSound v → Holds object v → v.place ≤ v.upto → StandsAt v.delimiter (ahead v) n
    → HasNone v.delimiter (ahead v) n → body v.delimiter object v.place ≡ take n (drop v.place object)
ended_body object v n sound holds read stands clear =
    let some = (width v.delimiter sound.delimiter).0 in
    let within = stands_within v.delimiter (ahead v) n some stands in
    let shown = ahead_is object v holds sound read in
    let here : StandsAt v.delimiter (take (length (ahead v)) (drop v.place object)) n = subst (λ l. StandsAt v.delimiter l n) shown stands in
    body_found v.delimiter (drop v.place object) n some
    (stands_front v.delimiter (drop v.place object) (length (ahead v)) n some here).0
    (clear_rest object v n n sound holds clear (omega arith) (omega arith))

-- the line at the place is longer than the limit
pub too_long : (object : List ℕ) (v : View) (b : Body) → IsSound v → Holds object v → IsNear v → IsBody v b → v.longest < b.len
    → v.longest < length (body v.delimiter object v.place)
too_long object v b sound holds near is_body long =
    let some = (width v.delimiter sound.delimiter).0 in
    let read = near.read in
    let rest = length-drop v.place object in
    let len = ahead_len v sound in
    let size = holds.size in
    let upto = sound.read in
    let enough : (m : ℕ) → v.longest < m → m ≤ b.len → m + length v.delimiter ≤ length (ahead v) + 1
    → v.longest < length (body v.delimiter object v.place) =
    λ m more less within.
    let at_least : m ≤ length (before_delimiter v.delimiter (drop v.place object)) =
    body_long v.delimiter (drop v.place object) m (omega arith) (clear_rest object v b.len m sound holds is_body.clear less within) in
    omega arith in
    elim (cases_lt 0 b.behind) [
      | inl delimited ↦
          let ended = is_body.ended delimited in
          enough b.len long (omega arith) (omega (arith, stands_within v.delimiter (ahead v) b.len some ended.1))
      | inr none ↦
          let opened = is_body.open_ (omega arith) in
          elim (cases_lt b.len (v.longest + length v.delimiter)) [
            | inl short ↦
                let full = opened.1 short in
                let all = open_body object v b.len sound holds read full opened.0 is_body.clear in
                omega (arith, ap length all, opened.0)
            | inr far ↦ enough (b.len + 1 - length v.delimiter) (omega arith) (omega arith) (omega (arith, opened.0))
          ]
    ]

-- the line at the place is lent with its content and its whole length
pub lent_is : (object : List ℕ) (v : View) (b : Body) → IsSound v → Holds object v → IsNear v → IsBody v b → b.len ≤ v.longest
    → IsLent v.longest (cut_at v.delimiter object v.place)
    (if v.place == 0 then without_mark (take b.len (ahead v)) else take b.len (ahead v)) (b.len + b.behind)
lent_is object v b sound holds near is_body short =
    let some = (width v.delimiter sound.delimiter).0 in
    let read = near.read in
    let xs : List ℕ = drop v.place object in
    let rest = length-drop v.place object in
    let len = ahead_len v sound in
    let size = holds.size in
    let upto = sound.read in
    let shown = ahead_is object v holds sound read in
    elim (cases_lt 0 b.behind) [
      | inl delimited ↦
          let ended = is_body.ended delimited in
          let within = stands_within v.delimiter (ahead v) b.len some ended.1 in
          let is = ended_body object v b.len sound holds read ended.1 is_body.clear in
          let cut : take b.len (ahead v) ≡ take b.len xs = ap (take b.len) shown ∙ take-take b.len (length (ahead v)) xs (omega arith) in
          let body_len : length (body v.delimiter object v.place) ≡ b.len = ap length is ∙ length-take-le b.len xs (omega arith) in
          record {
            short = omega arith;
            bytes = ap (λ l. if v.place == 0 then without_mark l else l) (cut ∙ sym is);
            whole = omega (arith, ended.0);
          }
      | inr none ↦
          let opened = is_body.open_ (omega arith) in
          let full = opened.1 (omega arith) in
          let is = open_body object v b.len sound holds read full opened.0 is_body.clear in
          let all = rest_len object v sound holds read full in
          let cut : take b.len (ahead v) ≡ xs =
          take_all b.len (ahead v) (omega (arith, opened.0)) ∙ shown ∙ take_all (length (ahead v)) xs (omega arith) in
          let body_len : length (body v.delimiter object v.place) ≡ length xs = ap length is in
          record {
            short = omega (arith, opened.0);
            bytes = ap (λ l. if v.place == 0 then without_mark l else l) (cut ∙ sym is);
            whole = omega (arith, opened.0);
          }
    ]

-- ---- how long it is

taken_most : (n : ℕ) (xs : List ℕ) → length (take n xs) ≤ n
taken_most zero xs = omega arith
taken_most (suc n) [] = omega arith
taken_most (suc n) (x ∷ xs) = omega (arith, taken_most n xs)

unmarked_most : (xs : List ℕ) → length (without_mark xs) ≤ length xs
unmarked_most xs =
    let P : Bool → Type 0 = λ b. length (if b then drop 3 xs else xs) ≤ length xs in
    elim (bytes_eq (take 3 xs) (0xef ∷ 0xbb ∷ 0xbf ∷ [])) as P [ true ↦ omega (arith, length-drop 3 xs) | false ↦ omega arith ]

pub lent_most : (place len longest : ℕ) (xs bytes : List ℕ) → bytes ≡ (if place == 0 then without_mark (take len xs) else take len xs) → len ≤ longest → length bytes ≤ longest
lent_most place len longest xs bytes is short =
    let most = taken_most len xs in
    let unmarked = unmarked_most (take len xs) in
    let P : Bool → Type 0 = λ b. length (if b then without_mark (take len xs) else take len xs) ≤ longest in
    subst (λ l. length l ≤ longest) (sym is) (elim (place == 0) as P [ true ↦ omega arith | false ↦ omega arith ])
