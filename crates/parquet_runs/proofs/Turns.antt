-- One run more, and one number more.
use Rattle.std.proofs.Common.{◌≡◌, ℕ, true, false, zero, suc, ◌+◌, ◌-◌, ◌*◌, ◌/◌, ◌%◌, ◌^◌, ◌<◌, ◌≤◌, List, [], ◌∷◌, ◌++◌, length, drop, None, Some, refl, sym, ap, ◌∙◌, arith}
use Rattle.std.specs.Prelude.{slice_index_or}
use Rattle.std.proofs.lemmas.List.{drop-drop, length-drop}
use Rattle.std.proofs.lemmas.Nat.{shr-shr}
use Rattle.packed_bits.specs.Packed.{little, unpacked}
use Rattle.parquet_runs.specs.Hybrid.{run_at, run_numbers, behind_run, numbers, there_behind, are_there}
use Rattle.parquet_runs.specs.Cursors.{numbers_left, IsReady}
use Rattle.parquet_runs.specs.declared.run.Run.{Run}
use Rattle.parquet_runs.specs.declared.cursor.RunCursor.{RunCursor}
use Rattle.parquet_runs.proofs.Bits.{dropped}

-- bytes that are passed over
pub skipped : (width left skip : ℕ) (bytes : List ℕ) → numbers width left skip bytes ≡ numbers width left 0 (drop skip bytes)
unfolding numbers
skipped width zero skip bytes = refl
skipped width (suc left) zero bytes = refl
skipped width (suc left) (suc skip) [] = refl
skipped width (suc left) (suc skip) (b ∷ bytes) = skipped width (suc left) skip bytes

pub skipped_there : (width left skip : ℕ) (bytes : List ℕ) → are_there width left skip bytes ≡ are_there width left 0 (drop skip bytes)
unfolding are_there
skipped_there width zero skip bytes = refl
skipped_there width (suc left) zero bytes = refl
skipped_there width (suc left) (suc skip) [] = refl
skipped_there width (suc left) (suc skip) (b ∷ bytes) = skipped_there width (suc left) skip bytes

-- a run was passed
pub passed : (width left : ℕ) (bytes : List ℕ) (run : Run) → run_at left width bytes ≡ Some run → 0 < left → 0 < run.size
    → run.size ≤ length bytes
    → numbers width left 0 bytes
    ≡ run_numbers run.count run.number run.width (little (drop run.start bytes)) ++ numbers width (left - run.count) 0 (drop run.size bytes)
unfolding numbers
passed width zero bytes run is any some within = absurd (omega (arith, any))
passed width (suc left) [] run is any some within = absurd (omega (arith, some, within))
passed width (suc left) (b ∷ bytes) run is any some within =
    let e : run.size ≡ suc (run.size - 1) = omega (arith, some) in
    let rest : drop run.size (b ∷ bytes) ≡ drop (run.size - 1) bytes = ap (λ n. drop n (b ∷ bytes)) e in
    ap (λ o. behind_run o (b ∷ bytes) (λ r. numbers width (suc left - r.count) (r.size - 1) bytes)) is
    ∙ ap (λ ns. run_numbers run.count run.number run.width (little (drop run.start (b ∷ bytes))) ++ ns)
    (skipped width (suc left - run.count) (run.size - 1) bytes ∙ ap (numbers width (suc left - run.count) 0) (sym rest))

pub passed_there : (width left : ℕ) (bytes : List ℕ) (run : Run) → run_at left width bytes ≡ Some run → 0 < left → 0 < run.size
    → run.size ≤ length bytes → are_there width left 0 bytes ≡ are_there width (left - run.count) 0 (drop run.size bytes)
unfolding are_there
passed_there width zero bytes run is any some within = absurd (omega (arith, any))
passed_there width (suc left) [] run is any some within = absurd (omega (arith, some, within))
passed_there width (suc left) (b ∷ bytes) run is any some within =
    let e : run.size ≡ suc (run.size - 1) = omega (arith, some) in
    let rest : drop run.size (b ∷ bytes) ≡ drop (run.size - 1) bytes = ap (λ n. drop n (b ∷ bytes)) e in
    ap (λ o. there_behind o (λ r. are_there width (suc left - r.count) (r.size - 1) bytes)) is
    ∙ (skipped_there width (suc left - run.count) (run.size - 1) bytes ∙ ap (are_there width (suc left - run.count) 0) (sym rest))

-- no run is there
pub none_there : (width left : ℕ) (bytes : List ℕ) → run_at left width bytes ≡ None → 0 < left → are_there width left 0 bytes ≡ false
unfolding are_there
none_there width zero bytes is any = absurd (omega (arith, any))
none_there width (suc left) [] is any = refl
none_there width (suc left) (b ∷ bytes) is any = ap (λ o. there_behind o (λ r. are_there width (suc left - r.count) (r.size - 1) bytes)) is

-- no number is wanted
pub all_there : (width left : ℕ) (bytes : List ℕ) → left ≡ 0 → are_there width left 0 bytes ≡ true
unfolding are_there
all_there width left bytes none = rw none refl

none_wanted : (width left : ℕ) (bytes : List ℕ) → left ≡ 0 → numbers width left 0 bytes ≡ []
unfolding numbers
none_wanted width left bytes none = rw none refl

no_numbers : (number step bits : ℕ) → run_numbers 0 number step bits ≡ []
unfolding unpacked
no_numbers number zero bits = refl
no_numbers number (suc step) bits = refl

-- nothing is left of a run
pub behind_it : (c : RunCursor) (bytes : List ℕ) → c.inside ≡ 0 → numbers_left c bytes ≡ numbers c.width c.behind 0 (drop c.at bytes)
unfolding numbers_left
behind_it c bytes none =
    ap (λ n. run_numbers n c.number c.step (little bytes / 2 ^ c.bit) ++ numbers c.width c.behind 0 (drop c.at bytes)) none
    ∙ ap (λ ns. ns ++ numbers c.width c.behind 0 (drop c.at bytes)) (no_numbers c.number c.step (little bytes / 2 ^ c.bit))

pub emptied : (c : RunCursor) (bytes : List ℕ) → c.inside ≡ 0 → c.behind ≡ 0 → numbers_left c bytes ≡ []
emptied c bytes inside behind = behind_it c bytes inside ∙ none_wanted c.width c.behind (drop c.at bytes) behind

-- a run was entered
abbrev pub entering : RunCursor → Run → RunCursor
entering c run = record {
  width = c.width;
  behind = c.behind - run.count;
  at = c.at + run.size;
  inside = run.count;
  number = run.number;
  step = run.width;
  bit = 8 * (c.at + run.start);
}

pub entered : (c : RunCursor) (run : Run) (bytes rest : List ℕ) → ((i : ℕ) → slice_index_or bytes i 0 < 256) → rest ≡ drop c.at bytes
    → run_at c.behind c.width rest ≡ Some run → 0 < c.behind → 0 < run.size → run.size ≤ length rest → c.inside ≡ 0
    → numbers_left (entering c run) bytes ≡ numbers_left c bytes
unfolding numbers_left
entered c run bytes rest fits back is any some within none =
    let start : drop run.start rest ≡ drop (c.at + run.start) bytes = ap (drop run.start) back ∙ drop-drop run.start c.at bytes in
    let size : drop run.size rest ≡ drop (c.at + run.size) bytes = ap (drop run.size) back ∙ drop-drop run.size c.at bytes in
    let bits : little (drop run.start rest) ≡ little bytes / 2 ^ (8 * (c.at + run.start)) = ap little start ∙ dropped (c.at + run.start) bytes fits in
    sym
    (behind_it c bytes none
    ∙ ap (numbers c.width c.behind 0) (sym back)
    ∙ passed c.width c.behind rest run is any some within
    ∙ ap (λ x. run_numbers run.count run.number run.width x ++ numbers c.width (c.behind - run.count) 0 (drop run.size rest)) bits
    ∙ ap (λ xs. run_numbers run.count run.number run.width (little bytes / 2 ^ (8 * (c.at + run.start))) ++ numbers c.width (c.behind - run.count) 0 xs) size)

pub entered_ready : (c : RunCursor) (run : Run) (bytes rest : List ℕ) → IsReady c bytes → rest ≡ drop c.at bytes
    → run_at c.behind c.width rest ≡ Some run → 0 < c.behind → 0 < run.size → run.size ≤ length rest → c.inside ≡ 0
    → run.count ≤ c.behind → run.width ≤ 32 → 8 * run.start + run.count * run.width ≤ 8 * length rest
    → IsReady (entering c run) bytes
entered_ready c run bytes rest ready back is any some within none count width body =
    let len : length rest ≡ length bytes - c.at = ap length back ∙ length-drop c.at bytes in
    let at = ready.at in
    let many = ready.many in
    let size : drop run.size rest ≡ drop (c.at + run.size) bytes = ap (drop run.size) back ∙ drop-drop run.size c.at bytes in
    record {
      few = ready.few;
      width = ready.width;
      step = width;
      at = omega (arith, len, within, at);
      inside = omega (arith, len, body, at);
      there = ap (are_there c.width (c.behind - run.count) 0) (sym size)
          ∙ sym (passed_there c.width c.behind rest run is any some within)
          ∙ ap (are_there c.width c.behind 0) back ∙ ready.there;
      many = omega (arith, many, count);
    }

pub no_run : (c : RunCursor) (bytes rest : List ℕ) → IsReady c bytes → rest ≡ drop c.at bytes → run_at c.behind c.width rest ≡ None
    → 0 < c.behind → ⊥
no_run c bytes rest ready back is any =
    let there : true ≡ false = sym ready.there ∙ ap (are_there c.width c.behind 0) (sym back) ∙ none_there c.width c.behind rest is any in
    cc

-- a number of a run was read
copy_of : (n number step bits : ℕ) (rest : List ℕ) → 0 < n → step ≡ 0
    → run_numbers n number step bits ++ rest ≡ number ∷ (run_numbers (n - 1) number step bits ++ rest)
copy_of zero number step bits rest some copies = absurd (omega (arith, some))
copy_of (suc n) number (suc step) bits rest some copies = absurd (omega (arith, copies))
copy_of (suc n) number zero bits rest some copies =
    let e : suc n - 1 ≡ n = omega arith in
    rw e refl

packed_of : (n number step bits : ℕ) (rest : List ℕ) → 0 < n → 0 < step
    → run_numbers n number step bits ++ rest ≡ bits % 2 ^ step ∷ (run_numbers (n - 1) number step (bits / 2 ^ step) ++ rest)
unfolding unpacked
packed_of zero number step bits rest some packed = absurd (omega (arith, some))
packed_of (suc n) number zero bits rest some packed = absurd (omega (arith, packed))
packed_of (suc n) number (suc step) bits rest some packed =
    let e : suc n - 1 ≡ n = omega arith in
    rw e refl

pub took_copy : (c : RunCursor) (bytes : List ℕ) → 0 < c.inside → c.step ≡ 0
    → numbers_left c bytes ≡ c.number ∷ numbers_left (record c { inside = c.inside - 1 }) bytes
unfolding numbers_left
took_copy c bytes some copies =
    copy_of c.inside c.number c.step (little bytes / 2 ^ c.bit) (numbers c.width c.behind 0 (drop c.at bytes)) some copies

pub took_packed : (c : RunCursor) (bytes : List ℕ) (number : ℕ) → 0 < c.inside → 0 < c.step
    → number ≡ little bytes / 2 ^ c.bit % 2 ^ c.step
    → numbers_left c bytes ≡ number ∷ numbers_left (record c { inside = c.inside - 1; bit = c.bit + c.step }) bytes
unfolding numbers_left
took_packed c bytes number some packed is =
    let rest = numbers c.width c.behind 0 (drop c.at bytes) in
    packed_of c.inside c.number c.step (little bytes / 2 ^ c.bit) rest some packed
    ∙ ap (λ n. n ∷ (run_numbers (c.inside - 1) c.number c.step (little bytes / 2 ^ c.bit / 2 ^ c.step) ++ rest)) (sym is)
    ∙ ap (λ x. number ∷ (run_numbers (c.inside - 1) c.number c.step x ++ rest)) (shr-shr (little bytes) c.bit c.step)

-- where reading begins
abbrev pub starting : ℕ → ℕ → RunCursor
starting width count = record { width = width; behind = count; at = 0; inside = 0; number = 0; step = 0; bit = 0 }

pub started : (width count : ℕ) (bytes : List ℕ) → numbers_left (starting width count) bytes ≡ numbers width count 0 bytes
unfolding numbers_left
started width count bytes = refl

pub started_ready : (width count : ℕ) (bytes : List ℕ) → width ≤ 32 → length bytes < 2 ^ 32 → count < 2 ^ 32 → are_there width count 0 bytes ≡ true
    → IsReady (starting width count) bytes
started_ready width count bytes within few many there = record {
  few = few;
  width = within;
  step = omega arith;
  at = omega arith;
  inside = omega arith;
  there = there;
  many = omega (arith, many);
}
