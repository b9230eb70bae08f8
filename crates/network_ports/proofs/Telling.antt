-- What is told of connections in memory, before and after a call.
use Rattle.std.proofs.Common.{◌≡◌, ℕ, zero, suc, ◌+◌, ◌-◌, ◌<◌, ◌≤◌, ⊎_elim, Bool, true, false, nat_lt, List, [], ◌∷◌, ◌++◌, Some, Result, Ok, Err, IfOk, OnOk, OnErr, IsErr, true≢false, is_ok, is_some, if◌then◌else◌, length, take, drop, min, slice_index_or, refl, sym, ap, subst, ◌∙◌, arith, take-append-drop}
use Rattle.std.specs.Result.{is_err}
use Rattle.std.proofs.lemmas.Bool.{cases_lt}
use Rattle.std.proofs.lemmas.Bool.Decides.{nat_tests}
use Rattle.std.proofs.lemmas.List.{drop_all}
use Rattle.select_ports.specs.Turns.{next_count}
use Rattle.select_ports.proofs.Told.{none-left}
use Rattle.network_ports.specs.Told.{Connection, Connections, Begins, Receives, Sends, all_begun, most_connections}
use Rattle.network_ports.specs.Scripted.{lost, first_begun, told, changed_at, changed_current, current_of, anew, received, sent, broken, after_read, after_write}
use Rattle.network_ports.proofs.Places.{index-past, index-changed, changed-past, first-changed, first-next, length-first}

-- the current connection with those before it
abbrev now_at : List Connection → Connection → Connections
now_at earlier c = record { earlier = Some earlier; left = Some c.left; came = Some c.came; written = Some c.written; broke = c.broke }

told-changed : (cs : List Connection) (n : ℕ) (change : Connection → Connection) → n < length cs
    → told (changed_at n change cs) (suc n) ≡ now_at (first_begun n cs) (change (slice_index_or cs n lost))
told-changed cs n change within =
    ap (λ earlier. now_at earlier (slice_index_or (changed_at n change cs) n lost)) (first-changed cs n change)
    ∙ ap (λ c. now_at (first_begun n cs) c) (index-changed cs n change within)

told-past : (cs : List Connection) (n : ℕ) → length cs ≤ n → told cs (suc n) ≡ now_at (first_begun n cs) lost
told-past cs n past = ap (λ c. now_at (first_begun n cs) c) (index-past cs n past)

-- what a read gave: a front of the bytes to come, and none only where there was none or no room
pub record Gave (left : List ℕ) (n : ℕ) (buffer : List ℕ) : Type 0 where
  pub bytes : take n buffer ≡ take n left
  pub some : 0 < min (length left) (length buffer) → 0 < n

given_end : (left : List ℕ) (n : ℕ) (buffer : List ℕ) → Gave left n buffer → n ≡ 0 → 0 < length buffer → drop n left ≡ []
given_end left n buffer gave none room = drop_all n left (omega (arith, none-left n (min (length left) (length buffer)) gave.some none))

receives_now : (E : Type 0) (earlier : List Connection) (c : Connection) (n : ℕ) (buffer : List ℕ) → Gave c.left n buffer
    → Receives {E = E} (now_at earlier c) (now_at earlier (received n c)) (Ok n) buffer
receives_now E earlier c n buffer gave = record {
  left = (sym (take-append-drop n c.left) ∙ ap (λ l. l ++ drop n c.left) (sym gave.bytes), given_end c.left n buffer gave);
  came = ap (λ l. c.came ++ l) (sym gave.bytes);
  written = refl;
  earlier = refl;
  broke = refl;
  none = λ (told, none). absurd (cc);
}

receives_err : {E : Type 0} (e : E) (earlier : List Connection) (c : Connection) (buffer : List ℕ)
    → Receives (now_at earlier c) (now_at earlier (broken c)) (Err e) buffer
receives_err e earlier c buffer = record { left = refl; came = refl; written = refl; earlier = refl; broke = refl; none = λ _. refl }

sends_now : (E : Type 0) (earlier : List Connection) (c : Connection) (n : ℕ) (piece : List ℕ)
    → Sends {E = E} (now_at earlier c) (now_at earlier (sent (take n piece) c)) (Ok n) piece
sends_now E earlier c n piece = record { written = refl; left = refl; came = refl; earlier = refl; broke = refl; none = λ (told, none). absurd (cc) }

sends_err : {E : Type 0} (e : E) (earlier : List Connection) (c : Connection) (piece : List ℕ)
    → Sends (now_at earlier c) (now_at earlier (broken c)) (Err e) piece
sends_err e earlier c piece = record { written = refl; left = refl; came = refl; earlier = refl; broke = refl; none = λ _. refl }

-- there is a current connection
abbrev pub HasCurrent : ℕ → List Connection → Type 0
HasCurrent begun cs = (0 < begun) × (begun ≤ length cs)

read_told : {E : Type 0} (cs : List Connection) (begun : ℕ) (result : Result ℕ E) (buffer : List ℕ)
    → IfOk result (λ n. HasCurrent begun cs × Gave (current_of begun cs).left n buffer)
    → Receives (told cs begun) (told (changed_current begun (after_read result) cs) begun) result buffer
read_told cs zero (Ok n) buffer ((some, within), gave) = absurd (omega (arith, some))
read_told {E} cs (suc k) (Ok n) buffer ((some, within), gave) =
    subst (λ now. Receives {E = E} (told cs (suc k)) now (Ok n) buffer) (sym (told-changed cs k (received n) (omega (arith, within))))
    (receives_now E (first_begun k cs) (slice_index_or cs k lost) n buffer gave)
read_told cs zero (Err e) buffer ok = record { left = tt; came = refl; written = refl; earlier = refl; broke = refl; none = λ _. refl }
read_told cs (suc k) (Err e) buffer ok =
    ⊎_elim
    (λ within. subst (λ now. Receives (told cs (suc k)) now (Err e) buffer) (sym (told-changed cs k broken within))
    (receives_err e (first_begun k cs) (slice_index_or cs k lost) buffer))
    (λ past. subst (λ l. Receives (told cs (suc k)) (told l (suc k)) (Err e) buffer) (sym (changed-past cs k broken past))
    (subst (λ t. Receives t t (Err e) buffer) (sym (told-past cs k past)) (receives_err e (first_begun k cs) lost buffer)))
    (cases_lt k (length cs))

write_told : {E : Type 0} (cs : List Connection) (begun : ℕ) (result : Result ℕ E) (piece : List ℕ)
    → IfOk result (λ n. HasCurrent begun cs)
    → Sends (told cs begun) (told (changed_current begun (after_write piece result) cs) begun) result piece
write_told cs zero (Ok n) piece (some, within) = absurd (omega (arith, some))
write_told {E} cs (suc k) (Ok n) piece (some, within) =
    subst (λ now. Sends {E = E} (told cs (suc k)) now (Ok n) piece) (sym (told-changed cs k (sent (take n piece)) (omega (arith, within))))
    (sends_now E (first_begun k cs) (slice_index_or cs k lost) n piece)
write_told cs zero (Err e) piece ok = record { written = tt; left = refl; came = refl; earlier = refl; broke = refl; none = λ _. refl }
write_told cs (suc k) (Err e) piece ok =
    ⊎_elim
    (λ within. subst (λ now. Sends (told cs (suc k)) now (Err e) piece) (sym (told-changed cs k broken within))
    (sends_err e (first_begun k cs) (slice_index_or cs k lost) piece))
    (λ past. subst (λ l. Sends (told cs (suc k)) (told l (suc k)) (Err e) piece) (sym (changed-past cs k broken past))
    (subst (λ t. Sends t t (Err e) piece) (sym (told-past cs k past)) (sends_err e (first_begun k cs) lost piece)))
    (cases_lt k (length cs))

pub told_read : {E : Type 0} (cs now : List Connection) (begun : ℕ) (result : Result ℕ E) (buffer : List ℕ)
    → now ≡ changed_current begun (after_read result) cs → IfOk result (λ n. HasCurrent begun cs × Gave (current_of begun cs).left n buffer)
    → Receives (told cs begun) (told now begun) result buffer
told_read {E} cs now begun result buffer is ok =
    subst (λ l. Receives {E = E} (told cs begun) (told l begun) result buffer) (sym is) (read_told cs begun result buffer ok)

pub told_write : {E : Type 0} (cs now : List Connection) (begun : ℕ) (result : Result ℕ E) (piece : List ℕ)
    → now ≡ changed_current begun (after_write piece result) cs → IfOk result (λ n. HasCurrent begun cs)
    → Sends (told cs begun) (told now begun) result piece
told_write {E} cs now begun result piece is ok =
    subst (λ l. Sends {E = E} (told cs begun) (told l begun) result piece) (sym is) (write_told cs begun result piece ok)

pub gave_current : (current c : Connection) (n fits : ℕ) (buffer : List ℕ) → current ≡ c → take n buffer ≡ take n c.left
    → fits ≡ min (length c.left) (length buffer) → (0 < fits → 0 < n) → Gave current.left n buffer
gave_current current c n fits buffer is bytes room some = record {
  bytes = bytes ∙ ap (λ d. take n d.left) (sym is);
  some = λ h. some (rw (room, ← is) h);
}

-- ---- a connection begins

-- the connection is new, and broken where its call failed
record IsNew (went : Bool) (c : Connection) : Type 0 where
  came : c.came ≡ []
  written : c.written ≡ []
  broke : c.broke ≡ (if went then false else true)

is-new : {A E : Type 0} (cs : List Connection) (n : ℕ) (result : Result A E) → (is_ok result ≡ true → n < length cs)
    → IsNew (is_ok result) (slice_index_or (changed_at n (anew (is_ok result)) cs) n lost)
is-new [] n (Ok a) ok = absurd (omega (arith, ok refl))
is-new [] n (Err e) ok = record { came = refl; written = refl; broke = refl }
is-new (c ∷ cs) zero result ok = record { came = refl; written = refl; broke = refl }
is-new (c ∷ cs) (suc n) result ok = is-new cs n result (λ went. omega (arith, ok went))

new_begins : {A E : Type 0} (old : Connections) (before earlier : List Connection) (c : Connection) (result : Result A E)
    → old.earlier ≡ Some before → all_begun old ≡ Some earlier → IsNew (is_ok result) c → Begins old (now_at earlier c) result
new_begins old before earlier c result is all new = record {
  earlier = sym all;
  left = sym (ap (λ o. is_some o) is);
  came = rw (is, new.came) refl;
  written = rw (is, new.written) refl;
  broke = new.broke;
}

-- the earlier ones once another connection begins, while there are fewer than can be counted
all-begun : (cs : List Connection) (n : ℕ) → n < most_connections → all_begun (told cs n) ≡ Some (first_begun n cs)
all-begun cs zero few = refl
all-begun cs (suc n) few =
    let test : nat_lt (length (first_begun n cs) + 1) most_connections ≡ true = grind (arith, nat_tests, length-first n cs) in
    ap (λ b. Some (if b then first_begun n cs ++ slice_index_or cs n lost ∷ [] else first_begun n cs)) test ∙ ap (λ l. Some l) (sym (first-next cs n))

-- and once there are as many
all-begun-most : (cs : List Connection) (n : ℕ) → suc n ≡ most_connections → all_begun (told cs (suc n)) ≡ Some (first_begun n cs)
all-begun-most cs n most =
    let test : nat_lt (length (first_begun n cs) + 1) most_connections ≡ false = grind (arith, nat_tests, length-first n cs) in
    ap (λ b. Some (if b then first_begun n cs ++ slice_index_or cs n lost ∷ [] else first_begun n cs)) test

earlier_is : (cs : List Connection) (n : ℕ) → (before : List Connection) × (told cs n).earlier ≡ Some before
earlier_is cs zero = ([], refl)
earlier_is cs (suc n) = (first_begun n cs, refl)

begins_few : {A E : Type 0} (cs : List Connection) (n : ℕ) (result : Result A E) → n < most_connections
    → (is_ok result ≡ true → n < length cs) → Begins (told cs n) (told (changed_at n (anew (is_ok result)) cs) (suc n)) result
begins_few cs n result few ok =
    let before = earlier_is cs n in
    subst (λ earlier. Begins (told cs n) (now_at earlier (slice_index_or (changed_at n (anew (is_ok result)) cs) n lost)) result)
    (sym (first-changed cs n (anew (is_ok result))))
    (new_begins (told cs n) before.0 (first_begun n cs) (slice_index_or (changed_at n (anew (is_ok result)) cs) n lost) result before.1
    (all-begun cs n few) (is-new cs n result ok))

begins_most : {A E : Type 0} (cs : List Connection) (n m : ℕ) (result : Result A E) → n ≡ suc m → n ≡ most_connections → length cs < n
    → (is_ok result ≡ true → n < length cs) → Begins (told cs n) (told (changed_at n (anew (is_ok result)) cs) n) result
begins_most {A} {E} cs n m (Ok a) is most short ok = absurd (omega (arith, ok refl, short))
begins_most {A} {E} cs n m (Err e) is most short ok =
    let same : changed_at n (anew false) cs ≡ cs = changed-past cs n (anew false) (omega (arith, short)) in
    let past : length cs ≤ m = omega (arith, short, is) in
    subst (λ l. Begins {A = A} {E = E} (told cs n) (told l n) (Err e)) (sym same)
    (subst (λ k. Begins {A = A} {E = E} (told cs k) (told cs k) (Err e)) (sym is)
    (subst (λ t. Begins {A = A} {E = E} t t (Err e)) (sym (told-past cs m past))
    (new_begins (now_at (first_begun m cs) lost) (first_begun m cs) (first_begun m cs) lost (Err e) refl
    (sym (ap (λ t. all_begun t) (told-past cs m past)) ∙ all-begun-most cs m (sym is ∙ most)) record { came = refl; written = refl; broke = refl })))

told_next : {A E : Type 0} (cs : List Connection) (begun : ℕ) (result : Result A E) → begun ≤ most_connections → length cs < most_connections
    → (is_ok result ≡ true → begun < length cs) → Begins (told cs begun) (told (changed_at begun (anew (is_ok result)) cs) (next_count begun)) result
told_next cs begun result bound short ok =
    ⊎_elim
    (λ few. let next : next_count begun ≡ suc begun = omega (arith, few) in
    subst (λ k. Begins (told cs begun) (told (changed_at begun (anew (is_ok result)) cs) k) result) (sym next) (begins_few cs begun result few ok))
    (λ most. let same : next_count begun ≡ begun = omega (arith, bound, most) in
    subst (λ k. Begins (told cs begun) (told (changed_at begun (anew (is_ok result)) cs) k) result) (sym same)
    (begins_most cs begun (begun - 1) result (omega (arith, bound, most)) (omega (arith, bound, most)) (omega (arith, short, bound, most)) ok))
    (cases_lt begun most_connections)

pub told_begin : {A E : Type 0} (cs now : List Connection) (begun after : ℕ) (result : Result A E) → now ≡ changed_at begun (anew (is_ok result)) cs
    → after ≡ next_count begun → begun ≤ most_connections → length cs < most_connections → (is_ok result ≡ true → begun < length cs)
    → Begins (told cs begun) (told now after) result
told_begin {A} {E} cs now begun after result is next bound short ok =
    subst (λ l. Begins {A = A} {E = E} (told cs begun) (told l after) result) (sym is)
    (subst (λ k. Begins {A = A} {E = E} (told cs begun) (told (changed_at begun (anew (is_ok result)) cs) k) result) (sym next)
    (told_next cs begun result bound short ok))

pub on_err : {A E : Type 0} (result : Result A E) (P : Type 0) → (IsErr result → P) → OnErr result P
on_err (Ok a) P fails = tt
on_err (Err e) P fails = fails refl

pub of_ok : {A E : Type 0} (result : Result A E) (P : Type 0) → OnOk result P → false ≡ is_err result → P
of_ok (Ok a) P holds went = holds
of_ok (Err e) P holds went = absurd (true≢false (sym went))

pub of_err : {A E : Type 0} (result : Result A E) (P : Type 0) → OnErr result P → true ≡ is_err result → P
of_err (Ok a) P holds failed = absurd (true≢false failed)
of_err (Err e) P holds failed = holds
