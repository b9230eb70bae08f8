-- Connections in memory by their numbers.
use Rattle.std.proofs.Common.{◌≡◌, ℕ, zero, suc, ◌+◌, ◌-◌, ◌<◌, ◌≤◌, List, [], ◌∷◌, ◌++◌, Bool, length, take, drop, slice_index_or, slice_set, refl, sym, ap, ◌∙◌, arith}
use Rattle.std.proofs.Math.Seq.{take-add}
use Rattle.std.proofs.lemmas.List.{drop-drop}
use Rattle.network_ports.specs.Told.{Connection}
use Rattle.network_ports.specs.Scripted.{lost, first_begun, changed_at, changed_current, current_of, received}

pub index-past : (cs : List Connection) (n : ℕ) → length cs ≤ n → slice_index_or cs n lost ≡ lost
index-past [] n past = refl
index-past (c ∷ cs) zero past = absurd (omega (arith, past))
index-past (c ∷ cs) (suc n) past = index-past cs n (omega (arith, past))

pub index-within : (cs : List Connection) (n : ℕ) (d : Connection) → n < length cs → slice_index_or cs n lost ≡ slice_index_or cs n d
index-within [] n d within = absurd (omega (arith, within))
index-within (c ∷ cs) zero d within = refl
index-within (c ∷ cs) (suc n) d within = index-within cs n d (omega (arith, within))

pub changed-past : (cs : List Connection) (n : ℕ) (change : Connection → Connection) → length cs ≤ n → changed_at n change cs ≡ cs
changed-past [] n change past = refl
changed-past (c ∷ cs) zero change past = absurd (omega (arith, past))
changed-past (c ∷ cs) (suc n) change past = ap (λ l. c ∷ l) (changed-past cs n change (omega (arith, past)))

pub index-changed : (cs : List Connection) (n : ℕ) (change : Connection → Connection) → n < length cs
    → slice_index_or (changed_at n change cs) n lost ≡ change (slice_index_or cs n lost)
index-changed [] n change within = absurd (omega (arith, within))
index-changed (c ∷ cs) zero change within = refl
index-changed (c ∷ cs) (suc n) change within = index-changed cs n change (omega (arith, within))

pub first-changed : (cs : List Connection) (n : ℕ) (change : Connection → Connection) → first_begun n (changed_at n change cs) ≡ first_begun n cs
first-changed cs zero change = refl
first-changed [] (suc n) change = refl
first-changed (c ∷ cs) (suc n) change = ap (λ l. c ∷ l) (first-changed cs n change)

pub first-next : (cs : List Connection) (n : ℕ) → first_begun (suc n) cs ≡ first_begun n cs ++ slice_index_or cs n lost ∷ []
first-next [] zero = refl
first-next (c ∷ cs) zero = refl
first-next [] (suc n) = ap (λ l. lost ∷ l) (first-next [] n)
first-next (c ∷ cs) (suc n) = ap (λ l. c ∷ l) (first-next cs n)

pub length-first : (n : ℕ) (cs : List Connection) → length (first_begun n cs) ≡ n
length-first zero cs = refl
length-first (suc n) [] = ap (λ k. suc k) (length-first n [])
length-first (suc n) (c ∷ cs) = ap (λ k. suc k) (length-first n cs)

-- a connection that was lent ends changed
pub set-changed : (cs : List Connection) (n : ℕ) (change : Connection → Connection) (before now : Connection) → n < length cs
    → before ≡ slice_index_or cs n before → now ≡ change before → slice_set cs n now ≡ changed_at n change cs
set-changed [] n change before now within here is = absurd (omega (arith, within))
set-changed (c ∷ cs) zero change before now within here is = ap (λ d. d ∷ cs) (is ∙ ap change here)
set-changed (c ∷ cs) (suc n) change before now within here is = ap (λ l. c ∷ l) (set-changed cs n change before now (omega (arith, within)) here is)

-- a connection of which so many bytes came
abbrev pub come_by : List ℕ → ℕ → List ℕ → Bool → Connection
come_by incoming taken written broke = record { left = drop taken incoming; came = take taken incoming; written = written; broke = broke }

pub come_further : (incoming : List ℕ) (taken n : ℕ) (written : List ℕ) (broke : Bool)
    → come_by incoming (taken + n) written broke ≡ received n (come_by incoming taken written broke)
come_further incoming taken n written broke =
    ap (λ l. record { left = l; came = take (taken + n) incoming; written = written; broke = broke }) (sym (drop-drop n taken incoming))
    ∙ ap (λ l. record { left = drop n (drop taken incoming); came = l; written = written; broke = broke }) (take-add taken n incoming)

-- ---- the current connection, whose place is one below the number of those that were begun

pub current-set : (cs : List Connection) (begun place : ℕ) (change : Connection → Connection) (before now : Connection) → 1 ≤ begun
    → place ≡ begun - 1 → place < length cs → before ≡ slice_index_or cs place before → now ≡ change before
    → slice_set cs place now ≡ changed_current begun change cs
current-set cs zero place change before now some here within is new = absurd (omega (arith, some))
current-set cs (suc k) place change before now some here within is new =
    let same : place ≡ k = omega (arith, here) in
    set-changed cs place change before now within is new ∙ ap (λ n. changed_at n change cs) same

pub current-past : (cs : List Connection) (begun place : ℕ) (change : Connection → Connection) → 1 ≤ begun → place ≡ begun - 1
    → length cs ≤ place → cs ≡ changed_current begun change cs
current-past cs zero place change some here past = absurd (omega (arith, some))
current-past cs (suc k) place change some here past = sym (changed-past cs k change (omega (arith, here, past)))

pub current-is : (cs : List Connection) (begun place : ℕ) (before : Connection) → 1 ≤ begun → place ≡ begun - 1 → place < length cs
    → before ≡ slice_index_or cs place before → current_of begun cs ≡ before
current-is cs zero place before some here within is = absurd (omega (arith, some))
current-is cs (suc k) place before some here within is =
    let same : place ≡ k = omega (arith, here) in
    ap (λ n. slice_index_or cs n lost) (sym same) ∙ index-within cs place before within ∙ sym is
