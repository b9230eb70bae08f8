-- An input has one ending, and one output is listed of it.
use Rattle.std.proofs.Common.{◌≡◌, ℕ, ◌<◌, ◌≤◌, ◌⊎◌, List, [], ◌∷◌, ◌++◌, length, take, Bool, true, false, ◌+◌, ◌-◌, Option, None, Some, refl, sym, ap, ◌∙◌, subst, inl, inr, arith}
use Rattle.std.specs.Prelude.{codes, MatchOption}
use Rattle.std.specs.List.{list_any}
use Rattle.std.proofs.lemmas.List.{take_all}
use Rattle.event_frame.specs.declared.counts.Counts.{Counts}
use Rattle.event_frame.specs.declared.fault.FrameFaultCode.{FrameFaultCode}
use Rattle.event_frame.specs.CountsText.{HasNoCounts, ReadsCounts}
use Rattle.event_frame.specs.Event.{Event, records, cont, progress, stats, end, error}
use Rattle.event_frame.specs.Stream.{Reads, IsSameReading}
use Rattle.select_tool.specs.declared.listing.Listing.{Listing}
use Rattle.select_tool.specs.declared.listing.Listing.TheVariants.{Lines, Payloads}
use Rattle.select_tool.specs.Statuses.{line}
use Rattle.select_tool.specs.Lines.{IsLine, IsCountsLine, numbers}
use Rattle.select_tool.specs.Endings.{longest_input, Ending, replied, bad, long, are_replies, is_error, IsReplied, GoesBad, EndsEarly, IsLong, EndsWith}
use Rattle.select_tool.specs.Listings.{Adds, Lists, IsListed, IsOneAnswer}
use Rattle.select_tool.proofs.ListingLaws.{OneReading}

-- a payload spells one set of counts
abbrev pub OneCounts : Type 0
OneCounts = (name payload : List ℕ) (counts other : Counts) → ReadsCounts name payload counts → ReadsCounts name payload other → counts ≡ other

-- ---- one line

same_read : OneCounts → (name payload : List ℕ) (a b : Option Counts)
    → MatchOption a (HasNoCounts name payload) (ReadsCounts name payload) → MatchOption b (HasNoCounts name payload) (ReadsCounts name payload) → a ≡ b
same_read law name payload None None first second = refl
same_read law name payload None (Some d) first second = absurd (first d second)
same_read law name payload (Some c) None first second = absurd (second c first)
same_read law name payload (Some c) (Some d) first second = ap (λ x. Some x) (law name payload c d first second)

same_counts_line : OneCounts → (name payload a b : List ℕ) → IsCountsLine name payload a → IsCountsLine name payload b → a ≡ b
same_counts_line law name payload a b first second =
    first.spelled
    ∙ ap (λ (c : Option Counts). line (name ++ codes " " ++ numbers c)) (same_read law name payload first.counts second.counts first.read second.read)
    ∙ sym second.spelled

same_line : OneCounts → (event : Event) (a b : List ℕ) → IsLine event a → IsLine event b → a ≡ b
same_line law (records output) a b first second = first ∙ sym second
same_line law cont a b first second = first ∙ sym second
same_line law (progress payload) a b first second = same_counts_line law (codes "Progress") payload a b first second
same_line law (stats payload) a b first second = same_counts_line law (codes "Stats") payload a b first second
same_line law end a b first second = first ∙ sym second
same_line law (error code message) a b first second = first ∙ sym second

same_added : OneCounts → (listing : Listing) (event : Event) (a b : List ℕ) → Adds listing event a → Adds listing event b → a ≡ b
same_added law Lines event a b first second = same_line law event a b first second
same_added law Payloads event a b first second = first ∙ sym second

same_output : OneCounts → (listing : Listing) (events : List Event) (a b : List ℕ) → Lists listing events a → Lists listing events b → a ≡ b
same_output law listing [] a b first second = first ∙ sym second
same_output law listing (e ∷ events) a b first second =
    first.4 ∙ ap (λ l. l ++ first.1) (same_added law listing e first.0 second.0 first.2 second.2)
    ∙ ap (λ l. second.0 ++ l) (same_output law listing events first.1 second.1 first.3 second.3) ∙ sym second.4

-- ---- one ending

within_reads : (input : List ℕ) (events : List Event) (rest : List ℕ) (fault : Option (FrameFaultCode × ℕ)) → length input ≤ longest_input
    → Reads input events rest fault → Reads (take longest_input input) events rest fault
within_reads input events rest fault within reads =
    subst (λ (l : List ℕ). Reads l events rest fault) (sym (take_all longest_input input within)) reads

-- where the fault stands in its frame
abbrev place_in : Option (FrameFaultCode × ℕ) → ℕ
place_in None = 0
place_in (Some fault) = fault.1

no_fault : {A : Type 0} (x : A) → None ≡ Some x → ⊥
no_fault x e = cc

not_both : (a b : Bool) → a ≡ b → a ≡ true → b ≡ false → ⊥
not_both a b same is other = cc

-- an input that is replies doesn't end early
replied_early : (input : List ℕ) (events other : List Event) (erred : Bool) (place : ℕ) → IsReplied input events erred → (e : EndsEarly input other place)
    → events ≡ other → [] ≡ e.rest → ⊥
replied_early input events other erred place r e same none = by_cause e.unfinished
  where
    by_cause : (0 < length e.rest) ⊎ (are_replies other ≡ false) → ⊥
    by_cause (inl some) = omega (arith, some, ap length none)
    by_cause (inr open_) = not_both (are_replies events) (are_replies other) (ap are_replies same) r.replies open_

-- the bytes that are read are read in one way
same_read_of : OneReading → (input : List ℕ) (events other : List Event) (rest other_rest : List ℕ) (fault other_fault : Option (FrameFaultCode × ℕ))
    → Reads (take longest_input input) events rest fault → Reads (take longest_input input) other other_rest other_fault
    → IsSameReading events other rest other_rest fault other_fault
same_read_of law input events other rest other_rest fault other_fault first second =
    law (take longest_input input) rest other_rest events other fault other_fault first second

same_place : (input rest rest' : List ℕ) (at at' place place' : ℕ) → rest ≡ rest' → at ≡ at'
    → place ≡ length (take longest_input input) - length rest + at → place' ≡ length (take longest_input input) - length rest' + at' → place ≡ place'
same_place input rest rest' at at' place place' same_rest same_at is is' =
    omega (arith, ap length same_rest, same_at, is, is')

-- the events and the ending of an input
pub record SameMeaning (events other : List Event) (ending other_ending : Ending) : Type 0 where
  pub same_events : events ≡ other
  pub same_ending : ending ≡ other_ending

replied_read : (input : List ℕ) (events : List Event) (erred : Bool) → IsReplied input events erred → Reads (take longest_input input) events [] None
replied_read input events erred r = within_reads input events [] None r.within r.reads

early_read : (input : List ℕ) (events : List Event) (place : ℕ) → (e : EndsEarly input events place) → Reads (take longest_input input) events e.rest None
early_read input events place e = within_reads input events e.rest None e.within e.reads

replied_replied : OneReading → (input : List ℕ) (events other : List Event) (a b : Bool) → IsReplied input events a → IsReplied input other b
    → SameMeaning events other (replied a) (replied b)
replied_replied law input events other a b x y =
    let same = same_read_of law input events other [] [] None None (replied_read input events a x) (replied_read input other b y) in
    record {
      same_events = same.same_events;
      same_ending = ap (λ f. replied f) (x.told ∙ ap (list_any is_error) same.same_events ∙ sym y.told);
    }

replied_bad : OneReading → (input : List ℕ) (events other : List Event) (a : Bool) (place : ℕ) → IsReplied input events a
    → GoesBad input other place ⊎ EndsEarly input other place → ⊥
replied_bad law input events other a place x (inl y) =
    let same = same_read_of law input events other [] y.rest None (Some (y.code, y.at)) (replied_read input events a x) y.reads in
    no_fault (y.code, y.at) same.same_fault
replied_bad law input events other a place x (inr y) =
    let same = same_read_of law input events other [] y.rest None None (replied_read input events a x) (early_read input other place y) in
    replied_early input events other a place x y same.same_events same.same_rest

bad_bad : OneReading → (input : List ℕ) (events other : List Event) (p q : ℕ) → GoesBad input events p ⊎ EndsEarly input events p
    → GoesBad input other q ⊎ EndsEarly input other q → SameMeaning events other (bad p) (bad q)
bad_bad law input events other p q (inl x) (inl y) =
    let same = same_read_of law input events other x.rest y.rest (Some (x.code, x.at)) (Some (y.code, y.at)) x.reads y.reads in
    record {
      same_events = same.same_events;
      same_ending = ap (λ n. bad n) (same_place input x.rest y.rest x.at y.at p q same.same_rest (ap place_in same.same_fault) x.placed y.placed);
    }
bad_bad law input events other p q (inl x) (inr y) =
    let same = same_read_of law input events other x.rest y.rest (Some (x.code, x.at)) None x.reads (early_read input other q y) in
    absurd (no_fault (x.code, x.at) (sym same.same_fault))
bad_bad law input events other p q (inr x) (inl y) =
    let same = same_read_of law input events other x.rest y.rest None (Some (y.code, y.at)) (early_read input events p x) y.reads in
    absurd (no_fault (y.code, y.at) same.same_fault)
bad_bad law input events other p q (inr x) (inr y) =
    let same = same_read_of law input events other x.rest y.rest None None (early_read input events p x) (early_read input other q y) in
    record { same_events = same.same_events; same_ending = ap (λ n. bad n) (x.placed ∙ sym y.placed) }

bad_long : OneReading → (input : List ℕ) (events other : List Event) (p : ℕ) → GoesBad input events p ⊎ EndsEarly input events p → IsLong input other → ⊥
bad_long law input events other p (inl x) y =
    let same = same_read_of law input events other x.rest y.rest (Some (x.code, x.at)) None x.reads y.reads in
    no_fault (x.code, x.at) (sym same.same_fault)
bad_long law input events other p (inr x) y = omega (arith, x.within, y.over)

long_long : OneReading → (input : List ℕ) (events other : List Event) → IsLong input events → IsLong input other → SameMeaning events other long long
long_long law input events other x y =
    let same = same_read_of law input events other x.rest y.rest None None x.reads y.reads in
    record { same_events = same.same_events; same_ending = refl }

one_meaning : OneReading → (input : List ℕ) (events other : List Event) (ending other_ending : Ending) → EndsWith input events ending
    → EndsWith input other other_ending → SameMeaning events other ending other_ending
one_meaning law input events other (replied a) (replied b) x y = replied_replied law input events other a b x y
one_meaning law input events other (replied a) (bad q) x y = absurd (replied_bad law input events other a q x y)
one_meaning law input events other (replied a) long x y = absurd (omega (arith, x.within, y.over))
one_meaning law input events other (bad p) (replied b) x y = absurd (replied_bad law input other events b p y x)
one_meaning law input events other (bad p) (bad q) x y = bad_bad law input events other p q x y
one_meaning law input events other (bad p) long x y = absurd (bad_long law input events other p x y)
one_meaning law input events other long (replied b) x y = absurd (omega (arith, y.within, x.over))
one_meaning law input events other long (bad q) x y = absurd (bad_long law input other events q y x)
one_meaning law input events other long long x y = long_long law input events other x y

-- ---- one answer

pub one_answer : OneReading → OneCounts → (listing : Listing) (input before now other_now : List ℕ) (ending other_ending : Ending)
    → IsListed listing input ending (Some before) (Some now) → IsListed listing input other_ending (Some before) (Some other_now)
    → IsOneAnswer ending other_ending now other_now
one_answer law counts listing input before now other_now ending other_ending first second =
    let same = one_meaning law input first.events second.events ending other_ending first.ends second.ends in
    let output : first.output ≡ second.output =
    same_output counts listing second.events first.output second.output
    (subst (λ (es : List Event). Lists listing es first.output) same.same_events first.lists) second.lists in
    record {
      same_ending = same.same_ending;
      same_bytes = first.written ∙ ap (λ l. before ++ l) output ∙ sym second.written;
    }
