-- What befell a connection in several reads.
use Rattle.std.proofs.Common.{◌≡◌, ℕ, ◌<◌, true, List, [], ◌++◌, Ok, length, take, drop, sym, ap, subst, ◌∙◌, arith, append_assoc, append-nil, if◌then◌else◌}
use Rattle.std.proofs.Math.Seq.{take-append_seam}
use Rattle.std.proofs.lemmas.Bool.Decides.{nat_tests}
use Rattle.std.specs.Io.KnownBytes.{Appends, Consumes}
use Rattle.std.proofs.KnownBytes.{Appends-trans, Consumes-trans}
use Rattle.select_ports.specs.Turns.{next_count}
use Rattle.network_ports.specs.Calls.{Link, LinkReceives, finds_end}
use Rattle.http_intake.specs.Heads.{RefusesHead}
use Rattle.http_intake.specs.declared.refusal.Refusal.{Refusal}
use Rattle.http_intake.specs.declared.halt.Halt.{Halt}
use Rattle.http_intake.specs.declared.halt.Halt.TheVariants.{Closed, Refused, ReadFault, OutOfMemory}
use Rattle.http_intake.specs.Coming.{Came, IsWell, Comes, Ends, Halts, HasNoHeadYet, LacksHead, LeavesKept}

came_more : (a b c : Link) (xs ys : List ℕ) → Came a b xs → Came b c ys → Came a c (xs ++ ys)
came_more a b c xs ys first second = record {
  left = Consumes-trans a.connections.left b.connections.left c.connections.left xs ys first.left second.left;
  came = Appends-trans a.connections.came b.connections.came c.connections.came xs ys first.came second.came;
  written = second.written ∙ first.written;
  earlier = second.earlier ∙ first.earlier;
  missed = second.missed ∙ first.missed;
  write_faults = second.write_faults ∙ first.write_faults;
  begun_at = second.begun_at ∙ first.begun_at;
}

well_more : (a b c : Link) → IsWell a b → IsWell b c → IsWell a c
well_more a b c first second = record {
  read_faults = second.read_faults ∙ first.read_faults;
  ends = second.ends ∙ first.ends;
  broke = second.broke ∙ first.broke;
}

kept_more : (x y z xs ys : List ℕ) → y ≡ x ++ xs → z ≡ y ++ ys → z ≡ x ++ (xs ++ ys)
kept_more x y z xs ys first second = second ∙ ap (λ l. l ++ ys) first ∙ append_assoc x xs ys

pub comes_more : (a b c : Link) (x y z : List ℕ) → Comes a b x y → Comes b c y z → Comes a c x z
comes_more a b c x y z first second = record {
  bytes = first.bytes ++ second.bytes;
  came = came_more a b c first.bytes second.bytes first.came second.came;
  kept = kept_more x y z first.bytes second.bytes first.kept second.kept;
  well = well_more a b c first.well second.well;
}

pub halts_after : (a b c : Link) (x y z : List ℕ) (halt : Halt) → Comes a b x y → Halts b c y z halt → Halts a c x z halt
halts_after a b c x y z Closed first second = record {
  bytes = first.bytes ++ second.bytes;
  came = came_more a b c first.bytes second.bytes first.came second.came;
  kept = kept_more x y z first.bytes second.bytes first.kept second.kept;
  read_faults = second.read_faults ∙ first.well.read_faults;
  broke = second.broke ∙ first.well.broke;
  rose = omega (arith, first.well.ends, second.rose);
  left = second.left;
}
halts_after a b c x y z (Refused refusal) first (second, refuses) = (comes_more a b c x y z first second, refuses)
halts_after a b c x y z ReadFault first second = record {
  bytes = first.bytes ++ second.bytes;
  came = came_more a b c first.bytes second.bytes first.came second.came;
  kept = kept_more x y z first.bytes second.bytes first.kept second.kept;
  ends = second.ends ∙ first.well.ends;
  broke = second.broke;
  rose = omega (arith, first.well.read_faults, second.rose);
}
halts_after a b c x y z OutOfMemory first second = record {
  bytes = first.bytes ++ second.bytes;
  came = came_more a b c first.bytes second.bytes first.came second.came;
  well = well_more a b c first.well second.well;
}

-- a look keeps what was kept
pub comes_as : (a b : Link) (x y z : List ℕ) → Comes a b x y → z ≡ y → Comes a b x z
comes_as a b x y z comes same = subst (Comes a b x) (sym same) comes

pub refused_as : (a b : Link) (x y z : List ℕ) (refusal : Refusal) → Comes a b x y → z ≡ y → RefusesHead y refusal
    → Comes a b x z × RefusesHead z refusal
refused_as a b x y z refusal comes same refuses = (comes_as a b x y z comes same, subst (λ l. RefusesHead l refusal) (sym same) refuses)

-- ---- the beginning and the end

-- a read of nothing is the connection's end
pub read_end : {E : Type 0} (old new : Link) (n : ℕ) (buffer kept : List ℕ) → n ≡ 0 → 0 < length buffer
    → LinkReceives {E = E} old new (Ok n) buffer → Ends old new kept kept
read_end old new n buffer kept none room read =
    let empty : take n buffer ≡ [] = ap (λ k. take k buffer) none in
    let found : finds_end n buffer ≡ true = grind (arith, nat_tests, none) in
    let count : new.ends ≡ next_count old.ends = read.ends ∙ ap (λ b. if b then next_count old.ends else old.ends) found in
    record {
      bytes = [];
      came = record {
        left = subst (Consumes old.connections.left new.connections.left) empty read.connections.left.0;
        came = subst (Appends old.connections.came new.connections.came) empty read.connections.came;
        written = read.connections.written;
        earlier = read.connections.earlier;
        missed = read.missed;
        write_faults = read.write_faults;
        begun_at = read.begun_at;
      };
      kept = sym (append-nil kept);
      read_faults = read.read_faults.counted;
      broke = read.connections.broke;
      rose = omega (arith, count);
      left = read.connections.left.1 none room;
    }

-- what was written through a loan of all of a list
pub lent_is : {A : Type 0} (n : ℕ) (written before : List A) → length written ≡ n → take n (written ++ drop (length written) before) ≡ written
lent_is n written before size = ap (λ k. take k (written ++ drop (length written) before)) (sym size) ∙ take-append_seam written (drop (length written) before)

-- a read that failed leaves no head where none was
pub lacks_still : (x y z : List ℕ) (halt : Halt) → HasNoHeadYet x → y ≡ x → LeavesKept y z halt → LacksHead z halt
lacks_still x y z Closed lacks same left = subst HasNoHeadYet (sym (left ∙ same)) lacks
lacks_still x y z (Refused refusal) lacks same left = absurd left
lacks_still x y z ReadFault lacks same left = subst HasNoHeadYet (sym (left ∙ same)) lacks
lacks_still x y z OutOfMemory lacks same left = subst HasNoHeadYet (sym (left ∙ same)) lacks
