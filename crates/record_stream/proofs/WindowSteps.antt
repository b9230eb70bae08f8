-- A window from one line to the next.
use Rattle.std.proofs.Common.{◌≡◌, ℕ, zero, suc, ◌+◌, ◌*◌, ◌<◌, ◌≤◌, List, Result, Ok, Err, refl, sym, ◌∙◌, subst, arith}
use Rattle.select_ports.specs.Causes.{RoseBy}
use Rattle.select_ports.specs.Stored.{Opened, IsOpen}
use Rattle.select_ports.specs.declared.outcome.Failed.{Failed}
use Rattle.line_window.specs.Sliding.{View, SameRules, Took, Tells, Holds, IsSound, left}
use Rattle.line_window.specs.Answers.{Turns, IsNext, IsNextCut, IsWithin}
use Rattle.line_window.specs.declared.line.Line.TheVariants.{At, TooLong, End}
use Rattle.line_window.specs.declared.line.Line.{Line}

pub open_stays : (o p : Opened) (n m : ℕ) → p ≡ o → m ≡ n → IsOpen o n → IsOpen p m
open_stays o p n m is same open_ = subst (λ (q : Opened). IsOpen q m) (sym is) (subst (IsOpen o) (sym same) open_)

pub rules_stay : (u v w : View) → SameRules u v → SameRules v w → SameRules u w
rules_stay u v w first second = record {
  size = second.size ∙ first.size;
  stop = second.stop ∙ first.stop;
  longest = second.longest ∙ first.longest;
  delimiter = second.delimiter ∙ first.delimiter;
}

pub same_rules : (v : View) → SameRules v v
same_rules v = record { size = refl; stop = refl; longest = refl; delimiter = refl }

pub took_none : (n before : ℕ) → n ≡ 0 → Took n before before
took_none n before is = record { none = λ _. refl; some = λ some. absurd (omega arith) }

rose_twice : (n m a b c : ℕ) → Took n a b → Took m b c → 0 < n + m → RoseBy (n + m) a c
rose_twice zero zero a b c first second some = absurd (omega arith)
rose_twice zero (suc m) a b c first second some =
    let same = first.none refl in
    let rose = second.some (omega arith) in
    omega arith
rose_twice (suc n) zero a b c first second some =
    let same = second.none refl in
    let rose = first.some (omega arith) in
    omega arith
rose_twice (suc n) (suc m) a b c first second some =
    let rose = first.some (omega arith) in
    let again = second.some (omega arith) in
    omega arith

pub took_more : (n m k a b c : ℕ) → k ≡ n + m → Took n a b → Took m b c → Took k a c
took_more n m k a b c is first second =
    subst (λ j. Took j a c) (sym is)
    (record { none = λ z. second.none (omega arith) ∙ first.none (omega arith); some = rose_twice n m a b c first second })

pub took_at_most : (n a b : ℕ) → Took n a b → b ≤ a + n
took_at_most zero a b took = let same = took.none refl in omega arith
took_at_most (suc n) a b took = let rose = took.some (omega arith) in omega arith

-- no more was read than lies before the place and in the buffer, and as much as a header may have
pub read_near : (v : View) (longest upto : ℕ) → IsSound v → v.longest ≡ longest → upto ≤ v.upto + (longest + 65541)
    → upto < v.place + (2 * longest + 5 * 65536)
read_near v longest upto sound is within =
    let kept = sound.kept in
    let room = sound.room in
    omega arith

-- no line was given
pub not_given : (opened : Opened) (v w : View) (result : Result Line Failed) (failed : Failed) (before now : ℕ) (object : List ℕ) → Turns opened v w result before now
    → result ≡ Err failed → (told : Opened) → opened ≡ told → Tells told object → Holds object v → Holds object w × (left object w ≡ left object v)
not_given opened v w result failed before now object turns is told same tells holds =
    let next = turns.told object (same ∙ tells) holds in
    (next.0, subst (λ (r : Result Line Failed). IsNext v.longest (left object v) (left object w) r) is next.1)

-- a line was given
pub given : (opened : Opened) (v w : View) (result : Result Line Failed) (line : Line) (before now : ℕ) (object : List ℕ) → Turns opened v w result before now
    → result ≡ Ok line → (told : Opened) → opened ≡ told → Tells told object → Holds object v → Holds object w × IsNextCut v.longest (left object v) (left object w) line
given opened v w result line before now object turns is told same tells holds =
    let next = turns.told object (same ∙ tells) holds in
    (next.0, subst (λ (r : Result Line Failed). IsNext v.longest (left object v) (left object w) r) is next.1)

-- a line within a limit is within a higher one
pub within_more : (n m : ℕ) (line : Line) → n ≤ m → IsWithin n line → IsWithin m line
within_more n m (At start bytes whole) up short = omega arith
within_more n m (TooLong start) up short = tt
within_more n m End up short = tt
