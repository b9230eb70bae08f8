-- What the calls of a sink, one after another, add to the bytes that are told.
use Rattle.std.proofs.Common.{◌≡◌, ℕ, zero, suc, ◌+◌, ◌-◌, ◌<◌, ◌≤◌, List, ◌++◌, Option, None, Some, length, take, drop, refl, sym, ap, ◌∙◌, subst, arith, take-append-drop, append_assoc}
use Rattle.std.proofs.lemmas.List.{take-take, drop-drop}
use Rattle.std.proofs.Math.Seq.{take-add}
use Rattle.std.specs.Io.KnownBytes.{Appends, Keeps}
use Rattle.std.proofs.KnownBytes.{Appends-trans}
use Rattle.select_ports.specs.Streams.{IsFront, AppendsFront}

pub take-piece : (bytes : List ℕ) (done n : ℕ) → n ≤ length bytes - done
    → take (done + n) bytes ≡ take done bytes ++ take n (take (length bytes - done) (drop done bytes))
take-piece bytes done n within =
    take-add done n bytes ∙ ap (λ l. take done bytes ++ l) (sym (take-take n (length bytes - done) (drop done bytes) within))

-- a piece was added after the bytes before it
pub appends-piece : (a b c : Option (List ℕ)) (bytes : List ℕ) (done n : ℕ) → n ≤ length bytes - done
    → Appends a b (take done bytes) → Appends b c (take n (take (length bytes - done) (drop done bytes))) → Appends a c (take (done + n) bytes)
appends-piece a b c bytes done n within first second =
    subst (Appends a c) (sym (take-piece bytes done n within)) (Appends-trans a b c _ _ first second)

pub appends-kept : (a b c : Option (List ℕ)) (bytes : List ℕ) → Appends a b bytes → Keeps b c → Appends a c bytes
appends-kept None b c bytes first kept = tt
appends-kept (Some x) None c bytes first kept = absurd first
appends-kept (Some x) (Some y) None bytes first kept = absurd kept
appends-kept (Some x) (Some y) (Some z) bytes first kept = kept ∙ first

pub front-take : (bytes : List ℕ) (done : ℕ) → IsFront (take done bytes) bytes
front-take bytes done = record { rest = drop done bytes; joined = sym (take-append-drop done bytes) }

-- a call failed after a front was added
pub appends-front : (a b c : Option (List ℕ)) (bytes : List ℕ) (done : ℕ) → Appends a b (take done bytes) → Keeps b c → AppendsFront a c bytes
appends-front a b c bytes done first kept =
    record { front = take done bytes; is_front = front-take bytes done; appended = appends-kept a b c _ first kept }

-- n bytes were read from a place on
pub read-piece : (bytes lent got left : List ℕ) (at n : ℕ) → lent ≡ bytes → drop at bytes ≡ left → n ≤ length bytes - at
    → take n got ≡ take n (take (length lent - at) (drop at lent)) → left ≡ take n got ++ drop (at + n) bytes
read-piece bytes lent got left at n same here within copied =
    let front : take n got ≡ take n (drop at bytes) =
    rw same at copied ∙ take-take n (length bytes - at) (drop at bytes) within in
    sym here ∙ sym (take-append-drop n (drop at bytes)) ∙ ap (λ l. l ++ drop n (drop at bytes)) (sym front)
    ∙ ap (λ l. take n got ++ l) (drop-drop n at bytes)

-- where something would have been given, had there been something, there was nothing
pub none-left : (n m : ℕ) → (0 < m → 0 < n) → n ≡ 0 → m ≡ 0
none-left n zero some none = refl
none-left n (suc m) some none = absurd (omega (arith, some (omega arith)))

front-joined : (first whole front : List ℕ) (more : List ℕ) → IsFront front whole → IsFront (first ++ front) (first ++ (whole ++ more))
front-joined first whole front more is = record {
  rest = is.rest ++ more;
  joined = ap (λ l. first ++ (l ++ more)) is.joined ∙ ap (λ l. first ++ l) (append_assoc front is.rest more)
      ∙ sym (append_assoc first front (is.rest ++ more));
}

-- a front of a second part was added after the whole of a first
pub appends-front-after : (a b c : Option (List ℕ)) (first second more : List ℕ) → Appends a b first → AppendsFront b c second
    → AppendsFront a c (first ++ (second ++ more))
appends-front-after a b c first second more added front = record {
  front = first ++ front.front;
  is_front = front-joined first second front.front more front.is_front;
  appended = Appends-trans a b c first front.front added front.appended;
}
