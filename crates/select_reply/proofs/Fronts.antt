-- The shortest front of a list that passes a test.
use Rattle.std.proofs.Common.{◌≡◌, Bool, true, false, List, [], ◌∷◌, ◌++◌, refl, sym, ap, ◌∙◌, subst, append-nil, if◌then◌else◌}
use Rattle.select_reply.specs.Answers.{shortest_front}

-- no front of the list passes, nor does the list
abbrev pub NoFront : {A : Type 0} → (List A → Bool) → List A → Type 0
NoFront {A} test xs = (front back : List A) → xs ≡ front ++ back → test front ≡ false

module _ {A : Type 0} where
  -- where no front of a list passes, the search goes on behind it
  pub front-behind : (test : List A → Bool) (xs ts : List A) → NoFront test xs
      → shortest_front test (xs ++ ts) ≡ xs ++ shortest_front (λ front. test (xs ++ front)) ts
  front-behind test [] ts none = refl
  front-behind test (x ∷ xs) ts none =
      rw (none [] (x ∷ xs) refl)
      (ap (λ l. x ∷ l) (front-behind (λ front. test (x ∷ front)) xs ts (λ front back is. none (x ∷ front) back (ap (λ l. x ∷ l) is))))

  -- where a list passes, what stands behind it doesn't matter
  pub front-within : (test : List A → Bool) (xs ts : List A) → test xs ≡ true → shortest_front test (xs ++ ts) ≡ shortest_front test xs
  front-within test [] [] passes = refl
  front-within test [] (t ∷ ts) passes = rw passes refl
  front-within test (x ∷ xs) ts passes = ap (λ l. if test [] then [] else x ∷ l) (front-within (λ front. test (x ∷ front)) xs ts passes)

  -- the first element whose test passes behind a list that doesn't
  pub front-one : (test : List A → Bool) (xs : List A) (y : A) (ts : List A) → NoFront test xs → test (xs ++ y ∷ []) ≡ true
      → shortest_front test (xs ++ y ∷ ts) ≡ xs ++ y ∷ []
  front-one test xs y ts none passes =
      front-behind test xs (y ∷ ts) none
      ∙ ap (λ l. xs ++ l) (rw (none (xs ++ []) [] (sym (append-nil (xs ++ []) ∙ append-nil xs))) (ap (λ l. y ∷ l) (front-first ts)))
    where
      front-first : (ts : List A) → shortest_front (λ front. test (xs ++ y ∷ front)) ts ≡ []
      front-first [] = refl
      front-first (t ∷ ts) = rw passes refl

  -- a list of which no front passes is its own
  pub front-all : (test : List A → Bool) (xs : List A) → NoFront test xs → shortest_front test xs ≡ xs
  front-all test xs none = ap (shortest_front test) (sym (append-nil xs)) ∙ front-behind test xs [] none ∙ append-nil xs

  -- tests that answer alike find the same front
  pub front-same : (test other : List A → Bool) (xs : List A) → ((front : List A) → test front ≡ other front) → shortest_front test xs ≡ shortest_front other xs
  front-same test other [] same = refl
  front-same test other (x ∷ xs) same =
      ap (λ b. if b then [] else x ∷ shortest_front (λ front. test (x ∷ front)) xs) (same [])
      ∙ ap (λ l. if other [] then [] else x ∷ l) (front-same (λ front. test (x ∷ front)) (λ front. other (x ∷ front)) xs (λ front. same (x ∷ front)))

  -- what is found is a front
  pub front-is : (test : List A → Bool) (xs : List A) → (back : List A) × (xs ≡ shortest_front test xs ++ back)
  front-is test [] = ([], refl)
  front-is test (x ∷ xs) =
      let rest = front-is (λ front. test (x ∷ front)) xs in
      let P : Bool → Type 0 = λ b. (back : List A) × (x ∷ xs ≡ (if b then [] else x ∷ shortest_front (λ front. test (x ∷ front)) xs) ++ back) in
      elim (test []) as P [ true ↦ (x ∷ xs, refl) | false ↦ (rest.0, ap (λ l. x ∷ l) rest.1) ]

  -- where the list passes, so does the front that is found
  pub front-passes : (test : List A → Bool) (xs : List A) → test xs ≡ true → test (shortest_front test xs) ≡ true
  front-passes test [] h = h
  front-passes test (x ∷ xs) h =
      let rest = front-passes (λ front. test (x ∷ front)) xs h in
      let P : Bool → Type 0 = λ b. test [] ≡ b → test (if b then [] else x ∷ shortest_front (λ front. test (x ∷ front)) xs) ≡ true in
      (elim (test []) as P [ true ↦ (λ e. e) | false ↦ (λ e. rest) ]) refl
