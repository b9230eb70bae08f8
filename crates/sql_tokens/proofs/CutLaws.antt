-- Tokens in front of a text, as the code cuts them.
use Rattle.std.proofs.Common.{◌≡◌, ℕ, suc, ◌+◌, ◌<◌, ◌==◌, ◌&&◌, Bool, true, false, List, [], ◌∷◌, length, take, drop, refl, sym, arith, eqb-true, ne_eqb, if◌then◌else◌, Option, Some, None, subst}
use Rattle.std.proofs.lemmas.List.{length-take-le}
use Rattle.sql_tokens.specs.declared.class.Class.{Class}
use Rattle.sql_tokens.specs.declared.class.Class.TheVariants.{LeftParenthesis, RightParenthesis, Comma, Dot, LeftBracket, RightBracket, Star, Plus, Minus, Slash, Percent, Equal, NotEqual, Less, LessOrEqual, Greater, GreaterOrEqual, Semicolon}
use Rattle.sql_tokens.specs.TokenForms.{quoted_name, text_literal, punctuation, punctuation_length, name_by, text_by, is_called, begins, less_by, greater_by, single, single_token, punctuation_token}
use Rattle.sql_tokens.specs.Fronts.{IsAsciiFront}
use Rattle.sql_tokens.proofs.AsciiLaws.{behind_one, no_front}

drop_two : (n : ℕ) (bs : List ℕ) → drop (n + 1) (drop 1 bs) ≡ drop (n + 2) bs
drop_two n [] = let e : n + 2 ≡ suc (n + 1) = omega arith in let f : n + 1 ≡ suc n = omega arith in rw (e, f) refl
drop_two n (b ∷ bs) = let e : n + 2 ≡ suc (n + 1) = omega arith in rw e refl

-- behind a quoted token
pub behind_quoted : (n : ℕ) (bs : List ℕ) → n < length (drop 1 bs) → drop (n + 1) (drop 1 bs) ≡ drop (length (take n (drop 1 bs)) + 2) bs
behind_quoted n bs l =
    let e : length (take n (drop 1 bs)) ≡ n = length-take-le n (drop 1 bs) (omega arith) in rw e (drop_two n bs)

-- a text that closes
pub text_closed : (n : ℕ) (o : Option ℕ) (bs : List ℕ) → Some n ≡ o → text_literal (take n bs) ≡ text_by o bs
text_closed n o bs e = rw (sym e) refl

-- a name that closes, and isn't empty
pub name_closed : (n : ℕ) (o : Option ℕ) (called : Bool) (bs : List ℕ) → Some n ≡ o → (n ≡ 0 → ⊥) → called ≡ is_called (drop (n + 1) bs) → quoted_name called (take n bs) ≡ name_by o bs
name_closed n o called bs e z i = let t : (n == 0) ≡ false = ne_eqb n 0 z in rw (sym e, t, i) refl

-- ---- symbols end behind an ASCII byte

begun : (k : ℕ) (bs : List ℕ) → k < 128 → begins (λ b. b == k) bs ≡ true → IsAsciiFront bs 1
begun k [] l e = cc
begun k (b ∷ bs) l e = let i : b ≡ k = eqb-true b k e in let m : b < 128 = omega arith in behind_one b bs 0 m (no_front bs)

record IsSingle (b : ℕ) (c : Class) : Type 0 where
  ascii : b < 128
  size : punctuation_length c ≡ 1

one_more : (b k : ℕ) (x c : Class) (rest : Option Class) → k < 128 → punctuation_length x ≡ 1 → (if b == k then Some x else rest) ≡ Some c → (rest ≡ Some c → IsSingle b c) → IsSingle b c
one_more b k x c rest l s e more =
    let P : Bool → Type 0 = λ t. (b == k) ≡ t → (if t then Some x else rest) ≡ Some c → IsSingle b c in
    (elim (b == k) as P [
      | true ↦ λ t f. let i = eqb-true b k t in let p : x ≡ c = cc in record { ascii = omega arith; size = subst (λ (y : Class). punctuation_length y ≡ 1) p s }
      | false ↦ λ t f. more f
    ]) refl e

singles : (b : ℕ) (c : Class) → single b ≡ Some c → IsSingle b c
singles b c e =
    one_more b 40 LeftParenthesis c _ (omega arith) refl e (λ e. one_more b 41 RightParenthesis c _ (omega arith) refl e (λ e. one_more b 44 Comma c _ (omega arith) refl e (λ e.
    one_more b 46 Dot c _ (omega arith) refl e (λ e. one_more b 91 LeftBracket c _ (omega arith) refl e (λ e. one_more b 93 RightBracket c _ (omega arith) refl e (λ e.
    one_more b 42 Star c _ (omega arith) refl e (λ e. one_more b 43 Plus c _ (omega arith) refl e (λ e. one_more b 45 Minus c _ (omega arith) refl e (λ e.
    one_more b 47 Slash c _ (omega arith) refl e (λ e. one_more b 37 Percent c _ (omega arith) refl e (λ e. one_more b 61 Equal c _ (omega arith) refl e (λ e.
    one_more b 59 Semicolon c _ (omega arith) refl e (λ e. cc)))))))))))))

front_of_one : (b : ℕ) (bs : List ℕ) (n : ℕ) → n ≡ 1 → b < 128 → IsAsciiFront (b ∷ bs) n
front_of_one b bs n e l = rw e (behind_one b bs 0 l (no_front bs))

front_of_two : (b : ℕ) (bs : List ℕ) (n : ℕ) → n ≡ 2 → b < 128 → IsAsciiFront bs 1 → IsAsciiFront (b ∷ bs) n
front_of_two b bs n e l f = rw e (behind_one b bs 1 l f)

less_front : (b : ℕ) (bs : List ℕ) → b < 128 → IsAsciiFront (b ∷ bs) (punctuation_length (less_by bs))
less_front b bs l =
    let Q : Bool → Type 0 = λ t. begins (λ b. b == 62) bs ≡ t → IsAsciiFront (b ∷ bs) (punctuation_length (if t then NotEqual else Less)) in
    let P : Bool → Type 0 = λ t. begins (λ b. b == 61) bs ≡ t → IsAsciiFront (b ∷ bs) (punctuation_length (if t then LessOrEqual else (if begins (λ b. b == 62) bs then NotEqual else Less))) in
    (elim (begins (λ b. b == 61) bs) as P [
      | true ↦ λ t. front_of_two b bs 2 refl l (begun 61 bs (omega arith) t)
      | false ↦ λ t. (elim (begins (λ b. b == 62) bs) as Q [
        | true ↦ λ u. front_of_two b bs 2 refl l (begun 62 bs (omega arith) u)
        | false ↦ λ u. front_of_one b bs 1 refl l
      ]) refl
    ]) refl

greater_front : (b : ℕ) (bs : List ℕ) → b < 128 → IsAsciiFront (b ∷ bs) (punctuation_length (greater_by bs))
greater_front b bs l =
    let P : Bool → Type 0 = λ t. begins (λ b. b == 61) bs ≡ t → IsAsciiFront (b ∷ bs) (punctuation_length (if t then GreaterOrEqual else Greater)) in
    (elim (begins (λ b. b == 61) bs) as P [
      | true ↦ λ t. front_of_two b bs 2 refl l (begun 61 bs (omega arith) t)
      | false ↦ λ t. front_of_one b bs 1 refl l
    ]) refl

-- the symbol in front ends behind an ASCII byte
pub symbol_front : (c : Class) (b : ℕ) (bs : List ℕ) → punctuation c ≡ punctuation_token b bs → IsAsciiFront (b ∷ bs) (punctuation_length c)
unfolding punctuation_token
symbol_front c b bs e =
    let F : Class → Type 0 = λ x. IsAsciiFront (b ∷ bs) (punctuation_length x) in
    let R : Option Class → Type 0 = λ o. single b ≡ o → punctuation c ≡ single_token o (b ∷ bs) → F c in
    let Q : Bool → Type 0 = λ t. begins (λ c. c == 61) bs ≡ t → (b ≡ 33) → punctuation c ≡ (if t then punctuation NotEqual else single_token (single b) (b ∷ bs)) → F c in
    let last : punctuation c ≡ single_token (single b) (b ∷ bs) → F c = (elim (single b) as R [
      | None ↦ λ s f. cc
      | Some x ↦ λ s f. let p : x ≡ c = cc in let i = singles b x s in subst F p (front_of_one b bs (punctuation_length x) i.size i.ascii)
    ]) refl in
    let N : Bool → Type 0 = λ t. (b == 33) ≡ t → punctuation c ≡ (if t && begins (λ c. c == 61) bs then punctuation NotEqual else single_token (single b) (b ∷ bs)) → F c in
    let not_equal : punctuation c ≡ (if (b == 33) && begins (λ c. c == 61) bs then punctuation NotEqual else single_token (single b) (b ∷ bs)) → F c = (elim (b == 33) as N [
      | true ↦ λ t f. (elim (begins (λ c. c == 61) bs) as Q [
        | true ↦ λ u i g. let p : NotEqual ≡ c = cc in subst F p (front_of_two b bs 2 refl (omega arith) (begun 61 bs (omega arith) u))
        | false ↦ λ u i g. last g
      ]) refl (eqb-true b 33 t) f
      | false ↦ λ t f. last f
    ]) refl in
    let G : Bool → Type 0 = λ t. (b == 62) ≡ t → punctuation c ≡ (if t then punctuation (greater_by bs) else (if (b == 33) && begins (λ c. c == 61) bs then punctuation NotEqual else single_token (single b) (b ∷ bs))) → F c in
    let greater : punctuation c ≡ (if b == 62 then punctuation (greater_by bs) else (if (b == 33) && begins (λ c. c == 61) bs then punctuation NotEqual else single_token (single b) (b ∷ bs))) → F c = (elim (b == 62) as G [
      | true ↦ λ t f. let i = eqb-true b 62 t in let p : greater_by bs ≡ c = cc in subst F p (greater_front b bs (omega arith))
      | false ↦ λ t f. not_equal f
    ]) refl in
    let L : Bool → Type 0 = λ t. (b == 60) ≡ t → punctuation c ≡ (if t then punctuation (less_by bs) else (if b == 62 then punctuation (greater_by bs) else (if (b == 33) && begins (λ c. c == 61) bs then punctuation NotEqual else single_token (single b) (b ∷ bs)))) → F c in
    (elim (b == 60) as L [
      | true ↦ λ t f. let i = eqb-true b 60 t in let p : less_by bs ≡ c = cc in subst F p (less_front b bs (omega arith))
      | false ↦ λ t f. greater f
    ]) refl e
