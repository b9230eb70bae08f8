-- What stands at the front of the bytes of a header.
use Rattle.std.proofs.Common.{◌≡◌, ◌≢◌, ℕ, ◌+◌, ◌-◌, ◌*◌, ◌/◌, ◌%◌, ◌<◌, ◌≤◌, suc, List, [], ◌∷◌, ◌++◌, length, get_or, take, drop, Bool, true, false, cond, None, Some, refl, sym, ap, ◌∙◌, arith, append_assoc, length-append, length-take, length-drop}
use Rattle.std.proofs.Math.Seq.{drop-append_seam, take-append_seam}
use Rattle.std.proofs.lemmas.List.{take-append-drop, take_all, get_or-drop}
use Rattle.event_frame.specs.Message.{Header, print_header, print_headers}
use Rattle.std.specs.Str.{bytes_eq}
use Rattle.event_frame.specs.Event.{header}
use Rattle.event_frame.specs.Reading.{IsHeader, AreHeaders, value_of}
use Rattle.event_frame.proofs.RegisterLaws.{AreBytes}
use Rattle.event_frame.specs.HeaderFront.{HasNoHeader, SpellsHeader}

-- a header and what follows, byte by byte
pub flat : (h : Header) (more : List ℕ)
    → print_header h ++ more
    ≡ length h.name ∷ (h.name ++ (7 ∷ length h.value / 256 % 256 ∷ length h.value % 256 ∷ (h.value ++ more)))
unfolding print_header
flat h more = simp append_assoc

-- the first of two equal lists
pub head_of : (a b : ℕ) (xs ys : List ℕ) → a ∷ xs ≡ b ∷ ys → a ≡ b
head_of a b xs ys e = cc

pub tail_of : (a b : ℕ) (xs ys : List ℕ) → a ∷ xs ≡ b ∷ ys → xs ≡ ys
tail_of a b xs ys e = cc

-- what a header's bytes have behind its name's length, and behind its name
record Front (n : ℕ) (rest : List ℕ) (h : Header) (more : List ℕ) : Type 0 where
  size : n ≡ length h.name
  behind : rest ≡ h.name ++ (7 ∷ length h.value / 256 % 256 ∷ length h.value % 256 ∷ (h.value ++ more))
  tail : drop n rest ≡ 7 ∷ length h.value / 256 % 256 ∷ length h.value % 256 ∷ (h.value ++ more)

front : (bytes rest : List ℕ) (n : ℕ) (h : Header) (more : List ℕ) → bytes ≡ n ∷ rest → bytes ≡ print_header h ++ more → Front n rest h more
front bytes rest n h more is e =
    let body : List ℕ = 7 ∷ length h.value / 256 % 256 ∷ length h.value % 256 ∷ (h.value ++ more) in
    let both : n ∷ rest ≡ length h.name ∷ (h.name ++ body) = sym is ∙ e ∙ flat h more in
    let size : n ≡ length h.name = head_of n (length h.name) rest (h.name ++ body) both in
    let behind : rest ≡ h.name ++ body = tail_of n (length h.name) rest (h.name ++ body) both in
    record {
      size = size;
      behind = behind;
      tail = ap (λ k. drop k rest) size ∙ ap (drop (length h.name)) behind ∙ drop-append_seam h.name body;
    }

pub no_header-empty : (bytes : List ℕ) → length bytes ≡ 0 → HasNoHeader bytes
no_header-empty bytes none h more is e =
    let size : length bytes ≡ length (length h.name ∷ (h.name ++ (7 ∷ length h.value / 256 % 256 ∷ length h.value % 256 ∷ (h.value ++ more)))) =
    ap length (e ∙ flat h more) in
    omega arith

pub no_header-unnamed : (bytes rest : List ℕ) (n : ℕ) → bytes ≡ n ∷ rest → n ≡ 0 → HasNoHeader bytes
no_header-unnamed bytes rest n is none h more h_is e =
    let f = front bytes rest n h more is e in
    omega (arith, f.size, h_is.named)

pub no_header-short_name : (bytes rest : List ℕ) (n : ℕ) → bytes ≡ n ∷ rest → length rest < n → HasNoHeader bytes
no_header-short_name bytes rest n is short h more h_is e =
    let f = front bytes rest n h more is e in
    let size : length rest ≡ length h.name + length (7 ∷ length h.value / 256 % 256 ∷ length h.value % 256 ∷ (h.value ++ more)) =
    ap length f.behind ∙ length-append h.name (7 ∷ length h.value / 256 % 256 ∷ length h.value % 256 ∷ (h.value ++ more)) in
    omega (arith, f.size)

pub no_header-short : (bytes rest tail : List ℕ) (n : ℕ) → bytes ≡ n ∷ rest → tail ≡ drop n rest → length tail < 3 → HasNoHeader bytes
no_header-short bytes rest tail n is after short h more h_is e =
    let f = front bytes rest n h more is e in
    let size : length tail ≡ length (7 ∷ length h.value / 256 % 256 ∷ length h.value % 256 ∷ (h.value ++ more)) =
    ap length (after ∙ f.tail) in
    omega arith

pub no_header-kind : (bytes rest tail : List ℕ) (n : ℕ) → bytes ≡ n ∷ rest → tail ≡ drop n rest → get_or tail 0 0 ≢ 7 → HasNoHeader bytes
no_header-kind bytes rest tail n is after other h more h_is e =
    let f = front bytes rest n h more is e in
    other (ap (λ (l : List ℕ). get_or l 0 0) (after ∙ f.tail))

-- the length that two bytes spell
spelled_length : (v high low : ℕ) → v < 65536 → high ≡ v / 256 % 256 → low ≡ v % 256 → high * 256 + low ≡ v
spelled_length v high low h e f = omega arith

pub no_header-short_value : (bytes rest tail : List ℕ) (n v : ℕ) → bytes ≡ n ∷ rest → tail ≡ drop n rest
    → v ≡ get_or tail 1 0 * 256 + get_or tail 2 0 → length (take (length tail - 3) (drop 3 tail)) < v → HasNoHeader bytes
no_header-short_value bytes rest tail n v is after v_is short h more h_is e =
    let f = front bytes rest n h more is e in
    let tail_is : tail ≡ 7 ∷ length h.value / 256 % 256 ∷ length h.value % 256 ∷ (h.value ++ more) = after ∙ f.tail in
    let value_size : v ≡ length h.value =
    v_is ∙ spelled_length (length h.value) (get_or tail 1 0) (get_or tail 2 0) h_is.value_fits
    (ap (λ (l : List ℕ). get_or l 1 0) tail_is) (ap (λ (l : List ℕ). get_or l 2 0) tail_is) in
    let size : length tail ≡ length (7 ∷ length h.value / 256 % 256 ∷ length h.value % 256 ∷ (h.value ++ more)) = ap length tail_is in
    omega (arith, length-append h.value more, length-take (length tail - 3) (drop 3 tail), length-drop 3 tail)

-- two bytes are their length's bytes
bytes_of_length : (v high low : ℕ) → high < 256 → low < 256 → v ≡ high * 256 + low → (v / 256 % 256 ≡ high) × (v % 256 ≡ low)
bytes_of_length v high low h k e = (omega arith, omega arith)

-- a list of three or more
three_up : (tail : List ℕ) → 3 ≤ length tail → tail ≡ get_or tail 0 0 ∷ get_or tail 1 0 ∷ get_or tail 2 0 ∷ drop 3 tail
three_up [] h = absurd (omega arith)
three_up (a ∷ []) h = absurd (omega arith)
three_up (a ∷ b ∷ []) h = absurd (omega arith)
three_up (a ∷ b ∷ d ∷ tail) h = refl

-- the bytes behind a name are bytes
byte_behind : (bytes rest tail : List ℕ) (n k i : ℕ) → bytes ≡ n ∷ rest → tail ≡ drop k rest → AreBytes bytes → get_or tail i 0 < 256
byte_behind bytes rest tail n k i is after fits =
    let same : get_or tail i 0 ≡ get_or bytes (suc (k + i)) 0 =
    ap (λ (l : List ℕ). get_or l i 0) after ∙ get_or-drop k rest i 0 ∙ sym (ap (λ (l : List ℕ). get_or l (suc (k + i)) 0) is) in
    omega (arith, fits (suc (k + i)))

pub spells-header : (bytes rest name tail value more : List ℕ) (n k v : ℕ) → bytes ≡ n ∷ rest → (n ≡ 0 → ⊥) → AreBytes bytes → k ≡ n
    → (k ≤ length rest) × (name ≡ take k rest) × (tail ≡ drop k rest) × (length name ≡ k) × (length tail + k ≡ length rest)
    → 3 ≤ length tail → get_or tail 0 0 ≡ 7
    → v ≡ get_or tail 1 0 * 256 + get_or tail 2 0
    → value ≡ take v (take (length tail - 3) (drop 3 tail)) → more ≡ drop v (take (length tail - 3) (drop 3 tail)) → length value ≡ v
    → SpellsHeader bytes name value more
spells-header bytes rest name tail value more n k v is some fits k_is named enough kind v_is value_is more_is size =
    let first : get_or bytes 0 0 ≡ n = ap (λ (l : List ℕ). get_or l 0 0) is in
    let n_fits : n < 256 = omega (arith, fits 0) in
    let high_fits : get_or tail 1 0 < 256 = byte_behind bytes rest tail n k 1 is named.2 fits in
    let low_fits : get_or tail 2 0 < 256 = byte_behind bytes rest tail n k 2 is named.2 fits in
    let whole : take (length tail - 3) (drop 3 tail) ≡ drop 3 tail = take_all (length tail - 3) (drop 3 tail) (omega (arith, length-drop 3 tail)) in
    let parts : value ++ more ≡ drop 3 tail =
    ap (λ (l : List ℕ). l ++ more) value_is ∙ ap (λ (l : List ℕ). take v (take (length tail - 3) (drop 3 tail)) ++ l) more_is
    ∙ take-append-drop v (take (length tail - 3) (drop 3 tail)) ∙ whole in
    let name_size : length name ≡ n = named.3 ∙ k_is in
    let value_size : length value ≡ get_or tail 1 0 * 256 + get_or tail 2 0 = size ∙ v_is in
    let halves = bytes_of_length (length value) (get_or tail 1 0) (get_or tail 2 0) high_fits low_fits value_size in
    let joined : name ++ tail ≡ rest =
    ap (λ (l : List ℕ). l ++ tail) named.1 ∙ ap (λ (l : List ℕ). take k rest ++ l) named.2 ∙ take-append-drop k rest in
    record {
      is_header = record { named = omega arith; name_fits = omega arith; value_fits = omega arith };
      spelled =
          is
          ∙ ap (λ (l : List ℕ). n ∷ l) (sym joined ∙ ap (λ (l : List ℕ). name ++ l) (three_up tail enough))
          ∙ ap (λ m. m ∷ (name ++ (get_or tail 0 0 ∷ get_or tail 1 0 ∷ get_or tail 2 0 ∷ drop 3 tail))) (sym name_size)
          ∙ ap (λ m. length name ∷ (name ++ (m ∷ get_or tail 1 0 ∷ get_or tail 2 0 ∷ drop 3 tail))) kind
          ∙ ap (λ m. length name ∷ (name ++ (7 ∷ m ∷ get_or tail 2 0 ∷ drop 3 tail))) (sym halves.0)
          ∙ ap (λ m. length name ∷ (name ++ (7 ∷ length value / 256 % 256 ∷ m ∷ drop 3 tail))) (sym halves.1)
          ∙ ap (λ (l : List ℕ). length name ∷ (name ++ (7 ∷ length value / 256 % 256 ∷ length value % 256 ∷ l))) (sym parts)
          ∙ sym (flat (header name value) more);
    }

-- two equal texts of two parts each, the first of one length
pub same_front : (x y a b : List ℕ) → length x ≡ length y → x ++ a ≡ y ++ b → x ≡ y
same_front x y a b size e =
    sym (take-append_seam x a) ∙ ap (take (length x)) e ∙ ap (λ n. take n (y ++ b)) size ∙ take-append_seam y b

same_back : (x y a b : List ℕ) → length x ≡ length y → x ++ a ≡ y ++ b → a ≡ b
same_back x y a b size e =
    sym (drop-append_seam x a) ∙ ap (drop (length x)) e ∙ ap (λ n. drop n (y ++ b)) size ∙ drop-append_seam y b

-- one header stands at the front, and no other
pub record SameHeader (g h : Header) (xs ys : List ℕ) : Type 0 where
  pub name : g.name ≡ h.name
  pub value : g.value ≡ h.value
  pub rest : xs ≡ ys

pub header-unique : (g h : Header) (xs ys : List ℕ) → IsHeader g → IsHeader h → print_header g ++ xs ≡ print_header h ++ ys → SameHeader g h xs ys
header-unique g h xs ys g_is h_is e =
    let g_body : List ℕ = 7 ∷ length g.value / 256 % 256 ∷ length g.value % 256 ∷ (g.value ++ xs) in
    let h_body : List ℕ = 7 ∷ length h.value / 256 % 256 ∷ length h.value % 256 ∷ (h.value ++ ys) in
    let spread : length g.name ∷ (g.name ++ g_body) ≡ length h.name ∷ (h.name ++ h_body) = sym (flat g xs) ∙ e ∙ flat h ys in
    let size : length g.name ≡ length h.name = head_of _ _ _ _ spread in
    let behind : g.name ++ g_body ≡ h.name ++ h_body = tail_of _ _ _ _ spread in
    let bodies : g_body ≡ h_body = same_back g.name h.name g_body h_body size behind in
    let high : length g.value / 256 % 256 ≡ length h.value / 256 % 256 = ap (λ (l : List ℕ). get_or l 1 0) bodies in
    let low : length g.value % 256 ≡ length h.value % 256 = ap (λ (l : List ℕ). get_or l 2 0) bodies in
    let value_size : length g.value ≡ length h.value = omega (arith, g_is.value_fits, h_is.value_fits) in
    let tails : g.value ++ xs ≡ h.value ++ ys = ap (drop 3) bodies in
    record {
      name = same_front g.name h.name g_body h_body size behind;
      value = same_front g.value h.value xs ys value_size tails;
      rest = same_back g.value h.value xs ys value_size tails;
    }

-- a header's bytes are some
pub header-some : (h : Header) (more : List ℕ) → 0 < length (print_header h ++ more)
header-some h more =
    let size : length (print_header h ++ more) ≡ suc (length (h.name ++ (7 ∷ length h.value / 256 % 256 ∷ length h.value % 256 ∷ (h.value ++ more)))) =
    ap length (flat h more) in
    omega arith

-- the headers that are left to look through for a name
pub record Left (name : List ℕ) (good : List Header) (rest : List ℕ) : Type 0 where
  pub headers : List Header
  pub are_headers : AreHeaders headers
  pub spelled : rest ≡ print_headers headers
  pub same : value_of name headers ≡ value_of name good

-- the next header that is left
record LeftNext (name other value after : List ℕ) (good : List Header) : Type 0 where
  pub headers : List Header
  pub are_headers : AreHeaders headers
  pub spelled : after ≡ print_headers headers
  pub same : cond (bytes_eq other name) (Some value) (value_of name headers) ≡ value_of name good

left-next : (name other value rest after : List ℕ) (good headers : List Header) → AreHeaders headers → rest ≡ print_headers headers
    → value_of name headers ≡ value_of name good → SpellsHeader rest other value after → LeftNext name other value after good
left-next name other value rest after good [] are spelled same found =
    absurd (let size : length rest ≡ 0 = ap length spelled in
    let more : 0 < length (print_header (header other value) ++ after) = header-some (header other value) after in
    let is : length rest ≡ length (print_header (header other value) ++ after) = ap length found.spelled in
    omega arith)
left-next name other value rest after good (h ∷ headers) are spelled same found =
    let u = header-unique h (header other value) (print_headers headers) after are.0 found.is_header (sym spelled ∙ found.spelled) in
    record {
      headers = headers;
      are_headers = are.2;
      spelled = sym u.rest;
      same =
          ap (λ (n : List ℕ). cond (bytes_eq n name) (Some value) (value_of name headers)) (sym u.name)
          ∙ ap (λ (v : List ℕ). cond (bytes_eq h.name name) (Some v) (value_of name headers)) (sym u.value)
          ∙ same;
    }

pub left-step : (name other value rest after : List ℕ) (good : List Header) → Left name good rest → SpellsHeader rest other value after
    → false ≡ bytes_eq other name → Left name good after
left-step name other value rest after good left found differs =
    let n = left-next name other value rest after good left.headers left.are_headers left.spelled left.same found in
    record {
      headers = n.headers;
      are_headers = n.are_headers;
      spelled = n.spelled;
      same = ap (λ (b : Bool). cond b (Some value) (value_of name n.headers)) differs ∙ n.same;
    }

pub left-found : (name other value rest after : List ℕ) (good : List Header) → Left name good rest → SpellsHeader rest other value after
    → true ≡ bytes_eq other name → Some value ≡ value_of name good
left-found name other value rest after good left found equal =
    let n = left-next name other value rest after good left.headers left.are_headers left.spelled left.same found in
    ap (λ (b : Bool). cond b (Some value) (value_of name n.headers)) equal ∙ n.same

pub left-none : (name rest : List ℕ) (good : List Header) → Left name good rest → HasNoHeader rest → None ≡ value_of name good
left-none name rest good left nothing = go left.headers left.are_headers left.spelled left.same
  where
    go : (headers : List Header) → AreHeaders headers → rest ≡ print_headers headers → value_of name headers ≡ value_of name good → None ≡ value_of name good
    go [] are spelled same = same
    go (h ∷ headers) are spelled same = absurd (nothing h (print_headers headers) are.0 spelled)

pub header-shorter : (rest name value after : List ℕ) → SpellsHeader rest name value after → length after < length rest
header-shorter rest name value after found =
    let h : Header = header name value in
    let size : length rest ≡ suc (length (h.name ++ (7 ∷ length h.value / 256 % 256 ∷ length h.value % 256 ∷ (h.value ++ after)))) =
    ap length (found.spelled ∙ flat h after) in
    omega (arith, length-append h.name (7 ∷ length h.value / 256 % 256 ∷ length h.value % 256 ∷ (h.value ++ after)), length-append h.value after)
