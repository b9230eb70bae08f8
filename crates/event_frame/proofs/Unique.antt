-- Bytes spell one list of headers, one event or one fault.
use Rattle.std.proofs.Common.{◌≡◌, ℕ, ◌+◌, ◌-◌, ◌^◌, ◌<◌, ◌≤◌, zero, suc, map, replicate, not, List, [], ◌∷◌, ◌++◌, length, take, Bool, true, false, cond, Option, None, Some, ◌⊎◌, inl, inr, refl, sym, ap, subst, ◌∙◌, arith, append_assoc, length-append}
use Rattle.std.proofs.Math.Seq.{append_snoc, take-append_seam, drop-append_seam}
use Rattle.std.proofs.lemmas.List.{append-nil, append_cancel_left}
use Rattle.std.specs.Str.{bytes_eq}
use Rattle.std.specs.Int.{w32, to_be_bytes}
use Rattle.std.proofs.lemmas.Nat.{from_be_bytes-to_be_bytes_4}
use Rattle.event_frame.specs.Crc.{plus, generator, remainder, message_bits, dividend, number_of, crc_of}
use Rattle.std.proofs.Math.Nat.{pow-suc}
use Rattle.std.proofs.lemmas.List.{length-map}
use Rattle.event_frame.specs.Message.{Header, print_header, print_headers, message_of, prelude_of, sealed}
use Rattle.event_frame.specs.Event.{Event, header}
use Rattle.event_frame.specs.Reading.{IsHeader, AreHeaders, StopsAt, value_of, event_meant, number_at, prelude_fault, longest_frame, IsBegun, IsWhole, IsFrame, HasBadCrc, IsFaulty}
use Rattle.event_frame.specs.declared.fault.FrameFaultCode.{FrameFaultCode}
use Rattle.event_frame.specs.declared.fault.FrameFaultCode.TheVariants.{BadPreludeCrc, BadLengths, TooLarge, BadMessageCrc, BadHeader, UnknownEvent}
use Rattle.event_frame.proofs.HeaderLaws.{header-unique, header-some, same_front}
use Rattle.std.proofs.lemmas.Bool.{eq-eqb, le-ltb}
use Rattle.std.specs.Int.{from_be_bytes}
use Rattle.std.specs.Option.{unwrap_or}
use Rattle.event_frame.specs.Stream.{EndsIn, HasFrame, SpellsEvents, IsSameReading}
use Rattle.event_frame.proofs.FrameLaws.{whole_small}
use Rattle.event_frame.proofs.IntakeLaws.{number_at-append, prelude_fault-append}
use Rattle.event_frame.proofs.ReaderLaws.{message-parts}
use Rattle.event_frame.proofs.HeaderList.{first_differs, others_lack, bytes_eq-false}

-- ---- headers

lacks_member : (name : List ℕ) (pre : List Header) (h : Header) (hs : List Header) → value_of name (pre ++ h ∷ hs) ≡ None → bytes_eq h.name name ≡ false
lacks_member name [] h hs e = first_differs (bytes_eq h.name name) h.value (value_of name hs) e
lacks_member name (g ∷ pre) h hs e = lacks_member name pre h hs (others_lack (bytes_eq g.name name) g.value (value_of name (pre ++ h ∷ hs)) e)

-- a header among others can be written, and its name is new there
comes_new : (pre : List Header) (h : Header) (hs : List Header) → AreHeaders (pre ++ h ∷ hs) → IsHeader h × (value_of h.name pre ≡ None)
comes_new [] h hs are = (are.0, refl)
comes_new (g ∷ pre) h hs are =
    let next = comes_new pre h hs are.2 in
    let differs : bytes_eq g.name h.name ≡ false = bytes_eq-false h.name g.name (lacks_member g.name pre h hs are.1) in
    (next.0, ap (λ (b : Bool). cond b (Some g.value) (value_of h.name pre)) differs ∙ next.1)

-- no header that can be written and has a new name stands where good headers end
not_closed : (pre : List Header) (h : Header) (hs : List Header) (rest more : List ℕ) → AreHeaders (pre ++ h ∷ hs) → rest ≡ print_header h ++ more
    → (rest ≡ []) ⊎ StopsAt pre rest → ⊥
not_closed pre h hs rest more are e (inl none) =
    let some : 0 < length (print_header h ++ more) = header-some h more in
    let size : length rest ≡ length (print_header h ++ more) = ap length e in
    let zero_size : length rest ≡ 0 = ap length none in
    omega arith
not_closed pre h hs rest more are e (inr stops) =
    let new = comes_new pre h hs are in
    stops.bad h more new.0 new.1 e

header_same : (g h : Header) → g.name ≡ h.name → g.value ≡ h.value → g ≡ h
header_same g h e f = ap (λ (n : List ℕ). header n g.value) e ∙ ap (λ (v : List ℕ). header h.name v) f

pub record SameHeaders (hs gs : List Header) (r s : List ℕ) : Type 0 where
  pub headers : hs ≡ gs
  pub behind : r ≡ s

same_headers : (pre hs gs : List Header) (r s : List ℕ) → AreHeaders (pre ++ hs) → AreHeaders (pre ++ gs)
    → print_headers hs ++ r ≡ print_headers gs ++ s → (r ≡ []) ⊎ StopsAt (pre ++ hs) r → (s ≡ []) ⊎ StopsAt (pre ++ gs) s → SameHeaders hs gs r s
same_headers pre [] [] r s are are' e ends ends' = record { headers = refl; behind = e }
same_headers pre [] (g ∷ gs) r s are are' e ends ends' =
    absurd (not_closed pre g gs r (print_headers gs ++ s) are' (e ∙ append_assoc (print_header g) (print_headers gs) s)
    (subst (λ (l : List Header). (r ≡ []) ⊎ StopsAt l r) (append-nil pre) ends))
same_headers pre (h ∷ hs) [] r s are are' e ends ends' =
    absurd (not_closed pre h hs s (print_headers hs ++ r) are (sym e ∙ append_assoc (print_header h) (print_headers hs) r)
    (subst (λ (l : List Header). (s ≡ []) ⊎ StopsAt l s) (append-nil pre) ends'))
same_headers pre (h ∷ hs) (g ∷ gs) r s are are' e ends ends' =
    let u = header-unique h g (print_headers hs ++ r) (print_headers gs ++ s) (comes_new pre h hs are).0 (comes_new pre g gs are').0
    (sym (append_assoc (print_header h) (print_headers hs) r) ∙ e ∙ append_assoc (print_header g) (print_headers gs) s) in
    let one : h ≡ g = header_same h g u.name u.value in
    let shift : pre ++ g ∷ gs ≡ (pre ++ h ∷ []) ++ gs =
    sym (append_snoc pre g gs) ∙ ap (λ (k : Header). (pre ++ k ∷ []) ++ gs) (sym one) in
    let next = same_headers (pre ++ h ∷ []) hs gs r s
    (subst AreHeaders (sym (append_snoc pre h hs)) are) (subst AreHeaders shift are') u.rest
    (subst (λ (l : List Header). (r ≡ []) ⊎ StopsAt l r) (sym (append_snoc pre h hs)) ends)
    (subst (λ (l : List Header). (s ≡ []) ⊎ StopsAt l s) shift ends') in
    record {
      headers = ap (λ (k : Header). k ∷ hs) one ∙ ap (λ (l : List Header). g ∷ l) next.headers;
      behind = next.behind;
    }

-- ---- the CRC is a number of four bytes

length-plus : (p q : List Bool) → length (plus p q) ≡ length p
unfolding plus
length-plus [] q = refl
length-plus (a ∷ p) [] = refl
length-plus (a ∷ p) (b ∷ q) = ap (λ n. suc n) (length-plus p q)

length-chosen : (a : Bool) (p : List Bool) → length (cond a (plus p generator) p) ≡ length p
length-chosen true p = length-plus p generator
length-chosen false p = refl

length-remainder : (k : ℕ) (p : List Bool) → length (remainder k p) ≡ length p - k
unfolding remainder
length-remainder zero p = omega arith
length-remainder (suc k) [] = omega arith
length-remainder (suc k) (a ∷ p) =
    length-remainder k (cond a (plus p generator) p) ∙ ap (λ n. n - k) (length-chosen a p) ∙ omega arith

bit-small : (a : Bool) → cond a 1 0 < 2
bit-small true = omega arith
bit-small false = omega arith

number_of-small : (bits : List Bool) → number_of bits < 2 ^ length bits
unfolding number_of
number_of-small [] = omega arith
number_of-small (a ∷ bits) = omega (arith, bit-small a, number_of-small bits, pow-suc 2 (length bits))

pub crc_of-small : (bytes : List ℕ) → crc_of bytes < 2 ^ 32
unfolding crc_of dividend
crc_of-small bytes =
    let m : List Bool = message_bits bytes in
    let p : List Bool = plus (m ++ replicate 32 false) (replicate 32 true) in
    let size : length p ≡ length m + 32 = length-plus (m ++ replicate 32 false) (replicate 32 true) ∙ length-append m (replicate 32 false) in
    let rest : length (map not (remainder (length m) p)) ≡ 32 =
    length-map (remainder (length m) p) not ∙ length-remainder (length m) p ∙ omega arith in
    subst (λ k. number_of (map not (remainder (length m) p)) < 2 ^ k) rest (number_of-small (map not (remainder (length m) p)))

-- ---- frames are whole and have good CRCs

pub record IsGood (bytes : List ℕ) : Type 0 where
  pub whole : IsWhole bytes
  pub crc : number_at bytes (length bytes - 4) ≡ crc_of (take (length bytes - 4) bytes)

message-prelude_crc : (headers payload : List ℕ) → number_at (message_of headers payload) 8 ≡ crc_of (take 8 (message_of headers payload))
unfolding message_of sealed prelude_of number_at
message-prelude_crc headers payload =
    from_be_bytes-to_be_bytes_4
    (crc_of (to_be_bytes w32 (length headers + length payload + 16) ++ to_be_bytes w32 (length headers)))
    (crc_of-small (to_be_bytes w32 (length headers + length payload + 16) ++ to_be_bytes w32 (length headers)))

sealed-crc : (front : List ℕ) → number_at (sealed front) (length front) ≡ crc_of (take (length front) (sealed front))
unfolding sealed number_at
sealed-crc front =
    ap (from_be_bytes w32) (drop-append_seam front (to_be_bytes w32 (crc_of front)))
    ∙ from_be_bytes-to_be_bytes_4 (crc_of front) (crc_of-small front)
    ∙ sym (ap crc_of (take-append_seam front (to_be_bytes w32 (crc_of front))))

sealed-size : (front : List ℕ) → length (sealed front) ≡ length front + 4
unfolding sealed
sealed-size front = length-append front (to_be_bytes w32 (crc_of front))

message-crc : (headers payload : List ℕ)
    → number_at (message_of headers payload) (length (message_of headers payload) - 4) ≡ crc_of (take (length (message_of headers payload) - 4) (message_of headers payload))
unfolding message_of
message-crc headers payload =
    let front : List ℕ = prelude_of (length headers + length payload + 16) (length headers) ++ headers ++ payload in
    let place : length (sealed front) - 4 ≡ length front = omega (arith, sealed-size front) in
    ap (number_at (sealed front)) place ∙ sealed-crc front ∙ ap (λ n. crc_of (take n (sealed front))) (sym place)

good_prelude : (bytes : List ℕ) → number_at bytes 8 ≡ crc_of (take 8 bytes) → 16 ≤ number_at bytes 0 → number_at bytes 4 ≤ number_at bytes 0 - 16
    → number_at bytes 0 ≤ longest_frame → prelude_fault bytes ≡ None
unfolding prelude_fault
good_prelude bytes crc least fits most =
    rw (
      eq-eqb (number_at bytes 8) (crc_of (take 8 bytes)) crc,
      le-ltb (number_at bytes 0) 16 least,
      le-ltb (number_at bytes 0 - 16) (number_at bytes 4) fits,
      le-ltb longest_frame (number_at bytes 0) most,
    ) refl

-- a message that isn't too long is whole and good
pub message-good : (bytes headers payload : List ℕ) → bytes ≡ message_of headers payload → length bytes ≤ longest_frame → IsGood bytes
message-good bytes headers payload is small =
    let p = message-parts bytes headers payload is small in
    record {
      whole = record {
        prelude = record {
          whole = omega (arith, p.size);
          sound = good_prelude bytes
              (ap (λ (l : List ℕ). number_at l 8) is ∙ message-prelude_crc headers payload ∙ ap (λ (l : List ℕ). crc_of (take 8 l)) (sym is))
              (omega (arith, p.size, p.total)) (omega (arith, p.size, p.total, p.headers_size)) (omega (arith, p.total));
        };
        size = sym p.total;
      };
      crc =
          ap (λ (l : List ℕ). number_at l (length l - 4)) is ∙ message-crc headers payload
          ∙ ap (λ (l : List ℕ). crc_of (take (length l - 4) l)) (sym is);
    }

-- ---- one outcome

-- an event, or a fault and its place
abbrev pub Outcome : Type 0
Outcome = Event ⊎ (FrameFaultCode × ℕ)

abbrev pub Shows : List ℕ → Outcome → Type 0
Shows bytes (inl event) = IsFrame bytes event
Shows bytes (inr fault) = IsFaulty bytes fault.0 fault.1

-- what good headers, the bytes where they stop, and the payload show
event_or_none : Option Event → Outcome
event_or_none None = inr (UnknownEvent, 12)
event_or_none (Some event) = inl event

shown_by : List Header → List ℕ → List ℕ → Outcome
shown_by headers [] payload = event_or_none (event_meant headers payload)
shown_by headers (b ∷ rest) payload = inr (BadHeader, 12 + length (print_headers headers))

record OfMessage (bytes : List ℕ) (o : Outcome) : Type 0 where
  good : IsGood bytes
  headers : List Header
  rest : List ℕ
  payload : List ℕ
  are_headers : AreHeaders headers
  ends : (rest ≡ []) ⊎ StopsAt headers rest
  spelled : bytes ≡ message_of (print_headers headers ++ rest) payload
  shows : o ≡ shown_by headers rest payload

data View (bytes : List ℕ) (o : Outcome) : Type 0 where
  of_prelude : (f : FrameFaultCode × ℕ) → length bytes ≡ 12 → prelude_fault bytes ≡ Some f → o ≡ inr f → View bytes o
  of_crc : HasBadCrc bytes → o ≡ inr (BadMessageCrc, length bytes - 4) → View bytes o
  of_message : OfMessage bytes o → View bytes o

at_stop : (headers : List Header) (rest payload : List ℕ) (place : ℕ) → StopsAt headers rest → place ≡ 12 + length (print_headers headers)
    → inr (BadHeader, place) ≡ shown_by headers rest payload
unfolding shown_by
at_stop headers [] payload place stops e = absurd (omega (arith, stops.some))
at_stop headers (b ∷ rest) payload place stops e = ap (λ (n : ℕ). let f : FrameFaultCode × ℕ = (BadHeader, n) in inr f) e

view_fault : (bytes : List ℕ) (code : FrameFaultCode) (place : ℕ) → IsFaulty bytes code place → View bytes (inr (code, place))
unfolding shown_by event_or_none
view_fault bytes BadPreludeCrc place h = of_prelude (BadPreludeCrc, place) h.0 h.1 refl
view_fault bytes BadLengths place h = of_prelude (BadLengths, place) h.0 h.1 refl
view_fault bytes TooLarge place h = of_prelude (TooLarge, place) h.0 h.1 refl
view_fault bytes BadMessageCrc place h = of_crc h.0 (ap (λ (n : ℕ). let f : FrameFaultCode × ℕ = (BadMessageCrc, n) in inr f) h.1)
view_fault bytes BadHeader place h =
    of_message
    (record {
      good = message-good bytes (print_headers h.1.headers ++ h.1.rest) h.1.payload h.1.spelled (whole_small bytes h.0);
      headers = h.1.headers;
      rest = h.1.rest;
      payload = h.1.payload;
      are_headers = h.1.are_headers;
      ends = inr h.1.stops;
      spelled = h.1.spelled;
      shows = at_stop h.1.headers h.1.rest h.1.payload place h.1.stops h.1.place_is;
    })
view_fault bytes UnknownEvent place h =
    of_message
    (record {
      good = message-good bytes (print_headers h.1.headers) h.1.payload h.1.spelled (whole_small bytes h.0);
      headers = h.1.headers;
      rest = [];
      payload = h.1.payload;
      are_headers = h.1.are_headers;
      ends = inl refl;
      spelled = h.1.spelled ∙ ap (λ (l : List ℕ). message_of l h.1.payload) (sym (append-nil (print_headers h.1.headers)));
      shows = ap (λ (n : ℕ). let f : FrameFaultCode × ℕ = (UnknownEvent, n) in inr f) h.2 ∙ ap event_or_none (sym h.1.none);
    })

view_of : (bytes : List ℕ) (o : Outcome) → Shows bytes o → View bytes o
unfolding shown_by event_or_none
view_of bytes (inl event) f =
    of_message
    (record {
      good = message-good bytes (print_headers f.headers) f.payload f.spelled f.fits;
      headers = f.headers;
      rest = [];
      payload = f.payload;
      are_headers = f.are_headers;
      ends = inl refl;
      spelled = f.spelled ∙ ap (λ (l : List ℕ). message_of l f.payload) (sym (append-nil (print_headers f.headers)));
      shows = ap event_or_none (sym f.meant);
    })
view_of bytes (inr fault) f = view_fault bytes fault.0 fault.1 f

some_fault : (f : FrameFaultCode × ℕ) (o : Option (FrameFaultCode × ℕ)) → o ≡ Some f → o ≡ None → ⊥
some_fault f o e n = let clash : Some f ≡ None = sym e ∙ n in cc

same_some : (f g : FrameFaultCode × ℕ) → Some f ≡ Some g → f ≡ g
same_some f g e = ap (λ (o : Option (FrameFaultCode × ℕ)). unwrap_or o f) e

agree_messages : (bytes : List ℕ) (o p : Outcome) → OfMessage bytes o → OfMessage bytes p → o ≡ p
agree_messages bytes o p a b =
    let small = whole_small bytes a.good.whole in
    let x = message-parts bytes (print_headers a.headers ++ a.rest) a.payload a.spelled small in
    let y = message-parts bytes (print_headers b.headers ++ b.rest) b.payload b.spelled small in
    let s = same_headers [] a.headers b.headers a.rest b.rest a.are_headers b.are_headers (sym x.headers_is ∙ y.headers_is) a.ends b.ends in
    a.shows
    ∙ ap (λ (l : List Header). shown_by l a.rest a.payload) s.headers
    ∙ ap (λ (l : List ℕ). shown_by b.headers l a.payload) s.behind
    ∙ ap (shown_by b.headers b.rest) (sym x.payload_is ∙ y.payload_is)
    ∙ sym b.shows

agree : (bytes : List ℕ) (o p : Outcome) → View bytes o → View bytes p → o ≡ p
agree bytes o p (of_prelude f h e i) (of_prelude g k d j) = i ∙ ap inr (same_some f g (sym e ∙ d)) ∙ sym j
agree bytes o p (of_prelude f h e i) (of_crc b j) = absurd (some_fault f (prelude_fault bytes) e b.0.prelude.sound)
agree bytes o p (of_prelude f h e i) (of_message m) = absurd (some_fault f (prelude_fault bytes) e m.good.whole.prelude.sound)
agree bytes o p (of_crc b i) (of_prelude g k d j) = absurd (some_fault g (prelude_fault bytes) d b.0.prelude.sound)
agree bytes o p (of_crc b i) (of_crc c j) = i ∙ sym j
agree bytes o p (of_crc b i) (of_message m) = absurd (b.1 m.good.crc)
agree bytes o p (of_message m) (of_prelude g k d j) = absurd (some_fault g (prelude_fault bytes) d m.good.whole.prelude.sound)
agree bytes o p (of_message m) (of_crc c j) = absurd (c.1 m.good.crc)
agree bytes o p (of_message m) (of_message n) = agree_messages bytes o p m n

-- ---- one front

-- how long bytes are that show something
record Sized (bytes : List ℕ) : Type 0 where
  enough : 12 ≤ length bytes
  whole : prelude_fault bytes ≡ None → length bytes ≡ number_at bytes 0
  short : (f : FrameFaultCode × ℕ) → prelude_fault bytes ≡ Some f → length bytes ≡ 12

sized_whole : (bytes : List ℕ) → IsWhole bytes → Sized bytes
sized_whole bytes w =
    record {
      enough = w.prelude.whole;
      whole = λ n. w.size;
      short = λ f e. absurd (some_fault f (prelude_fault bytes) e w.prelude.sound);
    }

sized_of : (bytes : List ℕ) (o : Outcome) → View bytes o → Sized bytes
sized_of bytes o (of_prelude f h e i) =
    record {
      enough = omega arith;
      whole = λ n. absurd (some_fault f (prelude_fault bytes) e n);
      short = λ g d. h;
    }
sized_of bytes o (of_crc b i) = sized_whole bytes b.0
sized_of bytes o (of_message m) = sized_whole bytes m.good.whole

front_fault : (bytes front more : List ℕ) → bytes ≡ front ++ more → 12 ≤ length front → prelude_fault front ≡ prelude_fault bytes
front_fault bytes front more e h = sym (prelude_fault-append front more h) ∙ ap prelude_fault (sym e)

front_number : (bytes front more : List ℕ) → bytes ≡ front ++ more → 12 ≤ length front → number_at front 0 ≡ number_at bytes 0
front_number bytes front more e h = sym (number_at-append front more 0 (omega arith)) ∙ ap (λ (l : List ℕ). number_at l 0) (sym e)

same_size : (bytes f m g n : List ℕ) → bytes ≡ f ++ m → bytes ≡ g ++ n → Sized f → Sized g → length f ≡ length g
same_size bytes f m g n e d s t = go (prelude_fault bytes) refl
  where
    go : (o : Option (FrameFaultCode × ℕ)) → prelude_fault bytes ≡ o → length f ≡ length g
    go None is =
        s.whole (front_fault bytes f m e s.enough ∙ is) ∙ front_number bytes f m e s.enough
        ∙ sym (t.whole (front_fault bytes g n d t.enough ∙ is) ∙ front_number bytes g n d t.enough)
    go (Some x) is = s.short x (front_fault bytes f m e s.enough ∙ is) ∙ sym (t.short x (front_fault bytes g n d t.enough ∙ is))

-- two fronts that show something are one, and so is what they show
record OneFront (f m g n : List ℕ) (o p : Outcome) : Type 0 where
  front : f ≡ g
  behind : m ≡ n
  shown : o ≡ p

one_front : (bytes f m g n : List ℕ) (o p : Outcome) → bytes ≡ f ++ m → bytes ≡ g ++ n → Shows f o → Shows g p → OneFront f m g n o p
one_front bytes f m g n o p e d x y =
    let v = view_of f o x in
    let w = view_of g p y in
    let size : length f ≡ length g = same_size bytes f m g n e d (sized_of f o v) (sized_of g p w) in
    let joined : f ++ m ≡ g ++ n = sym e ∙ d in
    let front : f ≡ g = same_front f g m n size joined in
    record {
      front = front;
      behind = append_cancel_left g m n (ap (λ (l : List ℕ). l ++ m) (sym front) ∙ joined);
      shown = agree g o p (subst (λ (l : List ℕ). View l o) front v) w;
    }

-- begun bytes have no front that shows something
never_begun : (bytes f m : List ℕ) (o : Outcome) → bytes ≡ f ++ m → Shows f o → IsBegun bytes → ⊥
never_begun bytes f m o e x (inl short) =
    let s : Sized f = sized_of f o (view_of f o x) in
    let size : length bytes ≡ length f + length m = ap length e ∙ length-append f m in
    omega (arith, s.enough)
never_begun bytes f m o e x (inr begun) =
    let s : Sized f = sized_of f o (view_of f o x) in
    let size : length bytes ≡ length f + length m = ap length e ∙ length-append f m in
    let whole : length f ≡ number_at bytes 0 = s.whole (front_fault bytes f m e s.enough ∙ begun.0.sound) ∙ front_number bytes f m e s.enough in
    omega (arith, begun.1)

-- ---- one reading

apart : (event : Event) (f : FrameFaultCode × ℕ) → inl event ≡ inr f → ⊥
apart event f e = cc

fault_in : FrameFaultCode × ℕ → Outcome → FrameFaultCode × ℕ
fault_in f (inl event) = f
fault_in f (inr g) = g

event_in : Event → Outcome → Event
event_in e (inl event) = event
event_in e (inr g) = e

same_end : (bytes : List ℕ) (a b : Option (FrameFaultCode × ℕ)) → EndsIn bytes a → EndsIn bytes b → a ≡ b
unfolding fault_in
same_end bytes None None x y = refl
same_end bytes None (Some g) x y = absurd (never_begun bytes y.front y.more (inr g) y.joined y.faulty x)
same_end bytes (Some f) None x y = absurd (never_begun bytes x.front x.more (inr f) x.joined x.faulty y)
same_end bytes (Some f) (Some g) x y =
    let one = one_front bytes x.front x.more y.front y.more (inr f) (inr g) x.joined y.joined x.faulty y.faulty in
    ap (λ (o : Outcome). let r : Option (FrameFaultCode × ℕ) = Some (fault_in f o) in r) one.shown

no_frame : (bytes : List ℕ) (fault : Option (FrameFaultCode × ℕ)) (event : Event) (rest : List ℕ) → EndsIn bytes fault → HasFrame bytes event rest → ⊥
no_frame bytes None event rest x y = never_begun bytes y.frame rest (inl event) y.joined y.is_frame x
no_frame bytes (Some f) event rest x y =
    let one = one_front bytes y.frame rest x.front x.more (inl event) (inr f) y.joined x.joined y.is_frame x.faulty in
    apart event f one.shown

-- no frame is a front of another
pub nothing_behind : (frame longer more : List ℕ) (event other : Event) → IsFrame frame event → IsFrame longer other → longer ≡ frame ++ more → more ≡ []
nothing_behind frame longer more event other x y joined =
    (one_front longer frame more longer [] (inl event) (inl other) joined (sym (append-nil longer)) x y).behind

pub one_event : (frame : List ℕ) (event other : Event) → IsFrame frame event → IsFrame frame other → event ≡ other
unfolding event_in
one_event frame event other x y =
    ap (event_in event) (one_front frame frame [] frame [] (inl event) (inl other) (sym (append-nil frame)) (sym (append-nil frame)) x y).shown

pub same_reading : (bytes rest rest' : List ℕ) (es ds : List Event) (a b : Option (FrameFaultCode × ℕ))
    → SpellsEvents bytes es rest → EndsIn rest a → SpellsEvents bytes ds rest' → EndsIn rest' b → IsSameReading es ds rest rest' a b
unfolding event_in
same_reading bytes rest rest' [] [] a b s x t y =
    record {
      same_events = refl;
      same_rest = sym s ∙ t;
      same_fault = same_end rest' a b (subst (λ (l : List ℕ). EndsIn l a) (sym s ∙ t) x) y;
    }
same_reading bytes rest rest' [] (d ∷ ds) a b s x t y = absurd (no_frame bytes a d t.0 (subst (λ (l : List ℕ). EndsIn l a) (sym s) x) t.1)
same_reading bytes rest rest' (e ∷ es) [] a b s x t y = absurd (no_frame bytes b e s.0 (subst (λ (l : List ℕ). EndsIn l b) (sym t) y) s.1)
same_reading bytes rest rest' (e ∷ es) (d ∷ ds) a b s x t y =
    let one = one_front bytes s.1.frame s.0 t.1.frame t.0 (inl e) (inl d) s.1.joined t.1.joined s.1.is_frame t.1.is_frame in
    let next = same_reading t.0 rest rest' es ds a b (subst (λ (l : List ℕ). SpellsEvents l es rest) one.behind s.2) x t.2 y in
    record {
      same_events = ap (λ (k : Event). k ∷ es) (ap (event_in e) one.shown) ∙ ap (λ (l : List Event). d ∷ l) next.same_events;
      same_rest = next.same_rest;
      same_fault = next.same_fault;
    }
