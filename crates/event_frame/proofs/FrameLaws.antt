-- A message taken apart and put together.
use Rattle.std.proofs.Common.{◌≡◌, ℕ, ◌+◌, ◌-◌, ◌<◌, ◌≤◌, zero, suc, List, [], ◌∷◌, ◌++◌, length, get_or, take, drop, Bool, true, false, not, ◌||◌, cond, eqb, ltb, Option, None, Some, refl, sym, ap, ◌∙◌, arith, length-take, length-drop}
use Rattle.std.proofs.Math.Seq.{take-add}
use Rattle.std.proofs.lemmas.List.{take-append-drop, take_all, get_or-drop}
use Rattle.std.proofs.lemmas.Bool.{eqb-true, ltb-false, or_parts}
use Rattle.std.proofs.lemmas.Nat.{be_bytes_4}
use Rattle.std.specs.Int.{w32, to_be_bytes, from_be_bytes}
use Rattle.event_frame.specs.Crc.{crc_of}
use Rattle.event_frame.specs.Message.{sealed, prelude_of, message_of}
use Rattle.event_frame.specs.Reading.{number_at, prelude_fault, longest_frame, IsWhole, headers_part, payload_part}
use Rattle.event_frame.specs.declared.fault.FrameFaultCode.{FrameFaultCode}
use Rattle.event_frame.specs.declared.fault.FrameFaultCode.TheVariants.{BadPreludeCrc, BadLengths, TooLarge}
use Rattle.event_frame.proofs.RegisterLaws.{AreBytes}

-- a test that was passed on the way to no fault
passed : (t : Bool) (f : FrameFaultCode × ℕ) (o : Option (FrameFaultCode × ℕ)) → cond t (Some f) o ≡ None → (t ≡ false) × (o ≡ None)
passed true f o e = absurd (cc)
passed false f o e = (refl, e)

negated : (b : Bool) → not b ≡ false → b ≡ true
negated true e = refl
negated false e = absurd (cc)

-- what a good prelude says
pub record Sizes (bytes : List ℕ) : Type 0 where
  pub crc : number_at bytes 8 ≡ crc_of (take 8 bytes)
  pub least : 16 ≤ number_at bytes 0
  pub fits : 16 + number_at bytes 4 ≤ number_at bytes 0
  pub most : number_at bytes 0 ≤ 16777216

pub sizes : (bytes : List ℕ) → prelude_fault bytes ≡ None → Sizes bytes
unfolding prelude_fault
sizes bytes e =
    let first = passed (not (eqb (number_at bytes 8) (crc_of (take 8 bytes)))) (BadPreludeCrc, 8) _ e in
    let second = passed (ltb (number_at bytes 0) 16 || ltb (number_at bytes 0 - 16) (number_at bytes 4)) (BadLengths, 0) _ first.1 in
    let third = passed (ltb longest_frame (number_at bytes 0)) (TooLarge, 0) None second.1 in
    let halves = or_parts (ltb (number_at bytes 0) 16) (ltb (number_at bytes 0 - 16) (number_at bytes 4)) second.0 in
    let least : 16 ≤ number_at bytes 0 = ltb-false (number_at bytes 0) 16 halves.0 in
    let fits : number_at bytes 4 ≤ number_at bytes 0 - 16 = ltb-false (number_at bytes 0 - 16) (number_at bytes 4) halves.1 in
    record {
      crc = eqb-true _ _ (negated _ first.0);
      least = least;
      fits = omega arith;
      most = ltb-false longest_frame (number_at bytes 0) third.0;
    }

pub whole_fits : (bytes : List ℕ) → IsWhole bytes → 16 + number_at bytes 4 ≤ length bytes
whole_fits bytes whole =
    let s : Sizes bytes = sizes bytes whole.prelude.sound in
    omega (arith, s.fits, whole.size)

pub whole_small : (bytes : List ℕ) → IsWhole bytes → length bytes ≤ 16777216
whole_small bytes whole =
    let s : Sizes bytes = sizes bytes whole.prelude.sound in
    omega (arith, s.most, whole.size)

pub headers_small : (bytes headers : List ℕ) → IsWhole bytes → headers ≡ headers_part bytes → length headers ≤ 16777200
headers_small bytes headers whole is =
    let size : length headers ≡ length (take (number_at bytes 4) (drop 12 bytes)) = ap length is in
    omega (arith, whole_fits bytes whole, whole_small bytes whole, length-take (number_at bytes 4) (drop 12 bytes))

-- four bytes are the bytes of their number
four : (l : List ℕ) → 4 ≤ length l → AreBytes l → to_be_bytes w32 (from_be_bytes w32 l) ≡ take 4 l
four [] h fits = absurd (omega arith)
four (a ∷ []) h fits = absurd (omega arith)
four (a ∷ b ∷ []) h fits = absurd (omega arith)
four (a ∷ b ∷ d ∷ []) h fits = absurd (omega arith)
four (a ∷ b ∷ d ∷ e ∷ l) h fits = be_bytes_4 (a ∷ b ∷ d ∷ e ∷ []) (from_be_bytes w32 (a ∷ b ∷ d ∷ e ∷ l)) refl small refl
  where
    small : (i : ℕ) → get_or (a ∷ b ∷ d ∷ e ∷ []) i 0 < 256
    small zero = fits 0
    small (suc zero) = fits 1
    small (suc (suc zero)) = fits 2
    small (suc (suc (suc zero))) = fits 3
    small (suc (suc (suc (suc i)))) = omega arith

pub four_at : (bytes : List ℕ) (at : ℕ) → at + 4 ≤ length bytes → AreBytes bytes
    → take 4 (drop at bytes) ≡ to_be_bytes w32 (number_at bytes at)
unfolding number_at
four_at bytes at h fits =
    sym (four (drop at bytes) (omega (arith, length-drop at bytes))
    (λ i. let same : get_or (drop at bytes) i 0 ≡ get_or bytes (at + i) 0 = get_or-drop at bytes i 0 in omega (arith, fits (at + i))))

-- a prelude is the prelude of its numbers
prelude_spelled : (bytes : List ℕ) → 12 ≤ length bytes → AreBytes bytes → number_at bytes 8 ≡ crc_of (take 8 bytes)
    → take 12 bytes ≡ prelude_of (number_at bytes 0) (number_at bytes 4)
unfolding prelude_of sealed
prelude_spelled bytes h fits crc =
    let numbers : take 8 bytes ≡ to_be_bytes w32 (number_at bytes 0) ++ to_be_bytes w32 (number_at bytes 4) =
    take-add 4 4 bytes
    ∙ ap (λ (l : List ℕ). l ++ take 4 (drop 4 bytes)) (four_at bytes 0 (omega arith) fits)
    ∙ ap (λ (l : List ℕ). to_be_bytes w32 (number_at bytes 0) ++ l) (four_at bytes 4 (omega arith) fits) in
    take-add 8 4 bytes
    ∙ ap (λ (l : List ℕ). take 8 bytes ++ l) (four_at bytes 8 (omega arith) fits ∙ ap (to_be_bytes w32) crc)
    ∙ ap (λ (l : List ℕ). l ++ to_be_bytes w32 (crc_of l)) numbers

-- a whole message with a good CRC is the message of its parts
pub message_spelled : (bytes : List ℕ) → IsWhole bytes → AreBytes bytes
    → number_at bytes (length bytes - 4) ≡ crc_of (take (length bytes - 4) bytes)
    → bytes ≡ message_of (headers_part bytes) (payload_part bytes)
unfolding message_of sealed
message_spelled bytes whole fits crc =
    let s : Sizes bytes = sizes bytes whole.prelude.sound in
    let h : ℕ = number_at bytes 4 in
    let room : 16 + number_at bytes 4 ≤ length bytes = whole_fits bytes whole in
    let before : ℕ = length bytes - 4 in
    let last : ℕ = length bytes - 4 - (12 + h) in
    let split : before ≡ 12 + h + last = omega arith in
    let headers_size : length (headers_part bytes) ≡ h = omega (arith, length-take h (drop 12 bytes), length-drop 12 bytes) in
    let payload_size : length (payload_part bytes) ≡ last =
    omega (arith, length-take last (drop (12 + h) bytes), length-drop (12 + h) bytes) in
    let total : number_at bytes 0 ≡ length (headers_part bytes) + length (payload_part bytes) + 16 = omega (arith, whole.size) in
    let parts : take before bytes ≡ prelude_of (length (headers_part bytes) + length (payload_part bytes) + 16) (length (headers_part bytes)) ++ headers_part bytes ++ payload_part bytes =
    ap (λ n. take n bytes) split
    ∙ take-add (12 + h) last bytes
    ∙ ap (λ (l : List ℕ). l ++ payload_part bytes) (take-add 12 h bytes)
    ∙ ap (λ (l : List ℕ). l ++ headers_part bytes ++ payload_part bytes)
    (prelude_spelled bytes whole.prelude.whole fits s.crc
    ∙ ap (λ n. prelude_of n h) total
    ∙ ap (prelude_of (length (headers_part bytes) + length (payload_part bytes) + 16)) (sym headers_size)) in
    let end : drop before bytes ≡ to_be_bytes w32 (crc_of (take before bytes)) =
    sym (take_all 4 (drop before bytes) (omega (arith, length-drop before bytes)))
    ∙ four_at bytes before (omega arith) fits ∙ ap (to_be_bytes w32) crc in
    sym (take-append-drop before bytes)
    ∙ ap (λ (l : List ℕ). take before bytes ++ l) end
    ∙ ap (λ (l : List ℕ). l ++ to_be_bytes w32 (crc_of l)) parts
