-- Where reading goes on: behind a front of the bytes.
use Rattle.std.proofs.Common.{◌≡◌, ℕ, Bool, true, false, zero, suc, ◌+◌, ◌-◌, ◌*◌, ◌^◌, ◌%◌, ◌≤◌, List, [], ◌∷◌, ◌++◌, length, take, drop, None, Some, if◌then◌else◌, refl, sym, ap, ◌∙◌, subst, arith, append_assoc, length-append, take-append-drop}
use Rattle.std.proofs.lemmas.List.{length-map}
use Rattle.std.proofs.lemmas.Option.{option_and_then_some, none-some}
use Rattle.std.proofs.Math.Nat.{add-mul}
use Rattle.std.proofs.Math.Seq.{drop-append_seam}
use Rattle.std.specs.Prelude.{Result, Ok, Err, ◌/◌, ◌&&◌, ◌==◌, nat_le}
use Rattle.packed_bits.specs.Packed.{unpacked}
use Rattle.thrift_compact.specs.declared.faults.ThriftFault.{ThriftFault}
use Rattle.thrift_compact.specs.Varints.{varint_at}
use Rattle.parquet_delta.specs.Numbers.{behind, number_at, zigzag_bits}
use Rattle.parquet_delta.specs.Lists.{Start, is_shape, head_at}
use Rattle.parquet_delta.specs.Blocks.{Mini, Place, mini_size, mini_of, mini_in, mini_after, block_at, mini_at, end_of, mini_deltas, deltas_of, joined_deltas}

-- the rest stands behind a front of the bytes
pub record Behind (rest bytes : List ℕ) : Type 0 where
  pub front : List ℕ
  pub joined : bytes ≡ front ++ rest

pub behind_drop : (n : ℕ) (bytes : List ℕ) → Behind (drop n bytes) bytes
behind_drop n bytes = record { front = take n bytes; joined = sym (take-append-drop n bytes) }

pub behind_both : (a b c : List ℕ) → Behind c b → Behind b a → Behind c a
behind_both a b c x y = record {
  front = y.front ++ x.front;
  joined = y.joined ∙ ap (λ l. y.front ++ l) x.joined ∙ sym (append_assoc y.front x.front c);
}

pub no_longer : (rest bytes : List ℕ) → Behind rest bytes → length rest ≤ length bytes
no_longer rest bytes x =
    let e : length bytes ≡ length x.front + length rest = ap length x.joined ∙ length-append x.front rest in
    omega (arith, e)

pub some_same : {A : Type 0} (z y : A) → Some z ≡ Some y → z ≡ y
some_same z y is = cc

-- where what is left begins
pub begins : (rest bytes : List ℕ) → Behind rest bytes → rest ≡ drop (length bytes - length rest) bytes
begins rest bytes x =
    let e : length bytes ≡ length x.front + length rest = ap length x.joined ∙ length-append x.front rest in
    let d : length bytes - length rest ≡ length x.front = omega (arith, e) in
    sym (ap (λ n. drop n bytes) d ∙ ap (drop (length x.front)) x.joined ∙ drop-append_seam x.front rest)

-- what a test lets through
pub when_some : {A : Type 0} (b : Bool) (z y : A) → (if b then Some z else None) ≡ Some y → (b ≡ true) × (z ≡ y)
when_some true z y is = (refl, some_same z y is)
when_some false z y is = absurd (none-some y is)

number_behind : (bytes : List ℕ) (r : Result (ℕ × ℕ) ThriftFault) (x : ℕ × List ℕ) → behind bytes r ≡ Some x → Behind x.1 bytes
number_behind bytes (Ok n) x is = subst (λ y. Behind y.1 bytes) (some_same (n.0, drop n.1 bytes) x is) (behind_drop n.1 bytes)
number_behind bytes (Err f) x is = absurd (none-some x is)

pub behind_number : (bytes : List ℕ) (x : ℕ × List ℕ) → number_at bytes ≡ Some x → Behind x.1 bytes
unfolding number_at
behind_number bytes x is = number_behind bytes (varint_at (2 ^ 64 - 1) bytes) x is

-- behind a miniblock the bytes are a rest of the bytes, and miniblocks have as many values
keeps_of : (values minis least : ℕ) (widths bytes : List ℕ) (m : Mini × Place) → mini_of values minis least widths bytes ≡ Some m
    → Behind m.1.bytes bytes × (m.1.values ≡ values)
keeps_of values minis least [] bytes m is = absurd (none-some m is)
keeps_of values minis least (width ∷ widths) bytes m is =
    let size = mini_size values width in
    let found = when_some (nat_le width 64 && nat_le size (length bytes)) _ m is in
    subst (λ y. Behind y.1.bytes bytes × (y.1.values ≡ values)) found.1 (behind_drop size bytes, refl)

keeps_in : (p : Place) (m : Mini × Place) → mini_in p ≡ Some m → Behind m.1.bytes p.bytes × (m.1.values ≡ p.values)
unfolding mini_in
keeps_in p m is = keeps_of p.values p.minis p.least p.widths p.bytes m is

keeps_block : (p q : Place) → block_at p ≡ Some q → Behind q.bytes p.bytes × (q.values ≡ p.values)
unfolding block_at
keeps_block p q is =
    option_and_then_some _ (number_at p.bytes) q is
    (λ x number passed. let found = when_some (nat_le p.minis (length x.1)) _ q passed in
    subst (λ y. Behind y.bytes p.bytes × (y.values ≡ p.values)) found.1
    (behind_both p.bytes x.1 (drop p.minis x.1) (behind_drop p.minis x.1) (behind_number p.bytes x number), refl))

keeps_after : (widths : List ℕ) (p : Place) (m : Mini × Place) → mini_after widths p ≡ Some m → Behind m.1.bytes p.bytes × (m.1.values ≡ p.values)
keeps_after [] p m is =
    option_and_then_some mini_in (block_at p) m is
    (λ q block mini. let first = keeps_block p q block in
    let second = keeps_in q m mini in
    (behind_both p.bytes q.bytes m.1.bytes second.0 first.0, second.1 ∙ first.1))
keeps_after (width ∷ widths) p m is = keeps_in p m is

pub keeps : (p : Place) (m : Mini × Place) → mini_at p ≡ Some m → Behind m.1.bytes p.bytes × (m.1.values ≡ p.values)
unfolding mini_at
keeps p m is = keeps_after p.widths p m is

pub behind_end : (minis : ℕ) (p : Place) (rest : List ℕ) → end_of minis p ≡ Some rest → Behind rest p.bytes
unfolding end_of
behind_end zero p rest is = subst (λ l. Behind l p.bytes) (some_same p.bytes rest is) (behind_drop 0 p.bytes)
behind_end (suc n) p rest is =
    option_and_then_some _ (mini_at p) rest is
    (λ m mini more. behind_both p.bytes m.1.bytes rest (behind_end n m.1 rest more) (keeps p m mini).0)

-- how many deltas miniblocks have
length_unpacked : (width n bits : ℕ) → length (unpacked width n bits) ≡ n
unfolding unpacked
length_unpacked width zero bits = refl
length_unpacked width (suc n) bits =
    let more = length_unpacked width n (bits / 2 ^ width) in
    omega (arith, more)

length_mini : (n : ℕ) (m : Mini) → length (mini_deltas n m) ≡ n
unfolding mini_deltas
length_mini n m = length-map (unpacked m.width n m.bits) (λ x. (m.least + x) % 2 ^ 64) ∙ length_unpacked m.width n m.bits

pub length_deltas : (minis : ℕ) (p : Place) (rest : List ℕ) → end_of minis p ≡ Some rest → length (deltas_of minis p) ≡ minis * p.values
unfolding end_of deltas_of
length_deltas zero p rest is = omega arith
length_deltas (suc n) p rest is =
    option_and_then_some _ (mini_at p) rest is
    (λ m mini more. let values = (keeps p m mini).1 in
    let tail : length (deltas_of n m.1) ≡ n * p.values = length_deltas n m.1 rest more ∙ ap (λ v. n * v) values in
    ap (λ o. length (joined_deltas p.values (deltas_of n) o)) mini ∙ length-append (mini_deltas p.values m.0) (deltas_of n m.1)
    ∙ ap (λ k. k + length (deltas_of n m.1)) (length_mini p.values m.0) ∙ ap (λ k. p.values + k) tail ∙ sym (one_more n p.values))
  where
    one_more : (n v : ℕ) → suc n * v ≡ v + n * v
    one_more n v = let e : suc n ≡ 1 + n = omega arith in rw e (add-mul 1 n v ∙ omega arith)

head_rest : (count : ℕ) (size minis total first : ℕ × List ℕ) (start : Start)
    → (if is_shape size.0 minis.0 && (total.0 == count)
    then Some (record {
      first = zigzag_bits first.0;
      place = record { values = size.0 / minis.0; minis = minis.0; least = 0; widths = []; bytes = first.1 };
    })
    else None) ≡ Some start → start.place.bytes ≡ first.1
head_rest count size minis total first start is =
    let found = when_some (is_shape size.0 minis.0 && (total.0 == count)) _ start is in
    sym (ap (λ s. s.place.bytes) found.1)

-- the miniblocks stand behind the head
pub behind_head : (count : ℕ) (bytes : List ℕ) (start : Start) → head_at count bytes ≡ Some start → Behind start.place.bytes bytes
unfolding head_at
behind_head count bytes start is =
    option_and_then_some _ (number_at bytes) start is
    (λ size read_size is_2. option_and_then_some _ (number_at size.1) start is_2
    (λ minis read_minis is_3. option_and_then_some _ (number_at minis.1) start is_3
    (λ total read_total is_4. option_and_then_some _ (number_at total.1) start is_4
    (λ first read_first found.
    subst (λ l. Behind l bytes) (sym (head_rest count size minis total first start found))
    (behind_both bytes size.1 first.1 (behind_both size.1 minis.1 first.1 (behind_both minis.1 total.1 first.1 (behind_number total.1 first read_first)
    (behind_number minis.1 total read_total)) (behind_number size.1 minis read_minis)) (behind_number bytes size read_size))))))
