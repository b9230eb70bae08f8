-- What is read was spelled.
use Rattle.std.proofs.Common.{◌≡◌, ℕ, Bool, true, false, zero, suc, ◌+◌, ◌-◌, ◌^◌, ◌<◌, ◌≤◌, List, [], ◌∷◌, ◌++◌, length, take, drop, Some, refl, sym, ap, ◌∙◌, subst, arith, append_assoc, length-append, length-take-le, take-append-drop}
use Rattle.std.specs.Prelude.{ℤ, ◌/◌, ◌==◌, ◌&&◌, if◌then◌else◌, nat_le, Result, Ok, Err}
use Rattle.std.specs.Option.{option_and_then}
use Rattle.std.specs.Int.{div_ceil}
use Rattle.std.proofs.lemmas.Bool.{leb-true, eqb-true}
use Rattle.std.proofs.lemmas.List.{get_or-drop}
use Rattle.std.proofs.lemmas.Option.{option_and_then_some, none-some}
use Rattle.packed_bits.specs.Packed.{little}
use Rattle.thrift_compact.specs.declared.faults.ThriftFault.{ThriftFault}
use Rattle.thrift_compact.specs.Varints.{IsBytes, varint_at}
use Rattle.thrift_compact.proofs.VarintLaws.{varint_found}
use Rattle.parquet_delta.specs.declared.word.Word.{Word}
use Rattle.parquet_delta.specs.Numbers.{behind, number_at, zigzag_bits, next_sum}
use Rattle.parquet_delta.specs.Blocks.{Mini, Place, mini_size, mini_of, mini_in, block_at, mini_at, end_of, mini_deltas, deltas_of, joined_deltas}
use Rattle.parquet_delta.specs.Lists.{Start, is_shape, head_at, values_from, list_behind, list_at}
use Rattle.parquet_delta.specs.Spelling.{SpellsNumber, Block, AreBodies, AreBlocks, bodies_text, blocks_text, bodies_deltas, blocks_deltas, SpellsSome, Spells, SpellsFront}
use Rattle.parquet_delta.proofs.Behind.{when_some, some_same}
use Rattle.parquet_delta.proofs.Spelled.{place}

pub still_bytes : (n : ℕ) (bytes : List ℕ) → IsBytes bytes → IsBytes (drop n bytes)
still_bytes n bytes are = λ i. subst (λ b. b < 256) (sym (get_or-drop n bytes i 0)) (are (n + i))

-- a number was read
record NumberFound (x : ℕ × List ℕ) (bytes : List ℕ) : Type 0 where
  text : List ℕ
  spelled : SpellsNumber x.0 text
  joined : bytes ≡ text ++ x.1
  others : IsBytes x.1

number_by : (bytes : List ℕ) (r : Result (ℕ × ℕ) ThriftFault) (x : ℕ × List ℕ) → IsBytes bytes → varint_at (2 ^ 64 - 1) bytes ≡ r → behind bytes r ≡ Some x
    → NumberFound x bytes
number_by bytes (Ok n) x are read is =
    subst (λ y. NumberFound y bytes) (some_same (n.0, drop n.1 bytes) x is)
    (record {
      text = take n.1 bytes;
      spelled = varint_found (2 ^ 64 - 1) bytes n.0 n.1 are read;
      joined = sym (take-append-drop n.1 bytes);
      others = still_bytes n.1 bytes are;
    })
number_by bytes (Err f) x are read is = absurd (none-some x is)

number_found : (bytes : List ℕ) (x : ℕ × List ℕ) → IsBytes bytes → number_at bytes ≡ Some x → NumberFound x bytes
unfolding number_at
number_found bytes x are is = number_by bytes (varint_at (2 ^ 64 - 1) bytes) x are refl is

-- a miniblock was read
record MiniFound (values minis least width : ℕ) (widths bytes : List ℕ) (m : Mini × Place) : Type 0 where
  body : List ℕ
  more : List ℕ
  small : width ≤ 64
  size : length body ≡ mini_size values width
  joined : bytes ≡ body ++ more
  others : IsBytes more
  mini_is : m.0 ≡ record { least = least; width = width; bits = little body }
  place_is : m.1 ≡ place values minis least widths more

both : (a b : Bool) → (a && b) ≡ true → (a ≡ true) × (b ≡ true)
both true b is = (refl, is)
both false b is = cc

mini_found : (values minis least width : ℕ) (widths bytes : List ℕ) (m : Mini × Place) → IsBytes bytes
    → mini_of values minis least (width ∷ widths) bytes ≡ Some m → MiniFound values minis least width widths bytes m
mini_found values minis least width widths bytes m are is =
    let size = mini_size values width in
    let found = when_some (nat_le width 64 && nat_le size (length bytes)) _ m is in
    let tests = both (nat_le width 64) (nat_le size (length bytes)) found.0 in
    record {
      body = take size bytes;
      more = drop size bytes;
      small = leb-true width 64 tests.0;
      size = length-take-le size bytes (leb-true size (length bytes) tests.1);
      joined = sym (take-append-drop size bytes);
      others = still_bytes size bytes are;
      mini_is = sym (ap (λ y. y.0) found.1);
      place_is = sym (ap (λ y. y.1) found.1);
    }

-- a block's head was read
record HeadFound (values minis : ℕ) (bytes : List ℕ) (q : Place) : Type 0 where
  number : ℕ
  head : List ℕ
  widths : List ℕ
  more : List ℕ
  spelled : SpellsNumber number head
  many : length widths ≡ minis
  joined : bytes ≡ head ++ (widths ++ more)
  others : IsBytes more
  place_is : q ≡ place values minis (zigzag_bits number) widths more

head_found : (values minis least : ℕ) (bytes : List ℕ) (q : Place) → IsBytes bytes → block_at (place values minis least [] bytes) ≡ Some q
    → HeadFound values minis bytes q
unfolding block_at
head_found values minis least bytes q are is =
    option_and_then_some _ (number_at bytes) q is
    (λ x read passed. let number = number_found bytes x are read in
    let found = when_some (nat_le minis (length x.1)) _ q passed in
    record {
      number = x.0;
      head = number.text;
      widths = take minis x.1;
      more = drop minis x.1;
      spelled = number.spelled;
      many = length-take-le minis x.1 (leb-true minis (length x.1) found.0);
      joined = number.joined ∙ ap (λ l. number.text ++ l) (sym (take-append-drop minis x.1));
      others = still_bytes minis x.1 number.others;
      place_is = sym found.1;
    })

-- what was read from a place on: bodies of the block that was entered, and blocks
record BodiesFound (n values minis least : ℕ) (widths bytes rest deltas : List ℕ) : Type 0 where
  bodies : List (List ℕ)
  blocks : List Block
  are_bodies : AreBodies values n widths bodies
  are_blocks : AreBlocks values minis (n - length widths) blocks
  bytes_are : bytes ≡ bodies_text bodies ++ (blocks_text blocks ++ rest)
  deltas_are : deltas ≡ bodies_deltas values least widths bodies ++ blocks_deltas values blocks

-- with a miniblock in front
one_more : (n values minis least width : ℕ) (widths bytes rest : List ℕ) (m : Mini × Place) → MiniFound values minis least width widths bytes m
    → end_of n m.1 ≡ Some rest
    → ((more : List ℕ) → IsBytes more → end_of n (place values minis least widths more) ≡ Some rest
    → BodiesFound n values minis least widths more rest (deltas_of n (place values minis least widths more)))
    → BodiesFound (suc n) values minis least (width ∷ widths) bytes rest (mini_deltas values m.0 ++ deltas_of n m.1)
one_more n values minis least width widths bytes rest m f end go =
    let others = go f.more f.others (subst (λ p. end_of n p ≡ Some rest) f.place_is end) in
    let count : suc n - suc (length widths) ≡ n - length widths = omega arith in
    let mini : Mini = record { least = least; width = width; bits = little f.body } in
    let tail : List ℕ = bodies_deltas values least widths others.bodies ++ blocks_deltas values others.blocks in
    record {
      bodies = f.body ∷ others.bodies;
      blocks = others.blocks;
      are_bodies = (f.small, f.size, others.are_bodies);
      are_blocks = subst (λ k. AreBlocks values minis k others.blocks) (sym count) others.are_blocks;
      bytes_are = f.joined ∙ ap (λ l. f.body ++ l) others.bytes_are
          ∙ sym (append_assoc f.body (bodies_text others.bodies) (blocks_text others.blocks ++ rest));
      deltas_are = ap (λ x. mini_deltas values x ++ deltas_of n m.1) f.mini_is
          ∙ ap (λ p. mini_deltas values mini ++ deltas_of n p) f.place_is ∙ ap (λ l. mini_deltas values mini ++ l) others.deltas_are
          ∙ sym (append_assoc (mini_deltas values mini) (bodies_deltas values least widths others.bodies) (blocks_deltas values others.blocks));
    }

-- a block from its head on
one_block : (n values minis : ℕ) (bytes rest deltas : List ℕ) (q : Place) (h : HeadFound values minis bytes q) (width : ℕ) (widths : List ℕ)
    → h.widths ≡ width ∷ widths → BodiesFound (suc n) values minis (zigzag_bits h.number) (width ∷ widths) h.more rest deltas
    → (least : ℕ) → BodiesFound (suc n) values minis least [] bytes rest deltas
one_block n values minis bytes rest deltas q h width widths is found least =
    let whole : suc n - 0 ≡ suc n = omega arith in
    let many : suc (length widths) ≡ minis = ap length (sym is) ∙ h.many in
    let block : Block = record { number = h.number; head = h.head; widths = width ∷ widths; bodies = found.bodies } in
    let bodies = bodies_text found.bodies in
    let blocks = blocks_text found.blocks in
    record {
      bodies = [];
      blocks = block ∷ found.blocks;
      are_bodies = tt;
      are_blocks = subst (λ k. AreBlocks values minis k (block ∷ found.blocks)) (sym whole) (
        omega arith,
        h.spelled,
        many,
        found.are_bodies,
        subst (λ k. AreBlocks values minis (suc n - k) found.blocks) many found.are_blocks,
      );
      bytes_are = h.joined ∙ ap (λ l. h.head ++ (l ++ h.more)) is ∙ ap (λ l. h.head ++ ((width ∷ widths) ++ l)) found.bytes_are
          ∙ sym (append_assoc h.head ((width ∷ widths) ++ (bodies ++ blocks)) rest
          ∙ ap (λ l. h.head ++ l) (append_assoc (width ∷ widths) (bodies ++ blocks) rest
          ∙ ap (λ l. (width ∷ widths) ++ l) (append_assoc bodies blocks rest)));
      deltas_are = found.deltas_are;
    }

-- whatever is read of n miniblocks was spelled
abbrev Finds : ℕ → ℕ → ℕ → List ℕ → Type 0
Finds n values minis rest = (least : ℕ) (widths bytes : List ℕ) → IsBytes bytes → end_of n (place values minis least widths bytes) ≡ Some rest
    → BodiesFound n values minis least widths bytes rest (deltas_of n (place values minis least widths bytes))

in_widths : (n values minis least : ℕ) (bytes rest : List ℕ) → Finds n values minis rest
    → (q : Place) (m : Mini × Place) (h : HeadFound values minis bytes q) (widths : List ℕ) → h.widths ≡ widths
    → mini_of values minis (zigzag_bits h.number) widths h.more ≡ Some m → end_of n m.1 ≡ Some rest
    → BodiesFound (suc n) values minis least [] bytes rest (mini_deltas values m.0 ++ deltas_of n m.1)
in_widths n values minis least bytes rest go q m h [] same mini more = absurd (none-some m mini)
in_widths n values minis least bytes rest go q m h (width ∷ widths) same mini more =
    one_block n values minis bytes rest (mini_deltas values m.0 ++ deltas_of n m.1) q h width widths same
    (one_more n values minis (zigzag_bits h.number) width widths h.more rest m
    (mini_found values minis (zigzag_bits h.number) width widths h.more m h.others mini) more (go (zigzag_bits h.number) widths)) least

in_block : (n values minis least : ℕ) (bytes rest : List ℕ) → Finds n values minis rest
    → (q : Place) (m : Mini × Place) (h : HeadFound values minis bytes q) → mini_in q ≡ Some m → end_of n m.1 ≡ Some rest
    → BodiesFound (suc n) values minis least [] bytes rest (mini_deltas values m.0 ++ deltas_of n m.1)
unfolding mini_in
in_block n values minis least bytes rest go q m h mini more =
    in_widths n values minis least bytes rest go q m h h.widths refl (ap mini_in (sym h.place_is) ∙ mini) more

bodies_found : (n values minis : ℕ) (rest : List ℕ) → Finds n values minis rest
unfolding end_of deltas_of mini_at mini_in
bodies_found zero values minis rest least widths bytes are is =
    record { bodies = []; blocks = []; are_bodies = tt; are_blocks = omega arith; bytes_are = some_same bytes rest is; deltas_are = refl }
bodies_found (suc n) values minis rest least (width ∷ widths) bytes are is =
    option_and_then_some _ (mini_of values minis least (width ∷ widths) bytes) rest is
    (λ m mini more. subst (BodiesFound (suc n) values minis least (width ∷ widths) bytes rest) (sym (ap (joined_deltas values (deltas_of n)) mini))
    (one_more n values minis least width widths bytes rest m (mini_found values minis least width widths bytes m are mini) more
    (bodies_found n values minis rest least widths)))
bodies_found (suc n) values minis rest least [] bytes are is =
    option_and_then_some _ (option_and_then mini_in (block_at (place values minis least [] bytes))) rest is
    (λ m read more. option_and_then_some mini_in (block_at (place values minis least [] bytes)) m read
    (λ q block mini. subst (BodiesFound (suc n) values minis least [] bytes rest) (sym (ap (joined_deltas values (deltas_of n)) read))
    (in_block n values minis least bytes rest (bodies_found n values minis rest) q m (head_found values minis least bytes q are block) mini more)))

-- the head of a list was read
record StartFound (count : ℕ) (bytes : List ℕ) (start : Start) : Type 0 where
  size : ℕ
  size_text : List ℕ
  size_spelled : SpellsNumber size size_text
  minis : ℕ
  minis_text : List ℕ
  minis_spelled : SpellsNumber minis minis_text
  shape : is_shape size minis ≡ true
  count_text : List ℕ
  count_spelled : SpellsNumber count count_text
  first : ℕ
  first_text : List ℕ
  first_spelled : SpellsNumber first first_text
  others : List ℕ
  are_bytes : IsBytes others
  joined : bytes ≡ size_text ++ (minis_text ++ (count_text ++ (first_text ++ others)))
  start_is : start ≡ record { first = zigzag_bits first; place = place (size / minis) minis 0 [] others }

start_found : (count : ℕ) (bytes : List ℕ) (start : Start) → IsBytes bytes → head_at count bytes ≡ Some start → StartFound count bytes start
unfolding head_at
start_found count bytes start are is =
    option_and_then_some _ (number_at bytes) start is
    (λ size read_size is_2. option_and_then_some _ (number_at size.1) start is_2
    (λ minis read_minis is_3. option_and_then_some _ (number_at minis.1) start is_3
    (λ total read_total is_4. option_and_then_some _ (number_at total.1) start is_4
    (λ first read_first last.
    let a = number_found bytes size are read_size in
    let b = number_found size.1 minis a.others read_minis in
    let d = number_found minis.1 total b.others read_total in
    let e = number_found total.1 first d.others read_first in
    let found = when_some (is_shape size.0 minis.0 && (total.0 == count)) _ start last in
    let tests = both (is_shape size.0 minis.0) (total.0 == count) found.0 in
    record {
      size = size.0;
      size_text = a.text;
      size_spelled = a.spelled;
      minis = minis.0;
      minis_text = b.text;
      minis_spelled = b.spelled;
      shape = tests.0;
      count_text = d.text;
      count_spelled = subst (λ n. SpellsNumber n d.text) (eqb-true total.0 count tests.1) d.spelled;
      first = first.0;
      first_text = e.text;
      first_spelled = e.spelled;
      others = first.1;
      are_bytes = e.others;
      joined = a.joined ∙ ap (λ l. a.text ++ l) (b.joined ∙ ap (λ l. b.text ++ l) (d.joined ∙ ap (λ l. d.text ++ l) e.joined));
      start_is = sym found.1;
    }))))

length_values : (word : Word) (n sum : ℕ) (deltas : List ℕ) → length (values_from word n sum deltas) ≡ n
unfolding values_from
length_values word zero sum deltas = refl
length_values word (suc n) sum deltas =
    let others = length_values word n (next_sum sum deltas) (drop 1 deltas) in
    omega (arith, others)

no_bodies : (values n : ℕ) (bodies : List (List ℕ)) → AreBodies values n [] bodies → bodies ≡ []
no_bodies values n [] are = refl
no_bodies values zero (body ∷ bodies) are = absurd are
no_bodies values (suc n) (body ∷ bodies) are = absurd are

spells_some : (word : Word) (values : List ℤ) (text : List ℕ) → 0 < length values → SpellsSome word values text → Spells word values text
spells_some word [] text some s = absurd (omega (arith, some))
spells_some word (v ∷ values) text some s = s

-- a list was read, and how many bytes it has
pub record ListFound (word : Word) (count used : ℕ) (bytes : List ℕ) (values : List ℤ) : Type 0 where
  pub front : SpellsFront word values used bytes
  pub many : length values ≡ count

some_found : (word : Word) (count used : ℕ) (bytes : List ℕ) (start : Start) (rest : List ℕ) → 0 < count → IsBytes bytes → head_at count bytes ≡ Some start
    → end_of (div_ceil (count - 1) start.place.values) start.place ≡ Some rest → used ≡ length bytes - length rest
    → ListFound word count used bytes (values_from word count start.first (deltas_of (div_ceil (count - 1) start.place.values) start.place))
some_found word count used bytes start rest some are head end used_is =
    let s = start_found count bytes start are head in
    let values = s.size / s.minis in
    let n = div_ceil (count - 1) values in
    let here = place values s.minis 0 [] s.others in
    let ends : end_of n here ≡ Some rest = subst (λ t. end_of (div_ceil (count - 1) t.place.values) t.place ≡ Some rest) s.start_is end in
    let f = bodies_found n values s.minis rest 0 [] s.others s.are_bytes ends in
    let none = no_bodies values n f.bodies f.are_bodies in
    let whole : n - 0 ≡ n = omega arith in
    let deltas : deltas_of n here ≡ blocks_deltas values f.blocks =
    f.deltas_are ∙ ap (λ l. bodies_deltas values 0 [] l ++ blocks_deltas values f.blocks) none in
    let others : s.others ≡ blocks_text f.blocks ++ rest = f.bytes_are ∙ ap (λ l. bodies_text l ++ (blocks_text f.blocks ++ rest)) none in
    let blocks = blocks_text f.blocks in
    let text = s.size_text ++ (s.minis_text ++ (s.count_text ++ (s.first_text ++ blocks))) in
    let joined : bytes ≡ text ++ rest =
    s.joined ∙ ap (λ l. s.size_text ++ (s.minis_text ++ (s.count_text ++ (s.first_text ++ l)))) others
    ∙ sym (append_assoc s.size_text (s.minis_text ++ (s.count_text ++ (s.first_text ++ blocks))) rest
    ∙ ap (λ l. s.size_text ++ l) (append_assoc s.minis_text (s.count_text ++ (s.first_text ++ blocks)) rest
    ∙ ap (λ l. s.minis_text ++ l) (append_assoc s.count_text (s.first_text ++ blocks) rest
    ∙ ap (λ l. s.count_text ++ l) (append_assoc s.first_text blocks rest)))) in
    let length_is : length bytes ≡ length text + length rest = ap length joined ∙ length-append text rest in
    let made : List ℤ = values_from word count start.first (deltas_of (div_ceil (count - 1) start.place.values) start.place) in
    let many : length made ≡ count = length_values word count start.first _ in
    let values_are : made ≡ values_from word count (zigzag_bits s.first) (blocks_deltas values f.blocks) =
    ap (λ t. values_from word count t.first (deltas_of (div_ceil (count - 1) t.place.values) t.place)) s.start_is
    ∙ ap (values_from word count (zigzag_bits s.first)) deltas in
    record {
      front = record {
        text = text;
        spelled = spells_some word made text (rw many some) (record {
          size = s.size;
          size_text = s.size_text;
          size_spelled = s.size_spelled;
          minis = s.minis;
          minis_text = s.minis_text;
          minis_spelled = s.minis_spelled;
          shape = s.shape;
          count = count;
          count_text = s.count_text;
          count_spelled = s.count_spelled;
          count_is = sym many;
          first = s.first;
          first_text = s.first_text;
          first_spelled = s.first_spelled;
          blocks = f.blocks;
          are_blocks = subst (λ k. AreBlocks values s.minis k f.blocks) whole f.are_blocks;
          values_are = values_are;
          text_is = refl;
        });
        used_is = omega (arith, used_is, length_is);
        rest = rest;
        joined = joined;
      };
      many = many;
    }

found_if : (t : Bool) (word : Word) (count used : ℕ) (bytes : List ℕ) (x : List ℤ × List ℕ) → (count == 0) ≡ t → IsBytes bytes
    → (if t then Some ([], bytes) else option_and_then (list_behind word count) (head_at count bytes)) ≡ Some x → used ≡ length bytes - length x.1
    → ListFound word count used bytes x.0
found_if true word count used bytes x zero_is are is used_is =
    let same : ([], bytes) ≡ x = some_same ([], bytes) x is in
    let none : count ≡ 0 = eqb-true count 0 zero_is in
    let all : used ≡ length bytes - length bytes = used_is ∙ ap (λ y. length bytes - length y.1) (sym same) in
    subst (λ y. ListFound word count used bytes y.0) same
    (record { front = record { text = []; spelled = refl; used_is = omega (arith, all); rest = bytes; joined = refl }; many = sym none })
found_if false word count used bytes x not_zero are is used_is =
    option_and_then_some _ (head_at count bytes) x is
    (λ start head found. option_and_then_some _ (end_of (div_ceil (count - 1) start.place.values) start.place) x found
    (λ rest end last. let same = some_same _ x last in
    subst (λ y. ListFound word count used bytes y.0) same
    (some_found word count used bytes start rest (positive count not_zero) are head end
    (used_is ∙ ap (λ y. length bytes - length y.1) (sym same)))))
  where
    positive : (n : ℕ) → (n == 0) ≡ false → 0 < n
    positive zero is = cc
    positive (suc n) is = omega arith

-- what is read was spelled
pub list_found : (word : Word) (count used : ℕ) (bytes : List ℕ) (x : List ℤ × List ℕ) → IsBytes bytes → list_at word count bytes ≡ Some x
    → used ≡ length bytes - length x.1 → ListFound word count used bytes x.0
unfolding list_at
list_found word count used bytes x are is used_is = found_if (count == 0) word count used bytes x refl are is used_is
