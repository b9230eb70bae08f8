-- What is spelled is read.
use Rattle.std.proofs.Common.{◌≡◌, ℕ, Bool, true, false, zero, suc, ◌-◌, ◌^◌, ◌<◌, ◌≤◌, List, [], ◌∷◌, ◌++◌, length, take, drop, Option, None, Some, refl, sym, ap, ◌∙◌, subst, arith, append_assoc, length-append}
use Rattle.std.specs.Prelude.{ℤ, ◌/◌, ◌%◌, ◌==◌, ◌&&◌, if◌then◌else◌, nat_le, nat_lt}
use Rattle.std.specs.Option.{option_and_then}
use Rattle.std.specs.Int.{div_ceil}
use Rattle.std.proofs.lemmas.Bool.{le-leb, ne_eqb, eq-eqb, ltb-true}
use Rattle.std.proofs.lemmas.Option.{none-some}
use Rattle.std.proofs.Math.Seq.{drop-append_seam, take-append_seam}
use Rattle.packed_bits.specs.Packed.{little}
use Rattle.thrift_compact.proofs.VarintLaws.{varint_only}
use Rattle.parquet_delta.specs.declared.word.Word.{Word}
use Rattle.parquet_delta.specs.Numbers.{behind, number_at, zigzag_bits}
use Rattle.parquet_delta.specs.Blocks.{Mini, Place, mini_size, mini_in, block_at, mini_at, end_of, mini_deltas, deltas_of, joined_deltas}
use Rattle.parquet_delta.specs.Lists.{Start, is_shape, head_at, values_from, list_behind, list_at}
use Rattle.parquet_delta.specs.Spelling.{SpellsNumber, Block, AreBodies, AreBlocks, bodies_text, blocks_text, bodies_deltas, blocks_deltas, SpellsSome, Spells}

abbrev pub place : ℕ → ℕ → ℕ → List ℕ → List ℕ → Place
place values minis least widths bytes = record { values = values; minis = minis; least = least; widths = widths; bytes = bytes }

-- a part that stands at the front
take_front : (n : ℕ) (front more : List ℕ) → length front ≡ n → take n (front ++ more) ≡ front
take_front n front more is = ap (λ k. take k (front ++ more)) (sym is) ∙ take-append_seam front more

drop_front : (n : ℕ) (front more : List ℕ) → length front ≡ n → drop n (front ++ more) ≡ more
drop_front n front more is = ap (λ k. drop k (front ++ more)) (sym is) ∙ drop-append_seam front more

enough : (n : ℕ) (front more : List ℕ) → length front ≡ n → nat_le n (length (front ++ more)) ≡ true
enough n front more is = le-leb n (length (front ++ more)) (rw (length-append front more) (omega (arith, is)))

pub number_read : (number : ℕ) (text rest : List ℕ) → SpellsNumber number text → number_at (text ++ rest) ≡ Some (number, rest)
unfolding number_at
number_read number text rest spelled =
    ap (behind (text ++ rest)) (varint_only (2 ^ 64 - 1) number text rest spelled) ∙ ap (λ r. Some (number, r)) (drop-append_seam text rest)

mini_read : (values minis least width : ℕ) (widths body more : List ℕ) → width ≤ 64 → length body ≡ mini_size values width
    → mini_at (place values minis least (width ∷ widths) (body ++ more))
    ≡ Some (record { least = least; width = width; bits = little body }, place values minis least widths more)
unfolding mini_at mini_in
mini_read values minis least width widths body more small size =
    ap (λ t. if t && nat_le (mini_size values width) (length (body ++ more))
    then Some (
      record { least = least; width = width; bits = little (take (mini_size values width) (body ++ more)) },
      place values minis least widths (drop (mini_size values width) (body ++ more)),
    )
    else None) (le-leb width 64 small)
    ∙ ap (λ t. if t
    then Some (
      record { least = least; width = width; bits = little (take (mini_size values width) (body ++ more)) },
      place values minis least widths (drop (mini_size values width) (body ++ more)),
    )
    else None) (enough (mini_size values width) body more size)
    ∙ ap (λ l. Some (record { least = least; width = width; bits = little l }, place values minis least widths (drop (mini_size values width) (body ++ more))))
    (take_front (mini_size values width) body more size)
    ∙ ap (λ l. Some (record { least = least; width = width; bits = little body }, place values minis least widths l))
    (drop_front (mini_size values width) body more size)

block_read : (values minis least number : ℕ) (head widths more : List ℕ) → SpellsNumber number head → length widths ≡ minis
    → block_at (place values minis least [] (head ++ (widths ++ more))) ≡ Some (place values minis (zigzag_bits number) widths more)
unfolding block_at
block_read values minis least number head widths more spelled is =
    ap (option_and_then (λ x. if nat_le minis (length x.1)
    then Some (place values minis (zigzag_bits x.0) (take minis x.1) (drop minis x.1))
    else None)) (number_read number head (widths ++ more) spelled)
    ∙ ap (λ t. if t then Some (place values minis (zigzag_bits number) (take minis (widths ++ more)) (drop minis (widths ++ more))) else None)
    (enough minis widths more is)
    ∙ ap (λ l. Some (place values minis (zigzag_bits number) l (drop minis (widths ++ more)))) (take_front minis widths more is)
    ∙ ap (λ l. Some (place values minis (zigzag_bits number) widths l)) (drop_front minis widths more is)

-- a block's first miniblock
enter : (values minis least number width : ℕ) (head widths more : List ℕ) → SpellsNumber number head → length (width ∷ widths) ≡ minis
    → mini_at (place values minis least [] (head ++ ((width ∷ widths) ++ more))) ≡ mini_at (place values minis (zigzag_bits number) (width ∷ widths) more)
unfolding mini_at
enter values minis least number width head widths more spelled is =
    ap (option_and_then mini_in) (block_read values minis least number head (width ∷ widths) more spelled is)

-- what is read from a place on
pub record Reads (n : ℕ) (p : Place) (end : Option (List ℕ)) (deltas : List ℕ) : Type 0 where
  pub end_is : end_of n p ≡ end
  pub deltas_are : deltas_of n p ≡ deltas

one_read : (n : ℕ) (p q : Place) (m : Mini) (end : Option (List ℕ)) (deltas : List ℕ) → mini_at p ≡ Some (m, q) → Reads n q end deltas
    → Reads (suc n) p end (mini_deltas p.values m ++ deltas)
unfolding end_of deltas_of
one_read n p q m end deltas is reads = record {
  end_is = ap (option_and_then (λ x. end_of n x.1)) is ∙ reads.end_is;
  deltas_are = ap (joined_deltas p.values (deltas_of n)) is ∙ ap (λ l. mini_deltas p.values m ++ l) reads.deltas_are;
}

none_read : (p : Place) → Reads 0 p (Some p.bytes) []
unfolding end_of deltas_of
none_read p = record { end_is = refl; deltas_are = refl }

-- a read that begins at another place with the same next miniblock
same_read : (n : ℕ) (p q : Place) (end : Option (List ℕ)) (deltas : List ℕ) → mini_at p ≡ mini_at q → p.values ≡ q.values → Reads (suc n) q end deltas
    → Reads (suc n) p end deltas
unfolding end_of deltas_of
same_read n p q end deltas is values reads = record {
  end_is = ap (option_and_then (λ x. end_of n x.1)) is ∙ reads.end_is;
  deltas_are = ap (λ v. joined_deltas v (deltas_of n) (mini_at p)) values ∙ ap (joined_deltas q.values (deltas_of n)) is ∙ reads.deltas_are;
}

bodies_read : (values minis least n : ℕ) (widths : List ℕ) (bodies : List (List ℕ)) (more : List ℕ) (end : Option (List ℕ)) (deltas : List ℕ)
    → AreBodies values n widths bodies → Reads (n - length widths) (place values minis least [] more) end deltas
    → Reads n (place values minis least widths (bodies_text bodies ++ more)) end (bodies_deltas values least widths bodies ++ deltas)
unfolding end_of deltas_of
bodies_read values minis least zero widths [] more end deltas are reads =
    let none : 0 - length widths ≡ 0 = omega arith in
    let all = subst (λ k. Reads k (place values minis least [] more) end deltas) none reads in
    record { end_is = all.end_is; deltas_are = all.deltas_are }
bodies_read values minis least zero widths (body ∷ bodies) more end deltas are reads = absurd are
bodies_read values minis least (suc n) [] [] more end deltas are reads =
    let whole : suc n - 0 ≡ suc n = omega arith in
    subst (λ k. Reads k (place values minis least [] more) end deltas) whole reads
bodies_read values minis least (suc n) [] (body ∷ bodies) more end deltas are reads = absurd are
bodies_read values minis least (suc n) (width ∷ widths) [] more end deltas are reads = absurd are
bodies_read values minis least (suc n) (width ∷ widths) (body ∷ bodies) more end deltas are reads =
    let count : suc n - suc (length widths) ≡ n - length widths = omega arith in
    let m : Mini = record { least = least; width = width; bits = little body } in
    let others = bodies_read values minis least n widths bodies more end deltas are.2
    (subst (λ k. Reads k (place values minis least [] more) end deltas) count reads) in
    let one = one_read n (place values minis least (width ∷ widths) (body ++ (bodies_text bodies ++ more)))
    (place values minis least widths (bodies_text bodies ++ more)) m end (bodies_deltas values least widths bodies ++ deltas)
    (mini_read values minis least width widths body (bodies_text bodies ++ more) are.0 are.1) others in
    subst (λ l. Reads (suc n) (place values minis least (width ∷ widths) l) end (bodies_deltas values least (width ∷ widths) (body ∷ bodies) ++ deltas))
    (sym (append_assoc body (bodies_text bodies) more))
    (subst (Reads (suc n) (place values minis least (width ∷ widths) (body ++ (bodies_text bodies ++ more))) end)
    (sym (append_assoc (mini_deltas values m) (bodies_deltas values least widths bodies) deltas)) one)

block_all_read : (values minis least n number : ℕ) (head widths : List ℕ) (bodies : List (List ℕ)) (text rest : List ℕ) (deltas : List ℕ) → 0 < minis → 0 < n
    → SpellsNumber number head → length widths ≡ minis → AreBodies values n widths bodies
    → Reads (n - minis) (place values minis (zigzag_bits number) [] (text ++ rest)) (Some rest) deltas
    → Reads n (place values minis least [] (head ++ (widths ++ (bodies_text bodies ++ (text ++ rest))))) (Some rest)
    (bodies_deltas values (zigzag_bits number) widths bodies ++ deltas)
block_all_read values minis least zero number head widths bodies text rest deltas many some spelled is are reads = absurd (omega (arith, some))
block_all_read values minis least (suc n) number head [] bodies text rest deltas many some spelled is are reads =
    let none : 0 ≡ minis = is in
    absurd (omega (arith, many, none))
block_all_read values minis least (suc n) number head (width ∷ widths) bodies text rest deltas many some spelled is are reads =
    same_read n (place values minis least [] (head ++ ((width ∷ widths) ++ (bodies_text bodies ++ (text ++ rest)))))
    (place values minis (zigzag_bits number) (width ∷ widths) (bodies_text bodies ++ (text ++ rest))) (Some rest)
    (bodies_deltas values (zigzag_bits number) (width ∷ widths) bodies ++ deltas)
    (enter values minis least number width head widths (bodies_text bodies ++ (text ++ rest)) spelled is) refl
    (bodies_read values minis (zigzag_bits number) (suc n) (width ∷ widths) bodies (text ++ rest) (Some rest) deltas are
    (subst (λ k. Reads (suc n - k) (place values minis (zigzag_bits number) [] (text ++ rest)) (Some rest) deltas) (sym is) reads))

blocks_read : (values minis least n : ℕ) (blocks : List Block) (rest : List ℕ) → 0 < minis → AreBlocks values minis n blocks
    → Reads n (place values minis least [] (blocks_text blocks ++ rest)) (Some rest) (blocks_deltas values blocks)
blocks_read values minis least n [] rest many are =
    subst (λ k. Reads k (place values minis least [] rest) (Some rest) []) (sym are) (none_read (place values minis least [] rest))
blocks_read values minis least n (b ∷ blocks) rest many are =
    let others = blocks_read values minis (zigzag_bits b.number) (n - minis) blocks rest many are.4 in
    let one = block_all_read values minis least n b.number b.head b.widths b.bodies (blocks_text blocks) rest (blocks_deltas values blocks) many are.0 are.1
    are.2 are.3 others in
    let text : (b.head ++ (b.widths ++ (bodies_text b.bodies ++ blocks_text blocks))) ++ rest
    ≡ b.head ++ (b.widths ++ (bodies_text b.bodies ++ (blocks_text blocks ++ rest))) =
    append_assoc b.head (b.widths ++ (bodies_text b.bodies ++ blocks_text blocks)) rest
    ∙ ap (λ l. b.head ++ l) (append_assoc b.widths (bodies_text b.bodies ++ blocks_text blocks) rest
    ∙ ap (λ l. b.widths ++ l) (append_assoc (bodies_text b.bodies) (blocks_text blocks) rest)) in
    subst (λ l. Reads n (place values minis least [] l) (Some rest) (blocks_deltas values (b ∷ blocks))) (sym text) one

-- the head of a list
head_read : (count size minis first : ℕ) (size_text minis_text count_text first_text rest : List ℕ) → SpellsNumber size size_text
    → SpellsNumber minis minis_text → SpellsNumber count count_text → SpellsNumber first first_text → is_shape size minis ≡ true
    → head_at count (size_text ++ (minis_text ++ (count_text ++ (first_text ++ rest))))
    ≡ Some (record { first = zigzag_bits first; place = place (size / minis) minis 0 [] rest })
unfolding head_at
head_read count size minis first size_text minis_text count_text first_text rest spelled_size spelled_minis spelled_count spelled_first shape =
    ap (option_and_then (λ a. option_and_then (λ b. option_and_then (λ c. option_and_then (λ d. answer a b c d) (number_at c.1)) (number_at b.1)) (number_at a.1)))
    (number_read size size_text (minis_text ++ (count_text ++ (first_text ++ rest))) spelled_size)
    ∙ ap (option_and_then (λ b. option_and_then (λ c. option_and_then (λ d. answer (size, []) b c d) (number_at c.1)) (number_at b.1)))
    (number_read minis minis_text (count_text ++ (first_text ++ rest)) spelled_minis)
    ∙ ap (option_and_then (λ c. option_and_then (λ d. answer (size, []) (minis, []) c d) (number_at c.1)))
    (number_read count count_text (first_text ++ rest) spelled_count)
    ∙ ap (option_and_then (λ d. answer (size, []) (minis, []) (count, []) d)) (number_read first first_text rest spelled_first)
    ∙ ap (λ t. if t && (count == count) then found else None) shape ∙ ap (λ t. if t then found else None) (same_count count)
  where
    answer : ℕ × List ℕ → ℕ × List ℕ → ℕ × List ℕ → ℕ × List ℕ → Option Start
    answer a b c d =
        if is_shape a.0 b.0 && (c.0 == count)
        then Some (record { first = zigzag_bits d.0; place = place (a.0 / b.0) b.0 0 [] d.1 })
        else None

    found : Option Start
    found = Some (record { first = zigzag_bits first; place = place (size / minis) minis 0 [] rest })

    same_count : (n : ℕ) → (n == n) ≡ true
    same_count n = eq-eqb n n refl

fourth : (a b c d e f : Bool) → (a && b && c && d && e && f) ≡ true → d ≡ true
fourth true true true true e f is = refl
fourth true true true false e f is = cc
fourth true true false d e f is = cc
fourth true false c d e f is = cc
fourth false b c d e f is = cc

pub some_minis : (size minis : ℕ) → is_shape size minis ≡ true → 0 < minis
unfolding is_shape
some_minis size minis shape =
    ltb-true 0 minis
    (fourth (nat_lt 0 size) (nat_lt size (2 ^ 31)) (size % 128 == 0) (nat_lt 0 minis) (size % minis == 0) (size / minis % 32 == 0) shape)

behind_read : (word : Word) (count : ℕ) (start : Start) (rest deltas : List ℕ)
    → Reads (div_ceil (count - 1) start.place.values) start.place (Some rest) deltas
    → list_behind word count start ≡ Some (values_from word count start.first deltas, rest)
behind_read word count start rest deltas reads =
    ap (option_and_then (λ r. Some (values_from word count start.first (deltas_of (div_ceil (count - 1) start.place.values) start.place), r))) reads.end_is
    ∙ ap (λ l. Some (values_from word count start.first l, rest)) reads.deltas_are

some_read : (word : Word) (values : List ℤ) (text rest : List ℕ) (s : SpellsSome word values text) → 0 < s.count
    → list_at word s.count (text ++ rest) ≡ Some (values, rest)
unfolding list_at
some_read word values text rest s some =
    let blocks = blocks_text s.blocks in
    let tail = s.first_text ++ blocks in
    let parts : (s.size_text ++ (s.minis_text ++ (s.count_text ++ tail))) ++ rest
    ≡ s.size_text ++ (s.minis_text ++ (s.count_text ++ (s.first_text ++ (blocks ++ rest)))) =
    append_assoc s.size_text (s.minis_text ++ (s.count_text ++ tail)) rest
    ∙ ap (λ l. s.size_text ++ l) (append_assoc s.minis_text (s.count_text ++ tail) rest
    ∙ ap (λ l. s.minis_text ++ l) (append_assoc s.count_text tail rest ∙ ap (λ l. s.count_text ++ l) (append_assoc s.first_text blocks rest))) in
    let start : Start = record {
      first = zigzag_bits s.first;
      place = place (s.size / s.minis) s.minis 0 [] (blocks ++ rest);
    } in
    let head : head_at s.count (text ++ rest) ≡ Some start =
    ap (head_at s.count) (ap (λ l. l ++ rest) s.text_is ∙ parts)
    ∙ head_read s.count s.size s.minis s.first s.size_text s.minis_text s.count_text s.first_text (blocks ++ rest) s.size_spelled s.minis_spelled
    s.count_spelled s.first_spelled s.shape in
    let reads = blocks_read (s.size / s.minis) s.minis 0 (div_ceil (s.count - 1) (s.size / s.minis)) s.blocks rest (some_minis s.size s.minis s.shape)
    s.are_blocks in
    let not_zero : (s.count == 0) ≡ false = ne_eqb s.count 0 (λ zero_is. absurd (omega (arith, some, zero_is))) in
    ap (λ t. if t then Some ([], text ++ rest) else option_and_then (list_behind word s.count) (head_at s.count (text ++ rest))) not_zero
    ∙ ap (option_and_then (list_behind word s.count)) head
    ∙ behind_read word s.count start rest (blocks_deltas (s.size / s.minis) s.blocks) reads ∙ ap (λ v. Some (v, rest)) (sym s.values_are)

-- what is spelled at the front is read, and what stands behind it is left
pub list_read : (word : Word) (values : List ℤ) (text rest : List ℕ) → Spells word values text → list_at word (length values) (text ++ rest) ≡ Some (values, rest)
unfolding list_at
list_read word [] text rest spelled = ap (λ l. Some ([], l ++ rest)) spelled
list_read word (v ∷ values) text rest s =
    let some : 0 < s.count = rw s.count_is (omega arith) in
    subst (λ n. list_at word n (text ++ rest) ≡ Some (v ∷ values, rest)) s.count_is (some_read word (v ∷ values) text rest s some)

-- where nothing is read, nothing is spelled
pub not_spelled : (word : Word) (count : ℕ) (bytes : List ℕ) → list_at word count bytes ≡ None
    → (values : List ℤ) (text rest : List ℕ) → length values ≡ count → bytes ≡ text ++ rest → Spells word values text → ⊥
not_spelled word count bytes none values text rest many joined spelled =
    let found : list_at word count bytes ≡ Some (values, rest) =
    ap (list_at word count) joined ∙ ap (λ n. list_at word n (text ++ rest)) (sym many) ∙ list_read word values text rest spelled in
    none-some (values, rest) (sym none ∙ found)
