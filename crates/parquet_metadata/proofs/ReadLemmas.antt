-- Lemmas on reads that fill a buffer.
use Rattle.std.proofs.Common.{◌≡◌, ◌≤◌, ◌<◌, ◌+◌, ◌-◌, ℕ, true, false, nat_lt, List, ◌++◌, length, take, drop, Result, Ok, Err, IfOk, IfErr, refl, ap, sym, ◌∙◌, subst, arith}
use Rattle.std.proofs.lemmas.Bool.{le-ltb, lt-ltb}
use Rattle.select_ports.specs.Stored.{Opened, IsOpen}
use Rattle.parquet_metadata.specs.declared.faults.FooterError.{FooterError}
use Rattle.parquet_metadata.specs.declared.faults.FooterError.TheVariants.{Failed, OutOfMemory, NotParquet, FooterTooLarge, BadFooter, BadSchema, BadPlaces, GroupsOutOfOrder}
use Rattle.parquet_metadata.specs.Layout.{told_length, ends_in, Tells, TellsLength, located, Locates, IsWant, length_of, footer_length}
use Rattle.std.proofs.Math.Seq.{take-add}
use Rattle.std.proofs.lemmas.List.{drop-drop, length-take, length-drop}

-- a longer front of the buffer is the object's
pub front_grows : (buffer before object : List ℕ) (at done n : ℕ) → take done buffer ≡ take done before → take done before ≡ take done (drop at object) → take n (drop done buffer) ≡ take n (drop (at + done) object) → take (done + n) buffer ≡ take (done + n) (drop at object)
front_grows buffer before object at done n kept front more =
    take-add done n buffer
    ∙ ap (λ z. z ++ take n (drop done buffer)) (kept ∙ front)
    ∙ ap (λ z. take done (drop at object) ++ z) (more ∙ ap (take n) (sym (drop-drop done at object)))
    ∙ sym (take-add done n (drop at object))

-- the length that a file tells, by its first and last bytes
pub told_by : (object first last : List ℕ) (size : ℕ) → length object ≡ size → 12 ≤ size → first ≡ take 4 object → last ≡ take 8 (drop (size - 8) object) → told_length object ≡ ends_in first last
unfolding told_length
told_by object first last size len enough first_is last_is =
    let long : nat_lt (length object) 12 ≡ false = le-ltb _ _ (omega arith) in
    rw (long, len, ← first_is, ← last_is) refl

pub size_of : (opened : Opened) (object : List ℕ) (size : ℕ) → IsOpen opened size → Tells opened object → length object ≡ size
size_of opened object size is tells =
    let P : Opened → Type 0 = λ o. IsOpen o size in
    (subst P tells is).0

pub short_told : (object : List ℕ) (size : ℕ) → length object ≡ size → size < 12 → told_length object ≡ Err NotParquet
unfolding told_length
short_told object size len few =
    let short : nat_lt (length object) 12 ≡ true = lt-ltb _ _ (omega arith) in
    rw short refl

pub tells_by : (object : List ℕ) (r : Result ℕ FooterError) → told_length object ≡ r → TellsLength object r
tells_by object (Ok len) e = e
tells_by object (Err Failed) e = tt
tells_by object (Err _) e = e

pub located_fault : (object : List ℕ) (e : FooterError) → TellsLength object (Err e) → Locates object (Err e)
unfolding located
located_fault object Failed t = tt
located_fault object OutOfMemory t = tt
located_fault object NotParquet t = rw t refl
located_fault object FooterTooLarge t = rw t refl
located_fault object (BadFooter at) t = rw t refl
located_fault object BadSchema t = rw t refl
located_fault object BadPlaces t = rw t refl
located_fault object GroupsOutOfOrder t = rw t refl

pub located_large : (object : List ℕ) (len : ℕ) → told_length object ≡ Ok len → 16777216 < len → located object ≡ Err FooterTooLarge
unfolding located
located_large object len t large =
    let over : nat_lt 16777216 len ≡ true = lt-ltb _ _ large in
    rw (t, over) refl

pub located_long : (object : List ℕ) (len size : ℕ) → told_length object ≡ Ok len → length object ≡ size → len ≤ 16777216 → size - 12 < len → located object ≡ Err (BadFooter (size - 8))
unfolding located
located_long object len size t size_is small long =
    let under : nat_lt 16777216 len ≡ false = le-ltb _ _ small in
    let past : nat_lt (length object - 12) len ≡ true = lt-ltb _ _ (omega (arith, size_is)) in
    rw (t, under, past, size_is) refl

pub located_here : (object bytes : List ℕ) (len size : ℕ) → told_length object ≡ Ok len → length object ≡ size → len ≤ 16777216 → len ≤ size - 12 → bytes ≡ take len (drop (size - 8 - len) object) → located object ≡ Ok bytes
unfolding located
located_here object bytes len size t size_is small room bytes_are =
    let under : nat_lt 16777216 len ≡ false = le-ltb _ _ small in
    let within : nat_lt (length object - 12) len ≡ false = le-ltb _ _ (omega (arith, size_is)) in
    rw (t, under, within, size_is, ← bytes_are) refl

pub located_by : (object : List ℕ) (r : Result (List ℕ) FooterError) (len size : ℕ) → told_length object ≡ Ok len → length object ≡ size → len ≤ 16777216 → len ≤ size - 12 → IfOk r (λ items. items ≡ take len (drop (size - 8 - len) object)) → IfErr r IsWant → Locates object r
located_by object (Ok bytes) len size t size_is small room bytes_are only = located_here object bytes len size t size_is small room bytes_are
located_by object (Err Failed) len size t size_is small room bytes_are only = tt
located_by object (Err OutOfMemory) len size t size_is small room bytes_are only = tt
located_by object (Err _) len size t size_is small room bytes_are only = absurd only

-- the footer is as long as the file tells
pub long_as_told : (object : List ℕ) (len size : ℕ) → told_length object ≡ Ok len → length object ≡ size → 12 ≤ size → len ≤ 16777216 → len ≤ size - 12 → footer_length object ≡ len
long_as_told object len size t size_is enough small room =
    let bytes : List ℕ = take len (drop (size - 8 - len) object) in
    ap length_of (located_here object bytes len size t size_is small room refl)
    ∙ omega (arith, length-take len (drop (size - 8 - len) object), length-drop (size - 8 - len) object, size_is)
