-- What passing over a value answers is what the bytes spell, both ways, and there is one answer.
use Rattle.std.proofs.Common.{◌≡◌, ℕ, zero, suc, ◌+◌, ◌-◌, ◌<◌, ◌≤◌, ℤ, pos, Bool, true, false, cond, nat_eq, nat_le, List, [], ◌∷◌, ◌++◌, length, drop, take, Option, Some, None, Result, Ok, Err, refl, ap, sym, ◌∙◌, subst, arith, append_assoc, append-nil}
use Rattle.std.proofs.lemmas.Bool.{leb-true, leb-false}
use Rattle.std.proofs.lemmas.Bool.Decides.{nat_tests}
use Rattle.std.proofs.lemmas.List.{length-append, take-append-drop, drop-drop, drop_at}
use Rattle.std.proofs.Math.Seq.{take-add}
use Rattle.thrift_compact.specs.declared.faults.ThriftFault.{ThriftFault}
use Rattle.thrift_compact.specs.declared.kinds.Kind.{Kind}
use Rattle.thrift_compact.specs.declared.stack.Open.{Open}
use Rattle.thrift_compact.specs.declared.stack.Open.TheVariants.{Fields, Members}
use Rattle.thrift_compact.specs.Opens.{ended, with_opened}
use Rattle.thrift_compact.specs.Items.{Item, header_at, value_at, members}
use Rattle.thrift_compact.specs.Runs.{behind, value_step, field_step, step, Runs, nothing_open, faulty, goes_on, Passes, PassesFrom}
use Rattle.thrift_compact.specs.Grammar.{SpellsHeader, Value, Values, FieldList, simple, sequence, structure, no_values, value, stop, field, print_value, print_values, print_fields, IsValue, AreValues, AreFields}
use Rattle.thrift_compact.specs.Varints.{IsBytes}
use Rattle.thrift_compact.proofs.VarintLaws.{ok_same}
use Rattle.thrift_compact.proofs.ItemLaws.{then_ok, header_found, header_only}
use Rattle.thrift_compact.proofs.ValueLaws.{Opened, value_found, simple_only, header_opens, struct_opens}

-- there is one answer
pub one_answer : {already : ℕ} {bytes : List ℕ} {a b : Result ℕ ThriftFault} {nest : List Open} {at : ℕ} → Runs already bytes a nest at → Runs already bytes b nest at → a ≡ b
one_answer (nothing_open at e) (nothing_open _ d) = e ∙ sym d
one_answer (faulty o nest at f s e) (faulty _ _ _ g t d) = cc
one_answer (faulty o nest at f s e) (goes_on _ _ _ next taken t r) = absurd cc
one_answer (goes_on o nest at next taken s r) (faulty _ _ _ g t d) = absurd cc
one_answer {already = already} {bytes = bytes} {b = b} (goes_on o nest at next taken s r) (goes_on _ _ _ next' taken' t q) =
    let same = ok_same (next', taken') (next, taken) t s in
    let P : List Open × ℕ → Type 0 = λ p. Runs already bytes b p.0 (at + p.1) in
    one_answer r (subst P same q)

-- a value has just ended inside what is open: what must follow
abbrev pub AfterEnd : ℕ → List Open → List ℕ → Type 0
AfterEnd already [] text = text ≡ []
AfterEnd already (Fields last ∷ nest) text =
    (fields : FieldList) × (rest : List ℕ) × AreFields (already + length nest + 1) last fields
    × AfterEnd already nest rest × (text ≡ print_fields fields ++ rest)
AfterEnd already (Members first next n ∷ nest) text =
    (values : Values) × (rest : List ℕ) × AreValues (already + length nest + 1) next first (n - 1) values
    × AfterEnd already nest rest × (text ≡ print_values values ++ rest)

-- what must follow where no value has begun
abbrev pub Due : ℕ → List Open → List ℕ → Type 0
Due already [] text = text ≡ []
Due already (Fields last ∷ nest) text = AfterEnd already (Fields last ∷ nest) text
Due already (Members first next n ∷ nest) text =
    (v : Value) × (rest : List ℕ) × IsValue (already + length nest + 1) true first v
    × AfterEnd already (Members first next n ∷ nest) rest × (text ≡ print_value v ++ rest)

due_ended : (already : ℕ) (nest : List Open) (text : List ℕ) → Due already (ended nest) text → AfterEnd already nest text
due_ended already [] text h = h
due_ended already (Fields last ∷ nest) text h = h
due_ended already (Members first next n ∷ nest) text h = go (nat_le n 1) refl h (due_ended already nest text)
  where
    go : (t : Bool) → nat_le n 1 ≡ t → Due already (cond t (ended nest) (Members next first (n - 1) ∷ nest)) text → (Due already (ended nest) text → AfterEnd already nest text) → AfterEnd already (Members first next n ∷ nest) text
    go true t h ih =
        let none : n - 1 ≡ 0 = let few : n ≤ 1 = leb-true _ _ t in omega arith in
        (no_values, text, none, ih h, refl)
    go false t h ih =
        let some : 0 < n - 1 = let many : 1 < n = leb-false _ _ t in omega arith in
        let after = h.3 in
        (value h.0 after.0, after.1, (some, h.2, after.2), after.3, h.4 ∙ ap (λ z. print_value h.0 ++ z) after.4 ∙ sym (append_assoc (print_value h.0) (print_values after.0) after.1))

-- a value that is opened or ended, and then what must follow
value_due : (already depth : ℕ) (member : Bool) (k : Kind) (nest : List Open) (o : Option Open) (text rest : List ℕ) → depth ≡ already + length nest → Opened depth member k o text → Due already (with_opened o nest) rest → (v : Value) × (after : List ℕ) × IsValue depth member k v × AfterEnd already nest after × (text ++ rest ≡ print_value v ++ after)
value_due already depth member k nest None text rest at h due =
    (h.0, rest, h.1, due_ended already nest rest due, ap (λ z. z ++ rest) h.2)
value_due already depth member k nest (Some (Fields last)) text rest at h due =
    let e : already + length nest + 1 ≡ depth + 1 = omega (arith, at) in
    let fields : AreFields (depth + 1) (pos 0) due.0 = rw (← h.2) (rw e at due.2) in
    (structure due.0, due.1, (h.0, h.1, fields), due.3, ap (λ z. z ++ rest) h.3 ∙ due.4)
value_due already depth member k nest (Some (Members first next n)) text rest at h due =
    let e : already + length nest + 1 ≡ depth + 1 = omega (arith, at) in
    let one : IsValue (depth + 1) true first due.0 = rw e at due.2 in
    let after = due.3 in
    let more : AreValues (depth + 1) next first (n - 1) after.0 = rw e at after.2 in (
      sequence text (value due.0 after.0),
      after.1,
      (h.0, first, next, n, h.2, (h.1, one, more)),
      after.3,
      ap (λ z. text ++ z) (due.4 ∙ ap (λ z. print_value due.0 ++ z) after.4 ∙ sym (append_assoc (print_value due.0) (print_values after.0) after.1))
          ∙ sym (append_assoc text (print_value due.0 ++ print_values after.0) after.1),
    )

-- the same, behind a value's step
value_step_due : (already : ℕ) (member : Bool) (k : Kind) (nest : List Open) (bytes : List ℕ) (next : List Open) (taken : ℕ) (rest : List ℕ) → IsBytes bytes → value_step already member k nest bytes ≡ Ok (next, taken) → Due already next rest → (v : Value) × (after : List ℕ) × IsValue (already + length nest) member k v × AfterEnd already nest after × (take taken bytes ++ rest ≡ print_value v ++ after)
unfolding value_step
value_step_due already member k nest bytes next taken rest fits e due =
    let r = then_ok (value_at (already + length nest) member k bytes) _ _ e in
    let same = ok_same _ _ refl r.2 in
    let nest_is : with_opened r.0.0 nest ≡ next = ap (λ p. p.0) same in
    let len : r.0.1 ≡ taken = ap (λ p. p.1) same in
    built r.0.0 r.0.1 (value_found (already + length nest) member k bytes r.0.0 r.0.1 fits r.1) nest_is len
  where
    built : (o : Option Open) (n : ℕ) → Opened (already + length nest) member k o (take n bytes) → with_opened o nest ≡ next → n ≡ taken → (v : Value) × (after : List ℕ) × IsValue (already + length nest) member k v × AfterEnd already nest after × (take taken bytes ++ rest ≡ print_value v ++ after)
    built o n opened nest_is len =
        let P : List Open → Type 0 = λ y. Due already y rest in
        rw (← len) (value_due already (already + length nest) member k nest o (take n bytes) rest refl opened (subst P (sym nest_is) due))

pub bytes_behind : (bytes : List ℕ) (n : ℕ) → IsBytes bytes → IsBytes (drop n bytes)
bytes_behind bytes zero fits = fits
bytes_behind [] (suc n) fits = fits
bytes_behind (b ∷ bytes) (suc n) fits = bytes_behind bytes n (λ i. fits (suc i))

pub behind_ok : {X : Type 0} (k : ℕ) (item : Item X) (x : X) (n : ℕ) → behind k item ≡ Ok (x, n) → (m : ℕ) × (item ≡ Ok (x, m)) × (k + m ≡ n)
behind_ok k (Ok y) x n e =
    let same = ok_same _ _ refl e in
    let value_is : y.0 ≡ x = ap (λ p. p.0) same in
    (y.1, ap (λ z. Ok (z, y.1)) value_is, ap (λ p. p.1) same)
behind_ok k (Err f) x n e = absurd cc

-- the end of a struct, and then what must follow
stop_due : (already : ℕ) (last : ℤ) (nest : List Open) (text rest : List ℕ) → SpellsHeader last None text → Due already (ended nest) rest → AfterEnd already (Fields last ∷ nest) (text ++ rest)
stop_due already last nest text rest s due =
    (stop, rest, tt, due_ended already nest rest due, ap (λ z. z ++ rest) s)

-- a field, and then what must follow
field_due : (already : ℕ) (last number : ℤ) (k : Kind) (nest : List Open) (header text : List ℕ) (v : Value) (after : List ℕ) → SpellsHeader last (Some (number, k)) header → IsValue (already + suc (length nest)) false k v → AfterEnd already (Fields number ∷ nest) after → text ≡ header ++ (print_value v ++ after) → AfterEnd already (Fields last ∷ nest) text
field_due already last number k nest header text v after s valid more e =
    let deep : already + suc (length nest) ≡ already + length nest + 1 = omega arith in
    let inner : IsValue (already + length nest + 1) false k v = rw deep at valid in (
      field header number k v more.0,
      more.1,
      (s, inner, more.2),
      more.3,
      e ∙ ap (λ z. header ++ (print_value v ++ z)) more.4
          ∙ ap (λ z. header ++ z) (sym (append_assoc (print_value v) (print_fields more.0) more.1))
          ∙ sym (append_assoc header (print_value v ++ print_fields more.0) more.1),
    )

-- a step, and then what must follow
step_due : (already : ℕ) (o : Open) (nest : List Open) (bytes : List ℕ) (next : List Open) (taken : ℕ) (rest : List ℕ) → IsBytes bytes → step already (o ∷ nest) bytes ≡ Ok (next, taken) → Due already next rest → Due already (o ∷ nest) (take taken bytes ++ rest)
unfolding step
step_due already (Members first then n) nest bytes next taken rest fits e due =
    let d = value_step_due already true first (Members first then n ∷ nest) bytes next taken rest fits e due in
    let deep : already + suc (length nest) ≡ already + length nest + 1 = omega arith in
    (d.0, d.1, rw deep at d.2, d.3, d.4)
step_due already (Fields last) nest bytes next taken rest fits e due =
    let r = then_ok (header_at last bytes) _ _ e in
    go r.0.0 r.0.1 (header_found last bytes r.0.0 r.0.1 fits r.1) r.2
  where
    go : (h : Option (ℤ × Kind)) (k : ℕ) → SpellsHeader last h (take k bytes) → field_step already nest bytes (h, k) ≡ Ok (next, taken) → AfterEnd already (Fields last ∷ nest) (take taken bytes ++ rest)
    go None k s f =
        let same = ok_same _ _ refl f in
        let nest_is : ended nest ≡ next = ap (λ p. p.0) same in
        let len : k ≡ taken = ap (λ p. p.1) same in
        let P : List Open → Type 0 = λ y. Due already y rest in
        rw (← len) (stop_due already last nest (take k bytes) rest s (subst P (sym nest_is) due))
    go (Some f) k s g =
        let b = behind_ok k (value_step already false f.1 (Fields f.0 ∷ nest) (drop k bytes)) next taken g in
        let d = value_step_due already false f.1 (Fields f.0 ∷ nest) (drop k bytes) next b.0 rest (bytes_behind bytes k fits) b.1 due in
        let text : take taken bytes ++ rest ≡ take k bytes ++ (print_value d.0 ++ d.1) =
        ap (λ z. take z bytes ++ rest) (sym b.2) ∙ ap (λ z. z ++ rest) (take-add k b.0 bytes) ∙ append_assoc (take k bytes) (take b.0 (drop k bytes)) rest ∙ ap (λ z. take k bytes ++ z) d.4 in
        field_due already last f.0 f.1 nest (take k bytes) (take taken bytes ++ rest) d.0 d.1 s d.2 d.3 text

-- an Ok is spelled
runs_found : {already : ℕ} {bytes : List ℕ} {answer : Result ℕ ThriftFault} {nest : List Open} {at : ℕ} → Runs already bytes answer nest at → (end : ℕ) → answer ≡ Ok end → IsBytes bytes → (text : List ℕ) × Due already nest text × (drop at bytes ≡ text ++ drop end bytes)
runs_found {bytes = bytes} (nothing_open at e) end d fits =
    let same : at ≡ end = ok_same at end e d in
    ([], refl, ap (λ z. drop z bytes) same)
runs_found (faulty o nest at f s e) end d fits = absurd cc
runs_found {already = already} {bytes = bytes} (goes_on o nest at next taken s r) end d fits =
    let ih = runs_found r end d fits in (
      take taken (drop at bytes) ++ ih.0,
      step_due already o nest (drop at bytes) next taken ih.0 (bytes_behind bytes at fits) s ih.1,
      sym (take-append-drop taken (drop at bytes))
          ∙ ap (λ z. take taken (drop at bytes) ++ z) (drop-drop taken at bytes ∙ ih.2)
          ∙ sym (append_assoc (take taken (drop at bytes)) ih.0 (drop end bytes)),
    )

-- a whole value is spelled, and what follows it is what is left
pub passes_found : (already : ℕ) (member : Bool) (k : Kind) (bytes : List ℕ) (at end : ℕ) → IsBytes bytes → Passes already member k bytes at (Ok end) → (v : Value) × IsValue already member k v × (drop at bytes ≡ print_value v ++ drop end bytes)
passes_found already member k bytes at end fits p = go (value_at already member k (drop at bytes)) refl p
  where
    depth : already ≡ already + length {A = Open} []
    depth = omega arith

    built : (o : Option Open) (taken : ℕ) → Opened already member k o (take taken (drop at bytes)) → (text : List ℕ) → Due already (with_opened o []) text → drop (at + taken) bytes ≡ text ++ drop end bytes → (v : Value) × IsValue already member k v × (drop at bytes ≡ print_value v ++ drop end bytes)
    built o taken opened text due e =
        let d = value_due already already member k [] o (take taken (drop at bytes)) text depth opened due in
        let none : d.1 ≡ [] = d.3 in (
          d.0,
          d.2,
          sym (take-append-drop taken (drop at bytes))
              ∙ ap (λ z. take taken (drop at bytes) ++ z) (drop-drop taken at bytes ∙ e)
              ∙ sym (append_assoc (take taken (drop at bytes)) text (drop end bytes))
              ∙ ap (λ z. z ++ drop end bytes) (d.4 ∙ ap (λ z. print_value d.0 ++ z) none ∙ append-nil (print_value d.0)),
        )

    go : (r : Item (Option Open)) → value_at already member k (drop at bytes) ≡ r → PassesFrom already bytes at (Ok end) r → (v : Value) × IsValue already member k v × (drop at bytes ≡ print_value v ++ drop end bytes)
    go (Err f) e p = absurd cc
    go (Ok (None, taken)) e p =
        let place : end ≡ at + taken = ok_same end (at + taken) refl p in
        built None taken (value_found already member k (drop at bytes) None taken (bytes_behind bytes at fits) e) [] refl (ap (λ z. drop z bytes) (sym place))
    go (Ok (Some o, taken)) e p =
        let r = runs_found p end refl fits in
        built (Some o) taken (value_found already member k (drop at bytes) (Some o) taken (bytes_behind bytes at fits) e) r.0 r.1 r.2

-- there is one answer
pub passes_one : (already : ℕ) (member : Bool) (k : Kind) (bytes : List ℕ) (at : ℕ) (a b : Result ℕ ThriftFault) → Passes already member k bytes at a → Passes already member k bytes at b → a ≡ b
passes_one already member k bytes at a b p q = go (value_at already member k (drop at bytes)) p q
  where
    go : (r : Item (Option Open)) → PassesFrom already bytes at a r → PassesFrom already bytes at b r → a ≡ b
    go (Err f) p q = p ∙ sym q
    go (Ok (None, taken)) p q = p ∙ sym q
    go (Ok (Some o, taken)) p q = one_answer p q

-- behind the first of the members that a header opens
pub ended_members : (first next : Kind) (n : ℕ) (nest : List Open) → 0 < n → ended (Members first next n ∷ nest) ≡ with_opened (members next first (n - 1)) nest
ended_members first next n nest some = go (nat_le n 1) refl
  where
    go : (t : Bool) → nat_le n 1 ≡ t → cond t (ended nest) (Members next first (n - 1) ∷ nest) ≡ with_opened (members next first (n - 1)) nest
    go true h = let none : nat_eq (n - 1) 0 ≡ true = let few = leb-true _ _ h in grind (arith, nat_tests) in rw none refl
    go false h = let more : nat_eq (n - 1) 0 ≡ false = let many = leb-false _ _ h in grind (arith, nat_tests) in rw more refl

pub opens_some : (first next : Kind) (n : ℕ) → 0 < n → members first next n ≡ Some (Members first next n)
opens_some first next n some = let more : nat_eq n 0 ≡ false = grind (arith, nat_tests) in rw more refl

-- a value's step, behind which the answer comes
record Stepped (already : ℕ) (bytes : List ℕ) (answer : Result ℕ ThriftFault) (member : Bool) (k : Kind) (nest : List Open) (at : ℕ) : Type 0 where
  next : List Open
  taken : ℕ
  step_is : value_step already member k nest (drop at bytes) ≡ Ok (next, taken)
  runs : Runs already bytes answer next (at + taken)

value_stepped : (already depth : ℕ) (bytes : List ℕ) (answer : Result ℕ ThriftFault) (member : Bool) (k : Kind) (nest : List Open) (at : ℕ) (o : Option Open) (taken : ℕ) → depth ≡ already + length nest → value_at depth member k (drop at bytes) ≡ Ok (o, taken) → Runs already bytes answer (with_opened o nest) (at + taken) → Stepped already bytes answer member k nest at
unfolding value_step
value_stepped already depth bytes answer member k nest at o taken deep e r =
    record { next = with_opened o nest; taken = taken; step_is = rw (← deep, e) refl; runs = r }

moved_on : (bytes front rest : List ℕ) (at : ℕ) → drop at bytes ≡ front ++ rest → drop (at + length front) bytes ≡ rest
moved_on bytes front rest at e = sym (drop-drop (length front) at bytes) ∙ ap (λ z. drop (length front) z) e ∙ drop_at front rest (length front) refl

member_goes : (already : ℕ) (bytes : List ℕ) (answer : Result ℕ ThriftFault) (first then : Kind) (n : ℕ) (nest : List Open) (at : ℕ) → Stepped already bytes answer true first (Members first then n ∷ nest) at → Runs already bytes answer (Members first then n ∷ nest) at
unfolding step
member_goes already bytes answer first then n nest at s =
    goes_on (Members first then n) nest at s.next s.taken s.step_is s.runs

field_goes : (already : ℕ) (bytes : List ℕ) (answer : Result ℕ ThriftFault) (last number : ℤ) (k : Kind) (nest : List Open) (at len : ℕ) → header_at last (drop at bytes) ≡ Ok (Some (number, k), len) → Stepped already bytes answer false k (Fields number ∷ nest) (at + len) → Runs already bytes answer (Fields last ∷ nest) at
unfolding step
field_goes already bytes answer last number k nest at len e s =
    let place : at + len + s.taken ≡ at + (len + s.taken) = omega arith in
    let P : ℕ → Type 0 = λ z. Runs already bytes answer s.next z in
    goes_on (Fields last) nest at s.next (len + s.taken) (rw (e, drop-drop len at bytes, s.step_is) refl) (subst P place s.runs)

stop_goes : (already : ℕ) (bytes : List ℕ) (answer : Result ℕ ThriftFault) (last : ℤ) (nest : List Open) (at : ℕ) → header_at last (drop at bytes) ≡ Ok (None, 1) → Runs already bytes answer (ended nest) (at + 1) → Runs already bytes answer (Fields last ∷ nest) at
unfolding step
stop_goes already bytes answer last nest at e r = goes_on (Fields last) nest at (ended nest) 1 (rw e refl) r

mutual
  value_runs : (v : Value) (already depth : ℕ) (bytes : List ℕ) (answer : Result ℕ ThriftFault) (member : Bool) (k : Kind) (nest : List Open) (at : ℕ) (rest : List ℕ) → depth ≡ already + length nest → IsValue depth member k v → drop at bytes ≡ print_value v ++ rest → Runs already bytes answer (ended nest) (at + length (print_value v)) → Stepped already bytes answer member k nest at
  value_runs (simple text) already depth bytes answer member k nest at rest deep valid e r =
      value_stepped already depth bytes answer member k nest at None (length text) deep (ap (λ z. value_at depth member k z) e ∙ simple_only depth member k text rest valid) r
  value_runs (sequence header values) already depth bytes answer member k nest at rest deep valid e r =
      let e' : drop at bytes ≡ header ++ (print_values values ++ rest) = e ∙ append_assoc header (print_values values) rest in
      let deeper : depth + 1 ≡ already + length nest + 1 = omega arith in
      let place : at + length (header ++ print_values values) ≡ at + length header + length (print_values values) = omega (arith, length-append header (print_values values)) in
      value_stepped already depth bytes answer member k nest at (members valid.1 valid.2 valid.3) (length header) deep
      (ap (λ z. value_at depth member k z) e' ∙ header_opens depth member k valid.1 valid.2 valid.3 header (print_values values ++ rest) valid.0 valid.4)
      (values_run values already (depth + 1) bytes answer valid.1 valid.2 valid.3 nest (at + length header) rest deeper valid.5 (moved_on bytes header (print_values values ++ rest) at e') (let P : ℕ → Type 0 = λ z. Runs already bytes answer (ended nest) z in subst P place r))
  value_runs (structure fields) already depth bytes answer member k nest at rest deep valid e r =
      let deeper : depth + 1 ≡ already + length nest + 1 = omega arith in
      let here : at ≡ at + 0 = omega arith in
      let P : ℕ → Type 0 = λ z. Runs already bytes answer (Fields (pos 0) ∷ nest) z in
      value_stepped already depth bytes answer member k nest at (Some (Fields (pos 0))) 0 deep
      (ap (λ z. value_at depth member z (drop at bytes)) valid.1 ∙ struct_opens depth member (drop at bytes) valid.0)
      (subst P here (fields_run fields already (depth + 1) bytes answer (pos 0) nest at rest deeper valid.2 e r))

  values_run : (vs : Values) (already depth : ℕ) (bytes : List ℕ) (answer : Result ℕ ThriftFault) (first then : Kind) (n : ℕ) (nest : List Open) (at : ℕ) (rest : List ℕ) → depth ≡ already + length nest + 1 → AreValues depth first then n vs → drop at bytes ≡ print_values vs ++ rest → Runs already bytes answer (ended nest) (at + length (print_values vs)) → Runs already bytes answer (with_opened (members first then n) nest) at
  values_run no_values already depth bytes answer first then n nest at rest deep valid e r =
      let here : at + 0 ≡ at = omega arith in
      let P : ℕ → Type 0 = λ z. Runs already bytes answer (ended nest) z in
      let none : nat_eq n 0 ≡ true = grind (arith, nat_tests) in
      rw none (subst P here r)
  values_run (value v vs) already depth bytes answer first then n nest at rest deep valid e r =
      let e' : drop at bytes ≡ print_value v ++ (print_values vs ++ rest) = e ∙ append_assoc (print_value v) (print_values vs) rest in
      let deeper : depth ≡ already + suc (length nest) = omega arith in
      let place : at + length (print_value v ++ print_values vs) ≡ at + length (print_value v) + length (print_values vs) = omega (arith, length-append (print_value v) (print_values vs)) in
      let P : ℕ → Type 0 = λ z. Runs already bytes answer (ended nest) z in
      let Q : List Open → Type 0 = λ z. Runs already bytes answer z (at + length (print_value v)) in
      let more = values_run vs already depth bytes answer then first (n - 1) nest (at + length (print_value v)) rest deep valid.2 (moved_on bytes (print_value v) (print_values vs ++ rest) at e') (subst P place r) in
      rw (opens_some first then n valid.0)
      (member_goes already bytes answer first then n nest at
      (value_runs v already depth bytes answer true first (Members first then n ∷ nest) at (print_values vs ++ rest) deeper valid.1 e' (subst Q (sym (ended_members first then n nest valid.0)) more)))

  fields_run : (fs : FieldList) (already depth : ℕ) (bytes : List ℕ) (answer : Result ℕ ThriftFault) (last : ℤ) (nest : List Open) (at : ℕ) (rest : List ℕ) → depth ≡ already + length nest + 1 → AreFields depth last fs → drop at bytes ≡ print_fields fs ++ rest → Runs already bytes answer (ended nest) (at + length (print_fields fs)) → Runs already bytes answer (Fields last ∷ nest) at
  fields_run stop already depth bytes answer last nest at rest deep valid e r =
      stop_goes already bytes answer last nest at (ap (λ z. header_at last z) e ∙ header_only last None (0 ∷ []) rest refl) r
  fields_run (field header number k v fs) already depth bytes answer last nest at rest deep valid e r =
      let e' : drop at bytes ≡ header ++ (print_value v ++ (print_fields fs ++ rest)) =
      e ∙ append_assoc header (print_value v ++ print_fields fs) rest ∙ ap (λ z. header ++ z) (append_assoc (print_value v) (print_fields fs) rest) in
      let inner = moved_on bytes header (print_value v ++ (print_fields fs ++ rest)) at e' in
      let deeper : depth ≡ already + suc (length nest) = omega arith in
      let place : at + length (header ++ (print_value v ++ print_fields fs)) ≡ at + length header + length (print_value v) + length (print_fields fs) = omega (arith, length-append header (print_value v ++ print_fields fs), length-append (print_value v) (print_fields fs)) in
      let P : ℕ → Type 0 = λ z. Runs already bytes answer (ended nest) z in
      let more = fields_run fs already depth bytes answer number nest (at + length header + length (print_value v)) rest deep valid.2 (moved_on bytes (print_value v) (print_fields fs ++ rest) (at + length header) inner) (subst P place r) in
      field_goes already bytes answer last number k nest at (length header)
      (ap (λ z. header_at last z) e' ∙ header_only last (Some (number, k)) header (print_value v ++ (print_fields fs ++ rest)) valid.0)
      (value_runs v already depth bytes answer false k (Fields number ∷ nest) (at + length header) (print_fields fs ++ rest) deeper valid.1 inner more)

ended_answer : (already : ℕ) (bytes : List ℕ) (answer : Result ℕ ThriftFault) (at : ℕ) → Runs already bytes answer [] at → answer ≡ Ok at
ended_answer already bytes answer at (nothing_open _ e) = e

-- a value that is spelled is passed over
pub passes_only : (already : ℕ) (member : Bool) (k : Kind) (bytes : List ℕ) (at : ℕ) (v : Value) (rest : List ℕ) → IsValue already member k v → drop at bytes ≡ print_value v ++ rest → Passes already member k bytes at (Ok (at + length (print_value v)))
unfolding value_step
passes_only already member k bytes at v rest valid e =
    let depth : already ≡ already + length {A = Open} [] = omega arith in
    let s = value_runs v already already bytes (Ok (at + length (print_value v))) member k [] at rest depth valid e (nothing_open (at + length (print_value v)) refl) in
    let r = then_ok (value_at (already + length {A = Open} []) member k (drop at bytes)) _ _ s.step_is in
    let same = ok_same _ _ refl r.2 in
    let here : value_at already member k (drop at bytes) ≡ Ok (r.0.0, r.0.1) = ap (λ z. value_at z member k (drop at bytes)) depth ∙ r.1 in
    let P : List Open × ℕ → Type 0 = λ p. Runs already bytes (Ok (at + length (print_value v))) p.0 (at + p.1) in
    built r.0.0 r.0.1 here (subst P (sym same) s.runs)
  where
    built : (o : Option Open) (taken : ℕ) → value_at already member k (drop at bytes) ≡ Ok (o, taken) → Runs already bytes (Ok (at + length (print_value v))) (with_opened o []) (at + taken) → Passes already member k bytes at (Ok (at + length (print_value v)))
    built None taken e r = rw e (ended_answer already bytes (Ok (at + length (print_value v))) (at + taken) r)
    built (Some o) taken e r = rw e r
