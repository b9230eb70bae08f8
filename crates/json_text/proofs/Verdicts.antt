-- What the reader's verdict says of the bytes.
use Rattle.std.proofs.Common.{◌≡◌, ℕ, suc, ◌+◌, ◌<◌, ◌≤◌, ◌⊎◌, inl, inr, Bool, true, false, cond, nat_lt, lit≤, List, [], ◌∷◌, ◌++◌, take, length, refl, sym, ◌∙◌, ap, subst, arith}
use Rattle.std.proofs.lemmas.Bool.Decides.{nat_tests}
use Rattle.json_text.specs.Texts.{IsText, BeginsText, levels, IsParsingFault, IsTooDeep}
use Rattle.json_text.specs.Machine.{step, around_of, behind_close, may_end, Verdict, accepted, unfit, too_deep, opened, moved, verdict}
use Rattle.json_text.specs.declared.machine.Mode.{Mode}
use Rattle.json_text.specs.declared.machine.Mode.TheVariants.{ValueDue, ElementDue, FirstNameDue, Ended}
use Rattle.json_text.specs.declared.machine.Move.{Move}
use Rattle.json_text.specs.declared.machine.Move.TheVariants.{To, OpenArray, OpenObject, Close, Refuse}
use Rattle.json_text.proofs.Follows.{ValueNext, Follows, FollowsMove}
use Rattle.json_text.proofs.Steps.{step_forth, step_back}
use Rattle.json_text.proofs.Ends.{end_back, end_forth, Way, way}

clash : false ≡ true → ⊥
clash e = cc

lt_is : (a b : ℕ) → nat_lt a b ≡ true → a < b
lt_is a b h = grind (arith, nat_tests)

lt_of : (a b : ℕ) → a < b → nat_lt a b ≡ true
lt_of a b h = grind (arith, nat_tests)

not_lt : (a b : ℕ) → nat_lt a b ≡ false → b ≤ a
not_lt a b h = grind (arith, nat_tests)

-- ---- accepted

opened_accepted : (b : Bool) (v : Verdict) (at : ℕ) → opened b v at ≡ accepted → (b ≡ true) × (v ≡ accepted)
opened_accepted true v at h = (refl, h)
opened_accepted false v at h = absurd (cc)

accepted_move : (mv : Move) (nest : List Bool) (at : ℕ) (cs : List ℕ) (f : Mode → List Bool → Verdict)
    → ((m : Mode) (ns : List Bool) → f m ns ≡ accepted → Follows levels m ns cs) → moved mv nest at f ≡ accepted → FollowsMove levels nest cs mv
accepted_move (To m) nest at cs f ih h = ih m nest h
accepted_move OpenArray nest at cs f ih h = let x = opened_accepted _ _ at h in (lt_is _ _ x.0, ih ElementDue (true ∷ nest) x.1)
accepted_move OpenObject nest at cs f ih h = let x = opened_accepted _ _ at h in (lt_is _ _ x.0, ih FirstNameDue (false ∷ nest) x.1)
accepted_move Close nest at cs f ih h = ih Ended (behind_close nest) h
accepted_move Refuse nest at cs f ih h = absurd (cc)

end_accepted : (b : Bool) (at : ℕ) → cond b accepted (unfit at) ≡ accepted → b ≡ true
end_accepted true at h = refl
end_accepted false at h = absurd (cc)

accepted_forth : (cs : List ℕ) (m : Mode) (nest : List Bool) (at : ℕ) → verdict cs m nest at ≡ accepted → Follows levels m nest cs
unfolding verdict
accepted_forth [] m nest at h = end_forth levels m nest (end_accepted (may_end m nest) at h)
accepted_forth (c ∷ cs) m nest at h =
    step_forth levels c cs m nest
    (accepted_move (step m (around_of nest) c) nest at cs (λ n ns. verdict cs n ns (suc at)) (λ n ns e. accepted_forth cs n ns (suc at) e) h)

opened_open : (b : Bool) (v : Verdict) (at : ℕ) → b ≡ true → v ≡ accepted → opened b v at ≡ accepted
opened_open true v at h e = e
opened_open false v at h e = absurd (cc)

move_accepted : (mv : Move) (nest : List Bool) (at : ℕ) (cs : List ℕ) (f : Mode → List Bool → Verdict)
    → ((m : Mode) (ns : List Bool) → Follows levels m ns cs → f m ns ≡ accepted) → FollowsMove levels nest cs mv → moved mv nest at f ≡ accepted
move_accepted (To m) nest at cs f ih x = ih m nest x
move_accepted OpenArray nest at cs f ih x = opened_open _ _ at (lt_of _ _ x.0) (ih ElementDue (true ∷ nest) x.1)
move_accepted OpenObject nest at cs f ih x = opened_open _ _ at (lt_of _ _ x.0) (ih FirstNameDue (false ∷ nest) x.1)
move_accepted Close nest at cs f ih x = ih Ended (behind_close nest) x
move_accepted Refuse nest at cs f ih x = elim x [ ]

accepted_back : (cs : List ℕ) (m : Mode) (nest : List Bool) (at : ℕ) → Follows levels m nest cs → verdict cs m nest at ≡ accepted
unfolding verdict
accepted_back [] m nest at x = ap (λ b. cond b accepted (unfit at)) (end_back levels m nest x)
accepted_back (c ∷ cs) m nest at x =
    move_accepted (step m (around_of nest) c) nest at cs (λ n ns. verdict cs n ns (suc at)) (λ n ns y. accepted_back cs n ns (suc at) y) (step_back levels c cs m nest x)

-- ---- unfit

-- `k` bytes are the longest front with which a text goes on
record Unfit (P : ℕ → List ℕ → Type 0) (cs : List ℕ) (k : ℕ) : Type 0 where
  begun : Way (λ tail. P levels (take k cs ++ tail))
  longest : (limit : ℕ) (tail : List ℕ) → k < length cs → P limit (take (suc k) cs ++ tail) → ⊥
  wrong : (limit : ℕ) → P limit cs → ⊥

record UnfitAt (P : ℕ → List ℕ → Type 0) (cs : List ℕ) (at i : ℕ) : Type 0 where
  k : ℕ
  place : i ≡ at + k
  told : Unfit P cs k

-- the same of what follows a byte; `None` where the byte itself is refused
data UnfitMove (nest : List Bool) (cs : List ℕ) (mv : Move) (at i : ℕ) : Type 0 where
  here : mv ≡ Refuse → i ≡ at → UnfitMove nest cs mv at i
  later : UnfitAt (λ limit ts. FollowsMove limit nest ts mv) cs (suc at) i → UnfitMove nest cs mv at i

unfit_injective : (i j : ℕ) → unfit i ≡ unfit j → i ≡ j
unfit_injective i j h = cc

opened_unfit : (b : Bool) (v : Verdict) (at i : ℕ) → opened b v at ≡ unfit i → (b ≡ true) × (v ≡ unfit i)
opened_unfit true v at i h = (refl, h)
opened_unfit false v at i h = absurd (cc)

deeper_array : (nest : List Bool) (cs : List ℕ) (at i : ℕ) (b : Bool) → (nat_lt (length nest) levels) ≡ true
    → UnfitAt (λ limit ts. Follows limit ElementDue (true ∷ nest) ts) cs at i → UnfitAt (λ limit ts. FollowsMove limit nest ts OpenArray) cs at i
deeper_array nest cs at i b h x = record {
  k = x.k;
  place = x.place;
  told = record {
    begun = record { bytes = x.told.begun.bytes; leads = (lt_is _ _ h, x.told.begun.leads) };
    longest = λ limit tail l y. x.told.longest limit tail l y.1;
    wrong = λ limit y. x.told.wrong limit y.1;
  };
}

deeper_object : (nest : List Bool) (cs : List ℕ) (at i : ℕ) (b : Bool) → (nat_lt (length nest) levels) ≡ true
    → UnfitAt (λ limit ts. Follows limit FirstNameDue (false ∷ nest) ts) cs at i → UnfitAt (λ limit ts. FollowsMove limit nest ts OpenObject) cs at i
deeper_object nest cs at i b h x = record {
  k = x.k;
  place = x.place;
  told = record {
    begun = record { bytes = x.told.begun.bytes; leads = (lt_is _ _ h, x.told.begun.leads) };
    longest = λ limit tail l y. x.told.longest limit tail l y.1;
    wrong = λ limit y. x.told.wrong limit y.1;
  };
}

unfit_move : (mv : Move) (nest : List Bool) (at i : ℕ) (cs : List ℕ) (f : Mode → List Bool → Verdict)
    → ((m : Mode) (ns : List Bool) → f m ns ≡ unfit i → UnfitAt (λ limit ts. Follows limit m ns ts) cs (suc at) i)
    → moved mv nest at f ≡ unfit i → UnfitMove nest cs mv at i
unfit_move (To m) nest at i cs f ih h = later (ih m nest h)
unfit_move OpenArray nest at i cs f ih h = let x = opened_unfit _ _ at i h in later (deeper_array nest cs (suc at) i true x.0 (ih ElementDue (true ∷ nest) x.1))
unfit_move OpenObject nest at i cs f ih h = let x = opened_unfit _ _ at i h in later (deeper_object nest cs (suc at) i true x.0 (ih FirstNameDue (false ∷ nest) x.1))
unfit_move Close nest at i cs f ih h = later (ih Ended (behind_close nest) h)
unfit_move Refuse nest at i cs f ih h = here refl (unfit_injective i at (sym h))

unfit_byte : (c : ℕ) (cs : List ℕ) (m : Mode) (nest : List Bool) (at i : ℕ) → UnfitMove nest cs (step m (around_of nest) c) at i
    → UnfitAt (λ limit ts. Follows limit m nest ts) (c ∷ cs) at i
unfit_byte c cs m nest at i (here r e) = record {
  k = 0;
  place = omega arith;
  told = record {
    begun = way levels m nest;
    longest = λ limit tail l y. let z : FollowsMove limit nest (take 0 cs ++ tail) Refuse = subst (FollowsMove limit nest (take 0 cs ++ tail)) r (step_back limit c (take 0 cs ++ tail) m nest y) in z;
    wrong = λ limit y. let z : FollowsMove limit nest cs Refuse = subst (FollowsMove limit nest cs) r (step_back limit c cs m nest y) in z;
  };
}
unfit_byte c cs m nest at i (later x) = record {
  k = suc x.k;
  place = omega arith;
  told = record {
    begun = record { bytes = x.told.begun.bytes; leads = step_forth levels c (take x.k cs ++ x.told.begun.bytes) m nest x.told.begun.leads };
    longest = λ limit tail l y. x.told.longest limit tail (omega arith) (step_back limit c (take (suc x.k) cs ++ tail) m nest y);
    wrong = λ limit y. x.told.wrong limit (step_back limit c cs m nest y);
  };
}

end_unfit : (b : Bool) (at i : ℕ) → cond b accepted (unfit at) ≡ unfit i → (b ≡ false) × (i ≡ at)
end_unfit true at i h = absurd (cc)
end_unfit false at i h = (refl, unfit_injective i at (sym h))

unfit_is : (cs : List ℕ) (m : Mode) (nest : List Bool) (at i : ℕ) → verdict cs m nest at ≡ unfit i → UnfitAt (λ limit ts. Follows limit m nest ts) cs at i
unfolding verdict
unfit_is [] m nest at i h =
    let e = end_unfit (may_end m nest) at i h in
    record {
      k = 0;
      place = omega arith;
      told = record {
        begun = way levels m nest;
        longest = λ limit tail l y. absurd (omega arith);
        wrong = λ limit y. clash (sym e.0 ∙ end_back limit m nest y);
      };
    }
unfit_is (c ∷ cs) m nest at i h =
    unfit_byte c cs m nest at i
    (unfit_move (step m (around_of nest) c) nest at i cs (λ n ns. verdict cs n ns (suc at)) (λ n ns e. unfit_is cs n ns (suc at) i e) h)

-- ---- too deep

record Deep (P : ℕ → List ℕ → Type 0) (cs : List ℕ) (k : ℕ) : Type 0 where
  begun : Way (λ tail. P levels (take k cs ++ tail))
  deeper : Way (λ tail. P (levels + 1) (take (suc k) cs ++ tail))
  past : (tail : List ℕ) → P levels (take (suc k) cs ++ tail) → ⊥

record DeepAt (P : ℕ → List ℕ → Type 0) (cs : List ℕ) (at i : ℕ) : Type 0 where
  k : ℕ
  place : i ≡ at + k
  told : Deep P cs k

data DeepMove (nest : List Bool) (cs : List ℕ) (mv : Move) (at i : ℕ) : Type 0 where
  array_here : mv ≡ OpenArray → i ≡ at → levels ≤ length nest → DeepMove nest cs mv at i
  object_here : mv ≡ OpenObject → i ≡ at → levels ≤ length nest → DeepMove nest cs mv at i
  deep_later : DeepAt (λ limit ts. FollowsMove limit nest ts mv) cs (suc at) i → DeepMove nest cs mv at i

deep_injective : (i j : ℕ) → too_deep i ≡ too_deep j → i ≡ j
deep_injective i j h = cc

opened_deep : (b : Bool) (v : Verdict) (at i : ℕ) → opened b v at ≡ too_deep i → ((b ≡ true) × (v ≡ too_deep i)) ⊎ ((b ≡ false) × (i ≡ at))
opened_deep true v at i h = inl (refl, h)
opened_deep false v at i h = inr (refl, deep_injective i at (sym h))

more_limit : (n : ℕ) → n < levels → n < levels + 1
more_limit n h = omega arith

deep_array : (nest : List Bool) (cs : List ℕ) (at i : ℕ) → length nest < levels
    → DeepAt (λ limit ts. Follows limit ElementDue (true ∷ nest) ts) cs at i → DeepAt (λ limit ts. FollowsMove limit nest ts OpenArray) cs at i
deep_array nest cs at i h x = record {
  k = x.k;
  place = x.place;
  told = record {
    begun = record { bytes = x.told.begun.bytes; leads = (h, x.told.begun.leads) };
    deeper = record { bytes = x.told.deeper.bytes; leads = (more_limit (length nest) h, x.told.deeper.leads) };
    past = λ tail y. x.told.past tail y.1;
  };
}

deep_object : (nest : List Bool) (cs : List ℕ) (at i : ℕ) → length nest < levels
    → DeepAt (λ limit ts. Follows limit FirstNameDue (false ∷ nest) ts) cs at i → DeepAt (λ limit ts. FollowsMove limit nest ts OpenObject) cs at i
deep_object nest cs at i h x = record {
  k = x.k;
  place = x.place;
  told = record {
    begun = record { bytes = x.told.begun.bytes; leads = (h, x.told.begun.leads) };
    deeper = record { bytes = x.told.deeper.bytes; leads = (more_limit (length nest) h, x.told.deeper.leads) };
    past = λ tail y. x.told.past tail y.1;
  };
}

close_within : (nest : List Bool) → length nest ≤ levels → length (behind_close nest) ≤ levels
close_within [] h = h
close_within (b ∷ nest) h = omega arith

deep_move : (mv : Move) (nest : List Bool) (at i : ℕ) (cs : List ℕ) (f : Mode → List Bool → Verdict) → length nest ≤ levels
    → ((m : Mode) (ns : List Bool) → length ns ≤ levels → f m ns ≡ too_deep i → DeepAt (λ limit ts. Follows limit m ns ts) cs (suc at) i)
    → moved mv nest at f ≡ too_deep i → DeepMove nest cs mv at i
deep_move (To m) nest at i cs f b ih h = deep_later (ih m nest b h)
deep_move OpenArray nest at i cs f b ih h =
    elim (opened_deep (nat_lt (length nest) levels) (f ElementDue (true ∷ nest)) at i h) [
      | inl x ↦ let l = lt_is (length nest) levels x.0 in deep_later (deep_array nest cs (suc at) i l (ih ElementDue (true ∷ nest) (omega arith) x.1))
      | inr x ↦ array_here refl x.1 (not_lt (length nest) levels x.0)
    ]
deep_move OpenObject nest at i cs f b ih h =
    elim (opened_deep (nat_lt (length nest) levels) (f FirstNameDue (false ∷ nest)) at i h) [
      | inl x ↦ let l = lt_is (length nest) levels x.0 in deep_later (deep_object nest cs (suc at) i l (ih FirstNameDue (false ∷ nest) (omega arith) x.1))
      | inr x ↦ object_here refl x.1 (not_lt (length nest) levels x.0)
    ]
deep_move Close nest at i cs f b ih h = deep_later (ih Ended (behind_close nest) (close_within nest b) h)
deep_move Refuse nest at i cs f b ih h = absurd (cc)

not_below : (n : ℕ) → levels ≤ n → n < levels → ⊥
not_below n h l = absurd (omega arith)

just_below : (n : ℕ) → n ≤ levels → n < levels + 1
just_below n h = omega arith

deep_byte : (c : ℕ) (cs : List ℕ) (m : Mode) (nest : List Bool) (at i : ℕ) → length nest ≤ levels → DeepMove nest cs (step m (around_of nest) c) at i
    → DeepAt (λ limit ts. Follows limit m nest ts) (c ∷ cs) at i
deep_byte c cs m nest at i b (array_here r e h) =
    let w = way (levels + 1) ElementDue (true ∷ nest) in
    let opens : FollowsMove (levels + 1) nest (take 0 cs ++ w.bytes) OpenArray = (just_below (length nest) b, w.leads) in
    record {
      k = 0;
      place = omega arith;
      told = record {
        begun = way levels m nest;
        deeper = record { bytes = w.bytes; leads = step_forth (levels + 1) c (take 0 cs ++ w.bytes) m nest (subst (FollowsMove (levels + 1) nest (take 0 cs ++ w.bytes)) (sym r) opens) };
        past = λ tail y. let z : FollowsMove levels nest (take 0 cs ++ tail) OpenArray = subst (FollowsMove levels nest (take 0 cs ++ tail)) r (step_back levels c (take 0 cs ++ tail) m nest y) in not_below (length nest) h z.0;
      };
    }
deep_byte c cs m nest at i b (object_here r e h) =
    let w = way (levels + 1) FirstNameDue (false ∷ nest) in
    let opens : FollowsMove (levels + 1) nest (take 0 cs ++ w.bytes) OpenObject = (just_below (length nest) b, w.leads) in
    record {
      k = 0;
      place = omega arith;
      told = record {
        begun = way levels m nest;
        deeper = record { bytes = w.bytes; leads = step_forth (levels + 1) c (take 0 cs ++ w.bytes) m nest (subst (FollowsMove (levels + 1) nest (take 0 cs ++ w.bytes)) (sym r) opens) };
        past = λ tail y. let z : FollowsMove levels nest (take 0 cs ++ tail) OpenObject = subst (FollowsMove levels nest (take 0 cs ++ tail)) r (step_back levels c (take 0 cs ++ tail) m nest y) in not_below (length nest) h z.0;
      };
    }
deep_byte c cs m nest at i b (deep_later x) = record {
  k = suc x.k;
  place = omega arith;
  told = record {
    begun = record { bytes = x.told.begun.bytes; leads = step_forth levels c (take x.k cs ++ x.told.begun.bytes) m nest x.told.begun.leads };
    deeper = record { bytes = x.told.deeper.bytes; leads = step_forth (levels + 1) c (take (suc x.k) cs ++ x.told.deeper.bytes) m nest x.told.deeper.leads };
    past = λ tail y. x.told.past tail (step_back levels c (take (suc x.k) cs ++ tail) m nest y);
  };
}

deep_end : (b : Bool) (at i : ℕ) → cond b accepted (unfit at) ≡ too_deep i → ⊥
deep_end true at i h = absurd (cc)
deep_end false at i h = absurd (cc)

deep_is : (cs : List ℕ) (m : Mode) (nest : List Bool) (at i : ℕ) → length nest ≤ levels → verdict cs m nest at ≡ too_deep i → DeepAt (λ limit ts. Follows limit m nest ts) cs at i
unfolding verdict
deep_is [] m nest at i b h = absurd (deep_end (may_end m nest) at i h)
deep_is (c ∷ cs) m nest at i b h =
    deep_byte c cs m nest at i b
    (deep_move (step m (around_of nest) c) nest at i cs (λ n ns. verdict cs n ns (suc at)) b (λ n ns l e. deep_is cs n ns (suc at) i l e) h)

-- ---- whole texts

text_of : {limit : ℕ} {bytes : List ℕ} → ValueNext limit [] bytes → IsText limit bytes
text_of x = record { before = x.blanks; tree = x.value; behind = x.rest; blank_before = x.blank; valid = x.valid; blank_behind = x.behind; spelled = x.spelled }

of_text : {limit : ℕ} {bytes : List ℕ} → IsText limit bytes → ValueNext limit [] bytes
of_text x = record { blanks = x.before; value = x.tree; rest = x.behind; blank = x.blank_before; valid = x.valid; behind = x.blank_behind; spelled = x.spelled }

begins : {limit : ℕ} {front : List ℕ} → Way (λ tail. ValueNext limit [] (front ++ tail)) → BeginsText limit front
begins w = record { rest = w.bytes; whole = text_of w.leads }

pub accepted_text : (bytes : List ℕ) → verdict bytes ValueDue [] 0 ≡ accepted → IsText levels bytes
accepted_text bytes h = text_of (accepted_forth bytes ValueDue [] 0 h)

pub text_accepted : (bytes : List ℕ) → IsText levels bytes → verdict bytes ValueDue [] 0 ≡ accepted
text_accepted bytes x = accepted_back bytes ValueDue [] 0 (of_text x)

pub unfit_fault : (bytes : List ℕ) (i : ℕ) → verdict bytes ValueDue [] 0 ≡ unfit i → IsParsingFault bytes i
unfit_fault bytes i h =
    let x = unfit_is bytes ValueDue [] 0 i h in
    let place : x.k ≡ i = omega arith in
    let one : suc x.k ≡ i + 1 = omega arith in
    record {
      begun = subst (λ k. BeginsText levels (take k bytes)) place (begins x.told.begun);
      longest = λ limit l y.
          let z : BeginsText limit (take (suc x.k) bytes) = subst (λ k. BeginsText limit (take k bytes)) (sym one) y in
          x.told.longest limit z.rest (omega arith) (of_text z.whole);
      wrong = λ limit y. x.told.wrong limit (of_text y);
    }

pub deep_fault : (bytes : List ℕ) (i : ℕ) → verdict bytes ValueDue [] 0 ≡ too_deep i → IsTooDeep bytes i
deep_fault bytes i h =
    let x = deep_is bytes ValueDue [] 0 i (lit≤ tt) h in
    let place : x.k ≡ i = omega arith in
    let one : suc x.k ≡ i + 1 = omega arith in
    record {
      begun = subst (λ k. BeginsText levels (take k bytes)) place (begins x.told.begun);
      deeper = subst (λ k. BeginsText (levels + 1) (take k bytes)) one (begins x.told.deeper);
      past = λ y.
          let z : BeginsText levels (take (suc x.k) bytes) = subst (λ k. BeginsText levels (take k bytes)) (sym one) y in
          x.told.past z.rest (of_text z.whole);
    }
