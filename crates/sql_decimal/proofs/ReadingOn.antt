-- What a loop over characters keeps while it reads a number.
use Rattle.std.proofs.Common.{◌≡◌, ℕ, true, false, List, [], ◌∷◌, Option, Some, None, refl, sym, ap, ◌∙◌}
use Rattle.std.specs.Iterator.{AlwaysYields}
use Rattle.sql_decimal.specs.declared.number.Num.{Num}
use Rattle.sql_decimal.specs.declared.reader.Reader.{Reader}
use Rattle.sql_decimal.specs.Reading.{number_of}
use Rattle.sql_decimal.specs.Resume.{resume, Takes}

module _ {S : Type 0} (steps : S → Option ℕ → S → Type 0) where
  -- Of any characters cs that come from start, some are left, and the reader makes of them what cs spells.
  pub record ReadsOn (start now : S) (reader : Reader) : Type 0 where
    pub left : (cs : List ℕ) → AlwaysYields steps (λ c. c) start cs → (rest : List ℕ) × AlwaysYields steps (λ c. c) now rest × (number_of cs ≡ resume reader rest)

  -- at the start all are left
  pub ReadsOn-new : (start : S) (reader : Reader) → ((cs : List ℕ) → resume reader cs ≡ number_of cs) → ReadsOn start start reader
  ReadsOn-new start reader h = record { left = λ cs always. (cs, always, sym (h cs)) }

  -- what an item leaves
  item : (now next : S) (c : ℕ) (rest : List ℕ) → AlwaysYields steps (λ x. x) now rest → steps now (Some c) next → (after : List ℕ) × (rest ≡ c ∷ after) × AlwaysYields steps (λ x. x) next after
  item now next c [] always p = absurd (always c next p)
  item now next c (d ∷ after) always p =
      let q = always.1 c next p in
      (after, ap (λ x. x ∷ after) (sym q.0), q.1)

  -- one character that was taken
  pub ReadsOn-taken : (start now next : S) (c : ℕ) (old new : Reader) → ReadsOn start now old → steps now (Some c) next → Takes old c true new → ReadsOn start next new
  unfolding Takes
  ReadsOn-taken start now next c old new h p takes = record {
    left = λ cs always.
        let r = h.left cs always in
        let q = item now next c r.0 r.1 p in
        (q.0, q.2, r.2 ∙ ap (resume old) q.1 ∙ takes q.0);
  }

  -- one that was not
  pub ReadsOn-refused : (start now next : S) (c : ℕ) (old new : Reader) → ReadsOn start now old → steps now (Some c) next → Takes old c false new
      → (cs : List ℕ) → AlwaysYields steps (λ x. x) start cs → None ≡ number_of cs
  unfolding Takes
  ReadsOn-refused start now next c old new h p takes cs always =
      let r = h.left cs always in
      let q = item now next c r.0 r.1 p in
      sym (r.2 ∙ ap (resume old) q.1 ∙ takes q.0)

  -- the end
  none_left : (now next : S) (rest : List ℕ) → AlwaysYields steps (λ x. x) now rest → steps now None next → rest ≡ []
  none_left now next [] always p = refl
  none_left now next (d ∷ after) always p = absurd (always.0 next p)

  pub ReadsOn-end : (start now next : S) (reader : Reader) (r : Option Num) → ReadsOn start now reader → steps now None next → r ≡ resume reader []
      → (cs : List ℕ) → AlwaysYields steps (λ x. x) start cs → r ≡ number_of cs
  ReadsOn-end start now next reader r h p e cs always =
      let l = h.left cs always in
      e ∙ sym (l.2 ∙ ap (resume reader) (none_left now next l.0 l.1 p))
