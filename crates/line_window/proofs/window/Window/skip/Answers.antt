use Rattle.std.proofs.Common.{◌≡◌, ◌+◌, ◌-◌, ◌<◌, ◌≤◌, min, max, length, take, drop, refl, ap, ◌∙◌, subst, inl, inr, ◌⊎◌, arith}
use Rattle.std.proofs.lemmas.Bool.{cases_lt}
use Rattle.line_window.specs.Delimiters.{HasNone, IsFirstAt}
use Rattle.line_window.specs.Spelled.{spelled}
use Rattle.line_window.specs.Buffered.{view_of}
use Rattle.line_window.specs.Sliding.{kept_from}
use Rattle.line_window.specs.declared.window.Sight.TheVariants.{More, Past}
use Rattle.line_window.proofs.DelimiterLaws.{width, stands_front}
use Rattle.line_window.proofs.InsideLaws.{kept_place, kept_len, view_len, moves_to, front_slice}
use Rattle.line_window.proofs.StepLaws.{skip_found, skip_none}
use Rattle.line_window.proofs.window.Window.skip.Goals as goal

pub returns-in-Some : goal.returns-in-Some
returns-in-Some c =
    let w = c.self.inside in
    let i = c.self.invariant in
    let d = spelled w.delimiter in
    let at = c.in-Some.at in
    let start = c.saturating_sub-start.result in
    let begins : start ≡ w.from - length d = c.saturating_sub-start.ensures ∙ ap (λ n. w.from - n) c.len.ensures in
    let reach = c.min-reach.result in
    let bound : reach ≡ min (w.stop - 1 - w.base) w.end = c.min-reach.ensures in
    let wide = c.len-in-Some.ensures in
    let n = reach - start in
    let some = (width d i.sound.delimiter).0 in
    let first : IsFirstAt d (take n (view_of w).kept) at =
    subst (λ l. IsFirstAt d l at) (front_slice w c.deref.result.now start reach c.deref.ensures.value begins (omega arith)) c.in-Some.ensures in
    let fits : at + length d ≤ n = (stands_front d (view_of w).kept n at some first.here).1 in
    let behind = i.behind in
    let near : w.base + w.from < w.stop = c.if-self.false in
    let not_front : w.from ≡ 0 → ⊥ = c.if-self-eq0.false in
    let from = start + at + c.len-in-Some.result in
    let moved = moves_to w from i (omega arith) (omega arith) in
    let len = view_len w i in
    let place = kept_place w i in
    let on : from - length d - (w.from - length d) ≡ at = omega arith in
    rw (← c.self.view_is)
    (skip_found (view_of w) _ n at i.sound (record { size = refl; stop = refl; longest = refl; delimiter = refl }) refl refl
    (omega arith) near (omega arith) first (omega arith) (omega arith) (omega arith)
    (moved.place ∙ ap (λ k. kept_from (view_of w) + k) on)
    (moved.kept ∙ ap (λ k. drop k (view_of w).kept) on))

pub returns-then-self-2 : goal.returns-then-self-2
returns-then-self-2 c =
    let w = c.self.inside in
    let i = c.self.invariant in
    let d = spelled w.delimiter in
    let start = c.saturating_sub-start.result in
    let begins : start ≡ w.from - length d = c.saturating_sub-start.ensures ∙ ap (λ n. w.from - n) c.len.ensures in
    let reach = c.min-reach.result in
    let bound : reach ≡ min (w.stop - 1 - w.base) w.end = c.min-reach.ensures in
    let n = reach - start in
    let some = (width d i.sound.delimiter).0 in
    let none : HasNone d (take n (view_of w).kept) (length (take n (view_of w).kept)) =
    subst (λ l. HasNone d l (length l)) (front_slice w c.deref.result.now start reach c.deref.ensures.value begins (omega arith)) c.in_default.ensures in
    let behind = i.behind in
    let near : w.base + w.from < w.stop = c.if-self.false in
    let not_front : w.from ≡ 0 → ⊥ = c.if-self-eq0.false in
    let from = c.max-self-inside.result in
    let later : from ≡ max w.from (reach + 1) = c.max-self-inside.ensures in
    let moved = moves_to w from i (omega arith) (omega arith) in
    let len = view_len w i in
    let place = kept_place w i in
    let range = i.sound.range in
    let here = i.sound.here in
    let either : (w.base + from ≡ w.base + w.from) ⊎ (w.base + from ≡ kept_from (view_of w) + n + 1) =
    elim (cases_lt w.from (reach + 1)) [ inl more ↦ inr (omega arith) | inr same ↦ inl (omega arith) ] in
    rw (← c.self.view_is)
    (skip_none (view_of w) _ n _ Past i.sound (record { size = refl; stop = refl; longest = refl; delimiter = refl }) refl refl
    (omega arith) near (omega arith) none (omega arith) either (omega arith) moved.place moved.kept moved.within c.if-self-2.true (λ e. absurd (cc)))

pub returns : goal.returns
returns c =
    let w = c.self.inside in
    let i = c.self.invariant in
    let d = spelled w.delimiter in
    let start = c.saturating_sub-start.result in
    let begins : start ≡ w.from - length d = c.saturating_sub-start.ensures ∙ ap (λ n. w.from - n) c.len.ensures in
    let reach = c.min-reach.result in
    let bound : reach ≡ min (w.stop - 1 - w.base) w.end = c.min-reach.ensures in
    let n = reach - start in
    let wide = width d i.sound.delimiter in
    let none : HasNone d (take n (view_of w).kept) (length (take n (view_of w).kept)) =
    subst (λ l. HasNone d l (length l)) (front_slice w c.deref.result.now start reach c.deref.ensures.value begins (omega arith)) c.in_default.ensures in
    let behind = i.behind in
    let near : w.base + w.from < w.stop = c.if-self.false in
    let not_front : w.from ≡ 0 → ⊥ = c.if-self-eq0.false in
    let from = c.max-self-inside.result in
    let later : from ≡ max w.from (reach + 1) = c.max-self-inside.ensures in
    let again : w.base + from < w.stop = c.if-self-2.false in
    let moved = moves_to w from i (omega arith) (omega (arith, wide.0)) in
    let len = view_len w i in
    let place = kept_place w i in
    let range = i.sound.range in
    let here = i.sound.here in
    let either : (w.base + from ≡ w.base + w.from) ⊎ (w.base + from ≡ kept_from (view_of w) + n + 1) =
    elim (cases_lt w.from (reach + 1)) [ inl more ↦ inr (omega arith) | inr same ↦ inl (omega arith) ] in
    let kept_now : length (take (w.end - (from - length d)) (drop (from - length d) w.buffer.items)) ≡ w.end - (from - length d) =
    kept_len w.buffer.items (from - length d) w.end (omega (arith, wide.0)) (omega (arith, i.within)) in
    rw (← c.self.view_is)
    (skip_none (view_of w) _ n _ More i.sound (record { size = refl; stop = refl; longest = refl; delimiter = refl }) refl refl
    (omega arith) near (omega arith) none (omega arith) either (omega arith) moved.place moved.kept moved.within
    (omega arith, again, omega (arith, wide.1)) (λ e. absurd (cc)))
