use Rattle.std.proofs.Common.{◌≡◌, ◌+◌, ◌-◌, [], ◌++◌, length, take, drop, refl, sym, ap, ◌∙◌, inl, inr, arith, length-drop}
use Rattle.std.proofs.lemmas.List.{with_items_is, length-take-le}
use Rattle.std.proofs.lemmas.Bool.{cases_lt}
use Rattle.line_window.specs.Spelled.{spelled}
use Rattle.line_window.specs.Buffered.{view_of}
use Rattle.line_window.proofs.KeptLaws.{holds_grown}
use Rattle.line_window.proofs.InsideLaws.{kept_grows}
use Rattle.line_window.proofs.StepLaws.{grown}
use Rattle.line_window.proofs.window.Window.refill.Goals as goal

pub returns-in-Ok-clause-window : goal.returns-in-Ok-clause-window
returns-in-Ok-clause-window g c =
    let w = c.self.inside in
    let i = c.self.invariant in
    let wide = length (spelled w.delimiter) in
    let xs = w.buffer.items in
    let zs = c.read_piece.new.buffer in
    let start = c.saturating_sub-start.result in
    let begins : start ≡ w.from - wide = c.saturating_sub-start.ensures ∙ ap (λ n. w.from - n) c.len.ensures in
    let front = c.make_room-front.result in
    let end = front + (w.end - start) in
    let back = c.make_room-front.ensures.back in
    let behind = i.behind in
    let lens : length zs ≡ w.buffer.len = omega arith in
    let place : w.base + (start - front) + (front + (w.from - start)) ≡ w.base + w.from = omega arith in
    let first : front + (w.from - start) - wide ≡ front = elim (cases_lt w.from wide) [ inl low ↦ omega arith | inr high ↦ omega arith ] in
    let same = c.make_room-front.ensures.kept ∙ ap (λ l. take (w.end - start) (drop start l)) c.as_mut_slice-buffer.ensures.value in
    let n = c.in-Ok.read in
    let within = c.in-Ok.ensures.within in
    let len : length (take n (drop end zs)) ≡ n = length-take-le n (drop end zs) (omega (arith, length-drop end zs)) in
    let upto : w.base + (start - front) + (end + n) ≡ w.base + w.end + length (take n (drop end zs)) = omega arith in
    let kept =
    kept_grows xs c.make_room-front.new.buffer zs front start w.end n _ (end + n) c.read_piece.ensures.kept same first refl
    ∙ ap (λ s. take (w.end - s) (drop s xs) ++ take n (drop end zs)) begins in
    rw (← c.self.view_is, with_items_is w.buffer zs lens)
    (grown (view_of w) _ (take n (drop end zs)) i.sound (record { size = refl; stop = refl; longest = refl; delimiter = refl }) place kept upto
    (omega (arith, c.in-Ok.ensures.read)) (omega arith) (rw (← c.self.view_is) at c.requires.room))

pub returns-in-Ok-clause-told : goal.returns-in-Ok-clause-told
returns-in-Ok-clause-told g c object tells =
    let w = c.self.inside in
    let i = c.self.invariant in
    let wide = length (spelled w.delimiter) in
    let xs = w.buffer.items in
    let zs = c.read_piece.new.buffer in
    let start = c.saturating_sub-start.result in
    let begins : start ≡ w.from - wide = c.saturating_sub-start.ensures ∙ ap (λ n. w.from - n) c.len.ensures in
    let front = c.make_room-front.result in
    let end = front + (w.end - start) in
    let back = c.make_room-front.ensures.back in
    let behind = i.behind in
    let lens : length zs ≡ w.buffer.len = omega arith in
    let place : w.base + (start - front) + (front + (w.from - start)) ≡ w.base + w.from = omega arith in
    let first : front + (w.from - start) - wide ≡ front = elim (cases_lt w.from wide) [ inl low ↦ omega arith | inr high ↦ omega arith ] in
    let same = c.make_room-front.ensures.kept ∙ ap (λ l. take (w.end - start) (drop start l)) c.as_mut_slice-buffer.ensures.value in
    let n = c.in-Ok.read in
    let within = c.in-Ok.ensures.within in
    let len : length (take n (drop end zs)) ≡ n = length-take-le n (drop end zs) (omega (arith, length-drop end zs)) in
    let upto : w.base + (start - front) + (end + n) ≡ w.base + w.end + length (take n (drop end zs)) = omega arith in
    let kept =
    kept_grows xs c.make_room-front.new.buffer zs front start w.end n _ (end + n) c.read_piece.ensures.kept same first refl
    ∙ ap (λ s. take (w.end - s) (drop s xs) ++ take n (drop end zs)) begins in
    let read = c.in-Ok.ensures.told object tells in
    let at : w.base + (start - front) + end ≡ w.base + w.end = omega arith in
    rw (← c.self.view_is, with_items_is w.buffer zs lens)
    (holds_grown object (view_of w) _ (take n (drop end zs)) i.sound.kept refl (ap (λ p. p - wide) place) kept
    (read ∙ ap (λ q. take n (drop q object)) at ∙ ap (λ k. take k (drop (w.base + w.end) object)) (sym len)))

pub returns-in-Err-clause-window : goal.returns-in-Err-clause-window
returns-in-Err-clause-window g c =
    let w = c.self.inside in
    let i = c.self.invariant in
    let wide = length (spelled w.delimiter) in
    let xs = w.buffer.items in
    let zs = c.read_piece.new.buffer in
    let start = c.saturating_sub-start.result in
    let begins : start ≡ w.from - wide = c.saturating_sub-start.ensures ∙ ap (λ n. w.from - n) c.len.ensures in
    let front = c.make_room-front.result in
    let end = front + (w.end - start) in
    let back = c.make_room-front.ensures.back in
    let behind = i.behind in
    let lens : length zs ≡ w.buffer.len = omega arith in
    let place : w.base + (start - front) + (front + (w.from - start)) ≡ w.base + w.from = omega arith in
    let first : front + (w.from - start) - wide ≡ front = elim (cases_lt w.from wide) [ inl low ↦ omega arith | inr high ↦ omega arith ] in
    let same = c.make_room-front.ensures.kept ∙ ap (λ l. take (w.end - start) (drop start l)) c.as_mut_slice-buffer.ensures.value in
    let upto : w.base + (start - front) + end ≡ w.base + w.end + 0 = omega arith in
    let until : end ≡ end + 0 = omega arith in
    let kept =
    kept_grows xs c.make_room-front.new.buffer zs front start w.end 0 _ end c.read_piece.ensures.kept same first until
    ∙ ap (λ s. take (w.end - s) (drop s xs) ++ []) begins in
    rw (← c.self.view_is, with_items_is w.buffer zs lens)
    (grown (view_of w) _ [] i.sound (record { size = refl; stop = refl; longest = refl; delimiter = refl }) place kept upto
    (omega (arith, i.sound.read)) (omega arith) (rw (← c.self.view_is) at c.requires.room))

pub returns-in-Err-clause-told : goal.returns-in-Err-clause-told
returns-in-Err-clause-told g c object tells =
    let w = c.self.inside in
    let i = c.self.invariant in
    let wide = length (spelled w.delimiter) in
    let xs = w.buffer.items in
    let zs = c.read_piece.new.buffer in
    let start = c.saturating_sub-start.result in
    let begins : start ≡ w.from - wide = c.saturating_sub-start.ensures ∙ ap (λ n. w.from - n) c.len.ensures in
    let front = c.make_room-front.result in
    let end = front + (w.end - start) in
    let back = c.make_room-front.ensures.back in
    let behind = i.behind in
    let lens : length zs ≡ w.buffer.len = omega arith in
    let place : w.base + (start - front) + (front + (w.from - start)) ≡ w.base + w.from = omega arith in
    let first : front + (w.from - start) - wide ≡ front = elim (cases_lt w.from wide) [ inl low ↦ omega arith | inr high ↦ omega arith ] in
    let same = c.make_room-front.ensures.kept ∙ ap (λ l. take (w.end - start) (drop start l)) c.as_mut_slice-buffer.ensures.value in
    let upto : w.base + (start - front) + end ≡ w.base + w.end + 0 = omega arith in
    let until : end ≡ end + 0 = omega arith in
    let kept =
    kept_grows xs c.make_room-front.new.buffer zs front start w.end 0 _ end c.read_piece.ensures.kept same first until
    ∙ ap (λ s. take (w.end - s) (drop s xs) ++ []) begins in
    rw (← c.self.view_is, with_items_is w.buffer zs lens)
    (holds_grown object (view_of w) _ [] i.sound.kept refl (ap (λ p. p - wide) place) kept refl)
