use Rattle.std.proofs.Common.{◌≡◌, ℕ, List, [], ◌++◌, sym, ap, ◌∙◌}
use Rattle.std.proofs.lemmas.List.{append-nil}
use Rattle.event_frame.specs.CountsText.{opening, print_element, print_counts}
use Rattle.event_frame.proofs.counts.print.Goals as goal

-- a part added at the end
more : {text now front : List ℕ} (part : List ℕ) → text ≡ front → now ≡ text ++ part → now ≡ front ++ part
more {text} {now} {front} part e f = f ∙ ap (λ (l : List ℕ). l ++ part) e

-- nothing added at the end
none : {text front : List ℕ} → text ≡ front → text ≡ front ++ []
none {text} {front} e = e ∙ sym (append-nil front)

pub returns-clause-bytes : goal.returns-clause-bytes
unfolding opening print_element print_counts
returns-clause-bytes c =
    let opened = none (more _ (more _ (more _ c.clear.ensures.items c.put.ensures.bytes) c.put-2.ensures.bytes) c.put-3.ensures.bytes) in
    let scanned = more _ (more _ opened c.put-4.ensures.bytes) c.put_decimal.ensures.bytes in
    let processed = more _ (more _ scanned c.put-5.ensures.bytes) c.put_decimal-2.ensures.bytes in
    let returned = more _ (more _ processed c.put-6.ensures.bytes) c.put_decimal-3.ensures.bytes in
    more _ (more _ (more _ returned c.put-7.ensures.bytes) c.put-8.ensures.bytes) c.put-9.ensures.bytes
