use Rattle.std.proofs.Common.{◌≡◌, ℕ, List, [], ◌++◌, ap, ◌∙◌, append_assoc}
use Rattle.std.proofs.lemmas.List.{append-nil}
use Rattle.event_frame.proofs.writer.print_error.Goals as goal

-- three parts, each added at the end
three_parts : (i0 i1 i2 i3 a b d : List ℕ) → i0 ≡ [] → i1 ≡ i0 ++ a → i2 ≡ i1 ++ b → i3 ≡ i2 ++ d → i3 ≡ a ++ (b ++ (d ++ []))
three_parts i0 i1 i2 i3 a b d e0 e1 e2 e3 =
    e3 ∙ ap (λ (l : List ℕ). l ++ d) (e2 ∙ ap (λ (l : List ℕ). l ++ b) (e1 ∙ ap (λ (l : List ℕ). l ++ a) e0))
    ∙ simp (append_assoc, append-nil)

pub returns-clause-bytes : goal.returns-clause-bytes
returns-clause-bytes c =
    three_parts _ _ _ _ _ _ _ c.clear.ensures.items c.put_header.ensures.bytes c.put_header-2.ensures.bytes c.put_header-3.ensures.bytes
