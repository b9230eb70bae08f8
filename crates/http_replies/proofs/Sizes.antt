-- How long a document is.
use Rattle.std.proofs.Common.{◌≡◌, ℕ, ◌+◌, List, ◌++◌, length, length-append, ap, ◌∙◌, arith, append_assoc}
use Rattle.std.specs.Prelude.{codes}
use Rattle.http_replies.specs.Replies.{document}

sum_of_five : (a b c d e : List ℕ) → length (a ++ b ++ c ++ d ++ e) ≡ length a + length b + length c + length d + length e
sum_of_five a b c d e = simp length-append

pub document_size : (code message : List ℕ) → length (document code message) ≡ 85 + length code + length message
unfolding document
document_size code message =
    let sum = sum_of_five (codes "<?xml version=\"1.0\" encoding=\"UTF-8\"?><Error><Code>") code (codes "</Code><Message>") message
    (codes "</Message></Error>") in
    omega (arith, sum)

-- five parts, each added at the end
pub five_parts : (t a b c d e t1 t2 t3 t4 t5 : List ℕ) → t1 ≡ t ++ a → t2 ≡ t1 ++ b → t3 ≡ t2 ++ c → t4 ≡ t3 ++ d → t5 ≡ t4 ++ e
    → t5 ≡ t ++ (a ++ b ++ c ++ d ++ e)
five_parts t a b c d e t1 t2 t3 t4 t5 e1 e2 e3 e4 e5 =
    e5 ∙ ap (λ l. l ++ e) (e4 ∙ ap (λ l. l ++ d) (e3 ∙ ap (λ l. l ++ c) (e2 ∙ ap (λ l. l ++ b) e1))) ∙ simp append_assoc
