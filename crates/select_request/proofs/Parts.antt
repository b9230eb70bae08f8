-- Parts one after the other.
use Rattle.std.proofs.lemmas.List.{append-nil}
use Rattle.std.specs.Prelude.{◌≡◌, ℕ, List, [], ◌∷◌, ◌++◌, Result, Ok, Err, OnOk, codes, refl}
use Rattle.std.proofs.Common.{sym, ◌∙◌, ap, append_assoc}
use Rattle.select_request.specs.Printed.{Part, opens, leaf, closes, print_part, print_parts, settings_parts, range_parts, parts_of, printed}
use Rattle.request_elements.specs.declared.element.Element.TheVariants.{Request, Expression, ExpressionType}
use Rattle.select_request.specs.declared.request.SelectRequest.{SelectRequest}

pub on_ok : {T E P Q : Type 0} (r : Result T E) → (P → Q) → OnOk r P → OnOk r Q
on_ok (Ok x) f p = f p
on_ok (Err e) f p = tt

pub print_parts-append : (xs ys : List Part) → print_parts (xs ++ ys) ≡ print_parts xs ++ print_parts ys
print_parts-append [] ys = refl
print_parts-append (x ∷ xs) ys = ap (λ t. print_part x ++ t) (print_parts-append xs ys) ∙ sym (append_assoc (print_part x) (print_parts xs) (print_parts ys))

-- ---- what a call adds, and what the later ones add

-- a part, and then the rest
pub adds : (before part rest : List ℕ) {after all : List ℕ} → after ≡ before ++ part → all ≡ after ++ rest → all ≡ before ++ (part ++ rest)
adds before part rest e f = f ∙ ap (λ x. x ++ rest) e ∙ append_assoc before part rest

-- parts, and then the rest
pub adds_parts : (before : List ℕ) (parts rest : List Part) {after all : List ℕ} → after ≡ before ++ print_parts parts → all ≡ after ++ print_parts rest
    → all ≡ before ++ print_parts (parts ++ rest)
adds_parts before parts rest e f = adds before (print_parts parts) (print_parts rest) e f ∙ ap (λ t. before ++ t) (sym (print_parts-append parts rest))

-- the last part
pub adds_last : (before part : List ℕ) {all : List ℕ} → all ≡ before ++ part → all ≡ before ++ (part ++ [])
adds_last before part e = e ∙ ap (λ p. before ++ p) (sym (append-nil part))

-- ---- the parts of a request

pub printed_is : (request : SelectRequest)
    → print_part (opens Request) ++ (print_part (leaf Expression request.expression) ++ (print_part (leaf ExpressionType (codes "SQL"))
    ++ print_parts (settings_parts request ++ (range_parts request.range ++ closes Request ∷ [])))) ≡ printed request
unfolding parts_of
printed_is request = refl
