-- What `check` answers.
use Rattle.std.proofs.Common.{◌≡◌, ℕ, true, false, List, [], refl, sym, ◌∙◌, ap, subst}
use Rattle.std.specs.Str.{IsUtf8}
use Rattle.json_text.specs.Grammar.{Json, null, truth, number, string, empty_array, array, empty_object, object, unsigned, negative, zero_int, nonzero_int, print, IsValue, IsNumber, Number, print_number}
use Rattle.json_text.specs.Texts.{levels}
use Rattle.json_text.specs.Machine.{verdict, accepted, unfit, too_deep}
use Rattle.json_text.specs.Trimmed.{content, skip_blanks}
use Rattle.json_text.specs.Nodes.{IsNode, StandsIn, Spells, IsFault, kind_of, kind_at, kind_by_class}
use Rattle.json_text.specs.declared.checking.JsonCode.TheVariants.{JSONParsingError, JSONTooDeep}
use Rattle.json_text.specs.declared.machine.Mode.TheVariants.{ValueDue}
use Rattle.json_text.specs.declared.node.Kind.{Kind}
use Rattle.json_text.specs.declared.node.Kind.TheVariants.{Number as NumberKind}
use Rattle.json_text.proofs.Classes.{class_nonzero}
use Rattle.json_text.proofs.Verdicts.{accepted_text, unfit_fault, deep_fault}
use Rattle.json_text.proofs.Trims.{text_node, text_stands}

-- the text that was read is the bytes
module _ (bytes text raw : List ℕ) (same : text ≡ bytes) (read : raw ≡ text) where
  at_bytes : verdict raw ValueDue [] 0 ≡ verdict bytes ValueDue [] 0
  at_bytes = ap (λ l. verdict l ValueDue [] 0) (read ∙ same)

  pub is_node : (token : List ℕ) → accepted ≡ verdict raw ValueDue [] 0 → token ≡ content (skip_blanks text) → ∥ IsNode token ∥₁
  is_node token v t = ∣ text_node bytes token (accepted_text bytes (sym (v ∙ at_bytes))) (t ∙ ap (λ l. content (skip_blanks l)) same) ∣₁

  pub stands : (token : List ℕ) → accepted ≡ verdict raw ValueDue [] 0 → token ≡ content (skip_blanks text) → StandsIn bytes token
  stands token v t = text_stands bytes token (accepted_text bytes (sym (v ∙ at_bytes))) (t ∙ ap (λ l. content (skip_blanks l)) same)

  pub parsing : (at : ℕ) → IsUtf8 text → unfit at ≡ verdict raw ValueDue [] 0 → IsFault bytes JSONParsingError at
  parsing at u v = (subst IsUtf8 same u, unfit_fault bytes at (sym (v ∙ at_bytes)))

  pub deep : (at : ℕ) → IsUtf8 text → too_deep at ≡ verdict raw ValueDue [] 0 → IsFault bytes JSONTooDeep at
  deep at u v = (subst IsUtf8 same u, deep_fault bytes at (sym (v ∙ at_bytes)))

-- ---- the first byte tells what a value is

number_kind : (n : Number) (rest : List ℕ) → IsNumber n → kind_at (print_number n rest) ≡ NumberKind
number_kind (unsigned zero_int f e) rest h = refl
number_kind (unsigned (nonzero_int d ds) f e) rest h = ap kind_by_class (class_nonzero d h.0.0)
number_kind (negative i f e) rest h = refl

print_kind : (v : Json) (rest : List ℕ) → IsValue levels 0 v → kind_at (print v rest) ≡ kind_of v
unfolding print IsValue
print_kind null rest h = refl
print_kind (truth true) rest h = refl
print_kind (truth false) rest h = refl
print_kind (number n) rest h = number_kind n rest h
print_kind (string raw) rest h = refl
print_kind (empty_array b) rest h = refl
print_kind (array x xs) rest h = refl
print_kind (empty_object b) rest h = refl
print_kind (object m ms) rest h = refl

pub kind_told : (bytes raw : List ℕ) (kind : Kind) → raw ≡ bytes → kind ≡ kind_at raw → (tree : Json) → Spells bytes tree → kind ≡ kind_of tree
kind_told bytes raw kind same is tree x = is ∙ ap kind_at (same ∙ x.spelled) ∙ print_kind tree [] x.valid
