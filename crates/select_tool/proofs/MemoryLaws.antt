-- The command `select NAME` over a store that holds the one object of that name.
use Rattle.std.proofs.Common.{◌≡◌, ℕ, ◌<◌, Bool, List, [], ◌∷◌, Option, None, Some, String, refl, ap, ◌∙◌, subst}
use Rattle.std.specs.Prelude.{codes, if◌then◌else◌, IfSome}
use Rattle.std.specs.String.{string_bytes}
use Rattle.std.specs.declared.alloc.Global.{Global}
use Rattle.event_frame.proofs.HeaderList.{bytes_eq-same}
use Rattle.select_ports.specs.Stored.{Objects}
use Rattle.lent_ports.specs.Lent.{only}
use Rattle.select_tool.specs.Commands.{Answers}
use Rattle.select_tool.specs.Seen.{Outside}
use Rattle.select_tool.specs.Words.{Order, selects, ordered, about, longest_record}
use Rattle.select_tool.specs.Replies.{IfTold, IsReplied, IsReplyInMemory}

ordered_select : (verb word : String Global) → string_bytes verb ≡ codes "select" → ordered (verb ∷ word ∷ []) ≡ Some (selects longest_record (string_bytes word))
unfolding ordered about
ordered_select verb word is = rw is refl

held_is : (name object : List ℕ) → only name object name ≡ Some object
held_is name object = ap (λ (b : Bool). if b then Some object else None) (bytes_eq-same name)

replied_is : (object body reply : List ℕ) (status : ℕ) → IsReplied longest_record object body status (Some []) (Some reply) → IsReplyInMemory object body reply
replied_is object body reply status told = record { asked = told.replied.asked; prepared = told.replied.prepared; is = told.replied.written }

told_is : (P : List ℕ → List ℕ → Type 0) (name object body : List ℕ) → IfTold (Some (only name object)) (Some body) name P → P object body
told_is P name object body told = subst (λ (o : Option (List ℕ)). IfSome o (λ x. P x body)) (held_is name object) told

pub in_memory : (words : List (String Global)) (status : ℕ) (before now : Outside) → Answers (ordered words) status before now
    → (verb word : String Global) (name object body reply : List ℕ) → words ≡ verb ∷ word ∷ []
    → string_bytes verb ≡ codes "select" → string_bytes word ≡ name → status < 2
    → before.store.held ≡ Some (only name object) → before.input.left ≡ Some body → before.out.written ≡ Some [] → now.out.written ≡ Some reply
    → IsReplyInMemory object body reply
in_memory words status before now answers verb word name object body reply are is named done held left empty full =
    let P : List ℕ → List ℕ → Type 0 = λ o b. IsReplied longest_record o b status before.out.written now.out.written in
    let selected = subst (λ (o : Option Order). Answers o status before now) (ap ordered are ∙ ordered_select verb word is) answers in
    let by_name = subst (λ (n : List ℕ). IfTold before.store.held before.input.left n P) named (selected.reply done) in
    let by_store = subst (λ (h : Option Objects). IfTold h before.input.left name P) held by_name in
    let by_input = subst (λ (l : Option (List ℕ)). IfTold (Some (only name object)) l name P) left by_store in
    let replied = told_is P name object body by_input in
    let begun = subst (λ (w : Option (List ℕ)). IsReplied longest_record object body status w now.out.written) empty replied in
    replied_is object body reply status (subst (λ (w : Option (List ℕ)). IsReplied longest_record object body status (Some []) w) full begun)
