use Rattle.std.proofs.Common.{◌≡◌, List, ℕ, ◌∙◌, ap, sym, is_eq}
use Rattle.std.proofs.lemmas.Map.Text.{is_eq-slice_cmp}
use Rattle.std.proofs.lemmas.Slice.Eq.{bytes_eq-Decides}
use Rattle.std.specs.Str.{bytes_eq}
use Rattle.text_view.specs.Spelled.{seen}
use Rattle.text_view.proofs.cursor.Cursor.same.Goals as goal

pub returns : goal.returns
returns c =
    let left : List ℕ = seen c.args.self in
    let right : List ℕ = seen c.args.other in
    let test : c.is_eq.result ≡ bytes_eq left right = c.is_eq.ensures ∙ ap is_eq c.compare.ensures ∙ is_eq-slice_cmp left right in
    (λ t. (bytes_eq-Decides left right).0 (sym test ∙ t), λ e. test ∙ (bytes_eq-Decides left right).1 e)
