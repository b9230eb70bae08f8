use Rattle.std.proofs.Common.{◌≡◌, List, ℕ, ◌++◌, length, ◌∙◌, ap, arith, length-append}
use Rattle.std.proofs.lemmas.List.{with_items_is}
use Rattle.std.specs.Vec.{with_items}
use Rattle.text_view.proofs.Cases.{placed, map_length}
use Rattle.text_view.specs.Spelled.{cased}
use Rattle.text_view.proofs.output.Buf.set_case.Goals as goal

pub returns : goal.returns
returns c =
    let front : List ℕ = c.split_at_mut-text.result.0.now in
    let back : List ℕ = c.split_at_mut-text.result.1.now in
    let text : List ℕ = c.bring_to.new.text in
    let size : length (front ++ text) ≡ c.self.inside.bytes.len = omega (arith, length-append front text, ap length c.bring_to.ensures, map_length (cased c.args.case) back, length-append front back, ap length c.split_at_mut-text.ensures.value, ap length c.as_mut_slice.ensures.value, c.self.inside.bytes.ok.0) in
    let items : (with_items c.self.inside.bytes (front ++ text)).items ≡ front ++ text = with_items_is c.self.inside.bytes (front ++ text) size in
    (λ i. record { room = c.self.inside.room; bytes = items i })
    ∙ placed c.args.case c.args.self.now c.self.inside.room c.args.from c.self.inside.bytes.items c.as_mut_slice.result.now front back text
    c.self.view_is c.as_mut_slice.ensures.value c.split_at_mut-text.ensures.front c.split_at_mut-text.ensures.back c.bring_to.ensures
