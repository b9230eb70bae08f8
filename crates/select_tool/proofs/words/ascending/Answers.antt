use Rattle.std.proofs.Common.{◌≡◌, None, sym, ap, ◌∙◌}
use Rattle.std.specs.String.{string_bytes}
use Rattle.select_tool.specs.Words.{above, number_of}
use Rattle.select_tool.proofs.WordLaws.{no_cut, cuts_end}
use Rattle.select_tool.proofs.words.ascending.Goals as goal

pub returns-in-None : goal.returns-in-None
returns-in-None c =
    let word = c.word-item.result in
    let none : above c.loop-word.place (number_of (string_bytes word)) ≡ None =
    sym (ap (above c.loop-word.place) (c.number.ensures ∙ ap number_of c.as_str.ensures.value)) ∙ sym c.above.ensures ∙ c.in-None.is in
    sym (no_cut c.args.words.now word c.loop-word.word-index c.loop-word.cuts.items c.loop-word.place c.loop-word-test.true c.word-item.is none
    c.loop-word.invariant.so_far)

pub returns : goal.returns
returns c =
    sym (cuts_end c.args.words.now c.loop-word.word-index c.loop-word.cuts.items c.loop-word.place c.loop-word-test.false c.loop-word.invariant.so_far)
