use Rattle.std.proofs.Common.{◌≡◌, length, drop}
use Rattle.select_tool.specs.Words.{cuts_above}
use Rattle.select_tool.proofs.WordLaws.{going_on}
use Rattle.select_tool.proofs.words.ascending.Given as goal

abbrev pub invariant-loop-word : goal.invariant-loop-word
invariant-loop-word l = record {
  count : length l.cuts.items ≡ l.word-index;
  so_far : cuts_above 0 l.words ≡ going_on l.cuts.items l.place (drop l.word-index l.words);
}
