-- What was written, then the text of what is left, is the text of all.
use Rattle.std.specs.Prelude.{◌≡◌, ◌++◌, drop, map}
use denote.Text.{Utf8}
use denote.Shadow.{shadow}
use Rattle.grammar_rules.specs.Spelled.{print_all}
use Rattle.sql_printed.specs.Shown.{at, joined, joined_from, shown, shown_sum_part, shown_prod_part, shown_arm}
use Rattle.sql_printer.proofs.writer.Writer.+expression.Given as goal

abbrev pub invariant-arms-arms : goal.invariant-arms-arms
invariant-arms-arms l = l.self ++ print_all (λ t. t) (map shown_arm (drop l.arm-index l.arms)) ≡ l.fn.self ++ print_all (λ t. t) (map shown_arm l.arms)

abbrev pub invariant-members-members : goal.invariant-members-members
invariant-members-members l = record {
  text : shadow (Utf8 l.front);
  written : l.self ++ joined_from l.front l.separator (map (at l.height) (map shown (drop l.member-index l.members))) ≡ l.fn.self ++ joined l.separator (map (at l.height) (map shown l.members));
}

abbrev pub invariant-prod_parts-parts : goal.invariant-prod_parts-parts
invariant-prod_parts-parts l = l.self ++ print_all (λ t. t) (map shown_prod_part (drop l.part-index l.parts)) ≡ l.fn.self ++ print_all (λ t. t) (map shown_prod_part l.parts)

abbrev pub invariant-sum_parts-parts : goal.invariant-sum_parts-parts
invariant-sum_parts-parts l = l.self ++ print_all (λ t. t) (map shown_sum_part (drop l.part-index l.parts)) ≡ l.fn.self ++ print_all (λ t. t) (map shown_sum_part l.parts)
