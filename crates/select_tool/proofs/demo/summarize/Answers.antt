use Rattle.std.proofs.Common.{◌≡◌, ◌≤◌, ◌∙◌, List, ℕ, length, sym, subst}
use Rattle.select_tool.specs.Demo.{Summarizes, summary}
use Rattle.select_tool.proofs.DemoLaws.{long_sample, summarized, if_ok}
use Rattle.select_tool.proofs.demo.summarize.Goals as goal

pub summary_of-requires : goal.summary_of-requires
summary_of-requires c = subst (λ (l : List ℕ). 7 ≤ length l) (sym (c.as_slice.ensures.value ∙ c.in_ok-object.ensures)) (long_sample c.args.count)

pub returns : goal.returns
returns c =
    if_ok c.summary_of.result (λ text. text.items ≡ summary c.as_slice.result.now c.in_ok-asked.asked) (λ text. Summarizes c.args.count text.items)
    (λ text is. summarized c.replies_make_the_whole.ensures c.args.count c.as_slice.result.now c.as_bytes.result.now c.in_ok-asked.asked
    (c.as_slice.ensures.value ∙ c.in_ok-object.ensures) (c.as_bytes.ensures.value ∙ c.demo_body.ensures) c.in_ok-asked.ensures text.items is)
    c.summary_of.ensures
