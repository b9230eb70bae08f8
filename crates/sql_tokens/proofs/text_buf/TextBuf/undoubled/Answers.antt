-- One more quote is copied, or none is left.
use Rattle.std.proofs.Common.{◌∙◌, sym, rules}
use Rattle.std.specs.Prelude.{string_bytes}
use Rattle.sql_tokens.proofs.UndoubledLaws.{undoubled_step, undoubled_ends}
use Rattle.sql_tokens.proofs.text_buf.TextBuf.undoubled.Goals as goal

pub quotes-preserved : goal.quotes-preserved
quotes-preserved c =
    let found = rw c.as_bytes-in-quotes.ensures.value at c.in-Some.ensures in
    record {
      text = search rules;
      copied =
          rw (c.in_ok-push_str.ensures.bytes, c.split_run.ensures.front, c.behind_quote-left.ensures, c.split_run.ensures.back)
          (c.quotes.invariant.copied ∙ undoubled_step c.args.quote c.in-Some.at (string_bytes c.quotes.text) c.quotes.left.now found);
    }

pub returns : goal.returns
returns c =
    let none = rw c.as_bytes-in-quotes.ensures.value at c.in_default.ensures in
    rw c.in_ok-push_str-2.ensures.bytes
    (sym (c.quotes.invariant.copied ∙ undoubled_ends c.args.quote (string_bytes c.quotes.text) c.quotes.left.now none))
