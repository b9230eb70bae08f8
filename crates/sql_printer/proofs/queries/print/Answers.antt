-- What is said of the printed text holds of the text that is written.
use Rattle.std.proofs.Common.{◌≡◌, sym, subst}
use Rattle.std.proofs.lemmas.Result.{IfOk-weaker}
use Rattle.sql_printed.specs.Printed.{printed}
use Rattle.sql_printed.specs.Law.{SpellsAgain, ReadsBack}
use Rattle.sql_printer.proofs.queries.print.Goals as goal

pub returns-clause-spells : goal.returns-clause-spells
returns-clause-spells c =
    let q = c.args.query.now in
    IfOk-weaker c.text_of.result (λ t. t ≡ printed q) (λ t. SpellsAgain t q) (λ t is. subst (λ y. SpellsAgain y q) (sym is) (c.printed_queries_spell.ensures.spells q)) c.text_of.ensures

pub returns-clause-read_back : goal.returns-clause-read_back
returns-clause-read_back c =
    let q = c.args.query.now in
    IfOk-weaker c.text_of.result (λ t. t ≡ printed q) (λ t. ReadsBack t q) (λ t is. subst (λ y. ReadsBack y q) (sym is) (c.printed_queries_spell.ensures.read_back q)) c.text_of.ensures
