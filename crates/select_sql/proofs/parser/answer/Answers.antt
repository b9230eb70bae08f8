-- The answer is what the grammar says of the text.
use Rattle.std.proofs.Common.{◌≡◌, ◌≢◌, sym, ◌∙◌}
use Rattle.sql_tokens.specs.Cutting.{symbols_of}
use Rattle.grammar_rules.specs.Readers.{found, failed}
use Rattle.sql_grammar.specs.QueryReaders.{read_whole_query}
use Rattle.sql_leaves.specs.declared.stop.Stop.TheVariants as stop
use Rattle.sql_leaves.specs.Parsing.{fault_of}
use Rattle.select_sql.specs.Written.{written}
use Rattle.select_sql.proofs.AnswerSteps.{found_written, found_end, trailed, stopped_end, stopped_fault}
use Rattle.select_sql.proofs.parser.answer.Goals as goal

pub finished-requires : goal.finished-requires
finished-requires c =
    let r = c.requires.read in
    let h : read_whole_query 4096 (symbols_of c.args.text.now) ≡ found (written c.in-Ok.parts, r.0) c.args.tokens.now.symbols = rw c.in-Ok.is at r.1 in
    found_written c.args.text.now c.requires.cut (written c.in-Ok.parts) r.0 c.args.tokens.now.symbols h (sym c.is_at_end.ensures ∙ c.if-is_at_end.true)

pub place-requires : goal.place-requires
place-requires c =
    let r = c.requires.read in
    let h : read_whole_query 4096 (symbols_of c.args.text.now) ≡ found (written c.in-Ok.parts, r.0) c.args.tokens.now.symbols = rw c.in-Ok.is at r.1 in
    found_end c.args.text.now c.requires.cut (written c.in-Ok.parts) r.0 c.args.tokens.now.symbols h

pub stopped-requires : goal.stopped-requires
stopped-requires c =
    let r = c.requires.read in
    let reads : c.in-Err.reason ≢ stop.Memory → read_whole_query 4096 (symbols_of c.args.text.now) ≡ failed (fault_of c.in-Err.reason) c.args.tokens.now.symbols = rw c.in-Err.is at r.1 in
    stopped_end c.args.text.now c.requires.cut c.in-Err.reason c.args.tokens.now.symbols reads

pub returns-in-Err-clause-refused : goal.returns-in-Err-clause-refused
returns-in-Err-clause-refused c =
    let r = c.requires.read in
    let reads : c.in-Err.reason ≢ stop.Memory → read_whole_query 4096 (symbols_of c.args.text.now) ≡ failed (fault_of c.in-Err.reason) c.args.tokens.now.symbols = rw c.in-Err.is at r.1 in
    λ fault q. stopped_fault c.args.text.now c.requires.cut c.in-Err.reason c.args.tokens.now.symbols c.stopped.result fault reads c.stopped.ensures q

pub returns-else-is_at_end-clause-refused : goal.returns-else-is_at_end-clause-refused
returns-else-is_at_end-clause-refused c =
    let r = c.requires.read in
    let h : read_whole_query 4096 (symbols_of c.args.text.now) ≡ found (written c.in-Ok.parts, r.0) c.args.tokens.now.symbols = rw c.in-Ok.is at r.1 in
    λ fault q. trailed c.args.text.now c.requires.cut (written c.in-Ok.parts) r.0 c.args.tokens.now.symbols h (sym c.is_at_end.ensures ∙ c.if-is_at_end.false) c.refusal.result c.refused_code.result c.place.result fault c.refusal.ensures c.refused_code.ensures c.place.ensures q
