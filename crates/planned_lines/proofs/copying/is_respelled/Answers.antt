use Rattle.std.proofs.Common.{arith, sym, ◌∙◌}
use Rattle.std.proofs.lemmas.Bool.{ne_eqb}
use Rattle.std.specs.Str.{IsAscii}
use Rattle.planned_lines.specs.Copying.{respelled}
use Rattle.planned_lines.proofs.OwnRecords.{told_true}
use Rattle.planned_lines.proofs.copying.is_respelled.Goals as goal

pub returns : goal.returns
returns c = λ told. respelled (record {
  same = c.requires.same;
  apart = ne_eqb c.args.dialect.now.field c.args.dialect.now.quote c.if-dialect.false;
  unescaped = ne_eqb c.args.dialect.now.field c.args.dialect.now.escape c.if-dialect-2.false;
  quote = omega (arith, c.if-dialect-ge128.false);
  walked = sym c.comes_out.ensures ∙ told;
  ascii = told_true (IsAscii c.args.line.now) _ c.is_ascii.result c.is_ascii.ensures.cases c.if-not-is_ascii.false;
  short = omega (arith, c.requires.short);
})
