use Rattle.std.proofs.Common.{arith}
use Rattle.std.specs.Str.{IsAscii}
use Rattle.planned_lines.specs.Copying.{bare}
use Rattle.planned_lines.proofs.OwnRecords.{told_true, none_marked}
use Rattle.planned_lines.proofs.copying.is_bare.Goals as goal

pub returns : goal.returns
returns c = λ told. bare (record {
  ascii = told_true (IsAscii c.args.line.now) _ c.is_ascii.result c.is_ascii.ensures.cases told;
  unmarked = none_marked c.args.dialect.now c.args.csv.now c.args.end c.args.line.now c.memchr3.result c.is_some.result c.requires c.is_some.ensures c.if-is_some.false c.memchr3.ensures;
  short = omega (arith, c.if-line-ge65536.false);
})
