use Rattle.std.proofs.Common.{◌^◌, ◌-◌, arith}
use Rattle.thrift_compact.specs.Varints.{varint_at}
use Rattle.thrift_compact.specs.Grammar.{SpellsVarint}
use Rattle.thrift_compact.proofs.VarintLaws.{varint_found, varint_only}
use Rattle.thrift_compact.proofs.Clauses.{found_by, refused_by}
use Rattle.thrift_compact.proofs.number.varint.Goals as goal

pub returns-clause-found : goal.returns-clause-found
returns-clause-found c =
    found_by c.varint_within.result (varint_at (2 ^ 64 - 1) c.args.bytes.now) (SpellsVarint (2 ^ 64 - 1)) c.args.bytes.now c.varint_within.ensures.exact (λ n k e. varint_found (2 ^ 64 - 1) c.args.bytes.now n k (λ i. omega (arith, c.type_inv.bytes i)) e)

pub returns-clause-refused : goal.returns-clause-refused
returns-clause-refused c =
    refused_by c.varint_within.result (varint_at (2 ^ 64 - 1)) (SpellsVarint (2 ^ 64 - 1)) c.args.bytes.now c.varint_within.ensures.exact (λ n text rest s. varint_only (2 ^ 64 - 1) n text rest s)
