use Rattle.std.proofs.Common.{sym, ◌∙◌}
use Rattle.select_ports.proofs.Firsts.{found_first}
use Rattle.select_ports.proofs.memory_store.place_of.Goals as goal

pub returns-then-is_named : goal.returns-then-is_named
returns-then-is_named c =
    found_first c.args.objects.now c.args.name.now c.loop-i.i c.index-objects-i.result c.loop-i-test.true c.index-objects-i.is
    c.loop-i.invariant (sym c.is_named.ensures ∙ c.if-is_named.true)
