use Rattle.std.proofs.Common.{arith, ℕ, ◌≤◌, ◌-◌, ◌+◌, length, length-drop, length-take, ap}
use Rattle.std.proofs.lemmas.List.{drop_all}
use Rattle.select_ports.proofs.Told.{read-piece, none-left}
use Rattle.select_ports.proofs.memory_streams.MemSourceSource.read.Goals as goal

pub returns-clause-bytes : goal.returns-clause-bytes
returns-clause-bytes c =
    let within : c.portion-n.result ≤ length c.self.inside.bytes.items - c.self.inside.at = omega (arith, length-drop {A = ℕ}, c.min.ensures, c.portion-n.ensures.within) in (
      read-piece c.self.inside.bytes.items c.deref.result.now c.copy_front.new.to c.args.self.now.left c.self.inside.at c.portion-n.result
          c.deref.ensures.value (ap (λ s. s.left) c.self.view_is) within c.copy_front.ensures,
      (λ none some. drop_all (c.self.inside.at + c.portion-n.result) c.self.inside.bytes.items (omega (arith, length-drop {A = ℕ}, length-take {A = ℕ}, ap length c.deref.ensures.value, c.min.ensures, none-left c.portion-n.result c.min.result c.portion-n.ensures.some none))),
    )
