use Rattle.std.proofs.Common.{ap, length}
use Rattle.text_view.proofs.Cases.{brought, cased_length, pushed_utf8}
use Rattle.text_view.proofs.output.Buf.push_cased.Goals as goal

pub returns-in-Ok-clause-fits : goal.returns-in-Ok-clause-fits
returns-in-Ok-clause-fits c = rw (cased_length c.args.case c.args.text.now c.utf8.text, ← c.as_bytes.ensures.len) c.in-Ok.ensures.fits

pub returns-in-Ok-clause-ok : goal.returns-in-Ok-clause-ok
returns-in-Ok-clause-ok c =
    let pushed = rw c.as_bytes.ensures.value at c.in-Ok.ensures.ok in
    brought c.args.case c.args.self.now c.push.new.self c.set_case.new.self c.args.text.now _ c.utf8.text (ap length c.bytes-before.ensures.value) pushed c.set_case.ensures

pub returns-in-Ok-clause-utf8 : goal.returns-in-Ok-clause-utf8
returns-in-Ok-clause-utf8 c = λ h.
    let pushed = rw c.as_bytes.ensures.value at c.in-Ok.ensures.ok in
    let is = brought c.args.case c.args.self.now c.push.new.self c.set_case.new.self c.args.text.now _ c.utf8.text (ap length c.bytes-before.ensures.value) pushed c.set_case.ensures in
    rw is (pushed_utf8 c.args.case c.args.self.now.bytes c.args.text.now c.utf8.text h)

pub returns-in-Err-clause-fits : goal.returns-in-Err-clause-fits
returns-in-Err-clause-fits c = rw (cased_length c.args.case c.args.text.now c.utf8.text, ← c.as_bytes.ensures.len) c.in-Err.ensures.fits
