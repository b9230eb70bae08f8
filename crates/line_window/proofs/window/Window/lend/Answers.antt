use Rattle.std.proofs.Common.{◌≡◌, ◌+◌, ◌==◌, take, refl, sym, ap, ◌∙◌, subst, arith}
use Rattle.std.specs.Prelude.{if◌then◌else◌}
use Rattle.line_window.specs.Spelled.{spelled}
use Rattle.line_window.specs.Buffered.{view_of}
use Rattle.line_window.specs.Cuts.{cut_at, without_mark}
use Rattle.line_window.specs.Sliding.{ahead}
use Rattle.line_window.specs.Answers.{IsLent}
use Rattle.line_window.proofs.KeptLaws.{ahead_len}
use Rattle.line_window.proofs.InsideLaws.{moves_to, line_slice}
use Rattle.line_window.proofs.LineLaws.{fits, leaves, too_long, lent_is, lent_most}
use Rattle.line_window.proofs.window.Window.lend.Goals as goal

pub returns-then-len-self : goal.returns-then-len-self
returns-then-len-self c =
    let w = c.self.inside in
    let i = c.self.invariant in
    let b = c.args.body in
    let near = rw (← c.self.view_is) at c.requires.near in
    let is_body = rw (← c.self.view_is) at c.requires.body in
    let room = fits (view_of w) b i.sound is_body in
    let len = ahead_len (view_of w) i.sound in
    let read = near.read in
    let moved = moves_to w (w.from + b.len + b.behind) i (omega arith) (omega arith) in
    let place : w.base + (w.from + b.len + b.behind) ≡ w.base + w.from + (b.len + b.behind) = omega arith in
    rw (← c.self.view_is) (
      (
        refl,
        λ _. tt,
        leaves (view_of w) _ b _ i.sound (record { size = refl; stop = refl; longest = refl; delimiter = refl }) refl refl place moved.place moved.kept near is_body,
      ),
      record {
        after = tt;
        line = λ object h. (refl, too_long object (view_of w) b i.sound h near is_body c.if-len-self.true);
        some = tt;
        within = tt;
      },
    )

pub returns : goal.returns
returns c =
    let w = c.self.inside in
    let i = c.self.invariant in
    let b = c.args.body in
    let near = rw (← c.self.view_is) at c.requires.near in
    let is_body = rw (← c.self.view_is) at c.requires.body in
    let room = fits (view_of w) b i.sound is_body in
    let len = ahead_len (view_of w) i.sound in
    let read = near.read in
    let moved = moves_to w (w.from + b.len + b.behind) i (omega arith) (omega arith) in
    let place : w.base + (w.from + b.len + b.behind) ≡ w.base + w.from + (b.len + b.behind) = omega arith in
    let slice = line_slice w c.deref.result.now b.len (w.from + b.len) i c.deref.ensures.value (omega arith) refl (omega arith) in
    let bytes : c.content-bytes.result.now ≡ (if w.base + w.from == 0 then without_mark (take b.len (ahead (view_of w))) else take b.len (ahead (view_of w))) =
    c.content-bytes.ensures ∙ ap (λ l. if w.base + w.from == 0 then without_mark l else l) slice in
    rw (← c.self.view_is) (
      (
        refl,
        λ _. tt,
        leaves (view_of w) _ b _ i.sound (record { size = refl; stop = refl; longest = refl; delimiter = refl }) refl refl place moved.place moved.kept near is_body,
      ),
      record {
        after = tt;
        line = λ object h. (
          refl,
          subst (λ l. IsLent w.longest (cut_at (spelled w.delimiter) object (w.base + w.from)) l (b.len + b.behind)) (sym bytes)
              (lent_is object (view_of w) b i.sound h near is_body c.if-len-self.false),
        );
        some = tt;
        within = lent_most (w.base + w.from) b.len w.longest (ahead (view_of w)) c.content-bytes.result.now bytes (omega (arith, c.if-len-self.false));
      },
    )
