use Rattle.std.proofs.Common.{◌≡◌, ◌∙◌, length-append, ap, subst, arith, ◌++◌, length, refl}
use Rattle.std.proofs.Math.Seq.{take-length}
use Rattle.std.specs.Str.{IsCharBoundary}
use Rattle.text_view.specs.Room.{Room}
use Rattle.json_text.specs.Skipped.{outside}
use Rattle.json_text.specs.Compact.{squeezed}
use Rattle.json_text.proofs.Squeezing.{written_more, piece_fits, kept_more, all_written, written_fits, blanks_boundary}
use Rattle.json_text.proofs.compact.write_squeezed.Goals as goal

pub runs-init : goal.runs-init
runs-init c = record {
  same = ap (λ l. c.args.out.now.bytes ++ squeezed outside l) c.as_bytes-bytes.ensures.value;
  room = refl;
  fits = omega (arith, c.bytes-room.ensures.fits, ap length c.bytes-room.ensures.value);
  kept = take-length c.args.out.now.bytes;
  longer = omega arith;
  begins = λ h. absurd (omega arith);
  within = omega arith;
  utf8 = λ u. u;
}

pub runs-preserved : goal.runs-preserved
runs-preserved c =
    let room : c.push_str.new.self.room ≡ c.runs.out.room = ap (λ (r : Room). r.room) c.in-Ok.ensures.ok in
    let bytes : c.push_str.new.self.bytes ≡ c.runs.out.bytes ++ c.range.result.now = ap (λ (r : Room). r.bytes) c.in-Ok.ensures.ok in
    record {
      same = written_more c.args.out.now.bytes c.runs.out.bytes c.range.result.now c.args.text.now c.as_bytes-bytes.result.now c.runs.from c.run_end-end.result c.as_bytes-bytes.ensures.value
          c.range.ensures.value c.run_end-end.ensures.value c.runs.invariant.same c.push_str.new.self.bytes c.blanks_end-from.result bytes c.blanks_end-from.ensures.value;
      room = room ∙ c.runs.invariant.room;
      fits = omega (arith, room, ap length bytes, length-append c.runs.out.bytes c.range.result.now, c.in-Ok.ensures.fits.0 refl);
      kept = kept_more (length c.args.out.now.bytes) c.args.out.now.bytes c.runs.out.bytes c.range.result.now c.push_str.new.self.bytes bytes c.runs.invariant.kept c.runs.invariant.longer;
      longer = omega (arith, c.runs.invariant.longer, ap length bytes, length-append c.runs.out.bytes c.range.result.now);
      begins = λ h. subst (λ s. IsCharBoundary s c.blanks_end-from.result) c.as_bytes-bytes.ensures.value
          (blanks_boundary c.as_bytes-bytes.result.now c.run_end-end.result c.blanks_end-from.result c.as_bytes-bytes.ensures.utf8 c.run_end-end.ensures.within c.blanks_end-from.ensures.within
          c.blanks_end-from.ensures.count c.run_end-end.ensures.blank);
      within = c.blanks_end-from.ensures.within;
      utf8 = λ u. c.in-Ok.ensures.utf8 (c.runs.invariant.utf8 u);
    }

pub returns-in-Err-clause-fits : goal.returns-in-Err-clause-fits
returns-in-Err-clause-fits c = (
  λ e. absurd (cc),
  λ h. c.in-Err.ensures.fits.1
      (piece_fits c.args.out.now.bytes c.runs.out.bytes c.range.result.now c.args.text.now c.as_bytes-bytes.result.now c.runs.from c.run_end-end.result c.as_bytes-bytes.ensures.value
      c.range.ensures.value c.run_end-end.ensures.value c.runs.invariant.same c.runs.out.room (omega (arith, c.runs.invariant.room, h))),
)

pub returns-clause-fits : goal.returns-clause-fits
returns-clause-fits c = (
  λ e. omega (
    arith,
    c.runs.invariant.room,
    written_fits c.args.out.now.bytes c.runs.out.bytes (squeezed outside c.args.text.now) c.runs.out.room
        (all_written c.args.out.now.bytes c.runs.out.bytes c.args.text.now c.as_bytes-bytes.result.now c.runs.from (omega arith) c.runs.invariant.same) c.runs.invariant.fits,
  ),
  λ h. refl,
)
