use Rattle.std.proofs.Common.{◌≡◌, ◌∙◌, ◌+◌, true, false, length, ap, sym, subst}
use Rattle.std.specs.Prelude.{max}
use Rattle.std.specs.Option.{option_map}
use Rattle.std.proofs.Math.Facts.{to_z-of_z}
use Rattle.parquet_delta.specs.Arrays.{may_join, size_of}
use Rattle.parquet_delta.proofs.Joins.{goes_on, stops_there, stops_short, ends}
use Rattle.parquet_delta.proofs.fronts.longest.Goals as goal

pub returns-in_default-next : goal.returns-in_default-next
returns-in_default-next c =
    sym (ap (option_map (max c.loop-prefix.longest))
    (stops_short c.loop-prefix.before _ _ _ c.in-Some.prefix c.in-Some.ensures.value c.in_default-next.ensures.0))
    ∙ c.loop-prefix.invariant.longest

pub returns-in_default-joined_len : goal.returns-in_default-joined_len
returns-in_default-joined_len c =
    let may = subst (λ z. may_join z c.loop-prefix.before (length c.in-Some-next.suffix.now) ≡ false) (to_z-of_z c.in-Some.ensures.range)
    c.in_default-joined_len.ensures in
    sym (ap (option_map (max c.loop-prefix.longest))
    (stops_there c.loop-prefix.before _ _ _ _ c.in-Some.prefix c.in-Some-next.suffix.now c.in-Some.ensures.value c.in-Some-next.ensures may))
    ∙ c.loop-prefix.invariant.longest

pub loop-prefix-preserved : goal.loop-prefix-preserved
loop-prefix-preserved c =
    let prefix = to_z-of_z c.in-Some.ensures.range in
    let may = subst (λ z. may_join z c.loop-prefix.before (length c.in-Some-next.suffix.now) ≡ true) prefix c.in-Some-joined_len.ensures.0 in
    let len = c.in-Some-joined_len.ensures.1 ∙ ap (λ z. size_of z + length c.in-Some-next.suffix.now) prefix in
    record {
      longest = rw c.larger-longest.ensures
          (sym (goes_on c.loop-prefix.before c.loop-prefix.longest c.in-Some-joined_len.len _ _ _ _ c.in-Some.prefix c.in-Some-next.suffix.now
          c.in-Some.ensures.value c.in-Some-next.ensures may len)
          ∙ c.loop-prefix.invariant.longest);
      before = c.in-Some-joined_len.ensures.2;
    }

pub returns : goal.returns
returns c =
    sym (ends c.loop-prefix.before c.loop-prefix.longest _ _ c.in_default.ensures.value.0) ∙ c.loop-prefix.invariant.longest
