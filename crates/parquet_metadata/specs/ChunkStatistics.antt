-- The statistics of a column chunk (Apache Parquet, struct Statistics): 3 null_count, 5 max_value and
-- 6 min_value. A negative count counts as absent.
use Rattle.std.specs.Prelude.{ℤ, pos, int_lt, if◌then◌else◌, Option, None, Some, Ok}
use Rattle.std.specs.Ordering.{int_eq}
use Rattle.thrift_compact.specs.declared.kinds.Kind.{Kind}
use Rattle.thrift_compact.specs.declared.kinds.Kind.TheVariants as kind
use Rattle.thrift_compact.specs.Trees.{Datum}
use Rattle.parquet_metadata.specs.declared.statistics.Statistics.{Statistics}
use Rattle.parquet_metadata.specs.Reads.{Read, unchanged, with_number, with_bytes, struct_of}

-- a count, unless it is negative
abbrev pub count_of : ℤ → Option ℤ
count_of z = if int_lt z (pos 0) then None else Some z

abbrev pub no_statistics : Statistics
no_statistics = record { nulls = None; most = None; least = None }

abbrev pub put_statistics : Statistics → ℤ → Kind → Datum → Read Statistics
put_statistics s number kind.I64 d =
    if int_eq number (pos 3) then with_number d (λ z. record s { nulls = count_of z })
    else unchanged s d
put_statistics s number kind.Binary d =
    if int_eq number (pos 5) then with_bytes d (λ list. record s { most = Some list })
    else if int_eq number (pos 6) then with_bytes d (λ list. record s { least = Some list })
    else unchanged s d
put_statistics s number _ d = unchanged s d

abbrev pub statistics_of : Datum → Read Statistics
statistics_of = struct_of put_statistics no_statistics (λ s _. Ok s)
