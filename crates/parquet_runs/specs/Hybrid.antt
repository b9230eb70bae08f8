-- The hybrid of run lengths and packed bits (Apache Parquet format, "Run Length Encoding / Bit-Packing Hybrid"): runs, each with
-- a varint before it whose lowest bit tells its form. An even one, twice the copies, stands before one number in as few bytes as
-- its width needs. An odd one, twice the groups of eight and one, stands before numbers that are packed from the lowest bit on.
-- Numbers of a run past those that are wanted are padding.
use Rattle.std.specs.Prelude.{ℕ, zero, suc, ◌+◌, ◌-◌, ◌*◌, ◌/◌, ◌%◌, ◌^◌, min, nat_le, Bool, true, false, ◌==◌, if◌then◌else◌, List, [], ◌∷◌, ◌++◌, length, drop, replicate, Option, None, Some, Result, Ok, Err}
use Rattle.packed_bits.specs.Packed.{little, unpacked}
use Rattle.thrift_compact.specs.declared.faults.ThriftFault.{ThriftFault}
use Rattle.thrift_compact.specs.Varints.{varint_at}
use Rattle.parquet_runs.specs.declared.run.Run.{Run}

-- in how many bytes a number of this width stands
abbrev pub byte_width : ℕ → ℕ
byte_width width = (width + 7) / 8

-- a run of copies, and one of packed numbers, behind a header of so many bytes, where so many numbers are wanted
abbrev pub copies_at : ℕ → ℕ → ℕ → ℕ → List ℕ → Option Run
copies_at left head copies width bytes =
    if nat_le (byte_width width) (length bytes - head)
    then Some (record {
      count = min left copies;
      number = little (drop head bytes) % 2 ^ (8 * byte_width width);
      width = 0;
      start = head;
      size = head + byte_width width;
    })
    else None

abbrev pub packed_at : ℕ → ℕ → ℕ → ℕ → List ℕ → Option Run
packed_at left head groups width bytes =
    if nat_le (groups * width) (length bytes - head)
    then Some (record { count = min left (groups * 8); number = 0; width = width; start = head; size = head + groups * width })
    else None

abbrev pub run_behind : ℕ → ℕ → List ℕ → Result (ℕ × ℕ) ThriftFault → Option Run
run_behind left width bytes (Ok header) =
    if header.0 % 2 == 0
    then copies_at left header.1 (header.0 / 2) width bytes
    else packed_at left header.1 (header.0 / 2) width bytes
run_behind left width bytes (Err f) = None

-- the run at the front of the bytes, where all its bytes are there
unfoldable pub run_at : ℕ → ℕ → List ℕ → Option Run
run_at left width bytes = run_behind left width bytes (varint_at (2 ^ 64 - 1) bytes)

-- so many numbers of a run: copies, which have the width 0, or the next ones of some bits
abbrev pub run_numbers : ℕ → ℕ → ℕ → ℕ → List ℕ
run_numbers count number zero bits = replicate count number
run_numbers count number (suc width) bits = unpacked (suc width) count bits

-- the numbers of runs of this width, so many, behind so many bytes that are passed over
abbrev pub behind_run : Option Run → List ℕ → (Run → List ℕ) → List ℕ
behind_run None bytes more = []
behind_run (Some run) bytes more = run_numbers run.count run.number run.width (little (drop run.start bytes)) ++ more run

unfoldable pub numbers : ℕ → ℕ → ℕ → List ℕ → List ℕ
numbers width zero skip bytes = []
numbers width (suc left) skip [] = []
numbers width (suc left) (suc skip) (b ∷ bytes) = numbers width (suc left) skip bytes
numbers width (suc left) zero (b ∷ bytes) = behind_run
    (run_at (suc left) width (b ∷ bytes))
    (b ∷ bytes)
    (λ run. numbers width (suc left - run.count) (run.size - 1) bytes)

-- the runs that hold them are all there
abbrev pub there_behind : Option Run → (Run → Bool) → Bool
there_behind None more = false
there_behind (Some run) more = more run

unfoldable pub are_there : ℕ → ℕ → ℕ → List ℕ → Bool
are_there width zero skip bytes = true
are_there width (suc left) skip [] = false
are_there width (suc left) (suc skip) (b ∷ bytes) = are_there width (suc left) skip bytes
are_there width (suc left) zero (b ∷ bytes) =
    there_behind (run_at (suc left) width (b ∷ bytes)) (λ run. are_there width (suc left - run.count) (run.size - 1) bytes)

-- so many numbers of this width at the front of the bytes, where the runs that hold them are there
unfoldable pub numbers_at : ℕ → ℕ → List ℕ → Option (List ℕ)
numbers_at width count bytes = if are_there width count 0 bytes then Some (numbers width count 0 bytes) else None

-- how many of so many copies of a number, and of numbers, aren't below a least one
abbrev pub copies_from : ℕ → ℕ → ℕ → ℕ
copies_from number copies least = if nat_le least number then copies else 0

unfoldable pub count_from : ℕ → List ℕ → ℕ
count_from least [] = 0
count_from least (n ∷ numbers) = copies_from n 1 least + count_from least numbers
