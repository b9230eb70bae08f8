-- What a stored file's footer has, by the tree of the footer's bytes, or the first check that the file fails.
use Rattle.std.specs.Prelude.{◌≡◌, ℕ, pos, ◌+◌, ◌<◌, ◌^◌, List, length, Result, Ok, Err}
use Rattle.thrift_compact.specs.declared.faults.ThriftFault.{ThriftFault}
use Rattle.thrift_compact.specs.Trees.{FieldList, AreFields}
use Rattle.parquet_metadata.specs.declared.faults.FooterError.{FooterError}
use Rattle.parquet_metadata.specs.declared.faults.FooterError.TheVariants.{Failed, OutOfMemory, BadFooter}
use Rattle.parquet_metadata.specs.declared.faults.ReadFault.{ReadFault}
use Rattle.parquet_metadata.specs.declared.faults.ReadFault.TheVariants as fault
use Rattle.parquet_metadata.specs.declared.metadata.FileMetaData.{FileMetaData}
use Rattle.parquet_metadata.specs.declared.file.PlacedMetadata.{PlacedMetadata}
use Rattle.parquet_metadata.specs.Reads.{Read}
use Rattle.parquet_metadata.specs.Layout.{located, footer_place}
use Rattle.parquet_metadata.specs.FileData.{metadata_of}

-- the fields are the tree of the footer's bytes, where the file has them
abbrev pub IsTreeOf : Result (List ℕ) FooterError → FieldList → Type 0
IsTreeOf (Ok bytes) fields = (answer : Result ℕ ThriftFault) × AreFields bytes 1 (pos 0) 0 fields answer
IsTreeOf (Err e) fields = Unit {0}

-- A fault's place is counted from the footer's front, and one in the file from the file's.
abbrev pub in_file : ℕ → Read FileMetaData → Result PlacedMetadata FooterError
in_file place (Ok metadata) = Ok (record { place = place; metadata = metadata })
in_file place (Err at) = Err (BadFooter (place + at))

abbrev pub file_by : List ℕ → Result (List ℕ) FooterError → FieldList → Result PlacedMetadata FooterError
file_by object (Ok bytes) fields =
    in_file (footer_place object (length bytes)) (metadata_of fields)
file_by object (Err e) fields = Err e

-- the error of a fault in the footer's bytes
abbrev pub error_at : ℕ → ReadFault → FooterError
error_at place fault.OutOfMemory = OutOfMemory
error_at place (fault.Faulty at) = BadFooter (place + at)

-- a fault's place in the file is a number of 64 bits
abbrev pub FitsBehind : ℕ → ReadFault → Type 0
FitsBehind place fault.OutOfMemory = Unit {0}
FitsBehind place (fault.Faulty at) = place + at < 2 ^ 64

-- what the file's footer has, by its tree
abbrev pub file_of : List ℕ → FieldList → Result PlacedMetadata FooterError
file_of object fields = file_by object (located object) fields

-- what reading it answers. A call that fails and want of memory may come at any time
abbrev pub GivesFile : Result PlacedMetadata FooterError → Result PlacedMetadata FooterError → Type 0
GivesFile file (Ok metadata) = file ≡ Ok metadata
GivesFile file (Err Failed) = Unit {0}
GivesFile file (Err OutOfMemory) = Unit {0}
GivesFile file (Err e) = file ≡ Err e

-- the file, if its footer has bytes, has a tree of them
pub record HasFileTree (object : List ℕ) : Type 0 where
  pub fields : FieldList
  pub is : IsTreeOf (located object) fields
