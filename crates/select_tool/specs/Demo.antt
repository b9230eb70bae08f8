-- The summary of one query over a sample object, and over the object's seven tiles.
use Rattle.std.specs.Prelude.{◌≡◌, ℕ, suc, ◌*◌, ◌/◌, ◌&&◌, Bool, true, false, List, [], ◌∷◌, ◌++◌, length, map, codes, decimal, not, is_none, Option, if◌then◌else◌}
use Rattle.std.specs.Io.KnownBytes.{Appends}
use Rattle.select_ports.specs.Streams.{AppendsFront}
use Rattle.select_request.specs.Values.{allows_range}
use Rattle.select_request.specs.declared.request.ScanRange.{ScanRange}
use Rattle.select_reply.specs.Codes.{code_text}
use Rattle.select_reply.specs.declared.outcome.Outcome.{Outcome}
use Rattle.select_reply.specs.declared.outcome.Outcome.TheVariants.{Done, Faulted}
use Rattle.select_job.specs.declared.asked.Asked.{Asked}
use Rattle.select_job.specs.declared.asked.Asked.TheVariants.{Refused, Asks}
use Rattle.select_job.specs.Jobs.{Job}
use Rattle.select_job.specs.Prepared.{Prepares}
use Rattle.sample_objects.specs.Objects.{sample}
use Rattle.sample_objects.specs.declared.kind.SampleKind.TheVariants.{Csv}
use Rattle.select_tool.specs.Statuses.{line}
use Rattle.select_tool.specs.Words.{longest_record}
use Rattle.select_tool.specs.Replies.{reply_outcome}
use Rattle.select_tool.specs.Tiles.{tile_of, tile_ranges}
use Rattle.select_tool.specs.Whole.{has_totals, payload_of, payloads_of}

-- the body of the query
unfoldable pub demo_body : List ℕ
demo_body = codes "<SelectObjectContentRequest><Expression>SELECT s.id, s.price FROM S3Object s WHERE CAST(s.grp AS INT) &lt; 50 AND s.note LIKE 'n%'</Expression><ExpressionType>SQL</ExpressionType><InputSerialization><CSV><FileHeaderInfo>USE</FileHeaderInfo></CSV></InputSerialization><OutputSerialization><CSV/></OutputSerialization></SelectObjectContentRequest>"

-- the tiles are cut at each seventh of the object's size
abbrev pub seventh : ℕ → ℕ → ℕ
seventh size part = size * part / 7

unfoldable pub sevenths : ℕ → List ℕ
sevenths size = seventh size 1 ∷ seventh size 2 ∷ seventh size 3 ∷ seventh size 4 ∷ seventh size 5 ∷ seventh size 6 ∷ []

-- the bytes that a reply returned and those that it scanned, or its error
unfoldable pub tally : Outcome → List ℕ
tally (Done c) = decimal c.returned ++ codes " " ++ decimal c.scanned
tally (Faulted code at) = code_text code ++ codes " at " ++ decimal at

-- a line for each tile, with its number
abbrev pub tile_line : ℕ → Outcome → List ℕ
tile_line number ended = line (codes "tile " ++ decimal number ++ codes " " ++ tally ended)

unfoldable pub tile_lines : ℕ → List Outcome → List ℕ
tile_lines number [] = []
tile_lines number (ended ∷ more) = tile_line number ended ++ tile_lines (suc number) more

-- the reply to a tile of the sample object
abbrev pub tile_outcome : List ℕ → Job → ScanRange → Outcome
tile_outcome object job range = reply_outcome longest_record object (tile_of job range)

-- the replies to the tiles carry together what the reply to the whole carries
abbrev pub is_done : Outcome → Bool
is_done (Done c) = true
is_done (Faulted code at) = false

abbrev pub is_joined : Job → Outcome → Bool
is_joined job ended =
    allows_range job.request.input && is_none job.request.range && is_none job.query.limit && not (has_totals job.query.items) && is_done ended

unfoldable pub last_line : Bool → List ℕ
last_line joined = if joined then line (codes "joined yes") else []

-- the first lines: the object's size, and the whole
unfoldable pub first_lines : List ℕ → Outcome → List ℕ
first_lines object ended = line (codes "object " ++ decimal (length object)) ++ line (codes "whole " ++ tally ended)

-- the summary of a query over an object
abbrev pub query_summary : List ℕ → Job → List ℕ
query_summary object job =
    first_lines object (reply_outcome longest_record object (Asks job))
    ++ tile_lines 1 (map (tile_outcome object job) (tile_ranges 0 (sevenths (length object))))
    ++ last_line (is_joined job (reply_outcome longest_record object (Asks job)))

-- the summary of what a body asks of an object
abbrev pub summary : List ℕ → Asked → List ℕ
summary object (Refused code at) = first_lines object (Faulted code at)
summary object (Asks job) = query_summary object job

-- where the last line says so, the payloads of the replies to the tiles, joined, are that of the reply to the whole
abbrev pub Joins : List ℕ → Asked → Type 0
Joins object (Refused code at) = Unit {0}
Joins object (Asks job) = is_joined job (reply_outcome longest_record object (Asks job)) ≡ true
    → payloads_of longest_record object (map (tile_of job) (tile_ranges 0 (sevenths (length object)))) ≡ payload_of longest_record object (Asks job)

-- a text is the summary of the query over the sample object
pub record Summarizes (count : ℕ) (text : List ℕ) : Type 0 where
  pub asked : Asked
  pub prepared : Prepares demo_body asked
  pub joins : Joins (sample Csv count) asked
  pub is : text ≡ summary (sample Csv count) asked

-- the summary of the query over the sample object was written
pub record Demonstrates (count : ℕ) (before now : Option (List ℕ)) : Type 0 where
  pub asked : Asked
  pub prepared : Prepares demo_body asked
  pub joins : Joins (sample Csv count) asked
  pub written : Appends before now (summary (sample Csv count) asked)

-- a front of it was written
pub record DemonstratesInPart (count : ℕ) (before now : Option (List ℕ)) : Type 0 where
  pub asked : Asked
  pub prepared : Prepares demo_body asked
  pub written : AppendsFront before now (summary (sample Csv count) asked)
