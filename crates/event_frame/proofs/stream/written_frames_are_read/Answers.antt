use Rattle.std.proofs.Common.{[], None, inl, arith}
use Rattle.event_frame.specs.Stream.{frames_of}
use Rattle.event_frame.proofs.Unique.{same_reading}
use Rattle.event_frame.proofs.Written.{written, spelled, counts_fit, counts_written}
use Rattle.event_frame.proofs.stream.written_frames_are_read.Goals as goal

pub returns-clause-frame : goal.returns-clause-frame
returns-clause-frame c = written

pub returns-clause-stream : goal.returns-clause-stream
returns-clause-stream c events fit = record { spelled = spelled events fit; ended = inl (omega arith) }

pub returns-clause-only : goal.returns-clause-only
returns-clause-only c events others rest fault fit reads =
    same_reading (frames_of events) [] rest events others None fault (spelled events fit) (inl (omega arith)) reads.spelled reads.ended

pub returns-clause-counts : goal.returns-clause-counts
returns-clause-counts c = counts_fit

pub returns-clause-counted : goal.returns-clause-counted
returns-clause-counted c = counts_written
