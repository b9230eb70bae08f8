-- How a window keeps its bytes in its buffer.
use Rattle.std.specs.Prelude.{◌≡◌, ◌+◌, ◌-◌, ◌^◌, ◌<◌, ◌≤◌, false, slice_index, length, take, drop}
use Rattle.byte_masks.specs.Walks.{StandsAt}
use Rattle.line_window.specs.declared.window.Window.TheInside.{Inside}
use Rattle.line_window.specs.Spelled.{spelled}
use Rattle.line_window.specs.Sliding.{View, IsSound}

-- the buffer's first byte is the object's at `base`; the window's place is at index `from`, and it has read up to index `end`
abbrev pub view_of : Inside → View
view_of w = record {
  size = w.size;
  place = w.base + w.from;
  upto = w.base + w.end;
  kept = take (w.end - (w.from - length (spelled w.delimiter))) (drop (w.from - length (spelled w.delimiter)) w.buffer.items);
  stop = w.stop;
  longest = w.longest;
  delimiter = spelled w.delimiter;
  failed = w.failed;
}

-- the kept bytes lie within the buffer, whose length is set by the record limit; an index below `bound` is one that was read, of a
-- place in the range, in a window that works; the walk over the delimiter's first byte stands at index `walked` of what was read
pub record IsBuffered (w : Inside) : Type 0 where
  pub within : w.end ≤ length w.buffer.items
  pub room : length w.buffer.items ≡ w.longest + 131074
  pub behind : w.from ≤ w.end + length (spelled w.delimiter)
  pub front : w.from < length (spelled w.delimiter) → w.base ≡ 0
  pub bound : w.bound ≤ w.end
  pub range : 0 < w.bound → w.base + w.bound ≤ w.stop
  pub works : 0 < w.bound → w.failed ≡ false
  pub fits : w.size < 2 ^ 64
  pub byte : w.ends.byte ≡ slice_index (spelled w.delimiter) 0
  pub walk : StandsAt w.ends (take w.end w.buffer.items) w.walked
  pub sound : IsSound (view_of w)
