-- The text in a room.
use Rattle.std.specs.Prelude.{◌≡◌, ℕ, Bool, true, false, List}
use Rattle.std.specs.Str.{chars, IsUtf8}
use Rattle.text_view.specs.Room.{Room}

abbrev pub room_text : Room → List ℕ
room_text r = chars r.bytes

pub record IsRoom (r : Room) : Type 0 where
  pub room : r.room ≡ 4096
  pub utf8 : IsUtf8 r.bytes

-- the text stands in the room, where it was put there
abbrev pub IsPut : Bool → List ℕ → List ℕ → Type 0
IsPut true room text = room ≡ text
IsPut false room text = Unit {0}
