-- What MIN and MAX keep of values of one kind, all numbers, all texts, all timestamps or all truth values, whose order is total.
use Rattle.std.specs.Prelude.{◌≡◌, Bool, true, false, ◌||◌, ◌⊎◌, List, [], ◌∷◌, Ok}
use Rattle.std.specs.List.{list_all}
use Rattle.sql_value.specs.declared.value.Value.{Value}
use Rattle.sql_value.specs.declared.value.Value.TheVariants.{Bool as Truth, Int, Dec, Text, Stamp}
use Rattle.sql_value.specs.Compared.{order_of}
use Rattle.sql_totals.specs.declared.keeping.Extreme.{Extreme}
use Rattle.sql_totals.specs.Keeping.{precedes}

abbrev pub is_number : Value → Bool
is_number (Int n) = true
is_number (Dec d) = true
is_number _ = false

abbrev pub is_text : Value → Bool
is_text (Text t) = true
is_text _ = false

abbrev pub is_timestamp : Value → Bool
is_timestamp (Stamp s) = true
is_timestamp _ = false

abbrev pub is_truth : Value → Bool
is_truth (Truth b) = true
is_truth _ = false

abbrev pub are_of_one_kind : List Value → Bool
are_of_one_kind vs = list_all is_number vs || (list_all is_text vs || (list_all is_timestamp vs || list_all is_truth vs))

-- it is one of the values
abbrev pub IsAmong : Value → List Value → Type 0
IsAmong k [] = ⊥
IsAmong k (v ∷ vs) = (v ≡ k) ⊎ IsAmong k vs

-- none of the values precedes it
abbrev pub NonePrecedes : Extreme → Value → List Value → Type 0
NonePrecedes e k [] = Unit {0}
NonePrecedes e k (v ∷ vs) = (precedes e (order_of v k) ≡ Ok false) × NonePrecedes e k vs

pub record IsExtreme (e : Extreme) (k : Value) (vs : List Value) : Type 0 where
  pub among : IsAmong k vs
  pub none_before : NonePrecedes e k vs
