-- A place in a lent text: which characters are still to come.
use Rattle.std.specs.Prelude.{ℕ, ◌+◌, Bool, false, ◌==◌, ◌||◌, List, [], ◌∷◌, map, if◌then◌else◌}
use Rattle.std.specs.Str.{chars}
use Rattle.std.specs.Char.{to_ascii_uppercase, to_ascii_lowercase}
use Rattle.text_view.specs.declared.cursor.Escape.{Escape}
use Rattle.text_view.specs.declared.cursor.Escape.TheVariants.{Plain, Quoted, Json}
use Rattle.text_view.specs.declared.cursor.Case.{Case}
use Rattle.text_view.specs.declared.cursor.Case.TheVariants.{Kept, Upper, Lower}
use Rattle.text_view.specs.declared.cursor.Cursor.{Cursor}
use Rattle.text_view.specs.QuotedField.{unquoted}
use Rattle.text_view.specs.JsonString.{unescaped_text}

-- what the characters stand for
abbrev pub spelled : Escape → List ℕ → List ℕ
spelled Plain cs = cs
spelled (Quoted quote escape) cs = unquoted quote escape cs
spelled Json cs = unescaped_text cs

-- the characters in a letter case
abbrev pub cased : Case → ℕ → ℕ
cased Kept c = c
cased Upper c = to_ascii_uppercase c
cased Lower c = to_ascii_lowercase c

-- the characters of a text in that case
unfoldable pub shown : Case → List ℕ → List ℕ
shown letters cs = map (cased letters) cs

-- the characters that are still to come
abbrev pub seen : Cursor → List ℕ
seen c = shown c.case (spelled c.escape (chars c.rest.now))

-- The number of characters up to the last that fails the test, where `passed` characters were passed
-- and `kept` of them are kept.
abbrev pub kept_after : (ℕ → Bool) → ℕ → ℕ → List ℕ → ℕ
kept_after test kept passed [] = kept
kept_after test kept passed (c ∷ cs) =
    if test c then kept_after test kept (passed + 1) cs else kept_after test (passed + 1) (passed + 1) cs

-- the character may begin an escape or end the part that has escapes
abbrev pub special : Escape → ℕ → Bool
special Plain c = false
special (Quoted quote escape) c = c == quote || c == escape
special Json c = c == 92
