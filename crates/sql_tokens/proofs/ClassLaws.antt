-- What holds of all classes holds of each.
use Rattle.std.proofs.Common.{◌≡◌, ℕ, zero, suc, Bool, true, false, ◌&&◌, List, [], ◌∷◌, Some, slice_get, refl, sym, ap, ◌∙◌, eqb-true}
use Rattle.std.specs.List.{list_all}
use Rattle.sql_tokens.specs.declared.class.Class.{Class}
use Rattle.sql_tokens.specs.declared.class.Class.TheVariants.{Select, From, Where, Limit, As, And, Or, Not, In, Like, Escape, Between, Is, Null, Missing, True, False, Case, When, Then, Else, End, Cast, Leading, Trailing, Both, LeftParenthesis, RightParenthesis, Comma, Dot, LeftBracket, RightBracket, Star, Plus, Minus, Slash, Percent, Equal, NotEqual, Less, LessOrEqual, Greater, GreaterOrEqual, Semicolon, Text, WholeNumber, PointNumber, ExponentNumber, Name, NameCalled, QuotedName, QuotedNameCalled, S3Object, S3ObjectCalled, For, ForCalled, BoolType, BoolTypeCalled, IntType, IntTypeCalled, StringType, StringTypeCalled, TimestampType, TimestampTypeCalled, DecimalType, DecimalTypeCalled, Year, YearCalled, Month, MonthCalled, Day, DayCalled, Hour, HourCalled, Minute, MinuteCalled, Second, SecondCalled, TimezoneHour, TimezoneHourCalled, TimezoneMinute, TimezoneMinuteCalled, CountCalled, SumCalled, MinCalled, MaxCalled, AvgCalled, CoalesceCalled, NullifCalled, CharLengthCalled, LowerCalled, UpperCalled, SubstringCalled, TrimCalled, ExtractCalled, DateAddCalled, ToTimestampCalled, Unfit, NoToken}
use Rattle.sql_tokens.specs.Classes.{code, same_class, all_classes}

-- each class stands at its code
at_code : (c : Class) → slice_get all_classes (code c) ≡ Some c
at_code = elim [ Select ↦ refl | From ↦ refl | Where ↦ refl | Limit ↦ refl | As ↦ refl | And ↦ refl | Or ↦ refl | Not ↦ refl | In ↦ refl | Like ↦ refl | Escape ↦ refl | Between ↦ refl | Is ↦ refl | Null ↦ refl | Missing ↦ refl | True ↦ refl | False ↦ refl | Case ↦ refl | When ↦ refl | Then ↦ refl | Else ↦ refl | End ↦ refl | Cast ↦ refl | Leading ↦ refl | Trailing ↦ refl | Both ↦ refl | LeftParenthesis ↦ refl | RightParenthesis ↦ refl | Comma ↦ refl | Dot ↦ refl | LeftBracket ↦ refl | RightBracket ↦ refl | Star ↦ refl | Plus ↦ refl | Minus ↦ refl | Slash ↦ refl | Percent ↦ refl | Equal ↦ refl | NotEqual ↦ refl | Less ↦ refl | LessOrEqual ↦ refl | Greater ↦ refl | GreaterOrEqual ↦ refl | Semicolon ↦ refl | Text ↦ refl | WholeNumber ↦ refl | PointNumber ↦ refl | ExponentNumber ↦ refl | Name ↦ refl | NameCalled ↦ refl | QuotedName ↦ refl | QuotedNameCalled ↦ refl | S3Object ↦ refl | S3ObjectCalled ↦ refl | For ↦ refl | ForCalled ↦ refl | BoolType ↦ refl | BoolTypeCalled ↦ refl | IntType ↦ refl | IntTypeCalled ↦ refl | StringType ↦ refl | StringTypeCalled ↦ refl | TimestampType ↦ refl | TimestampTypeCalled ↦ refl | DecimalType ↦ refl | DecimalTypeCalled ↦ refl | Year ↦ refl | YearCalled ↦ refl | Month ↦ refl | MonthCalled ↦ refl | Day ↦ refl | DayCalled ↦ refl | Hour ↦ refl | HourCalled ↦ refl | Minute ↦ refl | MinuteCalled ↦ refl | Second ↦ refl | SecondCalled ↦ refl | TimezoneHour ↦ refl | TimezoneHourCalled ↦ refl | TimezoneMinute ↦ refl | TimezoneMinuteCalled ↦ refl | CountCalled ↦ refl | SumCalled ↦ refl | MinCalled ↦ refl | MaxCalled ↦ refl | AvgCalled ↦ refl | CoalesceCalled ↦ refl | NullifCalled ↦ refl | CharLengthCalled ↦ refl | LowerCalled ↦ refl | UpperCalled ↦ refl | SubstringCalled ↦ refl | TrimCalled ↦ refl | ExtractCalled ↦ refl | DateAddCalled ↦ refl | ToTimestampCalled ↦ refl | Unfit ↦ refl | NoToken ↦ refl ]

and_first : (a b : Bool) → (a && b) ≡ true → a ≡ true
and_first true b e = refl
and_first false b e = cc

and_second : (a b : Bool) → (a && b) ≡ true → b ≡ true
and_second true b e = e
and_second false b e = cc

among : (f : Class → Bool) (cs : List Class) (k : ℕ) (c : Class) → list_all f cs ≡ true → slice_get cs k ≡ Some c → f c ≡ true
among f [] k c h e = cc
among f (x ∷ cs) zero c h e = let p : x ≡ c = cc in ap f (sym p) ∙ and_first (f x) (list_all f cs) h
among f (x ∷ cs) (suc k) c h e = among f cs k c (and_second (f x) (list_all f cs) h) e

-- a test that all classes pass is passed by each
pub every : (f : Class → Bool) → list_all f all_classes ≡ true → (c : Class) → f c ≡ true
every f h c = among f all_classes (code c) c h (at_code c)

-- classes that are the same by their codes are equal
pub same_is : (a b : Class) → same_class a b ≡ true → a ≡ b
unfolding same_class
same_is a b e =
    let n = eqb-true (code a) (code b) e in
    let p : Some a ≡ Some b = sym (at_code a) ∙ (ap (slice_get all_classes) n ∙ at_code b) in cc
