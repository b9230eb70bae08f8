-- The classes of tokens, and a number for each.
use Rattle.std.specs.Prelude.{ℕ, Bool, ◌==◌, List, [], ◌∷◌}
use Rattle.sql_tokens.specs.declared.class.Class.{Class}
use Rattle.sql_tokens.specs.declared.class.Class.TheVariants.{Select, From, Where, Limit, As, And, Or, Not, In, Like, Escape, Between, Is, Null, Missing, True, False, Case, When, Then, Else, End, Cast, Leading, Trailing, Both, LeftParenthesis, RightParenthesis, Comma, Dot, LeftBracket, RightBracket, Star, Plus, Minus, Slash, Percent, Equal, NotEqual, Less, LessOrEqual, Greater, GreaterOrEqual, Semicolon, Text, WholeNumber, PointNumber, ExponentNumber, Name, NameCalled, QuotedName, QuotedNameCalled, S3Object, S3ObjectCalled, For, ForCalled, BoolType, BoolTypeCalled, IntType, IntTypeCalled, StringType, StringTypeCalled, TimestampType, TimestampTypeCalled, DecimalType, DecimalTypeCalled, Year, YearCalled, Month, MonthCalled, Day, DayCalled, Hour, HourCalled, Minute, MinuteCalled, Second, SecondCalled, TimezoneHour, TimezoneHourCalled, TimezoneMinute, TimezoneMinuteCalled, CountCalled, SumCalled, MinCalled, MaxCalled, AvgCalled, CoalesceCalled, NullifCalled, CharLengthCalled, LowerCalled, UpperCalled, SubstringCalled, TrimCalled, ExtractCalled, DateAddCalled, ToTimestampCalled, Unfit, NoToken}

-- its place among the classes
abbrev pub code : Class → ℕ
code Select = 0
code From = 1
code Where = 2
code Limit = 3
code As = 4
code And = 5
code Or = 6
code Not = 7
code In = 8
code Like = 9
code Escape = 10
code Between = 11
code Is = 12
code Null = 13
code Missing = 14
code True = 15
code False = 16
code Case = 17
code When = 18
code Then = 19
code Else = 20
code End = 21
code Cast = 22
code Leading = 23
code Trailing = 24
code Both = 25
code LeftParenthesis = 26
code RightParenthesis = 27
code Comma = 28
code Dot = 29
code LeftBracket = 30
code RightBracket = 31
code Star = 32
code Plus = 33
code Minus = 34
code Slash = 35
code Percent = 36
code Equal = 37
code NotEqual = 38
code Less = 39
code LessOrEqual = 40
code Greater = 41
code GreaterOrEqual = 42
code Semicolon = 43
code Text = 44
code WholeNumber = 45
code PointNumber = 46
code ExponentNumber = 47
code Name = 48
code NameCalled = 49
code QuotedName = 50
code QuotedNameCalled = 51
code S3Object = 52
code S3ObjectCalled = 53
code For = 54
code ForCalled = 55
code BoolType = 56
code BoolTypeCalled = 57
code IntType = 58
code IntTypeCalled = 59
code StringType = 60
code StringTypeCalled = 61
code TimestampType = 62
code TimestampTypeCalled = 63
code DecimalType = 64
code DecimalTypeCalled = 65
code Year = 66
code YearCalled = 67
code Month = 68
code MonthCalled = 69
code Day = 70
code DayCalled = 71
code Hour = 72
code HourCalled = 73
code Minute = 74
code MinuteCalled = 75
code Second = 76
code SecondCalled = 77
code TimezoneHour = 78
code TimezoneHourCalled = 79
code TimezoneMinute = 80
code TimezoneMinuteCalled = 81
code CountCalled = 82
code SumCalled = 83
code MinCalled = 84
code MaxCalled = 85
code AvgCalled = 86
code CoalesceCalled = 87
code NullifCalled = 88
code CharLengthCalled = 89
code LowerCalled = 90
code UpperCalled = 91
code SubstringCalled = 92
code TrimCalled = 93
code ExtractCalled = 94
code DateAddCalled = 95
code ToTimestampCalled = 96
code Unfit = 97
code NoToken = 98

-- the same class
unfoldable pub same_class : Class → Class → Bool
same_class a b = code a == code b

-- all classes, by their codes
abbrev pub all_classes : List Class
all_classes =
    Select ∷ From ∷ Where ∷ Limit ∷ As ∷ And ∷ Or ∷ Not ∷ In ∷ Like ∷ Escape ∷ Between ∷ Is ∷ Null ∷ Missing ∷ True ∷ False ∷ Case ∷ When ∷ Then ∷ Else ∷ End ∷ Cast ∷ Leading ∷ Trailing ∷ Both ∷ LeftParenthesis ∷ RightParenthesis ∷ Comma ∷ Dot ∷ LeftBracket ∷ RightBracket ∷ Star ∷ Plus ∷ Minus ∷ Slash ∷ Percent ∷ Equal ∷ NotEqual ∷ Less ∷ LessOrEqual ∷ Greater ∷ GreaterOrEqual ∷ Semicolon ∷ Text ∷ WholeNumber ∷ PointNumber ∷ ExponentNumber ∷ Name ∷ NameCalled ∷ QuotedName ∷ QuotedNameCalled ∷ S3Object ∷ S3ObjectCalled ∷ For ∷ ForCalled ∷ BoolType ∷ BoolTypeCalled ∷ IntType ∷ IntTypeCalled ∷ StringType ∷ StringTypeCalled ∷ TimestampType ∷ TimestampTypeCalled ∷ DecimalType ∷ DecimalTypeCalled ∷ Year ∷ YearCalled ∷ Month ∷ MonthCalled ∷ Day ∷ DayCalled ∷ Hour ∷ HourCalled ∷ Minute ∷ MinuteCalled ∷ Second ∷ SecondCalled ∷ TimezoneHour ∷ TimezoneHourCalled ∷ TimezoneMinute ∷ TimezoneMinuteCalled ∷ CountCalled ∷ SumCalled ∷ MinCalled ∷ MaxCalled ∷ AvgCalled ∷ CoalesceCalled ∷ NullifCalled ∷ CharLengthCalled ∷ LowerCalled ∷ UpperCalled ∷ SubstringCalled ∷ TrimCalled ∷ ExtractCalled ∷ DateAddCalled ∷ ToTimestampCalled ∷ Unfit ∷ NoToken ∷ []
