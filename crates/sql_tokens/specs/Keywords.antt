-- The keywords of a query, in any ASCII case, and the class of a word.
use Rattle.std.specs.Prelude.{Bool, ℕ, List, [], ◌∷◌, ◌==◌, length, codes, if◌then◌else◌}
use Rattle.std.specs.Str.{str_eq_ignore_ascii_case}
use Rattle.sql_tokens.specs.declared.class.Class.{Class}
use Rattle.sql_tokens.specs.declared.class.Class.TheVariants.{Select, From, Where, Limit, As, And, Or, Not, In, Like, Escape, Between, Is, Null, Missing, True, False, Case, When, Then, Else, End, Cast, Leading, Trailing, Both, Name, NameCalled, S3Object, S3ObjectCalled, For, ForCalled, BoolType, BoolTypeCalled, IntType, IntTypeCalled, StringType, StringTypeCalled, TimestampType, TimestampTypeCalled, DecimalType, DecimalTypeCalled, Year, YearCalled, Month, MonthCalled, Day, DayCalled, Hour, HourCalled, Minute, MinuteCalled, Second, SecondCalled, TimezoneHour, TimezoneHourCalled, TimezoneMinute, TimezoneMinuteCalled, CountCalled, SumCalled, MinCalled, MaxCalled, AvgCalled, CoalesceCalled, NullifCalled, CharLengthCalled, LowerCalled, UpperCalled, SubstringCalled, TrimCalled, ExtractCalled, DateAddCalled, ToTimestampCalled}

-- a keyword with its class, and its class where `(` stands behind it
pub record Keyword : Type 0 where
  pub word : List ℕ
  pub plain : Class
  pub called : Class

-- a keyword that is one wherever it stands
abbrev pub always : List ℕ → Class → Keyword
always w c = record { word = w; plain = c; called = c }

-- a keyword that is also a name
abbrev pub at_times : List ℕ → Class → Class → Keyword
at_times w plain called = record { word = w; plain = plain; called = called }

-- a function or an aggregate: a name like any other where no `(` stands behind it
abbrev pub only_called : List ℕ → Class → Keyword
only_called w called = record { word = w; plain = Name; called = called }

abbrev pub keywords : List Keyword
keywords =
    always (codes "SELECT") Select ∷
    always (codes "FROM") From ∷
    always (codes "WHERE") Where ∷
    always (codes "LIMIT") Limit ∷
    always (codes "AS") As ∷
    always (codes "AND") And ∷
    always (codes "OR") Or ∷
    always (codes "NOT") Not ∷
    always (codes "IN") In ∷
    always (codes "LIKE") Like ∷
    always (codes "ESCAPE") Escape ∷
    always (codes "BETWEEN") Between ∷
    always (codes "IS") Is ∷
    always (codes "NULL") Null ∷
    always (codes "MISSING") Missing ∷
    always (codes "TRUE") True ∷
    always (codes "FALSE") False ∷
    always (codes "CASE") Case ∷
    always (codes "WHEN") When ∷
    always (codes "THEN") Then ∷
    always (codes "ELSE") Else ∷
    always (codes "END") End ∷
    always (codes "CAST") Cast ∷
    always (codes "LEADING") Leading ∷
    always (codes "TRAILING") Trailing ∷
    always (codes "BOTH") Both ∷
    at_times (codes "S3Object") S3Object S3ObjectCalled ∷
    at_times (codes "FOR") For ForCalled ∷
    at_times (codes "BOOL") BoolType BoolTypeCalled ∷
    at_times (codes "BOOLEAN") BoolType BoolTypeCalled ∷
    at_times (codes "INT") IntType IntTypeCalled ∷
    at_times (codes "INTEGER") IntType IntTypeCalled ∷
    at_times (codes "STRING") StringType StringTypeCalled ∷
    at_times (codes "TIMESTAMP") TimestampType TimestampTypeCalled ∷
    at_times (codes "DECIMAL") DecimalType DecimalTypeCalled ∷
    at_times (codes "NUMERIC") DecimalType DecimalTypeCalled ∷
    at_times (codes "YEAR") Year YearCalled ∷
    at_times (codes "MONTH") Month MonthCalled ∷
    at_times (codes "DAY") Day DayCalled ∷
    at_times (codes "HOUR") Hour HourCalled ∷
    at_times (codes "MINUTE") Minute MinuteCalled ∷
    at_times (codes "SECOND") Second SecondCalled ∷
    at_times (codes "TIMEZONE_HOUR") TimezoneHour TimezoneHourCalled ∷
    at_times (codes "TIMEZONE_MINUTE") TimezoneMinute TimezoneMinuteCalled ∷
    only_called (codes "COUNT") CountCalled ∷
    only_called (codes "SUM") SumCalled ∷
    only_called (codes "MIN") MinCalled ∷
    only_called (codes "MAX") MaxCalled ∷
    only_called (codes "AVG") AvgCalled ∷
    only_called (codes "COALESCE") CoalesceCalled ∷
    only_called (codes "NULLIF") NullifCalled ∷
    only_called (codes "CHAR_LENGTH") CharLengthCalled ∷
    only_called (codes "CHARACTER_LENGTH") CharLengthCalled ∷
    only_called (codes "LOWER") LowerCalled ∷
    only_called (codes "UPPER") UpperCalled ∷
    only_called (codes "SUBSTRING") SubstringCalled ∷
    only_called (codes "TRIM") TrimCalled ∷
    only_called (codes "EXTRACT") ExtractCalled ∷
    only_called (codes "DATE_ADD") DateAddCalled ∷
    only_called (codes "TO_TIMESTAMP") ToTimestampCalled ∷
    []

-- the class of a word among these, and whether `(` stands behind it
abbrev pub class_in : List Keyword → Bool → List ℕ → Class
class_in [] called word = if called then NameCalled else Name
class_in (k ∷ ks) called word =
    if str_eq_ignore_ascii_case k.word word then (if called then k.called else k.plain) else class_in ks called word

-- the class of a word
unfoldable pub class_of_word : Bool → List ℕ → Class
class_of_word called word = class_in keywords called word

-- the keywords of so many bytes
abbrev pub of_length : ℕ → List Keyword → List Keyword
of_length n [] = []
of_length n (k ∷ ks) = if length k.word == n then k ∷ of_length n ks else of_length n ks
