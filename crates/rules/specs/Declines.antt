-- The number of each decline, and how a call's checks lead to one. Assumes nothing.
use Rattle.std.specs.Prelude.{ℕ, Bool, cond, Some, None, Ok, Err, Option, Result}
use Rattle.rules.specs.declared.decline.Decline.{Decline}
use Rattle.rules.specs.declared.decline.Decline.TheVariants.{TextTooLong, ByteNotAllowed, NoFinalLineFeed, NotAForm, OutsideRange, LowerAboveUpper, Full, TooFewEntries, NotOfKind, NoSuchPlace, DefaultStays, OutOfOrder, SameDecision, NoSuchField, NoWithdrawalLayer, AlreadyWithdrawn, NoteFull, NotWithdrawn, TooManyTests, NoMemory}

abbrev pub number_of : Decline → ℕ
number_of TextTooLong = 1
number_of ByteNotAllowed = 2
number_of NoFinalLineFeed = 3
number_of NotAForm = 4
number_of OutsideRange = 5
number_of LowerAboveUpper = 6
number_of Full = 7
number_of TooFewEntries = 8
number_of NotOfKind = 9
number_of NoSuchPlace = 10
number_of DefaultStays = 11
number_of OutOfOrder = 12
number_of SameDecision = 13
number_of NoSuchField = 14
number_of NoWithdrawalLayer = 15
number_of AlreadyWithdrawn = 16
number_of NoteFull = 17
number_of NotWithdrawn = 18
number_of TooManyTests = 19
number_of NoMemory = 99

-- how a call was declined, or None where it was not
abbrev pub declined : {A : Type 0} → Result A Decline → Option Decline
declined (Ok a) = None
declined (Err d) = Some d

-- a check that fails declines with d, whatever the checks after it say
abbrev pub unless : Bool → Decline → Option Decline → Option Decline
unless fails d later = cond fails (Some d) later

-- what a call leaves: the new value, or the old one where it was declined
abbrev pub left_by : {A : Type 0} → Option Decline → A → A → A
left_by None new old = new
left_by (Some d) new old = old

-- the first of two declines in the order of their checks
abbrev pub or_else : Option Decline → Option Decline → Option Decline
or_else None later = later
or_else (Some d) later = Some d
