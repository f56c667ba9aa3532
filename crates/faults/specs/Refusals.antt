-- The refusals by their numbers.
use Rattle.std.specs.Prelude.{ℕ}
use Rattle.faults.specs.declared.refusal.Refusal.{Refusal}
use Rattle.faults.specs.declared.refusal.Refusal.TheVariants.{NoSuchRouter, SameRouter, NumberNotRead, NumberOutOfRange, MemoryTooShort, TooFewPicks, BadLine, BadCount, Full, NotKept, StalePage, NoRoute, NotArrived}

abbrev pub number_of : Refusal → ℕ
number_of NoSuchRouter = 1
number_of SameRouter = 2
number_of NumberNotRead = 3
number_of NumberOutOfRange = 4
number_of MemoryTooShort = 5
number_of TooFewPicks = 6
number_of BadLine = 7
number_of BadCount = 8
number_of Full = 11
number_of NotKept = 12
number_of StalePage = 13
number_of NoRoute = 14
number_of NotArrived = 15
