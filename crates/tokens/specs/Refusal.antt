-- The refusals of the paper, by number. Assumes nothing.
use Rattle.std.specs.Prelude.{ℕ}
use Rattle.tokens.specs.declared.refusal.Refusal.{Refusal}
use Rattle.tokens.specs.declared.refusal.Refusal.TheVariants.{ShortBuffer, LongText, StrangeByte, NoLineFeed, Form}
use Rattle.tokens.specs.declared.refusal.Refusal.TheVariants.{Order}
use Rattle.tokens.specs.declared.refusal.Refusal.TheVariants.{NameTaken, UnknownName, TooMany, OutputCount, ByteCount}
use Rattle.tokens.specs.declared.refusal.Refusal.TheVariants.{ListLength, TooDeep, TrialCount}

-- the number of a refusal in the paper
abbrev pub number : Refusal → ℕ
number ShortBuffer = 1
number LongText = 2
number StrangeByte = 3
number NoLineFeed = 4
number Form = 5
number Order = 6
number NameTaken = 7
number UnknownName = 8
number TooMany = 9
number OutputCount = 10
number ByteCount = 11
number ListLength = 12
number TooDeep = 13
number TrialCount = 14
