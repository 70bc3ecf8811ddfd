-- Document 01, "Refusals, by number": the number of each reason; and W-201's, "22, words disagree".
use Rattle.std.specs.Prelude.{ℕ}
use Rattle.refusal.specs.declared.Reason.{Reason}
use Rattle.refusal.specs.declared.Reason.TheVariants.{SetNotGood, TableTooShort, PacketTooLong, KeyDiffers, OuterLengthWrong, TooManyItems}
use Rattle.refusal.specs.declared.Reason.TheVariants.{TagBroken, LengthBroken, FirstNotTimeStamp, LastNotChecksum, ChecksumDiffers}
use Rattle.refusal.specs.declared.Reason.TheVariants.{LengthNotAllowed, KnownTagTwice, CodeNotAllowed, VersionMissing, RowCountTooLarge, RowBad}
use Rattle.refusal.specs.declared.Reason.TheVariants.{OutputTooShort, NoScale, NotANumber, ValueOutOfRange, WordsDisagree}

abbrev pub number : Reason → ℕ
number SetNotGood = 1
number TableTooShort = 2
number PacketTooLong = 3
number KeyDiffers = 4
number OuterLengthWrong = 5
number TooManyItems = 6
number TagBroken = 7
number LengthBroken = 8
number FirstNotTimeStamp = 9
number LastNotChecksum = 10
number ChecksumDiffers = 11
number LengthNotAllowed = 12
number KnownTagTwice = 13
number CodeNotAllowed = 14
number VersionMissing = 15
number RowCountTooLarge = 16
number RowBad = 17
number OutputTooShort = 18
number NoScale = 19
number NotANumber = 20
number ValueOutOfRange = 21
number WordsDisagree = 22
