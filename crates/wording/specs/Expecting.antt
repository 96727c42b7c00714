-- What is told of an unreadable line.
use Rattle.std.specs.Prelude.{ℕ, List, ◌++◌, codes, decimal}
use Rattle.wording.specs.declared.expected.Expected.{Expected}
use Rattle.wording.specs.declared.expected.Expected.TheVariants.{Kind, Tray, Part, Call, Mode, Word, Number, Temperature, End}

abbrev pub expected_words : Expected → List ℕ
expected_words Kind = codes "messages or measured"
expected_words Tray = codes "open, packed or annex"
expected_words Part = codes "open or packed"
expected_words Call = codes "enter, start, stop, mode, release, listen, since, oldest, youngest, span, take or hand"
expected_words Mode = codes "ring or keep"
expected_words (Word word) = word.now
expected_words (Number least most) = codes "a number from " ++ (decimal least ++ (codes " to " ++ decimal most))
expected_words Temperature = codes "a number from -600 to 600"
expected_words End = codes "the end of the line"
