use Rattle.std.proofs.Common.{take}
use Rattle.std.specs.List.{flat_map}
use Rattle.replies.specs.Layout.{word}
use Rattle.replies.specs.Writing.{Puts}
use Rattle.replies.proofs.writer.Writer.four.Given as goal

abbrev pub invariant-loop-word : goal.invariant-loop-word
invariant-loop-word l = Puts l.initial.self l.self (flat_map word (take l.word-index l.word-items))
