use Rattle.std.proofs.Common.{ap, ◌∙◌, arith, rules, ◌≡◌, length}
use Rattle.std.specs.List.{flat_map}
use Rattle.std.proofs.lemmas.List.{take_all}
use Rattle.replies.specs.Layout.{word}
use Rattle.replies.proofs.Writing.{puts_then, puts_as, joined_take, four_words}
use Rattle.replies.proofs.writer.Writer.four.Goals as goal

pub loop-word-preserved : goal.loop-word-preserved
loop-word-preserved c =
    puts_as (joined_take word c.args.four c.loop-word.word-index 0 (omega arith)) (puts_then c.loop-word.invariant (puts_as c.to_be_bytes.ensures c.put.ensures))

pub returns-clause-wrote : goal.returns-clause-wrote
returns-clause-wrote c =
    let four : length c.args.four ≡ 4 = search rules in
    puts_as (ap (flat_map word) (take_all c.loop-word.word-index c.args.four (omega arith)) ∙ four_words c.args.four four) c.loop-word.invariant
