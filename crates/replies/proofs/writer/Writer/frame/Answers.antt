use Rattle.std.proofs.Common.{◌∷◌, ◌++◌}
use Rattle.replies.specs.Layout.{word, words}
use Rattle.replies.proofs.Writing.{puts_then, puts_as}
use Rattle.replies.proofs.writer.Writer.frame.Goals as goal

pub returns-clause-wrote : goal.returns-clause-wrote
returns-clause-wrote g c =
    puts_as (λ i. c.number.ensures i ∷ 0 ∷ c.length.ensures i ∷ c.NUMBER.ensures i ∷ (word c.args.frame.now.time ++ (word c.args.frame.now.position ++ words (c.write.ensures i))))
    (puts_then c.put.ensures
    (puts_then (puts_as c.to_be_bytes.ensures c.put-2.ensures)
    (puts_then (puts_as c.to_be_bytes-2.ensures c.put-3.ensures) c.four.ensures.wrote)))
