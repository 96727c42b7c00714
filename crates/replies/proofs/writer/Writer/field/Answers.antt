use Rattle.std.proofs.Common.{◌∷◌, length, ap}
use Rattle.replies.proofs.Writing.{puts_then, puts_as}
use Rattle.replies.proofs.writer.Writer.field.Goals as goal

pub returns : goal.returns
returns c = puts_as (ap (λ n. n ∷ 0 ∷ length c.args.value.now ∷ c.args.value.now) c.number.ensures) (puts_then c.put.ensures c.put-2.ensures)
