use Rattle.replies.proofs.Writing.{puts_as}
use Rattle.replies.proofs.writer.Writer.close.Goals as goal

pub returns : goal.returns
returns c = puts_as c.seal-seal.ensures c.put.ensures
