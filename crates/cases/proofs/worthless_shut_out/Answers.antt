use Rattle.cases.proofs.ShutOut.{shut_out}
use Rattle.cases.proofs.worthless_shut_out.Goals as goal

pub returns : goal.returns
returns c = shut_out
