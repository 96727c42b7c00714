use Rattle.seals.proofs.Closing.{seal_laws}
use Rattle.seals.proofs.seal_laws.Goals as goal

pub returns : goal.returns
returns c = seal_laws
