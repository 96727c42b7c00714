use Rattle.framing.proofs.Fronts.{put_then_cut}
use Rattle.framing.proofs.laws.put_is_cut.Goals as goal

pub returns : goal.returns
returns c = put_then_cut
