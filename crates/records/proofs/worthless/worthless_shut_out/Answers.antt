use Rattle.records.proofs.ShutOut.{shut_out}
use Rattle.records.proofs.worthless.worthless_shut_out.Goals as goal

pub returns : goal.returns
returns g c = shut_out g.R.Record.means g.R.Varied.one g.R.Varied.other g.met.R.Varied.differ
