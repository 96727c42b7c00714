use Rattle.reading_end.proofs.Whole.{replies_back}
use Rattle.reading_end.proofs.laws.replies_read_back.Goals as goal

pub returns : goal.returns
returns g c = replies_back g.R.Record.NUMBER g.R.Record.reads g.R.Record.writes g.R.Record.means g.met.R.Record.back
