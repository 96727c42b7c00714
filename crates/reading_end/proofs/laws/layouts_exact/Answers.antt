use Rattle.reading_end.proofs.Exact.{layouts_exact}
use Rattle.reading_end.proofs.laws.layouts_exact.Goals as goal

pub returns : goal.returns
returns g c = layouts_exact g.R.Record.NUMBER g.R.Record.reads
