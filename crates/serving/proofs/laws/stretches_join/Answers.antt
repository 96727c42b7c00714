use Rattle.serving.specs.Sessions.{desk}
use Rattle.serving.proofs.Joining.{joins}
use Rattle.serving.proofs.laws.stretches_join.Goals as goal

pub returns : goal.returns
returns g c frames bytes w first second = joins (desk g.R.Record.NUMBER g.R.Record.reads g.R.Record.writes frames bytes) w first second
