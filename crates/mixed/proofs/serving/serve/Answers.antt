use Rattle.runs.specs.Steps.{world}
use Rattle.mixed.specs.Kinds.{numbered}
use Rattle.mixed.proofs.Settles.{goes_on}
use Rattle.mixed.proofs.serving.serve.Goals as goal

pub returns-clause-law : goal.returns-clause-law
returns-clause-law g c =
    let does = c.exchange.ensures in
    goes_on (numbered g.R.Record) g.met.R.Record.back g.met.R.Exact.alike _ _ _ _ _ _ c.args.buffer.now _
    (let s = does.state in let r = does.slots in let n = does.number in λ j. world (n j) (s j) (r j)) does.length does.buffer does.back
