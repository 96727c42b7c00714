use Rattle.std.proofs.Common.{◌≡◌, map, vec_items, sym, subst, arith}
use Rattle.std.proofs.lemmas.Grind.{common_steps}
use Rattle.book.specs.State.{new_list}
use Rattle.runs.specs.Answers.{answer_of}
use Rattle.runs.specs.Kinds.{kind_of}
use Rattle.runs.specs.Sound.{Sound}
use Rattle.runs.specs.Steps.{World, world, world_of, after}
use Rattle.runs.proofs.Orders.{sound}
use Rattle.runs.proofs.Stands.{throughout}
use Rattle.runs.proofs.running.run.Goals as goal

pub returns-clause-law : goal.returns-clause-law
returns-clause-law g c =
    let kind = kind_of g.R.Record in
    throughout kind (g.T.Tray.row c.args.tray) g.met.R.Record.back c.args.number c.args.calls.now (map answer_of (vec_items c.loop-call.replies)) (grind (arith, common_steps))

pub returns-clause-sound : goal.returns-clause-sound
returns-clause-sound g c =
    let kind = kind_of g.R.Record in
    let row = g.T.Tray.row c.args.tray in
    let left : world_of g.T.Tray.row c.loop-call.session.book ≡ after kind.writes (world c.args.number new_list row) c.args.calls.now = grind (arith, common_steps) in
    subst (λ (v : World). Sound kind.reads v) (sym left) (sound kind row g.met.R.Record.back c.args.number c.args.calls.now)
