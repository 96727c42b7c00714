use Rattle.std.proofs.Common.{◌≡◌, map, take, vec_items, sym, ap, ◌∙◌, subst, arith}
use Rattle.std.proofs.lemmas.Grind.{common_steps}
use Rattle.book.specs.State.{new_list}
use Rattle.runs.specs.Sound.{Sound}
use Rattle.runs.specs.Steps.{World, world, world_of}
use Rattle.mixed.specs.Kinds.{numbered}
use Rattle.mixed.specs.Throughout.{left_by}
use Rattle.mixed.specs.Uses.{use_of, seen_of, after, Settled}
use Rattle.mixed.proofs.Led.{sound, throughout}
use Rattle.mixed.proofs.Onward.{led_more}
use Rattle.mixed.proofs.Settles.{settled}
use Rattle.mixed.proofs.running.run.Goals as goal

pub take_turn-requires : goal.take_turn-requires
take_turn-requires g c =
    let K = numbered g.R.Record in
    let row = g.T.Tray.row c.args.tray in
    let uses = map use_of (take c.loop-turn.turn-index c.args.turns.now) in
    let new = c.new-session.ensures in
    let begins : world_of g.T.Tray.row c.new-session.result.book ≡ world c.args.number new_list row = λ j. world (new.number j) (new.state j) (g.T.Tray.row (new.tray j)) in
    subst (Settled K) (sym (c.loop-turn.invariant.1 ∙ ap (λ v. after K v uses) begins)) (settled K g.met.R.Record.back g.met.R.Exact.alike c.args.number row uses)

pub loop-turn-preserved : goal.loop-turn-preserved
loop-turn-preserved g c =
    let inv = c.loop-turn.invariant in
    let does = c.in_ok-take_turn.ensures in (
      grind (arith, common_steps),
      led_more (numbered g.R.Record) _ _ _ c.args.turns.now _ _ c.loop-turn-test.true c.turn-item.is inv.1 does.left,
      grind (arith, common_steps),
      grind (arith, common_steps),
      does.memory ∙ inv.4,
    )

pub returns-clause-law : goal.returns-clause-law
returns-clause-law g c =
    let K = numbered g.R.Record in
    throughout K (g.T.Tray.row c.args.tray) g.met.R.Record.back c.args.number (map use_of c.args.turns.now) (map (seen_of K) (vec_items c.loop-turn.replies)) (grind (arith, common_steps))

pub returns-clause-sound : goal.returns-clause-sound
returns-clause-sound g c =
    let K = numbered g.R.Record in
    let row = g.T.Tray.row c.args.tray in
    let uses = map use_of c.args.turns.now in
    let left : world_of g.T.Tray.row c.loop-turn.session.book ≡ left_by K c.args.number row uses = grind (arith, common_steps) in
    subst (λ (v : World). Sound g.R.Record.reads v) (sym left) (sound K row g.met.R.Record.back c.args.number uses)
