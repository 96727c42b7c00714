use Rattle.std.proofs.Common.{◌≡◌, ◌++◌, length, vec_items, refl, ap, ◌∙◌, arith}
use Rattle.runs.specs.Steps.{world_of}
use Rattle.framing.specs.Frames.{Front.incomplete, Front.too_long}
use Rattle.framing.proofs.Fronts.{stands}
use Rattle.serving.specs.Sessions.{desk, reply_of, after, written}
use Rattle.serving.proofs.Turns.{turn, done}
use Rattle.serving.proofs.stretches.serve_stretch.Goals.{in-Incomplete, in-TooLong}
use Rattle.serving.proofs.stretches.serve_stretch.Goals as goal

pub loop-telegram-smaller : goal.loop-telegram-smaller
loop-telegram-smaller g c =
    let s = stands c.loop-telegram.rest.now c.in-Telegram.telegram.now c.in-Telegram.after.now c.in-Telegram.ensures in omega arith

pub loop-telegram-preserved : goal.loop-telegram-preserved
loop-telegram-preserved g c =
    let kept = c.loop-telegram.auto in
    let does = c.in_ok-serve_one-in-Telegram.ensures in
    let w = world_of g.T.Tray.row c.loop-telegram.book in
    let same : desk g.R.Record.NUMBER g.R.Record.reads g.R.Record.writes (length c.loop-telegram.into) (length c.loop-telegram.buffer)
    ≡ desk g.R.Record.NUMBER g.R.Record.reads g.R.Record.writes (length c.args.into.now) (length c.args.buffer.now) =
    λ i. desk g.R.Record.NUMBER g.R.Record.reads g.R.Record.writes (kept.into i) (kept.buffer i) in
    let telegram = c.in-Telegram.telegram.now in (
      turn _ _ _ _ w c.loop-telegram.rest.now (vec_items c.loop-telegram.out) _ c.in-Telegram.after.now _ telegram c.loop-telegram.invariant.0 c.in-Telegram.ensures
          (does.book ∙ ap (λ d. after d w telegram) same)
          (does.output ∙ ap (λ d. vec_items c.loop-telegram.out ++ written (reply_of d w telegram)) same),
      does.memory ∙ c.loop-telegram.invariant.1,
    )

pub overflow_sub-result : goal.overflow_sub-result
overflow_sub-result g c = elim c.match-cut.branch [
  | in-Incomplete w ↦ let d = done _ _ c.args.input.now _ _ c.loop-telegram.rest.now _ (incomplete _) c.loop-telegram.invariant.0 w.in-Incomplete.ensures (λ more. refl) in omega arith
  | in-TooLong w ↦ let d = done _ _ c.args.input.now _ _ c.loop-telegram.rest.now _ too_long c.loop-telegram.invariant.0 w.in-TooLong.ensures (λ more. refl) in omega arith
]

pub returns : goal.returns
returns g c = elim c.match-cut.branch [
  | in-Incomplete w ↦
      let d = done _ _ c.args.input.now _ _ c.loop-telegram.rest.now _ (incomplete _) c.loop-telegram.invariant.0 w.in-Incomplete.ensures (λ more. refl) in
      record { output = d.output; book = d.book; memory = c.loop-telegram.invariant.1; used = omega arith; ended = w.ended-is ∙ d.ended }
  | in-TooLong w ↦
      let d = done _ _ c.args.input.now _ _ c.loop-telegram.rest.now _ too_long c.loop-telegram.invariant.0 w.in-TooLong.ensures (λ more. refl) in
      record { output = d.output; book = d.book; memory = c.loop-telegram.invariant.1; used = omega arith; ended = w.ended-is ∙ d.ended }
]
