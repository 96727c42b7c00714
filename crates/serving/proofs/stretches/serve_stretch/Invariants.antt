use Rattle.std.proofs.Common.{◌≡◌, length, vec_items}
use Rattle.runs.specs.Steps.{world_of}
use Rattle.serving.specs.Sessions.{desk}
use Rattle.serving.proofs.Turns.{Goes_on}
use Rattle.serving.proofs.stretches.serve_stretch.Given as goal

-- what is written so far and what the rest of the input makes of the book as it stands are all
abbrev pub invariant-loop-telegram : goal.invariant-loop-telegram
invariant-loop-telegram g l =
    let d = desk g.R.Record.NUMBER g.R.Record.reads g.R.Record.writes (length l.initial.into) (length l.initial.buffer) in
    let begin = world_of g.T.Tray.row l.initial.book in
    let stand = world_of g.T.Tray.row l.book in
    Goes_on d begin l.input (vec_items l.initial.out) stand l.rest (vec_items l.out)
    × (g.T.Tray.memory l.book.tray ≡ g.T.Tray.memory l.initial.book.tray)

abbrev pub decreases-loop-telegram : goal.decreases-loop-telegram
decreases-loop-telegram g l = length l.rest
