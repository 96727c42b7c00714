use Rattle.std.proofs.Common.{◌≡◌, ◌≤◌, ◌++◌, map, length, drop, vec_items, vec_len, vec_capacity}
use Rattle.runs.specs.Answers.{answer_of}
use Rattle.runs.specs.Steps.{world_of, answers, after}
use Rattle.runs.proofs.running.run.Given as goal

-- the replies so far and the answers to the calls still to come are all answers; the rest of the run begins at the book as it stands
abbrev pub invariant-loop-call : goal.invariant-loop-call
invariant-loop-call g l =
    let reads = g.R.Record.reads in
    let writes = g.R.Record.writes in
    let begins = world_of g.T.Tray.row l.initial.session.book in
    let stands = world_of g.T.Tray.row l.session.book in
    let rest = drop l.call-index l.calls in
    (answers reads writes begins l.calls ≡ map answer_of (vec_items l.replies) ++ answers reads writes stands rest)
    × (after writes begins l.calls ≡ after writes stands rest)
    × (vec_len l.replies ≡ l.call-index)
    × (length l.calls ≤ vec_capacity l.replies)
    × (g.T.Tray.memory l.session.book.tray ≡ g.T.Tray.memory l.initial.session.book.tray)
