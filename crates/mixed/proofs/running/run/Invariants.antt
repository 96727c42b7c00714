use Rattle.std.proofs.Common.{◌≡◌, ◌≤◌, ◌++◌, map, length, take, drop, vec_items, vec_len, vec_capacity}
use Rattle.runs.specs.Steps.{world_of}
use Rattle.mixed.specs.Kinds.{numbered}
use Rattle.mixed.specs.Uses.{use_of, seen_of, after, all_seen}
use Rattle.mixed.proofs.running.run.Given as goal

-- what was seen so far and what is still to come are all that is seen; the turns so far have led to the book as it stands
abbrev pub invariant-loop-turn : goal.invariant-loop-turn
invariant-loop-turn g l =
    let K = numbered g.R.Record in
    let begins = world_of g.T.Tray.row l.initial.session.book in
    let stands = world_of g.T.Tray.row l.session.book in
    (all_seen K begins (map use_of l.turns) ≡ map (seen_of K) (vec_items l.replies) ++ all_seen K stands (map use_of (drop l.turn-index l.turns)))
    × (stands ≡ after K begins (map use_of (take l.turn-index l.turns)))
    × (vec_len l.replies ≡ l.turn-index)
    × (length l.turns ≤ vec_capacity l.replies)
    × (g.T.Tray.memory l.session.book.tray ≡ g.T.Tray.memory l.initial.session.book.tray)
