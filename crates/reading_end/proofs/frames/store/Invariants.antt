use Rattle.std.proofs.Common.{◌≡◌, ◌-◌, ◌++◌, take, drop}
use Rattle.fields.specs.Reading.{rest_of}
use Rattle.reading_end.specs.Frames.{store_at}
use Rattle.reading_end.proofs.frames.store.Given as goal

-- the slots that take a frame, and the rest of the row after them
abbrev pub invariant-loop-slot : goal.invariant-loop-slot
invariant-loop-slot g l =
    let row = l.slot-items ++ drop l.count l.fn.row in
    take l.slot-index row ++ store_at g.R.Record.NUMBER g.R.Record.reads (l.count - l.slot-index) (rest_of l.fields) (drop l.slot-index row) ≡ store_at g.R.Record.NUMBER g.R.Record.reads l.count (rest_of l.fn.fields) l.fn.row
