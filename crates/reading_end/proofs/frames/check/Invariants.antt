use Rattle.std.proofs.Common.{◌≡◌, ◌-◌}
use Rattle.fields.specs.Reading.{rest_of}
use Rattle.reading_end.specs.Frames.{records_at, fault_of}
use Rattle.reading_end.proofs.frames.check.Given as goal

abbrev pub invariant-loop : goal.invariant-loop
invariant-loop g l = fault_of (records_at g.R.Record.NUMBER g.R.Record.reads (l.count - l.counter) (rest_of l.fields)) ≡ fault_of (records_at g.R.Record.NUMBER g.R.Record.reads l.count (rest_of l.initial.fields))
