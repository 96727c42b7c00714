use Rattle.std.proofs.Common.{◌≡◌, ◌-◌}
use Rattle.fields.specs.Reading.{rest_of}
use Rattle.reading_end.specs.Layouts.{frames_at, frames_fault}
use Rattle.reading_end.proofs.layouts.frames_form.Given as goal

abbrev pub invariant-loop : goal.invariant-loop
invariant-loop l = frames_fault (frames_at (l.count - l.counter) (rest_of l.fields)) ≡ frames_fault (frames_at l.count (rest_of l.initial.fields))
