use Rattle.std.proofs.Common.{rules}
use Rattle.fields.specs.Reading.{frame_at}
use Rattle.reading_end.specs.Frames.{next_frame_of}
use Rattle.reading_end.proofs.frames.next_frame.Goals as goal

pub returns-in_err-read : goal.returns-in_err-read
unfolding next_frame_of frame_at
returns-in_err-read g c = search rules

pub returns : goal.returns
unfolding next_frame_of frame_at
returns g c = search rules
