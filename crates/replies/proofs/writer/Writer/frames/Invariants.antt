use Rattle.std.proofs.Common.{take}
use Rattle.std.specs.List.{flat_map, AllByRecursion}
use Rattle.replies.specs.Fits.{FrameFits}
use Rattle.replies.specs.Layout.{frame_bytes}
use Rattle.replies.specs.Writing.{Puts}
use Rattle.replies.proofs.writer.Writer.frames.Given as goal

abbrev pub invariant-loop-frame : goal.invariant-loop-frame
invariant-loop-frame g l = record {
  wrote : Puts l.initial.self l.self (flat_map (frame_bytes g.R.Record.NUMBER g.R.Record.writes) (take l.frame-index l.frames));
  fits : AllByRecursion (FrameFits g.R.Record.writes) (take l.frame-index l.frames);
}
