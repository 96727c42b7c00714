use Rattle.std.proofs.Common.{◌++◌, take, ap, ◌∙◌, subst, arith}
use Rattle.std.specs.List.{flat_map}
use Rattle.std.proofs.ByRecursion.{All-more}
use Rattle.std.proofs.lemmas.List.{length-take-le}
use Rattle.replies.specs.Fits.{FrameFits}
use Rattle.replies.specs.Layout.{frame_bytes}
use Rattle.replies.proofs.Writing.{puts_then, puts_as, joined_take, frames_length}
use Rattle.replies.proofs.writer.Writer.frames.Goals as goal

pub frame-requires : goal.frame-requires
frame-requires g c =
    let done = take c.loop-frame.frame-index c.args.frames.now in
    omega (arith, c.loop-frame.invariant.wrote.next, c.loop-frame.invariant.wrote.room, frames_length g.R.Record.NUMBER g.R.Record.writes done, length-take-le c.loop-frame.frame-index c.args.frames.now (omega arith))

pub loop-frame-preserved : goal.loop-frame-preserved
loop-frame-preserved g c =
    let one = frame_bytes g.R.Record.NUMBER g.R.Record.writes in
    let all = c.args.frames.now in
    let i = c.loop-frame.frame-index in
    record {
      wrote = puts_as (ap (λ f. flat_map one (take i all) ++ one f) c.frame-item.is ∙ joined_take one all i c.frame-item.result (omega arith)) (puts_then c.loop-frame.invariant.wrote c.frame.ensures.wrote);
      fits = All-more (FrameFits g.R.Record.writes) all i c.frame-item.result (omega arith) c.loop-frame.invariant.fits (subst (FrameFits g.R.Record.writes) c.frame-item.is c.frame.ensures.fits);
    }
