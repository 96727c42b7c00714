use Rattle.std.proofs.Common.{◌+◌, ◌*◌, length, refl, arith, rules, ◌≡◌, ◌∙◌}
use Rattle.replies.proofs.Writing.{puts_then, frames_length, finished}
use Rattle.replies.proofs.write_read.Goals as goal

pub close-requires : goal.close-requires
close-requires g c = omega (arith, c.head.ensures.wrote.next, c.frames.ensures.wrote.next, c.frames.ensures.wrote.room, frames_length g.R.Record.NUMBER g.R.Record.writes c.args.frames.now)

pub returns-clause-length : goal.returns-clause-length
returns-clause-length g c =
    let long = frames_length g.R.Record.NUMBER g.R.Record.writes c.args.frames.now in
    let all = finished (54 + 28 * length c.args.frames.now) refl (puts_then c.head.ensures.wrote c.frames.ensures.wrote) c.close.ensures (omega (arith, c.close.ensures.next, c.head.ensures.wrote.next, c.frames.ensures.wrote.next)) (omega arith) in all.0

pub returns-clause-bytes : goal.returns-clause-bytes
returns-clause-bytes g c =
    let long = frames_length g.R.Record.NUMBER g.R.Record.writes c.args.frames.now in
    let all = finished (54 + 28 * length c.args.frames.now) refl (puts_then c.head.ensures.wrote c.frames.ensures.wrote) c.close.ensures (omega (arith, c.close.ensures.next, c.head.ensures.wrote.next, c.frames.ensures.wrote.next)) (omega arith) in
    let link : _ ≡ c.close.new.self.out.now = search rules in
    link ∙ all.1
