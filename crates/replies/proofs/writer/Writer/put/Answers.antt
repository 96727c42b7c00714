use Rattle.std.proofs.Common.{refl}
use Rattle.replies.proofs.Writing.{put_front, put_back, put_room}
use Rattle.replies.proofs.writer.Writer.put.Goals as goal

pub returns : goal.returns
returns c = record {
  buffer = refl;
  next = refl;
  front = put_front _ _ _ _ c.requires c.copy_from_slice.ensures.after;
  back = put_back _ _ _ _ c.requires c.copy_from_slice.ensures.after;
  room = put_room _ _ _ _ c.requires c.copy_from_slice.ensures.after;
}
