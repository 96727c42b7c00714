-- How long a reply is.
use Rattle.std.proofs.Common.{◌≡◌, ℕ, ◌+◌, ◌*◌, List, ◌++◌, length, arith}
use Rattle.std.specs.List.{flat_map}
use Rattle.std.proofs.lemmas.List.{length-append}
use Rattle.records.specs.declared.frames.Frame.{Frame}
use Rattle.book.specs.declared.answers.Reading.{Reading}
use Rattle.seals.specs.Fletcher.{seal_bytes}
use Rattle.replies.specs.Layout.{head_bytes, frame_bytes, read_reply}
use Rattle.replies.proofs.Writing.{frames_length}

pub read_length : {R : Type 0} (kind : ℕ) (writes : R → List ℕ) (g : Reading) (fs : List (Frame R)) → 54 + 28 * length fs ≡ length (read_reply kind writes g fs)
read_length kind writes g fs =
    let body = head_bytes g ++ flat_map (frame_bytes kind writes) fs in
    let a = length-append body (seal_bytes body) in
    let b = length-append (head_bytes g) (flat_map (frame_bytes kind writes) fs) in
    omega (arith, a, b, frames_length kind writes fs)
