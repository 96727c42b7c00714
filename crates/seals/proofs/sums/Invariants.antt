use Rattle.std.proofs.Common.{◌≡◌, ◌<◌, take}
use Rattle.seals.specs.Fletcher.{sums_of}
use Rattle.seals.proofs.sums.Given as goal

abbrev pub invariant-loop-byte : goal.invariant-loop-byte
invariant-loop-byte l = ((l.c0, l.c1) ≡ sums_of (take l.byte-index l.bytes)) × (l.c0 < 255) × (l.c1 < 255)
