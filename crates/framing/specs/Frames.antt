-- Telegrams one after another in a list of bytes, each after its length.
use Rattle.std.specs.Prelude.{ℕ, ◌+◌, ◌-◌, ◌*◌, ◌/◌, ◌%◌, cond, List, ◌∷◌, length, take, drop, nat_le, slice_index}
use Rattle.framing.specs.declared.cutting.Piece.{Piece}
use Rattle.framing.specs.declared.cutting.Piece.TheVariants.{Telegram, Incomplete, TooLong}

-- what stands at the front: a telegram and the bytes after it; too few bytes, and how many have to come; a length above 4,096
pub data Front : Type 0 where
  whole : List ℕ → List ℕ → Front
  incomplete : ℕ → Front
  too_long : Front

abbrev pub piece_told : Piece → Front
piece_told (Telegram telegram after) = whole telegram.now after.now
piece_told (Incomplete missing) = incomplete missing
piece_told TooLong = too_long

-- the number in four bytes, high byte first
abbrev pub number : List ℕ → ℕ
number bytes = slice_index bytes 0 * 16777216 + slice_index bytes 1 * 65536 + slice_index bytes 2 * 256 + slice_index bytes 3

-- what stands there after a length
abbrev pub sized : ℕ → List ℕ → Front
sized n rest =
    cond (nat_le n 4096) (cond (nat_le n (length rest)) (whole (take n rest) (drop n rest)) (incomplete (n - length rest))) too_long

unfoldable pub front : List ℕ → Front
front bytes = cond (nat_le 4 (length bytes)) (sized (number bytes) (drop 4 bytes)) (incomplete (4 - length bytes))

-- a reply after its length
abbrev pub framed : List ℕ → List ℕ
framed reply =
    (length reply / 16777216 % 256) ∷ (length reply / 65536 % 256) ∷ (length reply / 256 % 256) ∷ (length reply % 256) ∷ reply
