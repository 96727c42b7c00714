-- A reply in the making.
use Rattle.std.specs.Prelude.{◌≡◌, ℕ, ◌+◌, List, ◌++◌, length, take, drop}
use Rattle.replies.specs.declared.writer.Writer.{Writer}

-- the same buffer, in which these bytes stand where the next ones were due, and nothing else is changed
pub record Puts (before after : Writer) (bytes : List ℕ) : Type 0 where
  pub buffer : after.out.ghost_name ≡ before.out.ghost_name
  pub next : after.at ≡ before.at + length bytes
  pub front : take after.at after.out.now ≡ take before.at before.out.now ++ bytes
  pub back : drop after.at after.out.now ≡ drop after.at before.out.now
  pub room : length after.out.now ≡ length before.out.now
