-- The sizes of trays.
use Rattle.std.specs.Prelude.{◌≤◌, Some, None, Option}
use Rattle.wording.specs.declared.opening.Part.{Part}
use Rattle.wording.specs.declared.opening.Part.TheVariants.{Open, Packed}

-- at most 1,000,000 slots, or the bytes of as many
abbrev pub Fits : Part → Type 0
Fits (Open slots) = slots ≤ 1000000
Fits (Packed bytes) = bytes ≤ 24000000

abbrev pub FitsIfAny : Option Part → Type 0
FitsIfAny None = Unit {0}
FitsIfAny (Some part) = Fits part
