-- Numbers as words write them.
use Rattle.std.specs.Prelude.{◌≡◌, ℕ, ◌^◌, ◌<◌, ◌≤◌, List, ◌∷◌, ℤ, Some, None, decimal, Option, ◌≢◌}
use Rattle.std.specs.Fmt.{signed_decimal}

-- the number of 32 bits that a text writes in plain decimal, if it writes one
abbrev pub Plain : List ℕ → Option ℕ → Type 0
Plain text (Some n) = text ≡ decimal n
Plain text None = (n : ℕ) → n < 2 ^ 32 → text ≢ decimal n

-- the number from -600 to 600 that a text writes, those below zero with a `-` (45) in front, if it writes one
abbrev pub Tenths : List ℕ → Option ℤ → Type 0
Tenths text (Some t) = text ≡ signed_decimal t
Tenths text None = (n : ℕ) → n ≤ 600 → (text ≢ decimal n) × (0 < n → text ≢ 45 ∷ decimal n)
