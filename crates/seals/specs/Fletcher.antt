-- The seal of a telegram: two running sums mod 255.
use Rattle.std.specs.Prelude.{◌≡◌, ℕ, ◌+◌, ◌-◌, ◌%◌, Bool, true, ◌&&◌, List, [], ◌∷◌, ◌++◌, fold, ◌==◌}

-- one byte: the first sum takes the byte, then the second takes the first
abbrev pub step : ℕ × ℕ → ℕ → ℕ × ℕ
step sums byte = ((sums.0 + byte) % 255, (sums.1 + (sums.0 + byte) % 255) % 255)

abbrev pub sums_of : List ℕ → ℕ × ℕ
sums_of bytes = fold step (0, 0) bytes

abbrev pub is_sealed : List ℕ → Bool
is_sealed bytes = (sums_of bytes).0 == 0 && (sums_of bytes).1 == 0

abbrev pub seal_bytes : List ℕ → List ℕ
seal_bytes bytes = (255 - (((sums_of bytes).0 + (sums_of bytes).1) % 255)) ∷ (sums_of bytes).1 ∷ []

pub record SealLaws : Type 0 where
  -- any bytes followed by their seal are sealed
  pub closes : (bytes : List ℕ) → is_sealed (bytes ++ seal_bytes bytes) ≡ true
  -- worked seals: of no byte, of 01, of 01 02; and 00 00, which is sealed too
  pub of_none : seal_bytes [] ≡ 0xff ∷ 0x00 ∷ []
  pub of_one : seal_bytes (0x01 ∷ []) ≡ 0xfd ∷ 0x01 ∷ []
  pub of_two : seal_bytes (0x01 ∷ 0x02 ∷ []) ≡ 0xf8 ∷ 0x04 ∷ []
  pub zeros : is_sealed (0x00 ∷ 0x00 ∷ []) ≡ true
