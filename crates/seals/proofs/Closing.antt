-- The sums, byte by byte, and that a seal brings both to 0.
use Rattle.std.proofs.Common.{◌≡◌, ℕ, ◌+◌, ◌-◌, ◌%◌, ◌<◌, true, List, [], ◌∷◌, ◌++◌, fold, refl, ap, ◌∙◌, arith}
use Rattle.std.proofs.lemmas.List.Sums.{fold-append}
use Rattle.std.proofs.lemmas.Bool.{eq-eqb, and_from}
use Rattle.seals.specs.Fletcher.{step, sums_of, is_sealed, seal_bytes, SealLaws}

small : (sums : ℕ × ℕ) (bytes : List ℕ) → sums.0 < 255 → sums.1 < 255 → ((fold step sums bytes).0 < 255) × ((fold step sums bytes).1 < 255)
small sums [] p q = (p, q)
small sums (byte ∷ bytes) p q = small (step sums byte) bytes (omega arith) (omega arith)

both : (y w : ℕ) → y ≡ 0 → w ≡ 0 → (y + w) % 255 ≡ 0
both y w e f = omega arith

-- the two seal bytes bring both sums to 0
to_zero : (a b : ℕ) → a < 255 → b < 255
    → (((a + (255 - ((a + b) % 255))) % 255 + b) % 255 ≡ 0)
    × (((b + (a + (255 - ((a + b) % 255))) % 255) % 255 + ((a + (255 - ((a + b) % 255))) % 255 + b) % 255) % 255 ≡ 0)
to_zero a b p q =
    let first : (b + (a + (255 - ((a + b) % 255))) % 255) % 255 ≡ 0 = omega arith in
    let last : ((a + (255 - ((a + b) % 255))) % 255 + b) % 255 ≡ 0 = omega arith in
    (last, both _ _ first last)

closes : (bytes : List ℕ) → is_sealed (bytes ++ seal_bytes bytes) ≡ true
closes bytes =
    let e = fold-append step (0, 0) bytes (seal_bytes bytes) in
    let k = small (0, 0) bytes (omega arith) (omega arith) in
    let z = to_zero (sums_of bytes).0 (sums_of bytes).1 k.0 k.1 in
    and_from _ _ (eq-eqb _ 0 (ap (λ (s : ℕ × ℕ). s.0) e ∙ z.0)) (eq-eqb _ 0 (ap (λ (s : ℕ × ℕ). s.1) e ∙ z.1))

pub seal_laws : SealLaws
seal_laws = record { closes = closes; of_none = refl; of_one = refl; of_two = refl; zeros = refl }
