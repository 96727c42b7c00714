-- Texts that write no number from -600 to 600.
use Rattle.std.proofs.Common.{◌≡◌, ℕ, ◌^◌, ◌<◌, ◌≤◌, List, [], ◌∷◌, get_or, None, decimal, sym, refl, ap, ◌∙◌, subst, arith}
use Rattle.std.specs.Int.{IsInRange}
use Rattle.std.proofs.lemmas.Str.Parse.{not_in_digits}
use Rattle.std.proofs.lemmas.Fmt.{digits_decimal, decimal_nonempty, decimal_injective}
use Rattle.wording.proofs.Plain.{own}
use Rattle.wording.specs.Numbers.{Tenths}

no_minus : IsInRange 48 57 45 → ⊥
no_minus h = omega (arith, h.0, h.1)

minus_not_digits : (rest : List ℕ) (n : ℕ) → n ≤ 600 → 45 ∷ rest ≡ decimal n → ⊥
minus_not_digits rest n small e =
    not_in_digits own (decimal n) 45 (digits_decimal own n (omega (arith, small))) no_minus 0 (decimal_nonempty n (omega (arith, small)))
    (subst (λ t. get_or t 0 0 ≡ 45) e refl)

abbrev tail : List ℕ → List ℕ
tail [] = []
tail (x ∷ xs) = xs

-- after a `-`
pub below_none : (text digits : List ℕ) → text ≡ 45 ∷ digits → ((n : ℕ) → 0 < n → n ≤ 600 → digits ≡ decimal n → ⊥) → Tenths text None
below_none text digits minus never =
    λ n small. (λ e. minus_not_digits digits n small (sym minus ∙ e), λ some e. never n some small (ap tail (sym minus ∙ e)))

-- without one
pub above_none : (text : List ℕ) → ((rest : List ℕ) → text ≡ 45 ∷ rest → ⊥) → ((n : ℕ) → n ≤ 600 → text ≡ decimal n → ⊥) → Tenths text None
above_none text free never = λ n small. (λ e. never n small e, λ some e. free (decimal n) e)

-- a text writes one number at most
pub same_number : (text : List ℕ) (m n : ℕ) → m < 2 ^ 32 → n ≤ 600 → text ≡ decimal m → text ≡ decimal n → m ≡ n
same_number text m n large small em en = decimal_injective m n (omega (arith, large)) (omega (arith, small)) (sym em ∙ en)
