-- A text of digits alone, with no zero before the first, is the decimal of the number that it writes.
use Rattle.std.proofs.Common.{◌≡◌, ℕ, zero, suc, ◌^◌, ◌<◌, List, [], ◌∷◌, length, get_or, Ok, Err, decimal, Result, sym, ap, ◌∙◌, subst, ⊎_elim, eq-or-lt_of_le, arith}
use Rattle.std.specs.Result.{result_ok}
use Rattle.std.specs.Str.Parse.{AllDigits, digits_value, ParsesUnsigned}
use Rattle.std.specs.Int.{IsInRange}
use Rattle.std.proofs.lemmas.Str.Parse.{IsNumeralModel, numerals_by_value, tells_digits, parse_plain, not_in_digits}
use Rattle.std.proofs.lemmas.Fmt.{digits_decimal, decimal_nonempty, decimal_digit, first_decimal, decimal-digits_value, digits_value-decimal}
use Rattle.wording.specs.Numbers.{Plain}

pub own : IsNumeralModel (AllDigits 10) (digits_value 10)
own = numerals_by_value _ tells_digits

no_plus : IsInRange 48 57 43 → ⊥
no_plus h = omega (arith, h.0, h.1)

pub signed_not_plain : (bs : List ℕ) (n : ℕ) → get_or bs 0 0 ≡ 43 → n < 2 ^ 32 → bs ≡ decimal n → ⊥
signed_not_plain bs n plus small e =
    not_in_digits own (decimal n) 43 (digits_decimal own n (omega (arith, small))) no_plus 0 (decimal_nonempty n (omega (arith, small)))
    (subst (λ t. get_or t 0 0 ≡ 43) e plus)

pub padded_not_plain : (bs : List ℕ) (n : ℕ) → 1 < length bs → get_or bs 0 0 ≡ 48 → n < 2 ^ 32 → bs ≡ decimal n → ⊥
padded_not_plain bs zero long pad small e =
    let one : length (decimal 0) ≡ 1 = ap length (decimal_digit 0 (omega arith)) in
    let two : 1 < length (decimal 0) = subst (λ t. 1 < length t) e long in
    omega (arith, one, two)
padded_not_plain bs (suc n) long pad small e =
    let above : 48 < get_or (decimal (suc n)) 0 0 = first_decimal (suc n) (omega arith) (omega (arith, small)) in
    let same : get_or (decimal (suc n)) 0 0 ≡ 48 = subst (λ t. get_or t 0 0 ≡ 48) e pad in
    omega (arith, above, same)

sign_free : (bs : List ℕ) → (0 < length bs → get_or bs 0 0 ≡ 43 → ⊥) → get_or bs 0 0 ≡ 43 → ⊥
sign_free [] free e = omega (arith, e)
sign_free (b ∷ bs) free e = free (omega arith) e

pub plain_read : {E : Type 0} (bs : List ℕ) (r : Result ℕ E) → ParsesUnsigned 32 10 bs r → (0 < length bs → get_or bs 0 0 ≡ 43 → ⊥) → (1 < length bs → get_or bs 0 0 ≡ 48 → ⊥) → Plain bs (result_ok r)
plain_read {E} bs (Ok x) reads free full =
    let p : (AllDigits 10 bs × (0 < length bs) × (digits_value 10 bs < 2 ^ 32)) × (x ≡ digits_value 10 bs) = parse_plain own {E = E} 32 bs (Ok x) reads (sign_free bs free) in
    let alone : get_or bs 0 0 ≡ 48 → length bs ≡ 1 = λ h. ⊎_elim (λ one. sym one) (λ more. absurd (full more h)) (eq-or-lt_of_le {n = 1} {m = length bs} (omega (arith, p.0.1))) in
    sym (decimal-digits_value own bs p.0.0 p.0.1 alone (omega (arith, p.0.2))) ∙ ap decimal (sym p.1)
plain_read {E} bs (Err f) reads free full =
    λ n small e.
    let wide : n < 2 ^ 64 = omega (arith, small) in
    let same : digits_value 10 bs ≡ n = ap (digits_value 10) e ∙ digits_value-decimal own n wide in
    parse_plain own {E = E} 32 bs (Err f) reads (sign_free bs free)
    (subst (AllDigits 10) (sym e) (digits_decimal own n wide), subst (λ t. 0 < length t) (sym e) (decimal_nonempty n wide), omega (arith, same, small))
