-- Counting the numbers of a range.
use Rattle.std.proofs.Common.{◌≡◌, ℕ, zero, suc, ◌-◌, ◌<◌, ◌≤◌, min, ◌↔◌, subst, inl, inr, arith}
use Rattle.std.proofs.lemmas.Bool.{cases_lt}
use Rattle.runs.specs.Histories.{Number, Number.none_yet, Number.one_more, Number.passed}

-- where P holds of the numbers above a and up to b, and of no other up to n
pub number_range : (P : ℕ → Type 0) (a b n : ℕ) → ((p : ℕ) → 1 ≤ p → p ≤ n → P p ↔ ((a < p) × (p ≤ b))) → Number P n (min b n - a)
number_range P a b zero e = let Q : ℕ → Type 0 = λ k. Number P 0 k in let z : 0 ≡ min b 0 - a = omega arith in subst Q z none_yet
number_range P a b (suc n) e =
    let ih = number_range P a b n (λ p l l'. e p l (omega arith)) in
    let Q : ℕ → Type 0 = λ k. Number P (suc n) k in
    let w = e (suc n) (omega arith) (omega arith) in
    elim (cases_lt a (suc n)) [
      | inl l ↦ elim (cases_lt b (suc n)) [
        | inl l' ↦ let z : min b n - a ≡ min b (suc n) - a = omega arith in subst Q z (passed (λ x. omega (arith, (w.0 x).1)) ih)
        | inr l' ↦ let z : suc (min b n - a) ≡ min b (suc n) - a = omega arith in subst Q z (one_more (w.1 (l, l')) ih)
      ]
      | inr l ↦ let z : min b n - a ≡ min b (suc n) - a = omega arith in subst Q z (passed (λ x. omega (arith, (w.0 x).0)) ih)
    ]
