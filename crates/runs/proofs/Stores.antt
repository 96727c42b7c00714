-- Where frames lie in the row, and what an entry and a leaving do to it.
use Rattle.std.proofs.Common.{◌≡◌, ℕ, zero, suc, ◌+◌, ◌-◌, ◌*◌, ◌/◌, ◌%◌, ◌<◌, ◌≤◌, max, Bool, true, false, cond, ltb, leb, ◌≢◌, ◌⊎◌, List, [], ◌∷◌, length, set, Ok, refl, ap, ◌∙◌, inl, inr, le_of_suc-le-suc, mul-le-mul_right, arith, length-set}
use Rattle.std.proofs.lemmas.Nat.{div-add-mod', mod_below}
use Rattle.std.proofs.lemmas.Bool.{cases_lt, leb-true, leb-false}
use Rattle.trays.specs.declared.slots.Slot.{Slot}
use Rattle.trays.specs.Rows.{look_answer}
use Rattle.book.specs.declared.listeners.Listener.{Listener}
use Rattle.book.specs.Reads.{slot_of}
use Rattle.runs.specs.Steps.{World}

-- frames 1 to last were accepted, and of them 1 to left have left the list
pub record Store : Type 0 where
  pub row : List Slot
  pub left : ℕ
  pub last : ℕ
  pub last_time : ℕ

abbrev pub store_of : World → Store
store_of w = record { row = w.row; left = w.state.gone; last = w.state.last; last_time = w.state.last_time }

abbrev pub full : Store → Bool
full s = leb (length s.row) (s.last - s.left)

abbrev pub framed : ℕ → ℕ → List ℕ → Slot
framed time position words = record { time = time; position = position; words = words }

abbrev pub put : Store → ℕ → List ℕ → Store
put s time words = record {
  row = set s.row (s.last % length s.row) (framed time (suc s.last) words);
  left = cond (full s) (suc s.left) s.left;
  last = suc s.last;
  last_time = time;
}

abbrev pub left_to : Store → ℕ → Store
left_to s p = record { row = s.row; left = p; last = s.last; last_time = s.last_time }

abbrev pub calls_at : Store → Listener → Bool
calls_at s l = ltb (l.fill * length s.row) (100 * (s.last - max s.left l.mark.1))

module _ {S : Type 0} where
  look_same : (row : List S) (i : ℕ) (s : S) → i < length row → look_answer (set row i s) i ≡ Ok s
  unfolding look_answer
  look_same [] i s h = absurd (omega arith)
  look_same (x ∷ row) zero s h = refl
  look_same (x ∷ row) (suc i) s h = look_same row i s (le_of_suc-le-suc h)

  look_other : (row : List S) (i j : ℕ) (s : S) → j ≢ i → look_answer (set row i s) j ≡ look_answer row j
  unfolding look_answer
  look_other [] i j s h = refl
  look_other (x ∷ row) zero zero s h = absurd (h refl)
  look_other (x ∷ row) zero (suc j) s h = refl
  look_other (x ∷ row) (suc i) zero s h = refl
  look_other (x ∷ row) (suc i) (suc j) s h = look_other row i j s (λ e. h (ap suc e))

-- two numbers less than n apart have other remainders
pub apart : (a b n : ℕ) → a < b → b < a + n → a % n ≢ b % n
apart a b n l h e =
    let da = div-add-mod' a n in
    let db = div-add-mod' b n in
    elim (cases_lt (a / n) (b / n)) [
      | inl q ↦ let m : suc (a / n) * n ≤ b / n * n = mul-le-mul_right n q in omega arith
      | inr q ↦ let m : b / n * n ≤ a / n * n = mul-le-mul_right n q in omega arith
    ]

-- the slots after an accepted entry
pub at_new : (s : Store) (t : ℕ) (ws : List ℕ) → 0 < length s.row → slot_of (put s t ws).row (suc s.last) ≡ Ok (framed t (suc s.last) ws)
at_new s t ws h =
    let i : s.last % length s.row < length s.row = mod_below _ _ h in
    let e : suc s.last - 1 ≡ s.last = omega arith in
    ap (λ n. look_answer (put s t ws).row ((suc s.last - 1) % n)) (length-set s.row _ _)
    ∙ ap (λ k. look_answer (put s t ws).row (k % length s.row)) e
    ∙ look_same s.row (s.last % length s.row) _ i

pub at_old : (s : Store) (t : ℕ) (ws : List ℕ) (p : ℕ) → (p - 1) % length s.row ≢ s.last % length s.row → slot_of (put s t ws).row p ≡ slot_of s.row p
at_old s t ws p h =
    ap (λ n. look_answer (put s t ws).row ((p - 1) % n)) (length-set s.row _ _)
    ∙ look_other s.row (s.last % length s.row) ((p - 1) % length s.row) _ h

-- in ring mode the oldest frame leaves a full list
pub put_left : (s : Store) (t : ℕ) (ws : List ℕ)
    → ((length s.row ≤ s.last - s.left) × ((put s t ws).left ≡ suc s.left))
    ⊎ ((s.last - s.left < length s.row) × ((put s t ws).left ≡ s.left))
put_left s t ws = go (full s) refl
  where
    go : (b : Bool) → full s ≡ b
        → ((length s.row ≤ s.last - s.left) × (cond b (suc s.left) s.left ≡ suc s.left))
        ⊎ ((s.last - s.left < length s.row) × (cond b (suc s.left) s.left ≡ s.left))
    go true e = inl (leb-true _ _ e, refl)
    go false e = inr (leb-false _ _ e, refl)
