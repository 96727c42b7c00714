-- Reading frames one after another.
use Rattle.std.proofs.Common.{◌≡◌, ℕ, suc, ◌+◌, ◌-◌, ◌<◌, List, ◌∷◌, Ok, Err, Result, sym, refl, ap, ◌∙◌, arith}
use Rattle.fields.specs.declared.value.RawFrame.{RawFrame}
use Rattle.fields.specs.Reading.{Rest, frame_at}
use Rattle.reading_end.specs.Layouts.{then, frames_at, frames_fault}

fault_then : (p : RawFrame) (o : Result (List RawFrame × Rest) ℕ) → frames_fault (then o (λ fs s. Ok (p ∷ fs, s))) ≡ frames_fault o
fault_then p (Ok q) = refl
fault_then p (Err e) = refl

pub fault_more : (n i : ℕ) (s t : Rest) (p : RawFrame) → i < n → Ok (p, t) ≡ frame_at s → frames_fault (frames_at (n - i) s) ≡ frames_fault (frames_at (n - (i + 1)) t)
fault_more n i s t p lt e =
    let m : n - i ≡ suc (n - (i + 1)) = omega arith in
    ap (λ k. frames_fault (frames_at k s)) m
    ∙ ap (λ o. frames_fault (then o (λ f u. then (frames_at (n - (i + 1)) u) (λ fs v. Ok (f ∷ fs, v))))) (sym e)
    ∙ fault_then p (frames_at (n - (i + 1)) t)

pub fault_stops : (n i : ℕ) (s : Rest) (a : ℕ) → i < n → Err a ≡ frame_at s → frames_fault (frames_at (n - i) s) ≡ Err (record { at = a })
fault_stops n i s a lt e =
    let m : n - i ≡ suc (n - (i + 1)) = omega arith in
    ap (λ k. frames_fault (frames_at k s)) m
    ∙ ap (λ o. frames_fault (then o (λ f u. then (frames_at (n - (i + 1)) u) (λ fs v. Ok (f ∷ fs, v))))) (sym e)
