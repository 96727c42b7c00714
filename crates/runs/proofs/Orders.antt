-- Held times never fall.
use Rattle.std.proofs.Common.{◌≡◌, ℕ, suc, ◌<◌, ◌≤◌, Bool, List, [], ◌∷◌, length, Some, None, Ok, Err, Option, Result, sym, refl, ap, ◌∙◌, inl, inr, arith}
use Rattle.std.proofs.lemmas.Bool.{cases_lt, ltb-false}
use Rattle.trays.specs.declared.slots.Slot.{Slot}
use Rattle.records.specs.declared.fault.RecordFault.{RecordFault}
use Rattle.records.specs.declared.frames.Frame.{Frame}
use Rattle.book.specs.declared.listeners.Listener.{Listener}
use Rattle.runs.specs.declared.asked.Call.{Call}
use Rattle.runs.specs.declared.asked.Call.TheVariants.{Enter}
use Rattle.runs.specs.Answers.{Answer, Answer.entered}
use Rattle.runs.specs.Histories.{History}
use Rattle.runs.specs.Kinds.{Kind, Keeps}
use Rattle.trays.specs.declared.fault.TrayFault.{TrayFault}
use Rattle.book.specs.Told.{verdict, tell}
use Rattle.book.specs.State.{new_list}
use Rattle.book.specs.Calls.{enter_checks, enter_answer}
use Rattle.book.specs.Reads.{slot_of, frame_of, frame_in}
use Rattle.runs.specs.Answers.{as_entered}
use Rattle.runs.specs.Sound.{Sound}
use Rattle.runs.specs.Steps.{World, world, step, step_answer, after}
use Rattle.runs.proofs.Deeds.{Did, did}
use Rattle.runs.proofs.Deeds.{Did.entry, Did.started_list, Did.released_to, Did.listened, Did.gives, Did.quiet}
use Rattle.runs.proofs.Deeds.{clear}
use Rattle.runs.proofs.Stores.{Store, store_of, framed, put, left_to, apart, at_new, at_old, put_left}
use Rattle.runs.proofs.Tied.{Inv}
use Rattle.runs.proofs.Leaves.{Ran, Ran.fresh, Ran.and_then, tied}
use Rattle.runs.proofs.Sinces.{frame_is}

pub record Orderly (s : Store) : Type 0 where
  pub latest : (p : ℕ) (a : Slot) → s.left < p → p ≤ s.last → slot_of s.row p ≡ Ok a → a.time ≤ s.last_time
  pub rises : (p q : ℕ) (a b : Slot) → s.left < p → p ≤ q → q ≤ s.last → slot_of s.row p ≡ Ok a → slot_of s.row q ≡ Ok b → a.time ≤ b.time

orderly_left : (s : Store) (p : ℕ) → s.left ≤ p → Orderly s → Orderly (left_to s p)
orderly_left s p l o = record {
  latest = λ q a k k'. o.latest q a (omega arith) k';
  rises = λ q r a b k. o.rises q r a b (omega arith);
}

module _ {R V : Type 0} {K : Kind R V} {slots : ℕ} {h : History R} where
  -- a slot of an earlier frame is as it was, and the new one has the time of the entry
  module _ (s : Store) (t : ℕ) (ws : List ℕ) (z : 0 < length s.row) (i : Inv K slots s h) (o : Orderly s) (not_back : s.last_time ≤ t) where
    as_before : (p : ℕ) (a : Slot) → (put s t ws).left < p → p ≤ s.last → slot_of (put s t ws).row p ≡ Ok a → slot_of s.row p ≡ Ok a
    as_before p a k k' e =
        let pl = put_left s t ws in
        sym (at_old s t ws p (apart _ _ _ (omega (arith, pl)) (omega (arith, pl, i.low, i.room, i.size)))) ∙ e

    new_time : (p : ℕ) (a : Slot) → p ≡ suc s.last → slot_of (put s t ws).row p ≡ Ok a → a.time ≡ t
    new_time p a e f =
        let g : slot_of (put s t ws).row p ≡ Ok (framed t (suc s.last) ws) = ap (slot_of (put s t ws).row) e ∙ at_new s t ws z in
        let same : a ≡ framed t (suc s.last) ws = cc in
        ap (λ (x : Slot). x.time) same

    orderly_put : Orderly (put s t ws)
    orderly_put =
        let pl = put_left s t ws in
        record {
          latest = λ p a k k' e. elim (cases_lt s.last p) [
            | inl l ↦ let x = new_time p a (omega arith) e in omega arith
            | inr l ↦ omega (arith, o.latest p a (omega (arith, pl)) l (as_before p a k l e))
          ];
          rises = λ p q a b k l k' e f. elim (cases_lt s.last q) [
            | inl n ↦ let y = new_time q b (omega arith) f in elim (cases_lt s.last p) [
              | inl m ↦ let x = new_time p a (omega arith) e in omega arith
              | inr m ↦ omega (arith, o.latest p a (omega (arith, pl)) m (as_before p a k m e))
            ]
            | inr n ↦ o.rises p q a b (omega (arith, pl)) l n (as_before p a k (omega arith) e) (as_before q b (omega arith) n f)
          ];
        }

  pub orderly_did : {s s' : Store} {ls ls' : List Listener} {c : Call R} {a : Answer R} → Did K s ls c a s' ls'
      → ((t : ℕ) (r : R) (p : ℕ) (cs : List Bool) → c ≡ Enter t r → a ≡ entered p cs → s.last_time ≤ t) → Inv K slots s h → Orderly s → Orderly s'
  orderly_did (entry {t = t} {r = r} z) not_back i o = orderly_put _ t (K.writes r) z i o (not_back t r _ _ refl refl)
  orderly_did started_list not_back i o = orderly_left _ _ i.low o
  orderly_did (released_to l) not_back i o = orderly_left _ _ (omega arith) o
  orderly_did (listened l l') not_back i o = o
  orderly_did (gives x) not_back i o = o
  orderly_did (quiet q) not_back i o = o

-- an accepted entry's time is not below the last
module _ {R : Type 0} (w : World) where
  pub by_verdict : (t p : ℕ) (cs : List Bool) (v : Option ℕ) → verdict (enter_checks w.state t (length w.row)) ≡ v
      → ◌≡◌ {A = Answer R} (as_entered (tell v (enter_answer w.state t (length w.row)))) (entered p cs) → w.state.last_time ≤ t
  by_verdict t p cs (Some n) e f = absurd (let z : ◌≡◌ {A = ℕ} 0 1 = cc in omega arith)
  by_verdict t p cs None e f = ltb-false _ _ (clear (enter_checks w.state t (length w.row)) e).1.0

  pub never_back : (reads : List ℕ → Result R RecordFault) (c : Call R) (t : ℕ) (r : R) (p : ℕ) (cs : List Bool) → c ≡ Enter t r → step_answer reads c w ≡ entered p cs → w.state.last_time ≤ t
  never_back reads c t r p cs e f = by_verdict t p cs _ refl (ap (λ (x : Call R). step_answer reads x w) (sym e) ∙ f)

module _ {R V : Type 0} (K : Kind R V) (row : List Slot) where
  orderly_on : (w : World) (h : History R) → Ran K row (store_of w) w.state.listeners h → Orderly (store_of w) → (calls : List (Call R))
      → ((h' : History R) × Ran K row (store_of (after K.writes w calls)) (after K.writes w calls).state.listeners h') × Orderly (store_of (after K.writes w calls))
  orderly_on w h ran o [] = ((h, ran), o)
  orderly_on w h ran o (c ∷ calls) =
      orderly_on (step K.writes c w) _ (and_then ran (did K w c)) (orderly_did (did K w c) (never_back w K.reads c) (tied ran) o) calls

  -- the time of a frame is that of its slot
  time_in : (x : Result Slot TrayFault) (f : Frame R) → frame_in K.reads x ≡ Ok f → (a : Slot) × (x ≡ Ok a) × (a.time ≡ f.time)
  time_in (Ok a) f e = (a, refl, go (K.reads a.words) e)
    where
      go : (y : Result R RecordFault) → frame_of a y ≡ Ok f → a.time ≡ f.time
      go (Ok b) e' = let same : record { time = a.time; position = a.position; body = b } ≡ f = cc in ap (λ (g : Frame R). g.time) same
      go (Err fault) e' = absurd (let z : ◌≡◌ {A = ℕ} 0 1 = cc in omega arith)
  time_in (Err fault) f e = absurd (let z : ◌≡◌ {A = ℕ} 0 1 = cc in omega arith)

  -- nothing is held in a new list
  pub orderly_new : (number : ℕ) → Orderly (store_of (world number new_list row))
  orderly_new number = record { latest = λ p a k k'. absurd (omega arith); rises = λ p q a b k l k'. absurd (omega arith) }

  pub sound_of : Keeps K → (w : World) (h : History R) → Ran K row (store_of w) w.state.listeners h → Orderly (store_of w) → Sound K.reads w
  sound_of keeps w h ran o =
      let i = tied ran in
      record {
        order = i.low;
        few = omega (arith, i.room, i.size);
        held = λ p k k'. let f = frame_is keeps i p k k' in (f.0, f.1, f.6);
        times = λ p q f g k l k' e e'.
            let a = time_in (slot_of w.row p) f e in
            let b = time_in (slot_of w.row q) g e' in
            omega (arith, o.rises p q a.0 b.0 k l k' a.1 b.1, a.2, b.2);
        latest = λ p f k k' e.
            let a = time_in (slot_of w.row p) f e in
            omega (arith, o.latest p a.0 k k' a.1, a.2);
      }

  pub sound : Keeps K → (number : ℕ) (calls : List (Call R)) → Sound K.reads (after K.writes (world number new_list row) calls)
  sound keeps number calls =
      let x = orderly_on (world number new_list row) [] fresh (orderly_new number) calls in
      sound_of keeps (after K.writes (world number new_list row) calls) x.0.0 x.0.1 x.1
