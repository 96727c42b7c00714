-- What any reader has received.
use Rattle.std.proofs.Common.{◌≡◌, ℕ, ◌+◌, ◌≤◌, List, ◌∷◌, length, sym, refl, ap, subst, subst₂, arith, length-append}
use Rattle.trays.specs.declared.slots.Slot.{Slot}
use Rattle.records.specs.declared.frames.Frame.{Frame}
use Rattle.book.specs.declared.answers.Reading.{Reading}
use Rattle.book.specs.declared.listeners.Listener.{Listener}
use Rattle.book.specs.State.{Mark}
use Rattle.runs.specs.declared.asked.Call.{Call}
use Rattle.runs.specs.declared.asked.Call.TheVariants.{Since}
use Rattle.runs.specs.Answers.{Answer, Answer.gave}
use Rattle.runs.specs.Histories.{Event.◌⟶◌, History}
use Rattle.runs.specs.Kinds.{Kind, Same, Keeps}
use Rattle.runs.specs.Law.{entries, Rising, AsEntered, Reader, Reader.begins, Reader.waits, Reader.reads_on}
use Rattle.runs.proofs.Deeds.{Did}
use Rattle.runs.proofs.Deeds.{Did.entry, Did.started_list, Did.released_to, Did.listened, Did.gives, Did.quiet}
use Rattle.runs.proofs.Stores.{Store}
use Rattle.runs.proofs.Sinces.{learns, Learns, top, rising_append, rising_lower, top_append, entered_append, entered_later}
use Rattle.runs.proofs.Leaves.{tied, Ran, Ran.fresh, Ran.and_then, quiet_since}
use Rattle.runs.proofs.Tied.{Inv}

module _ {R : Type 0} where
  pub record Has (same : R → R → Type 0) (h : History R) (m : Mark) (fs : List (Frame R)) (k : ℕ) : Type 0 where
    pub sums : length fs + k ≡ m.1
    pub rises : Rising 0 fs
    pub tops : top 0 fs ≤ m.1
    pub entered_so : AsEntered same h fs

module _ {R V : Type 0} (K : Kind R V) (keeps : Keeps K) {row : List Slot} where
  -- The newest call, where it is an accepted since.
  pub newest_since : {s : Store} {ls : List Listener} {h before : History R} → Ran K row s ls h → (m : Mark) (l n : ℕ) (g : Reading) (fs : List (Frame R))
      → h ≡ (Since m l n ⟶ gave g fs) ∷ before → Learns K s before m g fs × (entries h ≡ entries before)
  newest_since fresh m l n g fs e = let w = ap length e in absurd (omega arith)
  newest_since {before = before} (and_then {s' = s'} {c = c} {a = a} {h = h} ran d) m l n g fs e =
      let e1 : (c ⟶ a) ≡ (Since m l n ⟶ gave g fs) = cc in
      let e2 : h ≡ before = cc in
      let P : History R → Type 0 = λ b. Learns K s' b m g fs × (entries ((c ⟶ a) ∷ h) ≡ entries b) in
      subst P e2 (by d (tied ran) e1)
    where
      by : {s s' : Store} {ls ls' : List Listener} {c : Call R} {a : Answer R} {h : History R} → Did K s ls c a s' ls'
          → Inv K (length row) s h → (c ⟶ a) ≡ (Since m l n ⟶ gave g fs) → Learns K s' h m g fs × (entries ((c ⟶ a) ∷ h) ≡ entries h)
      by (entry z) i q = let z : ◌≡◌ {A = ℕ} 0 1 = cc in absurd (omega arith)
      by started_list i q = let z : ◌≡◌ {A = ℕ} 0 1 = cc in absurd (omega arith)
      by (released_to x) i q = let z : ◌≡◌ {A = ℕ} 0 1 = cc in absurd (omega arith)
      by (listened x y) i q = let z : ◌≡◌ {A = ℕ} 0 1 = cc in absurd (omega arith)
      by {s} {h = h} (gives {m = m'} {l = l'} {n = n'} {g = g'} {fs = fs'} x) i q =
          let q1 : m' ≡ m = cc in
          let q2 : g' ≡ g = cc in
          let q3 : fs' ≡ fs = cc in
          let y = subst₂ (λ (u : Mark) (v : Reading). Learns K s h u v fs') q1 q2 (learns K keeps (length row) s h i m' l' n' g' fs' x) in
          let P : List (Frame R) → Type 0 = λ ys. Learns K s h m g ys in
          (subst P q3 y, refl)
      by (quiet x) i q = absurd (quiet_since m l n g fs x (sym q))

  pub has : {h : History R} {m : Mark} {fs : List (Frame R)} {k : ℕ} → Reader h m fs k → {s : Store} {ls : List Listener} → Ran K row s ls h → Has (Same K) h m fs k
  has begins ran = record { sums = refl; rises = tt; tops = omega arith; entered_so = tt }
  has (waits r) (and_then ran d) =
      let x = has r ran in
      record { sums = x.sums; rises = x.rises; tops = x.tops; entered_so = entered_later (Same K) _ _ _ x.entered_so }
  has (reads_on {h = h} {m = m} {frames = fs} {more = gs} {limit = l} {room = n} {reading = g} r) (and_then ran d) =
      let x = has r ran in
      let y = (newest_since (and_then ran d) m l n g gs refl).0 in
      record {
        sums = omega (arith, length-append fs gs, x.sums, y.stands, y.told);
        rises = rising_append 0 fs gs x.rises (rising_lower (top 0 fs) _ gs (omega (arith, x.tops)) y.rises);
        tops = omega (arith, top_append 0 fs gs, y.tops (top 0 fs) (omega (arith, x.tops)));
        entered_so = entered_later (Same K) _ _ _ (entered_append (Same K) h fs gs x.entered_so y.entered_so);
      }
