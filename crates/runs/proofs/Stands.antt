-- The law of the runs.
use Rattle.std.proofs.Common.{◌≡◌, ℕ, zero, suc, ◌-◌, ◌*◌, ◌<◌, ◌≤◌, min, max, Bool, false, ltb, ◌↔◌, List, [], ◌∷◌, ◌++◌, length, get_or, take, sym, refl, ap, ◌∙◌, subst, subst₂, inl, inr, arith}
use Rattle.std.proofs.lemmas.List.{get_or-map}
use Rattle.std.proofs.lemmas.Bool.{lt-ltb, ltb-true, cases_lt}
use Rattle.trays.specs.declared.slots.Slot.{Slot}
use Rattle.records.specs.declared.frames.Frame.{Frame}
use Rattle.book.specs.declared.answers.Reading.{Reading}
use Rattle.book.specs.declared.listeners.Listener.{Listener}
use Rattle.book.specs.State.{Mark}
use Rattle.runs.specs.declared.asked.Call.{Call}
use Rattle.runs.specs.declared.asked.Call.TheVariants.{Enter, Since}
use Rattle.runs.specs.Answers.{Answer, Answer.entered, Answer.gave}
use Rattle.runs.specs.Histories.{Event.◌⟶◌, History, ◌∈◌}
use Rattle.runs.specs.Kinds.{Kind, Same, Keeps}
use Rattle.book.specs.State.{new_list}
use Rattle.runs.specs.Histories.{Number, Fitting, happened}
use Rattle.runs.specs.Histories.{Fitting.refusal as fit_refusal, Fitting.entry as fit_entry, Fitting.started, Fitting.stopped, Fitting.modal as fit_modal, Fitting.released, Fitting.heard, Fitting.read_since, Fitting.read_oldest, Fitting.read_youngest, Fitting.read_span, Fitting.taken as fit_taken, Fitting.handed as fit_handed}
use Rattle.runs.specs.Law.{entries, Gone, Held, Listening, Law}
use Rattle.runs.specs.Steps.{World, world, step, step_answer, answers, after}
use Rattle.runs.specs.Throughout.{would, Throughout}
use Rattle.runs.proofs.Deeds.{Quiet, Did, did}
use Rattle.runs.proofs.Deeds.{Quiet.refusal, Quiet.stopped_list, Quiet.modal, Quiet.oldest_given, Quiet.youngest_given, Quiet.span_given, Quiet.taken, Quiet.handed}
use Rattle.runs.proofs.Deeds.{Did.entry, Did.started_list, Did.released_to, Did.listened, Did.gives, Did.quiet}
use Rattle.runs.proofs.Stores.{Store, store_of, calls_at}
use Rattle.runs.proofs.Tied.{newest}
use Rattle.runs.proofs.Leaves.{none_in, Ran, Ran.fresh, Ran.and_then, tied, gone_left, held_left, left_held}
use Rattle.runs.proofs.Counts.{number_range}
use Rattle.runs.proofs.Readers.{has, newest_since}
use Rattle.runs.proofs.Parties.{nobody, four, party_is, calls_whom, party_listens}

-- each call is answered in its own way
module _ {R : Type 0} where
  quiet_fits : {c : Call R} {a : Answer R} → Quiet c a → Fitting c a
  quiet_fits refusal = fit_refusal
  quiet_fits stopped_list = stopped
  quiet_fits modal = fit_modal
  quiet_fits oldest_given = read_oldest
  quiet_fits youngest_given = read_youngest
  quiet_fits span_given = read_span
  quiet_fits taken = fit_taken
  quiet_fits handed = fit_handed

  did_fits : {V : Type 0} {K : Kind R V} {s s' : Store} {ls ls' : List Listener} {c : Call R} {a : Answer R} → Did K s ls c a s' ls' → Fitting c a
  did_fits (entry z) = fit_entry
  did_fits started_list = started
  did_fits (released_to l) = released
  did_fits (listened l l') = heard
  did_fits (gives x) = read_since
  did_fits (quiet q) = quiet_fits q

  fits_at : {c d : Call R} {a b : Answer R} → (c ⟶ a) ≡ (d ⟶ b) → Fitting d b → Fitting c a
  fits_at {c} {d} {a} {b} e f =
      let e1 : d ≡ c = cc in
      let e2 : b ≡ a = cc in
      subst₂ (λ (x : Call R) (y : Answer R). Fitting x y) e1 e2 f

  fits : {V : Type 0} {K : Kind R V} {row : List Slot} {s : Store} {ls : List Listener} {h : History R} → Ran K row s ls h
      → (c : Call R) (a : Answer R) → (c ⟶ a) ∈ h → Fitting c a
  fits fresh c a m = absurd (none_in m)
  fits (and_then ran d) c a m = elim (newest m) [ inl e ↦ fits_at e (did_fits d) | inr m' ↦ fits ran c a m' ]

module _ {R V : Type 0} (K : Kind R V) (keeps : Keeps K) (row : List Slot) (w : World) (h : History R)
    (ran : Ran K row (store_of w) w.state.listeners h) where
  abbrev now : Call R → Answer R
  now c = step_answer K.reads c w

  abbrev Hd : ℕ → Type 0
  Hd p = Held h now p

  is_held : (p : ℕ) → w.state.gone < p → p ≤ w.state.last → Hd p
  is_held = left_held K keeps (length row) w h (tied ran)

  is_in_list : (p : ℕ) → Hd p → (w.state.gone < p) × (p ≤ w.state.last)
  is_in_list = held_left K keeps (length row) w h (tied ran)

  gone : (later before : History R) (t p : ℕ) (r : R) (cs : List Bool) → h ≡ later ++ ((Enter t r ⟶ entered p cs) ∷ before)
      → (Hd p → ⊥) ↔ Gone (length row) later p
  gone later before t p r cs e =
      let x = gone_left ran later before t p r cs e in (
        (λ n. elim (cases_lt w.state.gone p) [
          | inl l ↦ absurd (n (is_held p l (omega (arith, x.1))))
          | inr l ↦ x.2.0 l
        ]),
        (λ g k. let y = is_in_list p k in omega (arith, x.2.1 g, y.0)),
      )

  missed : (m : Mark) (l n : ℕ) (g : Reading) (fs : List (Frame R)) (before : History R) → h ≡ (Since m l n ⟶ gave g fs) ∷ before
      → Number (λ p. (m.1 < p) × (Hd p → ⊥)) (entries h) g.missed
  missed m l n g fs before e =
      let i = tied ran in
      let P : ℕ → Type 0 = λ p. (m.1 < p) × (Hd p → ⊥) in
      let y = (newest_since K keeps ran m l n g fs e).0 in
      let z : min w.state.gone w.state.last - m.1 ≡ g.missed = omega (arith, y.told, i.low) in
      subst₂ (λ (a k : ℕ). Number P a k) i.counted z
      (number_range P m.1 w.state.gone w.state.last
      (λ p o o'. (
        (λ x. (
          x.0,
          elim (cases_lt w.state.gone p) [
            | inl v ↦ absurd (x.1 (is_held p v o'))
            | inr v ↦ v
          ],
        )),
        (λ x. (x.0, λ k. let y = is_in_list p k in omega (arith, x.1, y.0))),
      )))

  held_count : (a : ℕ) → Number (λ q. (a < q) × Hd q) (entries h) (w.state.last - max w.state.gone a)
  held_count a =
      let i = tied ran in
      let P : ℕ → Type 0 = λ q. (a < q) × Hd q in
      let e : min w.state.last w.state.last - max w.state.gone a ≡ w.state.last - max w.state.gone a = omega arith in
      subst₂ (λ (n k : ℕ). Number P n k) i.counted e
      (number_range P (max w.state.gone a) w.state.last w.state.last
      (λ p o o'. (
        (λ y. let x = is_in_list p y.1 in (omega (arith, x.0, y.0), o')),
        (λ y. (omega (arith, y.0), is_held p (omega (arith, y.0)) o')),
      )))

  -- whom the newest entry calls
  calls_is : {s' : Store} {ls' : List Listener} {h' : History R} (t p i f : ℕ) (r : R) (cs : List Bool) (before : History R) (m : Mark)
      → Ran K row s' ls' h' → h' ≡ (Enter t r ⟶ entered p cs) ∷ before → 1 ≤ i → i ≤ 4 → Listening before i m f
      → get_or cs (i - 1) false ≡ ltb (f * length row) (100 * (s'.last - max s'.left m.1))
  calls_is t p i f r cs before m fresh e o o' li = let x = ap length e in absurd (omega arith)
  calls_is t p i f r cs before m (and_then {s' = s'} {ls = ls} {c = c} {a = a} {h = h''} ran' d) e o o' li =
      let e1 : (c ⟶ a) ≡ (Enter t r ⟶ entered p cs) = cc in
      let e2 : before ≡ h'' = cc in
      let P : History R → Type 0 = λ b. Listening b i m f in
      let pa = party_is ran' i m f o o' (subst P e2 li) in
      ap (λ (b : List Bool). get_or b (i - 1) false) (calls_whom t p r cs d e1)
      ∙ get_or-map (calls_at s') ls (i - 1) nobody false (omega (arith, four ran'))
      ∙ ap (calls_at s') pa
      ∙ ap (λ (n : ℕ). ltb (f * n) (100 * (s'.last - max s'.left m.1))) (tied (and_then ran' d)).size

  -- a book that calls have led to obeys the law
  pub law_here : Law (Same K) (length row) h now
  law_here = record {
    answered = fits ran;
    numbered = λ later before t p r cs e. (gone_left ran later before t p r cs e).0;
    complete = λ m fs k r. (has K keeps r ran).sums;
    faithful = λ m fs k r. ((has K keeps r ran).rises, (has K keeps r ran).entered_so);
    at_the_end = λ m l n g fs before e x. (newest_since K keeps ran m l n g fs e).0.none_follows x ∙ (tied ran).counted;
    gone = gone;
    missed = missed;
    listening = λ i o o'. party_listens ran i;
    calls = λ t p i f r cs before m e o o' li.
        let x = calls_is t p i f r cs before m ran e o o' li in (
          w.state.last - max w.state.gone m.1,
          held_count m.1,
          ((λ z. ltb-true _ _ (sym x ∙ z)), (λ z. x ∙ lt-ltb _ _ z)),
        );
  }

module _ {R V : Type 0} (K : Kind R V) (row : List Slot) where
  abbrev RanTo : World → History R → Type 0
  RanTo w h = Ran K row (store_of w) w.state.listeners h

  ran_on : (w : World) (h : History R) → RanTo w h → (calls : List (Call R))
      → RanTo (after K.writes w calls) (happened calls (answers K.reads K.writes w calls) h)
  ran_on w h ran [] = ran
  ran_on w h ran (c ∷ calls) = ran_on (step K.writes c w) ((c ⟶ step_answer K.reads c w) ∷ h) (and_then ran (did K w c)) calls

  take_answers : (n : ℕ) (w : World) (calls : List (Call R)) → answers K.reads K.writes w (take n calls) ≡ take n (answers K.reads K.writes w calls)
  take_answers zero w calls = refl
  take_answers (suc n) w [] = refl
  take_answers (suc n) w (c ∷ calls) = ap (λ rest. step_answer K.reads c w ∷ rest) (take_answers n (step K.writes c w) calls)

  pub throughout : Keeps K → (number : ℕ) (calls : List (Call R)) (given : List (Answer R))
      → given ≡ answers K.reads K.writes (world number new_list row) calls → Throughout K number row calls given
  throughout keeps number calls given e n =
      let w : World = world number new_list row in
      let done_so : answers K.reads K.writes w (take n calls) ≡ take n given = take_answers n w calls ∙ ap (take n) (sym e) in
      let P : List (Answer R) → Type 0 = λ bs. Law (Same K) (length row) (happened (take n calls) bs []) (would K number row (take n calls)) in
      subst P done_so (law_here K keeps row (after K.writes w (take n calls)) _ (ran_on w [] fresh (take n calls)))
