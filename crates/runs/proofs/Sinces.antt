-- What a since gives.
use Rattle.std.proofs.Common.{◌≡◌, ℕ, zero, suc, ◌+◌, ◌-◌, ◌<◌, ◌≤◌, min, max, Bool, true, false, cond, eqb, ltb, ◌⊎◌, List, [], ◌∷◌, ◌++◌, length, take, Ok, Err, Result, sym, refl, ap, ◌∙◌, subst, subst₂, arith, length-take}
use Rattle.std.proofs.lemmas.Bool.{ltb-false, eqb-true}
use Rattle.records.specs.declared.fault.RecordFault.{RecordFault}
use Rattle.records.specs.declared.frames.Frame.{Frame}
use Rattle.book.specs.declared.answers.Reading.{Reading}
use Rattle.book.specs.declared.listeners.Listener.{Listener}
use Rattle.book.specs.State.{Mark}
use Rattle.runs.specs.declared.asked.Call.TheVariants.{Since}
use Rattle.runs.specs.Answers.{Answer, Answer.gave}
use Rattle.runs.specs.Histories.{Event, History, ◌∈◌.there}
use Rattle.runs.specs.Kinds.{Kind, Same, Keeps}
use Rattle.records.specs.Laws.{ReadsBack}
use Rattle.book.specs.declared.fault.BookFault.{BookFault}
use Rattle.book.specs.declared.answers.Status.{Status}
use Rattle.book.specs.declared.answers.Status.TheVariants.{Follow, NoFollow, NoFrame}
use Rattle.book.specs.Told.{status_number}
use Rattle.book.specs.Reads.{frame_of, frame_in, frame_at, then_on, frames, till_mark_of, status_of_read}
use Rattle.runs.specs.Steps.{World, step_answer}
use Rattle.runs.specs.Law.{Accepted, Rising, AsEntered, Ends}
use Rattle.runs.proofs.Deeds.{Quiet, Did, did, SinceGave, held_frames}
use Rattle.runs.proofs.Deeds.{Quiet.refusal}
use Rattle.runs.proofs.Deeds.{Did.gives, Did.quiet}
use Rattle.runs.proofs.Stores.{Store, store_of, framed}
use Rattle.runs.proofs.Tied.{Inv}

-- told that none follows, all that were wanted were given
status_end : (given all k : ℕ) → given ≡ min k all → 1 ≤ k
    → (status_number (status_of_read given (ltb k all)) ≡ 2) ⊎ (status_number (status_of_read given (ltb k all)) ≡ 3) → given ≡ all
status_end given all k e o w = go (eqb given 0) (ltb k all) refl refl w
  where
    go : (none more : Bool) → eqb given 0 ≡ none → ltb k all ≡ more
        → (status_number (cond none NoFrame (cond more Follow NoFollow)) ≡ 2) ⊎ (status_number (cond none NoFrame (cond more Follow NoFollow)) ≡ 3) → given ≡ all
    go true more en em v = let h : given ≡ 0 = eqb-true given 0 en in omega arith
    go false true en em v = absurd (omega arith)
    go false false en em v = let h : all ≤ k = ltb-false k all em in omega arith

module _ {R : Type 0} where
  -- the number of the last frame, p where there is none
  abbrev pub top : ℕ → List (Frame R) → ℕ
  top p [] = p
  top p (f ∷ fs) = top f.position fs

  pub rising_append : (p : ℕ) (fs gs : List (Frame R)) → Rising p fs → Rising (top p fs) gs → Rising p (fs ++ gs)
  rising_append p [] gs x y = y
  rising_append p (f ∷ fs) gs x y = (x.0, rising_append f.position fs gs x.1 y)

  pub rising_lower : (p q : ℕ) (fs : List (Frame R)) → p ≤ q → Rising q fs → Rising p fs
  rising_lower p q [] l x = tt
  rising_lower p q (f ∷ fs) l x = (omega (arith, x.0), x.1)

  pub top_append : (p : ℕ) (fs gs : List (Frame R)) → top p (fs ++ gs) ≡ top (top p fs) gs
  top_append p [] gs = refl
  top_append p (f ∷ fs) gs = top_append f.position fs gs

  pub entered_append : (same : R → R → Type 0) (h : History R) (fs gs : List (Frame R)) → AsEntered same h fs → AsEntered same h gs → AsEntered same h (fs ++ gs)
  entered_append same h [] gs x y = y
  entered_append same h (f ∷ fs) gs x y = (x.0, entered_append same h fs gs x.1 y)

  pub entered_later : (same : R → R → Type 0) (e : Event R) (h : History R) (fs : List (Frame R)) → AsEntered same h fs → AsEntered same (e ∷ h) fs
  entered_later same e h [] x = tt
  entered_later same e h (f ∷ fs) x = ((x.0.0, (x.0.1.0, there x.0.1.1), x.0.2), entered_later same e h fs x.1)

  pub frames_none : (at : ℕ → Result (Frame R) BookFault) (p : ℕ) → frames at zero p ≡ []
  unfolding frames
  frames_none at p = refl

  pub frames_one : (at : ℕ → Result (Frame R) BookFault) (n p : ℕ) (f : Frame R) → at p ≡ Ok f → frames at (suc n) p ≡ f ∷ frames at n (p + 1)
  unfolding frames
  frames_one at n p f e = ap (λ (x : Result (Frame R) BookFault). then_on x (frames at n (p + 1))) e

  module _ {V : Type 0} {K : Kind R V} (keeps : Keeps K) {slots : ℕ} {s : Store} {h : History R} (i : Inv K slots s h) where
    -- the words of a record read back as one that means the same
    pub reads_back : (r : R) (x : Result R RecordFault) → K.reads (K.writes r) ≡ x → ReadsBack K.means x r
        → (b : R) × (K.reads (K.writes r) ≡ Ok b) × (K.means r ≡ K.means b)
    reads_back r (Ok b) e k = (b, e, sym k)
    reads_back r (Err fault) e k = absurd k

    -- a held frame is as entered
    pub frame_is : (p : ℕ) → s.left < p → p ≤ s.last
        → (f : Frame R) × (frame_at K.reads s.row p ≡ Ok f)
        × (t : ℕ) × (r : R) × Accepted h p t r × (f.time ≡ t) × (f.position ≡ p) × Same K r f.body
    frame_is p l l' =
        let x = i.every p (omega arith) l' in
        let e = i.stored p x.0 x.1 x.2 l in
        let b = reads_back x.1 _ refl (keeps x.1) in (
          record { time = x.0; position = p; body = b.0 },
          ap (frame_in K.reads) e ∙ ap (frame_of (framed x.0 p (K.writes x.1))) b.1,
          x.0,
          x.1,
          x.2,
          refl,
          refl,
          b.2,
        )

    pub record Run (p : ℕ) (fs : List (Frame R)) : Type 0 where
      pub rises : Rising p fs
      pub entered_so : AsEntered (Same K) h fs
      pub ends : (m : Mark) → m.1 ≡ p → (till_mark_of m fs).1 ≡ p + length fs
      pub tops : (q : ℕ) → q ≤ p → top q fs ≤ p + length fs

    none_run : (p : ℕ) → Run p []
    none_run p = record { rises = tt; entered_so = tt; ends = λ m e. omega arith; tops = λ q l. omega arith }

    one_run : (p : ℕ) (f : Frame R) (fs : List (Frame R)) (t : ℕ) (r : R) → Accepted h (p + 1) t r → f.time ≡ t → f.position ≡ p + 1 → Same K r f.body
        → Run (p + 1) fs → Run p (f ∷ fs)
    one_run p f fs t r a et ep same rest =
        let P : ℕ → Type 0 = λ q. Rising q fs in
        let Q : ℕ → ℕ → Type 0 = λ q u. Accepted h q u r in
        record {
          rises = (omega arith, subst P (sym ep) rest.rises);
          entered_so = ((r, subst₂ Q (sym ep) (sym et) a, same), rest.entered_so);
          ends = λ m e. omega (arith, rest.ends (f.time, f.position) ep);
          tops = λ q l. omega (arith, rest.tops f.position (omega arith));
        }

    pub runs : (k n p : ℕ) → s.left ≤ p → p + n ≤ s.last → Run p (take k (frames (frame_at K.reads s.row) n (p + 1)))
    runs zero n p l l' = none_run p
    runs (suc k) zero p l l' = let P : List (Frame R) → Type 0 = λ fs. Run p (take (suc k) fs) in subst P (sym (frames_none _ (p + 1))) (none_run p)
    runs (suc k) (suc n) p l l' =
        let x = frame_is (p + 1) (omega arith) (omega arith) in
        let P : List (Frame R) → Type 0 = λ fs. Run p (take (suc k) fs) in
        subst P (sym (frames_one _ n (p + 1) x.0 x.1))
        (one_run p x.0 _ x.2 x.3 x.4 x.5 x.6 x.7 (runs k n (p + 1) (omega arith) (omega arith)))

    pub length_frames : (n p : ℕ) → s.left ≤ p → p + n ≤ s.last → length (frames (frame_at K.reads s.row) n (p + 1)) ≡ n
    length_frames zero p l l' = ap length (frames_none _ (p + 1))
    length_frames (suc n) p l l' =
        let x = frame_is (p + 1) (omega arith) (omega arith) in
        ap length (frames_one _ n (p + 1) x.0 x.1) ∙ ap suc (length_frames n (p + 1) (omega arith) (omega arith))

    pub ends_at : (k n p t : ℕ) → 1 ≤ k → s.left ≤ p → p + n ≡ s.last
        → (till_mark_of (t, s.last) (take k (frames (frame_at K.reads s.row) n (p + 1)))).1 ≡ p + length (take k (frames (frame_at K.reads s.row) n (p + 1)))
    ends_at zero n p t o l e = absurd (omega arith)
    ends_at (suc k) zero p t o l e =
        let P : List (Frame R) → Type 0 = λ fs. (till_mark_of (t, s.last) (take (suc k) fs)).1 ≡ p + length (take (suc k) fs) in
        subst P (sym (frames_none _ (p + 1))) (omega arith)
    ends_at (suc k) (suc n) p t o l e =
        let x = frame_is (p + 1) (omega arith) (omega arith) in
        let P : List (Frame R) → Type 0 = λ fs. (till_mark_of (t, s.last) (take (suc k) fs)).1 ≡ p + length (take (suc k) fs) in
        let rest = runs k n (p + 1) (omega arith) (omega arith) in
        subst P (sym (frames_one _ n (p + 1) x.0 x.1)) (omega (arith, rest.ends (x.0.time, x.0.position) x.6))

  -- an accepted since, by its answer
  pub since_gave : {V : Type 0} (K : Kind R V) (w : World) (m : Mark) (l n : ℕ) (g : Reading) (fs : List (Frame R))
      → step_answer K.reads (Since m l n) w ≡ gave g fs → SinceGave K (store_of w) m l n g fs
  since_gave K w m l n g fs e = by (did K w (Since m l n)) e
    where
      by : {s' : Store} {ls ls' : List Listener} {a : Answer R} → Did K (store_of w) ls (Since m l n) a s' ls' → a ≡ gave g fs → SinceGave K (store_of w) m l n g fs
      by (gives {g = g'} {fs = fs'} x) e' =
          let v : g' ≡ g = cc in
          let u : fs' ≡ fs = cc in
          subst₂ (λ (y : Reading) (ys : List (Frame R)). SinceGave K (store_of w) m l n y ys) v u x
      by (quiet q) e' = absurd (never q e')
        where
          never : {a : Answer R} → Quiet (Since m l n) a → a ≡ gave g fs → ⊥
          never refusal e'' = let z : ◌≡◌ {A = ℕ} 0 1 = cc in omega arith

  -- what a reader learns from it
  pub record Learns {V : Type 0} (K : Kind R V) (s : Store) (h : History R) (m : Mark) (g : Reading) (fs : List (Frame R)) : Type 0 where
    pub known : m.1 ≤ s.last
    pub rises : Rising (max s.left m.1) fs
    pub entered_so : AsEntered (Same K) h fs
    pub told : g.missed ≡ s.left - m.1
    pub stands : g.till.1 ≡ max s.left m.1 + length fs
    pub below : g.till.1 ≤ s.last
    pub tops : (q : ℕ) → q ≤ max s.left m.1 → top q fs ≤ g.till.1
    pub none_follows : Ends g → g.till.1 ≡ s.last

  pub learns : {V : Type 0} (K : Kind R V) → Keeps K → (slots : ℕ) (s : Store) (h : History R) → Inv K slots s h → (m : Mark) (l n : ℕ) (g : Reading) (fs : List (Frame R))
      → SinceGave K s m l n g fs → Learns K s h m g fs
  learns K keeps slots s h i m l n g fs x =
      let lo = i.low in
      let q : ℕ = max s.left m.1 in
      let d : ℕ = s.last - q in
      let k : ℕ = min l n in
      let known : m.1 ≤ s.last = x.known in
      let qd : q + d ≡ s.last = omega arith in
      let all : List (Frame R) = held_frames K s m.1 in
      let P : List (Frame R) → Type 0 = λ ys. Run keeps i q ys in
      let r : Run keeps i q fs = subst P (sym x.given) (runs keeps i k d q (omega arith) (omega arith)) in
      let long : length all ≡ d = length_frames keeps i d q (omega arith) (omega arith) in
      let len : length fs ≡ min k (length all) = ap length x.given ∙ length-take k all in
      let st : g.till.1 ≡ q + length fs =
      ap (λ (y : Mark). y.1) x.till
      ∙ ap (λ (ys : List (Frame R)). (till_mark_of (s.last_time, s.last) ys).1) x.given
      ∙ ends_at keeps i k d q s.last_time x.some_wanted (omega arith) qd
      ∙ ap (λ (ys : List (Frame R)). q + length ys) (sym x.given) in
      record {
        known = known;
        rises = r.rises;
        entered_so = r.entered_so;
        told = x.missed;
        stands = st;
        below = omega arith;
        tops = λ q' l'. omega (arith, r.tops q' l');
        none_follows = λ y.
            let Q : Status → Type 0 = λ status. (status_number status ≡ 2) ⊎ (status_number status ≡ 3) in
            let all_given : length fs ≡ length all = status_end (length fs) (length all) k len x.some_wanted (subst Q x.status y) in
            omega arith;
      }
