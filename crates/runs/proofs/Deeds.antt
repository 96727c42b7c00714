-- What a call does to the list, as one of six ways. The steps of the book are opened here; besides, only Leaves opens a since
-- with limit 1, and Orders the check of an entry's time.
use Rattle.std.proofs.Common.{◌≡◌, ℕ, suc, ◌+◌, ◌-◌, ◌<◌, ◌≤◌, min, max, Bool, true, false, cond, ltb, List, [], ◌∷◌, map, length, take, set, Some, None, Option, sym, refl, subst₂, add-one, arith, length-set}
use Rattle.std.proofs.lemmas.Bool.{ltb-false, or_parts}
use Rattle.std.proofs.lemmas.Bool.Decides.{nat_tests}
use Rattle.trays.specs.declared.slots.Slot.{Slot}
use Rattle.records.specs.declared.frames.Frame.{Frame}
use Rattle.book.specs.declared.answers.Reading.{Reading}
use Rattle.book.specs.declared.key.KeyPlace.TheVariants.{In, Out}
use Rattle.book.specs.declared.listeners.Listener.{Listener}
use Rattle.book.specs.declared.state.ListState.{ListState}
use Rattle.book.specs.declared.state.Mode.{Mode}
use Rattle.book.specs.declared.state.Mode.TheVariants.{Ring, Keep}
use Rattle.book.specs.Told.{Checks, verdict, tell, keep}
use Rattle.book.specs.State.{Mark, listening, heard, with_key, called}
use Rattle.book.specs.State.{entered as entered_list}
use Rattle.book.specs.Calls.{full, enter_checks, enter_answer, enter_row, release_checks}
use Rattle.book.specs.Reads.{frame_at, frames, status_of_read, till_mark_of, listen_checks, since_checks, since_answer, since_gives}
use Rattle.runs.specs.declared.asked.Call.{Call}
use Rattle.runs.specs.declared.asked.Call.TheVariants.{Enter, Start, Stop, SetMode, Release, Listen, Since, Oldest, Youngest, Span, Take, HandBack}
use Rattle.runs.specs.declared.asked.Keyed.{Keyed}
use Rattle.runs.specs.declared.asked.Read.{Read}
use Rattle.runs.specs.Answers.{Answer, Answer.refused, Answer.done, Answer.entered, Answer.gave, Answer.key, as_done, as_entered, as_given, as_key}
use Rattle.runs.specs.Steps.{World, world, step, step_answer, keyed_checks, keyed_state, read_answer, read_gives}
use Rattle.runs.specs.Kinds.{Kind}
use Rattle.runs.proofs.Stores.{Store, store_of, put, left_to, calls_at}

module _ {R : Type 0} where
  -- answered calls that change neither the list nor a listener
  pub data Quiet : Call R → Answer R → Type 0 where
    refusal : {c : Call R} {n : ℕ} → Quiet c (refused n)
    stopped_list : {k : ℕ} → Quiet (Stop k) done
    modal : {k : ℕ} {m : Mode} → Quiet (SetMode k m) done
    oldest_given : {n : ℕ} {g : Reading} {fs : List (Frame R)} → Quiet (Oldest n) (gave g fs)
    youngest_given : {n : ℕ} {g : Reading} {fs : List (Frame R)} → Quiet (Youngest n) (gave g fs)
    span_given : {a b l n : ℕ} {g : Reading} {fs : List (Frame R)} → Quiet (Span a b l n) (gave g fs)
    taken : {n : ℕ} → Quiet Take (key n)
    handed : {k : ℕ} → Quiet (HandBack k) done

  module _ {V : Type 0} (K : Kind R V) where
    -- the held frames after a position
    abbrev pub held_frames : Store → ℕ → List (Frame R)
    held_frames s p = frames (frame_at K.reads s.row) (s.last - max s.left p) (max s.left p + 1)

    -- an accepted since from mark m has this answer
    pub record SinceGave (s : Store) (m : Mark) (l n : ℕ) (g : Reading) (fs : List (Frame R)) : Type 0 where
      pub some_wanted : 1 ≤ min l n
      pub known : m.1 ≤ s.last
      pub given : fs ≡ take (min l n) (held_frames s m.1)
      pub till : g.till ≡ till_mark_of (s.last_time, s.last) fs
      pub missed : g.missed ≡ s.left - m.1
      pub status : g.status ≡ status_of_read (length fs) (ltb (min l n) (length (held_frames s m.1)))

    pub data Did (s : Store) (ls : List Listener) : Call R → Answer R → Store → List Listener → Type 0 where
      entry : {t : ℕ} {r : R} → 0 < length s.row
          → Did s ls (Enter t r) (entered (suc s.last) (map (calls_at (put s t (K.writes r))) ls)) (put s t (K.writes r)) ls
      started_list : {k : ℕ} → Did s ls (Start k) done (left_to s s.last) ls
      released_to : {k p : ℕ} → p ≤ s.last → Did s ls (Release k p) done (left_to s (max s.left p)) ls
      listened : {i : ℕ} {m : Mark} {f : ℕ} → 1 ≤ i → i ≤ 4 → Did s ls (Listen i m f) done s (set ls (i - 1) (listening m f))
      gives : {m : Mark} {l n : ℕ} {g : Reading} {fs : List (Frame R)} → SinceGave s m l n g fs → Did s ls (Since m l n) (gave g fs) s ls
      quiet : {c : Call R} {a : Answer R} → Quiet c a → Did s ls c a s ls

-- no check of the list refuses
abbrev pub Clear : Checks → Type 0
Clear [] = Unit {0}
Clear (c ∷ cs) = (c.0 ≡ false) × Clear cs

pub clear : (cs : Checks) → verdict cs ≡ None → Clear cs
clear [] e = tt
clear (c ∷ cs) e = go c.0 refl e (clear cs)
  where
    go : (b : Bool) → c.0 ≡ b → cond b (Some c.1) (verdict cs) ≡ None → (verdict cs ≡ None → Clear cs) → (c.0 ≡ false) × Clear cs
    go true i e' rest = let z : ◌≡◌ {A = ℕ} 0 1 = cc in absurd (omega arith)
    go false i e' rest = (i, rest e')

-- an entry is accepted only where there is a slot
room : (mode : Mode) (held capacity : ℕ) → full mode held capacity ≡ false → 0 < capacity
room Ring held capacity e = grind (arith, nat_tests)
room Keep held capacity e = grind (arith, nat_tests)

map_same : {X Y : Type 0} (f g : X → Y) → ((x : X) → f x ≡ g x) → (xs : List X) → map f xs ≡ map g xs
map_same f g same [] = refl
map_same {X} {Y} f g same (x ∷ xs) = (λ i. same x i ∷ map_same f g same xs i)

module _ {R V : Type 0} (K : Kind R V) (w : World) where
  abbrev DidTo : Call R → Answer R → ListState → List Slot → Type 0
  DidTo c a s row = Did K (store_of w) w.state.listeners c a (store_of (world w.number s row)) s.listeners

  -- the list and the slots after an accepted entry, and whom it calls
  put_is : (t : ℕ) (ws : List ℕ) → put (store_of w) t ws ≡ store_of (world w.number (entered_list w.state t (length w.row)) (enter_row w.state w.row t ws))
  put_is t ws = simp add-one

  whom_is : (t : ℕ) (ws : List ℕ) → map (calls_at (put (store_of w) t ws)) w.state.listeners ≡ called (entered_list w.state t (length w.row)) (length w.row)
  whom_is t ws = map_same _ _ (λ l. simp (add-one, length-set)) w.state.listeners

  pub enters : (t : ℕ) (r : R) (v : Option ℕ) → verdict (enter_checks w.state t (length w.row)) ≡ v
      → DidTo (Enter t r) (as_entered (tell v (enter_answer w.state t (length w.row))))
      (keep v (entered_list w.state t (length w.row)) w.state) (keep v (enter_row w.state w.row t (K.writes r)) w.row)
  enters t r (Some n) e = quiet refusal
  enters t r None e =
      let free = clear (enter_checks w.state t (length w.row)) e in
      let z : 0 < length w.row = room w.state.mode _ _ free.1.1.0 in
      let number : suc w.state.last ≡ w.state.last + 1 = sym (add-one w.state.last) in
      let P : Answer R → Store → Type 0 = λ a s. Did K (store_of w) w.state.listeners (Enter t r) a s w.state.listeners in
      subst₂ P (λ i. entered (number i) (whom_is t (K.writes r) i)) (put_is t (K.writes r)) (entry z)

  shows : (c : Call R) (keyed : Keyed) (k : ℕ) (v : Option ℕ) → (verdict (keyed_checks keyed w.state w.number k) ≡ None → DidTo c done (keyed_state keyed w.state) w.row)
      → verdict (keyed_checks keyed w.state w.number k) ≡ v
      → DidTo c (as_done (tell v tt)) (keep v (keyed_state keyed w.state) w.state) w.row
  shows c keyed k (Some n) does e = quiet refusal
  shows c keyed k None does e = does e

  pub listens : (i : ℕ) (m : Mark) (f : ℕ) (v : Option ℕ) → verdict (listen_checks w.state w.row i m) ≡ v
      → DidTo (Listen i m f) (as_done (tell v tt)) (keep v (heard i m f w.state) w.state) w.row
  listens i m f (Some n) e = quiet refusal
  listens i m f None e =
      let free = (clear (listen_checks w.state w.row i m) e).0 in
      listened (grind (arith, nat_tests)) (grind (arith, nat_tests))

  pub sinces : (m : Mark) (l n : ℕ) (v : Option ℕ) → verdict (since_checks w.state w.row m l n) ≡ v
      → DidTo (Since m l n) (as_given (tell v (since_answer K.reads w.state w.row m l n)) (since_gives K.reads w.state w.row m l n)) w.state w.row
  sinces m l n (Some k) e = quiet refusal
  sinces m l n None e =
      let free = clear (since_checks w.state w.row m l n) e in
      let limit = free.0 in
      let row = free.1.0 in
      gives (record {
        some_wanted = grind (arith, nat_tests);
        known = ltb-false _ _ (or_parts _ _ free.1.1.0).0;
        given = refl;
        till = refl;
        missed = refl;
        status = refl;
      })

  others : (c : Call R) (read : Read) (n : ℕ) (v : Option ℕ) → ((g : Reading) (fs : List (Frame R)) → Quiet c (gave g fs))
      → DidTo c (as_given (tell v (read_answer K.reads read w.state w.row n)) (read_gives K.reads read w.state w.row n)) w.state w.row
  others c read n (Some k) q = quiet refusal
  others c read n None q = quiet (q _ _)

  takes : (v : Option ℕ) → DidTo Take (as_key (tell v w.number)) (keep v (with_key Out w.state) w.state) w.row
  takes (Some n) = quiet refusal
  takes None = quiet taken

  hands : (k : ℕ) (v : Option ℕ) → DidTo (HandBack k) (as_done (tell v tt)) (keep v (with_key In w.state) w.state) w.row
  hands k (Some n) = quiet refusal
  hands k None = quiet handed

  pub did : (c : Call R)
      → Did K (store_of w) w.state.listeners c (step_answer K.reads c w) (store_of (step K.writes c w)) (step K.writes c w).state.listeners
  did (Enter t r) = enters t r _ refl
  did (Start k) = shows (Start k) Keyed.Start k _ (λ e. started_list) refl
  did (Stop k) = shows (Stop k) Keyed.Stop k _ (λ e. quiet stopped_list) refl
  did (SetMode k m) = shows (SetMode k m) (Keyed.SetMode m) k _ (λ e. quiet modal) refl
  did (Release k p) =
      shows (Release k p) (Keyed.Release p) k _ (λ e. released_to (ltb-false _ _ (clear (release_checks w.state w.number k p) e).1.0)) refl
  did (Listen i m f) = listens i m f _ refl
  did (Since m l n) = sinces m l n _ refl
  did (Oldest n) = others (Oldest n) Read.Oldest n _ (λ g fs. oldest_given)
  did (Youngest n) = others (Youngest n) Read.Youngest n _ (λ g fs. youngest_given)
  did (Span a b l n) = others (Span a b l n) (Read.Span a b l) n _ (λ g fs. span_given)
  did Take = takes _
  did (HandBack k) = hands k _
