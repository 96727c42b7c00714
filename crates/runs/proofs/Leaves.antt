-- When frames leave.
use Rattle.std.proofs.Common.{◌≡◌, ℕ, zero, suc, ◌+◌, ◌-◌, ◌<◌, ◌≤◌, max, Bool, true, false, cond, not, ◌&&◌, ltb, ◌↔◌, List, [], ◌∷◌, ◌++◌, length, take, Some, None, Result, sym, refl, ap, ◌∙◌, subst, ap₂, inl, inr, arith, length-append}
use Rattle.std.proofs.lemmas.Bool.{cases_lt, le-ltb, eq-eqb, not_from_true, and_right, and_left, or_from}
use Rattle.trays.specs.declared.slots.Slot.{Slot}
use Rattle.records.specs.declared.frames.Frame.{Frame}
use Rattle.book.specs.declared.answers.Reading.{Reading}
use Rattle.book.specs.declared.listeners.Listener.{Listener}
use Rattle.book.specs.State.{Mark}
use Rattle.runs.specs.declared.asked.Call.{Call}
use Rattle.runs.specs.declared.asked.Call.TheVariants.{Enter, Start, Release, Since}
use Rattle.runs.specs.Answers.{Answer, Answer.done, Answer.entered, Answer.gave}
use Rattle.runs.specs.Histories.{Event, Event.◌⟶◌, History, ◌∈◌, ◌∈◌.here, ◌∈◌.there}
use Rattle.runs.specs.Kinds.{Kind, Keeps}
use Rattle.trays.specs.declared.fault.TrayFault.{TrayFault}
use Rattle.book.specs.Told.{tell}
use Rattle.book.specs.State.{new_list}
use Rattle.book.specs.Reads.{slot_of, tells_time, unknown, frame_at, frames, since_answer, since_gives}
use Rattle.runs.specs.Answers.{as_given}
use Rattle.runs.specs.Steps.{World, world, step_answer}
use Rattle.runs.specs.Law.{entries, Accepted, Gone, Held}
use Rattle.runs.proofs.Deeds.{Quiet, Did}
use Rattle.runs.proofs.Deeds.{Quiet.refusal, Quiet.stopped_list, Quiet.modal, Quiet.oldest_given, Quiet.youngest_given, Quiet.span_given, Quiet.taken, Quiet.handed}
use Rattle.runs.proofs.Deeds.{Did.entry, Did.started_list, Did.released_to, Did.listened, Did.gives, Did.quiet}
use Rattle.runs.proofs.Stores.{Store, store_of, put_left}
use Rattle.runs.proofs.Tied.{Inv, inv_did, newest, quiet_count, quiet_none, entries_are, position_in, answer_in}
use Rattle.runs.proofs.Sinces.{learns, frame_is, frames_one, since_gave}

pub none_in : {A : Type 0} {x : A} → x ∈ [] → ⊥
none_in m = elim m [ ]

module _ {R : Type 0} where
  quiet_start : {c : Call R} {a : Answer R} (k : ℕ) → Quiet c a → (Start k ⟶ done) ≡ (c ⟶ a) → ⊥
  quiet_start k refusal e = let z : ◌≡◌ {A = ℕ} 0 1 = cc in omega arith
  quiet_start k stopped_list e = let z : ◌≡◌ {A = ℕ} 0 1 = cc in omega arith
  quiet_start k modal e = let z : ◌≡◌ {A = ℕ} 0 1 = cc in omega arith
  quiet_start k oldest_given e = let z : ◌≡◌ {A = ℕ} 0 1 = cc in omega arith
  quiet_start k youngest_given e = let z : ◌≡◌ {A = ℕ} 0 1 = cc in omega arith
  quiet_start k span_given e = let z : ◌≡◌ {A = ℕ} 0 1 = cc in omega arith
  quiet_start k taken e = let z : ◌≡◌ {A = ℕ} 0 1 = cc in omega arith
  quiet_start k handed e = let z : ◌≡◌ {A = ℕ} 0 1 = cc in omega arith

  quiet_release : {c : Call R} {a : Answer R} (k p : ℕ) → Quiet c a → (Release k p ⟶ done) ≡ (c ⟶ a) → ⊥
  quiet_release k p refusal e = let z : ◌≡◌ {A = ℕ} 0 1 = cc in omega arith
  quiet_release k p stopped_list e = let z : ◌≡◌ {A = ℕ} 0 1 = cc in omega arith
  quiet_release k p modal e = let z : ◌≡◌ {A = ℕ} 0 1 = cc in omega arith
  quiet_release k p oldest_given e = let z : ◌≡◌ {A = ℕ} 0 1 = cc in omega arith
  quiet_release k p youngest_given e = let z : ◌≡◌ {A = ℕ} 0 1 = cc in omega arith
  quiet_release k p span_given e = let z : ◌≡◌ {A = ℕ} 0 1 = cc in omega arith
  quiet_release k p taken e = let z : ◌≡◌ {A = ℕ} 0 1 = cc in omega arith
  quiet_release k p handed e = let z : ◌≡◌ {A = ℕ} 0 1 = cc in omega arith

  pub quiet_since : {c : Call R} {a : Answer R} (m : Mark) (l n : ℕ) (g : Reading) (fs : List (Frame R)) → Quiet c a → (Since m l n ⟶ gave g fs) ≡ (c ⟶ a) → ⊥
  quiet_since m l n g fs refusal e = let z : ◌≡◌ {A = ℕ} 0 1 = cc in omega arith
  quiet_since m l n g fs stopped_list e = let z : ◌≡◌ {A = ℕ} 0 1 = cc in omega arith
  quiet_since m l n g fs modal e = let z : ◌≡◌ {A = ℕ} 0 1 = cc in omega arith
  quiet_since m l n g fs oldest_given e = let z : ◌≡◌ {A = ℕ} 0 1 = cc in omega arith
  quiet_since m l n g fs youngest_given e = let z : ◌≡◌ {A = ℕ} 0 1 = cc in omega arith
  quiet_since m l n g fs span_given e = let z : ◌≡◌ {A = ℕ} 0 1 = cc in omega arith
  quiet_since m l n g fs taken e = let z : ◌≡◌ {A = ℕ} 0 1 = cc in omega arith
  quiet_since m l n g fs handed e = let z : ◌≡◌ {A = ℕ} 0 1 = cc in omega arith

  pub entries_more : (e : Event R) (h : History R) → entries h ≤ entries (e ∷ h)
  entries_more (c ⟶ a) h = omega (arith, entries_are c a h)

  gone_more : (slots p : ℕ) (e : Event R) (h : History R) → Gone slots h p → Gone slots (e ∷ h) p
  gone_more slots p e h (inl x) = inl (x.0, there x.1)
  gone_more slots p e h (inr (inl x)) = inr (inl (x.0, x.1, x.2, there x.3))
  gone_more slots p e h (inr (inr l)) = inr (inr (omega (arith, entries_more e h)))

  -- Where the newest answered call makes no frame leave, and no entry, the reasons are those before.
  gone_less : (slots p : ℕ) (c : Call R) (a : Answer R) (h : History R) → entries ((c ⟶ a) ∷ h) ≡ entries h
      → ((k : ℕ) → (Start k ⟶ done) ≡ (c ⟶ a) → ⊥) → ((k q : ℕ) → p ≤ q → (Release k q ⟶ done) ≡ (c ⟶ a) → ⊥)
      → Gone slots ((c ⟶ a) ∷ h) p → Gone slots h p
  gone_less slots p c a h n ns nr (inl x) = elim (newest x.1) [ inl e ↦ absurd (ns x.0 e) | inr m ↦ inl (x.0, m) ]
  gone_less slots p c a h n ns nr (inr (inl x)) =
      elim (newest x.3) [ inl e ↦ absurd (nr x.0 x.1 x.2 e) | inr m ↦ inr (inl (x.0, x.1, x.2, m)) ]
  gone_less slots p c a h n ns nr (inr (inr l)) = inr (inr (omega arith))

  module _ {V : Type 0} {K : Kind R V} {slots p : ℕ} {later h : History R} where
    gone_step : {s s' : Store} {ls ls' : List Listener} {c : Call R} {a : Answer R} → Did K s ls c a s' ls' → Inv K slots s h
        → s.last ≡ p + entries later → (p ≤ s.left) ↔ Gone slots later p
        → (s'.last ≡ p + entries ((c ⟶ a) ∷ later)) × ((p ≤ s'.left) ↔ Gone slots ((c ⟶ a) ∷ later) p)
    gone_step {s} {c = c} {a = a} (entry {t = t} {r = r} z) i n g =
        let pl = put_left s t (K.writes r) in
        let lo = i.low in let ro = i.room in let si = i.size in (
          omega arith,
          (
            (λ l. elim (cases_lt s.left p) [
              | inl l' ↦ inr (inr (omega arith))
              | inr l' ↦ gone_more slots p _ later (g.0 l')
            ]),
            (elim [
              | inl x ↦ elim (newest x.1) [
                | inl e ↦ let w : ◌≡◌ {A = ℕ} 0 1 = cc in absurd (omega arith)
                | inr m ↦ omega (arith, g.1 (inl (x.0, m)))
              ]
              | inr (inl x) ↦ elim (newest x.3) [
                | inl e ↦ let w : ◌≡◌ {A = ℕ} 0 1 = cc in absurd (omega arith)
                | inr m ↦ omega (arith, g.1 (inr (inl (x.0, x.1, x.2, m))))
              ]
              | inr (inr l) ↦ omega arith
            ]),
          ),
        )
    gone_step {s} (started_list {k = k}) i n g = (n, ((λ l. inl (k, here)), (λ x. omega arith)))
    gone_step {s} (released_to {k = k} {p = q} lq) i n g = (
      n,
      (
        (λ l. elim (cases_lt s.left p) [
          | inl l' ↦ inr (inl (k, q, (omega arith), here))
          | inr l' ↦ gone_more slots p _ later (g.0 l')
        ]),
        (λ x. elim (cases_lt q p) [
          | inl l' ↦
              omega (
                arith,
                g.1 (gone_less slots p (Release k q) done later refl
                    (λ k' e. let w : ◌≡◌ {A = ℕ} 0 1 = cc in omega arith)
                    (λ k' q' l e. let w : q' ≡ q = cc in omega arith) x),
              )
          | inr l' ↦ omega arith
        ]),
      ),
    )
    gone_step (listened l l') i n g = (
      n,
      (
        (λ y. gone_more slots p _ later (g.0 y)),
        (λ x. g.1 (gone_less slots p _ _ later refl
            (λ k' e. let w : ◌≡◌ {A = ℕ} 0 1 = cc in omega arith)
            (λ k' q' l e. let w : ◌≡◌ {A = ℕ} 0 1 = cc in omega arith) x)),
      ),
    )
    gone_step (gives {m = m} {l = l} {n = k} {g = gv} {fs = fs} v) i n g = (
      n,
      (
        (λ y. gone_more slots p _ later (g.0 y)),
        (λ x. g.1 (gone_less slots p (Since m l k) (gave gv fs) later refl
            (λ k' e. let w : ◌≡◌ {A = ℕ} 0 1 = cc in omega arith)
            (λ k' q' l e. let w : ◌≡◌ {A = ℕ} 0 1 = cc in omega arith) x)),
      ),
    )
    gone_step (quiet q) i n g = (
      n ∙ ap (λ (y : ℕ). p + y) (sym (quiet_count later q)),
      (
        (λ y. gone_more slots p _ later (g.0 y)),
        (λ x. g.1 (gone_less slots p _ _ later (quiet_count later q) (λ k. quiet_start k q) (λ k q' l. quiet_release k q' q) x)),
      ),
    )

  entry_of : Event R → ℕ
  entry_of x = position_in (answer_in x)

  did_entry : {V : Type 0} {K : Kind R V} {slots : ℕ} {h : History R} {s s' : Store} {ls ls' : List Listener} {c : Call R} {a : Answer R}
      → (t p : ℕ) (r : R) (cs : List Bool) → Did K s ls c a s' ls' → Inv K slots s h → (c ⟶ a) ≡ (Enter t r ⟶ entered p cs)
      → (p ≡ suc s.last) × (s'.last ≡ p) × (s'.left < p) × (0 < slots)
  unfolding entry_of
  did_entry {K = K} {s = s} t p r cs (entry {t = t'} {r = r'} z) i e =
      let pl = put_left s t' (K.writes r') in
      let lo = i.low in let ro = i.room in let si = i.size in
      let w : suc s.last ≡ p = cc in
      (omega arith, w, omega arith, omega arith)
  did_entry t p r cs started_list i e = let w : ◌≡◌ {A = ℕ} 0 1 = ap entry_of e in absurd (omega arith)
  did_entry t p r cs (released_to l) i e = let w : ◌≡◌ {A = ℕ} 0 1 = ap entry_of e in absurd (omega arith)
  did_entry t p r cs (listened l l') i e = let w : ◌≡◌ {A = ℕ} 0 1 = ap entry_of e in absurd (omega arith)
  did_entry t p r cs (gives v) i e = let w : ◌≡◌ {A = ℕ} 0 1 = ap entry_of e in absurd (omega arith)
  did_entry {a = a} t p r cs (quiet q) i e = let w : position_in a ≡ 1 = ap entry_of e in absurd (omega (arith, quiet_none q))

  -- A new list over a row, and what calls did to it.
  pub data Ran {V : Type 0} (K : Kind R V) (row : List Slot) : Store → List Listener → History R → Type 0 where
    fresh : Ran K row (store_of (world 0 new_list row)) new_list.listeners []
    and_then : {s s' : Store} {ls ls' : List Listener} {c : Call R} {a : Answer R} {h : History R}
        → Ran K row s ls h → Did K s ls c a s' ls' → Ran K row s' ls' ((c ⟶ a) ∷ h)

  -- The list holds what was entered and has not left.
  pub tied : {V : Type 0} {K : Kind R V} {row : List Slot} {s : Store} {ls : List Listener} {h : History R} → Ran K row s ls h → Inv K (length row) s h
  tied fresh =
      record {
        size = refl;
        counted = refl;
        low = omega arith;
        room = omega arith;
        numbers = λ p t r m. absurd (none_in m.1);
        stored = λ p t r m k. absurd (none_in m.1);
        every = λ p k k'. absurd (omega arith);
      }
  tied (and_then r d) = inv_did d (tied r)

  pub gone_left : {V : Type 0} {K : Kind R V} {row : List Slot} {s : Store} {ls : List Listener} {h : History R} → Ran K row s ls h
      → (later before : History R) (t p : ℕ) (r : R) (called : List Bool) → h ≡ later ++ ((Enter t r ⟶ entered p called) ∷ before)
      → (p ≡ suc (entries before)) × (s.last ≡ p + entries later) × ((p ≤ s.left) ↔ Gone (length row) later p)
  gone_left fresh later before t p r called e =
      let w = ap length e in absurd (omega (arith, w, length-append later ((Enter t r ⟶ entered p called) ∷ before)))
  gone_left (and_then {s = s} {c = c} {a = a} {h = h} ran d) [] before t p r called e =
      let i = tied ran in
      let e1 : (c ⟶ a) ≡ (Enter t r ⟶ entered p called) = cc in
      let e2 : h ≡ before = cc in
      let x = did_entry t p r called d i e1 in (
        x.0 ∙ ap suc (i.counted ∙ ap entries e2),
        omega (arith, x.1),
        (
          (λ l. absurd (omega (arith, x.2, l))),
          elim [
            | inl y ↦ absurd (none_in y.1)
            | inr (inl y) ↦ absurd (none_in y.3)
            | inr (inr l) ↦ absurd (omega (arith, x.3, l))
          ],
        ),
      )
  gone_left {row = row} (and_then {s' = s'} {c = c} {a = a} {h = h} ran d) (y ∷ later) before t p r called e =
      let e1 : (c ⟶ a) ≡ y = cc in
      let e2 : h ≡ later ++ ((Enter t r ⟶ entered p called) ∷ before) = cc in
      let ih = gone_left ran later before t p r called e2 in
      let x = gone_step d (tied ran) ih.1 ih.2 in
      let P : Event R → Type 0 = λ v. (s'.last ≡ p + entries (v ∷ later)) × ((p ≤ s'.left) ↔ Gone (length row) (v ∷ later) p) in
      let x' = subst P e1 x in
      (ih.0, x'.0, x'.1)

  module _ {V : Type 0} (K : Kind R V) (keeps : Keeps K) (slots : ℕ) (w : World) (h : History R) (i : Inv K slots (store_of w) h) where
    -- what the book would answer now
    abbrev pub now : Call R → Answer R
    now c = step_answer K.reads c w

    -- held, as a reader sees it, is held in the list
    pub held_left : (p : ℕ) → Held h now p → (w.state.gone < p) × (p ≤ w.state.last)
    held_left p (m, mb, (g, f, e, pe)) =
        let x = learns K keeps slots (store_of w) h i m 1 1 g (f ∷ []) (since_gave K w m 1 1 g (f ∷ []) e) in
        let z = i.numbers _ _ _ x.entered_so.0.1 in
        (omega (arith, x.rises.0, pe), omega (arith, z.1, pe))

    since_known : (m : Mark) → unknown w.state w.row m ≡ false
        → now (Since m 1 1) ≡ gave (since_answer K.reads w.state w.row m 1 1) (since_gives K.reads w.state w.row m 1 1)
    since_known m e =
        ap (λ (b : Bool). as_given (tell (cond b (Some 25) None) (since_answer K.reads w.state w.row m 1 1)) (since_gives K.reads w.state w.row m 1 1)) e

    -- the since from the mark of the frame before gives frame q + 1
    gives_next : (t q : ℕ) → w.state.gone ≤ q → q < w.state.last → (w.state.gone < q → tells_time (slot_of w.row q) t ≡ true)
        → (g : Reading) × (f : Frame R) × (now (Since (t, q) 1 1) ≡ gave g (f ∷ [])) × (f.position ≡ suc q)
    gives_next t q l l' te =
        let same : Bool = tells_time (slot_of w.row q) t in
        let u : unknown w.state w.row (t, q) ≡ false =
        or_from (ltb w.state.last q) (ltb w.state.gone q && not same) (le-ltb w.state.last q (omega arith))
        (elim (cases_lt w.state.gone q) [
          | inl k ↦ and_right (ltb w.state.gone q) (not same) (not_from_true same (te k))
          | inr k ↦ and_left (ltb w.state.gone q) (not same) (le-ltb w.state.gone q k)
        ]) in
        let a : max w.state.gone q ≡ q = omega arith in
        let b : w.state.last - max w.state.gone q ≡ suc (w.state.last - suc q) = omega arith in
        let x = frame_is keeps i (q + 1) (omega arith) (omega arith) in
        let given : since_gives K.reads w.state w.row (t, q) 1 1 ≡ x.0 ∷ [] =
        ap₂ (λ (first n : ℕ). take 1 (frames (frame_at K.reads w.row) n (first + 1))) a b
        ∙ ap (take 1) (frames_one _ (w.state.last - suc q) (q + 1) x.0 x.1) in (
          since_answer K.reads w.state w.row (t, q) 1 1,
          x.0,
          since_known (t, q) u ∙ ap (gave (since_answer K.reads w.state w.row (t, q) 1 1)) given,
          omega (arith, x.6),
        )

    pub left_held : (p : ℕ) → w.state.gone < p → p ≤ w.state.last → Held h now p
    left_held zero l l' = absurd (omega arith)
    left_held (suc zero) l l' = ((0, 0), inl (refl, refl), gives_next 0 0 (omega arith) l' (λ k. absurd (omega arith)))
    left_held (suc (suc p)) l l' =
        let x = i.every (suc p) (omega arith) (omega arith) in
        let e : suc (suc p) - 1 ≡ suc p = omega arith in
        let P : ℕ → Type 0 = λ q. (t : ℕ) × (r : R) × Accepted h q t r × (◌≡◌ {A = Mark} (x.0, suc p) (t, q)) in (
          (x.0, suc p),
          inr (subst P (sym e) (x.0, x.1, x.2, refl)),
          gives_next x.0 (suc p) (omega arith) l'
              (λ k. ap (λ (y : Result Slot TrayFault). tells_time y x.0) (i.stored (suc p) x.0 x.1 x.2 k) ∙ eq-eqb x.0 x.0 refl),
        )
