-- The listeners, and which are called.
use Rattle.std.proofs.Common.{◌≡◌, ℕ, zero, suc, ◌-◌, ◌≤◌, Bool, ◌⊎◌, List, [], ◌∷◌, ◌++◌, map, length, get_or, set, sym, refl, ap, ◌∙◌, subst, inl, inr, arith, length-append, length-set}
use Rattle.std.proofs.lemmas.List.{get_or-set_same, get_or-set_other}
use Rattle.std.proofs.lemmas.Bool.{cases_eq}
use Rattle.trays.specs.declared.slots.Slot.{Slot}
use Rattle.book.specs.declared.listeners.Listener.{Listener}
use Rattle.book.specs.State.{Mark, listening}
use Rattle.runs.specs.declared.asked.Call.{Call}
use Rattle.runs.specs.declared.asked.Call.TheVariants.{Enter, Listen}
use Rattle.runs.specs.Answers.{Answer, Answer.done, Answer.entered}
use Rattle.runs.specs.Histories.{Event, Event.◌⟶◌, History, ◌∈◌, ◌∈◌.here, ◌∈◌.there}
use Rattle.runs.specs.Kinds.{Kind}
use Rattle.runs.specs.Law.{Listens, Listening}
use Rattle.runs.proofs.Deeds.{Quiet, Did}
use Rattle.runs.proofs.Deeds.{Quiet.refusal, Quiet.stopped_list, Quiet.modal, Quiet.oldest_given, Quiet.youngest_given, Quiet.span_given, Quiet.taken, Quiet.handed}
use Rattle.runs.proofs.Deeds.{Did.entry, Did.started_list, Did.released_to, Did.listened, Did.gives, Did.quiet}
use Rattle.runs.proofs.Stores.{Store, calls_at}
use Rattle.runs.proofs.Tied.{position_in, answer_in, quiet_none, newest}
use Rattle.runs.proofs.Leaves.{none_in, Ran, Ran.fresh, Ran.and_then}

abbrev pub nobody : Listener
nobody = listening (0, 0) 255

four_alike : (j : ℕ) → get_or (nobody ∷ nobody ∷ nobody ∷ nobody ∷ []) j nobody ≡ nobody
four_alike zero = refl
four_alike (suc zero) = refl
four_alike (suc (suc zero)) = refl
four_alike (suc (suc (suc zero))) = refl
four_alike (suc (suc (suc (suc j)))) = refl

module _ {R : Type 0} where
  quiet_listen : {c : Call R} {a : Answer R} (i : ℕ) (m : Mark) (f : ℕ) → Quiet c a → (Listen i m f ⟶ done) ≡ (c ⟶ a) → ⊥
  quiet_listen i m f refusal e = let z : ◌≡◌ {A = ℕ} 0 1 = cc in omega arith
  quiet_listen i m f stopped_list e = let z : ◌≡◌ {A = ℕ} 0 1 = cc in omega arith
  quiet_listen i m f modal e = let z : ◌≡◌ {A = ℕ} 0 1 = cc in omega arith
  quiet_listen i m f oldest_given e = let z : ◌≡◌ {A = ℕ} 0 1 = cc in omega arith
  quiet_listen i m f youngest_given e = let z : ◌≡◌ {A = ℕ} 0 1 = cc in omega arith
  quiet_listen i m f span_given e = let z : ◌≡◌ {A = ℕ} 0 1 = cc in omega arith
  quiet_listen i m f taken e = let z : ◌≡◌ {A = ℕ} 0 1 = cc in omega arith
  quiet_listen i m f handed e = let z : ◌≡◌ {A = ℕ} 0 1 = cc in omega arith

  module _ {V : Type 0} {K : Kind R V} {s : Store} {ls : List Listener} where
    still_four : {s' : Store} {ls' : List Listener} {c : Call R} {a : Answer R} → Did K s ls c a s' ls' → length ls ≡ 4 → length ls' ≡ 4
    still_four (entry z) e = e
    still_four started_list e = e
    still_four (released_to l) e = e
    still_four (listened l l') e = length-set _ _ _ ∙ e
    still_four (gives x) e = e
    still_four (quiet q) e = e

    -- A call that is no accepted listen of party i leaves its listener.
    keeps_party : {s' : Store} {ls' : List Listener} {c : Call R} {a : Answer R} → (i : ℕ) → 1 ≤ i → ((m : Mark) (f : ℕ) → (Listen i m f ⟶ done) ≡ (c ⟶ a) → ⊥) → Did K s ls c a s' ls'
        → get_or ls' (i - 1) nobody ≡ get_or ls (i - 1) nobody
    keeps_party i o n (entry z) = refl
    keeps_party i o n started_list = refl
    keeps_party i o n (released_to l) = refl
    keeps_party i o n (listened {i = j} {m = m} {f = f} l l') =
        elim (cases_eq j i) [
          | inl e ↦ absurd (n m f (ap (λ (x : ℕ). Listen x m f ⟶ done) (sym e)))
          | inr e ↦ get_or-set_other ls (j - 1) (i - 1) _ nobody (omega arith)
        ]
    keeps_party i o n (gives x) = refl
    keeps_party i o n (quiet q) = refl

    sets_party : {s' : Store} {ls' : List Listener} {c : Call R} {a : Answer R} → (i : ℕ) (m : Mark) (f : ℕ) → 1 ≤ i → i ≤ 4 → length ls ≡ 4 → Did K s ls c a s' ls' → (c ⟶ a) ≡ (Listen i m f ⟶ done)
        → get_or ls' (i - 1) nobody ≡ listening m f
    sets_party i m f o o' n (entry z) e = let z : ◌≡◌ {A = ℕ} 0 1 = cc in absurd (omega arith)
    sets_party i m f o o' n started_list e = let z : ◌≡◌ {A = ℕ} 0 1 = cc in absurd (omega arith)
    sets_party i m f o o' n (released_to l) e = let z : ◌≡◌ {A = ℕ} 0 1 = cc in absurd (omega arith)
    sets_party i m f o o' n (listened {i = j} {m = m'} {f = f'} l l') e =
        let e1 : i ≡ j = cc in
        let e2 : m' ≡ m = cc in
        let e3 : f' ≡ f = cc in
        ap (λ (x : ℕ). get_or (set ls (j - 1) (listening m' f')) (x - 1) nobody) e1
        ∙ get_or-set_same ls (j - 1) _ nobody (omega arith)
        ∙ (λ k. listening (e2 k) (e3 k))
    sets_party i m f o o' n (gives x) e = let z : ◌≡◌ {A = ℕ} 0 1 = cc in absurd (omega arith)
    sets_party i m f o o' n (quiet q) e = absurd (quiet_listen i m f q (sym e))

    hears : {s' : Store} {ls' : List Listener} {c : Call R} {a : Answer R} → (i : ℕ) → Did K s ls c a s' ls'
        → ((m : Mark) × (f : ℕ) × ((c ⟶ a) ≡ (Listen i m f ⟶ done))) ⊎ ((m : Mark) (f : ℕ) → (Listen i m f ⟶ done) ≡ (c ⟶ a) → ⊥)
    hears i (entry z) = inr (λ m f e. let w : ◌≡◌ {A = ℕ} 0 1 = cc in omega arith)
    hears i started_list = inr (λ m f e. let w : ◌≡◌ {A = ℕ} 0 1 = cc in omega arith)
    hears i (released_to l) = inr (λ m f e. let w : ◌≡◌ {A = ℕ} 0 1 = cc in omega arith)
    hears i (listened {i = j} {m = m'} {f = f'} l l') =
        elim (cases_eq j i) [
          | inl e ↦ inl (m', f', ap (λ (x : ℕ). Listen x m' f' ⟶ done) e)
          | inr n ↦ inr (λ m f e. let w : j ≡ i = cc in n w)
        ]
    hears i (gives x) = inr (λ m f e. let w : ◌≡◌ {A = ℕ} 0 1 = cc in omega arith)
    hears i (quiet q) = inr (λ m f. quiet_listen i m f q)

    -- Whom an accepted entry calls.
    pub calls_whom : {s' : Store} {ls' : List Listener} {c : Call R} {a : Answer R} → (t p : ℕ) (r : R) (cs : List Bool) → Did K s ls c a s' ls' → (c ⟶ a) ≡ (Enter t r ⟶ entered p cs)
        → cs ≡ map (calls_at s') ls
    calls_whom t p r cs (entry z) e = cc
    calls_whom t p r cs started_list e = let z : ◌≡◌ {A = ℕ} 0 1 = cc in absurd (omega arith)
    calls_whom t p r cs (released_to l) e = let z : ◌≡◌ {A = ℕ} 0 1 = cc in absurd (omega arith)
    calls_whom t p r cs (listened l l') e = let z : ◌≡◌ {A = ℕ} 0 1 = cc in absurd (omega arith)
    calls_whom t p r cs (gives x) e = let z : ◌≡◌ {A = ℕ} 0 1 = cc in absurd (omega arith)
    calls_whom {a = a} t p r cs (quiet q) e =
        let w : position_in a ≡ 1 = ap (λ (x : Event R). position_in (answer_in x)) e in absurd (omega (arith, quiet_none q))

  module _ {V : Type 0} {K : Kind R V} {row : List Slot} where
    pub four : {s : Store} {ls : List Listener} {h : History R} → Ran K row s ls h → length ls ≡ 4
    four fresh = refl
    four (and_then ran d) = still_four d (four ran)

    first_set : {s : Store} {ls : List Listener} {h : History R} (i : ℕ) → 1 ≤ i → Ran K row s ls h → (Listens h i → ⊥) → get_or ls (i - 1) nobody ≡ nobody
    first_set i o fresh n = four_alike (i - 1)
    first_set i o (and_then {h = h} ran d) n =
        let P : Mark → ℕ → Event R → Type 0 = λ m f x. (Listen i m f ⟶ done) ∈ (x ∷ h) in
        keeps_party i o (λ m f e. n (m, f, subst (P m f) e here)) d ∙ first_set i o ran (λ x. n (x.0, x.1, there x.2))

    last_set : {s : Store} {ls : List Listener} {h : History R} (later before : History R) (i : ℕ) (m : Mark) (f : ℕ) → 1 ≤ i → i ≤ 4
        → Ran K row s ls h → h ≡ later ++ ((Listen i m f ⟶ done) ∷ before) → (Listens later i → ⊥)
        → get_or ls (i - 1) nobody ≡ listening m f
    last_set later before i m f o o' fresh e n =
        let w = ap length e in absurd (omega (arith, w, length-append later ((Listen i m f ⟶ done) ∷ before)))
    last_set [] before i m f o o' (and_then {c = c} {a = a} ran d) e n =
        let e1 : (c ⟶ a) ≡ (Listen i m f ⟶ done) = cc in
        sets_party i m f o o' (four ran) d e1
    last_set (y ∷ later) before i m f o o' (and_then {c = c} {a = a} {h = h} ran d) e n =
        let e1 : (c ⟶ a) ≡ y = cc in
        let e2 : h ≡ later ++ ((Listen i m f ⟶ done) ∷ before) = cc in
        let P : Mark → ℕ → Event R → Type 0 = λ m' f' x. (Listen i m' f' ⟶ done) ∈ (x ∷ later) in
        keeps_party i o (λ m' f' e'. n (m', f', subst (P m' f') (e' ∙ e1) here)) d
        ∙ last_set later before i m f o o' ran e2 (λ x. n (x.0, x.1, there x.2))

    pub party_is : {s : Store} {ls : List Listener} {h : History R} → Ran K row s ls h → (i : ℕ) (m : Mark) (f : ℕ) → 1 ≤ i → i ≤ 4 → Listening h i m f
        → get_or ls (i - 1) nobody ≡ listening m f
    party_is ran i m f o o' (inl (n, e, e')) = first_set i o ran n ∙ (λ k. listening (sym e k) (sym e' k))
    party_is ran i m f o o' (inr (later, before, e, n)) = last_set later before i m f o o' ran e n

    pub party_listens : {s : Store} {ls : List Listener} {h : History R} → Ran K row s ls h → (i : ℕ) → (m : Mark) × (f : ℕ) × Listening h i m f
    party_listens fresh i = ((0, 0), 255, inl ((λ x. none_in x.2), refl, refl))
    party_listens (and_then {c = c} {a = a} {h = h} ran d) i =
        let ih = party_listens ran i in
        elim (hears i d) [
          | inl x ↦ (x.0, x.1, inr ([], h, ap (λ (y : Event R). y ∷ h) x.2, (λ y. none_in y.2)))
          | inr n ↦ (
            ih.0,
            ih.1,
            elim ih.2 [
              | inl y ↦ inl ((λ z. elim (newest z.2) [ inl e ↦ n z.0 z.1 e | inr m ↦ y.0 (z.0, z.1, m) ]), y.1, y.2)
              | inr y ↦
                  inr (
                    (c ⟶ a) ∷ y.0,
                    y.1,
                    ap (λ (l : History R). (c ⟶ a) ∷ l) y.2,
                    (λ z. elim (newest z.2) [ inl e ↦ n z.0 z.1 e | inr m ↦ y.3 (z.0, z.1, m) ]),
                  )
            ],
          )
        ]
