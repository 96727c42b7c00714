-- List and history: what the list holds is what was entered and has not left.
use Rattle.std.proofs.Common.{◌≡◌, ℕ, zero, suc, ◌+◌, ◌<◌, ◌≤◌, Bool, ◌⊎◌, List, ◌∷◌, length, Ok, sym, refl, ap, ◌∙◌, subst, inl, inr, arith, length-set}
use Rattle.std.proofs.lemmas.Bool.{cases_lt}
use Rattle.book.specs.declared.listeners.Listener.{Listener}
use Rattle.runs.specs.declared.asked.Call.{Call}
use Rattle.runs.specs.declared.asked.Call.TheVariants.{Enter}
use Rattle.runs.specs.Answers.{Answer, Answer.refused, Answer.done, Answer.entered, Answer.gave, Answer.key}
use Rattle.runs.specs.Histories.{Event, Event.◌⟶◌, History, ◌∈◌, ◌∈◌.here, ◌∈◌.there}
use Rattle.runs.specs.Kinds.{Kind}
use Rattle.book.specs.Reads.{slot_of}
use Rattle.runs.specs.Law.{entries, Accepted}
use Rattle.runs.proofs.Deeds.{Quiet, Did}
use Rattle.runs.proofs.Deeds.{Quiet.refusal, Quiet.stopped_list, Quiet.modal, Quiet.oldest_given, Quiet.youngest_given, Quiet.span_given, Quiet.taken, Quiet.handed}
use Rattle.runs.proofs.Deeds.{Did.entry, Did.started_list, Did.released_to, Did.listened, Did.gives, Did.quiet}
use Rattle.runs.proofs.Stores.{Store, framed, put, left_to, apart, at_new, at_old, put_left}

pub newest : {A : Type 0} {x y : A} {xs : List A} → x ∈ (y ∷ xs) → (x ≡ y) ⊎ (x ∈ xs)
newest here = inl refl
newest (there m) = inr m

module _ {R : Type 0} where
  pub record Inv {V : Type 0} (K : Kind R V) (slots : ℕ) (s : Store) (h : History R) : Type 0 where
    pub size : length s.row ≡ slots
    pub counted : s.last ≡ entries h
    pub low : s.left ≤ s.last
    pub room : s.last ≤ s.left + slots
    pub numbers : (p t : ℕ) (r : R) → Accepted h p t r → (1 ≤ p) × (p ≤ s.last)
    pub stored : (p t : ℕ) (r : R) → Accepted h p t r → s.left < p → slot_of s.row p ≡ Ok (framed t p (K.writes r))
    pub every : (p : ℕ) → 1 ≤ p → p ≤ s.last → (t : ℕ) × (r : R) × Accepted h p t r

  -- an answer tells whether a call was an accepted entry
  abbrev pub is_entry : Answer R → ℕ
  is_entry (refused n) = 0
  is_entry done = 0
  is_entry (entered zero c) = 0
  is_entry (entered (suc p) c) = 1
  is_entry (gave g fs) = 0
  is_entry (key n) = 0

  abbrev pub answer_in : Event R → Answer R
  answer_in (c ⟶ a) = a

  pub entries_are : (c : Call R) (a : Answer R) (h : History R) → entries ((c ⟶ a) ∷ h) ≡ is_entry a + entries h
  entries_are c (refused n) h = omega arith
  entries_are c done h = omega arith
  entries_are c (entered zero cs) h = omega arith
  entries_are c (entered (suc p) cs) h = omega arith
  entries_are c (gave g fs) h = omega arith
  entries_are c (key n) h = omega arith

  pub quiet_no : {c : Call R} {a : Answer R} → Quiet c a → is_entry a ≡ 0
  quiet_no refusal = refl
  quiet_no stopped_list = refl
  quiet_no modal = refl
  quiet_no oldest_given = refl
  quiet_no youngest_given = refl
  quiet_no span_given = refl
  quiet_no taken = refl
  quiet_no handed = refl

  -- answers other than `entered` are no entries
  pub quiet_count : {c : Call R} {a : Answer R} (h : History R) → Quiet c a → entries ((c ⟶ a) ∷ h) ≡ entries h
  quiet_count {c} {a} h q = let e = entries_are c a h in let n = quiet_no q in omega arith

  -- where the newest answer is no entry's, an accepted entry was one before
  abbrev pub position_in : Answer R → ℕ
  position_in (refused n) = 0
  position_in done = 0
  position_in (entered p c) = 1
  position_in (gave g fs) = 0
  position_in (key n) = 0

  pub quiet_none : {c : Call R} {a : Answer R} → Quiet c a → position_in a ≡ 0
  quiet_none refusal = refl
  quiet_none stopped_list = refl
  quiet_none modal = refl
  quiet_none oldest_given = refl
  quiet_none youngest_given = refl
  quiet_none span_given = refl
  quiet_none taken = refl
  quiet_none handed = refl

  pub earlier : {c : Call R} {a : Answer R} {h : History R} {p t : ℕ} {r : R} → position_in a ≡ 0 → Accepted ((c ⟶ a) ∷ h) p t r → Accepted h p t r
  earlier {c} {a} {h} {p} {t} {r} q m =
      elim (newest m.1) [
        | inl e ↦ let z : 1 ≡ position_in a = ap (λ (x : Event R). position_in (answer_in x)) e in absurd (omega arith)
        | inr m' ↦ (m.0, m')
      ]

  module _ {V : Type 0} {K : Kind R V} {slots : ℕ} where
    -- the list as it was, but that frames left it
    pub inv_left : {c : Call R} {a : Answer R} {h : History R} (s : Store) (p : ℕ) → position_in a ≡ 0 → entries ((c ⟶ a) ∷ h) ≡ entries h → s.left ≤ p → p ≤ s.last
        → Inv K slots s h → Inv K slots (left_to s p) ((c ⟶ a) ∷ h)
    inv_left s p q n l l' i =
        record {
          size = i.size;
          counted = i.counted ∙ sym n;
          low = l';
          room = omega (arith, i.room);
          numbers = λ p' t r m. i.numbers p' t r (earlier q m);
          stored = λ p' t r m k. i.stored p' t r (earlier q m) (omega arith);
          every = λ p' k k'. let x = i.every p' k k' in (x.0, x.1, (x.2.0, there x.2.1));
        }

    pub inv_same : {c : Call R} {a : Answer R} {h : History R} (s : Store) → position_in a ≡ 0 → entries ((c ⟶ a) ∷ h) ≡ entries h
        → Inv K slots s h → Inv K slots s ((c ⟶ a) ∷ h)
    inv_same s q n i = inv_left s s.left q n (omega arith) i.low i

    inv_put : {h : History R} (s : Store) (t : ℕ) (r : R) (cs : List Bool) → 0 < length s.row
        → Inv K slots s h → Inv K slots (put s t (K.writes r)) ((Enter t r ⟶ entered (suc s.last) cs) ∷ h)
    inv_put {h} s t r cs z i =
        let pl = put_left s t (K.writes r) in
        let s' : Store = put s t (K.writes r) in
        record {
          size = length-set _ _ _ ∙ i.size;
          counted = ap suc i.counted;
          low = omega (arith, pl, i.low, i.room, i.size);
          room = omega (arith, pl, i.low, i.room, i.size);
          numbers = λ p t' r' m. elim (newest m.1) [
            | inl e ↦ let e1 : p ≡ suc s.last = cc in (omega arith, omega arith)
            | inr m' ↦ let x = i.numbers p t' r' (m.0, m') in (x.0, omega (arith, x.1))
          ];
          stored = λ p t' r' m k. elim (newest m.1) [
            | inl e ↦
                let e1 : p ≡ suc s.last = cc in
                let e2 : t ≡ t' = cc in
                let e3 : r ≡ r' = cc in
                ap (slot_of s'.row) e1 ∙ at_new s t (K.writes r) z ∙ (λ j. Ok (framed (e2 j) (sym e1 j) (K.writes (e3 j))))
            | inr m' ↦
                let x = i.numbers p t' r' (m.0, m') in
                at_old s t (K.writes r) p
                (apart _ _ _ (omega (arith, x.0, x.1)) (omega (arith, x.0, x.1, pl, k, i.low, i.room, i.size)))
                ∙ i.stored p t' r' (m.0, m') (omega (arith, pl, k))
          ];
          every = λ p k k'. elim (cases_lt s.last p) [
            | inl l ↦
                let e1 : suc s.last ≡ p = omega arith in
                let P : ℕ → Type 0 = λ q. (t' : ℕ) × (r' : R) × Accepted ((Enter t r ⟶ entered (suc s.last) cs) ∷ h) q t' r' in
                subst P e1 (t, r, (cs, here))
            | inr l ↦ let x = i.every p k l in (x.0, x.1, (x.2.0, there x.2.1))
          ];
        }

    pub inv_did : {h : History R} {c : Call R} {a : Answer R} {s s' : Store} {ls ls' : List Listener}
        → Did K s ls c a s' ls' → Inv K slots s h → Inv K slots s' ((c ⟶ a) ∷ h)
    inv_did (entry z) i = inv_put _ _ _ _ z i
    inv_did started_list i = inv_left _ _ refl refl i.low (omega arith) i
    inv_did (released_to l) i = inv_left _ _ refl refl (omega arith) (omega (arith, i.low)) i
    inv_did (listened l l') i = inv_same _ refl refl i
    inv_did (gives x) i = inv_same _ refl refl i
    inv_did (quiet q) i = inv_same _ (quiet_none q) (quiet_count _ q) i
