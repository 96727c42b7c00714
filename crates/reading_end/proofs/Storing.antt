-- Looking into frames one after another, and storing them.
use Rattle.std.proofs.Common.{◌≡◌, ℕ, zero, suc, ◌+◌, ◌-◌, ◌<◌, ◌≤◌, List, [], ◌∷◌, ◌++◌, length, get_or, take, drop, set, Ok, Err, Result, sym, refl, ap, ◌∙◌, append_assoc, arith}
use Rattle.std.proofs.lemmas.List.{take_more_set, drop-set-lt, drop_more, take-append-drop}
use Rattle.std.proofs.lemmas.Bool.{cond-true, le-leb}
use Rattle.records.specs.declared.fault.RecordFault.{RecordFault}
use Rattle.records.specs.declared.frames.Frame.{Frame}
use Rattle.fields.specs.Reading.{Rest}
use Rattle.requests.specs.declared.faults.TelegramFault.{TelegramFault}
use Rattle.reading_end.specs.Frames.{next_frame_of, consed, records_at, fault_of, store_at, stored_over, fits_row}

fault_consed : {R : Type 0} (f : Frame R) (o : Result (List (Frame R)) TelegramFault) → fault_of (consed f o) ≡ fault_of o
fault_consed f (Ok fs) = refl
fault_consed f (Err e) = refl

abbrev pub more : {R : Type 0} → ℕ → (List ℕ → Result R RecordFault) → ℕ → Result (Frame R × Rest) TelegramFault → Result (List (Frame R)) TelegramFault
more kind reads n o = elim o [ Ok p ↦ consed p.0 (records_at kind reads n p.1) | Err e ↦ Err e ]

pub fault_more : {R : Type 0} (kind : ℕ) (reads : List ℕ → Result R RecordFault) (n i : ℕ) (s t : Rest) (f : Frame R) → i < n → Ok (f, t) ≡ next_frame_of kind reads s → fault_of (records_at kind reads (n - i) s) ≡ fault_of (records_at kind reads (n - (i + 1)) t)
fault_more kind reads n i s t f lt e =
    let m : n - i ≡ suc (n - (i + 1)) = omega arith in
    ap (λ k. fault_of (records_at kind reads k s)) m
    ∙ ap (λ o. fault_of (more kind reads (n - (i + 1)) o)) (sym e)
    ∙ fault_consed f (records_at kind reads (n - (i + 1)) t)

pub fault_stops : {R : Type 0} (kind : ℕ) (reads : List ℕ → Result R RecordFault) (n i : ℕ) (s : Rest) (a : TelegramFault) → i < n → Err a ≡ next_frame_of kind reads s → fault_of (records_at kind reads (n - i) s) ≡ Err a
fault_stops kind reads n i s a lt e =
    let m : n - i ≡ suc (n - (i + 1)) = omega arith in
    ap (λ k. fault_of (records_at kind reads k s)) m ∙ ap (λ o. fault_of (more kind reads (n - (i + 1)) o)) (sym e)

abbrev stored : {R : Type 0} → ℕ → (List ℕ → Result R RecordFault) → Result (Frame R × Rest) TelegramFault → ℕ → Frame R → List (Frame R) → List (Frame R)
stored kind reads o n x row = elim o [ Ok p ↦ p.0 ∷ store_at kind reads n p.1 row | Err e ↦ x ∷ row ]

pub store_more : {R : Type 0} (kind : ℕ) (reads : List ℕ → Result R RecordFault) (n i : ℕ) (s t : Rest) (f : Frame R) (row : List (Frame R)) → i < n → i < length row → Ok (f, t) ≡ next_frame_of kind reads s → take (i + 1) (set row i f) ++ store_at kind reads (n - (i + 1)) t (drop (i + 1) (set row i f)) ≡ take i row ++ store_at kind reads (n - i) s (drop i row)
store_more kind reads n i s t f row lt inside e =
    let m : n - i ≡ suc (n - (i + 1)) = omega arith in
    ap (λ l. l ++ store_at kind reads (n - (i + 1)) t (drop (i + 1) (set row i f))) (take_more_set row i f inside)
    ∙ append_assoc (take i row) (f ∷ []) _
    ∙ ap (λ l. take i row ++ (f ∷ store_at kind reads (n - (i + 1)) t l)) (drop-set-lt (i + 1) row i f (omega arith))
    ∙ ap (λ o. take i row ++ stored kind reads o (n - (i + 1)) (get_or row i f) (drop (i + 1) row)) e
    ∙ ap (λ l. take i row ++ store_at kind reads (suc (n - (i + 1))) s l) (sym (drop_more row i f inside))
    ∙ ap (λ k. take i row ++ store_at kind reads k s (drop i row)) (sym m)

stops : {R : Type 0} (kind : ℕ) (reads : List ℕ → Result R RecordFault) (n : ℕ) (s : Rest) (a : TelegramFault) (row : List (Frame R)) → Err a ≡ next_frame_of kind reads s → row ≡ store_at kind reads n s row
stops kind reads zero s a row e = refl
stops kind reads (suc n) s a [] e = refl
stops kind reads (suc n) s a (x ∷ row) e = ap (λ o. stored kind reads o n x row) e

pub store_stops : {R : Type 0} (kind : ℕ) (reads : List ℕ → Result R RecordFault) (n i : ℕ) (s : Rest) (a : TelegramFault) (row : List (Frame R)) → Err a ≡ next_frame_of kind reads s → row ≡ take i row ++ store_at kind reads (n - i) s (drop i row)
store_stops kind reads n i s a row e = sym (take-append-drop i row) ∙ ap (λ l. take i row ++ l) (stops kind reads (n - i) s a (drop i row) e)

consed_over : {R : Type 0} (f x : Frame R) (row : List (Frame R)) (o : Result (List (Frame R)) TelegramFault) (u : Unit {0}) → Ok u ≡ fault_of o → f ∷ stored_over o row ≡ stored_over (consed f o) (x ∷ row)
consed_over f x row (Ok fs) u e = refl
consed_over f x row (Err a) u e = absurd (let z : ◌≡◌ {A = ℕ} 0 1 = cc in omega arith)

stored_whole : {R : Type 0} (kind : ℕ) (reads : List ℕ → Result R RecordFault) (n : ℕ) (u : Unit {0}) (x : Frame R) (row : List (Frame R)) (o : Result (Frame R × Rest) TelegramFault)
    → ((t : Rest) → Ok u ≡ fault_of (records_at kind reads n t) → store_at kind reads n t row ≡ stored_over (records_at kind reads n t) row)
    → Ok u ≡ fault_of (more kind reads n o) → stored kind reads o n x row ≡ stored_over (more kind reads n o) (x ∷ row)
stored_whole kind reads n u x row (Ok p) inner e =
    let ok : Ok u ≡ fault_of (records_at kind reads n p.1) = e ∙ fault_consed p.0 (records_at kind reads n p.1) in
    ap (λ l. p.0 ∷ l) (inner p.1 ok) ∙ consed_over p.0 x row (records_at kind reads n p.1) u ok
stored_whole kind reads n u x row (Err a) inner e = absurd (let z : ◌≡◌ {A = ℕ} 0 1 = cc in omega arith)

-- what is stored where no frame is refused
pub store_whole : {R : Type 0} (kind : ℕ) (reads : List ℕ → Result R RecordFault) (n : ℕ) (s : Rest) (u : Unit {0}) (row : List (Frame R)) → n ≤ length row → Ok u ≡ fault_of (records_at kind reads n s) → store_at kind reads n s row ≡ stored_over (records_at kind reads n s) row
store_whole kind reads zero s u row fit e = refl
store_whole kind reads (suc n) s u [] fit e = absurd (omega arith)
store_whole kind reads (suc n) s u (x ∷ row) fit e = stored_whole kind reads n u x row (next_frame_of kind reads s) (λ t ok. store_whole kind reads n t u row (omega arith) ok) e

-- in a row that is long enough nothing is refused for want of room
pub whole_fits : {X : Type 0} (n room : ℕ) (o : Result X TelegramFault) → n ≤ room → o ≡ fits_row n room o
whole_fits n room (Ok x) fit = sym (cond-true _ _ _ (le-leb n room fit))
whole_fits n room (Err e) fit = refl
