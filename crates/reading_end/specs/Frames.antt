-- The frames of a read's reply: each of the right kind, with lawful words.
use Rattle.std.specs.Prelude.{ℕ, zero, suc, cond, List, [], ◌∷◌, ◌++◌, length, drop, Ok, Err, Result, ◌==◌, nat_le}
use Rattle.records.specs.declared.fault.RecordFault.{RecordFault}
use Rattle.records.specs.declared.frames.Frame.{Frame}
use Rattle.book.specs.declared.fault.BookFault.TheVariants.{Record}
use Rattle.fields.specs.declared.value.RawFrame.{RawFrame}
use Rattle.fields.specs.Reading.{Rest, frame_at}
use Rattle.requests.specs.declared.faults.TelegramFault.{TelegramFault}
use Rattle.requests.specs.declared.faults.TelegramFault.TheVariants.{NoBuffer, Form, OtherKind, Book}

abbrev pub framed : {R : Type 0} → RawFrame → Result R RecordFault → Result (Frame R) TelegramFault
framed f (Ok r) = Ok (record { time = f.time; position = f.position; body = r })
framed f (Err e) = Err (Book (Record e))

-- a frame of another kind is refused before its words are read
abbrev pub record_of : {R : Type 0} → ℕ → (List ℕ → Result R RecordFault) → RawFrame → Result (Frame R) TelegramFault
record_of kind reads f = cond (f.kind == kind) (framed f (reads f.words)) (Err OtherKind)

abbrev pub frame_step : {R : Type 0} → Result (Frame R) TelegramFault → Rest → Result (Frame R × Rest) TelegramFault
frame_step (Ok f) s = Ok (f, s)
frame_step (Err e) s = Err e

abbrev pub frame_then : {R : Type 0} → ℕ → (List ℕ → Result R RecordFault) → Result (RawFrame × Rest) ℕ → Result (Frame R × Rest) TelegramFault
frame_then kind reads (Ok p) = frame_step (record_of kind reads p.0) p.1
frame_then kind reads (Err at) = Err (Form at)

unfoldable pub next_frame_of : {R : Type 0} → ℕ → (List ℕ → Result R RecordFault) → Rest → Result (Frame R × Rest) TelegramFault
next_frame_of kind reads s = frame_then kind reads (frame_at s)

abbrev pub consed : {R : Type 0} → Frame R → Result (List (Frame R)) TelegramFault → Result (List (Frame R)) TelegramFault
consed f (Ok fs) = Ok (f ∷ fs)
consed f (Err e) = Err e

-- n frames, one after another, or the first fault
abbrev pub records_at : {R : Type 0} → ℕ → (List ℕ → Result R RecordFault) → ℕ → Rest → Result (List (Frame R)) TelegramFault
records_at kind reads zero s = Ok []
records_at kind reads (suc n) s = elim (next_frame_of kind reads s) [ Ok p ↦ consed p.0 (records_at kind reads n p.1) | Err e ↦ Err e ]

abbrev pub fault_of : {X : Type 0} → Result X TelegramFault → Result (Unit {0}) TelegramFault
fault_of (Ok x) = Ok tt
fault_of (Err e) = Err e

-- a row, after frames are stored from its start up to the first fault
abbrev pub store_at : {R : Type 0} → ℕ → (List ℕ → Result R RecordFault) → ℕ → Rest → List (Frame R) → List (Frame R)
store_at kind reads zero s row = row
store_at kind reads (suc n) s [] = []
store_at kind reads (suc n) s (x ∷ row) = elim (next_frame_of kind reads s) [ Ok p ↦ p.0 ∷ store_at kind reads n p.1 row | Err e ↦ x ∷ row ]

abbrev pub fits_row : {X : Type 0} → ℕ → ℕ → Result X TelegramFault → Result X TelegramFault
fits_row n room (Ok x) = cond (nat_le n room) (Ok x) (Err NoBuffer)
fits_row n room (Err e) = Err e

-- the frames from the row's start, and the rest of the row as it was; a refusal leaves the row
abbrev pub stored_over : {R : Type 0} → Result (List (Frame R)) TelegramFault → List (Frame R) → List (Frame R)
stored_over (Ok fs) row = fs ++ drop (length fs) row
stored_over (Err e) row = row
