-- A reply as it is read: what it says, and the frames that it brings.
use Rattle.std.specs.Prelude.{ℕ, List, [], ◌++◌, length, drop, Ok, Err, Result}
use Rattle.records.specs.declared.fault.RecordFault.{RecordFault}
use Rattle.records.specs.declared.frames.Frame.{Frame}
use Rattle.fields.specs.Reading.{Rest, skipped}
use Rattle.requests.specs.declared.faults.TelegramFault.{TelegramFault}
use Rattle.requests.specs.Parsing.{after, fields_of}
use Rattle.reading_end.specs.declared.reply.Reply.{Reply}
use Rattle.reading_end.specs.declared.reply.Reply.TheVariants.{Done, Refused, Entered, Read}
use Rattle.reading_end.specs.Layouts.{reply_at, formed, intact_of}
use Rattle.reading_end.specs.Frames.{records_at, fits_row}

-- a read's frames stand after the 52 bytes from its status to its count; they are looked into before the row is
abbrev pub frames_of : {R : Type 0} → ℕ → (List ℕ → Result R RecordFault) → ℕ → Reply → Rest → Result (List (Frame R)) TelegramFault
frames_of kind reads room (Read g) s = fits_row g.count room (records_at kind reads g.count (skipped 52 s))
frames_of kind reads room (Entered e) s = Ok []
frames_of kind reads room Done s = Ok []
frames_of kind reads room (Refused n) s = Ok []

abbrev pub with_frames : {R : Type 0} → Reply → Result (List (Frame R)) TelegramFault → Result (Reply × List (Frame R)) TelegramFault
with_frames reply (Ok fs) = Ok (reply, fs)
with_frames reply (Err e) = Err e

abbrev pub brought : {R : Type 0} → ℕ → (List ℕ → Result R RecordFault) → ℕ → Rest → Result Reply TelegramFault → Result (Reply × List (Frame R)) TelegramFault
brought kind reads room s (Ok reply) = with_frames reply (frames_of kind reads room reply s)
brought kind reads room s (Err e) = Err e

-- the layout, then the frames, then the row
abbrev pub told_at : {R : Type 0} → ℕ → (List ℕ → Result R RecordFault) → ℕ → Rest → Result (Reply × List (Frame R)) TelegramFault
told_at kind reads room s = brought kind reads room s (formed (reply_at s))

-- before them length and seal
abbrev pub reply_of : {R : Type 0} → ℕ → (List ℕ → Result R RecordFault) → List ℕ → ℕ → Result (Reply × List (Frame R)) TelegramFault
reply_of kind reads bs room = after (intact_of bs) (told_at kind reads room (fields_of bs, 0))

abbrev pub answer_of : {R : Type 0} → Result (Reply × List (Frame R)) TelegramFault → Result Reply TelegramFault
answer_of (Ok p) = Ok p.0
answer_of (Err e) = Err e

-- the frames from the row's start, and the rest of the row as it was; a refusal leaves the row
abbrev pub row_after : {R : Type 0} → Result (Reply × List (Frame R)) TelegramFault → List (Frame R) → List (Frame R)
row_after (Ok p) row = p.1 ++ drop (length p.1) row
row_after (Err e) row = row
