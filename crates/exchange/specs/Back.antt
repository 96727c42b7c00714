-- What the far end takes from a reply.
use Rattle.std.specs.Prelude.{◌≡◌, ℕ, ◌≤◌, List, [], ◌∷◌, Ok, Result}
use Rattle.std.specs.List.{AllZip, AllByRecursion}
use Rattle.records.specs.declared.fault.RecordFault.{RecordFault}
use Rattle.records.specs.declared.frames.Frame.{Frame}
use Rattle.book.specs.Told.{Told, Told.accepted, Told.refused}
use Rattle.requests.specs.declared.faults.TelegramFault.{TelegramFault}
use Rattle.replies.specs.Fits.{ReadingFits, FrameFits, EnteredFits}
use Rattle.reading_end.specs.declared.reply.Reply.{Reply}
use Rattle.reading_end.specs.Laws.{AllAgain, SameFrame}
use Rattle.reading_end.specs.Replies.{reply_of}
use Rattle.exchange.specs.declared.orders.Said.{Said}
use Rattle.exchange.specs.declared.orders.Said.TheVariants.{Done, Entered, Gave}

-- the numbers of what is said fit the bytes that carry them
abbrev pub SaidFits : {R : Type 0} → (R → List ℕ) → Said → List (Frame R) → Type 0
SaidFits writes Done frames = Unit {0}
SaidFits writes (Entered entered) frames = EnteredFits entered
SaidFits writes (Gave reading) frames = ReadingFits reading × AllByRecursion (FrameFits writes) frames

abbrev pub ToldFits : {R : Type 0} → (R → List ℕ) → Told Said → List (Frame R) → Type 0
ToldFits writes (accepted said) frames = SaidFits writes said frames
ToldFits writes (refused number) frames = Unit {0}

module _ {R V : Type 0} (reads : List ℕ → Result R RecordFault) (writes : R → List ℕ) (means : R → V) where
  -- what was told, taken from its reply: that it is done, the number of a refusal (10 or more), the entry's answer, or the read's with each frame at its time and position, its
  -- record as its words read, which means the same
  abbrev pub TakenAs : Told Said → List (Frame R) → Result (Reply × List (Frame R)) TelegramFault → Type 0
  TakenAs (accepted Done) frames taken = taken ≡ Ok (Reply.Done, [])
  TakenAs (accepted (Entered entered)) frames taken = taken ≡ Ok (Reply.Entered entered, [])
  TakenAs (accepted (Gave reading)) frames taken =
      (again : List (Frame R)) × (taken ≡ Ok (Reply.Read reading, again)) × AllAgain reads writes frames again × AllZip (SameFrame means) frames again
  TakenAs (refused number) frames taken = (10 ≤ number) × (taken ≡ Ok (Reply.Refused number, []))

  -- a reply in these bytes, if there is one, is so taken by a reading end whose row takes the frames of a reply
  abbrev pub ReadBack : ℕ → List ℕ → Told Said → List (Frame R) → Type 0
  ReadBack kind [] told frames = Unit {0}
  ReadBack kind (byte ∷ bytes) told frames = (room : ℕ) → 144 ≤ room → TakenAs told frames (reply_of kind reads (byte ∷ bytes) room)
