-- Both ends of a telegram: what is written is what is read.
use Rattle.std.specs.Prelude.{◌≡◌, ℕ, ◌<◌, ◌≤◌, true, ◌↔◌, List, [], ◌∷◌, length, Ok, Result}
use Rattle.std.specs.List.{AllZip, AllByRecursion}
use Rattle.records.specs.declared.fault.RecordFault.{RecordFault}
use Rattle.records.specs.declared.frames.Frame.{Frame}
use Rattle.book.specs.declared.answers.Entered.{Entered as Entry}
use Rattle.book.specs.declared.answers.Reading.{Reading}
use Rattle.seals.specs.Fletcher.{is_sealed}
use Rattle.requests.specs.Parsing.{fields_of}
use Rattle.replies.specs.Layout.{status_fields, entered_fields, read_fields, status_reply, entered_reply, read_reply}
use Rattle.replies.specs.Fits.{ReadingFits, FrameFits, EnteredFits}
use Rattle.reading_end.specs.declared.reply.Reply.{Reply}
use Rattle.reading_end.specs.declared.reply.Reply.TheVariants.{Done, Refused, Entered, Read}
use Rattle.reading_end.specs.Layouts.{is_refusal_number, count_fits}
use Rattle.reading_end.specs.Replies.{reply_of}

-- f' is what the words of f read as, at the same time and position
pub record Again {R S : Type 0} (reads : List ℕ → Result S RecordFault) (writes : R → List ℕ) (f : Frame R) (f' : Frame S) : Type 0 where
  pub time : f'.time ≡ f.time
  pub position : f'.position ≡ f.position
  pub body : reads (writes f.body) ≡ Ok f'.body

-- as many, and each again
abbrev pub AllAgain : {R S : Type 0} → (List ℕ → Result S RecordFault) → (R → List ℕ) → List (Frame R) → List (Frame S) → Type 0
AllAgain reads writes [] [] = Unit {0}
AllAgain reads writes [] (f' ∷ fs') = ⊥
AllAgain reads writes (f ∷ fs) [] = ⊥
AllAgain reads writes (f ∷ fs) (f' ∷ fs') = Again reads writes f f' × AllAgain reads writes fs fs'

-- two frames of one time and one position, with records that mean the same
pub record SameFrame {R V : Type 0} (means : R → V) (f f' : Frame R) : Type 0 where
  pub time : f'.time ≡ f.time
  pub position : f'.position ≡ f.position
  pub meaning : means f'.body ≡ means f.body

-- whatever reply is written reads back as what went in
pub record RepliesBack {R V : Type 0} (kind : ℕ) (reads : List ℕ → Result R RecordFault) (writes : R → List ℕ) (means : R → V) : Type 0 where
  -- the lone status: done, or a refusal's number
  pub done : (room : ℕ) → reply_of kind reads (status_reply 0) room ≡ Ok (Done, [])
  pub refused : (n room : ℕ) → is_refusal_number n ≡ true → reply_of kind reads (status_reply n) room ≡ Ok (Refused n, [])
  -- the entry's answer
  pub entered : (e : Entry) (room : ℕ) → EnteredFits e → reply_of kind reads (entered_reply e) room ≡ Ok (Entered e, [])
  -- the read's answer, with every frame at its time and position and with a record that means the same
  pub read : (g : Reading) (fs : List (Frame R)) (room : ℕ)
      → ReadingFits g → AllByRecursion (FrameFits writes) fs → g.count ≡ length fs → count_fits g.status g.count ≡ true → length fs ≤ room
      → (fs' : List (Frame R)) × (reply_of kind reads (read_reply kind writes g fs) room ≡ Ok (Read g, fs')) × AllZip (SameFrame means) fs fs'

abbrev pub Bytes : List ℕ → Type 0
Bytes bs = AllByRecursion (λ b. b < 256) bs

-- a frame whose record is still four words
abbrev pub Unread : Type 0
Unread = Frame (List ℕ)

-- and how such words are written
abbrev pub unread : List ℕ → List ℕ
unread words = words

-- a read's answer: its head, then as many frames as it counts, of this kind and with words that read as records
pub record ReadLaid {R : Type 0} (kind : ℕ) (reads : List ℕ → Result R RecordFault) (fields : List ℕ) (room : ℕ) (g : Reading) (fs : List (Frame R)) (us : List Unread) : Type 0 where
  pub is : fields ≡ read_fields kind unread g us
  pub head : ReadingFits g
  pub frames : AllByRecursion (FrameFits unread) us
  pub again : AllAgain reads unread us fs
  pub count : g.count ≡ length fs
  pub lawful : count_fits g.status g.count ≡ true
  pub enough : length fs ≤ room

-- the three layouts
abbrev pub Laid : {R : Type 0} → ℕ → (List ℕ → Result R RecordFault) → List ℕ → ℕ → Reply → List (Frame R) → Type 0
Laid kind reads fields room Done fs = (fields ≡ status_fields 0) × (fs ≡ [])
Laid kind reads fields room (Refused n) fs = (fields ≡ status_fields n) × (is_refusal_number n ≡ true) × (fs ≡ [])
Laid kind reads fields room (Entered e) fs = (fields ≡ entered_fields e) × EnteredFits e × (fs ≡ [])
Laid kind reads fields room (Read g) fs = (us : List Unread) × ReadLaid kind reads fields room g fs us

-- bytes of a lawful length, sealed, with fields in one of the layouts
pub record Taken {R : Type 0} (kind : ℕ) (reads : List ℕ → Result R RecordFault) (bs : List ℕ) (room : ℕ) (x : Reply) (fs : List (Frame R)) : Type 0 where
  pub low : 2 ≤ length bs
  pub high : length bs ≤ 4096
  pub closes : is_sealed bs ≡ true
  pub layout : Laid kind reads (fields_of bs) room x fs

-- bytes are taken as a reply exactly so
abbrev pub LayoutsExact : {R : Type 0} → ℕ → (List ℕ → Result R RecordFault) → Type 0
LayoutsExact {R} kind reads = (bs : List ℕ) (room : ℕ) (x : Reply) (fs : List (Frame R)) → Bytes bs → (reply_of kind reads bs room ≡ Ok (x, fs)) ↔ Taken kind reads bs room x fs
