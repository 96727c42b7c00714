-- What a stretch of input makes a station write, and the book after it.
use Rattle.std.specs.Prelude.{◌≡◌, ℕ, zero, suc, ◌+◌, Bool, true, false, List, [], ◌∷◌, ◌++◌, length, drop, Result}
use Rattle.records.specs.declared.fault.RecordFault.{RecordFault}
use Rattle.runs.specs.Steps.{World, world}
use Rattle.exchange.specs.Orders.{asked_of, usable, frame_room}
use Rattle.exchange.specs.Answering.{sent_reply, sent_state, sent_slots}
use Rattle.framing.specs.Frames.{Front, Front.whole, Front.incomplete, Front.too_long, front, framed}

-- what a reply depends on besides the book: the kind of record, and the room for frames and for bytes
pub record Desk (R : Type 0) : Type 0 where
  pub kind : ℕ
  pub reads : List ℕ → Result R RecordFault
  pub writes : R → List ℕ
  pub frames : ℕ
  pub bytes : ℕ

abbrev pub desk : {R : Type 0} → ℕ → (List ℕ → Result R RecordFault) → (R → List ℕ) → ℕ → ℕ → Desk R
desk kind reads writes frames bytes = record { kind = kind; reads = reads; writes = writes; frames = frames; bytes = bytes }

-- the telegrams at the front of an input, at most so many
abbrev pub first_then : Front → (List ℕ → List (List ℕ)) → List (List ℕ)
first_then (whole telegram after) more = telegram ∷ more after
first_then (incomplete missing) more = []
first_then too_long more = []

unfoldable pub telegrams_up_to : ℕ → List ℕ → List (List ℕ)
telegrams_up_to zero input = []
telegrams_up_to (suc n) input = first_then (front input) (telegrams_up_to n)

-- the whole telegrams of an input; each takes four bytes at least
unfoldable pub telegrams : List ℕ → List (List ℕ)
telegrams input = telegrams_up_to (length input) input

-- the bytes that they take up
unfoldable pub taken : List (List ℕ) → ℕ
taken [] = 0
taken (telegram ∷ telegrams) = 4 + length telegram + taken telegrams

-- the bytes that wait after them
abbrev pub waiting : List ℕ → List ℕ
waiting input = drop (taken (telegrams input)) input

-- a length above 4,096 follows them
abbrev pub is_too_long : Front → Bool
is_too_long (whole telegram after) = false
is_too_long (incomplete missing) = false
is_too_long too_long = true

abbrev pub ends : List ℕ → Bool
ends input = is_too_long (front (waiting input))

-- the reply to a telegram, and the book after it
unfoldable pub reply_of : {R : Type 0} → Desk R → World → List ℕ → List ℕ
reply_of d w telegram =
    sent_reply d.reads d.kind d.writes (asked_of d.reads telegram (usable d.frames d.bytes)) w (frame_room d.frames d.bytes)

unfoldable pub after : {R : Type 0} → Desk R → World → List ℕ → World
after d w telegram =
    let asked = asked_of d.reads telegram (usable d.frames d.bytes) in
    let room = frame_room d.frames d.bytes in
    world w.number (sent_state asked w room) (sent_slots d.writes asked w room)

-- nothing is written where no reply is made
unfoldable pub written : List ℕ → List ℕ
written [] = []
written (byte ∷ bytes) = framed (byte ∷ bytes)

-- telegrams one after another, each on the book as those before left it
unfoldable pub writes_all : {R : Type 0} → Desk R → World → List (List ℕ) → List ℕ
writes_all d w [] = []
writes_all d w (telegram ∷ telegrams) = written (reply_of d w telegram) ++ writes_all d (after d w telegram) telegrams

unfoldable pub after_all : {R : Type 0} → Desk R → World → List (List ℕ) → World
after_all d w [] = w
after_all d w (telegram ∷ telegrams) = after_all d (after d w telegram) telegrams

-- an input that comes in two stretches is served as if it came in one
pub record Joins {R : Type 0} (d : Desk R) (w : World) (first second : List ℕ) : Type 0 where
  pub output : writes_all d w (telegrams (first ++ second)) ≡ writes_all d w (telegrams first) ++ writes_all d (after_all d w (telegrams first)) (telegrams (waiting first ++ second))
  pub book : after_all d w (telegrams (first ++ second)) ≡ after_all d (after_all d w (telegrams first)) (telegrams (waiting first ++ second))

abbrev pub StretchesJoin : {R : Type 0} → ℕ → (List ℕ → Result R RecordFault) → (R → List ℕ) → Type 0
StretchesJoin kind reads writes = (frames bytes : ℕ) (w : World) (first second : List ℕ) → Joins (desk kind reads writes frames bytes) w first second
