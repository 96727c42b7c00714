-- What a telegram is answered: what is said of it, the book after it, and its reply.
use Rattle.std.specs.Prelude.{◌≡◌, ℕ, ◌+◌, ◌*◌, ◌≤◌, cond, ◌&&◌, List, [], ◌∷◌, ◌++◌, length, take, drop, Ok, Err, Result, nat_le}
use Rattle.trays.specs.declared.slots.Slot.{Slot}
use Rattle.records.specs.declared.fault.RecordFault.{RecordFault}
use Rattle.records.specs.declared.frames.Frame.{Frame}
use Rattle.book.specs.declared.state.ListState.{ListState}
use Rattle.book.specs.Told.{Told, Told.accepted, Told.refused, decided, left, fault_number as book_number}
use Rattle.book.specs.Reads.{laid}
use Rattle.runs.specs.Steps.{World}
use Rattle.requests.specs.declared.faults.TelegramFault.{TelegramFault}
use Rattle.requests.specs.declared.faults.TelegramFault.TheVariants.{Length, NoBuffer, Seal, Form, NoMethod, OtherKind, Book}
use Rattle.requests.specs.Faults.{fault_number}
use Rattle.replies.specs.Layout.{status_reply, entered_reply, read_reply}
use Rattle.exchange.specs.declared.orders.Order.{Order}
use Rattle.exchange.specs.declared.orders.Said.{Said}
use Rattle.exchange.specs.declared.orders.Said.TheVariants.{Done, Entered, Gave}
use Rattle.exchange.specs.Orders.{order_checks, order_says, order_gives, order_state, order_slots}

-- what is told of a telegram that asks this: what the book says to the order, or why there is none
module _ {R : Type 0} (reads : List ℕ → Result R RecordFault) where
  abbrev pub sent_told : Result (Order R) TelegramFault → World → ℕ → Told Said
  sent_told (Ok order) w room = decided (order_checks order w room) (order_says reads order w room)
  sent_told (Err fault) w room = refused (fault_number fault)

  -- the frames that it gives, and the row after it
  abbrev pub sent_gives : Result (Order R) TelegramFault → World → ℕ → List (Frame R)
  sent_gives (Ok order) w room = left (order_checks order w room) (order_gives reads order w room) []
  sent_gives (Err fault) w room = []

  abbrev pub sent_row : Result (Order R) TelegramFault → World → ℕ → List (Frame R) → List (Frame R)
  sent_row (Ok order) w room old = left (order_checks order w room) (laid (order_gives reads order w room) old) old
  sent_row (Err fault) w room old = old

-- the list and the slots after it
abbrev pub sent_state : {R : Type 0} → Result (Order R) TelegramFault → World → ℕ → ListState
sent_state (Ok order) w room = left (order_checks order w room) (order_state order w) w.state
sent_state (Err fault) w room = w.state

abbrev pub sent_slots : {R : Type 0} → (R → List ℕ) → Result (Order R) TelegramFault → World → ℕ → List Slot
sent_slots writes (Ok order) w room = left (order_checks order w room) (order_slots writes order w) w.row
sent_slots writes (Err fault) w room = w.row

-- an answer that the book gave: of a refusal, the book's fault is carried whole
abbrev pub ByBook : {X : Type 0} → Result X TelegramFault → Told X → Type 0
ByBook (Ok said) told = accepted said ≡ told
ByBook (Err (Book fault)) told = refused (book_number fault) ≡ told
ByBook (Err Length) told = ⊥
ByBook (Err NoBuffer) told = ⊥
ByBook (Err Seal) told = ⊥
ByBook (Err (Form at)) told = ⊥
ByBook (Err NoMethod) told = ⊥
ByBook (Err OtherKind) told = ⊥

-- a telegram that asks nothing of the book is refused with the fault found in it
abbrev pub Answered : {X R : Type 0} → Result X TelegramFault → Result (Order R) TelegramFault → Told X → Type 0
Answered r (Ok order) told = ByBook r told
Answered r (Err fault) told = r ≡ Err fault

abbrev pub said_told : Result Said TelegramFault → Told Said
said_told (Ok said) = accepted said
said_told (Err fault) = refused (fault_number fault)

-- the frames of an answer, in the row that it has filled
abbrev pub frames_in : {R : Type 0} → Said → List (Frame R) → List (Frame R)
frames_in Done row = []
frames_in (Entered entered) row = []
frames_in (Gave reading) row = take reading.count row

abbrev pub Within : Said → ℕ → Type 0
Within Done room = Unit {0}
Within (Entered entered) room = Unit {0}
Within (Gave reading) room = reading.count ≤ room

abbrev pub said_gives : {R : Type 0} → Result Said TelegramFault → List (Frame R) → List (Frame R)
said_gives (Ok said) row = frames_in said row
said_gives (Err fault) row = []

abbrev pub SaidWithin : Result Said TelegramFault → ℕ → Type 0
SaidWithin (Ok said) room = Within said room
SaidWithin (Err fault) room = Unit {0}

-- the reply to what the book says
abbrev pub said_reply : {R : Type 0} → ℕ → (R → List ℕ) → Said → List (Frame R) → List ℕ
said_reply kind writes Done frames = status_reply 0
said_reply kind writes (Entered entered) frames = entered_reply entered
said_reply kind writes (Gave reading) frames = read_reply kind writes reading frames

-- refusals with 10, 11 and 12 are not replied to
abbrev pub refusal_reply : ℕ → List ℕ
refusal_reply number = cond (nat_le 10 number && nat_le number 12) [] (status_reply number)

-- the reply to what is told
abbrev pub reply_to : {R : Type 0} → ℕ → (R → List ℕ) → Told Said → List (Frame R) → List ℕ
reply_to kind writes (accepted said) frames = said_reply kind writes said frames
reply_to kind writes (refused number) frames = refusal_reply number

-- the outcome of an answer: done, or its refusal
abbrev pub outcome_told : Told Said → Told (Unit {0})
outcome_told (accepted said) = accepted tt
outcome_told (refused number) = refused number

abbrev pub outcome_of : Result Said TelegramFault → Result (Unit {0}) TelegramFault
outcome_of (Ok said) = Ok tt
outcome_of (Err fault) = Err fault

module _ {R : Type 0} (reads : List ℕ → Result R RecordFault) where
  -- the channel test, a telegram of no bytes, is done before every check
  abbrev pub Outcome : Result (Unit {0}) TelegramFault → List ℕ → Result (Order R) TelegramFault → World → ℕ → Type 0
  Outcome r [] asked w room = r ≡ Ok tt
  Outcome r (byte ∷ bytes) asked w room = Answered r asked (outcome_told (sent_told reads asked w room))

  -- the reply to a telegram that asks this of a book
  abbrev pub sent_reply : ℕ → (R → List ℕ) → Result (Order R) TelegramFault → World → ℕ → List ℕ
  sent_reply kind writes asked w room = reply_to kind writes (sent_told reads asked w room) (sent_gives reads asked w room)

-- a buffer with a reply at its start; bytes after the reply stay
abbrev pub replied : List ℕ → List ℕ → List ℕ
replied reply buffer = reply ++ drop (length reply) buffer

-- a buffer of so many bytes takes a reply with so many frames, where a telegram is served for which there is so much room
abbrev pub Roomy : ℕ → ℕ → ℕ → Type 0
Roomy room frames bytes = 82 ≤ room → (82 ≤ bytes) × (54 + 28 * frames ≤ bytes)
