-- What a telegram asks of a book, and what it does there.
use Rattle.std.specs.Prelude.{ℕ, ◌-◌, ◌/◌, min, cond, List, [], ◌++◌, length, Ok, Err, Result, ◌==◌}
use Rattle.trays.specs.declared.slots.Slot.{Slot}
use Rattle.records.specs.declared.fault.RecordFault.{RecordFault}
use Rattle.records.specs.declared.frames.Frame.{Frame}
use Rattle.book.specs.declared.fault.BookFault.{BookFault}
use Rattle.book.specs.declared.fault.BookFault.TheVariants.{Record}
use Rattle.book.specs.declared.key.KeyPlace.TheVariants.{In, Out}
use Rattle.book.specs.declared.state.ListState.{ListState}
use Rattle.book.specs.Told.{Checks}
use Rattle.book.specs.State.{entered, heard, with_key}
use Rattle.book.specs.Calls.{enter_checks, enter_answer, enter_row, take_checks}
use Rattle.book.specs.Reads.{listen_checks}
use Rattle.runs.specs.declared.asked.Read.{Read}
use Rattle.runs.specs.declared.asked.Keyed.{Keyed}
use Rattle.runs.specs.Steps.{World, keyed_checks, keyed_state, read_checks, read_answer, read_gives}
use Rattle.requests.specs.declared.naming.Request.{Request}
use Rattle.requests.specs.declared.naming.Request.TheVariants.{Since, Oldest, Youngest, Span, Start, Stop, Release}
use Rattle.requests.specs.declared.faults.TelegramFault.{TelegramFault}
use Rattle.requests.specs.declared.faults.TelegramFault.TheVariants.{Book}
use Rattle.requests.specs.Parsing.{request_of}
use Rattle.exchange.specs.declared.orders.Order.{Order}
use Rattle.exchange.specs.declared.orders.Order.TheVariants.{Enter, Listen, Show, Ask}
use Rattle.exchange.specs.declared.orders.Said.{Said}
use Rattle.exchange.specs.declared.orders.Said.TheVariants.{Done, Entered, Gave}

-- a row without frames leaves no room for one, just as a buffer under 82 bytes does
abbrev pub usable : ℕ → ℕ → ℕ
usable frames bytes = cond (frames == 0) 0 bytes

-- as many frames as the row and the buffer take: 54 bytes, and 28 for each frame
abbrev pub frame_room : ℕ → ℕ → ℕ
frame_room frames bytes = min frames ((bytes - 54) / 28)

module _ {R : Type 0} (reads : List ℕ → Result R RecordFault) where
  abbrev pub entry_of : ℕ → Result R RecordFault → Result (Order R) BookFault
  entry_of time (Ok r) = Ok (Enter time r)
  entry_of time (Err fault) = Err (Record fault)

  -- an entry's words have to be lawful
  abbrev pub order_of : Request → Result (Order R) BookFault
  order_of (Since mark limit) = Ok (Ask (Read.Since mark limit))
  order_of Oldest = Ok (Ask Read.Oldest)
  order_of Youngest = Ok (Ask Read.Youngest)
  order_of (Span first last limit) = Ok (Ask (Read.Span first last limit))
  order_of (Request.Listen party mark level) = Ok (Listen party mark level)
  order_of Start = Ok (Show Keyed.Start)
  order_of Stop = Ok (Show Keyed.Stop)
  order_of (Release position) = Ok (Show (Keyed.Release position))
  order_of (Request.Enter time words) = entry_of time (reads words)

  abbrev pub in_telegram : Result (Order R) BookFault → Result (Order R) TelegramFault
  in_telegram (Ok order) = Ok order
  in_telegram (Err fault) = Err (Book fault)

  abbrev pub ordered : Result Request TelegramFault → Result (Order R) TelegramFault
  ordered (Ok request) = in_telegram (order_of request)
  ordered (Err fault) = Err fault

  -- what a telegram asks, where there is room for a reply of so many bytes
  abbrev pub asked_of : List ℕ → ℕ → Result (Order R) TelegramFault
  asked_of telegram room = ordered (request_of telegram room)

-- a call that shows the key takes it first, and hands it back
abbrev pub own_key_checks : Keyed → ListState → ℕ → Checks
own_key_checks call s number = take_checks s ++ keyed_checks call (with_key Out s) number number

abbrev pub own_key_state : Keyed → ListState → ListState
own_key_state call s = with_key In (keyed_state call (with_key Out s))

-- the checks of an order, in their order
abbrev pub order_checks : {R : Type 0} → Order R → World → ℕ → Checks
order_checks (Enter time r) w room = enter_checks w.state time (length w.row)
order_checks (Listen party mark level) w room = listen_checks w.state w.row party mark
order_checks (Show call) w room = own_key_checks call w.state w.number
order_checks (Ask read) w room = read_checks read w.state w.row room

module _ {R : Type 0} (reads : List ℕ → Result R RecordFault) where
  -- what an accepted order is answered, and the frames that it gives
  abbrev pub order_says : Order R → World → ℕ → Said
  order_says (Enter time r) w room = Entered (enter_answer w.state time (length w.row))
  order_says (Listen party mark level) w room = Done
  order_says (Show call) w room = Done
  order_says (Ask read) w room = Gave (read_answer reads read w.state w.row room)

  abbrev pub order_gives : Order R → World → ℕ → List (Frame R)
  order_gives (Enter time r) w room = []
  order_gives (Listen party mark level) w room = []
  order_gives (Show call) w room = []
  order_gives (Ask read) w room = read_gives reads read w.state w.row room

-- the list and the slots after an accepted order
abbrev pub order_state : {R : Type 0} → Order R → World → ListState
order_state (Enter time r) w = entered w.state time (length w.row)
order_state (Listen party mark level) w = heard party mark level w.state
order_state (Show call) w = own_key_state call w.state
order_state (Ask read) w = w.state

abbrev pub order_slots : {R : Type 0} → (R → List ℕ) → Order R → World → List Slot
order_slots writes (Enter time r) w = enter_row w.state w.row time (writes r)
order_slots writes (Listen party mark level) w = w.row
order_slots writes (Show call) w = w.row
order_slots writes (Ask read) w = w.row
