-- What each call of a run does, by the promises of the book's own calls.
use Rattle.std.specs.Prelude.{◌≡◌, ℕ, List, [], ◌∷◌, length, Some, None, Option, Result}
use Rattle.trays.specs.declared.slots.Slot.{Slot}
use Rattle.records.specs.declared.fault.RecordFault.{RecordFault}
use Rattle.records.specs.declared.frames.Frame.{Frame}
use Rattle.book.specs.declared.answers.Reading.{Reading}
use Rattle.book.specs.declared.books.Book.{Book}
use Rattle.book.specs.declared.key.KeyPlace.{KeyPlace}
use Rattle.book.specs.declared.key.KeyPlace.TheVariants.{In, Out}
use Rattle.book.specs.declared.key.ServiceKey.{ServiceKey}
use Rattle.book.specs.declared.state.ListState.{ListState}
use Rattle.book.specs.Told.{Checks, decided, left}
use Rattle.book.specs.State.{entered, started, stopped, moded, released, heard, with_key}
use Rattle.book.specs.Calls.{enter_checks, enter_answer, enter_row, start_checks, stop_checks, mode_checks, release_checks, take_checks, key_checks}
use Rattle.book.specs.Reads.{listen_checks, since_checks, since_answer, since_gives, end_checks, oldest_answer, oldest_gives, youngest_answer, youngest_gives, span_checks, span_answer, span_gives}
use Rattle.runs.specs.Answers.{Answer, as_done, as_entered, as_given, as_key}
use Rattle.runs.specs.declared.asked.Call.{Call}
use Rattle.runs.specs.declared.asked.Read.{Read}
use Rattle.runs.specs.declared.asked.Read.TheVariants.{Since, Oldest, Youngest, Span}
use Rattle.runs.specs.declared.asked.Keyed.{Keyed}
use Rattle.runs.specs.declared.asked.Keyed.TheVariants.{Start, Stop, SetMode, Release}

abbrev pub keyed_checks : Keyed → ListState → ℕ → ℕ → Checks
keyed_checks Start s number key = start_checks s number key
keyed_checks Stop s number key = stop_checks s number key
keyed_checks (SetMode mode) s number key = mode_checks s number key
keyed_checks (Release position) s number key = release_checks s number key position

abbrev pub keyed_state : Keyed → ListState → ListState
keyed_state Start s = started s
keyed_state Stop s = stopped s
keyed_state (SetMode mode) s = moded mode s
keyed_state (Release position) s = released position s

abbrev pub read_checks : Read → ListState → List Slot → ℕ → Checks
read_checks (Since mark limit) s row room = since_checks s row mark limit room
read_checks Oldest s row room = end_checks room
read_checks Youngest s row room = end_checks room
read_checks (Span first last limit) s row room = span_checks first last limit room

module _ {R : Type 0} (reads : List ℕ → Result R RecordFault) where
  abbrev pub read_answer : Read → ListState → List Slot → ℕ → Reading
  read_answer (Since mark limit) s row room = since_answer reads s row mark limit room
  read_answer Oldest s row room = oldest_answer reads s row
  read_answer Youngest s row room = youngest_answer reads s row
  read_answer (Span first last limit) s row room = span_answer reads s row first last limit room

  abbrev pub read_gives : Read → ListState → List Slot → ℕ → List (Frame R)
  read_gives (Since mark limit) s row room = since_gives reads s row mark limit room
  read_gives Oldest s row room = oldest_gives reads s row
  read_gives Youngest s row room = youngest_gives reads s row
  read_gives (Span first last limit) s row room = span_gives reads s row first last limit room

-- the key in hand is this book's exactly while it is out
abbrev pub HeldKey : Option ServiceKey → ℕ → KeyPlace → Type 0
HeldKey (Some key) number place = (key.book ≡ number) × (place ≡ Out)
HeldKey None number place = place ≡ In

-- a book as it stands: its number, its list and its slots
pub record World : Type 0 where
  pub number : ℕ
  pub state : ListState
  pub row : List Slot

abbrev pub world : ℕ → ListState → List Slot → World
world number state row = record { number = number; state = state; row = row }

-- the same of a book over a tray of this row
abbrev pub world_of : {R T : Type 0} → (T → List Slot) → Book R T → World
world_of row book = world book.number book.state (row book.tray)

-- the calls that show a key, and the reads, by what they have in common
abbrev pub keyed_answer : {R : Type 0} → Keyed → ℕ → World → Answer R
keyed_answer call key w = as_done (decided (keyed_checks call w.state w.number key) tt)

abbrev pub keyed_after : Keyed → ℕ → World → ListState
keyed_after call key w = left (keyed_checks call w.state w.number key) (keyed_state call w.state) w.state

abbrev pub reads_answer : {R : Type 0} → (List ℕ → Result R RecordFault) → Read → ℕ → World → Answer R
reads_answer reads read room w =
    as_given (decided (read_checks read w.state w.row room) (read_answer reads read w.state w.row room)) (read_gives reads read w.state w.row room)

-- what a call on a book is answered
abbrev pub step_answer : {R : Type 0} → (List ℕ → Result R RecordFault) → Call R → World → Answer R
step_answer reads (Call.Enter time «record») w =
    as_entered (decided (enter_checks w.state time (length w.row)) (enter_answer w.state time (length w.row)))
step_answer reads (Call.Start key) w = keyed_answer Start key w
step_answer reads (Call.Stop key) w = keyed_answer Stop key w
step_answer reads (Call.SetMode key mode) w = keyed_answer (SetMode mode) key w
step_answer reads (Call.Release key position) w = keyed_answer (Release position) key w
step_answer reads (Call.Listen party mark fill) w = as_done (decided (listen_checks w.state w.row party mark) tt)
step_answer reads (Call.Since mark limit room) w = reads_answer reads (Since mark limit) room w
step_answer reads (Call.Oldest room) w = reads_answer reads Oldest room w
step_answer reads (Call.Youngest room) w = reads_answer reads Youngest room w
step_answer reads (Call.Span first last limit room) w = reads_answer reads (Span first last limit) room w
step_answer reads Call.Take w = as_key (decided (take_checks w.state) w.number)
step_answer reads (Call.HandBack key) w = as_done (decided (key_checks w.state w.number key) tt)

-- the list after a call
abbrev pub step_state : {R : Type 0} → Call R → World → ListState
step_state (Call.Enter time «record») w =
    left (enter_checks w.state time (length w.row)) (entered w.state time (length w.row)) w.state
step_state (Call.Start key) w = keyed_after Start key w
step_state (Call.Stop key) w = keyed_after Stop key w
step_state (Call.SetMode key mode) w = keyed_after (SetMode mode) key w
step_state (Call.Release key position) w = keyed_after (Release position) key w
step_state (Call.Listen party mark fill) w = left (listen_checks w.state w.row party mark) (heard party mark fill w.state) w.state
step_state (Call.Since mark limit room) w = w.state
step_state (Call.Oldest room) w = w.state
step_state (Call.Youngest room) w = w.state
step_state (Call.Span first last limit room) w = w.state
step_state Call.Take w = left (take_checks w.state) (with_key Out w.state) w.state
step_state (Call.HandBack key) w = left (key_checks w.state w.number key) (with_key In w.state) w.state

-- the slots after a call: only an accepted entry puts into one
abbrev pub step_row : {R : Type 0} → (R → List ℕ) → Call R → World → List Slot
step_row writes (Call.Enter time «record») w =
    left (enter_checks w.state time (length w.row)) (enter_row w.state w.row time (writes «record»)) w.row
step_row writes (Call.Start key) w = w.row
step_row writes (Call.Stop key) w = w.row
step_row writes (Call.SetMode key mode) w = w.row
step_row writes (Call.Release key position) w = w.row
step_row writes (Call.Listen party mark fill) w = w.row
step_row writes (Call.Since mark limit room) w = w.row
step_row writes (Call.Oldest room) w = w.row
step_row writes (Call.Youngest room) w = w.row
step_row writes (Call.Span first last limit room) w = w.row
step_row writes Call.Take w = w.row
step_row writes (Call.HandBack key) w = w.row

abbrev pub step : {R : Type 0} → (R → List ℕ) → Call R → World → World
step writes call w = world w.number (step_state call w) (step_row writes call w)

-- a list of calls, each on the book as those before left it
abbrev pub after : {R : Type 0} → (R → List ℕ) → World → List (Call R) → World
after writes w [] = w
after writes w (call ∷ calls) = after writes (step writes call w) calls

abbrev pub answers : {R : Type 0} → (List ℕ → Result R RecordFault) → (R → List ℕ) → World → List (Call R) → List (Answer R)
answers reads writes w [] = []
answers reads writes w (call ∷ calls) = step_answer reads call w ∷ answers reads writes (step writes call w) calls
