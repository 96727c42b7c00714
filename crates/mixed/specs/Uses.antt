-- A run, use by use: calls of the book and telegrams to it, what is seen of each, and the book after it.
use Rattle.std.specs.Prelude.{◌≡◌, ℕ, List, [], ◌∷◌, ◌++◌, Ok, Err, vec_items, Result}
use Rattle.std.specs.List.{AllByRecursion}
use Rattle.records.specs.declared.frames.Frame.{Frame}
use Rattle.book.specs.Told.{Told, Told.accepted, Told.refused as was_refused}
use Rattle.runs.specs.declared.asked.Call.{Call}
use Rattle.runs.specs.declared.asked.Read.{Read}
use Rattle.runs.specs.declared.asked.Keyed.{Keyed}
use Rattle.runs.specs.Answers.{Answer, Answer.refused, Answer.done, Answer.entered, Answer.gave}
use Rattle.runs.specs.Steps.{World, world, step, step_answer, read_gives}
use Rattle.requests.specs.declared.faults.TelegramFault.{TelegramFault}
use Rattle.requests.specs.Faults.{fault_number}
use Rattle.reading_end.specs.declared.reply.Reply.{Reply}
use Rattle.reading_end.specs.Replies.{reply_of}
use Rattle.exchange.specs.declared.orders.Order.{Order}
use Rattle.exchange.specs.declared.orders.Order.TheVariants.{Enter, Listen, Show, Ask}
use Rattle.exchange.specs.declared.orders.Said.{Said}
use Rattle.exchange.specs.declared.orders.Said.TheVariants.{Done, Entered, Gave}
use Rattle.exchange.specs.Orders.{usable, frame_room, asked_of}
use Rattle.exchange.specs.Answering.{sent_told, sent_gives, sent_state, sent_slots, sent_reply}
use Rattle.mixed.specs.declared.turns.Turn.{Turn}
use Rattle.mixed.specs.declared.turns.Answer.{Answer as TurnAnswer}
use Rattle.mixed.specs.declared.turns.Answer.TheVariants.{Told as WasTold, Replied}
use Rattle.runs.specs.Answers.{answer_of}
use Rattle.runs.specs.Histories.{Event.◌⟶◌, History}
use Rattle.mixed.specs.Kinds.{Numbered}

-- a call, or a telegram of these bytes with a row of so many frames and a reply buffer of so many bytes
pub data Use (R : Type 0) : Type 0 where
  own : Call R → Use R
  sent : List ℕ → ℕ → ℕ → Use R

-- what is seen of it: the answer, or the reply and what the reading end takes from it
pub data Seen (R : Type 0) : Type 0 where
  told : Answer R → Seen R
  replied : List ℕ → Answer R → Seen R
  unanswered : Seen R

abbrev pub use_of : {R : Type 0} → Turn R → Use R
use_of (Turn.Call call) = own call
use_of (Turn.Telegram bytes frames buffer) = sent (vec_items bytes) frames buffer

-- a reply of no bytes is none
abbrev pub seen_reply : {R : Type 0} → List ℕ → Answer R → Seen R
seen_reply [] answer = unanswered
seen_reply (byte ∷ bytes) answer = replied (byte ∷ bytes) answer

-- the answer that the reading end takes from a reply
abbrev pub reply_answer : {R : Type 0} → Reply → List (Frame R) → Answer R
reply_answer Reply.Done frames = done
reply_answer (Reply.Refused number) frames = refused number
reply_answer (Reply.Entered answer) frames = entered answer.position answer.called
reply_answer (Reply.Read reading) frames = gave reading frames

abbrev pub taken_answer : {R : Type 0} → Result (Reply × List (Frame R)) TelegramFault → Answer R
taken_answer (Ok taken) = reply_answer taken.0 taken.1
taken_answer (Err fault) = refused (fault_number fault)

-- what the book says to a telegram, as an answer
abbrev pub as_said : {R : Type 0} → Told Said → List (Frame R) → Answer R
as_said (accepted Done) frames = done
as_said (accepted (Entered answer)) frames = entered answer.position answer.called
as_said (accepted (Gave reading)) frames = gave reading frames
as_said (was_refused number) frames = refused number

-- the call that a telegram's order counts as: the key that it shows is the book's own, and its row takes so many frames
abbrev pub keyed_call : {R : Type 0} → ℕ → Keyed → Call R
keyed_call number Keyed.Start = Call.Start number
keyed_call number Keyed.Stop = Call.Stop number
keyed_call number (Keyed.SetMode mode) = Call.SetMode number mode
keyed_call number (Keyed.Release position) = Call.Release number position

abbrev pub read_call : {R : Type 0} → ℕ → Read → Call R
read_call room (Read.Since mark limit) = Call.Since mark limit room
read_call room Read.Oldest = Call.Oldest room
read_call room Read.Youngest = Call.Youngest room
read_call room (Read.Span first last limit) = Call.Span first last limit room

abbrev pub call_of : {R : Type 0} → ℕ → ℕ → Order R → Call R
call_of number room (Enter time r) = Call.Enter time r
call_of number room (Listen party mark level) = Call.Listen party mark level
call_of number room (Show call) = keyed_call number call
call_of number room (Ask read) = read_call room read

module _ {R V : Type 0} (K : Numbered R V) where
  abbrev pub seen_of : TurnAnswer R → Seen R
  seen_of (WasTold reply) = told (answer_of reply)
  seen_of (Replied bytes) = seen_reply (vec_items bytes) (taken_answer (reply_of K.number K.kind.reads (vec_items bytes) 144))

  -- what a telegram asks, and how many frames its reply may bring
  abbrev pub asks : List ℕ → ℕ → ℕ → Result (Order R) TelegramFault
  asks bytes frames buffer = asked_of K.kind.reads bytes (usable frames buffer)

  abbrev pub sent_answer : Result (Order R) TelegramFault → ℕ → World → Answer R
  sent_answer asked room w = as_said (sent_told K.kind.reads asked w room) (sent_gives K.kind.reads asked w room)

  -- what is seen of a use, and the book after it
  abbrev pub use_seen : Use R → World → Seen R
  use_seen (own call) w = told (step_answer K.kind.reads call w)
  use_seen (sent bytes frames buffer) w =
      seen_reply (sent_reply K.kind.reads K.number K.kind.writes (asks bytes frames buffer) w (frame_room frames buffer)) (sent_answer (asks bytes frames buffer) (frame_room frames buffer) w)

  abbrev pub sent_after : Result (Order R) TelegramFault → ℕ → World → World
  sent_after asked room w = world w.number (sent_state asked w room) (sent_slots K.kind.writes asked w room)

  abbrev pub use_after : Use R → World → World
  use_after (own call) w = step K.kind.writes call w
  use_after (sent bytes frames buffer) w = sent_after (asks bytes frames buffer) (frame_room frames buffer) w

  -- a list of uses, each on the book as those before left it
  abbrev pub after : World → List (Use R) → World
  after w [] = w
  after w (x ∷ uses) = after (use_after x w) uses

  abbrev pub all_seen : World → List (Use R) → List (Seen R)
  all_seen w [] = []
  all_seen w (x ∷ uses) = use_seen x w ∷ all_seen (use_after x w) uses

  -- what a use counts as: a telegram as the call that it names, with what the reading end takes from its reply as the answer; a telegram
  -- that names none as nothing
  abbrev pub counts_as : ℕ → ℕ → Result (Order R) TelegramFault → Answer R → History R
  counts_as number room (Ok order) answer = (call_of number room order ⟶ answer) ∷ []
  counts_as number room (Err fault) answer = []

  abbrev pub counted : ℕ → Use R → Seen R → History R
  counted number (own call) (told answer) = (call ⟶ answer) ∷ []
  counted number (own call) (replied bytes answer) = []
  counted number (own call) unanswered = []
  counted number (sent bytes frames buffer) (told answer) = []
  counted number (sent bytes frames buffer) (replied reply answer) = counts_as number (frame_room frames buffer) (asks bytes frames buffer) answer
  counted number (sent bytes frames buffer) unanswered = []

  -- uses in their order with what was seen of them, as a history
  abbrev pub happened : ℕ → List (Use R) → List (Seen R) → History R → History R
  happened number [] seen before = before
  happened number (x ∷ uses) [] before = before
  happened number (x ∷ uses) (s ∷ seen) before = happened number uses seen (counted number x s ++ before)

  -- each frame that a read would give is as the words of its record read
  abbrev pub Settled : World → Type 0
  Settled w = (read : Read) (room : ℕ) → AllByRecursion (λ f. K.kind.reads (K.kind.writes f.body) ≡ Ok f.body) (read_gives K.kind.reads read w.state w.row room)
