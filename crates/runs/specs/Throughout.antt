-- The law at every moment of a run.
use Rattle.std.specs.Prelude.{ℕ, List, [], length, take}
use Rattle.trays.specs.declared.slots.Slot.{Slot}
use Rattle.book.specs.State.{new_list}
use Rattle.runs.specs.declared.asked.Call.{Call}
use Rattle.runs.specs.Answers.{Answer}
use Rattle.runs.specs.Histories.{happened}
use Rattle.runs.specs.Kinds.{Kind, Same}
use Rattle.runs.specs.Law.{Law}
use Rattle.runs.specs.Steps.{world, step_answer, after}

module _ {R V : Type 0} (K : Kind R V) (number : ℕ) (row : List Slot) where
  -- what a new book would answer to a call after these calls: what the call is answered where it comes next
  abbrev pub would : List (Call R) → Call R → Answer R
  would calls call = step_answer K.reads call (after K.writes (world number new_list row) calls)

  -- whatever the calls and their answers, the law holds after the first n of them
  abbrev pub Throughout : List (Call R) → List (Answer R) → Type 0
  Throughout calls answers = (n : ℕ) → Law (Same K) (length row) (happened (take n calls) (take n answers) []) (would (take n calls))
