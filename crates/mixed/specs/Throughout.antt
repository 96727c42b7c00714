-- The law at every moment of a run.
use Rattle.std.specs.Prelude.{◌≡◌, ℕ, List, [], ◌∷◌, ◌++◌, length, take}
use Rattle.trays.specs.declared.slots.Slot.{Slot}
use Rattle.book.specs.State.{new_list}
use Rattle.runs.specs.declared.asked.Call.{Call}
use Rattle.runs.specs.Answers.{Answer}
use Rattle.runs.specs.Steps.{World, world, step_answer}
use Rattle.reading_end.specs.Replies.{reply_of}
use Rattle.runs.specs.Kinds.{Same}
use Rattle.mixed.specs.Kinds.{Numbered}
use Rattle.runs.specs.Law.{Law}
use Rattle.mixed.specs.Uses.{Use, Use.sent, Seen, seen_reply, taken_answer, after, all_seen, happened}

module _ {R V : Type 0} (K : Numbered R V) (number : ℕ) (row : List Slot) where
  abbrev pub left_by : List (Use R) → World
  left_by uses = after K (world number new_list row) uses

  -- what a new book would answer to a call after these uses: what the call is answered where it comes next
  abbrev pub would : List (Use R) → Call R → Answer R
  would uses call = step_answer K.kind.reads call (left_by uses)

  -- whatever the uses and what is seen of them, the law holds after the first n of them
  abbrev pub Throughout : List (Use R) → List (Seen R) → Type 0
  Throughout uses seen = (n : ℕ) → Law (Same K.kind) (length row) (happened K number (take n uses) (take n seen) []) (would (take n uses))

-- A telegram to a book as it stands, which leaves it so and is replied to with these bytes: whatever list of uses has led to the book, the
-- law holds of that list with this telegram added.
abbrev pub Goes_on : {R V : Type 0} → Numbered R V → World → World → List ℕ → ℕ → ℕ → List ℕ → Type 0
Goes_on {R} K w w' bytes frames buffer reply =
    (number : ℕ) (row : List Slot) (uses : List (Use R)) → w ≡ left_by K number row uses
    → Law (Same K.kind) (length row)
    (happened K number (uses ++ sent bytes frames buffer ∷ [])
    (all_seen K (world number new_list row) uses ++ seen_reply reply (taken_answer (reply_of K.number K.kind.reads reply 144)) ∷ []) [])
    (λ call. step_answer K.kind.reads call w')
