-- The frames of a read, taken from its row again.
use Rattle.std.proofs.Common.{◌≡◌, ℕ, List, length, take, Some, None, Ok, Err, Option, Result, MatchResult, IsOkAnd, sym, refl, ap, ◌∙◌, arith, take_at}
use Rattle.records.specs.declared.frames.Frame.{Frame}
use Rattle.book.specs.declared.answers.Reading.{Reading}
use Rattle.book.specs.declared.fault.BookFault.{BookFault}
use Rattle.book.specs.declared.state.ListState.{ListState}
use Rattle.trays.specs.declared.slots.Slot.{Slot}
use Rattle.records.specs.declared.fault.RecordFault.{RecordFault}
use Rattle.book.specs.Told.{told, tell, keep, decided, left, verdict}
use Rattle.book.specs.Reads.{laid}
use Rattle.runs.specs.declared.asked.Read.{Read}
use Rattle.runs.specs.declared.asked.Read.TheVariants.{Since, Oldest, Youngest, Span}
use Rattle.runs.specs.declared.replies.Accepted.{Accepted}
use Rattle.runs.specs.Answers.{Answer.gave, answer_of, as_given, given}
use Rattle.runs.specs.Steps.{read_checks, read_answer, read_gives}

module _ {R : Type 0} (gives row : List (Frame R)) (reading : Reading) (count : reading.count ≡ length gives) where
  pub given_again : (verdict : Option ℕ) (r : Result Reading BookFault) (after : List (Frame R)) → told r ≡ tell verdict reading
      → after ≡ keep verdict (laid gives row) row → as_given (told r) (given r after) ≡ as_given (tell verdict reading) gives
  given_again None (Ok answer) after e laid_so =
      let same : answer ≡ reading = cc in
      let given_so : take answer.count after ≡ gives =
      ap (λ (x : Reading). take x.count after) same ∙ ap (take reading.count) laid_so ∙ take_at gives _ reading.count (sym count) in
      ap (λ fs. as_given (told (Ok answer)) fs) given_so ∙ ap (λ t. as_given t gives) e
  given_again None (Err fault) after e laid_so = absurd (let z : ◌≡◌ {A = ℕ} 0 1 = cc in omega arith)
  given_again (Some number) (Ok answer) after e laid_so = absurd (let z : ◌≡◌ {A = ℕ} 0 1 = cc in omega arith)
  given_again (Some number) (Err fault) after e laid_so = cc

-- an accepted read is replied to with its frames
pub replied_with : {R : Type 0} (row : List (Frame R)) (P : Reading → Accepted R → Type 0) (r : Result Reading BookFault) (reply : Result (Accepted R) BookFault)
    → ((reading : Reading) (answer : Accepted R) → P reading answer → answer_of (Ok answer) ≡ gave reading (take reading.count row))
    → MatchResult r (λ reading. IsOkAnd reply (P reading)) (λ fault. reply ≡ Err fault) → answer_of reply ≡ as_given (told r) (given r row)
replied_with row P (Ok reading) (Ok answer) cuts is = cuts reading answer is
replied_with row P (Ok reading) (Err fault) cuts is = absurd is
replied_with row P (Err fault) reply cuts is = ap answer_of is

-- the count of a read is the number of frames that it gives
module _ {R : Type 0} (reads : List ℕ → Result R RecordFault) (s : ListState) (row : List Slot) (room : ℕ) where
  pub count_given : (read : Read) → (read_answer reads read s row room).count ≡ length (read_gives reads read s row room)
  count_given (Since mark limit) = refl
  count_given Oldest = refl
  count_given Youngest = refl
  count_given (Span first last limit) = refl

  pub read_told : (read : Read) (before : List (Frame R)) (r : Result Reading BookFault) (after : List (Frame R)) → length before ≡ room
      → told r ≡ decided (read_checks read s row (length before)) (read_answer reads read s row (length before))
      → after ≡ left (read_checks read s row (length before)) (laid (read_gives reads read s row (length before)) before) before
      → as_given (told r) (given r after) ≡ as_given (decided (read_checks read s row room) (read_answer reads read s row room)) (read_gives reads read s row room)
  read_told read before r after size answer laid_so =
      given_again (read_gives reads read s row room) before (read_answer reads read s row room) (count_given read) (verdict (read_checks read s row room)) r after
      (answer ∙ ap (λ n. decided (read_checks read s row n) (read_answer reads read s row n)) size)
      (laid_so ∙ ap (λ n. left (read_checks read s row n) (laid (read_gives reads read s row n) before) before) size)
