-- What a call is answered, each case with its values and the number of a refusal.
use Rattle.std.specs.Prelude.{ℕ, Bool, List, [], take, Ok, Err, vec_items, Result}
use Rattle.book.specs.declared.fault.BookFault.{BookFault}
use Rattle.records.specs.declared.frames.Frame.{Frame}
use Rattle.book.specs.declared.answers.Entered.{Entered}
use Rattle.book.specs.declared.answers.Reading.{Reading}
use Rattle.book.specs.Told.{Told, Told.accepted, Told.refused as was_refused, fault_number}
use Rattle.runs.specs.declared.replies.Accepted.{Accepted}
use Rattle.runs.specs.declared.replies.Accepted.TheVariants.{Done, Entered as DoneEntered, Gave, Key}

pub data Answer (R : Type 0) : Type 0 where
  refused : ℕ → Answer R
  done : Answer R
  -- the position, and for parties 1 to 4 whether they are called
  entered : ℕ → List Bool → Answer R
  -- a read and the frames that it gave
  gave : Reading → List (Frame R) → Answer R
  -- the key of a book was taken
  key : ℕ → Answer R

module _ {R : Type 0} where
  -- the answer that a reply stands for
  abbrev pub answer_of : Result (Accepted R) BookFault → Answer R
  answer_of (Ok Done) = done
  answer_of (Ok (DoneEntered answer)) = entered answer.position answer.called
  answer_of (Ok (Gave reading frames)) = gave reading (vec_items frames)
  answer_of (Ok (Key number)) = key number
  answer_of (Err fault) = refused (fault_number fault)

  -- the answers that the book's own calls stand for
  abbrev pub as_done : Told (Unit {0}) → Answer R
  as_done (accepted unit) = done
  as_done (was_refused number) = refused number

  abbrev pub as_entered : Told Entered → Answer R
  as_entered (accepted answer) = entered answer.position answer.called
  as_entered (was_refused number) = refused number

  abbrev pub as_given : Told Reading → List (Frame R) → Answer R
  as_given (accepted reading) frames = gave reading frames
  as_given (was_refused number) frames = refused number

  abbrev pub as_key : Told ℕ → Answer R
  as_key (accepted number) = key number
  as_key (was_refused number) = refused number

  -- the frames in the row of a read that was answered so
  abbrev pub given : Result Reading BookFault → List (Frame R) → List (Frame R)
  given (Ok reading) row = take reading.count row
  given (Err fault) row = []
