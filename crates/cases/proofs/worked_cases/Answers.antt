use Rattle.std.proofs.Common.{refl}
use Rattle.trays.specs.Rows.{look_answer}
use Rattle.book.specs.Reads.{frames}
use Rattle.cases.proofs.worked_cases.Goals as goal

pub returns : goal.returns
unfolding frames look_answer
returns c = record {
  gap_told = refl;
  no_loss = refl;
  one_given = refl;
  unknown_marks = (refl, refl);
  time_falls = refl;
  released = refl;
  started_again = refl;
  calling = (refl, refl);
  keeping = (refl, refl);
  seals = (refl, refl, refl, refl);
}
