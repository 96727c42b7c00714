-- A copy of one slot to another, by what a look at the first answers.
use Rattle.std.specs.Prelude.{ℕ, List, Ok, Err, Result, slice_set}
use Rattle.trays.specs.declared.fault.TrayFault.{TrayFault}
use Rattle.trays.specs.Rows.{put_answer, look_answer}

-- the look's own refusal, or what the put answers
abbrev pub answer_after : {S : Type 0} → Result S TrayFault → List S → ℕ → Result (Unit {0}) TrayFault
answer_after (Ok slot) row to = put_answer row to
answer_after (Err fault) row to = Err fault

abbrev pub row_after : {S : Type 0} → Result S TrayFault → List S → ℕ → List S
row_after (Ok slot) row to = slice_set row to slot
row_after (Err fault) row to = row

abbrev pub copied_answer : {S : Type 0} → List S → ℕ → ℕ → Result (Unit {0}) TrayFault
copied_answer row from to = answer_after (look_answer row from) row to

abbrev pub copied_row : {S : Type 0} → List S → ℕ → ℕ → List S
copied_row row from to = row_after (look_answer row from) row to
