-- Books that are worth nothing, and that the law shuts out.
use Rattle.std.specs.Prelude.{◌≡◌, ℕ, suc, ◌-◌, List, [], ◌∷◌, reverse, length, replicate}
use Rattle.records.specs.declared.frames.Frame.{Frame}
use Rattle.book.specs.declared.answers.Status.{Status}
use Rattle.book.specs.declared.answers.Status.TheVariants.{NoFollow, NoFrame}
use Rattle.book.specs.State.{Mark}
use Rattle.runs.specs.declared.asked.Call.{Call}
use Rattle.runs.specs.declared.asked.Call.TheVariants.{Enter, Start, Stop, SetMode, Release, Listen, Since, Oldest, Youngest, Span, Take, HandBack}
use Rattle.runs.specs.Answers.{Answer, Answer.refused, Answer.done, Answer.entered, Answer.gave}
use Rattle.runs.specs.Histories.{Event.◌⟶◌, History}
use Rattle.runs.specs.Law.{Law}
use Rattle.runs.specs.Throughout.{would}
use Rattle.cases.specs.Trial.{Plain, empty_slot}

-- a book by what it answers to a call after others, the newest first
abbrev pub Answering : Type 0 → Type 0
Answering R = List (Call R) → Call R → Answer R

abbrev pub trace : {R : Type 0} → Answering R → List (Call R) → History R
trace book [] = []
trace book (call ∷ before) = (call ⟶ book before call) ∷ trace book before

-- over so many slots, the book breaks the law somewhere
abbrev pub Breaks : {R : Type 0} → ℕ → Answering R → Type 0
Breaks {R} slots book = ((calls : List (Call R)) → Law (λ r s. r ≡ s) slots (trace book calls) (book calls)) → ⊥

abbrev pub entered_so_far : List (Call ℕ) → ℕ
entered_so_far [] = 0
entered_so_far (Enter time r ∷ calls) = suc (entered_so_far calls)
entered_so_far (Start k ∷ calls) = entered_so_far calls
entered_so_far (Stop k ∷ calls) = entered_so_far calls
entered_so_far (SetMode k mode ∷ calls) = entered_so_far calls
entered_so_far (Release k p ∷ calls) = entered_so_far calls
entered_so_far (Listen i m fill ∷ calls) = entered_so_far calls
entered_so_far (Since m l n ∷ calls) = entered_so_far calls
entered_so_far (Oldest n ∷ calls) = entered_so_far calls
entered_so_far (Youngest n ∷ calls) = entered_so_far calls
entered_so_far (Span a b l n ∷ calls) = entered_so_far calls
entered_so_far (Take ∷ calls) = entered_so_far calls
entered_so_far (HandBack k ∷ calls) = entered_so_far calls

-- a book that accepts and numbers every entry, and answers since in its own way
abbrev pub with_since : (List (Call ℕ) → Mark → Answer ℕ) → Answering ℕ
with_since since calls (Enter time r) = entered (suc (entered_so_far calls)) []
with_since since calls (Start k) = done
with_since since calls (Stop k) = done
with_since since calls (SetMode k mode) = done
with_since since calls (Release k p) = done
with_since since calls (Listen i m fill) = done
with_since since calls (Since m l n) = since calls m
with_since since calls (Oldest n) = refused 10
with_since since calls (Youngest n) = refused 10
with_since since calls (Span a b l n) = refused 10
with_since since calls Take = refused 26
with_since since calls (HandBack k) = refused 27

abbrev pub reads_as : Status → ℕ → ℕ → List (Frame ℕ) → Answer ℕ
reads_as status end missed frames =
    gave (record { status = status; «from» = (0, 0); till = (0, end); missed = missed; version = 0; count = length frames }) frames

abbrev pub first : Frame ℕ
first = record { time = 0; position = 1; body = 0 }

-- it tells every frame as missed
abbrev pub tells_all_missed : Answering ℕ
tells_all_missed = with_since (λ calls m. reads_as NoFrame (entered_so_far calls) (entered_so_far calls - m.1) [])

-- it says that there is no frame before it looks
abbrev pub never_looks : Answering ℕ
never_looks = with_since (λ calls m. reads_as NoFrame (entered_so_far calls) 0 [])

-- it stores the first frame, and of later ones only pretends it
abbrev pub pretends : Answering ℕ
pretends = with_since (λ calls m. reads_as NoFollow 1 0 (first ∷ []))

-- it makes up missed
abbrev pub makes_up_missed : Answering ℕ
makes_up_missed = with_since (λ calls m. reads_as NoFollow 1 1 (first ∷ []))

-- it keeps one frame itself, however many slots its tray has
abbrev pub uses_no_tray : Answering (List ℕ)
uses_no_tray calls call = would Plain 1 (replicate 1 empty_slot) (reverse calls) call

-- it says that it releases, and does not
abbrev pub unreleased : List (Call (List ℕ)) → List (Call (List ℕ))
unreleased [] = []
unreleased (Enter time r ∷ calls) = Enter time r ∷ unreleased calls
unreleased (Start k ∷ calls) = Start k ∷ unreleased calls
unreleased (Stop k ∷ calls) = Stop k ∷ unreleased calls
unreleased (SetMode k mode ∷ calls) = SetMode k mode ∷ unreleased calls
unreleased (Release k p ∷ calls) = unreleased calls
unreleased (Listen i m fill ∷ calls) = Listen i m fill ∷ unreleased calls
unreleased (Since m l n ∷ calls) = unreleased calls
unreleased (Oldest n ∷ calls) = unreleased calls
unreleased (Youngest n ∷ calls) = unreleased calls
unreleased (Span a b l n ∷ calls) = unreleased calls
unreleased (Take ∷ calls) = Take ∷ unreleased calls
unreleased (HandBack k ∷ calls) = HandBack k ∷ unreleased calls

abbrev pub ignores_release : Answering (List ℕ)
ignores_release calls call = would Plain 1 (replicate 1 empty_slot) (reverse (unreleased calls)) call

pub record ShutOut : Type 0 where
  pub all_missed : Breaks 1 tells_all_missed
  pub no_tray : Breaks 2 uses_no_tray
  pub no_look : Breaks 1 never_looks
  pub no_release : Breaks 1 ignores_release
  pub pretence : Breaks 2 pretends
  pub made_up : Breaks 1 makes_up_missed
