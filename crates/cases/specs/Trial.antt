-- The trial book: what the rules answer in nine cases; and seals.
use Rattle.std.specs.Prelude.{◌≡◌, ℕ, Bool, true, false, List, [], ◌∷◌, ◌++◌, length, replicate, Ok}
use Rattle.trays.specs.declared.slots.Slot.{Slot}
use Rattle.records.specs.declared.frames.Frame.{Frame}
use Rattle.book.specs.declared.answers.Status.{Status}
use Rattle.book.specs.declared.answers.Status.TheVariants.{Follow, NoFollow, NoFrame}
use Rattle.book.specs.declared.state.Mode.TheVariants.{Keep}
use Rattle.book.specs.State.{Mark}
use Rattle.runs.specs.declared.asked.Call.{Call}
use Rattle.runs.specs.declared.asked.Call.TheVariants.{Enter, Start, Stop, SetMode, Release, Listen, Since, Take}
use Rattle.runs.specs.Answers.{Answer, Answer.refused, Answer.entered, Answer.gave}
use Rattle.runs.specs.Kinds.{Kind}
use Rattle.runs.specs.Throughout.{would}
use Rattle.seals.specs.Fletcher.{is_sealed, seal_bytes}

-- a kind whose records are their words
abbrev pub Plain : Kind (List ℕ) (List ℕ)
Plain = record { means = λ r. r; writes = λ r. r; reads = λ words. Ok words }

abbrev pub empty_slot : Slot
empty_slot = record { time = 0; position = 0; words = [] }

-- what book 1 over so many slots would answer to a call after these calls
abbrev pub then_answers : ℕ → List (Call (List ℕ)) → Call (List ℕ) → Answer (List ℕ)
then_answers slots calls call = would Plain 1 (replicate slots empty_slot) calls call

abbrev pub opened : List (Call (List ℕ))
opened = Take ∷ Start 1 ∷ []

-- entries at times 10, 10, 11, 12, 12
abbrev pub five : List (Call (List ℕ))
five = opened ++ (Enter 10 (1 ∷ []) ∷ Enter 10 (2 ∷ []) ∷ Enter 11 (3 ∷ []) ∷ Enter 12 (4 ∷ []) ∷ Enter 12 (5 ∷ []) ∷ [])

abbrev pub third : Frame (List ℕ)
third = record { time = 11; position = 3; body = 3 ∷ [] }

abbrev pub fourth : Frame (List ℕ)
fourth = record { time = 12; position = 4; body = 4 ∷ [] }

abbrev pub fifth : Frame (List ℕ)
fifth = record { time = 12; position = 5; body = 5 ∷ [] }

-- status, from, till, missed and the frames of a read
abbrev pub told : Status → Mark → Mark → ℕ → List (Frame (List ℕ)) → Answer (List ℕ)
told status begin end missed frames =
    gave (record { status = status; «from» = begin; till = end; missed = missed; version = 0; count = length frames }) frames

abbrev pub nobody : List Bool
nobody = false ∷ false ∷ false ∷ false ∷ []

pub record Trial : Type 0 where
  -- three slots, five entries: since (0, 0), since (10, 2), and since (11, 3) with limit 1
  pub gap_told : then_answers 3 five (Since (0, 0) 144 144) ≡ told NoFollow (0, 0) (12, 5) 2 (third ∷ fourth ∷ fifth ∷ [])
  pub no_loss : then_answers 3 five (Since (10, 2) 144 144) ≡ told NoFollow (0, 0) (12, 5) 0 (third ∷ fourth ∷ fifth ∷ [])
  pub one_given : then_answers 3 five (Since (11, 3) 1 144) ≡ told Follow (11, 3) (12, 4) 0 (fourth ∷ [])
  -- a held frame with another time, and a position above last
  pub unknown_marks : (then_answers 3 five (Since (10, 3) 144 144) ≡ refused 25) × (then_answers 3 five (Since (0, 6) 144 144) ≡ refused 25)
  -- an entry at 11
  pub time_falls : then_answers 3 five (Enter 11 (6 ∷ [])) ≡ refused 22
  -- release 4, then since (11, 3)
  pub released : then_answers 3 (five ++ (Release 1 4 ∷ [])) (Since (11, 3) 144 144) ≡ told NoFollow (0, 0) (12, 5) 1 (fifth ∷ [])
  -- then stop, start, since (12, 4)
  pub started_again : then_answers 3 (five ++ (Release 1 4 ∷ Stop 1 ∷ Start 1 ∷ [])) (Since (12, 4) 144 144) ≡ told NoFrame (0, 0) (12, 5) 1 []
  -- four slots, fill level 50, mark (0, 0): entry 2 doesn't call, entry 3 does
  pub calling :
      (then_answers 4 (opened ++ (Listen 1 (0, 0) 50 ∷ Enter 1 [] ∷ [])) (Enter 1 []) ≡ entered 2 nobody)
      × (then_answers 4 (opened ++ (Listen 1 (0, 0) 50 ∷ Enter 1 [] ∷ Enter 1 [] ∷ [])) (Enter 1 []) ≡ entered 3 (true ∷ false ∷ false ∷ false ∷ []))
  -- two slots, keep: entry 3 is refused, and accepted after release 1
  pub keeping :
      (then_answers 2 (Take ∷ SetMode 1 Keep ∷ Start 1 ∷ Enter 1 [] ∷ Enter 1 [] ∷ []) (Enter 1 []) ≡ refused 23)
      × (then_answers 2 (Take ∷ SetMode 1 Keep ∷ Start 1 ∷ Enter 1 [] ∷ Enter 1 [] ∷ Release 1 1 ∷ []) (Enter 1 []) ≡ entered 3 nobody)
  -- the seals of no byte, of 01 and of 01 02; and 00 00, which is sealed too
  pub seals :
      (seal_bytes [] ≡ 0xff ∷ 0x00 ∷ [])
      × (seal_bytes (0x01 ∷ []) ≡ 0xfd ∷ 0x01 ∷ [])
      × (seal_bytes (0x01 ∷ 0x02 ∷ []) ≡ 0xf8 ∷ 0x04 ∷ [])
      × (is_sealed (0x00 ∷ 0x00 ∷ []) ≡ true)
