-- What users of a count book see, whatever the calls: the law over runs, told over calls and answers.
use Rattle.std.specs.Prelude.{◌≡◌, ℕ, zero, suc, ◌+◌, ◌-◌, ◌*◌, ◌<◌, ◌≤◌, Bool, true, false, ◌⊎◌, ◌↔◌, List, [], ◌∷◌, ◌++◌, length, slice_index_or}
use Rattle.records.specs.declared.frames.Frame.{Frame}
use Rattle.book.specs.declared.answers.Reading.{Reading}
use Rattle.book.specs.Told.{status_number}
use Rattle.book.specs.State.{Mark}
use Rattle.runs.specs.declared.asked.Call.{Call}
use Rattle.runs.specs.declared.asked.Call.TheVariants.{Enter, Start, Release, Listen, Since}
use Rattle.runs.specs.Answers.{Answer, Answer.refused, Answer.done, Answer.entered, Answer.gave, Answer.key}
use Rattle.runs.specs.Histories.{Event, Event.◌⟶◌, History, ◌∈◌, Number, Fitting}

-- a reader is told that none follows
abbrev pub Ends : Reading → Type 0
Ends reading = (status_number reading.status ≡ 2) ⊎ (status_number reading.status ≡ 3)

module _ {R : Type 0} where
  -- the number of accepted entries: those that were given a position, from 1
  abbrev pub entries : History R → ℕ
  entries [] = 0
  entries ((call ⟶ refused number) ∷ h) = entries h
  entries ((call ⟶ done) ∷ h) = entries h
  entries ((call ⟶ entered zero called) ∷ h) = entries h
  entries ((call ⟶ entered (suc position) called) ∷ h) = suc (entries h)
  entries ((call ⟶ gave reading frames) ∷ h) = entries h
  entries ((call ⟶ key number) ∷ h) = entries h

  -- frame p was accepted, with this time and record
  abbrev pub Accepted : History R → ℕ → ℕ → R → Type 0
  Accepted h p time r = (called : List Bool) × ((Enter time r ⟶ entered p called) ∈ h)

  -- why frame p is no longer held, by what came after its entry: an accepted start, an accepted release that reached it, or as many
  -- accepted frames as there are slots
  abbrev pub Gone : ℕ → History R → ℕ → Type 0
  Gone slots later p =
      ((k : ℕ) × ((Start k ⟶ done) ∈ later))
      ⊎ (((k : ℕ) × (q : ℕ) × (p ≤ q) × ((Release k q ⟶ done) ∈ later))
      ⊎ (slots ≤ entries later))

  -- party i's mark and fill level: those of its last accepted listen, else (0, 0) and 255
  abbrev pub Listens : History R → ℕ → Type 0
  Listens h i = (m : Mark) × (fill : ℕ) × ((Listen i m fill ⟶ done) ∈ h)

  abbrev pub Listening : History R → ℕ → Mark → ℕ → Type 0
  Listening h i m fill =
      ((Listens h i → ⊥) × (m ≡ (0, 0)) × (fill ≡ 255))
      ⊎ ((later before : History R) × (h ≡ later ++ ((Listen i m fill ⟶ done) ∷ before)) × (Listens later i → ⊥))

  -- A reader begins at mark (0, 0) and reads on by since from the mark last answered. Any since of the run may be its own; a refused
  -- one leaves it where it is. With its mark go the frames that it has received, and how many it was told as missed.
  pub data Reader : History R → Mark → List (Frame R) → ℕ → Type 0 where
    begins : Reader [] (0, 0) [] 0
    waits : {e : Event R} {h : History R} {m : Mark} {frames : List (Frame R)} {missed : ℕ} → Reader h m frames missed → Reader (e ∷ h) m frames missed
    reads_on : {h : History R} {m : Mark} {frames more : List (Frame R)} {missed limit room : ℕ} {reading : Reading} → Reader h m frames missed
        → Reader ((Since m limit room ⟶ gave reading more) ∷ h) reading.till (frames ++ more) (missed + reading.missed)

  -- the numbers rise, each above p
  abbrev pub Rising : ℕ → List (Frame R) → Type 0
  Rising p [] = Unit {0}
  Rising p (f ∷ frames) = (p < f.position) × Rising f.position frames

  -- each frame has time and record as entered
  abbrev pub AsEntered : (R → R → Type 0) → History R → List (Frame R) → Type 0
  AsEntered same h [] = Unit {0}
  AsEntered same h (f ∷ frames) = ((r : R) × Accepted h f.position f.time r × same r f.body) × AsEntered same h frames

  -- the mark of the frame before p, for frame 1 (0, 0)
  abbrev pub MarkBefore : History R → ℕ → Mark → Type 0
  MarkBefore h p m = ((p ≡ 1) × (m ≡ (0, 0))) ⊎ ((time : ℕ) × (r : R) × Accepted h (p - 1) time r × (m ≡ (time, p - 1)))

  -- frame p is held: a since with limit 1 would then give it from the mark of the frame before
  abbrev pub Held : History R → (Call R → Answer R) → ℕ → Type 0
  Held h would p =
      (m : Mark) × MarkBefore h p m
      × ((reading : Reading) × (f : Frame R) × (would (Since m 1 1) ≡ gave reading (f ∷ [])) × (f.position ≡ p))

-- The law at one moment of a run over so many slots: what has happened up to then, and what the book would then answer to a call.
-- Records are the same when they mean the same.
pub record Law {R : Type 0} (same : R → R → Type 0) (slots : ℕ) (h : History R) (would : Call R → Answer R) : Type 0 where
  -- each call is answered in its own way or refused, so that only an entry is answered with a position
  pub answered : (call : Call R) (answer : Answer R) → (call ⟶ answer) ∈ h → Fitting call answer
  -- positions are given from 1, without a gap
  pub numbered : (later before : History R) (time p : ℕ) (r : R) (called : List Bool)
      → h ≡ later ++ ((Enter time r ⟶ entered p called) ∷ before) → p ≡ suc (entries before)
  -- reading on: frames received and frames told as missed make up the mark's position
  pub complete : (m : Mark) (frames : List (Frame R)) (missed : ℕ) → Reader h m frames missed → length frames + missed ≡ m.1
  -- frames come in rising number, each once, with time and record as entered
  pub faithful : (m : Mark) (frames : List (Frame R)) (missed : ℕ) → Reader h m frames missed → Rising 0 frames × AsEntered same h frames
  -- told that none follows, a reader stands at the number of accepted entries
  pub at_the_end : (m : Mark) (limit room : ℕ) (reading : Reading) (frames : List (Frame R)) (before : History R)
      → h ≡ (Since m limit room ⟶ gave reading frames) ∷ before → Ends reading → reading.till.1 ≡ entries h
  -- leaving: an accepted frame is no longer held exactly for one of the three reasons
  pub gone : (later before : History R) (time p : ℕ) (r : R) (called : List Bool)
      → h ≡ later ++ ((Enter time r ⟶ entered p called) ∷ before) → (Held h would p → ⊥) ↔ Gone slots later p
  -- missed is the number of accepted frames after the mark that are no longer held
  pub missed : (m : Mark) (limit room : ℕ) (reading : Reading) (frames : List (Frame R)) (before : History R)
      → h ≡ (Since m limit room ⟶ gave reading frames) ∷ before
      → Number (λ p. (m.1 < p) × (Held h would p → ⊥)) (entries h) reading.missed
  -- calling: each party has a mark and a fill level
  pub listening : (i : ℕ) → 1 ≤ i → i ≤ 4 → (m : Mark) × (fill : ℕ) × Listening h i m fill
  -- an accepted entry calls a party exactly when 100 times the held frames after its mark, the new one included, exceeds its fill level
  -- times the slots
  pub calls : (time p i fill : ℕ) (r : R) (called : List Bool) (before : History R) (m : Mark)
      → h ≡ (Enter time r ⟶ entered p called) ∷ before → 1 ≤ i → i ≤ 4 → Listening before i m fill
      → (k : ℕ) × Number (λ q. (m.1 < q) × Held h would q) (entries h) k × ((slice_index_or called (i - 1) false ≡ true) ↔ (fill * slots < 100 * k))
