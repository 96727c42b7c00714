-- Histories of calls with their answers.
use Rattle.std.specs.Prelude.{ℕ, suc, Bool, List, [], ◌∷◌}
use Rattle.records.specs.declared.frames.Frame.{Frame}
use Rattle.book.specs.declared.answers.Reading.{Reading}
use Rattle.book.specs.declared.state.Mode.{Mode}
use Rattle.book.specs.State.{Mark}
use Rattle.runs.specs.declared.asked.Call.{Call}
use Rattle.runs.specs.declared.asked.Call.TheVariants.{Enter, Start, Stop, SetMode, Release, Listen, Since, Oldest, Youngest, Span, Take, HandBack}
use Rattle.runs.specs.Answers.{Answer, Answer.refused, Answer.done, Answer.entered, Answer.gave, Answer.key}

infix 30 ◌⟶◌
infix 25 ◌∈◌
-- a call with its answer
pub data Event (R : Type 0) : Type 0 where
  ◌⟶◌ : Call R → Answer R → Event R

-- what has happened, the newest first
abbrev pub History : Type 0 → Type 0
History R = List (Event R)

pub data ◌∈◌ {A : Type 0} (x : A) : List A → Type 0 where
  here : {xs : List A} → x ∈ (x ∷ xs)
  there : {y : A} {xs : List A} → x ∈ xs → x ∈ (y ∷ xs)

-- k of the numbers 1 to n have P
pub data Number (P : ℕ → Type 0) : ℕ → ℕ → Type 0 where
  none_yet : Number P 0 0
  one_more : {n k : ℕ} → P (suc n) → Number P n k → Number P (suc n) (suc k)
  passed : {n k : ℕ} → (P (suc n) → ⊥) → Number P n k → Number P (suc n) k

-- which answers a call can get
pub data Fitting {R : Type 0} : Call R → Answer R → Type 0 where
  refusal : {call : Call R} {n : ℕ} → Fitting call (refused n)
  entry : {t p : ℕ} {r : R} {called : List Bool} → Fitting (Enter t r) (entered p called)
  started : {k : ℕ} → Fitting (Start k) done
  stopped : {k : ℕ} → Fitting (Stop k) done
  modal : {k : ℕ} {mode : Mode} → Fitting (SetMode k mode) done
  released : {k p : ℕ} → Fitting (Release k p) done
  heard : {i : ℕ} {m : Mark} {fill : ℕ} → Fitting (Listen i m fill) done
  read_since : {m : Mark} {l n : ℕ} {g : Reading} {fs : List (Frame R)} → Fitting (Since m l n) (gave g fs)
  read_oldest : {n : ℕ} {g : Reading} {fs : List (Frame R)} → Fitting (Oldest n) (gave g fs)
  read_youngest : {n : ℕ} {g : Reading} {fs : List (Frame R)} → Fitting (Youngest n) (gave g fs)
  read_span : {a b l n : ℕ} {g : Reading} {fs : List (Frame R)} → Fitting (Span a b l n) (gave g fs)
  taken : {n : ℕ} → Fitting Take (key n)
  handed : {k : ℕ} → Fitting (HandBack k) done

-- calls in their order with the answers to them, as a history
abbrev pub happened : {R : Type 0} → List (Call R) → List (Answer R) → History R → History R
happened [] answers before = before
happened (call ∷ calls) [] before = before
happened (call ∷ calls) (answer ∷ answers) before = happened calls answers ((call ⟶ answer) ∷ before)
