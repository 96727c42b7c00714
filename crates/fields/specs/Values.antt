-- What the bytes of a value say.
use Rattle.std.specs.Prelude.{ℕ, ◌+◌, ◌*◌, cond, List, [], ◌∷◌, length, take, drop, fold, Some, None, Option, ◌==◌, slice_index}
use Rattle.fields.specs.declared.value.RawFrame.{RawFrame}

-- a number, its high byte first
abbrev pub big : List ℕ → ℕ
big bs = fold (λ n b. n * 256 + b) 0 bs

-- four numbers in sixteen bytes
abbrev pub words_of : List ℕ → List ℕ
words_of v = big (take 4 v) ∷ big (take 4 (drop 4 v)) ∷ big (take 4 (drop 8 v)) ∷ big (take 4 (drop 12 v)) ∷ []

-- kind number, time, position, words
abbrev pub frame_of : List ℕ → RawFrame
frame_of v = record { kind = slice_index v 0; time = big (take 4 (drop 1 v)); position = big (take 4 (drop 5 v)); words = words_of (drop 9 v) }

-- what n bytes say; any other bytes say nothing
abbrev pub said : {X : Type 0} → ℕ → (List ℕ → X) → List ℕ → Option X
said n says bs = cond (length bs == n) (Some (says bs)) None
