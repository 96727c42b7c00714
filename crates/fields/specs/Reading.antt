-- Reading fields one after another: what is taken, and what is left with its offset.
use Rattle.std.specs.Prelude.{ℕ, ◌+◌, min, cond, List, length, drop, Ok, Err, Result, ◌==◌}
use Rattle.std.specs.Borrow.{Bor}
use Rattle.fields.specs.declared.parts.Misfit.{Misfit}
use Rattle.fields.specs.Values.{big, words_of, frame_of}
use Rattle.fields.specs.Layout.{Told, parse_field}
use Rattle.fields.specs.declared.value.RawFrame.{RawFrame}
use Rattle.fields.specs.declared.reader.Reader.{Reader}

-- what is left to read, and its offset
abbrev pub Rest : Type 0
Rest = List ℕ × ℕ

abbrev pub rest_of : Reader → Rest
rest_of r = (r.rest.now, r.at)

-- what is read is told as it is, and bytes as a list
abbrev pub same : {X : Type 0} → X → X
same x = x

abbrev pub bytes_told : Bor (List ℕ) → List ℕ
bytes_told r = r.now

-- what a step of the reader tells: the value and what is left then, or the offset of the field that does not fit
abbrev pub step_told : {X Y : Type 0} → (X → Y) → Result X Misfit → Rest → Result (Y × Rest) ℕ
step_told f (Ok x) s = Ok (f x, s)
step_told f (Err m) s = Err m.at

-- a field with the tag that is expected, and what is left after it
abbrev pub pick : ℕ → ℕ → Result (Told × List ℕ) ℕ → Result (List ℕ × Rest) ℕ
pick tag at (Ok p) = cond (p.0.tag == tag) (Ok (p.0.value, (p.1, at + 3 + length p.0.value))) (Err at)
pick tag at (Err e) = Err e

abbrev pub value_at : ℕ → Rest → Result (List ℕ × Rest) ℕ
value_at tag s = pick tag s.1 (parse_field s.0 s.1)

-- what a value of n bytes says
abbrev pub read_as : {X : Type 0} → ℕ → (List ℕ → X) → ℕ → Result (List ℕ × Rest) ℕ → Result (X × Rest) ℕ
read_as n says at (Ok p) = cond (length p.0 == n) (Ok (says p.0, p.1)) (Err at)
read_as n says at (Err e) = Err e

abbrev pub read_at : {X : Type 0} → ℕ → (List ℕ → X) → ℕ → Rest → Result (X × Rest) ℕ
read_at n says tag s = read_as n says s.1 (value_at tag s)

-- numbers of four bytes, of two and of one
abbrev pub word_at : ℕ → Rest → Result (ℕ × Rest) ℕ
word_at = read_at 4 big

abbrev pub half_at : ℕ → Rest → Result (ℕ × Rest) ℕ
half_at = read_at 2 big

abbrev pub byte_at : ℕ → Rest → Result (ℕ × Rest) ℕ
byte_at = read_at 1 big

abbrev pub words_at : ℕ → Rest → Result (List ℕ × Rest) ℕ
words_at = read_at 16 words_of

unfoldable pub frame_at : Rest → Result (RawFrame × Rest) ℕ
frame_at = read_at 25 frame_of 0x20

-- nothing may be left
abbrev pub end_at : Rest → Result (Unit {0}) Misfit
end_at s = cond (length s.0 == 0) (Ok tt) (Err (record { at = s.1 }))

-- past n bytes, or past all that are left
abbrev pub skipped : ℕ → Rest → Rest
skipped n s = (drop (min n (length s.0)) s.0, s.1 + min n (length s.0))
