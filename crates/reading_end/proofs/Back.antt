-- Fields that are written, read again.
use Rattle.std.proofs.Common.{◌≡◌, ℕ, ◌+◌, ◌*◌, ◌/◌, ◌%◌, ◌<◌, Bool, true, false, List, [], ◌∷◌, ◌++◌, length, Ok, sym, refl, ap, ◌∙◌, mod-eq_of_lt, arith}
use native.Mathlib.Nat.{div-div-eq-div-mul, mod-add-div}
use Rattle.std.proofs.lemmas.Bool.{cond-true, eq-eqb}
use Rattle.records.specs.Laws.{FourWords}
use Rattle.records.specs.declared.frames.Frame.{Frame}
use Rattle.fields.specs.declared.value.RawFrame.{RawFrame}
use Rattle.fields.specs.Layout.{lengths, listed}
use Rattle.fields.specs.Values.{big, words_of, frame_of}
use Rattle.fields.specs.Reading.{pick, read_as, value_at, byte_at, half_at, word_at, frame_at}
use Rattle.fields.proofs.Parsing.{field_back}
use Rattle.replies.specs.Layout.{half, word, words, byte_field, half_field, word_field, frame_bytes, called_number}
use Rattle.replies.specs.Fits.{FrameFits}
use Rattle.reading_end.specs.Layouts.{called_of}

value_back : (t h l at : ℕ) (v rest : List ℕ) → length v ≡ h * 256 + l → listed lengths t (length v) ≡ true → value_at t (t ∷ h ∷ l ∷ (v ++ rest), at) ≡ Ok (v, (rest, at + 3 + length v))
value_back t h l at v rest len is = ap (pick t at) (sym (field_back t h l at v rest len is)) ∙ cond-true _ _ _ (eq-eqb t t refl)

big_half : (n : ℕ) → n < 65536 → big (half n) ≡ n
big_half n h = omega arith

glue : (n p q s a b c d : ℕ) → d + 256 * p ≡ n → c + 256 * q ≡ p → b + 256 * s ≡ q → a ≡ s → (((0 * 256 + a) * 256 + b) * 256 + c) * 256 + d ≡ n
glue n p q s a b c d e f g h = omega arith

pub big_word : (n : ℕ) → n < 4294967296 → big (word n) ≡ n
big_word n h =
    let two : n / 65536 ≡ n / 256 / 256 = sym (div-div-eq-div-mul n 256 256) in
    let three : n / 16777216 ≡ n / 65536 / 256 = sym (div-div-eq-div-mul n 65536 256) in
    let small : n / 16777216 < 256 = omega arith in
    glue n (n / 256) (n / 65536) (n / 16777216) (n / 16777216 % 256) (n / 65536 % 256) (n / 256 % 256) (n % 256) (mod-add-div n 256) (omega (arith, mod-add-div (n / 256) 256)) (omega (arith, mod-add-div (n / 65536) 256)) (mod-eq_of_lt small)

pub byte_back : (t n at : ℕ) (rest : List ℕ) → listed lengths t 1 ≡ true → byte_at t (byte_field t n ++ rest, at) ≡ Ok (n, (rest, at + 3 + 1))
byte_back t n at rest is = let e : big (n ∷ []) ≡ n = omega arith in ap (read_as 1 big at) (value_back t 0 1 at (n ∷ []) rest refl is) ∙ ap (λ k. Ok (k, (rest, at + 3 + 1))) e

pub half_back : (t n at : ℕ) (rest : List ℕ) → n < 65536 → listed lengths t 2 ≡ true → half_at t (half_field t n ++ rest, at) ≡ Ok (n, (rest, at + 3 + 2))
half_back t n at rest fit is = ap (read_as 2 big at) (value_back t 0 2 at (half n) rest refl is) ∙ ap (λ k. Ok (k, (rest, at + 3 + 2))) (big_half n fit)

pub word_back : (t n at : ℕ) (rest : List ℕ) → n < 4294967296 → listed lengths t 4 ≡ true → word_at t (word_field t n ++ rest, at) ≡ Ok (n, (rest, at + 3 + 4))
word_back t n at rest fit is = ap (read_as 4 big at) (value_back t 0 4 at (word n) rest refl is) ∙ ap (λ k. Ok (k, (rest, at + 3 + 4))) (big_word n fit)

words_back : (ws : List ℕ) → FourWords ws → words_of (words ws) ≡ ws
words_back [] h = absurd (omega arith)
words_back (a ∷ []) h = absurd (omega arith)
words_back (a ∷ b ∷ []) h = absurd (omega arith)
words_back (a ∷ b ∷ c ∷ []) h = absurd (omega arith)
words_back (a ∷ b ∷ c ∷ d ∷ []) h = λ i. big_word a (h.1 0) i ∷ big_word b (h.1 1) i ∷ big_word c (h.1 2) i ∷ big_word d (h.1 3) i ∷ []
words_back (a ∷ b ∷ c ∷ d ∷ x ∷ r) h = absurd (omega arith)

abbrev pub raw : {R : Type 0} → ℕ → (R → List ℕ) → Frame R → RawFrame
raw kind writes f = record { kind = kind; time = f.time; position = f.position; words = writes f.body }

pub frame_back : {R : Type 0} (kind : ℕ) (writes : R → List ℕ) (f : Frame R) (rest : List ℕ) (at : ℕ) → FrameFits writes f → frame_at (frame_bytes kind writes f ++ rest, at) ≡ Ok (raw kind writes f, (rest, at + 3 + 25))
unfolding frame_at
frame_back kind writes f rest at fit =
    let v : List ℕ = kind ∷ (word f.time ++ (word f.position ++ words (writes f.body))) in
    ap (read_as 25 frame_of at) (value_back 0x20 0 25 at v rest refl refl)
    ∙ (λ i. Ok (record { kind = kind; time = big_word f.time fit.time i; position = big_word f.position fit.position i; words = words_back (writes f.body) fit.words i }, (rest, at + 3 + 25)))

-- the parties that are called, as a number and back
bits_back : (a b c d : Bool) → called_of (called_number (a ∷ b ∷ c ∷ d ∷ [])) ≡ a ∷ b ∷ c ∷ d ∷ []
bits_back false false false false = refl
bits_back true false false false = refl
bits_back false true false false = refl
bits_back true true false false = refl
bits_back false false true false = refl
bits_back true false true false = refl
bits_back false true true false = refl
bits_back true true true false = refl
bits_back false false false true = refl
bits_back true false false true = refl
bits_back false true false true = refl
bits_back true true false true = refl
bits_back false false true true = refl
bits_back true false true true = refl
bits_back false true true true = refl
bits_back true true true true = refl

pub called_back : (cs : List Bool) → length cs ≡ 4 → called_of (called_number cs) ≡ cs
called_back [] e = absurd (omega arith)
called_back (a ∷ []) e = absurd (omega arith)
called_back (a ∷ b ∷ []) e = absurd (omega arith)
called_back (a ∷ b ∷ c ∷ []) e = absurd (omega arith)
called_back (a ∷ b ∷ c ∷ d ∷ []) e = bits_back a b c d
called_back (a ∷ b ∷ c ∷ d ∷ x ∷ r) e = absurd (omega arith)
