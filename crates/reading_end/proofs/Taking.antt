-- Fields that are read were written so.
use Rattle.std.proofs.Common.{◌≡◌, ℕ, ◌+◌, ◌*◌, ◌/◌, ◌%◌, ◌<◌, ◌≤◌, Bool, true, false, cond, eqb, List, [], ◌∷◌, ◌++◌, length, take, drop, Ok, Err, Result, sym, refl, ap, ◌∙◌, subst, arith}
use Rattle.std.proofs.ByRecursion.{All-take, All-drop}
use Rattle.std.proofs.lemmas.List.{length-drop, length-take-le, take-append-drop, drop-drop, drop_all}
use Rattle.std.proofs.lemmas.Bool.{eqb-true}
use Rattle.fields.specs.Layout.{Told, parse_field}
use Rattle.fields.specs.Values.{big, frame_of, words_of}
use Rattle.fields.specs.Reading.{Rest, pick, read_as, value_at, byte_at, half_at, word_at, frame_at}
use Rattle.fields.specs.declared.value.RawFrame.{RawFrame}
use Rattle.fields.proofs.Parsing.{took}
use Rattle.records.specs.Laws.{FourWords}
use Rattle.replies.specs.Layout.{half, word, words, byte_field, half_field, word_field, frame_bytes}
use Rattle.replies.specs.Fits.{FrameFits}
use Rattle.replies.proofs.Writing.{four_fit}
use Rattle.reading_end.specs.Laws.{Bytes, Unread, unread}

-- these bytes begin with a field that says n, and the rest of them are bytes too
pub record Took (bs field rest : List ℕ) (n limit : ℕ) : Type 0 where
  pub cut : bs ≡ field ++ rest
  pub small : n < limit
  pub bytes : Bytes rest

bytes_parts : (xs ys : List ℕ) → Bytes (xs ++ ys) → Bytes xs × Bytes ys
bytes_parts [] ys h = (tt, h)
bytes_parts (x ∷ xs) ys h = let inner = bytes_parts xs ys h.1 in ((h.0, inner.0), inner.1)

-- a condition that was met
pub met : {X E : Type 0} (b : Bool) (x : Result X E) (e : E) (y : X) → cond b x (Err e) ≡ Ok y → (b ≡ true) × (x ≡ Ok y)
met true x e y is = (refl, is)
met false x e y is = absurd (let z : ◌≡◌ {A = ℕ} 0 1 = cc in omega arith)

-- a value with its tag
picked : (tag at : ℕ) (o : Result (Told × List ℕ) ℕ) (v : List ℕ) (s : Rest) → pick tag at o ≡ Ok (v, s) → (f : Told) × (Ok (f, s.0) ≡ o) × (f.tag ≡ tag) × (f.value ≡ v)
picked tag at (Ok p) v s e =
    let m = met (eqb p.0.tag tag) _ at (v, s) e in
    let q : (p.0.value, (p.1, at + 3 + length p.0.value)) ≡ (v, s) = cc in
    (p.0, ap (λ (z : List ℕ × Rest). Ok (p.0, z.1.0)) (sym q), eqb-true _ _ m.0, ap (λ (z : List ℕ × Rest). z.0) q)
picked tag at (Err x) v s e = absurd (let z : ◌≡◌ {A = ℕ} 0 1 = cc in omega arith)

-- the bytes that a value was taken from
record ValueTook (tag : ℕ) (bs v rest : List ℕ) : Type 0 where
  high : ℕ
  low : ℕ
  cut : bs ≡ tag ∷ high ∷ low ∷ (v ++ rest)
  long : length v ≡ high * 256 + low
  bytes : Bytes v × Bytes rest

value_took : (tag at : ℕ) (bs v : List ℕ) (s : Rest) → Bytes bs → value_at tag (bs, at) ≡ Ok (v, s) → ValueTook tag bs v s.0
value_took tag at bs v s h e =
    let p = picked tag at (parse_field bs at) v s e in
    let t = took bs at p.0 s.0 p.1 in
    let cut : bs ≡ tag ∷ t.0 ∷ t.1 ∷ (v ++ s.0) = t.2 ∙ (λ i. p.2 i ∷ t.0 ∷ t.1 ∷ (p.3 i ++ s.0)) in
    let all = subst Bytes cut h in
    record { high = t.0; low = t.1; cut = cut; long = sym (ap length p.3) ∙ t.3; bytes = bytes_parts v s.0 all.1.1.1 }

-- what a value says was said by so many bytes
said_by : {X : Type 0} (n : ℕ) (says : List ℕ → X) (at : ℕ) (o : Result (List ℕ × Rest) ℕ) (x : X) (s : Rest) → read_as n says at o ≡ Ok (x, s) → (v : List ℕ) × (o ≡ Ok (v, s)) × (length v ≡ n) × (says v ≡ x)
said_by {X} n says at (Ok p) x s e =
    let m = met (eqb (length p.0) n) _ at (x, s) e in
    let q : (says p.0, p.1) ≡ (x, s) = cc in
    (p.0, ap (λ (z : X × Rest). Ok (p.0, z.1)) q, eqb-true _ _ m.0, ap (λ (z : X × Rest). z.0) q)
said_by n says at (Err a) x s e = absurd (let z : ◌≡◌ {A = ℕ} 0 1 = cc in omega arith)

-- bytes as a number, and that number's bytes
byte_bytes : (v : List ℕ) → length v ≡ 1 → Bytes v → (big v ∷ [] ≡ v) × (big v < 256)
byte_bytes [] e h = absurd (omega arith)
byte_bytes (a ∷ []) e h = let is : big (a ∷ []) ≡ a = omega arith in (ap (λ k. k ∷ []) is, omega arith)
byte_bytes (a ∷ x ∷ r) e h = absurd (omega arith)

half_bytes : (v : List ℕ) → length v ≡ 2 → Bytes v → (half (big v) ≡ v) × (big v < 65536)
half_bytes [] e h = absurd (omega arith)
half_bytes (a ∷ []) e h = absurd (omega arith)
half_bytes (a ∷ b ∷ []) e h =
    let n : ℕ = big (a ∷ b ∷ []) in
    let first : n / 256 % 256 ≡ a = omega arith in
    let second : n % 256 ≡ b = omega arith in
    (λ i. first i ∷ second i ∷ [], omega arith)
half_bytes (a ∷ b ∷ x ∷ r) e h = absurd (omega arith)

pub word_bytes : (v : List ℕ) → length v ≡ 4 → Bytes v → (word (big v) ≡ v) × (big v < 4294967296)
word_bytes [] e h = absurd (omega arith)
word_bytes (a ∷ []) e h = absurd (omega arith)
word_bytes (a ∷ b ∷ []) e h = absurd (omega arith)
word_bytes (a ∷ b ∷ c ∷ []) e h = absurd (omega arith)
word_bytes (a ∷ b ∷ c ∷ d ∷ []) e h =
    let n : ℕ = big (a ∷ b ∷ c ∷ d ∷ []) in
    let first : n / 16777216 % 256 ≡ a = omega arith in
    let second : n / 65536 % 256 ≡ b = omega arith in
    let third : n / 256 % 256 ≡ c = omega arith in
    let fourth : n % 256 ≡ d = omega arith in
    (λ i. first i ∷ second i ∷ third i ∷ fourth i ∷ [], omega arith)
word_bytes (a ∷ b ∷ c ∷ d ∷ x ∷ r) e h = absurd (omega arith)

field_cut : (tag len : ℕ) (bs v u rest : List ℕ) → len < 256 → ValueTook tag bs v rest → length v ≡ len → v ≡ u → bs ≡ tag ∷ 0 ∷ len ∷ (u ++ rest)
field_cut tag len bs v u rest short w long is =
    let sum = w.long in
    let high : w.high ≡ 0 = omega arith in
    let low : w.low ≡ len = omega arith in
    w.cut ∙ (λ i. tag ∷ high i ∷ low i ∷ (is i ++ rest))

pub byte_took : (tag at n : ℕ) (bs : List ℕ) (s : Rest) → Bytes bs → byte_at tag (bs, at) ≡ Ok (n, s) → Took bs (byte_field tag n) s.0 n 256
byte_took tag at n bs s h e =
    let z = said_by 1 big at (value_at tag (bs, at)) n s e in
    let w = value_took tag at bs z.0 s h z.1 in
    let b = byte_bytes z.0 z.2 w.bytes.0 in
    record { cut = field_cut tag 1 bs z.0 (n ∷ []) s.0 (omega arith) w z.2 (sym b.0 ∙ ap (λ k. k ∷ []) z.3); small = subst (λ k. k < 256) z.3 b.1; bytes = w.bytes.1 }

pub half_took : (tag at n : ℕ) (bs : List ℕ) (s : Rest) → Bytes bs → half_at tag (bs, at) ≡ Ok (n, s) → Took bs (half_field tag n) s.0 n 65536
half_took tag at n bs s h e =
    let z = said_by 2 big at (value_at tag (bs, at)) n s e in
    let w = value_took tag at bs z.0 s h z.1 in
    let b = half_bytes z.0 z.2 w.bytes.0 in
    record { cut = field_cut tag 2 bs z.0 (half n) s.0 (omega arith) w z.2 (sym b.0 ∙ ap half z.3); small = subst (λ k. k < 65536) z.3 b.1; bytes = w.bytes.1 }

pub word_took : (tag at n : ℕ) (bs : List ℕ) (s : Rest) → Bytes bs → word_at tag (bs, at) ≡ Ok (n, s) → Took bs (word_field tag n) s.0 n 4294967296
word_took tag at n bs s h e =
    let z = said_by 4 big at (value_at tag (bs, at)) n s e in
    let w = value_took tag at bs z.0 s h z.1 in
    let b = word_bytes z.0 z.2 w.bytes.0 in
    record { cut = field_cut tag 4 bs z.0 (word n) s.0 (omega arith) w z.2 (sym b.0 ∙ ap word z.3); small = subst (λ k. k < 4294967296) z.3 b.1; bytes = w.bytes.1 }

-- four bytes from the i-th on
piece : (i : ℕ) (r : List ℕ) → i + 4 ≤ length r → Bytes r → (drop i r ≡ word (big (take 4 (drop i r))) ++ drop (i + 4) r) × (big (take 4 (drop i r)) < 4294967296)
piece i r fit h =
    let four : length (take 4 (drop i r)) ≡ 4 = length-take-le 4 (drop i r) (omega (arith, length-drop i r)) in
    let b = word_bytes (take 4 (drop i r)) four (All-take (λ k. k < 256) 4 (drop i r) (All-drop (λ k. k < 256) i r h)) in
    (sym (take-append-drop 4 (drop i r)) ∙ (λ j. sym b.0 j ++ drop-drop 4 i r j), b.1)

words_took : (w : List ℕ) → length w ≡ 16 → Bytes w → (w ≡ words (words_of w)) × FourWords (words_of w)
words_took w long h =
    let a = piece 0 w (omega arith) h in
    let b = piece 4 w (omega arith) h in
    let c = piece 8 w (omega arith) h in
    let d = piece 12 w (omega arith) h in
    let put : ℕ → List ℕ → List ℕ = λ k l. word (big (take 4 (drop k w))) ++ l in (
      a.0 ∙ ap (put 0) (b.0 ∙ ap (put 4) (c.0 ∙ ap (put 8) (d.0 ∙ ap (put 12) (drop_all 16 w (omega arith))))),
      four_fit (words_of w) refl a.1 b.1 c.1 d.1,
    )

-- a frame as it was read, its record still words
abbrev pub as_unread : RawFrame → Unread
as_unread f = record { time = f.time; position = f.position; body = f.words }

abbrev frame_value : ℕ → Unread → List ℕ
frame_value kind f = kind ∷ (word f.time ++ (word f.position ++ words f.body))

frame_whole : (v : List ℕ) → length v ≡ 25 → Bytes v → (v ≡ frame_value (frame_of v).kind (as_unread (frame_of v))) × FrameFits unread (as_unread (frame_of v))
frame_whole [] long h = absurd (omega arith)
frame_whole (k ∷ r) long h =
    let t = piece 0 r (omega arith) h.1 in
    let p = piece 4 r (omega arith) h.1 in
    let w = words_took (drop 8 r) (omega (arith, length-drop 8 r)) (All-drop (λ b. b < 256) 8 r h.1) in (
      ap (λ l. k ∷ l) (t.0 ∙ ap (λ l. word (big (take 4 r)) ++ l) (p.0 ∙ ap (λ l. word (big (take 4 (drop 4 r))) ++ l) w.0)),
      record { time = t.1; position = p.1; words = w.1 },
    )

pub record FrameTook (bs : List ℕ) (f : RawFrame) (rest : List ℕ) : Type 0 where
  pub cut : bs ≡ frame_bytes f.kind unread (as_unread f) ++ rest
  pub fits : FrameFits unread (as_unread f)
  pub bytes : Bytes rest

pub frame_took : (at : ℕ) (bs : List ℕ) (f : RawFrame) (s : Rest) → Bytes bs → frame_at (bs, at) ≡ Ok (f, s) → FrameTook bs f s.0
unfolding frame_at
frame_took at bs f s h e =
    let z = said_by 25 frame_of at (value_at 0x20 (bs, at)) f s e in
    let w = value_took 0x20 at bs z.0 s h z.1 in
    let b = frame_whole z.0 z.2 w.bytes.0 in
    record {
      cut = field_cut 0x20 25 bs z.0 (frame_value f.kind (as_unread f)) s.0 (omega arith) w z.2 (b.0 ∙ ap (λ g. frame_value g.kind (as_unread g)) z.3);
      fits = subst (λ g. FrameFits unread (as_unread g)) z.3 b.1;
      bytes = w.bytes.1;
    }
