-- Fields as lists of bytes: what a field tells, which tags there are with the lengths of their values, and how one is read.
use Rattle.std.specs.Prelude.{◌≡◌, ◌≢◌, ℕ, ◌+◌, ◌*◌, Bool, false, cond, ◌&&◌, ◌||◌, List, [], ◌∷◌, length, take, drop, Some, None, Ok, Err, Option, Result, MatchResult, ◌==◌, nat_le}
use Rattle.std.specs.Borrow.{Bor}
use Rattle.fields.specs.declared.parts.Field.{Field}
use Rattle.fields.specs.declared.parts.Field.TheVariants as Of
use Rattle.fields.specs.declared.tag.Tag.{Tag}
use Rattle.fields.specs.declared.tag.Tag.TheVariants.{Method, Time, Position, Limit, FillLevel, Party, LastTime, Words, Status, FromTime, FromPosition, TillTime, TillPosition, Missed, Version, Count, Called, Frame}
use Rattle.fields.specs.declared.tag.UnknownTag.{UnknownTag}
use Rattle.fields.specs.declared.parts.Misfit.{Misfit}

-- a field: its tag, its value bytes and its offset
pub record Told : Type 0 where
  pub tag : ℕ
  pub value : List ℕ
  pub place : ℕ

-- the byte that stands for a tag
abbrev pub tag_number : Tag → ℕ
tag_number Method = 1
tag_number Time = 2
tag_number Position = 3
tag_number Limit = 4
tag_number FillLevel = 5
tag_number Party = 6
tag_number LastTime = 7
tag_number Words = 8
tag_number Status = 0x10
tag_number FromTime = 0x11
tag_number FromPosition = 0x12
tag_number TillTime = 0x13
tag_number TillPosition = 0x14
tag_number Missed = 0x15
tag_number Version = 0x16
tag_number Count = 0x17
tag_number Called = 0x18
tag_number Frame = 0x20

-- the tag with this number, or an error with a number that no tag has
abbrev pub Numbers : ℕ → Result Tag UnknownTag → Type 0
Numbers n r = MatchResult r (λ tag. tag_number tag ≡ n) (λ e. (e.0 ≡ n) × ((tag : Tag) → tag_number tag ≢ n))

abbrev pub tell : Field → Told
tell (Of.Method v at) = record { tag = tag_number Method; value = v.now; place = at }
tell (Of.Time v at) = record { tag = tag_number Time; value = v.now; place = at }
tell (Of.Position v at) = record { tag = tag_number Position; value = v.now; place = at }
tell (Of.Limit v at) = record { tag = tag_number Limit; value = v.now; place = at }
tell (Of.FillLevel v at) = record { tag = tag_number FillLevel; value = v.now; place = at }
tell (Of.Party v at) = record { tag = tag_number Party; value = v.now; place = at }
tell (Of.LastTime v at) = record { tag = tag_number LastTime; value = v.now; place = at }
tell (Of.Words v at) = record { tag = tag_number Words; value = v.now; place = at }
tell (Of.Status v at) = record { tag = tag_number Status; value = v.now; place = at }
tell (Of.FromTime v at) = record { tag = tag_number FromTime; value = v.now; place = at }
tell (Of.FromPosition v at) = record { tag = tag_number FromPosition; value = v.now; place = at }
tell (Of.TillTime v at) = record { tag = tag_number TillTime; value = v.now; place = at }
tell (Of.TillPosition v at) = record { tag = tag_number TillPosition; value = v.now; place = at }
tell (Of.Missed v at) = record { tag = tag_number Missed; value = v.now; place = at }
tell (Of.Version v at) = record { tag = tag_number Version; value = v.now; place = at }
tell (Of.Count v at) = record { tag = tag_number Count; value = v.now; place = at }
tell (Of.Called v at) = record { tag = tag_number Called; value = v.now; place = at }
tell (Of.Frame v at) = record { tag = tag_number Frame; value = v.now; place = at }

-- what a reading of a field tells
abbrev pub read_told : Result (Field × Bor (List ℕ)) Misfit → Result (Told × List ℕ) ℕ
read_told (Ok p) = Ok (tell p.0, p.1.now)
read_told (Err m) = Err m.at

-- the tags with the lengths of their values, of requests and then of replies
abbrev pub lengths : List (ℕ × ℕ)
lengths =
    (1, 2) ∷ (2, 4) ∷ (3, 4) ∷ (4, 2) ∷ (5, 1) ∷ (6, 1) ∷ (7, 4) ∷ (8, 16)
    ∷ (0x10, 2) ∷ (0x11, 4) ∷ (0x12, 4) ∷ (0x13, 4) ∷ (0x14, 4) ∷ (0x15, 4) ∷ (0x16, 4) ∷ (0x17, 2) ∷ (0x18, 1) ∷ (0x20, 25) ∷ []

-- the length that stands beside a number
abbrev pub length_in : List (ℕ × ℕ) → ℕ → ℕ
length_in [] tag = 0
length_in (row ∷ rows) tag = cond (tag == row.0) row.1 (length_in rows tag)

abbrev pub listed : List (ℕ × ℕ) → ℕ → ℕ → Bool
listed [] tag length = false
listed (row ∷ rows) tag length = (tag == row.0 && length == row.1) || listed rows tag length

-- a tag with a value of its length
abbrev pub shape : ℕ → List ℕ → ℕ → Option Told
shape tag value at = cond (listed lengths tag (length value)) (Some (record { tag = tag; value = value; place = at })) None

abbrev pub parse_rest : Option Told → List ℕ → ℕ → Result (Told × List ℕ) ℕ
parse_rest (Some f) after at = Ok (f, after)
parse_rest None after at = Err at

-- the first field of bytes that lie at this offset, and the bytes after it; else the offset of the field that does not fit
unfoldable pub parse_field : List ℕ → ℕ → Result (Told × List ℕ) ℕ
parse_field [] at = Err at
parse_field (t ∷ []) at = Err at
parse_field (t ∷ h ∷ []) at = Err at
parse_field (t ∷ h ∷ l ∷ rest) at =
    cond (nat_le (h * 256 + l) (length rest)) (parse_rest (shape t (take (h * 256 + l) rest) at) (drop (h * 256 + l) rest) at) (Err at)
