-- Replies as lists of bytes: their layouts, as they are written.
use Rattle.std.specs.Prelude.{◌≡◌, ℕ, ◌+◌, ◌*◌, ◌/◌, ◌%◌, Bool, true, false, cond, List, [], ◌∷◌, ◌++◌, length, drop, Some, None, Option, nat_le, slice_index, slice_index_or}
use Rattle.std.specs.List.{flat_map}
use Rattle.records.specs.declared.frames.Frame.{Frame}
use Rattle.book.specs.declared.answers.Entered.{Entered}
use Rattle.book.specs.declared.answers.Reading.{Reading}
use Rattle.book.specs.Told.{status_number}
use Rattle.seals.specs.Fletcher.{seal_bytes}

-- numbers of two and four bytes, high byte first
abbrev pub half : ℕ → List ℕ
half n = (n / 256 % 256) ∷ (n % 256) ∷ []

abbrev pub word : ℕ → List ℕ
word n = (n / 16777216 % 256) ∷ (n / 65536 % 256) ∷ (n / 256 % 256) ∷ (n % 256) ∷ []

abbrev pub words : List ℕ → List ℕ
words ws = word (slice_index ws 0) ++ (word (slice_index ws 1) ++ (word (slice_index ws 2) ++ word (slice_index ws 3)))

-- fields of one, two and four bytes
abbrev pub byte_field : ℕ → ℕ → List ℕ
byte_field tag n = tag ∷ 0 ∷ 1 ∷ n ∷ []

abbrev pub half_field : ℕ → ℕ → List ℕ
half_field tag n = tag ∷ 0 ∷ 2 ∷ half n

abbrev pub word_field : ℕ → ℕ → List ℕ
word_field tag n = tag ∷ 0 ∷ 4 ∷ word n

-- party 1 counts 1, then 2, 4, 8
abbrev pub bit : Bool → ℕ
bit true = 1
bit false = 0

abbrev pub called_number : List Bool → ℕ
called_number called = bit (slice_index_or called 0 false) + 2 * bit (slice_index_or called 1 false) + 4 * bit (slice_index_or called 2 false) + 8 * bit (slice_index_or called 3 false)

-- a read before its frames: status, from, till, missed, version, count
abbrev pub head_bytes : Reading → List ℕ
head_bytes g =
    half_field 0x10 (status_number g.status) ++ (word_field 0x11 g.«from».0 ++ (word_field 0x12 g.«from».1
    ++ (word_field 0x13 g.till.0 ++ (word_field 0x14 g.till.1 ++ (word_field 0x15 g.missed ++ (word_field 0x16 g.version
    ++ half_field 0x17 g.count))))))

-- a frame: kind number, time, position, words
abbrev pub frame_bytes : {R : Type 0} → ℕ → (R → List ℕ) → Frame R → List ℕ
frame_bytes kind writes f = 0x20 ∷ 0 ∷ 25 ∷ kind ∷ (word f.time ++ (word f.position ++ words (writes f.body)))

-- the three layouts: a lone status, an entry's answer, a read's
abbrev pub status_fields : ℕ → List ℕ
status_fields status = half_field 0x10 status

abbrev pub entered_fields : Entered → List ℕ
entered_fields e = half_field 0x10 0 ++ (word_field 0x14 e.position ++ byte_field 0x18 (called_number e.called))

abbrev pub read_fields : {R : Type 0} → ℕ → (R → List ℕ) → Reading → List (Frame R) → List ℕ
read_fields kind writes g frames = head_bytes g ++ flat_map (frame_bytes kind writes) frames

-- fields, and then their seal
abbrev pub closed : List ℕ → List ℕ
closed fields = fields ++ seal_bytes fields

abbrev pub status_reply : ℕ → List ℕ
status_reply status = closed (status_fields status)

abbrev pub entered_reply : Entered → List ℕ
entered_reply e = closed (entered_fields e)

abbrev pub read_reply : {R : Type 0} → ℕ → (R → List ℕ) → Reading → List (Frame R) → List ℕ
read_reply kind writes g frames = closed (read_fields kind writes g frames)

-- a reply of n bytes in a buffer: its length, and the buffer after it; too short a buffer stays
abbrev pub written_length : ℕ → List ℕ → Option ℕ
written_length n out = cond (nat_le n (length out)) (Some n) None

abbrev pub written_over : ℕ → List ℕ → List ℕ → List ℕ
written_over n reply out = cond (nat_le n (length out)) (reply ++ drop n out) out

abbrev pub WorkedStatus : Type 0
WorkedStatus = status_reply 20 ≡ 0x10 ∷ 0x00 ∷ 0x02 ∷ 0x00 ∷ 0x14 ∷ 0x6f ∷ 0x6a ∷ []
