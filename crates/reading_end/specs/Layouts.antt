-- The three layouts of a reply, as they are read.
use Rattle.std.specs.Prelude.{ℕ, zero, suc, ◌/◌, ◌%◌, Bool, cond, ◌&&◌, ◌||◌, List, [], ◌∷◌, length, Ok, Err, Result, ◌==◌, nat_le}
use Rattle.book.specs.declared.answers.Status.{Status}
use Rattle.book.specs.declared.answers.Status.TheVariants.{Follow, NoFollow, NoFrame}
use Rattle.fields.specs.declared.parts.Misfit.{Misfit}
use Rattle.fields.specs.declared.value.RawFrame.{RawFrame}
use Rattle.fields.specs.Reading.{Rest, word_at, half_at, byte_at, frame_at, end_at}
use Rattle.requests.specs.declared.faults.TelegramFault.{TelegramFault}
use Rattle.requests.specs.declared.faults.TelegramFault.TheVariants.{Form}
use Rattle.requests.specs.Parsing.{after, length_checked, seal_checked}
use Rattle.reading_end.specs.declared.reply.Reply.{Reply}
use Rattle.reading_end.specs.declared.reply.Reply.TheVariants.{Done, Refused, Entered, Read}

-- a field, and what comes after it
abbrev pub then : {X Y : Type 0} → Result (X × Rest) ℕ → (X → Rest → Result Y ℕ) → Result Y ℕ
then (Ok p) k = k p.0 p.1
then (Err at) k = Err at

abbrev pub next : {X : Type 0} → Result (X × Rest) ℕ → (X → Rest → Result Reply Misfit) → Result Reply Misfit
next (Ok p) k = k p.0 p.1
next (Err at) k = Err (record { at = at })

abbrev pub if_ok : Result (Unit {0}) Misfit → Reply → Result Reply Misfit
if_ok (Ok u) r = Ok r
if_ok (Err m) r = Err m

abbrev pub frames_at : ℕ → Rest → Result (List RawFrame × Rest) ℕ
frames_at zero s = Ok ([], s)
frames_at (suc n) s = then (frame_at s) (λ f s. then (frames_at n s) (λ fs s. Ok (f ∷ fs, s)))

-- after the frames nothing may come
abbrev pub frames_fault : Result (List RawFrame × Rest) ℕ → Result (Unit {0}) Misfit
frames_fault (Ok p) = end_at p.1
frames_fault (Err at) = Err (record { at = at })

abbrev pub between : ℕ → ℕ → ℕ → Bool
between a b n = nat_le a n && nat_le n b

-- the numbers of refusals
abbrev pub is_refusal_number : ℕ → Bool
is_refusal_number n = between 10 17 n || (between 20 27 n || (n == 30 || n == 31))

abbrev pub count_fits : Status → ℕ → Bool
count_fits NoFrame count = count == 0
count_fits Follow count = between 1 144 count
count_fits NoFollow count = between 1 144 count

-- party 1 counts 1, then 2, 4, 8
abbrev pub called_of : ℕ → List Bool
called_of n = (n % 2 == 1) ∷ (n / 2 % 2 == 1) ∷ (n / 4 % 2 == 1) ∷ (n / 8 % 2 == 1) ∷ []

abbrev pub entered_at : Rest → Result Reply Misfit
entered_at s = next (word_at 0x14 s) (λ position t. next (byte_at 0x18 t) (λ called u.
    cond (nat_le called 15) (if_ok (end_at u) (Entered (record { position = position; called = called_of called }))) (Err (record { at = t.1 }))))

abbrev pub reading_at : Status → Rest → Result Reply Misfit
reading_at status s =
    next (word_at 0x11 s) (λ ft s. next (word_at 0x12 s) (λ fp s. next (word_at 0x13 s) (λ til s. next (word_at 0x14 s) (λ tp s. next (word_at 0x15 s) (λ missed s. next (word_at 0x16 s) (λ version s.
    next (half_at 0x17 s) (λ count t. cond (count_fits status count)
    (if_ok (frames_fault (frames_at count t)) (Read (record { status = status; «from» = (ft, fp); till = (til, tp); missed = missed; version = version; count = count })))
    (Err (record { at = s.1 })))))))))

-- what comes after a status, which itself stands at this offset
abbrev pub by_status : ℕ → Rest → ℕ → Result Reply Misfit
by_status status s at =
    cond (status == 1) (reading_at Follow s) (cond (status == 2) (reading_at NoFollow s) (cond (status == 3) (reading_at NoFrame s)
    (cond (status == 0) (cond (length s.0 == 0) (Ok Done) (entered_at s))
    (cond (is_refusal_number status) (if_ok (end_at s) (Refused status)) (Err (record { at = at }))))))

abbrev pub reply_at : Rest → Result Reply Misfit
reply_at s = next (half_at 0x10 s) (λ status t. by_status status t s.1)

abbrev pub formed : Result Reply Misfit → Result Reply TelegramFault
formed (Ok r) = Ok r
formed (Err m) = Err (Form m.at)

abbrev pub intact_of : List ℕ → Result (Unit {0}) TelegramFault
intact_of bs = after (length_checked bs) (seal_checked bs)
