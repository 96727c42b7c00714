-- Telegrams read into requests, with the checks in their order.
use Rattle.std.specs.Prelude.{◌≡◌, ℕ, ◌-◌, cond, ◌&&◌, ◌||◌, List, [], ◌∷◌, length, take, Ok, Err, Result, ◌==◌, nat_le, nat_lt}
use Rattle.book.specs.declared.fault.BookFault.{BookFault}
use Rattle.book.specs.declared.fault.BookFault.TheVariants.{ParamInvalid, IntervalInvalid}
use Rattle.fields.specs.declared.parts.Misfit.{Misfit}
use Rattle.fields.specs.Reading.{Rest, word_at, half_at, byte_at, end_at, words_at}
use Rattle.seals.specs.Fletcher.{is_sealed}
use Rattle.requests.specs.declared.naming.Request.{Request}
use Rattle.requests.specs.declared.naming.Request.TheVariants.{Since, Oldest, Youngest, Span, Listen, Start, Stop, Release, Enter}
use Rattle.requests.specs.declared.faults.TelegramFault.{TelegramFault}
use Rattle.requests.specs.declared.faults.TelegramFault.TheVariants.{Length, NoBuffer, Seal, Form, NoMethod, Book}

-- a field, and what comes after it
abbrev pub then : {X : Type 0} → Result (X × Rest) ℕ → (X → Rest → Result Request TelegramFault) → Result Request TelegramFault
then (Ok p) k = k p.0 p.1
then (Err at) k = Err (Form at)

-- nothing more may come
abbrev pub ended : Result (Unit {0}) Misfit → Request → Result Request TelegramFault
ended (Ok u) q = Ok q
ended (Err m) q = Err (Form m.at)

abbrev pub since_at : Rest → Result Request TelegramFault
since_at s = then (word_at 2 s) (λ time s. then (word_at 3 s) (λ position s. then (half_at 4 s) (λ limit s. ended (end_at s) (Since (time, position) limit))))

abbrev pub span_at : Rest → Result Request TelegramFault
span_at s = then (word_at 2 s) (λ first s. then (half_at 4 s) (λ limit s. then (word_at 7 s) (λ last s. ended (end_at s) (Span first last limit))))

abbrev pub listen_at : Rest → Result Request TelegramFault
listen_at s = then (word_at 2 s) (λ time s. then (word_at 3 s) (λ position s. then (byte_at 5 s) (λ level s. then (byte_at 6 s) (λ party s. ended (end_at s) (Listen party (time, position) level)))))

abbrev pub release_at : Rest → Result Request TelegramFault
release_at s = then (word_at 3 s) (λ position s. ended (end_at s) (Release position))

abbrev pub enter_at : Rest → Result Request TelegramFault
enter_at s = then (word_at 2 s) (λ time s. then (words_at 8 s) (λ words s. ended (end_at s) (Enter time words)))

abbrev pub alone_at : Rest → Request → Result Request TelegramFault
alone_at s q = ended (end_at s) q

-- the methods, each with its fields in their order
abbrev pub method_at : ℕ → Rest → Result Request TelegramFault
method_at m s =
    cond (m == 1) (since_at s) (cond (m == 2) (alone_at s Oldest) (cond (m == 3) (alone_at s Youngest)
    (cond (m == 4) (span_at s) (cond (m == 5) (listen_at s) (cond (m == 6) (alone_at s Start)
    (cond (m == 7) (alone_at s Stop) (cond (m == 8) (release_at s) (cond (m == 9) (enter_at s) (Err NoMethod)))))))))

-- a limit is 1 to 144, a party 1 to 4, and a span does not run backwards
abbrev pub range_fault : Request → Result (Unit {0}) BookFault
range_fault (Since mark limit) = cond (nat_le 1 limit && nat_le limit 144) (Ok tt) (Err ParamInvalid)
range_fault (Span first last limit) = cond (nat_le 1 limit && nat_le limit 144) (cond (nat_le first last) (Ok tt) (Err IntervalInvalid)) (Err ParamInvalid)
range_fault (Listen party mark level) = cond (nat_le 1 party && nat_le party 4) (Ok tt) (Err ParamInvalid)
range_fault Oldest = Ok tt
range_fault Youngest = Ok tt
range_fault Start = Ok tt
range_fault Stop = Ok tt
range_fault (Release p) = Ok tt
range_fault (Enter t ws) = Ok tt

abbrev pub ranged' : Request → Result (Unit {0}) BookFault → Result Request TelegramFault
ranged' q (Ok u) = Ok q
ranged' q (Err b) = Err (Book b)

abbrev pub ranged : Result Request TelegramFault → Result Request TelegramFault
ranged (Ok q) = ranged' q (range_fault q)
ranged (Err f) = Err f

-- all but the seal
abbrev pub fields_of : List ℕ → List ℕ
fields_of bs = take (length bs - 2) bs

abbrev pub named_at : Rest → Result Request TelegramFault
named_at s = then (half_at 1 s) (λ m s. method_at m s)

abbrev pub length_checked : List ℕ → Result (Unit {0}) TelegramFault
length_checked bs = cond (nat_lt (length bs) 2 || nat_lt 4096 (length bs)) (Err Length) (Ok tt)

abbrev pub seal_checked : List ℕ → Result (Unit {0}) TelegramFault
seal_checked bs = cond (is_sealed bs) (Ok tt) (Err Seal)

-- what comes of a check and of what is done after it
abbrev pub after : {X : Type 0} → Result (Unit {0}) TelegramFault → Result X TelegramFault → Result X TelegramFault
after (Ok u) r = r
after (Err f) r = Err f

abbrev pub intact_of : List ℕ → ℕ → Result (Unit {0}) TelegramFault
intact_of bs room = after (length_checked bs) (cond (nat_lt room 82) (Err NoBuffer) (seal_checked bs))

abbrev pub request_of : List ℕ → ℕ → Result Request TelegramFault
request_of bs room = after (intact_of bs room) (ranged (named_at (fields_of bs, 0)))

-- worked telegrams: stop, a wrong seal, no method field
abbrev pub WorkedRequests : Type 0
WorkedRequests =
    (request_of (0x01 ∷ 0x00 ∷ 0x02 ∷ 0x00 ∷ 0x07 ∷ 0xe3 ∷ 0x12 ∷ []) 82 ≡ Ok Stop)
    × (request_of (0x01 ∷ 0x00 ∷ 0x02 ∷ 0x00 ∷ 0x07 ∷ 0xe3 ∷ 0x13 ∷ []) 82 ≡ Err Seal)
    × (request_of (0x00 ∷ 0x00 ∷ []) 82 ≡ Err (Form 0))
