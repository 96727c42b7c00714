-- The far end takes from a reply what was told.
use Rattle.std.proofs.Common.{◌≡◌, ℕ, ◌-◌, ◌≤◌, min, Bool, true, false, cond, not, ◌&&◌, eqb, leb, List, [], length, Some, None, Ok, Err, Option, Result, refl, ap, ◌∙◌, subst, arith}
use Rattle.std.proofs.lemmas.List.{length-take}
use Rattle.std.proofs.lemmas.Bool.{eqb-false}
use Rattle.std.proofs.lemmas.Bool.Decides.{nat_tests}
use Rattle.records.specs.declared.fault.RecordFault.{RecordFault}
use Rattle.records.specs.declared.frames.Frame.{Frame}
use Rattle.records.specs.Laws.{ReadsBack}
use Rattle.book.specs.declared.answers.Status.{Status}
use Rattle.book.specs.declared.fault.BookFault.TheVariants as Of
use Rattle.book.specs.Told.{Told.accepted, Told.refused, tell, keep, verdict}
use Rattle.book.specs.Reads.{within, held_after, status_of_read}
use Rattle.trays.specs.declared.fault.TrayFault.TheVariants.{NoSlot}
use Rattle.runs.specs.declared.asked.Read.{Read}
use Rattle.runs.specs.Steps.{World, read_checks, read_answer, read_gives}
use Rattle.runs.proofs.Given.{count_given}
use Rattle.requests.specs.declared.faults.TelegramFault.{TelegramFault}
use Rattle.requests.specs.declared.faults.TelegramFault.TheVariants.{Length, NoBuffer, Seal, Form, NoMethod, OtherKind, Book}
use Rattle.requests.specs.Faults.{fault_number}
use Rattle.replies.specs.Layout.{status_reply}
use Rattle.reading_end.specs.Layouts.{is_refusal_number, count_fits}
use Rattle.reading_end.specs.Replies.{reply_of}
use Rattle.reading_end.proofs.Whole.{done_back, refused_back as refusal_back, entered_back, read_back, again_of}
use Rattle.exchange.specs.declared.orders.Order.{Order}
use Rattle.exchange.specs.declared.orders.Order.TheVariants.{Enter, Listen, Show, Ask}
use Rattle.exchange.specs.declared.orders.Said.{Said}
use Rattle.exchange.specs.Orders.{order_checks, order_says, order_gives}
use Rattle.exchange.specs.Answering.{sent_told, sent_gives, said_told, said_reply, reply_to, sent_reply}
use Rattle.exchange.specs.Back.{SaidFits, ToldFits, TakenAs, ReadBack}
use Rattle.exchange.proofs.Keys.{open_first}

-- every fault has the number of a refusal
stands : (fault : TelegramFault) → is_refusal_number (fault_number fault) ≡ true
stands Length = refl
stands NoBuffer = refl
stands Seal = refl
stands (Form at) = refl
stands NoMethod = refl
stands OtherKind = refl
stands (Book Of.NoRoom) = refl
stands (Book Of.ParamInvalid) = refl
stands (Book Of.IntervalInvalid) = refl
stands (Book Of.NotActive) = refl
stands (Book Of.NotInactive) = refl
stands (Book Of.TimeFalls) = refl
stands (Book Of.Full) = refl
stands (Book Of.NumbersUsedUp) = refl
stands (Book Of.UnknownMark) = refl
stands (Book Of.KeyOut) = refl
stands (Book Of.WrongKey) = refl
stands (Book (Of.Record fault)) = refl
stands (Book (Of.Tray NoSlot)) = refl

refused_stands : (r : Result Said TelegramFault) (number : ℕ) → said_told r ≡ refused number → is_refusal_number number ≡ true
refused_stands (Ok said) number e = absurd (let z : ◌≡◌ {A = ℕ} 0 1 = cc in omega arith)
refused_stands (Err fault) number e = let same : fault_number fault ≡ number = cc in subst (λ n. is_refusal_number n ≡ true) same (stands fault)

from_ten : (number : ℕ) → is_refusal_number number ≡ true → 10 ≤ number
from_ten number is = grind (arith, nat_tests)

-- a status tells whether frames are given
lawful_count : (count : ℕ) (more : Bool) → count ≤ 144 → count_fits (status_of_read count more) count ≡ true
lawful_count count more few = go (eqb count 0) more refl
  where
    some : eqb count 0 ≡ false → (leb 1 count && leb count 144) ≡ true
    some e = let least = eqb-false count 0 e in grind (arith, nat_tests)

    go : (none more : Bool) → eqb count 0 ≡ none → count_fits (cond none Status.NoFrame (cond more Status.Follow Status.NoFollow)) count ≡ true
    go true more e = e
    go false true e = some e
    go false false e = some e

within_limit : (limit : ℕ) → not (leb 1 limit && leb limit 144) ≡ false → limit ≤ 144
within_limit limit e = grind (arith, nat_tests)

module _ {R : Type 0} (reads : List ℕ → Result R RecordFault) (w : World) (n : ℕ) where
  -- an accepted read gives 144 frames at most
  few : (read : Read) → verdict (read_checks read w.state w.row n) ≡ None → length (read_gives reads read w.state w.row n) ≤ 144
  few (Read.Since mark limit) e = let most = within_limit limit (open_first _ 15 _ e) in omega (arith, most, length-take (min limit n) (held_after reads w.state w.row mark.1))
  few Read.Oldest e = omega (arith, length-take 1 (held_after reads w.state w.row 0))
  few Read.Youngest e = omega (arith, length-take 1 (held_after reads w.state w.row (w.state.last - 1)))
  few (Read.Span first last limit) e = let most = within_limit limit (open_first _ 15 _ e) in omega (arith, most, length-take (min limit n) (within first last (held_after reads w.state w.row 0)))

  lawful : (read : Read) → length (read_gives reads read w.state w.row n) ≤ 144
      → count_fits (read_answer reads read w.state w.row n).status (read_answer reads read w.state w.row n).count ≡ true
  lawful (Read.Since mark limit) l = lawful_count _ _ l
  lawful Read.Oldest l = lawful_count _ _ l
  lawful Read.Youngest l = lawful_count _ _ l
  lawful (Read.Span first last limit) l = lawful_count _ _ l

  module _ {V : Type 0} (writes : R → List ℕ) (means : R → V) (kind : ℕ) (law : (r : R) → ReadsBack means (reads (writes r)) r) where
    accepted_back : (order : Order R) → verdict (order_checks order w n) ≡ None → SaidFits writes (order_says reads order w n) (order_gives reads order w n)
        → (room : ℕ) → 144 ≤ room
        → TakenAs reads writes means (accepted (order_says reads order w n)) (order_gives reads order w n) (reply_of kind reads (said_reply kind writes (order_says reads order w n) (order_gives reads order w n)) room)
    accepted_back (Enter time r) e fits room much = entered_back kind reads _ room fits
    accepted_back (Listen party mark level) e fits room much = done_back kind reads room
    accepted_back (Show call) e fits room much = done_back kind reads room
    accepted_back (Ask read) e fits room much =
        let gives = read_gives reads read w.state w.row n in
        let most = few read e in
        let again = again_of reads writes means law gives in (
          again.0,
          read_back kind reads writes (read_answer reads read w.state w.row n) gives again.0 room fits.0 fits.1 (count_given reads w.state w.row n read) (lawful read most) (omega (arith, most, much)) again.1,
          again.1,
          again.2,
        )

    refused_back : (number : ℕ) (frames : List (Frame R)) → is_refusal_number number ≡ true → ReadBack reads writes means kind (reply_to kind writes (refused number) frames) (refused number) frames
    refused_back number frames is = go (leb 10 number && leb number 12)
      where
        go : (b : Bool) → ReadBack reads writes means kind (cond b [] (status_reply number)) (refused number) frames
        go true = tt
        go false = λ room much. (from_ten number is, refusal_back kind reads number room is)

    order_back : (order : Order R) (v : Option ℕ) → verdict (order_checks order w n) ≡ v → ((number : ℕ) → v ≡ Some number → is_refusal_number number ≡ true)
        → ToldFits writes (tell v (order_says reads order w n)) (keep v (order_gives reads order w n) [])
        → ReadBack reads writes means kind (reply_to kind writes (tell v (order_says reads order w n)) (keep v (order_gives reads order w n) [])) (tell v (order_says reads order w n)) (keep v (order_gives reads order w n) [])
    order_back order (Some number) e is fits = refused_back number [] (is number refl)
    order_back (Enter time r) None e is fits = accepted_back (Enter time r) e fits
    order_back (Listen party mark level) None e is fits = accepted_back (Listen party mark level) e fits
    order_back (Show call) None e is fits = accepted_back (Show call) e fits
    order_back (Ask read) None e is fits = accepted_back (Ask read) e fits

    -- whatever reply is written is taken as what was told
    pub sent_back : (asked : Result (Order R) TelegramFault) (r : Result Said TelegramFault) → said_told r ≡ sent_told reads asked w n
        → ToldFits writes (sent_told reads asked w n) (sent_gives reads asked w n)
        → ReadBack reads writes means kind (sent_reply reads kind writes asked w n) (sent_told reads asked w n) (sent_gives reads asked w n)
    sent_back (Err fault) r told fits = refused_back (fault_number fault) [] (stands fault)
    sent_back (Ok order) r told fits =
        order_back order (verdict (order_checks order w n)) refl
        (λ number e. refused_stands r number (told ∙ ap (λ v. tell v (order_says reads order w n)) e)) fits
