-- What is known of a telegram's answer: its frames lie in the row, and the buffer takes its reply.
use Rattle.std.proofs.Common.{◌≡◌, ℕ, ◌+◌, ◌*◌, ◌≤◌, min, Bool, true, false, cond, ◌&&◌, ◌||◌, eqb, ltb, leb, ◌⊎◌, List, [], ◌∷◌, ◌++◌, length, take, drop, Some, None, Ok, Err, Option, Result, sym, refl, ap, ◌∙◌, subst, inl, inr, append_assoc, arith, take_at}
use Rattle.std.proofs.lemmas.List.{length-append, length-take, take-append-drop, drop-append-le}
use Rattle.std.proofs.lemmas.Bool.{ltb-false, eqb-false, le-leb, cond-true}
use Rattle.records.specs.declared.fault.RecordFault.{RecordFault}
use Rattle.records.specs.declared.frames.Frame.{Frame}
use Rattle.book.specs.Told.{tell, keep, verdict}
use Rattle.book.specs.Reads.{laid, within, held_after, end_checks}
use Rattle.runs.specs.declared.asked.Read.{Read}
use Rattle.runs.specs.Steps.{World, read_checks, read_answer, read_gives}
use Rattle.runs.proofs.Given.{count_given}
use Rattle.requests.specs.declared.faults.TelegramFault.{TelegramFault}
use Rattle.requests.specs.declared.faults.TelegramFault.TheVariants.{Length, NoBuffer, Seal, Form, NoMethod, OtherKind, Book}
use Rattle.replies.specs.Layout.{status_reply, written_length, written_over}
use Rattle.requests.specs.Faults.{fault_number}
use Rattle.requests.specs.declared.naming.Request.{Request}
use Rattle.requests.specs.Parsing.{after, seal_checked, ranged, named_at, fields_of, request_of}
use Rattle.exchange.specs.declared.orders.Order.{Order}
use Rattle.exchange.specs.declared.orders.Order.TheVariants.{Enter, Listen, Show, Ask}
use Rattle.exchange.specs.declared.orders.Said.{Said}
use Rattle.exchange.specs.Orders.{ordered, asked_of, order_checks, order_says, order_gives}
use Rattle.exchange.specs.Answering.{sent_told, sent_gives, sent_row, Answered, said_told, frames_in, Within, said_gives, SaidWithin, refusal_reply, reply_to, sent_reply, outcome_of, outcome_told, replied, Outcome, Roomy}
use Rattle.exchange.proofs.Keys.{accepted_so, refused_so, open_first}
use Rattle.exchange.proofs.Lengths.{read_length}

module _ {R : Type 0} (reads : List ℕ → Result R RecordFault) (w : World) (old row : List (Frame R)) where
  -- what is known of an answer r to a telegram that asks this
  pub record Settled (asked : Result (Order R) TelegramFault) (r : Result Said TelegramFault) : Type 0 where
    pub within : SaidWithin r (length row)
    pub told : said_told r ≡ sent_told reads asked w (length old)
    pub gives : said_gives r row ≡ sent_gives reads asked w (length old)
    pub outcome : Answered (outcome_of r) asked (outcome_told (sent_told reads asked w (length old)))

  abbrev n : ℕ
  n = length old

  -- the frames of an accepted order are in the row
  laid_within : (order : Order R) → row ≡ laid (order_gives reads order w n) old
      → (frames_in (order_says reads order w n) row ≡ order_gives reads order w n) × Within (order_says reads order w n) (length row)
  laid_within (Enter time r) is = (refl, tt)
  laid_within (Listen party mark level) is = (refl, tt)
  laid_within (Show call) is = (refl, tt)
  laid_within (Ask read) is =
      let gives = read_gives reads read w.state w.row n in
      let count = count_given reads w.state w.row n read in (
        ap (take (read_answer reads read w.state w.row n).count) is ∙ take_at gives _ _ (sym count),
        omega (arith, count, ap length is, length-append gives (drop (length gives) old)),
      )

  pub settled : (asked : Result (Order R) TelegramFault) (r : Result Said TelegramFault) → Answered r asked (sent_told reads asked w n)
      → row ≡ sent_row reads asked w n old → Settled asked r
  settled (Err fault) r a is = subst (Settled (Err fault)) (sym a) (record { within = tt; told = refl; gives = refl; outcome = refl })
  settled (Ok order) (Ok said) a is =
      let gives = order_gives reads order w n in
      let so = accepted_so (verdict (order_checks order w n)) said (order_says reads order w n) a in
      let in_row = laid_within order (is ∙ ap (λ v. keep v (laid gives old) old) so.0) in
      record {
        within = subst (λ s. Within s (length row)) (sym so.1) in_row.1;
        told = a;
        gives = ap (λ s. frames_in s row) so.1 ∙ in_row.0 ∙ ap (λ v. keep v gives []) (sym so.0);
        outcome = ap outcome_told a;
      }
  settled (Ok order) (Err (Book fault)) a is =
      let so = refused_so (verdict (order_checks order w n)) _ (order_says reads order w n) a in
      record { within = tt; told = a; gives = ap (λ v. keep v (order_gives reads order w n) []) (sym so); outcome = ap outcome_told a }
  settled (Ok order) (Err Length) a is = absurd a
  settled (Ok order) (Err NoBuffer) a is = absurd a
  settled (Ok order) (Err Seal) a is = absurd a
  settled (Ok order) (Err (Form at)) a is = absurd a
  settled (Ok order) (Err NoMethod) a is = absurd a
  settled (Ok order) (Err OtherKind) a is = absurd a

-- a telegram is looked into only where there is room, else its refusal has no reply
heard : (telegram : List ℕ) (room : ℕ) → (82 ≤ room) ⊎ ((fault : TelegramFault) × (request_of telegram room ≡ Err fault) × (refusal_reply (fault_number fault) ≡ []))
heard telegram room = go (ltb (length telegram) 2 || ltb 4096 (length telegram)) (ltb room 82) refl refl
  where
    checked : Bool → Bool → Result Request TelegramFault
    checked long short = after (after (cond long (Err Length) (Ok tt)) (cond short (Err NoBuffer) (seal_checked telegram))) (ranged (named_at (fields_of telegram, 0)))

    go : (long short : Bool) → (ltb (length telegram) 2 || ltb 4096 (length telegram)) ≡ long → ltb room 82 ≡ short
        → (82 ≤ room) ⊎ ((fault : TelegramFault) × (request_of telegram room ≡ Err fault) × (refusal_reply (fault_number fault) ≡ []))
    go true short e e' = inr (Length, ap (λ b. checked b (ltb room 82)) e, refl)
    go false true e e' = inr (NoBuffer, ap (λ b. checked b (ltb room 82)) e ∙ ap (checked false) e', refl)
    go false false e e' = inl (ltb-false room 82 e')

refusal_short : (number : ℕ) → length (refusal_reply number) ≤ 7
refusal_short number = go (leb 10 number && leb number 12)
  where
    go : (b : Bool) → length (cond b [] (status_reply number)) ≤ 7
    go true = omega arith
    go false = omega arith

module _ {R : Type 0} (reads : List ℕ → Result R RecordFault) (w : World) (n : ℕ) where
  one_few : (xs : List (Frame R)) → verdict (end_checks n) ≡ None → length (take 1 xs) ≤ n
  one_few xs e = let some = eqb-false n 0 (open_first (eqb n 0) 10 None e) in omega (arith, length-take 1 xs, some)

  gives_few : (read : Read) → verdict (read_checks read w.state w.row n) ≡ None → length (read_gives reads read w.state w.row n) ≤ n
  gives_few (Read.Since mark limit) e = omega (arith, length-take (min limit n) (held_after reads w.state w.row mark.1))
  gives_few Read.Oldest e = one_few _ e
  gives_few Read.Youngest e = one_few _ e
  gives_few (Read.Span first last limit) e = omega (arith, length-take (min limit n) (within first last (held_after reads w.state w.row 0)))

  orders_few : (order : Order R) → verdict (order_checks order w n) ≡ None → length (order_gives reads order w n) ≤ n
  orders_few (Enter time r) e = omega arith
  orders_few (Listen party mark level) e = omega arith
  orders_few (Show call) e = omega arith
  orders_few (Ask read) e = gives_few read e

  -- frames laid into the front of a row are laid into the row
  pub row_whole : (asked : Result (Order R) TelegramFault) (row : List (Frame R)) → n ≤ length row
      → sent_row reads asked w n (take n row) ++ drop n row ≡ sent_row reads asked w n row
  row_whole (Err fault) row h = take-append-drop n row
  row_whole (Ok order) row h = go (verdict (order_checks order w n)) refl
    where
      gives : List (Frame R)
      gives = order_gives reads order w n

      go : (v : Option ℕ) → verdict (order_checks order w n) ≡ v → keep v (laid gives (take n row)) (take n row) ++ drop n row ≡ keep v (laid gives row) row
      go (Some number) e = take-append-drop n row
      go None e =
          append_assoc gives (drop (length gives) (take n row)) (drop n row)
          ∙ ap (λ rest. gives ++ rest) (sym (drop-append-le (length gives) (take n row) (drop n row) (omega (arith, orders_few order e, length-take n row))) ∙ ap (drop (length gives)) (take-append-drop n row))

  module _ (kind : ℕ) (writes : R → List ℕ) (bytes : ℕ) (least : 82 ≤ bytes) (takes : 54 + 28 * n ≤ bytes) where
    order_fits : (order : Order R) (v : Option ℕ) → verdict (order_checks order w n) ≡ v
        → length (reply_to kind writes (tell v (order_says reads order w n)) (keep v (order_gives reads order w n) [])) ≤ bytes
    order_fits order (Some number) e = omega (arith, refusal_short number)
    order_fits (Enter time r) None e = omega arith
    order_fits (Listen party mark level) None e = omega arith
    order_fits (Show call) None e = omega arith
    order_fits (Ask read) None e =
        omega (arith, gives_few read e, read_length kind writes (read_answer reads read w.state w.row n) (read_gives reads read w.state w.row n))

    asked_fits : (asked : Result (Order R) TelegramFault) → length (sent_reply reads kind writes asked w n) ≤ bytes
    asked_fits (Ok order) = order_fits order _ refl
    asked_fits (Err fault) = omega (arith, refusal_short (fault_number fault))

  -- the buffer takes the reply
  pub reply_fits : (kind : ℕ) (writes : R → List ℕ) (telegram : List ℕ) (room bytes : ℕ) → Roomy room n bytes
      → length (sent_reply reads kind writes (asked_of reads telegram room) w n) ≤ bytes
  reply_fits kind writes telegram room bytes roomy = elim (heard telegram room) [
    | inl much ↦ asked_fits kind writes bytes (roomy much).0 (roomy much).1 (asked_of reads telegram room)
    | inr none ↦
        let gone = ap (λ q. length (sent_reply reads kind writes (ordered reads q) w n)) none.1 ∙ ap length none.2 in
        omega (arith, gone)
  ]

-- a reply that fits is written whole
pub whole : (reply same out : List ℕ) → reply ≡ same → length same ≤ length out
    → (written_length (length reply) out ≡ Some (length same)) × (written_over (length reply) reply out ≡ replied same out)
whole reply same out is fits =
    let room = le-leb (length same) (length out) fits in (
      ap (λ x. written_length (length x) out) is ∙ cond-true _ _ _ room,
      ap (λ x. written_over (length x) x out) is ∙ cond-true _ _ _ room,
    )

pub some_is : (a b : ℕ) → ◌≡◌ {A = Option ℕ} (Some a) (Some b) → a ≡ b
some_is a b e = cc

-- a telegram that is not the channel test
pub some_bytes : {R : Type 0} (reads : List ℕ → Result R RecordFault) (telegram : List ℕ) (r : Result (Unit {0}) TelegramFault) (asked : Result (Order R) TelegramFault) (w : World) (n : ℕ)
    → (telegram ≡ [] → ⊥) → Answered r asked (outcome_told (sent_told reads asked w n)) → Outcome reads r telegram asked w n
some_bytes reads [] r asked w n some a = absurd (some refl)
some_bytes reads (byte ∷ bytes) r asked w n some a = a
