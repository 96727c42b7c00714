-- What a telegram does to the list, as one of the ways of calls, and what is seen of it.
use Rattle.std.proofs.Common.{◌≡◌, ℕ, ◌≤◌, Bool, true, false, cond, ◌⊎◌, List, [], ◌∷◌, Some, None, Ok, Err, Option, Result, refl, subst, inl, inr, arith}
use Rattle.std.proofs.lemmas.Bool.{ltb-false}
use Rattle.book.specs.Told.{Told.accepted, tell, keep, verdict}
use Rattle.runs.specs.declared.asked.Call.{Call}
use Rattle.runs.specs.declared.asked.Call.TheVariants.{Enter}
use Rattle.runs.specs.declared.asked.Read.TheVariants as Read
use Rattle.runs.specs.declared.asked.Keyed.TheVariants as Keyed
use Rattle.runs.specs.Answers.{Answer, Answer.refused, Answer.done, Answer.entered}
use Rattle.runs.specs.Steps.{World, world, step_answer}
use Rattle.requests.specs.declared.faults.TelegramFault.{TelegramFault}
use Rattle.requests.specs.Faults.{fault_number}
use Rattle.replies.specs.Layout.{status_reply}
use Rattle.exchange.specs.declared.orders.Order.{Order}
use Rattle.exchange.specs.Orders.{frame_room, own_key_checks, order_checks, order_says, order_gives, order_state, order_slots}
use Rattle.exchange.specs.Answering.{reply_to, sent_reply}
use Rattle.runs.specs.Histories.{Event.◌⟶◌, History}
use Rattle.mixed.specs.Kinds.{Numbered}
use Rattle.mixed.specs.Uses.{Use, Use.own, Use.sent, seen_reply, as_said, call_of, asks, sent_answer, use_seen, sent_after, use_after, counts_as, counted}
use Rattle.runs.proofs.Stores.{store_of}
use Rattle.runs.proofs.Deeds.{Did, did, clear, enters, listens, sinces}
use Rattle.runs.proofs.Deeds.{Quiet.refusal, Quiet.stopped_list, Quiet.modal, Quiet.oldest_given, Quiet.youngest_given, Quiet.span_given}
use Rattle.runs.proofs.Deeds.{Did.started_list, Did.released_to, Did.quiet}
use Rattle.runs.proofs.Orders.{by_verdict as entry_time, never_back}

-- what a call of a run has done: one of the ways, and an accepted entry's time is not below the last
abbrev pub Way : {R V : Type 0} → Numbered R V → World → Call R → Answer R → World → Type 0
Way {R} K w c a w' =
    Did K.kind (store_of w) w.state.listeners c a (store_of w') w'.state.listeners
    × ((t : ℕ) (r : R) (p : ℕ) (cs : List Bool) → c ≡ Enter t r → a ≡ entered p cs → w.state.last_time ≤ t)

-- a use counts as a call that was carried out, or as nothing, and then leaves the list
abbrev pub Turned : {R V : Type 0} → Numbered R V → World → World → History R → Type 0
Turned {R} K w w' h =
    ((c : Call R) × (a : Answer R) × (h ≡ (c ⟶ a) ∷ []) × Way K w c a w')
    ⊎ ((h ≡ []) × (store_of w' ≡ store_of w) × (w'.state.listeners ≡ w.state.listeners))

module _ {R V : Type 0} (K : Numbered R V) (w : World) (number room : ℕ) where
  no_entry_done : (c : Call R) (t : ℕ) (r : R) (p : ℕ) (cs : List Bool) → c ≡ Enter t r → ◌≡◌ {A = Answer R} done (entered p cs) → w.state.last_time ≤ t
  no_entry_done c t r p cs e f = absurd (let z : ◌≡◌ {A = ℕ} 0 1 = cc in omega arith)

  no_entry_refused : (c : Call R) (n t : ℕ) (r : R) (p : ℕ) (cs : List Bool) → c ≡ Enter t r → ◌≡◌ {A = Answer R} (refused n) (entered p cs) → w.state.last_time ≤ t
  no_entry_refused c n t r p cs e f = absurd (let z : ◌≡◌ {A = ℕ} 0 1 = cc in omega arith)

  abbrev accepted_answer : Order R → Answer R
  accepted_answer order = as_said (accepted (order_says K.kind.reads order w room)) (order_gives K.kind.reads order w room)

  abbrev accepted_world : Order R → World
  accepted_world order = world w.number (order_state order w) (order_slots K.kind.writes order w)

  accepted_way : (order : Order R) → verdict (order_checks order w room) ≡ None → Way K w (call_of number room order) (accepted_answer order) (accepted_world order)
  accepted_way (Order.Enter time r) e = (enters K.kind w time r None e, λ t r' p cs same f. let now : time ≡ t = cc in omega (arith, entry_time w time p cs None e f, now))
  accepted_way (Order.Listen party mark level) e = (listens K.kind w party mark level None e, no_entry_done _)
  accepted_way (Order.Show Keyed.Start) e = (started_list, no_entry_done _)
  accepted_way (Order.Show Keyed.Stop) e = (quiet stopped_list, no_entry_done _)
  accepted_way (Order.Show (Keyed.SetMode mode)) e = (quiet modal, no_entry_done _)
  accepted_way (Order.Show (Keyed.Release position)) e =
      (released_to (ltb-false _ _ (clear (own_key_checks (Keyed.Release position) w.state w.number) e).1.1.0), no_entry_done _)
  accepted_way (Order.Ask (Read.Since mark limit)) e = (sinces K.kind w mark limit room None e, λ t r p cs same f. absurd (let z : ◌≡◌ {A = ℕ} 0 1 = cc in omega arith))
  accepted_way (Order.Ask Read.Oldest) e = (quiet oldest_given, λ t r p cs same f. absurd (let z : ◌≡◌ {A = ℕ} 0 1 = cc in omega arith))
  accepted_way (Order.Ask Read.Youngest) e = (quiet youngest_given, λ t r p cs same f. absurd (let z : ◌≡◌ {A = ℕ} 0 1 = cc in omega arith))
  accepted_way (Order.Ask (Read.Span first last limit)) e = (quiet span_given, λ t r p cs same f. absurd (let z : ◌≡◌ {A = ℕ} 0 1 = cc in omega arith))

  refused_way : (c : Call R) (n : ℕ) → Way K w c (refused n) w
  refused_way c n = (quiet refusal, no_entry_refused c n)

  -- what a reply counts as
  abbrev replied_as : Result (Order R) TelegramFault → List ℕ → Answer R → History R
  replied_as asked [] answer = []
  replied_as asked (byte ∷ bytes) answer = counts_as K number room asked answer

  refused_turn : (order : Order R) (n : ℕ) (b : Bool) → Turned K w w (replied_as (Ok order) (cond b [] (status_reply n)) (refused n))
  refused_turn order n true = inr (refl, refl, refl)
  refused_turn order n false = inl (call_of number room order, refused n, refl, refused_way _ n)

  order_turn : (order : Order R) (v : Option ℕ) → verdict (order_checks order w room) ≡ v
      → Turned K w (world w.number (keep v (order_state order w) w.state) (keep v (order_slots K.kind.writes order w) w.row))
      (replied_as (Ok order) (reply_to K.number K.kind.writes (tell v (order_says K.kind.reads order w room)) (keep v (order_gives K.kind.reads order w room) []))
      (as_said (tell v (order_says K.kind.reads order w room)) (keep v (order_gives K.kind.reads order w room) [])))
  order_turn order (Some n) e = refused_turn order n _
  order_turn (Order.Enter time r) None e = inl (_, _, refl, accepted_way (Order.Enter time r) e)
  order_turn (Order.Listen party mark level) None e = inl (_, _, refl, accepted_way (Order.Listen party mark level) e)
  order_turn (Order.Show call) None e = inl (_, _, refl, accepted_way (Order.Show call) e)
  order_turn (Order.Ask read) None e = inl (_, _, refl, accepted_way (Order.Ask read) e)

  nothing_turn : (fault : TelegramFault) (b : Bool) (n : ℕ) (answer : Answer R) → Turned K w w (replied_as (Err fault) (cond b [] (status_reply n)) answer)
  nothing_turn fault true n answer = inr (refl, refl, refl)
  nothing_turn fault false n answer = inr (refl, refl, refl)

  sent_turn : (asked : Result (Order R) TelegramFault) → Turned K w (sent_after K asked room w) (replied_as asked (sent_reply K.kind.reads K.number K.kind.writes asked w room) (sent_answer K asked room w))
  sent_turn (Ok order) = order_turn order _ refl
  sent_turn (Err fault) = nothing_turn fault _ (fault_number fault) _

counted_is : {R V : Type 0} (K : Numbered R V) (w : World) (number : ℕ) (bytes : List ℕ) (frames buffer : ℕ) (reply : List ℕ) (answer : Answer R)
    → replied_as K w number (frame_room frames buffer) (asks K bytes frames buffer) reply answer ≡ counted K number (sent bytes frames buffer) (seen_reply reply answer)
counted_is K w number bytes frames buffer [] answer = refl
counted_is K w number bytes frames buffer (byte ∷ rest) answer = refl

-- what a use counts as, and what it does
pub use_turn : {R V : Type 0} (K : Numbered R V) (number : ℕ) (x : Use R) (w : World) → Turned K w (use_after K x w) (counted K number x (use_seen K x w))
use_turn K number (own call) w = inl (call, step_answer K.kind.reads call w, refl, (did K.kind w call, never_back w K.kind.reads call))
use_turn {R} K number (sent bytes frames buffer) w =
    subst (Turned K w (use_after K (sent bytes frames buffer) w)) (counted_is K w number bytes frames buffer _ _) (sent_turn K w number (frame_room frames buffer) (asks K bytes frames buffer))
