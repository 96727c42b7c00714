-- The frames of a book that calls and telegrams have led to are as the words of their records read.
use Rattle.std.proofs.Common.{◌≡◌, ℕ, zero, suc, ◌+◌, ◌-◌, ◌<◌, ◌≤◌, min, max, Bool, true, false, cond, ◌&&◌, leb, List, [], ◌∷◌, ◌++◌, length, take, Some, None, Ok, Err, Option, Result, sym, refl, ap, ◌∙◌, subst, ap₂, arith, take_at}
use Rattle.std.specs.List.{AllByRecursion}
use Rattle.std.proofs.ByRecursion.{All-take}
use Rattle.trays.specs.declared.slots.Slot.{Slot}
use Rattle.records.specs.declared.frames.Frame.{Frame}
use Rattle.book.specs.State.{new_list}
use Rattle.book.specs.Told.{Told, Told.accepted, Told.refused as was_refused, keep, verdict}
use Rattle.book.specs.Reads.{frame_in, frame_of, frame_at, frames, within, held_after}
use Rattle.runs.specs.declared.asked.Read.{Read}
use Rattle.runs.specs.Answers.{Answer.gave}
use Rattle.runs.specs.Steps.{World, world, step_answer}
use Rattle.requests.specs.declared.faults.TelegramFault.{TelegramFault}
use Rattle.reading_end.specs.Laws.{AllAgain}
use Rattle.reading_end.specs.Replies.{reply_of}
use Rattle.exchange.specs.declared.orders.Order.{Order}
use Rattle.exchange.specs.declared.orders.Said.{Said}
use Rattle.exchange.specs.declared.orders.Said.TheVariants.{Done, Entered, Gave}
use Rattle.exchange.specs.Orders.{frame_room, order_checks, order_gives}
use Rattle.exchange.specs.Answering.{sent_told, sent_gives, sent_reply, replied as laid_over}
use Rattle.reading_end.specs.declared.reply.Reply.{Reply}
use Rattle.exchange.specs.Back.{TakenAs, ReadBack}
use Rattle.runs.specs.Histories.{History}
use Rattle.runs.specs.Kinds.{Same, Keeps}
use Rattle.mixed.specs.Kinds.{Numbered, Alike}
use Rattle.mixed.specs.Uses.{Use, Use.sent, asks, use_seen, use_after, all_seen, happened, Seen.replied, seen_reply, taken_answer, as_said, sent_answer, Settled}
use Rattle.mixed.specs.Throughout.{left_by, Goes_on}
use Rattle.runs.specs.Law.{Law}
use Rattle.runs.proofs.Stores.{Store, framed}
use Rattle.runs.proofs.Tied.{Inv}
use Rattle.runs.proofs.Leaves.{Ran.fresh, tied}
use Rattle.runs.proofs.Sinces.{reads_back, frames_one, frames_none}
use Rattle.mixed.proofs.Led.{ran_on, law_of}
use Rattle.mixed.proofs.Onward.{after_one, seen_one}

module _ {R V : Type 0} (K : Numbered R V) where
  -- a frame whose record is as its words read
  abbrev Still : Frame R → Type 0
  Still f = K.kind.reads (K.kind.writes f.body) ≡ Ok f.body

  still_one : (b : Bool) (f : Frame R) (fs : List (Frame R)) → Still f → AllByRecursion Still fs → AllByRecursion Still (cond b (f ∷ fs) fs)
  still_one true f fs x rest = (x, rest)
  still_one false f fs x rest = rest

  still_within : (first last : ℕ) (fs : List (Frame R)) → AllByRecursion Still fs → AllByRecursion Still (within first last fs)
  unfolding within
  still_within first last [] x = tt
  still_within first last (f ∷ fs) x = still_one (leb first f.time && leb f.time last) f (within first last fs) x.0 (still_within first last fs x.1)

  module _ (keeps : Keeps K.kind) (alike : Alike K.kind) {slots : ℕ} {s : Store} {h : History R} (i : Inv K.kind slots s h) where
    still_at : (p : ℕ) → s.left < p → p ≤ s.last → (f : Frame R) × (frame_at K.kind.reads s.row p ≡ Ok f) × Still f
    still_at p l l' =
        let x = i.every p (omega arith) l' in
        let e = i.stored p x.0 x.1 x.2 l in
        let b = reads_back keeps i x.1 _ refl (keeps x.1) in (
          record { time = x.0; position = p; body = b.0 },
          ap (frame_in K.kind.reads) e ∙ ap (frame_of (framed x.0 p (K.kind.writes x.1))) b.1,
          ap K.kind.reads (sym (alike x.1 b.0 b.2)) ∙ b.1,
        )

    pub still_frames : (n p : ℕ) → s.left ≤ p → n ≤ s.last - p → AllByRecursion Still (frames (frame_at K.kind.reads s.row) n (p + 1))
    still_frames zero p l l' = subst (AllByRecursion Still) (sym (frames_none _ (p + 1))) tt
    still_frames (suc n) p l l' =
        let x = still_at (p + 1) (omega arith) (omega arith) in
        subst (AllByRecursion Still) (sym (frames_one _ n (p + 1) x.0 x.1)) (x.2, still_frames n (p + 1) (omega arith) (omega arith))

module _ {R V : Type 0} (K : Numbered R V) (keeps : Keeps K.kind) (alike : Alike K.kind) (number : ℕ) (row : List Slot) (uses : List (Use R)) where
  still_held : (position : ℕ) → AllByRecursion (Still K) (held_after K.kind.reads (left_by K number row uses).state (left_by K number row uses).row position)
  still_held position =
      still_frames K keeps alike (tied (ran_on K row number (world number new_list row) [] fresh uses)) ((left_by K number row uses).state.last - max (left_by K number row uses).state.gone position)
      (max (left_by K number row uses).state.gone position) (omega arith) (omega arith)

  pub settled : Settled K (left_by K number row uses)
  settled (Read.Since mark limit) room = All-take (Still K) (min limit room) _ (still_held mark.1)
  settled Read.Oldest room = All-take (Still K) 1 _ (still_held 0)
  settled Read.Youngest room = All-take (Still K) 1 _ (still_held ((left_by K number row uses).state.last - 1))
  settled (Read.Span first last limit) room = All-take (Still K) (min limit room) _ (still_within K first last _ (still_held 0))

same_ok : {X E : Type 0} (x y : X) → ◌≡◌ {A = Result X E} (Ok x) (Ok y) → x ≡ y
same_ok x y e = cc

module _ {R V : Type 0} (K : Numbered R V) where
  again_same : (fs again : List (Frame R)) → AllByRecursion (Still K) fs → AllAgain K.kind.reads K.kind.writes fs again → again ≡ fs
  again_same [] [] still all = refl
  again_same [] (g ∷ gs) still all = absurd all
  again_same (f ∷ fs) [] still all = absurd all
  again_same (f ∷ fs) (g ∷ gs) still all =
      let one = all.0 in
      let body : g.body ≡ f.body = same_ok g.body f.body (sym one.body ∙ still.0) in
      ap₂ (λ (x : Frame R) (xs : List (Frame R)). x ∷ xs) (λ j. record { time = one.time j; position = one.position j; body = body j }) (again_same fs gs still.1 all.1)

  -- the reading end takes from a reply the answer itself
  taken_so : (told : Told Said) (frames : List (Frame R)) (taken : Result (Reply × List (Frame R)) TelegramFault) → AllByRecursion (Still K) frames
      → TakenAs K.kind.reads K.kind.writes K.kind.means told frames taken → taken_answer taken ≡ as_said told frames
  taken_so (accepted Done) frames taken still e = ap taken_answer e
  taken_so (accepted (Entered answer)) frames taken still e = ap taken_answer e
  taken_so (accepted (Gave reading)) frames taken still e = ap taken_answer e.1 ∙ ap (gave reading) (again_same frames e.0 still e.2)
  taken_so (was_refused number) frames taken still e = ap taken_answer e.1

  sent_still : (w : World) (room : ℕ) (asked : Result (Order R) TelegramFault) → Settled K w → AllByRecursion (Still K) (sent_gives K.kind.reads asked w room)
  sent_still w room (Err fault) settled = tt
  sent_still w room (Ok order) settled = go order (verdict (order_checks order w room))
    where
      go : (order : Order R) (v : Option ℕ) → AllByRecursion (Still K) (keep v (order_gives K.kind.reads order w room) [])
      go order (Some number) = tt
      go (Order.Enter time r) None = tt
      go (Order.Listen party mark level) None = tt
      go (Order.Show call) None = tt
      go (Order.Ask read) None = settled read room

  -- what is seen of a telegram is what the rules say, where its reply is read back
  pub seen_so : (w : World) (asked : Result (Order R) TelegramFault) (room : ℕ) (reply : List ℕ) → Settled K w
      → ReadBack K.kind.reads K.kind.writes K.kind.means K.number reply (sent_told K.kind.reads asked w room) (sent_gives K.kind.reads asked w room)
      → seen_reply reply (taken_answer (reply_of K.number K.kind.reads reply 144)) ≡ seen_reply reply (sent_answer K asked room w)
  seen_so w asked room [] settled back = refl
  seen_so w asked room (byte ∷ bytes) settled back =
      ap (replied (byte ∷ bytes)) (taken_so (sent_told K.kind.reads asked w room) (sent_gives K.kind.reads asked w room) _ (sent_still w room asked settled) (back 144 (omega arith)))

  -- the same of the bytes that were written
  pub sent_seen : (w : World) (bytes : List ℕ) (frames buffer : ℕ) (got out before : List ℕ) (k : ℕ) → Settled K w
      → got ≡ take k out → k ≡ length (sent_reply K.kind.reads K.number K.kind.writes (asks K bytes frames buffer) w (frame_room frames buffer))
      → out ≡ laid_over (sent_reply K.kind.reads K.number K.kind.writes (asks K bytes frames buffer) w (frame_room frames buffer)) before
      → ReadBack K.kind.reads K.kind.writes K.kind.means K.number (take k out) (sent_told K.kind.reads (asks K bytes frames buffer) w (frame_room frames buffer)) (sent_gives K.kind.reads (asks K bytes frames buffer) w (frame_room frames buffer))
      → seen_reply got (taken_answer (reply_of K.number K.kind.reads got 144)) ≡ use_seen K (sent bytes frames buffer) w
  sent_seen w bytes frames buffer got out before k settled is long laid back =
      let asked = asks K bytes frames buffer in
      let room : ℕ = frame_room frames buffer in
      let reply = sent_reply K.kind.reads K.number K.kind.writes asked w room in
      let whole : take k out ≡ reply = ap (take k) laid ∙ take_at reply _ k (sym long) in
      ap (λ bs. seen_reply bs (taken_answer (reply_of K.number K.kind.reads bs 144))) (is ∙ whole)
      ∙ seen_so w asked room reply settled (subst (λ bs. ReadBack K.kind.reads K.kind.writes K.kind.means K.number bs (sent_told K.kind.reads asked w room) (sent_gives K.kind.reads asked w room)) whole back)

-- one telegram more, after any list of uses
pub goes_on : {R V : Type 0} (K : Numbered R V) → Keeps K.kind → Alike K.kind → (w w' : World) (bytes : List ℕ) (frames buffer : ℕ) (out before : List ℕ) (k : ℕ)
    → w' ≡ use_after K (sent bytes frames buffer) w → k ≡ length (sent_reply K.kind.reads K.number K.kind.writes (asks K bytes frames buffer) w (frame_room frames buffer))
    → out ≡ laid_over (sent_reply K.kind.reads K.number K.kind.writes (asks K bytes frames buffer) w (frame_room frames buffer)) before
    → ReadBack K.kind.reads K.kind.writes K.kind.means K.number (take k out) (sent_told K.kind.reads (asks K bytes frames buffer) w (frame_room frames buffer)) (sent_gives K.kind.reads (asks K bytes frames buffer) w (frame_room frames buffer))
    → Goes_on K w w' bytes frames buffer (take k out)
goes_on {R} K keeps alike w w' bytes frames buffer out before k leaves long laid back number row uses led =
    let telegram : Use R = sent bytes frames buffer in
    let still : Settled K w = subst (Settled K) (sym led) (settled K keeps alike number row uses) in
    let seen = sent_seen K w bytes frames buffer (take k out) out before k still refl long laid back ∙ ap (use_seen K telegram) led in
    let all = ap (λ s. all_seen K (world number new_list row) uses ++ s ∷ []) seen ∙ sym (seen_one K (world number new_list row) uses telegram) in
    let ends : left_by K number row (uses ++ telegram ∷ []) ≡ w' = after_one K (world number new_list row) uses telegram ∙ ap (use_after K telegram) (sym led) ∙ sym leaves in
    subst (λ v. Law (Same K.kind) (length row) (happened K number (uses ++ telegram ∷ []) (all_seen K (world number new_list row) uses ++ seen_reply (take k out) (taken_answer (reply_of K.number K.kind.reads (take k out) 144)) ∷ []) []) (λ call. step_answer K.kind.reads call v)) ends
    (law_of K row keeps number (uses ++ telegram ∷ []) _ all)
