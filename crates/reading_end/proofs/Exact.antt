-- Bytes are taken as a reply exactly where they are one of the three layouts.
use Rattle.std.proofs.Common.{◌≡◌, ℕ, zero, suc, ◌+◌, ◌-◌, ◌*◌, ◌/◌, ◌%◌, ◌<◌, ◌≤◌, Bool, true, false, cond, ◌||◌, eqb, ltb, leb, ◌⊎◌, List, [], ◌∷◌, ◌++◌, length, Ok, Err, Result, sym, refl, ap, ◌∙◌, subst, inl, inr, append_assoc, append-nil, mod-eq_of_lt, arith}
use native.Mathlib.Nat.{div-div-eq-div-mul, mod-add-div}
use Rattle.std.specs.List.{flat_map, AllByRecursion}
use Rattle.std.proofs.ByRecursion.{All-take}
use Rattle.std.proofs.lemmas.List.{length-append}
use Rattle.std.proofs.lemmas.Bool.{eqb-true, leb-true, ltb-false, or_parts}
use Rattle.records.specs.declared.fault.RecordFault.{RecordFault}
use Rattle.records.specs.declared.frames.Frame.{Frame}
use Rattle.book.specs.declared.answers.Entered.{Entered as Entry}
use Rattle.book.specs.declared.answers.Reading.{Reading}
use Rattle.book.specs.declared.answers.Status.{Status}
use Rattle.book.specs.declared.answers.Status.TheVariants.{Follow, NoFollow, NoFrame}
use Rattle.book.specs.Told.{status_number}
use Rattle.fields.specs.declared.parts.Misfit.{Misfit}
use Rattle.fields.specs.declared.value.RawFrame.{RawFrame}
use Rattle.fields.specs.Reading.{Rest, byte_at, half_at, word_at, frame_at, end_at, skipped}
use Rattle.seals.specs.Fletcher.{is_sealed}
use Rattle.requests.specs.declared.faults.TelegramFault.{TelegramFault}
use Rattle.requests.specs.declared.faults.TelegramFault.TheVariants.{Length, Seal, NoBuffer, OtherKind}
use Rattle.requests.specs.Parsing.{after, fields_of}
use Rattle.replies.specs.Layout.{byte_field, half_field, word_field, head_bytes, frame_bytes, bit, called_number, entered_fields}
use Rattle.replies.specs.Fits.{ReadingFits, FrameFits, EnteredFits}
use Rattle.reading_end.specs.declared.reply.Reply.{Reply}
use Rattle.reading_end.specs.declared.reply.Reply.TheVariants.{Done, Refused, Entered, Read}
use Rattle.reading_end.specs.Layouts.{then, next, if_ok, frames_at, frames_fault, is_refusal_number, count_fits, called_of, by_status, entered_at, reading_at, reply_at, formed}
use Rattle.reading_end.specs.Frames.{framed, record_of, frame_step, frame_then, next_frame_of, consed, records_at, fits_row}
use Rattle.reading_end.specs.Replies.{frames_of, with_frames, brought, told_at, reply_of}
use Rattle.reading_end.specs.Laws.{Again, AllAgain, Bytes, Unread, unread, Laid, Taken, LayoutsExact}
use Rattle.replies.proofs.Writing.{frames_length}
use Rattle.reading_end.proofs.Storing.{more}
use Rattle.reading_end.proofs.Whole.{reply_told, done_told, refused_told, entered_told, read_told, after_head}
use Rattle.reading_end.proofs.Taking.{met, byte_took, half_took, word_took, as_unread, frame_took}

-- an answer comes only where each step before it went well
next_took : {X : Type 0} (o : Result (X × Rest) ℕ) (k : X → Rest → Result Reply Misfit) (x : Reply) → next o k ≡ Ok x → (p : X × Rest) × (o ≡ Ok p) × (k p.0 p.1 ≡ Ok x)
next_took (Ok p) k x e = (p, refl, e)
next_took (Err at) k x e = absurd (let z : ◌≡◌ {A = ℕ} 0 1 = cc in omega arith)

then_took : {X Y : Type 0} (o : Result (X × Rest) ℕ) (k : X → Rest → Result Y ℕ) (y : Y) → then o k ≡ Ok y → (p : X × Rest) × (o ≡ Ok p) × (k p.0 p.1 ≡ Ok y)
then_took (Ok p) k y e = (p, refl, e)
then_took (Err at) k y e = absurd (let z : ◌≡◌ {A = ℕ} 0 1 = cc in omega arith)

none_left : (bs : List ℕ) → length bs ≡ 0 → bs ≡ []
none_left [] e = refl
none_left (b ∷ bs) e = absurd (omega arith)

end_took : (s : Rest) (u : Unit {0}) → end_at s ≡ Ok u → s.0 ≡ []
end_took s u e = none_left s.0 (eqb-true _ _ (met (eqb (length s.0) 0) (Ok tt) (record { at = s.1 }) u e).0)

if_took : (o : Result (Unit {0}) Misfit) (r x : Reply) → if_ok o r ≡ Ok x → (o ≡ Ok tt) × (r ≡ x)
if_took (Ok u) r x e = (refl, cc)
if_took (Err m) r x e = absurd (let z : ◌≡◌ {A = ℕ} 0 1 = cc in omega arith)

cond_took : {X : Type 0} (b : Bool) (x y z : X) → cond b x y ≡ z → ((b ≡ true) × (x ≡ z)) ⊎ ((b ≡ false) × (y ≡ z))
cond_took true x y z e = inl (refl, e)
cond_took false x y z e = inr (refl, e)

-- length and seal, and then what the fields tell
intact_took : {X : Type 0} (b c : Bool) (r : Result X TelegramFault) (p : X) → after (after (cond b (Err Length) (Ok tt)) (cond c (Ok tt) (Err Seal))) r ≡ Ok p → (b ≡ false) × (c ≡ true) × (r ≡ Ok p)
intact_took true c r p e = absurd (let z : ◌≡◌ {A = ℕ} 0 1 = cc in omega arith)
intact_took false true r p e = (refl, refl, e)
intact_took false false r p e = absurd (let z : ◌≡◌ {A = ℕ} 0 1 = cc in omega arith)

with_took : {R : Type 0} (y : Reply) (o : Result (List (Frame R)) TelegramFault) (x : Reply) (fs : List (Frame R)) → with_frames y o ≡ Ok (x, fs) → (y ≡ x) × (o ≡ Ok fs)
with_took {R} y (Ok gs) x fs e =
    let q : (y, gs) ≡ (x, fs) = cc in
    (ap (λ (z : Reply × List (Frame R)). z.0) q, ap (λ (z : Reply × List (Frame R)). Ok z.1) q)
with_took y (Err a) x fs e = absurd (let z : ◌≡◌ {A = ℕ} 0 1 = cc in omega arith)

brought_took : {R : Type 0} (kind : ℕ) (reads : List ℕ → Result R RecordFault) (room : ℕ) (s : Rest) (o : Result Reply Misfit) (x : Reply) (fs : List (Frame R)) → brought kind reads room s (formed o) ≡ Ok (x, fs)
    → (o ≡ Ok x) × (frames_of kind reads room x s ≡ Ok fs)
brought_took kind reads room s (Ok y) x fs e =
    let p = with_took y (frames_of kind reads room y s) x fs e in
    (ap Ok p.0, ap (λ z. frames_of kind reads room z s) (sym p.0) ∙ p.1)
brought_took kind reads room s (Err m) x fs e = absurd (let z : ◌≡◌ {A = ℕ} 0 1 = cc in omega arith)

-- which of the four ways a status leads
data Way (n : ℕ) (s : Rest) (x : Reply) : Type 0 where
  reads_on : (status : Status) → n ≡ status_number status → reading_at status s ≡ Ok x → Way n s x
  enters : n ≡ 0 → entered_at s ≡ Ok x → Way n s x
  ends : n ≡ 0 → s.0 ≡ [] → Done ≡ x → Way n s x
  refuses : is_refusal_number n ≡ true → if_ok (end_at s) (Refused n) ≡ Ok x → Way n s x

way : (n : ℕ) (s : Rest) (at : ℕ) (x : Reply) → by_status n s at ≡ Ok x → Way n s x
way n s at x e = elim (cond_took (eqb n 1) _ _ (Ok x) e) [
  | inl a ↦ reads_on Follow (eqb-true n 1 a.0) a.1
  | inr a ↦ elim (cond_took (eqb n 2) _ _ (Ok x) a.1) [
    | inl b ↦ reads_on NoFollow (eqb-true n 2 b.0) b.1
    | inr b ↦ elim (cond_took (eqb n 3) _ _ (Ok x) b.1) [
      | inl c ↦ reads_on NoFrame (eqb-true n 3 c.0) c.1
      | inr c ↦ elim (cond_took (eqb n 0) _ _ (Ok x) c.1) [
        | inl d ↦ elim (cond_took (eqb (length s.0) 0) _ _ (Ok x) d.1) [
          | inl e ↦ ends (eqb-true n 0 d.0) (none_left s.0 (eqb-true _ _ e.0)) (cc (e.1))
          | inr e ↦ enters (eqb-true n 0 d.0) e.1
        ]
        | inr d ↦ let m = met (is_refusal_number n) (if_ok (end_at s) (Refused n)) (record { at = at }) x d.1 in refuses m.0 m.1
      ]
    ]
  ]
]

-- a number below 16, from its four bits
bit_odd : (m : ℕ) → m < 2 → bit (eqb m 1) ≡ m
bit_odd zero h = refl
bit_odd (suc zero) h = refl
bit_odd (suc (suc m)) h = absurd (omega arith)

four_bits : (n p q r a b c d : ℕ) → a + 2 * p ≡ n → b + 2 * q ≡ p → c + 2 * r ≡ q → d ≡ r → a + 2 * b + 4 * c + 8 * d ≡ n
four_bits n p q r a b c d e f g h = omega arith

called_took : (n : ℕ) → n ≤ 15 → called_number (called_of n) ≡ n
called_took n h =
    let a = bit_odd (n % 2) (omega arith) in
    let b = bit_odd (n / 2 % 2) (omega arith) in
    let c = bit_odd (n / 4 % 2) (omega arith) in
    let d = bit_odd (n / 8 % 2) (omega arith) in
    let halves : n / 4 ≡ n / 2 / 2 = sym (div-div-eq-div-mul n 2 2) in
    let quarters : n / 8 ≡ n / 4 / 2 = sym (div-div-eq-div-mul n 4 2) in
    (λ i. a i + 2 * b i + 4 * c i + 8 * d i)
    ∙ four_bits n (n / 2) (n / 4) (n / 8) (n % 2) (n / 2 % 2) (n / 4 % 2) (n / 8 % 2) (mod-add-div n 2) (omega (arith, mod-add-div (n / 2) 2)) (omega (arith, mod-add-div (n / 4) 2)) (mod-eq_of_lt (let small : n / 8 < 2 = omega arith in small))

record EnteredTook (bs : List ℕ) (x : Reply) : Type 0 where
  entry : Entry
  is : Entered entry ≡ x
  cut : half_field 0x10 0 ++ bs ≡ entered_fields entry
  fits : EnteredFits entry

entered_took : (s : Rest) (x : Reply) → Bytes s.0 → entered_at s ≡ Ok x → EnteredTook s.0 x
entered_took s x h e =
    let p = next_took (word_at 0x14 s) _ x e in
    let wp = word_took 0x14 s.1 p.0.0 s.0 p.0.1 h p.1 in
    let c = next_took (byte_at 0x18 p.0.1) _ x p.2 in
    let wc = byte_took 0x18 p.0.1.1 c.0.0 p.0.1.0 c.0.1 wp.bytes c.1 in
    let m = met (leb c.0.0 15) (if_ok (end_at c.0.1) (Entered (record { position = p.0.0; called = called_of c.0.0 }))) (record { at = p.0.1.1 }) x c.2 in
    let i = if_took (end_at c.0.1) _ x m.1 in
    let done = end_took c.0.1 tt i.0 in
    let number = called_took c.0.0 (leb-true _ _ m.0) in
    record {
      entry = record { position = p.0.0; called = called_of c.0.0 };
      is = i.1;
      cut =
          ap (λ l. half_field 0x10 0 ++ l) wp.cut
          ∙ ap (λ l. half_field 0x10 0 ++ (word_field 0x14 p.0.0 ++ l)) (wc.cut ∙ (λ j. byte_field 0x18 (sym number j) ++ done j));
      fits = record { position = wp.small; parties = refl };
    }

-- as many frames as were counted, and no byte more
frames_count : (n : ℕ) (s : Rest) (fs : List RawFrame) (u : Rest) → Bytes s.0 → frames_at n s ≡ Ok (fs, u) → length s.0 ≡ 28 * n + length u.0
frames_count zero s fs u h e = let q : ◌≡◌ {A = List RawFrame × Rest} ([], s) (fs, u) = cc in omega (arith, ap (λ (z : List RawFrame × Rest). length z.1.0) q)
frames_count (suc n) s fs u h e =
    let p = then_took (frame_at s) _ (fs, u) e in
    let f = frame_took s.1 s.0 p.0.0 p.0.1 h p.1 in
    let q = then_took (frames_at n p.0.1) (λ gs t. Ok (p.0.0 ∷ gs, t)) (fs, u) p.2 in
    let r : ◌≡◌ {A = List RawFrame × Rest} (p.0.0 ∷ q.0.0, q.0.1) (fs, u) = cc in
    let inner = frames_count n p.0.1 q.0.0 q.0.1 f.bytes q.1 in
    omega (arith, ap (λ (z : List RawFrame × Rest). length z.1.0) r, ap length f.cut)

fault_took : (o : Result (List RawFrame × Rest) ℕ) → frames_fault o ≡ Ok tt → (fs : List RawFrame) × (u : Rest) × (o ≡ Ok (fs, u)) × (u.0 ≡ [])
fault_took (Ok p) e = (p.0, p.1, refl, end_took p.1 tt e)
fault_took (Err at) e = absurd (let z : ◌≡◌ {A = ℕ} 0 1 = cc in omega arith)

frames_all : (n : ℕ) (s : Rest) → Bytes s.0 → frames_fault (frames_at n s) ≡ Ok tt → length s.0 ≡ 28 * n
frames_all n s h e =
    let q = fault_took (frames_at n s) e in
    let all = frames_count n s q.0 q.1 h q.2 in
    omega (arith, ap length q.3)

record HeadTook (status : Status) (bs : List ℕ) (x : Reply) : Type 0 where
  reading : Reading
  rest : List ℕ
  is : Read reading ≡ x
  cut : half_field 0x10 (status_number status) ++ bs ≡ head_bytes reading ++ rest
  fits : ReadingFits reading
  lawful : count_fits reading.status reading.count ≡ true
  long : length rest ≡ 28 * reading.count
  bytes : Bytes rest

reading_took : (status : Status) (s : Rest) (x : Reply) → Bytes s.0 → reading_at status s ≡ Ok x → HeadTook status s.0 x
reading_took status s x h e =
    let a = next_took (word_at 0x11 s) _ x e in
    let wa = word_took 0x11 s.1 a.0.0 s.0 a.0.1 h a.1 in
    let b = next_took (word_at 0x12 a.0.1) _ x a.2 in
    let wb = word_took 0x12 a.0.1.1 b.0.0 a.0.1.0 b.0.1 wa.bytes b.1 in
    let c = next_took (word_at 0x13 b.0.1) _ x b.2 in
    let wc = word_took 0x13 b.0.1.1 c.0.0 b.0.1.0 c.0.1 wb.bytes c.1 in
    let d = next_took (word_at 0x14 c.0.1) _ x c.2 in
    let wd = word_took 0x14 c.0.1.1 d.0.0 c.0.1.0 d.0.1 wc.bytes d.1 in
    let f = next_took (word_at 0x15 d.0.1) _ x d.2 in
    let wf = word_took 0x15 d.0.1.1 f.0.0 d.0.1.0 f.0.1 wd.bytes f.1 in
    let v = next_took (word_at 0x16 f.0.1) _ x f.2 in
    let wv = word_took 0x16 f.0.1.1 v.0.0 f.0.1.0 v.0.1 wf.bytes v.1 in
    let n = next_took (half_at 0x17 v.0.1) _ x v.2 in
    let wn = half_took 0x17 v.0.1.1 n.0.0 v.0.1.0 n.0.1 wv.bytes n.1 in
    let g : Reading = record { status = status; «from» = (a.0.0, b.0.0); till = (c.0.0, d.0.0); missed = f.0.0; version = v.0.0; count = n.0.0 } in
    let m = met (count_fits status n.0.0) (if_ok (frames_fault (frames_at n.0.0 n.0.1)) (Read g)) (record { at = v.0.1.1 }) x n.2 in
    let i = if_took (frames_fault (frames_at n.0.0 n.0.1)) (Read g) x m.1 in
    record {
      reading = g;
      rest = n.0.1.0;
      is = i.1;
      cut =
          ap (λ l. half_field 0x10 (status_number status) ++ l)
          (wa.cut ∙ ap (λ l. word_field 0x11 a.0.0 ++ l) (wb.cut ∙ ap (λ l. word_field 0x12 b.0.0 ++ l) (wc.cut ∙ ap (λ l. word_field 0x13 c.0.0 ++ l)
          (wd.cut ∙ ap (λ l. word_field 0x14 d.0.0 ++ l) (wf.cut ∙ ap (λ l. word_field 0x15 f.0.0 ++ l) (wv.cut ∙ ap (λ l. word_field 0x16 v.0.0 ++ l) wn.cut))))));
      fits = record { from_time = wa.small; from_position = wb.small; till_time = wc.small; till_position = wd.small; missed = wf.small; version = wv.small; count = wn.small };
      lawful = m.0;
      long = frames_all n.0.0 n.0.1 wn.bytes i.0;
      bytes = wn.bytes;
    }

step_took : {R : Type 0} (o : Result (Frame R) TelegramFault) (s : Rest) (f : Frame R) (t : Rest) → frame_step o s ≡ Ok (f, t) → (o ≡ Ok f) × (s ≡ t)
step_took {R} (Ok g) s f t e =
    let q : ◌≡◌ {A = Frame R × Rest} (g, s) (f, t) = cc in
    (ap (λ (z : Frame R × Rest). Ok z.0) q, ap (λ (z : Frame R × Rest). z.1) q)
step_took (Err a) s f t e = absurd (let z : ◌≡◌ {A = ℕ} 0 1 = cc in omega arith)

framed_took : {R : Type 0} (reads : List ℕ → Result R RecordFault) (f : RawFrame) (o : Result R RecordFault) (g : Frame R) → reads f.words ≡ o → framed f o ≡ Ok g → Again reads unread (as_unread f) g
framed_took {R} reads f (Ok r) g is e =
    let q : ◌≡◌ {A = Frame R} (record { time = f.time; position = f.position; body = r }) g = cc in
    record { time = sym (ap (λ (z : Frame R). z.time) q); position = sym (ap (λ (z : Frame R). z.position) q); body = is ∙ ap (λ (z : Frame R). Ok z.body) q }
framed_took reads f (Err x) g is e = absurd (let z : ◌≡◌ {A = ℕ} 0 1 = cc in omega arith)

module _ {R : Type 0} (kind : ℕ) (reads : List ℕ → Result R RecordFault) where
  record OneTook (bs : List ℕ) (f : Frame R) (rest : List ℕ) : Type 0 where
    frame : Unread
    cut : bs ≡ frame_bytes kind unread frame ++ rest
    fits : FrameFits unread frame
    again : Again reads unread frame f
    bytes : Bytes rest

  one_took : (at : ℕ) (bs : List ℕ) (o : Result (RawFrame × Rest) ℕ) (f : Frame R) (t : Rest) → Bytes bs → frame_at (bs, at) ≡ o → frame_then kind reads o ≡ Ok (f, t) → OneTook bs f t.0
  one_took at bs (Ok p) f t h is e =
      let s = step_took (record_of kind reads p.0) p.1 f t e in
      let w = frame_took at bs p.0 p.1 h is in
      let m = met (eqb p.0.kind kind) (framed p.0 (reads p.0.words)) OtherKind f s.0 in
      record {
        frame = as_unread p.0;
        cut = w.cut ∙ (λ i. frame_bytes (eqb-true p.0.kind kind m.0 i) unread (as_unread p.0) ++ (s.1 i).0);
        fits = w.fits;
        again = framed_took reads p.0 (reads p.0.words) f refl m.1;
        bytes = subst (λ (z : Rest). Bytes z.0) s.1 w.bytes;
      }
  one_took at bs (Err a) f t h is e = absurd (let z : ◌≡◌ {A = ℕ} 0 1 = cc in omega arith)

  next_frame_took : (at : ℕ) (bs : List ℕ) (f : Frame R) (t : Rest) → Bytes bs → next_frame_of kind reads (bs, at) ≡ Ok (f, t) → OneTook bs f t.0
  unfolding next_frame_of
  next_frame_took at bs f t h e = one_took at bs (frame_at (bs, at)) f t h refl e

  consed_took : (f : Frame R) (o : Result (List (Frame R)) TelegramFault) (fs : List (Frame R)) → consed f o ≡ Ok fs → (gs : List (Frame R)) × (o ≡ Ok gs) × (f ∷ gs ≡ fs)
  consed_took f (Ok gs) fs e = (gs, refl, cc)
  consed_took f (Err a) fs e = absurd (let z : ◌≡◌ {A = ℕ} 0 1 = cc in omega arith)

  more_took : (n : ℕ) (o : Result (Frame R × Rest) TelegramFault) (fs : List (Frame R)) → more kind reads n o ≡ Ok fs → (p : Frame R × Rest) × (o ≡ Ok p) × (consed p.0 (records_at kind reads n p.1) ≡ Ok fs)
  more_took n (Ok p) fs e = (p, refl, e)
  more_took n (Err a) fs e = absurd (let z : ◌≡◌ {A = ℕ} 0 1 = cc in omega arith)

  record RecordsTook (n : ℕ) (bs : List ℕ) (fs : List (Frame R)) : Type 0 where
    frames : List Unread
    rest : List ℕ
    cut : bs ≡ flat_map (frame_bytes kind unread) frames ++ rest
    fits : AllByRecursion (FrameFits unread) frames
    again : AllAgain reads unread frames fs
    many : length frames ≡ n

  records_took : (n at : ℕ) (bs : List ℕ) (fs : List (Frame R)) → Bytes bs → records_at kind reads n (bs, at) ≡ Ok fs → RecordsTook n bs fs
  records_took zero at bs fs h e =
      let q : [] ≡ fs = cc in
      record { frames = []; rest = bs; cut = refl; fits = tt; again = subst (λ l. AllAgain reads unread [] l) q tt; many = refl }
  records_took (suc n) at bs fs h e =
      let p = more_took n (next_frame_of kind reads (bs, at)) fs e in
      let o = next_frame_took at bs p.0.0 p.0.1 h p.1 in
      let c = consed_took p.0.0 (records_at kind reads n p.0.1) fs p.2 in
      let r = records_took n p.0.1.1 p.0.1.0 c.0 o.bytes c.1 in
      record {
        frames = o.frame ∷ r.frames;
        rest = r.rest;
        cut = o.cut ∙ ap (λ l. frame_bytes kind unread o.frame ++ l) r.cut ∙ sym (append_assoc (frame_bytes kind unread o.frame) (flat_map (frame_bytes kind unread) r.frames) r.rest);
        fits = (o.fits, r.fits);
        again = subst (λ l. AllAgain reads unread (o.frame ∷ r.frames) l) c.2 (o.again, r.again);
        many = ap suc r.many;
      }

  row_took : (n room : ℕ) (o : Result (List (Frame R)) TelegramFault) (fs : List (Frame R)) → fits_row n room o ≡ Ok fs → (n ≤ room) × (o ≡ Ok fs)
  row_took n room (Ok gs) fs e = let m = met (leb n room) (Ok gs) NoBuffer fs e in (leb-true n room m.0, m.1)
  row_took n room (Err a) fs e = absurd (let z : ◌≡◌ {A = ℕ} 0 1 = cc in omega arith)

length_again : {R S : Type 0} (reads : List ℕ → Result S RecordFault) (writes : R → List ℕ) (fs : List (Frame R)) (fs' : List (Frame S)) → AllAgain reads writes fs fs' → length fs ≡ length fs'
length_again reads writes [] [] h = refl
length_again reads writes [] (f' ∷ fs') h = absurd h
length_again reads writes (f ∷ fs) [] h = absurd h
length_again reads writes (f ∷ fs) (f' ∷ fs') h = ap suc (length_again reads writes fs fs' h.1)

module _ {R : Type 0} (kind : ℕ) (reads : List ℕ → Result R RecordFault) (room : ℕ) (fs : List (Frame R)) where
  none_brought : ◌≡◌ {A = Result (List (Frame R)) TelegramFault} (Ok []) (Ok fs) → fs ≡ []
  none_brought e = cc

  -- what the head and the frames of a read's answer were taken from
  read_took : (bs : List ℕ) (g : Reading) (rest : List ℕ) → bs ≡ head_bytes g ++ rest → ReadingFits g → count_fits g.status g.count ≡ true → length rest ≡ 28 * g.count → Bytes rest
      → frames_of kind reads room (Read g) (bs, 0) ≡ Ok fs → Laid kind reads bs room (Read g) fs
  read_took bs g rest cut fits lawful long h e =
      let f = row_took kind reads g.count room (records_at kind reads g.count (skipped 52 (bs, 0))) fs e in
      let got : records_at kind reads g.count (rest, 52) ≡ Ok fs =
      ap (records_at kind reads g.count) (sym (after_head g rest)) ∙ ap (λ l. records_at kind reads g.count (skipped 52 (l, 0))) (sym cut) ∙ f.1 in
      let r = records_took kind reads g.count 52 rest fs h got in
      let us = r.frames in
      let size = frames_length kind unread us in
      let sum = length-append (flat_map (frame_bytes kind unread) us) r.rest in
      let total = ap length r.cut in
      let many = r.many in
      let empty : r.rest ≡ [] = none_left r.rest (omega arith) in
      let same = length_again reads unread us fs r.again in (
        us,
        record {
          is = cut ∙ ap (λ l. head_bytes g ++ l) (r.cut ∙ ap (λ l. flat_map (frame_bytes kind unread) us ++ l) empty ∙ append-nil (flat_map (frame_bytes kind unread) us));
          head = fits;
          frames = r.fits;
          again = r.again;
          count = omega arith;
          lawful = lawful;
          enough = omega (arith, f.0);
        },
      )

  laid_by : (n : ℕ) (bs : List ℕ) (s : Rest) (x : Reply) → bs ≡ half_field 0x10 n ++ s.0 → Bytes s.0 → Way n s x → frames_of kind reads room x (bs, 0) ≡ Ok fs → Laid kind reads bs room x fs
  laid_by n bs s x cut h (reads_on status is e) f =
      let t = reading_took status s x h e in
      let all = cut ∙ ap (λ k. half_field 0x10 k ++ s.0) is ∙ t.cut in
      subst (λ y. frames_of kind reads room y (bs, 0) ≡ Ok fs → Laid kind reads bs room y fs) t.is (read_took bs t.reading t.rest all t.fits t.lawful t.long t.bytes) f
  laid_by n bs s x cut h (enters is e) f =
      let t = entered_took s x h e in
      let all = cut ∙ ap (λ k. half_field 0x10 k ++ s.0) is ∙ t.cut in
      subst (λ y. frames_of kind reads room y (bs, 0) ≡ Ok fs → Laid kind reads bs room y fs) t.is (λ none. (all, t.fits, none_brought none)) f
  laid_by n bs s x cut h (ends is none e) f =
      let all = cut ∙ (λ i. half_field 0x10 (is i) ++ none i) in
      subst (λ y. frames_of kind reads room y (bs, 0) ≡ Ok fs → Laid kind reads bs room y fs) e (λ none. (all, none_brought none)) f
  laid_by n bs s x cut h (refuses is e) f =
      let i = if_took (end_at s) (Refused n) x e in
      let all = cut ∙ ap (λ l. half_field 0x10 n ++ l) (end_took s tt i.0) in
      subst (λ y. frames_of kind reads room y (bs, 0) ≡ Ok fs → Laid kind reads bs room y fs) i.1 (λ none. (all, is, none_brought none)) f

  laid_took : (bs : List ℕ) (x : Reply) → Bytes bs → told_at kind reads room (bs, 0) ≡ Ok (x, fs) → Laid kind reads bs room x fs
  laid_took bs x h e =
      let b = brought_took kind reads room (bs, 0) (reply_at (bs, 0)) x fs e in
      let p = next_took (half_at 0x10 (bs, 0)) (λ status t. by_status status t 0) x b.0 in
      let w = half_took 0x10 0 p.0.0 bs p.0.1 h p.1 in
      laid_by p.0.0 bs p.0.1 x w.cut w.bytes (way p.0.0 p.0.1 0 x p.2) b.1

  laid_told : (fields : List ℕ) (x : Reply) → Laid kind reads fields room x fs → told_at kind reads room (fields, 0) ≡ Ok (x, fs)
  laid_told fields Done l = ap (λ k. told_at kind reads room (k, 0)) l.0 ∙ done_told kind reads room ∙ ap (λ k. Ok (Done, k)) (sym l.1)
  laid_told fields (Refused n) l = ap (λ k. told_at kind reads room (k, 0)) l.0 ∙ refused_told kind reads n room l.1 ∙ ap (λ k. Ok (Refused n, k)) (sym l.2)
  laid_told fields (Entered e) l = ap (λ k. told_at kind reads room (k, 0)) l.0 ∙ entered_told kind reads e room l.1 ∙ ap (λ k. Ok (Entered e, k)) (sym l.2)
  laid_told fields (Read g) l =
      let d = l.1 in
      let same = length_again reads unread l.0 fs d.again in
      ap (λ k. told_at kind reads room (k, 0)) d.is
      ∙ read_told kind reads unread g l.0 fs room d.head d.frames (d.count ∙ sym same) d.lawful (subst (λ k. k ≤ room) (sym same) d.enough) d.again

  taken : (bs : List ℕ) (x : Reply) → Bytes bs → reply_of kind reads bs room ≡ Ok (x, fs) → Taken kind reads bs room x fs
  taken bs x h e =
      let i = intact_took (ltb (length bs) 2 || ltb 4096 (length bs)) (is_sealed bs) (told_at kind reads room (fields_of bs, 0)) (x, fs) e in
      let p = or_parts (ltb (length bs) 2) (ltb 4096 (length bs)) i.0 in
      record {
        low = ltb-false _ _ p.0;
        high = ltb-false _ _ p.1;
        closes = i.1;
        layout = laid_took (fields_of bs) x (All-take (λ b. b < 256) (length bs - 2) bs h) i.2;
      }

-- both ways
pub layouts_exact : {R : Type 0} (kind : ℕ) (reads : List ℕ → Result R RecordFault) → LayoutsExact kind reads
layouts_exact kind reads bs room x fs h = (
  taken kind reads room fs bs x h,
  λ t. reply_told kind reads bs room t.low t.high t.closes ∙ laid_told kind reads room fs (fields_of bs) x t.layout,
)
