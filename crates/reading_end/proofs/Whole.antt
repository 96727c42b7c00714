-- Whole replies that are written, read again.
use Rattle.std.proofs.Common.{◌≡◌, ℕ, suc, ◌+◌, ◌-◌, ◌*◌, ◌<◌, ◌≤◌, min, Bool, true, false, ltb, List, [], ◌∷◌, ◌++◌, map, length, get_or, drop, Ok, Err, Result, sym, refl, ap, ◌∙◌, append_assoc, append-nil, arith}
use Rattle.std.specs.List.{flat_map, AllZip, AllByRecursion}
use Rattle.std.proofs.lemmas.List.{take_at, length-append}
use Rattle.std.proofs.lemmas.Bool.{cond-true, cond-false, eq-eqb, ne_eqb, le-leb, le-ltb, or_from}
use Rattle.std.proofs.lemmas.Bool.Decides.{nat_tests}
use Rattle.records.specs.declared.fault.RecordFault.{RecordFault}
use Rattle.records.specs.declared.frames.Frame.{Frame}
use Rattle.records.specs.Laws.{ReadsBack}
use Rattle.book.specs.declared.answers.Entered.{Entered as Entry}
use Rattle.book.specs.declared.answers.Reading.{Reading}
use Rattle.book.specs.declared.answers.Status.{Status}
use Rattle.book.specs.declared.answers.Status.TheVariants.{Follow, NoFollow, NoFrame}
use Rattle.book.specs.Told.{status_number}
use Rattle.fields.specs.declared.parts.Misfit.{Misfit}
use Rattle.fields.specs.Reading.{Rest, skipped}
use Rattle.seals.specs.Fletcher.{is_sealed, seal_bytes}
use Rattle.seals.proofs.Closing.{seal_laws}
use Rattle.requests.specs.Parsing.{after, seal_checked, fields_of}
use Rattle.replies.specs.Layout.{head_bytes, frame_bytes, status_fields, entered_fields, read_fields, closed, status_reply, entered_reply, read_reply, bit, called_number}
use Rattle.replies.specs.Fits.{ReadingFits, FrameFits, EnteredFits}
use Rattle.replies.proofs.Writing.{frames_length}
use Rattle.reading_end.specs.declared.reply.Reply.{Reply}
use Rattle.reading_end.specs.declared.reply.Reply.TheVariants.{Done, Refused, Entered, Read}
use Rattle.reading_end.specs.Layouts.{then, next, if_ok, frames_at, frames_fault, is_refusal_number, count_fits, by_status, reading_at, reply_at, formed}
use Rattle.reading_end.specs.Frames.{framed, frame_step, frame_then, next_frame_of, consed, records_at, fits_row}
use Rattle.reading_end.specs.Replies.{with_frames, brought, told_at, reply_of}
use Rattle.reading_end.specs.Laws.{Again, AllAgain, SameFrame, RepliesBack}
use Rattle.reading_end.proofs.Storing.{more, whole_fits}
use Rattle.reading_end.proofs.Back.{byte_back, half_back, word_back, raw, frame_back, called_back}

then_ok : {X Y : Type 0} {o : Result (X × Rest) ℕ} {p : X × Rest} (k : X → Rest → Result Y ℕ) → o ≡ Ok p → then o k ≡ k p.0 p.1
then_ok k e = ap (λ o. then o k) e

next_ok : {X : Type 0} {o : Result (X × Rest) ℕ} {p : X × Rest} (k : X → Rest → Result Reply Misfit) → o ≡ Ok p → next o k ≡ k p.0 p.1
next_ok k e = ap (λ o. next o k) e

-- sealed bytes of a lawful length: what is told is what their fields tell
pub reply_told : {R : Type 0} (kind : ℕ) (reads : List ℕ → Result R RecordFault) (bs : List ℕ) (room : ℕ) → 2 ≤ length bs → length bs ≤ 4096 → is_sealed bs ≡ true
    → reply_of kind reads bs room ≡ told_at kind reads room (fields_of bs, 0)
reply_told kind reads bs room low high is =
    ap (λ o. after (after o (seal_checked bs)) (told_at kind reads room (fields_of bs, 0)))
    (cond-false _ _ _ (or_from (ltb (length bs) 2) (ltb 4096 (length bs)) (le-ltb _ _ low) (le-ltb _ _ high)))
    ∙ ap (λ o. after o (told_at kind reads room (fields_of bs, 0))) (cond-true _ _ _ is)

fields_back : (bs : List ℕ) → fields_of (closed bs) ≡ bs
fields_back bs =
    let n : length bs ≡ length (closed bs) - 2 = omega (arith, length-append bs (seal_bytes bs)) in
    take_at bs (seal_bytes bs) (length (closed bs) - 2) n

closed_told : {R : Type 0} (kind : ℕ) (reads : List ℕ → Result R RecordFault) (fields : List ℕ) (room : ℕ) → length fields ≤ 4094 → reply_of kind reads (closed fields) room ≡ told_at kind reads room (fields, 0)
closed_told kind reads fields room fit =
    let long = length-append fields (seal_bytes fields) in
    reply_told kind reads (closed fields) room (omega arith) (omega arith) (seal_laws.closes fields)
    ∙ ap (λ l. told_at kind reads room (l, 0)) (fields_back fields)

-- refusals have numbers from 10 to 31
refusal_range : (n : ℕ) → is_refusal_number n ≡ true → (10 ≤ n) × (n ≤ 31)
refusal_range n is = (grind (arith, nat_tests), grind (arith, nat_tests))

by_refusal : (n at place : ℕ) → is_refusal_number n ≡ true → by_status n ([], at) place ≡ Ok (Refused n)
by_refusal n at place is =
    let range = refusal_range n is in
    cond-false _ _ _ (ne_eqb n 1 (omega arith)) ∙ cond-false _ _ _ (ne_eqb n 2 (omega arith)) ∙ cond-false _ _ _ (ne_eqb n 3 (omega arith))
    ∙ cond-false _ _ _ (ne_eqb n 0 (omega arith)) ∙ cond-true _ _ _ is

pub done_told : {R : Type 0} (kind : ℕ) (reads : List ℕ → Result R RecordFault) (room : ℕ) → told_at kind reads room (status_fields 0, 0) ≡ Ok (Done, [])
done_told kind reads room =
    ap (λ o. brought kind reads room (status_fields 0, 0) (formed o)) (next_ok (λ status t. by_status status t 0) (half_back 0x10 0 0 [] (omega arith) refl))

pub refused_told : {R : Type 0} (kind : ℕ) (reads : List ℕ → Result R RecordFault) (n room : ℕ) → is_refusal_number n ≡ true → told_at kind reads room (status_fields n, 0) ≡ Ok (Refused n, [])
refused_told kind reads n room is =
    let range = refusal_range n is in
    ap (λ o. brought kind reads room (status_fields n, 0) (formed o)) (next_ok _ (half_back 0x10 n 0 [] (omega arith) refl) ∙ by_refusal n 5 0 is)

pub done_back : {R : Type 0} (kind : ℕ) (reads : List ℕ → Result R RecordFault) (room : ℕ) → reply_of kind reads (status_reply 0) room ≡ Ok (Done, [])
done_back kind reads room = closed_told kind reads (status_fields 0) room (omega arith) ∙ done_told kind reads room

pub refused_back : {R : Type 0} (kind : ℕ) (reads : List ℕ → Result R RecordFault) (n room : ℕ) → is_refusal_number n ≡ true → reply_of kind reads (status_reply n) room ≡ Ok (Refused n, [])
refused_back kind reads n room is = closed_told kind reads (status_fields n) room (omega arith) ∙ refused_told kind reads n room is

bit_small : (b : Bool) → bit b ≤ 1
bit_small true = omega arith
bit_small false = omega arith

called_small : (cs : List Bool) → called_number cs ≤ 15
called_small cs =
    let a = bit_small (get_or cs 0 false) in
    let b = bit_small (get_or cs 1 false) in
    let c = bit_small (get_or cs 2 false) in
    let d = bit_small (get_or cs 3 false) in
    omega arith

pub entered_told : {R : Type 0} (kind : ℕ) (reads : List ℕ → Result R RecordFault) (e : Entry) (room : ℕ) → EnteredFits e → told_at kind reads room (entered_fields e, 0) ≡ Ok (Entered e, [])
entered_told kind reads e room fit =
    ap (λ o. brought kind reads room (entered_fields e, 0) (formed o))
    (next_ok _ (half_back 0x10 0 0 _ (omega arith) refl)
    ∙ next_ok _ (word_back 0x14 e.position 5 _ fit.position refl)
    ∙ next_ok _ (byte_back 0x18 (called_number e.called) 12 [] refl)
    ∙ cond-true _ _ _ (le-leb _ 15 (called_small e.called))
    ∙ ap (λ cs. Ok (Entered (record { position = e.position; called = cs }))) (called_back e.called fit.parties))

pub entered_back : {R : Type 0} (kind : ℕ) (reads : List ℕ → Result R RecordFault) (e : Entry) (room : ℕ) → EnteredFits e → reply_of kind reads (entered_reply e) room ≡ Ok (Entered e, [])
entered_back kind reads e room fit = closed_told kind reads (entered_fields e) room (omega arith) ∙ entered_told kind reads e room fit

module _ {R : Type 0} (kind : ℕ) (writes : R → List ℕ) where
  frames_back : (fs : List (Frame R)) (rest : List ℕ) (at : ℕ) → AllByRecursion (FrameFits writes) fs
      → frames_at (length fs) (flat_map (frame_bytes kind writes) fs ++ rest, at) ≡ Ok (map (raw kind writes) fs, (rest, at + 28 * length fs))
  frames_back [] rest at h = ap (λ k. Ok ([], (rest, k))) (omega arith)
  frames_back (f ∷ fs) rest at h =
      let on : at + 3 + 25 + 28 * length fs ≡ at + 28 * suc (length fs) = omega arith in
      ap (λ l. frames_at (suc (length fs)) (l, at)) (append_assoc (frame_bytes kind writes f) (flat_map (frame_bytes kind writes) fs) rest)
      ∙ then_ok _ (frame_back kind writes f (flat_map (frame_bytes kind writes) fs ++ rest) at h.0)
      ∙ then_ok _ (frames_back fs rest (at + 3 + 25) h.1)
      ∙ ap (λ k. Ok (raw kind writes f ∷ map (raw kind writes) fs, (rest, k))) on

module _ {R S : Type 0} (kind : ℕ) (reads : List ℕ → Result S RecordFault) (writes : R → List ℕ) where
  next_back : (f : Frame R) (f' : Frame S) (rest : List ℕ) (at : ℕ) → FrameFits writes f → Again reads writes f f' → next_frame_of kind reads (frame_bytes kind writes f ++ rest, at) ≡ Ok (f', (rest, at + 3 + 25))
  unfolding next_frame_of
  next_back f f' rest at fit again =
      let s : Rest = (rest, at + 3 + 25) in
      ap (frame_then kind reads) (frame_back kind writes f rest at fit)
      ∙ ap (λ o. frame_step o s) (cond-true _ (framed (raw kind writes f) (reads (writes f.body))) _ (eq-eqb kind kind refl) ∙ ap (framed (raw kind writes f)) again.body)
      ∙ (λ i. Ok (record { time = sym again.time i; position = sym again.position i; body = f'.body }, s))

  records_back : (fs : List (Frame R)) (fs' : List (Frame S)) (rest : List ℕ) (at : ℕ) → AllByRecursion (FrameFits writes) fs → AllAgain reads writes fs fs'
      → records_at kind reads (length fs) (flat_map (frame_bytes kind writes) fs ++ rest, at) ≡ Ok fs'
  records_back [] [] rest at h again = refl
  records_back [] (f' ∷ fs') rest at h again = absurd again
  records_back (f ∷ fs) [] rest at h again = absurd again
  records_back (f ∷ fs) (f' ∷ fs') rest at h again =
      ap (λ l. records_at kind reads (suc (length fs)) (l, at)) (append_assoc (frame_bytes kind writes f) (flat_map (frame_bytes kind writes) fs) rest)
      ∙ ap (more kind reads (length fs)) (next_back f f' (flat_map (frame_bytes kind writes) fs ++ rest) at h.0 again.0)
      ∙ ap (consed f') (records_back fs fs' rest (at + 3 + 25) h.1 again.1)

by_reading : (status : Status) (s : Rest) (place : ℕ) → by_status (status_number status) s place ≡ reading_at status s
by_reading Follow s place = refl
by_reading NoFollow s place = refl
by_reading NoFrame s place = refl

status_small : (status : Status) → status_number status < 65536
status_small Follow = omega arith
status_small NoFollow = omega arith
status_small NoFrame = omega arith

read_form : {R : Type 0} (kind : ℕ) (writes : R → List ℕ) (g : Reading) (fs : List (Frame R)) → ReadingFits g → AllByRecursion (FrameFits writes) fs → g.count ≡ length fs → count_fits g.status g.count ≡ true
    → reply_at (read_fields kind writes g fs, 0) ≡ Ok (Read g)
read_form kind writes g fs gf ff count is =
    let all = flat_map (frame_bytes kind writes) fs in
    next_ok _ (half_back 0x10 (status_number g.status) 0 _ (status_small g.status) refl)
    ∙ by_reading g.status _ 0
    ∙ next_ok _ (word_back 0x11 g.«from».0 5 _ gf.from_time refl)
    ∙ next_ok _ (word_back 0x12 g.«from».1 12 _ gf.from_position refl)
    ∙ next_ok _ (word_back 0x13 g.till.0 19 _ gf.till_time refl)
    ∙ next_ok _ (word_back 0x14 g.till.1 26 _ gf.till_position refl)
    ∙ next_ok _ (word_back 0x15 g.missed 33 _ gf.missed refl)
    ∙ next_ok _ (word_back 0x16 g.version 40 _ gf.version refl)
    ∙ next_ok _ (half_back 0x17 g.count 47 all gf.count refl)
    ∙ cond-true _ _ _ is
    ∙ ap (λ n. if_ok (frames_fault (frames_at n (all, 52))) (Read g)) count
    ∙ ap (λ l. if_ok (frames_fault (frames_at (length fs) (l, 52))) (Read g)) (sym (append-nil all))
    ∙ ap (λ o. if_ok (frames_fault o) (Read g)) (frames_back kind writes fs [] 52 ff)

-- the frames stand after the head
pub after_head : (g : Reading) (rest : List ℕ) → skipped 52 (head_bytes g ++ rest, 0) ≡ (rest, 52)
after_head g rest =
    let n : min 52 (length (head_bytes g ++ rest)) ≡ 52 = omega arith in
    ap (λ k. (drop k (head_bytes g ++ rest), 0 + k)) n

pub read_told : {R S : Type 0} (kind : ℕ) (reads : List ℕ → Result S RecordFault) (writes : R → List ℕ) (g : Reading) (fs : List (Frame R)) (fs' : List (Frame S)) (room : ℕ)
    → ReadingFits g → AllByRecursion (FrameFits writes) fs → g.count ≡ length fs → count_fits g.status g.count ≡ true → length fs ≤ room → AllAgain reads writes fs fs'
    → told_at kind reads room (read_fields kind writes g fs, 0) ≡ Ok (Read g, fs')
read_told kind reads writes g fs fs' room gf ff count is fit again =
    let all = flat_map (frame_bytes kind writes) fs in
    let s : Rest = (read_fields kind writes g fs, 0) in
    let got : records_at kind reads g.count (skipped 52 s) ≡ Ok fs' =
    ap (records_at kind reads g.count) (after_head g all)
    ∙ ap (λ n. records_at kind reads n (all, 52)) count
    ∙ ap (λ l. records_at kind reads (length fs) (l, 52)) (sym (append-nil all))
    ∙ records_back kind reads writes fs fs' [] 52 ff again in
    ap (λ o. brought kind reads room s (formed o)) (read_form kind writes g fs gf ff count is)
    ∙ ap (with_frames (Read g)) (ap (fits_row g.count room) got ∙ sym (whole_fits g.count room (Ok fs') (omega arith)))

count_small : (status : Status) (n : ℕ) → count_fits status n ≡ true → n ≤ 144
count_small Follow n is = grind (arith, nat_tests)
count_small NoFollow n is = grind (arith, nat_tests)
count_small NoFrame n is = grind (arith, nat_tests)

pub read_back : {R S : Type 0} (kind : ℕ) (reads : List ℕ → Result S RecordFault) (writes : R → List ℕ) (g : Reading) (fs : List (Frame R)) (fs' : List (Frame S)) (room : ℕ)
    → ReadingFits g → AllByRecursion (FrameFits writes) fs → g.count ≡ length fs → count_fits g.status g.count ≡ true → length fs ≤ room → AllAgain reads writes fs fs'
    → reply_of kind reads (read_reply kind writes g fs) room ≡ Ok (Read g, fs')
read_back kind reads writes g fs fs' room gf ff count is fit again =
    let small = count_small g.status g.count is in
    let long = frames_length kind writes fs in
    closed_told kind reads (read_fields kind writes g fs) room (omega arith) ∙ read_told kind reads writes g fs fs' room gf ff count is fit again

-- by the first law of a kind every record is read again
again_one : {R V : Type 0} (reads : List ℕ → Result R RecordFault) (writes : R → List ℕ) (means : R → V) (f : Frame R) (o : Result R RecordFault) → reads (writes f.body) ≡ o → ReadsBack means o f.body
    → (f' : Frame R) × Again reads writes f f' × SameFrame means f f'
again_one reads writes means f (Ok r) e back = (record { time = f.time; position = f.position; body = r }, record { time = refl; position = refl; body = e }, record { time = refl; position = refl; meaning = back })
again_one reads writes means f (Err x) e back = absurd back

pub again_of : {R V : Type 0} (reads : List ℕ → Result R RecordFault) (writes : R → List ℕ) (means : R → V) → ((r : R) → ReadsBack means (reads (writes r)) r) → (fs : List (Frame R))
    → (fs' : List (Frame R)) × AllAgain reads writes fs fs' × AllZip (SameFrame means) fs fs'
again_of reads writes means back [] = ([], tt, tt)
again_of reads writes means back (f ∷ fs) =
    let one = again_one reads writes means f (reads (writes f.body)) refl (back f.body) in
    let rest = again_of reads writes means back fs in
    (one.0 ∷ rest.0, (one.1, rest.1), (one.2, rest.2))

pub replies_back : {R V : Type 0} (kind : ℕ) (reads : List ℕ → Result R RecordFault) (writes : R → List ℕ) (means : R → V) → ((r : R) → ReadsBack means (reads (writes r)) r) → RepliesBack kind reads writes means
replies_back kind reads writes means back = record {
  done = done_back kind reads;
  refused = refused_back kind reads;
  entered = entered_back kind reads;
  read = λ g fs room gf ff count is fit.
      let other = again_of reads writes means back fs in
      (other.0, read_back kind reads writes g fs other.0 room gf ff count is fit other.1, other.2);
}
