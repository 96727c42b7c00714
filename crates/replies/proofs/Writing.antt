-- Writing one part after another.
use Rattle.std.proofs.Common.{◌≡◌, ℕ, zero, suc, ◌+◌, ◌-◌, ◌*◌, ◌<◌, ◌≤◌, true, leb, List, [], ◌∷◌, ◌++◌, length, get_or, take, drop, Some, None, sym, refl, ap, ◌∙◌, subst, arith}
use borrow.Rule.Slice.PartMut.{put_mid}
use Rattle.std.proofs.lemmas.List.{length-append, length-take-le, length-drop, get_or_past, append_assoc, drop-drop, take-append-drop, flat_map_more, take_more}
use Rattle.std.proofs.lemmas.Slice.{take-put_mid, drop-put_mid}
use Rattle.std.proofs.lemmas.Bool.{cond-true, le-leb}
use Rattle.std.specs.List.{flat_map}
use Rattle.records.specs.declared.frames.Frame.{Frame}
use Rattle.records.specs.Laws.{FourWords}
use Rattle.seals.specs.Fletcher.{seal_bytes}
use Rattle.replies.specs.declared.writer.Writer.{Writer}
use Rattle.replies.specs.Writing.{Puts}
use Rattle.replies.specs.Layout.{word, words, frame_bytes, closed, written_length, written_over}

drop_later : (b c : ℕ) (xs ys : List ℕ) → b ≤ c → drop b ys ≡ drop b xs → drop c ys ≡ drop c xs
drop_later b c xs ys le h =
    let e : b + (c - b) ≡ c = omega arith in
    ap (λ k. drop k ys) (sym e) ∙ sym (drop-drop (c - b) b ys) ∙ ap (drop (c - b)) h ∙ drop-drop (c - b) b xs ∙ ap (λ k. drop k xs) e

-- one write after another
pub puts_then : {w v u : Writer} {f g : List ℕ} → Puts w v f → Puts v u g → Puts w u (f ++ g)
puts_then {w} {v} {u} {f} {g} p q = record {
  buffer = q.buffer ∙ p.buffer;
  next = omega (arith, p.next, q.next, length-append f g);
  front = q.front ∙ ap (λ t. t ++ g) p.front ∙ append_assoc (take w.at w.out.now) f g;
  back = q.back ∙ drop_later v.at u.at w.out.now v.out.now (omega (arith, q.next)) p.back;
  room = q.room ∙ p.room;
}

pub puts_as : {w v : Writer} {f g : List ℕ} → f ≡ g → Puts w v f → Puts w v g
puts_as {w} {v} e p = subst (Puts w v) e p

-- a field whose value is these bytes
pub puts_field : {w v : Writer} {t : ℕ} {b u : List ℕ} → b ≡ u → Puts w v (t ∷ 0 ∷ length b ∷ b) → Puts w v (t ∷ 0 ∷ length u ∷ u)
puts_field {w} {v} {t} e p = subst (λ b. Puts w v (t ∷ 0 ∷ length b ∷ b)) e p

pub put_front : (xs bs zs : List ℕ) (a : ℕ) → a + length bs ≤ length xs → zs ≡ bs → take (a + length bs) (put_mid a (a + length bs - a) xs zs) ≡ take a xs ++ bs
put_front xs bs zs a fit e =
    let same : length zs ≡ length bs = ap length e in
    take-put_mid a (a + length bs - a) xs zs (a + length bs) (omega arith) (omega arith) ∙ ap (λ t. take a xs ++ t) e

pub put_back : (xs bs zs : List ℕ) (a : ℕ) → a + length bs ≤ length xs → zs ≡ bs → drop (a + length bs) (put_mid a (a + length bs - a) xs zs) ≡ drop (a + length bs) xs
put_back xs bs zs a fit e =
    let same : length zs ≡ length bs = ap length e in
    drop-put_mid a (a + length bs - a) xs zs (a + length bs) (omega arith) (omega arith) (omega arith)

pub put_room : (xs bs zs : List ℕ) (a : ℕ) → a + length bs ≤ length xs → zs ≡ bs → length (put_mid a (a + length bs - a) xs zs) ≡ length xs
put_room xs bs zs a fit e =
    let n = a + length bs in
    let all = put_mid a (a + length bs - a) xs zs in
    omega (arith, ap length (take-append-drop n all), length-append (take n all) (drop n all), ap length (put_front xs bs zs a fit e), length-append (take a xs) bs, length-take-le a xs (omega arith), ap length (put_back xs bs zs a fit e), length-drop n xs)

-- fields from the start, and then their seal
pub puts_closed : {w v u : Writer} {f : List ℕ} → w.at ≡ 0 → Puts w v f → Puts v u (seal_bytes (take v.at v.out.now)) → u.out.now ≡ closed f ++ drop u.at w.out.now
puts_closed {w} {v} {u} {f} start p q =
    let all = puts_then p q in
    let fields : take v.at v.out.now ≡ f = p.front ∙ ap (λ k. take k w.out.now ++ f) start in
    sym (take-append-drop u.at u.out.now) ∙ ap (λ k. take u.at u.out.now ++ k) all.back
    ∙ ap (λ k. k ++ drop u.at w.out.now) (all.front ∙ ap (λ k. take k w.out.now ++ (f ++ seal_bytes (take v.at v.out.now))) start ∙ ap (λ k. f ++ seal_bytes k) fields)

pub joined_take : {X : Type 0} (g : X → List ℕ) (xs : List X) (i : ℕ) (d : X) → i < length xs → flat_map g (take i xs) ++ g (get_or xs i d) ≡ flat_map g (take (i + 1) xs)
joined_take g xs i d lt = flat_map_more g [] (take i xs) (get_or xs i d) ∙ ap (flat_map g) (sym (take_more xs i d lt))

pub frames_length : {R : Type 0} (kind : ℕ) (writes : R → List ℕ) (fs : List (Frame R)) → length (flat_map (frame_bytes kind writes) fs) ≡ 28 * length fs
frames_length kind writes [] = refl
frames_length kind writes (f ∷ fs) = let inner = frames_length kind writes fs in omega arith

pub four_words : (ws : List ℕ) → length ws ≡ 4 → flat_map word ws ≡ words ws
four_words [] e = absurd (omega arith)
four_words (a ∷ []) e = absurd (omega arith)
four_words (a ∷ b ∷ []) e = absurd (omega arith)
four_words (a ∷ b ∷ c ∷ []) e = absurd (omega arith)
four_words (a ∷ b ∷ c ∷ d ∷ []) e = refl
four_words (a ∷ b ∷ c ∷ d ∷ x ∷ r) e = absurd (omega arith)

-- a whole reply, in a buffer that has room for it
pub finished : {w v u : Writer} {f : List ℕ} (n : ℕ) → w.at ≡ 0 → Puts w v f → Puts v u (seal_bytes (take v.at v.out.now)) → u.at ≡ n → n ≤ length w.out.now
    → (Some u.at ≡ written_length n w.out.now) × (u.out.now ≡ written_over n (closed f) w.out.now)
finished {w} {v} {u} {f} n start p q is fits =
    let xs = w.out.now in
    let room : leb n (length xs) ≡ true = le-leb n (length xs) fits in (
      ap Some is ∙ sym (cond-true _ (Some n) None room),
      puts_closed start p q ∙ ap (λ k. closed f ++ drop k xs) is ∙ sym (cond-true _ (closed f ++ drop n xs) xs room),
    )

-- four words that fit, one by one
pub four_fit : (ws : List ℕ) → length ws ≡ 4 → get_or ws 0 0 < 4294967296 → get_or ws 1 0 < 4294967296 → get_or ws 2 0 < 4294967296 → get_or ws 3 0 < 4294967296 → FourWords ws
four_fit ws four a b c d = (four, each)
  where
    each : (k : ℕ) → get_or ws k 0 < 4294967296
    each zero = a
    each (suc zero) = b
    each (suc (suc zero)) = c
    each (suc (suc (suc zero))) = d
    each (suc (suc (suc (suc k)))) = let e = get_or_past ws (suc (suc (suc (suc k)))) 0 (omega arith) in omega arith
