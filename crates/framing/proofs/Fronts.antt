-- What stands at the front of an input, by its length and the bytes after that.
use Rattle.std.proofs.Common.{◌≡◌, ℕ, ◌+◌, ◌-◌, ◌*◌, ◌/◌, ◌%◌, ◌<◌, ◌≤◌, Bool, true, false, cond, leb, List, [], ◌∷◌, ◌++◌, length, take, drop, sym, refl, ap, ◌∙◌, arith}
use Rattle.std.proofs.lemmas.List.{take_rest, take_at, drop_at, drop-drop, take-append-le, drop-append-le, length-drop, length-take-le, length-append}
use Rattle.std.proofs.lemmas.Bool.{cond-true, cond-false, le-leb, lt-leb, leb-true}
use Rattle.framing.specs.Frames.{Front, Front.whole, Front.incomplete, Front.too_long, number, sized, front, framed}

pub short : (bytes : List ℕ) → length bytes < 4 → incomplete (4 - length bytes) ≡ front bytes
unfolding front
short bytes few = sym (cond-false _ _ _ (lt-leb 4 (length bytes) few))

pub after_length : (bytes rest : List ℕ) (n : ℕ) → 4 ≤ length bytes → n ≡ number bytes → rest ≡ take (length bytes - 4) (drop 4 bytes) → sized n rest ≡ front bytes
unfolding front
after_length bytes rest n long is rests =
    (λ i. sized (is i) ((rests ∙ take_rest bytes 4) i)) ∙ sym (cond-true _ _ _ (le-leb 4 (length bytes) long))

pub sized_long : (n : ℕ) (rest : List ℕ) → 4096 < n → too_long ≡ sized n rest
sized_long n rest more = sym (cond-false _ _ _ (lt-leb n 4096 more))

pub sized_cut : (n : ℕ) (rest : List ℕ) → n ≤ 4096 → length rest < n → incomplete (n - length rest) ≡ sized n rest
sized_cut n rest fits few = sym (cond-true _ _ _ (le-leb n 4096 fits) ∙ cond-false _ _ _ (lt-leb n (length rest) few))

pub sized_whole : (n : ℕ) (rest telegram after : List ℕ) → n ≤ 4096 → n ≤ length rest → telegram ≡ take n rest → after ≡ drop n rest → whole telegram after ≡ sized n rest
sized_whole n rest telegram after fits long ist isa =
    (λ i. whole (ist i) (isa i)) ∙ sym (cond-true _ _ _ (le-leb n 4096 fits) ∙ cond-true _ _ _ (le-leb n (length rest) long))

unlong : (b : Bool) (x : Front) (telegram after : List ℕ) → whole telegram after ≡ cond b x too_long → (b ≡ true) × (whole telegram after ≡ x)
unlong true x telegram after e = (refl, e)
unlong false x telegram after e = absurd (let z : ◌≡◌ {A = ℕ} 0 1 = cc in omega arith)

uncut : (b : Bool) (x : Front) (missing : ℕ) (telegram after : List ℕ) → whole telegram after ≡ cond b x (incomplete missing) → (b ≡ true) × (whole telegram after ≡ x)
uncut true x missing telegram after e = (refl, e)
uncut false x missing telegram after e = absurd (let z : ◌≡◌ {A = ℕ} 0 1 = cc in omega arith)

-- the telegram at the front and the bytes after it, in the bytes themselves
pub record Stands (bytes telegram after : List ℕ) : Type 0 where
  pub long : 4 ≤ length bytes
  pub short : number bytes ≤ 4096
  pub fits : number bytes ≤ length (drop 4 bytes)
  pub front_is : telegram ≡ take (number bytes) (drop 4 bytes)
  pub back_is : after ≡ drop (number bytes) (drop 4 bytes)
  pub rest : drop (4 + length telegram) bytes ≡ after
  pub size : length bytes ≡ 4 + length telegram + length after

pub stands : (bytes telegram after : List ℕ) → whole telegram after ≡ front bytes → Stands bytes telegram after
unfolding front
stands bytes telegram after e =
    let n : ℕ = number bytes in
    let body = drop 4 bytes in
    let outer = uncut (leb 4 (length bytes)) _ _ telegram after e in
    let middle = unlong (leb n 4096) _ telegram after outer.1 in
    let inner = uncut (leb n (length body)) _ _ telegram after middle.1 in
    let fits : n ≤ length body = leb-true n (length body) inner.0 in
    let long : 4 ≤ length bytes = leb-true 4 (length bytes) outer.0 in
    let isw : whole telegram after ≡ whole (take n body) (drop n body) = inner.1 in
    let ist : telegram ≡ take n body = cc in
    let isa : after ≡ drop n body = cc in
    let count : length telegram ≡ n = ap length ist ∙ length-take-le n body fits in
    record {
      long = long;
      short = leb-true n 4096 middle.0;
      fits = fits;
      front_is = ist;
      back_is = isa;
      rest = ap (λ k. drop (4 + k) bytes) count ∙ sym (drop-drop n 4 bytes) ∙ sym isa;
      size = omega (arith, count, ap length isa, length-drop n body, length-drop 4 bytes);
    }

number_front : (bytes more : List ℕ) → 4 ≤ length bytes → number (bytes ++ more) ≡ number bytes
number_front [] more long = absurd (omega arith)
number_front (a ∷ []) more long = absurd (omega arith)
number_front (a ∷ b ∷ []) more long = absurd (omega arith)
number_front (a ∷ b ∷ c ∷ []) more long = absurd (omega arith)
number_front (a ∷ b ∷ c ∷ d ∷ bytes) more long = refl

-- a telegram stays at the front, whatever comes behind it
pub stays : (bytes telegram after more : List ℕ) → whole telegram after ≡ front bytes → whole telegram (after ++ more) ≡ front (bytes ++ more)
stays bytes telegram after more e =
    let s = stands bytes telegram after e in
    let n : ℕ = number bytes in
    let body = drop 4 bytes in
    let long = s.long in
    let fits = s.fits in
    sized_whole n (body ++ more) telegram (after ++ more) s.short (omega (arith, fits, length-append body more))
    (s.front_is ∙ sym (take-append-le n body more fits)) (ap (λ back. back ++ more) s.back_is ∙ sym (drop-append-le n body more fits))
    ∙ after_length (bytes ++ more) (body ++ more) n (omega (arith, long, length-append bytes more)) (sym (number_front bytes more long))
    (sym (take_rest (bytes ++ more) 4 ∙ drop-append-le 4 bytes more long))

-- the four bytes of a number tell the number again
four_bytes : (n : ℕ) → n ≤ 4096 → n / 16777216 % 256 * 16777216 + n / 65536 % 256 * 65536 + n / 256 % 256 * 256 + n % 256 ≡ n
four_bytes n fits = omega arith

-- what is put after its length is cut as it was put
pub put_then_cut : (telegram rest : List ℕ) → length telegram ≤ 4096 → front (framed telegram ++ rest) ≡ whole telegram rest
put_then_cut telegram rest fits =
    let n = length telegram in
    let is : number (framed telegram ++ rest) ≡ n = four_bytes n fits in
    sym (
    sized_whole n (telegram ++ rest) telegram rest fits (omega (arith, length-append telegram rest)) (sym (take_at telegram rest n refl)) (sym (drop_at telegram rest n refl))
    ∙ after_length (framed telegram ++ rest) (telegram ++ rest) n (omega arith) (sym is) (sym (take_rest (framed telegram ++ rest) 4))
    )
