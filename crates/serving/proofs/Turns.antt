-- One telegram more: what is left of an input after the telegram at its front.
use Rattle.std.proofs.Common.{◌≡◌, ℕ, zero, suc, ◌+◌, ◌≤◌, List, [], ◌∷◌, ◌++◌, length, drop, sym, refl, ap, ◌∙◌, append_assoc, append-nil, arith}
use Rattle.std.proofs.lemmas.List.{drop-drop}
use Rattle.runs.specs.Steps.{World}
use Rattle.framing.specs.Frames.{Front, Front.whole, Front.incomplete, Front.too_long, front}
use Rattle.framing.proofs.Fronts.{stands}
use Rattle.serving.specs.Sessions.{Desk, first_then, telegrams_up_to, telegrams, taken, is_too_long, ends, reply_of, after, written, writes_all, after_all}

-- more turns than bytes find no more telegrams
enough : (n m : ℕ) (input : List ℕ) → length input ≤ n → length input ≤ m → telegrams_up_to n input ≡ telegrams_up_to m input
unfolding telegrams_up_to front
enough zero zero input few fewer = refl
enough zero (suc m) [] few fewer = refl
enough zero (suc m) (byte ∷ bytes) few fewer = absurd (omega arith)
enough (suc n) zero [] few fewer = refl
enough (suc n) zero (byte ∷ bytes) few fewer = absurd (omega arith)
enough (suc n) (suc m) input few fewer =
    elim (front input) as (λ f. f ≡ front input → first_then f (telegrams_up_to n) ≡ first_then f (telegrams_up_to m)) [
      | whole telegram after ↦ λ e. let s = stands input telegram after e in ap (λ more. telegram ∷ more) (enough n m after (omega arith) (omega arith))
      | incomplete missing ↦ λ e. refl
      | too_long ↦ λ e. refl
    ] refl

-- the telegram at the front is the first
pub next : (input telegram rest : List ℕ) → whole telegram rest ≡ front input → telegrams input ≡ telegram ∷ telegrams rest
unfolding telegrams telegrams_up_to
next [] telegram rest e = absurd (let s = stands [] telegram rest e in omega arith)
next (byte ∷ bytes) telegram rest e =
    let s = stands (byte ∷ bytes) telegram rest e in
    ap (λ f. first_then f (telegrams_up_to (length bytes))) (sym e)
    ∙ ap (λ more. telegram ∷ more) (enough (length bytes) (length rest) rest (omega arith) (omega arith))

-- where none is at the front, there is none
pub none : (input : List ℕ) (f : Front) → f ≡ front input → ((more : List ℕ → List (List ℕ)) → first_then f more ≡ []) → telegrams input ≡ []
unfolding telegrams telegrams_up_to
none [] f e is = refl
none (byte ∷ bytes) f e is = ap (λ f. first_then f (telegrams_up_to (length bytes))) (sym e) ∙ is (telegrams_up_to (length bytes))

-- an input with the book and the output before it; the rest of the input with the book and the output as they stand
pub record Goes_on {R : Type 0} (d : Desk R) (w : World) (input out : List ℕ) (w' : World) (rest out' : List ℕ) : Type 0 where
  pub output : out ++ writes_all d w (telegrams input) ≡ out' ++ writes_all d w' (telegrams rest)
  pub book : after_all d w (telegrams input) ≡ after_all d w' (telegrams rest)
  pub count : taken (telegrams input) + length rest ≡ length input + taken (telegrams rest)
  pub place : drop (taken (telegrams input)) input ≡ drop (taken (telegrams rest)) rest

pub begins : {R : Type 0} (d : Desk R) (w : World) (input out : List ℕ) → Goes_on d w input out w input out
begins d w input out = record { output = refl; book = refl; count = omega arith; place = refl }

pub turn : {R : Type 0} (d : Desk R) (w : World) (input out : List ℕ) (w' : World) (rest out' : List ℕ) (w'' : World) (left out'' telegram : List ℕ) → Goes_on d w input out w' rest out' → whole telegram left ≡ front rest → w'' ≡ after d w' telegram → out'' ≡ out' ++ written (reply_of d w' telegram) → Goes_on d w input out w'' left out''
unfolding writes_all after_all taken
turn d w input out w' rest out' w'' left out'' telegram so e stands_at says =
    let first = next rest telegram left e in
    let s = stands rest telegram left e in
    record {
      output = so.output ∙ ap (λ ts. out' ++ writes_all d w' ts) first
          ∙ sym (append_assoc out' (written (reply_of d w' telegram)) (writes_all d (after d w' telegram) (telegrams left)))
          ∙ (λ i. sym says i ++ writes_all d (sym stands_at i) (telegrams left));
      book = so.book ∙ ap (after_all d w') first ∙ ap (λ v. after_all d v (telegrams left)) (sym stands_at);
      count = omega (arith, so.count, ap taken first, s.size);
      place = so.place ∙ ap (λ ts. drop (taken ts) rest) first ∙ sym (drop-drop (taken (telegrams left)) (4 + length telegram) rest) ∙ ap (drop (taken (telegrams left))) s.rest;
    }

-- no telegram is left
pub record Done {R : Type 0} (d : Desk R) (w : World) (input out : List ℕ) (w' : World) (rest out' : List ℕ) (f : Front) : Type 0 where
  pub output : out' ≡ out ++ writes_all d w (telegrams input)
  pub book : w' ≡ after_all d w (telegrams input)
  pub used : taken (telegrams input) + length rest ≡ length input
  pub ended : is_too_long f ≡ ends input

pub done : {R : Type 0} (d : Desk R) (w : World) (input out : List ℕ) (w' : World) (rest out' : List ℕ) (f : Front) → Goes_on d w input out w' rest out' → f ≡ front rest → ((more : List ℕ → List (List ℕ)) → first_then f more ≡ []) → Done d w input out w' rest out' f
unfolding writes_all after_all taken
done d w input out w' rest out' f so e is =
    let last = none rest f e is in
    record {
      output = sym (so.output ∙ ap (λ ts. out' ++ writes_all d w' ts) last ∙ append-nil out');
      book = sym (so.book ∙ ap (after_all d w') last);
      used = omega (arith, so.count, ap taken last);
      ended = ap is_too_long e ∙ sym (ap (λ bytes. is_too_long (front bytes)) (so.place ∙ ap (λ ts. drop (taken ts) rest) last));
    }
