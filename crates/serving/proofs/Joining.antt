-- An input in two stretches: the telegrams of the first, and then those of what waits after them with the second behind it.
use Rattle.std.proofs.Common.{◌≡◌, ℕ, zero, suc, ◌+◌, ◌≤◌, List, [], ◌∷◌, ◌++◌, length, drop, sym, refl, ap, ◌∙◌, append_assoc, arith}
use Rattle.std.proofs.lemmas.List.{drop-drop}
use Rattle.runs.specs.Steps.{World}
use Rattle.framing.specs.Frames.{Front.whole, Front.incomplete, Front.too_long, front}
use Rattle.framing.proofs.Fronts.{stands, stays}
use Rattle.serving.specs.Sessions.{Desk, telegrams, taken, waiting, reply_of, after, written, writes_all, after_all, Joins}
use Rattle.serving.proofs.Turns.{next, none}

-- what waits after the telegram at the front and those behind it
waits : (input telegram rest : List ℕ) → whole telegram rest ≡ front input → waiting input ≡ waiting rest
unfolding taken
waits input telegram rest e =
    ap (λ ts. drop (taken ts) input) (next input telegram rest e)
    ∙ sym (drop-drop (taken (telegrams rest)) (4 + length telegram) input) ∙ ap (drop (taken (telegrams rest))) (stands input telegram rest e).rest

none_joins : (first second : List ℕ) → telegrams first ≡ [] → telegrams (first ++ second) ≡ telegrams first ++ telegrams (waiting first ++ second)
unfolding taken
none_joins first second e = sym (λ i. e i ++ telegrams (drop (taken (e i)) first ++ second))

telegrams_join : (n : ℕ) (first second : List ℕ) → length first ≤ n → telegrams (first ++ second) ≡ telegrams first ++ telegrams (waiting first ++ second)
telegrams_join zero first second few =
    elim (front first) as (λ f. f ≡ front first → telegrams (first ++ second) ≡ telegrams first ++ telegrams (waiting first ++ second)) [
      | whole telegram rest ↦ λ e. absurd (let s = stands first telegram rest e in omega arith)
      | incomplete missing ↦ λ e. none_joins first second (none first (incomplete missing) e (λ more. refl))
      | too_long ↦ λ e. none_joins first second (none first too_long e (λ more. refl))
    ] refl
telegrams_join (suc n) first second few =
    elim (front first) as (λ f. f ≡ front first → telegrams (first ++ second) ≡ telegrams first ++ telegrams (waiting first ++ second)) [
      | whole telegram rest ↦ λ e.
          let s = stands first telegram rest e in
          let behind = telegrams_join n rest second (omega arith) in
          next (first ++ second) telegram (rest ++ second) (stays first telegram rest second e) ∙ ap (λ ts. telegram ∷ ts) behind
          ∙ sym (λ i. next first telegram rest e i ++ telegrams (waits first telegram rest e i ++ second))
      | incomplete missing ↦ λ e. none_joins first second (none first (incomplete missing) e (λ more. refl))
      | too_long ↦ λ e. none_joins first second (none first too_long e (λ more. refl))
    ] refl

writes_then : {R : Type 0} (d : Desk R) (w : World) (first second : List (List ℕ)) → writes_all d w (first ++ second) ≡ writes_all d w first ++ writes_all d (after_all d w first) second
unfolding writes_all after_all
writes_then d w [] second = refl
writes_then d w (telegram ∷ first) second =
    ap (λ out. written (reply_of d w telegram) ++ out) (writes_then d (after d w telegram) first second)
    ∙ sym (append_assoc (written (reply_of d w telegram)) (writes_all d (after d w telegram) first) _)

after_then : {R : Type 0} (d : Desk R) (w : World) (first second : List (List ℕ)) → after_all d w (first ++ second) ≡ after_all d (after_all d w first) second
unfolding after_all
after_then d w [] second = refl
after_then d w (telegram ∷ first) second = after_then d (after d w telegram) first second

pub joins : {R : Type 0} (d : Desk R) (w : World) (first second : List ℕ) → Joins d w first second
joins d w first second =
    let all = telegrams_join (length first) first second (omega arith) in
    record {
      output = ap (writes_all d w) all ∙ writes_then d w (telegrams first) (telegrams (waiting first ++ second));
      book = ap (after_all d w) all ∙ after_then d w (telegrams first) (telegrams (waiting first ++ second));
    }
