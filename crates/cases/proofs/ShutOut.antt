-- Each worthless book breaks the law in a few calls.
use Rattle.std.proofs.Common.{◌≡◌, ℕ, List, [], ◌∷◌, sym, refl, ap, ◌∙◌, inl, inr, arith}
use Rattle.trays.specs.Rows.{look_answer}
use Rattle.records.specs.declared.frames.Frame.{Frame}
use Rattle.book.specs.declared.answers.Reading.{Reading}
use Rattle.book.specs.Reads.{frames}
use Rattle.book.specs.State.{Mark}
use Rattle.runs.specs.declared.asked.Call.{Call}
use Rattle.runs.specs.declared.asked.Call.TheVariants.{Enter, Start, Release, Since, Take}
use Rattle.runs.specs.Answers.{Answer, Answer.done, Answer.gave}
use Rattle.runs.specs.Histories.{Event, Event.◌⟶◌, History, ◌∈◌, ◌∈◌.here, ◌∈◌.there}
use Rattle.runs.specs.Law.{entries, Gone, Held, Reader.begins, Reader.waits, Reader.reads_on}
use Rattle.cases.specs.Worthless.{trace, tells_all_missed, never_looks, uses_no_tray, ShutOut}

none_in : {A : Type 0} {x : A} → x ∈ [] → ⊥
none_in m = elim m [ ]

never_gone : {R : Type 0} → Gone {R = R} 1 [] 1 → ⊥
never_gone (inl y) = none_in y.1
never_gone (inr (inl y)) = none_in y.3
never_gone (inr (inr l)) = omega arith

-- where since gives nothing, nothing is held
nothing_held : (h : History ℕ) (book : Call ℕ → Answer ℕ) → ((m : Mark) → (reading : Reading) × (book (Since m 1 1) ≡ gave reading [])) → Held h book 1 → ⊥
nothing_held h book none (m, mb, (g, f, e, pe)) = let n = (none m).1 in let z : ◌≡◌ {A = ℕ} 0 1 = cc in omega arith

-- two frames entered into a book that keeps one: the first is not held
two : List (Call (List ℕ))
two = Enter 0 [] ∷ Enter 0 [] ∷ Start 1 ∷ Take ∷ []

second_only : (t : ℕ) (g : Reading) (f : Frame (List ℕ)) → uses_no_tray two (Since (t, 0) 1 1) ≡ gave g (f ∷ []) → f.position ≡ 1 → ⊥
unfolding frames look_answer two
second_only t g f e pe =
    let same : record { time = 0; position = 2; body = [] } ≡ f = cc in
    let z : 2 ≡ f.position = ap (λ (x : Frame (List ℕ)). x.position) same in
    omega arith

not_held : Held (trace uses_no_tray two) (uses_no_tray two) 1 → ⊥
unfolding two
not_held (m, inl (one, at_start), (g, f, e, pe)) = second_only 0 g f (ap (λ (n : Mark). uses_no_tray two (Since n 1 1)) (sym at_start) ∙ e) pe
not_held (m, inr (t, r, before, at), (g, f, e, pe)) = second_only t g f (ap (λ (n : Mark). uses_no_tray two (Since n 1 1)) (sym at) ∙ e) pe

-- one later entry is no reason to leave a tray of two slots
not_gone : (e : Event (List ℕ)) → ((k : ℕ) → (Start k ⟶ done) ≡ e → ⊥) → ((k q : ℕ) → (Release k q ⟶ done) ≡ e → ⊥) → (entries (e ∷ []) ≡ 1) → Gone 2 (e ∷ []) 1 → ⊥
not_gone e no_start no_release one (inl (k, here)) = no_start k refl
not_gone e no_start no_release one (inl (k, there m)) = none_in m
not_gone e no_start no_release one (inr (inl (k, q, l, here))) = no_release k q refl
not_gone e no_start no_release one (inr (inl (k, q, l, there m))) = none_in m
not_gone e no_start no_release one (inr (inr l)) = omega arith

pub shut_out : ShutOut
unfolding frames look_answer two
shut_out = record {
  all_missed = λ law. never_gone (((law (Enter 0 0 ∷ [])).gone [] [] 0 1 0 [] refl).0 (nothing_held _ (tells_all_missed (Enter 0 0 ∷ [])) (λ m. (_, refl))));
  no_tray = λ law.
      not_gone _ (λ k e. let z : ◌≡◌ {A = ℕ} 0 1 = cc in omega arith) (λ k q e. let z : ◌≡◌ {A = ℕ} 0 1 = cc in omega arith) refl
      (((law two).gone (_ ∷ []) _ 0 1 [] _ refl).0 not_held);
  no_look = λ law. never_gone (((law (Enter 0 0 ∷ [])).gone [] [] 0 1 0 [] refl).0 (nothing_held _ (never_looks (Enter 0 0 ∷ [])) (λ m. (_, refl))));
  no_release = λ law.
      ((law (Release 1 1 ∷ Enter 0 [] ∷ Start 1 ∷ Take ∷ [])).gone (_ ∷ []) _ 0 1 [] _ refl).1 (inr (inl (1, 1, omega arith, here)))
      ((0, 0), inl (refl, refl), (_, _, refl, refl));
  pretence = λ law. let z : 1 ≡ 2 = (law (Since (0, 0) 144 144 ∷ Enter 0 0 ∷ Enter 0 0 ∷ [])).at_the_end (0, 0) 144 144 _ _ _ refl (inl refl) in omega arith;
  made_up = λ law. let z : 2 ≡ 1 = (law (Since (0, 0) 144 144 ∷ Enter 0 0 ∷ [])).complete _ _ _ (reads_on (waits begins)) in omega arith;
}
