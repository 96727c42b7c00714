-- The law of the runs of calls and telegrams, and that such a run leaves a sound book.
use Rattle.std.proofs.Common.{◌≡◌, ℕ, zero, suc, List, [], ◌∷◌, ◌++◌, length, take, sym, refl, ap, ◌∙◌, subst, subst₂, inl, inr}
use Rattle.trays.specs.declared.slots.Slot.{Slot}
use Rattle.book.specs.declared.listeners.Listener.{Listener}
use Rattle.book.specs.State.{new_list}
use Rattle.runs.specs.Histories.{History}
use Rattle.runs.specs.Kinds.{Same, Keeps}
use Rattle.runs.specs.Law.{Law}
use Rattle.runs.specs.Sound.{Sound}
use Rattle.runs.specs.Steps.{World, world}
use Rattle.runs.proofs.Stores.{Store, store_of}
use Rattle.runs.proofs.Leaves.{Ran, Ran.fresh, Ran.and_then, tied}
use Rattle.runs.proofs.Stands.{law_here}
use Rattle.runs.proofs.Orders.{Orderly, orderly_did, orderly_new, sound_of}
use Rattle.mixed.specs.Kinds.{Numbered}
use Rattle.mixed.specs.Uses.{Use, Seen, use_seen, use_after, after, all_seen, happened}
use Rattle.mixed.specs.Throughout.{left_by, would, Throughout}
use Rattle.mixed.proofs.Sends.{Turned, use_turn}

module _ {R V : Type 0} (K : Numbered R V) (row : List Slot) where
  abbrev pub RanTo : World → History R → Type 0
  RanTo w h = Ran K.kind row (store_of w) w.state.listeners h

  ran_turn : (w w' : World) (h new : History R) → RanTo w h → Turned K w w' new → RanTo w' (new ++ h)
  ran_turn w w' h new ran (inl t) = subst (λ n. RanTo w' (n ++ h)) (sym t.2) (and_then ran t.3.0)
  ran_turn w w' h new ran (inr t) =
      subst (λ n. RanTo w' (n ++ h)) (sym t.0) (subst₂ (λ (s : Store) (ls : List Listener). Ran K.kind row s ls h) (sym t.1) (sym t.2) ran)

  pub ran_on : (number : ℕ) (w : World) (h : History R) → RanTo w h → (uses : List (Use R))
      → RanTo (after K w uses) (happened K number uses (all_seen K w uses) h)
  ran_on number w h ran [] = ran
  ran_on number w h ran (x ∷ uses) = ran_on number (use_after K x w) _ (ran_turn w (use_after K x w) h _ ran (use_turn K number x w)) uses

  take_seen : (n : ℕ) (w : World) (uses : List (Use R)) → all_seen K w (take n uses) ≡ take n (all_seen K w uses)
  take_seen zero w uses = refl
  take_seen (suc n) w [] = refl
  take_seen (suc n) w (x ∷ uses) = ap (λ rest. use_seen K x w ∷ rest) (take_seen n (use_after K x w) uses)

  -- the law of a list of uses, where what is seen of them is what the rules say
  pub law_of : Keeps K.kind → (number : ℕ) (uses : List (Use R)) (seen : List (Seen R)) → seen ≡ all_seen K (world number new_list row) uses
      → Law (Same K.kind) (length row) (happened K number uses seen []) (would K number row uses)
  law_of keeps number uses seen e =
      subst (λ bs. Law (Same K.kind) (length row) (happened K number uses bs []) (would K number row uses)) (sym e)
      (law_here K.kind keeps row (left_by K number row uses) _ (ran_on number (world number new_list row) [] fresh uses))

  pub throughout : Keeps K.kind → (number : ℕ) (uses : List (Use R)) (seen : List (Seen R))
      → seen ≡ all_seen K (world number new_list row) uses → Throughout K number row uses seen
  throughout keeps number uses seen e n = law_of keeps number (take n uses) (take n seen) (ap (take n) e ∙ sym (take_seen n (world number new_list row) uses))

  -- held times never fall
  orderly_turn : (w w' : World) (h new : History R) → RanTo w h → Orderly (store_of w) → Turned K w w' new → Orderly (store_of w')
  orderly_turn w w' h new ran o (inl t) = orderly_did t.3.0 t.3.1 (tied ran) o
  orderly_turn w w' h new ran o (inr t) = subst Orderly (sym t.1) o

  orderly_on : (number : ℕ) (w : World) (h : History R) → RanTo w h → Orderly (store_of w) → (uses : List (Use R)) → Orderly (store_of (after K w uses))
  orderly_on number w h ran o [] = o
  orderly_on number w h ran o (x ∷ uses) =
      let turned = use_turn K number x w in
      orderly_on number (use_after K x w) _ (ran_turn w (use_after K x w) h _ ran turned) (orderly_turn w (use_after K x w) h _ ran o turned) uses

  pub sound : Keeps K.kind → (number : ℕ) (uses : List (Use R)) → Sound K.kind.reads (left_by K number row uses)
  sound keeps number uses =
      let w : World = world number new_list row in
      sound_of K.kind row keeps (left_by K number row uses) _ (ran_on number w [] fresh uses) (orderly_on number w [] fresh (orderly_new K.kind row number) uses)
