-- One turn more of a run.
use Rattle.std.proofs.Common.{◌≡◌, ℕ, ◌+◌, ◌<◌, get_or, List, [], ◌∷◌, ◌++◌, map, length, take, sym, refl, ap, ◌∙◌}
use Rattle.std.proofs.lemmas.List.{map-append, take_more}
use Rattle.runs.specs.Steps.{World}
use Rattle.mixed.specs.declared.turns.Turn.{Turn}
use Rattle.mixed.specs.Kinds.{Numbered}
use Rattle.mixed.specs.Uses.{Use, use_of, use_seen, use_after, after, all_seen}

module _ {R V : Type 0} (K : Numbered R V) where
  pub after_one : (w : World) (uses : List (Use R)) (x : Use R) → after K w (uses ++ x ∷ []) ≡ use_after K x (after K w uses)
  after_one w [] x = refl
  after_one w (y ∷ uses) x = after_one (use_after K y w) uses x

  pub seen_one : (w : World) (uses : List (Use R)) (x : Use R) → all_seen K w (uses ++ x ∷ []) ≡ all_seen K w uses ++ use_seen K x (after K w uses) ∷ []
  seen_one w [] x = refl
  seen_one w (y ∷ uses) x = ap (λ rest. use_seen K y w ∷ rest) (seen_one (use_after K y w) uses x)

  -- the turns so far have led to the book as it stands
  pub led_more : (start w w' : World) (turns : List (Turn R)) (i : ℕ) (t : Turn R) → i < length turns → t ≡ get_or turns i t
      → w ≡ after K start (map use_of (take i turns)) → w' ≡ use_after K (use_of t) w → w' ≡ after K start (map use_of (take (i + 1) turns))
  led_more start w w' turns i t within is so f =
      let more : take (i + 1) turns ≡ take i turns ++ t ∷ [] = take_more turns i t within ∙ ap (λ x. take i turns ++ x ∷ []) (sym is) in
      f ∙ ap (use_after K (use_of t)) so ∙ sym (after_one start (map use_of (take i turns)) (use_of t))
      ∙ ap (after K start) (sym (ap (map use_of) more ∙ map-append use_of (take i turns) (t ∷ [])))
