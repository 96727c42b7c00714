-- The slots in use and those past the limit are all that was lent.
use Rattle.std.proofs.Common.{◌≡◌, List, ◌++◌, sym, ap, ◌∙◌, take-append-drop}
use Rattle.trays.specs.Limit.{used, unused}

pub whole : {S : Type 0} (after row rest : List S) → used after ≡ row → unused after ≡ rest → after ≡ row ++ rest
unfolding used unused
whole after row rest e f =
    sym (take-append-drop 1000000 after) ∙ (ap (λ part. part ++ unused after) e ∙ ap (λ part. row ++ part) f)
