-- A kind of record by what its records mean, its writing and its reading.
use Rattle.std.specs.Prelude.{◌≡◌, ℕ, List, Result}
use Rattle.records.specs.declared.fault.RecordFault.{RecordFault}
use Rattle.records.specs.declared.kinds.Record.{Ghosts}
use Rattle.records.specs.Laws.{ReadsBack}

pub record Kind (R V : Type 0) : Type 0 where
  pub means : R → V
  pub writes : R → List ℕ
  pub reads : List ℕ → Result R RecordFault

-- the kind that a type of records is, by the members of its trait `Record`
abbrev pub kind_of : {R : Type 0} → (G : Ghosts R) → Kind R G.Value
kind_of G = record { means = G.means; writes = G.writes; reads = G.reads }

-- records are the same when they mean the same
abbrev pub Same : {R V : Type 0} → Kind R V → R → R → Type 0
Same K r s = K.means r ≡ K.means s

-- the first law
abbrev pub Keeps : {R V : Type 0} → Kind R V → Type 0
Keeps {R} K = (r : R) → ReadsBack K.means (K.reads (K.writes r)) r
