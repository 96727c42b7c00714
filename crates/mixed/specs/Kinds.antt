-- A kind of record with its number, which telegrams and replies carry.
use Rattle.std.specs.Prelude.{◌≡◌, ℕ}
use Rattle.records.specs.declared.kinds.Record.{Ghosts}
use Rattle.runs.specs.Kinds.{Kind, kind_of}

pub record Numbered (R V : Type 0) : Type 0 where
  pub number : ℕ
  pub kind : Kind R V

-- the kind and number that a type of records has, by the members of its trait `Record`
abbrev pub numbered : {R : Type 0} → (G : Ghosts R) → Numbered R G.Value
numbered G = record { number = G.NUMBER; kind = kind_of G }

-- records that mean the same are written alike
abbrev pub Alike : {R V : Type 0} → Kind R V → Type 0
Alike {R} K = (r s : R) → K.means r ≡ K.means s → K.writes r ≡ K.writes s
