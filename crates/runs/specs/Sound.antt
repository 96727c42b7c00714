-- Of every book that calls can reach: held positions run without a gap up to last, and held times never fall.
use Rattle.std.specs.Prelude.{◌≡◌, ℕ, ◌-◌, ◌<◌, ◌≤◌, List, length, Ok, Result}
use Rattle.records.specs.declared.fault.RecordFault.{RecordFault}
use Rattle.records.specs.declared.frames.Frame.{Frame}
use Rattle.book.specs.Reads.{frame_at}
use Rattle.runs.specs.Steps.{World}

pub record Sound {R : Type 0} (reads : List ℕ → Result R RecordFault) (w : World) : Type 0 where
  pub order : w.state.gone ≤ w.state.last
  pub few : w.state.last - w.state.gone ≤ length w.row
  -- each held position has its frame in its slot, in words that the kind reads
  pub held : (p : ℕ) → w.state.gone < p → p ≤ w.state.last → (f : Frame R) × (frame_at reads w.row p ≡ Ok f) × (f.position ≡ p)
  pub times : (p q : ℕ) (f g : Frame R) → w.state.gone < p → p ≤ q → q ≤ w.state.last
      → frame_at reads w.row p ≡ Ok f → frame_at reads w.row q ≡ Ok g → f.time ≤ g.time
  pub latest : (p : ℕ) (f : Frame R) → w.state.gone < p → p ≤ w.state.last → frame_at reads w.row p ≡ Ok f → f.time ≤ w.state.last_time
