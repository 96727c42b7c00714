-- Numbers that fit the bytes that carry them.
use Rattle.std.specs.Prelude.{◌≡◌, ℕ, ◌<◌, List, length, Some, None, Option}
use Rattle.records.specs.declared.frames.Frame.{Frame}
use Rattle.records.specs.Laws.{FourWords}
use Rattle.book.specs.declared.answers.Entered.{Entered}
use Rattle.book.specs.declared.answers.Reading.{Reading}

pub record ReadingFits (g : Reading) : Type 0 where
  pub from_time : g.«from».0 < 4294967296
  pub from_position : g.«from».1 < 4294967296
  pub till_time : g.till.0 < 4294967296
  pub till_position : g.till.1 < 4294967296
  pub missed : g.missed < 4294967296
  pub version : g.version < 4294967296
  pub count : g.count < 65536

pub record FrameFits {R : Type 0} (writes : R → List ℕ) (f : Frame R) : Type 0 where
  pub time : f.time < 4294967296
  pub position : f.position < 4294967296
  pub words : FourWords (writes f.body)

pub record EnteredFits (e : Entered) : Type 0 where
  pub position : e.position < 4294967296
  pub parties : length e.called ≡ 4

-- what holds where a reply was written
abbrev pub IfWritten : Option ℕ → Type 0 → Type 0
IfWritten (Some n) P = P
IfWritten None P = Unit {0}
