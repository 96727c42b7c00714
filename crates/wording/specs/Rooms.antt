-- The rows of reads.
use Rattle.std.specs.Prelude.{◌≤◌}
use Rattle.runs.specs.declared.asked.Call.{Call}

-- a read brings a row of at most 144 frames
abbrev pub RoomFits : {R : Type 0} → Call R → Type 0
RoomFits (Call.Enter time «record») = Unit {0}
RoomFits (Call.Start key) = Unit {0}
RoomFits (Call.Stop key) = Unit {0}
RoomFits (Call.SetMode key mode) = Unit {0}
RoomFits (Call.Release key position) = Unit {0}
RoomFits (Call.Listen party mark fill) = Unit {0}
RoomFits (Call.Since mark limit room) = room ≤ 144
RoomFits (Call.Oldest room) = room ≤ 144
RoomFits (Call.Youngest room) = room ≤ 144
RoomFits (Call.Span first last limit room) = room ≤ 144
RoomFits Call.Take = Unit {0}
RoomFits (Call.HandBack key) = Unit {0}
