-- A sink in memory: that it tells everything, and which of its writes fail.
use Rattle.std.specs.Prelude.{ℕ, ◌+◌, ◌-◌, ◌^◌, min, ◌&&◌, ◌||◌, length, Some, Result, Ok, Err, nat_lt, ◌==◌, if◌then◌else◌}
use Rattle.edge.specs.Files.{has_number}
use Rattle.edge.specs.Sink.{Held}
use Rattle.edge.specs.declared.mem_sink.MemSink.{MemSink}
use Rattle.edge.specs.declared.sink.SinkFailed.{SinkFailed}

-- what it tells
abbrev pub sink_held : MemSink → Held
sink_held sink = record { bytes = Some sink.bytes.items; faults = sink.faults }

-- what is left of the room
abbrev pub left_of : MemSink → ℕ
left_of sink = sink.room - length sink.bytes.items

-- the number that the next write has, from 1; it stays at 2^64 - 1 once there
abbrev pub write_number : MemSink → ℕ
write_number sink = min (sink.calls + 1) (2 ^ 64 - 1)

-- What the next write answers of a piece of this size. It fails where its number is one of those that
-- fail, or the piece isn't empty and no room is left. Else it takes what the most and the room allow.
abbrev pub write_answer : MemSink → ℕ → Result ℕ SinkFailed
write_answer sink size =
    if has_number sink.failing (write_number sink) || (nat_lt 0 size && left_of sink == 0) then Err (record {})
    else Ok (min size (min sink.most (left_of sink)))
