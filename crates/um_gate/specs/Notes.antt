-- The notes that a gate in memory keeps, as events.
-- No manual page has this: gates are the project's own.
-- The gate in memory stands on this file.
use Rattle.std.specs.Prelude.{List, map, Some, None}
use Rattle.um_gate.specs.Events.{Event, accepted, read, wrote, dropped}
use Rattle.um_gate.specs.declared.note.Note.{Note}
use Rattle.um_gate.specs.declared.note.Note.TheVariants as note

abbrev pub event_of : Note → Event
event_of (note.Accepted which) = accepted which.is_open
event_of (note.Came number most bytes) = read number most (Some bytes.items)
event_of (note.Closed number most) = read number most None
event_of (note.Wrote number offered taken) = wrote number offered.items taken.items
event_of (note.Dropped number) = dropped number

abbrev pub events_of : List Note → List Event
events_of notes = map event_of notes
