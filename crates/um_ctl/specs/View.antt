-- The reports and faults of the client as those of the definitions.
use Rattle.std.specs.Prelude.{ℕ, string_bytes}
use Rattle.um_ctl.specs.Told as model
use Rattle.um_ctl.specs.declared.fault.CtlFault.{CtlFault}
use Rattle.um_ctl.specs.declared.fault.CtlFault.TheVariants.{Usage, TooLarge, NoText, NoConnection, Unread, Late, Input, Read, Write, NoReply, NoMemory}
use Rattle.um_ctl.specs.declared.reply.Told.{Told}
use Rattle.um_stream.specs.declared.fault.Fault.{Fault}
use Rattle.um_stream.specs.declared.fault.Fault.TheVariants as stream

abbrev pub told_view : Told → model.Told
told_view t = record { output = string_bytes t.output; error = string_bytes t.error; status = t.status }

-- the exit status: 1 refused, 2 wrong words, 4 nobody read the request, 5 reading or writing failed, 6 the time was up
abbrev pub status_of : CtlFault → ℕ
status_of Usage = 2
status_of TooLarge = 1
status_of NoText = 2
status_of (NoConnection e) = 4
status_of Unread = 4
status_of (Late seconds) = 6
status_of (Input e) = 5
status_of (Read e) = 5
status_of (Write e) = 5
status_of NoReply = 5
status_of NoMemory = 1

-- a fault of the connection
abbrev pub fault_of : Fault → CtlFault
fault_of (stream.Read e) = Read e
fault_of (stream.Write e) = Write e
fault_of stream.NoMemory = NoMemory
