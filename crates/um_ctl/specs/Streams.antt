-- The parts that are read from an input: the text of a file, and the frame of a reply.
-- No manual page has this: it is the project's own protocol (docs/FORMATS.md, "Frames" and "The program").
-- The client stands on this file.
use Rattle.std.specs.Prelude.{◌≡◌, ◌≤◌, ◌<◌, ℕ, List, ◌++◌, length, Bool, true, false, Option, Some, None, IsUtf8, string_bytes}
use Rattle.std.specs.Io.KnownBytes.{Appends, Consumes, IsAtEnd, Keeps}
use Rattle.byteorder.specs.Endian.{big_number}
use Rattle.um_model.specs.Frames.{frame_of}
use Rattle.um_model.specs.Replies.{reply_limit}
use Rattle.um_ctl.specs.declared.text.FileText.{FileText}
use Rattle.um_ctl.specs.declared.text.FileText.TheVariants.{Text, TooLarge, NoText}

-- the longest text of a file, in bytes
abbrev pub text_limit : ℕ
text_limit = 65536

-- the bytes read from the input are too many for the text of a file
abbrev pub IsTooLong : Option (List ℕ) → Option (List ℕ) → Type 0
IsTooLong old new = (bytes : List ℕ) × Consumes old new bytes × (text_limit < length bytes)

-- the input up to its end isn't too long, and isn't UTF-8
abbrev pub IsUnreadable : Option (List ℕ) → Option (List ℕ) → Type 0
IsUnreadable old new = (bytes : List ℕ) × Consumes old new bytes × (length bytes ≤ text_limit) × (¬ IsUtf8 bytes) × IsAtEnd new

-- the input up to its end is the text of a file, or it is too long, or isn't UTF-8
abbrev pub IsFileText : Option (List ℕ) → Option (List ℕ) → FileText → Type 0
IsFileText old new (Text text) = Consumes old new (string_bytes text) × (length (string_bytes text) ≤ text_limit) × IsAtEnd new
IsFileText old new TooLarge = IsTooLong old new
IsFileText old new NoText = IsUnreadable old new

-- a text was read, if the verb takes one
abbrev pub IsTextRead : Bool → Option (List ℕ) → Option (List ℕ) → Option (List ℕ) → Type 0
IsTextRead true old new (Some text) = Consumes old new text × (length text ≤ text_limit) × IsAtEnd new
IsTextRead true old new None = ⊥
IsTextRead false old new (Some text) = ⊥
IsTextRead false old new None = Keeps old new

-- a frame was taken that holds a reply
abbrev pub TakesReply : Option (List ℕ) → Option (List ℕ) → List ℕ → Type 0
TakesReply old new reply =
    (header : List ℕ) × (length header ≡ 4) × (big_number 4 header ≡ length reply) × (length reply ≤ reply_limit) × Consumes old new (header ++ reply)

-- a beginning of the frame of a request was written, and nothing else
abbrev pub BeginsFrame : List ℕ → Option (List ℕ) → Option (List ℕ) → Type 0
BeginsFrame request old new = (front more : List ℕ) × (frame_of request ≡ front ++ more) × Appends old new front
