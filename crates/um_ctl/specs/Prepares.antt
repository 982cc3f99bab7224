-- The request that is prepared from the words before any connection, and why there is no report in the end.
-- No manual page has this: it is the project's own (docs/FORMATS.md, "The program").
-- The client stands on this file.
use Rattle.std.specs.Prelude.{⊤, ◌≡◌, ℕ, List, true, Option, Some, None, map, option_map, length, codes, IsUtf8, Vec}
use Rattle.std.specs.Io.KnownBytes.{Keeps}
use Rattle.std.specs.declared.alloc.Global.{Global}
use Rattle.serde_json.specs.Data.{Data}
use Rattle.serde_json.specs.Find.{get}
use Rattle.serde_json.specs.Read.{read}
use Rattle.um_model.specs.Requests.{row_of}
use Rattle.um_model.specs.declared.requests.Verb.{Verb}
use Rattle.um_ctl.specs.Streams.{IsTextRead, IsTooLong, IsUnreadable}
use Rattle.um_ctl.specs.Told.{is_plain, told_of}
use Rattle.um_ctl.specs.View.{told_view}
use Rattle.um_ctl.specs.Words.{verb_of, takes_text, request_data, IsReadAs}
use Rattle.um_ctl.specs.declared.fault.CtlFault.{CtlFault}
use Rattle.um_ctl.specs.declared.fault.CtlFault.TheVariants.{Usage, TooLarge, NoText, Late, Input, NoReply, NoMemory}
use Rattle.um_ctl.specs.declared.reply.Told.{Told}
use Rattle.um_ctl.specs.declared.words.Words.{Words}

-- the verb of the words; none if they are wrong
abbrev pub verb_told : Words → Option Verb
verb_told words = verb_of words.verb.now (length words.arguments.now) (option_map (λ s. s.now) words.mode)

-- the verb of the words, and a text that a manager reads as their request, with the text of a file if the verb takes one
abbrev pub Prepares : Words → Option (List ℕ) → Option (List ℕ) → Verb × Vec ℕ Global → Type 0
Prepares words old new (verb, bytes) =
    (verb_told words ≡ Some verb)
    × (text : Option (List ℕ)) × IsTextRead (takes_text (row_of verb)) old new text
    × IsReadAs bytes.items (request_data verb (map (λ s. s.now) words.arguments.now) text (option_map (λ s. s.now) words.mode))

-- why nothing was prepared: wrong words are reported before the input is read, and that a text is too long before that
-- it isn't UTF-8
abbrev pub IsUnprepared : Option (List ℕ) → Option (List ℕ) → CtlFault → Type 0
IsUnprepared old new Usage = Keeps old new
IsUnprepared old new TooLarge = IsTooLong old new
IsUnprepared old new NoText = IsUnreadable old new
IsUnprepared old new (Input e) = ⊤
IsUnprepared old new NoMemory = ⊤
IsUnprepared old new other = ⊥

-- why there is no report: nothing was prepared, or else the connection failed
abbrev pub IsUntold : Words → Option (List ℕ) → Option (List ℕ) → CtlFault → Type 0
IsUntold words old new Usage = Keeps old new
IsUntold words old new TooLarge = IsTooLong old new
IsUntold words old new NoText = IsUnreadable old new
IsUntold words old new (Input e) = ⊤
IsUntold words old new NoMemory = ⊤
IsUntold words old new other = (prepared : Verb × Vec ℕ Global) × Prepares words old new prepared

-- the text is this value in JSON
abbrev pub IsJson : List ℕ → Data → Type 0
IsJson bytes d = IsUtf8 bytes × (read bytes ≡ Some d)

-- the report of the text of a reply to the verb
abbrev pub TellsReply : Verb → List ℕ → Told → Type 0
TellsReply verb bytes told = (d : Data) × IsJson bytes d × (is_plain (get (codes "value") d) ≡ true → told_of verb d ≡ Some (told_view told))

-- a request was prepared, and this is the report of a reply to it
abbrev pub IsAsked : Words → Option (List ℕ) → Option (List ℕ) → Told → Type 0
IsAsked words old new told =
    (prepared : Verb × Vec ℕ Global) × Prepares words old new prepared × (bytes : List ℕ) × TellsReply prepared.0 bytes told

-- why the text of a reply to the verb has no report: it is no reply, or there was no memory
abbrev pub IsNoReply : Verb → List ℕ → CtlFault → Type 0
IsNoReply verb bytes NoReply = (d : Data) → IsJson bytes d → is_plain (get (codes "value") d) ≡ true → told_of verb d ≡ None
IsNoReply verb bytes NoMemory = ⊤
IsNoReply verb bytes other = ⊥

-- only a time that is given can be up
abbrev pub IsLateBy : Option ℕ → CtlFault → Type 0
IsLateBy timeout (Late seconds) = timeout ≡ Some seconds
IsLateBy timeout other = ⊤

-- a fault of the connection, with this time for the reply
abbrev pub IsOfConnection : Option ℕ → CtlFault → Type 0
IsOfConnection timeout Usage = ⊥
IsOfConnection timeout TooLarge = ⊥
IsOfConnection timeout NoText = ⊥
IsOfConnection timeout (Input e) = ⊥
IsOfConnection timeout NoReply = ⊥
IsOfConnection timeout (Late seconds) = timeout ≡ Some seconds
IsOfConnection timeout other = ⊤
