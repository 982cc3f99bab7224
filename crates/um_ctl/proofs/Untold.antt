-- The request and its report, and the fault if there is no report, by the step that failed.
use Rattle.std.proofs.Common.{ℕ, List, Option, Vec, Global, Result, Ok, Err, IfOk, IfErr}
use Rattle.um_ctl.specs.Prepares.{Prepares, IsAsked, IsLateBy, IsOfConnection, IsUnprepared, IsUntold, IsNoReply, TellsReply}
use Rattle.um_ctl.specs.declared.fault.CtlFault.{CtlFault}
use Rattle.um_ctl.specs.declared.fault.CtlFault.TheVariants.{Usage, TooLarge, NoText, NoConnection, Unread, Late, Input, Read, Write, NoReply, NoMemory}
use Rattle.um_ctl.specs.declared.reply.Told.{Told}
use Rattle.um_ctl.specs.declared.words.Words.{Words}
use Rattle.um_model.specs.declared.requests.Verb.{Verb}

-- the connection failed
pub untold_meanwhile : (words : Words) (old new : Option (List ℕ)) (p : Verb × Vec ℕ Global) (timeout : Option ℕ) (e : CtlFault) → Prepares words old new p
    → IsOfConnection timeout e → IsUntold words old new e
untold_meanwhile words old new p timeout Usage h is = absurd is
untold_meanwhile words old new p timeout TooLarge h is = absurd is
untold_meanwhile words old new p timeout NoText h is = absurd is
untold_meanwhile words old new p timeout (NoConnection e) h is = (p, h)
untold_meanwhile words old new p timeout Unread h is = (p, h)
untold_meanwhile words old new p timeout (Late seconds) h is = (p, h)
untold_meanwhile words old new p timeout (Input e) h is = absurd is
untold_meanwhile words old new p timeout (Read e) h is = (p, h)
untold_meanwhile words old new p timeout (Write e) h is = (p, h)
untold_meanwhile words old new p timeout NoReply h is = absurd is
untold_meanwhile words old new p timeout NoMemory h is = tt

-- a fault of the connection has the given time
pub late_meanwhile : (timeout : Option ℕ) (e : CtlFault) → IsOfConnection timeout e → IsLateBy timeout e
late_meanwhile timeout Usage is = tt
late_meanwhile timeout TooLarge is = tt
late_meanwhile timeout NoText is = tt
late_meanwhile timeout (NoConnection e) is = tt
late_meanwhile timeout Unread is = tt
late_meanwhile timeout (Late seconds) is = is
late_meanwhile timeout (Input e) is = tt
late_meanwhile timeout (Read e) is = tt
late_meanwhile timeout (Write e) is = tt
late_meanwhile timeout NoReply is = tt
late_meanwhile timeout NoMemory is = tt

-- nothing was prepared, so that no time was up
pub late_before : (timeout : Option ℕ) (old new : Option (List ℕ)) (e : CtlFault) → IsUnprepared old new e → IsLateBy timeout e
late_before timeout old new Usage is = tt
late_before timeout old new TooLarge is = tt
late_before timeout old new NoText is = tt
late_before timeout old new (NoConnection e) is = tt
late_before timeout old new Unread is = tt
late_before timeout old new (Late seconds) is = absurd is
late_before timeout old new (Input e) is = tt
late_before timeout old new (Read e) is = tt
late_before timeout old new (Write e) is = tt
late_before timeout old new NoReply is = tt
late_before timeout old new NoMemory is = tt

-- the received bytes are no reply, so that no time was up
late_after : (timeout : Option ℕ) (verb : Verb) (bytes : List ℕ) (e : CtlFault) → IsNoReply verb bytes e → IsLateBy timeout e
late_after timeout verb bytes Usage is = tt
late_after timeout verb bytes TooLarge is = tt
late_after timeout verb bytes NoText is = tt
late_after timeout verb bytes (NoConnection e) is = tt
late_after timeout verb bytes Unread is = tt
late_after timeout verb bytes (Late seconds) is = absurd is
late_after timeout verb bytes (Input e) is = tt
late_after timeout verb bytes (Read e) is = tt
late_after timeout verb bytes (Write e) is = tt
late_after timeout verb bytes NoReply is = tt
late_after timeout verb bytes NoMemory is = tt

-- the received bytes are no reply
pub untold_after : (words : Words) (old new : Option (List ℕ)) (p : Verb × Vec ℕ Global) (verb : Verb) (bytes : List ℕ) (e : CtlFault)
    → Prepares words old new p → IsNoReply verb bytes e → IsUntold words old new e
untold_after words old new p verb bytes Usage h none = absurd none
untold_after words old new p verb bytes TooLarge h none = absurd none
untold_after words old new p verb bytes NoText h none = absurd none
untold_after words old new p verb bytes (NoConnection e) h none = absurd none
untold_after words old new p verb bytes Unread h none = absurd none
untold_after words old new p verb bytes (Late seconds) h none = absurd none
untold_after words old new p verb bytes (Input e) h none = absurd none
untold_after words old new p verb bytes (Read e) h none = absurd none
untold_after words old new p verb bytes (Write e) h none = absurd none
untold_after words old new p verb bytes NoReply h none = (p, h)
untold_after words old new p verb bytes NoMemory h none = tt

-- the same for a function's result
pub untold_reply : {T : Type 0} (words : Words) (old new : Option (List ℕ)) (p : Verb × Vec ℕ Global) (verb : Verb) (bytes : List ℕ) (r : Result T CtlFault)
    → Prepares words old new p → IfErr r (IsNoReply verb bytes) → IfErr r (IsUntold words old new)
untold_reply words old new p verb bytes (Ok t) h none = tt
untold_reply words old new p verb bytes (Err e) h none = untold_after words old new p verb bytes e h none

pub late_reply : {T : Type 0} (timeout : Option ℕ) (verb : Verb) (bytes : List ℕ) (r : Result T CtlFault) → IfErr r (IsNoReply verb bytes)
    → IfErr r (IsLateBy timeout)
late_reply timeout verb bytes (Ok t) none = tt
late_reply timeout verb bytes (Err e) none = late_after timeout verb bytes e none

pub asked : (words : Words) (old new : Option (List ℕ)) (p : Verb × Vec ℕ Global) (bytes : List ℕ) (r : Result Told CtlFault) → Prepares words old new p
    → IfOk r (TellsReply p.0 bytes) → IfOk r (IsAsked words old new)
asked words old new p bytes (Ok t) h told = (p, h, bytes, told)
asked words old new p bytes (Err e) h told = tt
