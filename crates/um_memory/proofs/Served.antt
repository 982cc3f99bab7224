-- Replies to a stream, frame by frame, where the bytes of reader and writer are known.
use Rattle.std.proofs.Common.{◌≡◌, ℕ, List, [], ◌++◌, Option, Some, None, Vec, Global, subst}
use Rattle.std.specs.Io.KnownBytes.{Appends}
use Rattle.std.proofs.KnownBytes.{Appends-trans}
use Rattle.um_memory.specs.Managers.{state_of, size_of, kept_of, BeginsReply, nothing, front}
use Rattle.um_memory.specs.Streams.{Comes, WritesFrom, BeginsFrom}
use Rattle.um_memory.specs.declared.frames.Piece.TheVariants.{Frame, End}
use Rattle.um_memory.specs.declared.serving.Manager.{Manager}
use Rattle.um_laws.proofs.FramesLaws.{serves_frame, serves_end}
use Rattle.um_model.specs.Frames.{frame_of, Answers, last_reply}
use Rattle.um_memory.specs.Streams.{stops, in_reply, at_end, goes_on}
use Rattle.um_model.specs.Machine.{State, Reply}
use Rattle.um_model.specs.Replies.{reply_text}
use Rattle.um_model.specs.Service.{Action}
use Rattle.um_model.specs.declared.frames.Ending.{Ending}

pub replies_more : (size : ℕ) (s t : State) (kept left : List Action) (v : Vec ℕ Global) (a a' b b' new : Option (List ℕ)) (e : Ending) (r : Reply)
    → Comes (Frame v) a a' → Answers size s kept v.items r t left → Appends b b' (frame_of (reply_text r)) → WritesFrom size t left a' b' new e
    → WritesFrom size s kept a b new e
replies_more size s t kept left v None a' b b' new e r c answers appended later = tt
replies_more size s t kept left v (Some xs) None b b' new e r c answers appended later = absurd c
replies_more size s t kept left v (Some xs) (Some rest) b b' new e r c answers appended (out, serves, written) =
    (frame_of (reply_text r) ++ out, serves_frame size s t kept left v.items xs rest out r e c answers serves, Appends-trans b b' new _ _ appended written)

pub begins_more : (size : ℕ) (s t : State) (kept left : List Action) (v : Vec ℕ Global) (a a' b b' new : Option (List ℕ)) (r : Reply)
    → Comes (Frame v) a a' → Answers size s kept v.items r t left → Appends b b' (frame_of (reply_text r)) → BeginsFrom size t left a' b' new
    → BeginsFrom size s kept a b new
begins_more size s t kept left v None a' b b' new r c answers appended later = tt
begins_more size s t kept left v (Some xs) None b b' new r c answers appended later = absurd c
begins_more size s t kept left v (Some xs) (Some rest) b b' new r c answers appended (out, begins, written) =
    (frame_of (reply_text r) ++ out, goes_on r c answers begins, Appends-trans b b' new _ _ appended written)

pub replies_end : (size : ℕ) (s : State) (kept : List Action) (a a' b b' : Option (List ℕ)) (e : Ending) → Comes (End e) a a' → Appends b b' (last_reply e)
    → WritesFrom size s kept a b b' e
replies_end size s kept None a' b b' e c w = tt
replies_end size s kept (Some xs) a' b b' e c w = (last_reply e, serves_end size s kept xs e c, w)

pub begins_nothing : (size : ℕ) (s : State) (kept : List Action) (a b b' : Option (List ℕ)) → Appends b b' [] → BeginsFrom size s kept a b b'
begins_nothing size s kept None b b' w = tt
begins_nothing size s kept (Some xs) b b' w = ([], stops, w)

pub begins_frame : (m : Manager) (v : Vec ℕ Global) (a a' b b' : Option (List ℕ)) → Comes (Frame v) a a' → BeginsReply m v.items b b'
    → BeginsFrom (size_of m) (state_of m) (kept_of m) a b b'
begins_frame m v None a' b b' c w = tt
begins_frame m v (Some xs) None b b' c w = absurd c
begins_frame m v (Some xs) (Some rest) b b' c (nothing w) = ([], stops, w)
begins_frame m v (Some xs) (Some rest) b b' c (front r t left part more answers is w) = (part, in_reply r more c answers is, w)

pub begins_end : (size : ℕ) (s : State) (kept : List Action) (a a' b b' : Option (List ℕ)) (e : Ending) (part more : List ℕ) → Comes (End e) a a'
    → last_reply e ≡ part ++ more → Appends b b' part → BeginsFrom size s kept a b b'
begins_end size s kept None a' b b' e part more c is w = tt
begins_end size s kept (Some xs) a' b b' e part more c is w = (part, at_end e more c is, w)

-- the same of a manager whose size, state and actions are as another's
pub replies_same : {k l : ℕ} {s t : State} {x y : List Action} (a b new : Option (List ℕ)) (e : Ending) → l ≡ k → t ≡ s → y ≡ x → WritesFrom l t y a b new e
    → WritesFrom k s x a b new e
replies_same {k} {l} {s} {t} {x} {y} a b new e size state kept w =
    subst (λ z. WritesFrom k s z a b new e) kept (subst (λ z. WritesFrom k z y a b new e) state (subst (λ z. WritesFrom z t y a b new e) size w))

pub begins_same : {k l : ℕ} {s t : State} {x y : List Action} (a b new : Option (List ℕ)) → l ≡ k → t ≡ s → y ≡ x → BeginsFrom l t y a b new → BeginsFrom k s x a b new
begins_same {k} {l} {s} {t} {x} {y} a b new size state kept w =
    subst (λ z. BeginsFrom k s z a b new) kept (subst (λ z. BeginsFrom k z y a b new) state (subst (λ z. BeginsFrom z t y a b new) size w))
