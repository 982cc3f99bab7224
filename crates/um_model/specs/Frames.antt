-- Streams of frames, and the replies to the stream of one client over standard input.
-- No manual page has this: it is the project's own protocol (docs/FORMATS.md, "Frames").
-- The program depends on this file.
use Rattle.std.specs.Prelude.{◌≡◌, ℕ, ◌<◌, ◌≤◌, List, [], ◌∷◌, ◌++◌, length, if◌then◌else◌, Option, unwrap_or, Ok, Err}
use Rattle.byteorder.specs.Endian.{big_number, big_bytes}
use Rattle.um_model.specs.Refusals.{Refused, too_large}
use Rattle.um_model.specs.Service.{Action}
use Rattle.um_model.specs.Profiles.{current}
use Rattle.um_model.specs.Machine.{State, Input, Query, Event, Step, Reply, Told, Refusal, IsReplyTo}
use Rattle.um_model.specs.Requests.{OfEvent, OfQuery, OfActions, request_of}
use Rattle.um_model.specs.Replies.{reply_text, is_told_whole}
use Rattle.um_model.specs.declared.refusals.Limit.TheVariants.{Frame}
use Rattle.um_model.specs.declared.requests.Mode.TheVariants.{Memory}
use Rattle.um_model.specs.declared.frames.Ending.{Ending}
use Rattle.um_model.specs.declared.frames.Ending.TheVariants.{Between, Inside, TooLong}

-- the longest frame of a request, in bytes
abbrev pub frame_limit : ℕ
frame_limit = 524288

-- a frame: its length in four bytes, the highest first, and then that many bytes
unfoldable pub frame_of : List ℕ → List ℕ
frame_of text = big_bytes 4 (length text) ++ text

-- the stream begins with a frame that holds these bytes
pub record BeginsWith (stream frame rest : List ℕ) : Type 0 where
  pub header : List ℕ
  pub four : length header ≡ 4
  pub length_is : big_number 4 header ≡ length frame
  pub short : length frame ≤ frame_limit
  pub whole : stream ≡ header ++ (frame ++ rest)

-- less than a whole frame: some bytes of a length, or a length with fewer bytes after it
pub data IsPartial (stream : List ℕ) : Type 0 where
  in_header : 0 < length stream → length stream < 4 → IsPartial stream
  in_body : (header body : List ℕ) → length header ≡ 4 → big_number 4 header ≤ frame_limit → length body < big_number 4 header
      → stream ≡ header ++ body → IsPartial stream

-- the stream begins with a length past the limit
pub record BeginsTooLong (stream : List ℕ) : Type 0 where
  pub header : List ℕ
  pub rest : List ℕ
  pub four : length header ≡ 4
  pub long : frame_limit < big_number 4 header
  pub whole : stream ≡ header ++ rest

-- how a stream ends: between two frames, inside one, or at a length past the limit
abbrev pub EndsSo : List ℕ → Ending → Type 0
EndsSo stream Between = stream ≡ []
EndsSo stream Inside = IsPartial stream
EndsSo stream TooLong = BeginsTooLong stream

-- the stream consists of these frames and ends in this way
pub data IsStream : List ℕ → List (List ℕ) → Ending → Type 0 where
  ends : {stream : List ℕ} {ending : Ending} → EndsSo stream ending → IsStream stream [] ending
  frame : {stream rest bytes : List ℕ} {frames : List (List ℕ)} {ending : Ending} → BeginsWith stream bytes rest
      → IsStream rest frames ending → IsStream stream (bytes ∷ frames) ending

-- the input of a request, of the current profile: its moment is the request's, or the clock's if the request has none
abbrev pub input_of : State → Option ℕ → Event → Input
input_of s at e = record { profile = current; moment = unwrap_or at s.clock; event = e }

-- the actions that are kept after a query for them: none, unless their reply would have been too long
abbrev pub kept_after : List Action → List Action
kept_after kept = if is_told_whole (Told kept) then [] else kept

-- the reply to a frame over a store of `size` bytes, and the state and the actions kept after it
pub data Answers (size : ℕ) (s : State) (kept : List Action) (bytes : List ℕ) : Reply → State → List Action → Type 0 where
  unread : (r : Refused) → request_of Memory bytes ≡ Err r → Answers size s kept bytes (Refusal r) s kept
  queried : (at : Option ℕ) (q : Query) (reply : Reply) → request_of Memory bytes ≡ Ok (record { at = at; asked = OfQuery q })
      → IsReplyTo s q reply → Answers size s kept bytes reply s kept
  told : (at : Option ℕ) → request_of Memory bytes ≡ Ok (record { at = at; asked = OfActions }) → Answers size s kept bytes (Told kept) s (kept_after kept)
  stepped : (at : Option ℕ) (e : Event) (reply : Reply) (actions : List Action) (t : State)
      → request_of Memory bytes ≡ Ok (record { at = at; asked = OfEvent e }) → Step size s (input_of s at e) reply actions t
      → Answers size s kept bytes reply t (kept ++ actions)

-- the bytes written at the end of a stream: the refusal of a length past the limit, else none
abbrev pub last_reply : Ending → List ℕ
last_reply TooLong = frame_of (reply_text (Refusal (too_large Frame)))
last_reply other = []

-- the bytes written for the frames from a state on, with the actions kept: one reply each, and the last reply at the end
pub data AreReplies (size : ℕ) (ending : Ending) : State → List Action → List (List ℕ) → List ℕ → Type 0 where
  last : {s : State} {kept : List Action} → AreReplies size ending s kept [] (last_reply ending)
  reply : {s t : State} {kept left : List Action} {bytes out : List ℕ} {frames : List (List ℕ)} (r : Reply) → Answers size s kept bytes r t left
      → AreReplies size ending t left frames out → AreReplies size ending s kept (bytes ∷ frames) (frame_of (reply_text r) ++ out)

-- the bytes written for a stream from a state on, with the actions kept, over a store of `size` bytes
pub record Serves (size : ℕ) (s : State) (kept : List Action) (stream out : List ℕ) (ending : Ending) : Type 0 where
  pub frames : List (List ℕ)
  pub read : IsStream stream frames ending
  pub written : AreReplies size ending s kept frames out
