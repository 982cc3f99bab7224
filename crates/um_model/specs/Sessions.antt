-- Sessions: the bytes of one client, cut anywhere, as the requests that they are, and the replies to it as frames.
-- No manual page has this: it is the project's own protocol (docs/FORMATS.md, "Frames").
-- Sessions and the running manager depend on this file.
use Rattle.std.specs.Prelude.{◌≡◌, ◌⊎◌, ℕ, List, [], ◌∷◌, ◌++◌, map, Bool, true, false, if◌then◌else◌, Option, Some, None, Result, Err}
use Rattle.std.specs.Option.{option_to_list}
use Rattle.um_model.specs.Frames.{frame_of, BeginsWith, IsPartial, BeginsTooLong}
use Rattle.um_model.specs.Refusals.{Refused, too_large}
use Rattle.um_model.specs.Requests.{Request, request_of}
use Rattle.um_model.specs.declared.refusals.Limit.TheVariants.{Frame}
use Rattle.um_model.specs.declared.requests.Mode.TheVariants.{Service}

-- a session
pub record Session : Type 0 where
  pub rest : List ℕ  -- the bytes that came and aren't read yet
  pub output : List ℕ  -- the bytes that were put out and aren't taken yet
  pub failed : Bool  -- it has failed, and reads no more
  pub room : ℕ  -- the number of bytes that can come without more memory

-- a request, or why the bytes in its place are none
abbrev pub Asked : Type 0
Asked = Result Request Refused

-- new bytes come after those that are there; a session that has failed takes none
abbrev pub fed : Session → List ℕ → List ℕ
fed s bytes = if s.failed then s.rest else s.rest ++ bytes

-- the next reading: the request of the first frame, once it is whole; a length past the limit is refused at once, and the session has failed
pub data Reads (s t : Session) : Option Asked → Type 0 where
  waits : (s.failed ≡ true) ⊎ ((s.rest ≡ []) ⊎ IsPartial s.rest) → t ≡ s → Reads s t None
  takes : {bytes rest : List ℕ} → s.failed ≡ false → BeginsWith s.rest bytes rest → t ≡ record s { rest = rest } → Reads s t (Some (request_of Service bytes))
  refuses : s.failed ≡ false → BeginsTooLong s.rest → t ≡ record s { failed = true } → Reads s t (Some (Err (too_large Frame)))

-- ---- the life of a session

-- an operation on a session
pub data Deed : Type 0 where
  -- room is made for bytes
  Room : Deed
  -- bytes come
  Feed : (bytes : List ℕ) → Deed
  -- the next request is read, if there is one
  Read : (asked : Option Asked) → Deed
  -- a reply is put out
  Put : (text : List ℕ) → Deed
  -- a reply finds no memory, or no frame holds it: nothing of it is put out, and the session has failed
  GiveUp : Deed
  -- the output is taken
  Take : (bytes : List ℕ) → Deed

-- one deed; how much room there is afterwards is left open
abbrev pub Does : Session → Deed → Session → Type 0
Does s Room t = (t.rest ≡ s.rest) × (t.output ≡ s.output) × (t.failed ≡ s.failed)
Does s (Feed bytes) t = (t.rest ≡ fed s bytes) × (t.output ≡ s.output) × (t.failed ≡ s.failed)
Does s (Read asked) t = Reads s t asked
Does s (Put text) t = (t.rest ≡ s.rest) × (t.output ≡ s.output ++ frame_of text) × (t.failed ≡ s.failed)
Does s GiveUp t = (t.rest ≡ s.rest) × (t.output ≡ s.output) × (t.failed ≡ true)
Does s (Take bytes) t = (t.rest ≡ s.rest) × (t.output ≡ []) × (t.failed ≡ s.failed) × (bytes ≡ s.output)

-- one deed after another
pub data Lives : Session → List Deed → Session → Type 0 where
  rests : {s : Session} → Lives s [] s
  goes_on : {s t u : Session} {deed : Deed} {deeds : List Deed} → Does s deed t → Lives t deeds u → Lives s (deed ∷ deeds) u

-- the bytes that came
abbrev pub bytes_fed : Deed → List ℕ
bytes_fed (Feed bytes) = bytes
bytes_fed other = []

-- the reading of a deed, if any
abbrev pub readings : Deed → List Asked
readings (Read asked) = option_to_list asked
readings other = []

-- the bytes that were put out
abbrev pub frames_put : Deed → List ℕ
frames_put (Put text) = frame_of text
frames_put other = []

-- the bytes that were taken
abbrev pub bytes_taken : Deed → List ℕ
bytes_taken (Take bytes) = bytes
bytes_taken other = []

-- the stream consists of these frames and the bytes after them
pub data AreFrames : List ℕ → List (List ℕ) → List ℕ → Type 0 where
  none : {stream : List ℕ} → AreFrames stream [] stream
  frame : {stream rest behind bytes : List ℕ} {frames : List (List ℕ)} → BeginsWith stream bytes rest → AreFrames rest frames behind
      → AreFrames stream (bytes ∷ frames) behind

-- the readings of frames: their requests, and maybe, if a length past the limit follows them, its refusal
pub data AreRead (frames : List (List ℕ)) (behind : List ℕ) : List Asked → Type 0 where
  whole : AreRead frames behind (map (request_of Service) frames)
  cut : BeginsTooLong behind → AreRead frames behind (map (request_of Service) frames ++ (Err (too_large Frame) ∷ []))

-- the readings of a stream are of its first frames, in their order; a session that hasn't failed still holds the bytes after these
pub record IsReadOf (stream : List ℕ) (asked : List Asked) (u : Session) : Type 0 where
  pub frames : List (List ℕ)
  pub behind : List ℕ
  pub are : AreFrames stream frames behind
  pub read : AreRead frames behind asked
  pub left : u.failed ≡ false → behind ≡ u.rest
