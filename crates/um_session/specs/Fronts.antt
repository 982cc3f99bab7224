-- The front of bytes, as the code sees it.
-- No manual page has this: it is the project's own protocol (docs/FORMATS.md, "Frames").
-- Sessions stand on this file.
use Rattle.std.specs.Prelude.{◌≡◌, ◌⊎◌, ◌+◌, ◌≤◌, List, [], ℕ, length, take, drop}
use Rattle.um_model.specs.Frames.{BeginsWith, IsPartial, BeginsTooLong}
use Rattle.um_session.specs.declared.front.FrameFront.{FrameFront}
use Rattle.um_session.specs.declared.front.FrameFront.TheVariants.{Partial, TooLong, Frame}

-- less than a frame, a length past the limit, or a frame of this many bytes after its length
abbrev pub IsFront : List ℕ → FrameFront → Type 0
IsFront stream Partial = (stream ≡ []) ⊎ IsPartial stream
IsFront stream TooLong = BeginsTooLong stream
IsFront stream (Frame size) = (size + 4 ≤ length stream) × BeginsWith stream (take size (drop 4 stream)) (drop (size + 4) stream)
