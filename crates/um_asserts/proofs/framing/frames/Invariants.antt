use Rattle.std.proofs.Common.{◌≡◌, take}
use Rattle.std.specs.List.{flat_map}
use Rattle.um_model.specs.Frames.{frame_of}
use Rattle.um_asserts.proofs.framing.frames.Given as goal

-- the frames of the texts so far
abbrev pub invariant-loop-text : goal.invariant-loop-text
invariant-loop-text l = l.bytes.items ≡ flat_map (λ text. frame_of text.now) (take l.text-index l.texts)
