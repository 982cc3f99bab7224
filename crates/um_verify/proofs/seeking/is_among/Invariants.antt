use Rattle.std.proofs.Common.{◌≡◌, map, drop}
use Rattle.um_model.specs.Requests.{is_among}
use Rattle.um_verify.proofs.seeking.is_among.Given as goal

-- the text is none of those so far
abbrev pub invariant-loop-other : goal.invariant-loop-other
invariant-loop-other l = is_among l.text (map (λ s. s.now) (drop l.other-index l.texts)) ≡ is_among l.text (map (λ s. s.now) l.texts)
