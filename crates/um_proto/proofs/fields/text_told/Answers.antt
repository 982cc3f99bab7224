use Rattle.std.proofs.Common.{refl}
use Rattle.um_model.specs.Requests.{text_told}
use Rattle.um_proto.proofs.fields.text_told.Goals as goal

pub returns-then-contains : goal.returns-then-contains
unfolding text_told
returns-then-contains c = rw (← c.in_ok-get.ensures, ← c.in_ok-text.ensures, ← c.as_bytes.ensures.value, ← c.if-contains.ensures.value) refl
