use Rattle.std.proofs.Common.{length, subst, ap, arith}
use Rattle.std.specs.Str.{IsUtf8}
use Rattle.std.proofs.lemmas.Str.{IsCharBoundary-after_ascii}
use Rattle.um_text.proofs.trimming.trim_start.Goals as goal

pub range_from-rest-requires : goal.range_from-rest-requires
range_from-rest-requires c = λ _.
    let rest = c.loop-rest.rest.now in
    IsCharBoundary-after_ascii rest 0 (subst IsUtf8 c.as_bytes.ensures.value c.as_bytes.ensures.utf8) (omega (arith, ap length c.as_bytes.ensures.value)) (grind arith)
