use Rattle.std.proofs.Common.{◌∙◌, subst}
use Rattle.std.specs.Bool.{IsTrue}
use Rattle.um_sector.specs.Fused.{IsAsked}
use Rattle.um_sector.proofs.fuse.FuseDisk.write.Goals as goal

pub returns-then-burns-clause-made : goal.returns-then-burns-clause-made
returns-then-burns-clause-made g c due makes =
    let D = g.D.Disk in
    let new = c.fail_write.new.self.inner in
    subst (λ d. IsAsked (IsTrue (D.honest d)) (D.failures d) (D.failures new) (D.past d) c.args.k c.args.sector.now (D.past new)) c.burns.ensures.inner
    (c.fail_write.ensures.made (c.burns.ensures.fails.1 ∙ makes))
