use Rattle.std.proofs.Common.{sym, subst}
use Rattle.std.specs.Bool.{IsTrue}
use Rattle.um_manager.proofs.Adoption.{heard_behind}
use Rattle.um_manager.proofs.opening.claim_live.Goals as goal

pub returns-clause-hears : goal.returns-clause-hears
returns-clause-hears g c =
    heard_behind _ _ _ _ _ _ _ _ _ _ _ _ (subst IsTrue (sym c.forget_others-forgotten.ensures.honest)) c.claim_all.ensures.children.whole c.forget_others-forgotten.ensures.past c.claim_all.ensures.hears
