use Rattle.std.proofs.Common.{◌∙◌}
use Rattle.um_keeper.proofs.Underway.{then_settled}
use Rattle.um_keeper.proofs.recording.write_anew.Goals as goal

pub returns-in_err-renew-clause-during : goal.returns-in_err-renew-clause-during
returns-in_err-renew-clause-during g c h s taken under = c.renew.ensures.during h s taken under

pub returns-in_err-advance-clause-during : goal.returns-in_err-advance-clause-during
returns-in_err-advance-clause-during g c h s taken under =
    then_settled c.renew.ensures.layout (c.renew.ensures.during h s taken under) (c.advance.ensures.during (c.renew.ensures.honest ∙ h) s taken _ (c.in_ok-renew.ensures.ok h s taken under))

pub returns-clause-during : goal.returns-clause-during
returns-clause-during g c h s taken under =
    then_settled c.renew.ensures.layout (c.renew.ensures.during h s taken under) (c.advance.ensures.during (c.renew.ensures.honest ∙ h) s taken _ (c.in_ok-renew.ensures.ok h s taken under))

pub returns-clause-ok : goal.returns-clause-ok
returns-clause-ok g c h s taken under = c.in_ok-advance.ensures.under (c.renew.ensures.honest ∙ h) s taken _ (c.in_ok-renew.ensures.ok h s taken under)
