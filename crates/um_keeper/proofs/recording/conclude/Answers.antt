use Rattle.std.proofs.Common.{◌∙◌}
use Rattle.um_laws.proofs.DiskLaws.{followed}
use Rattle.um_keeper.specs.Keeping.{IsBegun}
use Rattle.um_keeper.proofs.recording.conclude.Goals as goal

pub returns-in_err-settle-clause-during : goal.returns-in_err-settle-clause-during
returns-in_err-settle-clause-during g c h s taken state under = c.settle.ensures.during h s taken state under

pub returns-in_err-advance-clause-during : goal.returns-in_err-advance-clause-during
returns-in_err-advance-clause-during g c h s taken state under =
    followed (g.D.Disk.past c.args.disk.now) (g.D.Disk.past c.settle.new.disk) (g.D.Disk.past c.advance.new.disk) (IsBegun c.args.ahead.now.log.layout s taken)
    (c.settle.ensures.during h s taken state under) (c.advance.ensures.during (c.settle.ensures.honest ∙ h) s taken state (c.in_ok-settle.ensures.ok h s taken state under))

pub returns-clause-during : goal.returns-clause-during
returns-clause-during g c h s taken state under =
    followed (g.D.Disk.past c.args.disk.now) (g.D.Disk.past c.settle.new.disk) (g.D.Disk.past c.advance.new.disk) (IsBegun c.args.ahead.now.log.layout s taken)
    (c.settle.ensures.during h s taken state under) (c.advance.ensures.during (c.settle.ensures.honest ∙ h) s taken state (c.in_ok-settle.ensures.ok h s taken state under))

pub returns-clause-under : goal.returns-clause-under
returns-clause-under g c h s taken state under =
    c.in_ok-advance.ensures.under (c.settle.ensures.honest ∙ h) s taken state (c.in_ok-settle.ensures.ok h s taken state under)
