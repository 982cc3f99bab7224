use Rattle.std.proofs.Common.{◌∙◌}
use Rattle.um_engine.specs.Engine.{state_in}
use Rattle.um_keeper.proofs.Kept.{stores}
use Rattle.um_keeper.proofs.Offered.{opening_leaves, some_stores}
use Rattle.um_keeper.proofs.Reopening.{stays_before, refused_before}
use Rattle.um_keeper.proofs.keeper.Keeper.open.Goals as goal

pub returns-in-Ok-clause-during : goal.returns-in-Ok-clause-during
returns-in-Ok-clause-during g c h layout all =
    stays_before layout (g.D.Disk.past c.args.disk) all (g.met.D.Disk.seen_is_image c.args.disk h) c.in-Ok.held.log.layout (state_in c.in-Ok.held.engine) (g.D.Disk.past c.recover.new.disk) (c.in-Ok.ensures.stays h)

pub returns-in-Err-clause-during_err : goal.returns-in-Err-clause-during_err
returns-in-Err-clause-during_err g c h layout all =
    refused_before layout (g.D.Disk.past c.args.disk) all (g.met.D.Disk.seen_is_image c.args.disk h) c.in-Err.refusal (g.D.Disk.past c.recover.new.disk) (c.in-Err.ensures.unwritten h)

pub returns-in-Ok-clause-stands : goal.returns-in-Ok-clause-stands
returns-in-Ok-clause-stands g c h = (c.in-Ok.ensures.stays h).stands

pub returns-in-Ok-clause-stored : goal.returns-in-Ok-clause-stored
returns-in-Ok-clause-stored g c h = stores (g.met.D.Disk.seen_is_image c.recover.new.disk (c.recover.ensures.honest ∙ h)) (c.in-Ok.ensures.ok h)

pub returns-in-Ok-clause-sized : goal.returns-in-Ok-clause-sized
returns-in-Ok-clause-sized g c = c.in-Ok.ensures.kept.size_is

pub returns-in-Ok-clause-life : goal.returns-in-Ok-clause-life
returns-in-Ok-clause-life g c h layout s before left =
    opening_leaves layout s before (g.D.Disk.past c.args.disk) (g.D.Disk.past c.recover.new.disk) left
    (returns-in-Ok-clause-during g c h layout (some_stores layout s before (g.D.Disk.past c.args.disk) left))

pub returns-in-Err-clause-life_err : goal.returns-in-Err-clause-life_err
returns-in-Err-clause-life_err g c h layout s before left =
    opening_leaves layout s before (g.D.Disk.past c.args.disk) (g.D.Disk.past c.recover.new.disk) left
    (returns-in-Err-clause-during_err g c h layout (some_stores layout s before (g.D.Disk.past c.args.disk) left))
