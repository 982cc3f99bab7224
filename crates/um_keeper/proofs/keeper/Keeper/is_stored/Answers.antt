use Rattle.um_keeper.proofs.Kept.{stores}
use Rattle.um_keeper.proofs.keeper.Keeper.is_stored.Goals as goal

pub returns-clause-stored : goal.returns-clause-stored
returns-clause-stored g c f h = stores (g.met.D.Disk.seen_is_image c.args.self.now.disk h) (c.args.self.now.kept f h)

pub returns-clause-sized : goal.returns-clause-sized
returns-clause-sized g c = c.args.self.now.holds.size_is
