use Rattle.std.proofs.Common.{refl}
use Rattle.um_keeper.specs.Keepers.{disk_in, state_in, size_in, layout_in}
use Rattle.um_memory.proofs.Opened.{opened_again, size_again}
use Rattle.um_memory.proofs.Results.{if_ok_both}
use Rattle.std.proofs.lemmas.Result.{IfOk-weaker}
use Rattle.um_memory.proofs.store.renewed.Goals as goal

pub returns-clause-state : goal.returns-clause-state
returns-clause-state c =
    let k = c.args.keeper in
    IfOk-weaker c.open_store.result _ _ (λ new stands.
    (opened_again c.into_disk.result (disk_in k) c.settled.result (layout_in k) (layout_in new) (state_in k) (state_in new) c.into_disk.ensures c.settled.ensures.start
    c.settled.ensures.fresh (c.is_stored.ensures.stored c.requires.working refl) stands).1)
    c.open_store.ensures.stands

pub returns-clause-size : goal.returns-clause-size
returns-clause-size c =
    let k = c.args.keeper in
    if_ok_both c.open_store.result _ _ _ c.open_store.ensures.stands c.open_store.ensures.size (λ new stands size.
    size_again (size_in new) (size_in k) (layout_in k) (layout_in new) size c.is_stored.ensures.sized
    (opened_again c.into_disk.result (disk_in k) c.settled.result (layout_in k) (layout_in new) (state_in k) (state_in new) c.into_disk.ensures c.settled.ensures.start
    c.settled.ensures.fresh (c.is_stored.ensures.stored c.requires.working refl) stands).0)
