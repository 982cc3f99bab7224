use Rattle.std.proofs.Common.{refl}
use Rattle.um_keeper.specs.Keepers.{state_in, size_in, layout_in}
use Rattle.um_memory.proofs.Opened.{opened_first, size_first}
use Rattle.um_memory.proofs.Results.{if_ok_both}
use Rattle.std.proofs.lemmas.Result.{IfOk-weaker}
use Rattle.um_memory.proofs.store.new_store.Goals as goal

pub returns-in-Ok-clause-state : goal.returns-in-Ok-clause-state
returns-in-Ok-clause-state c =
    IfOk-weaker c.open_store.result _ _ (λ new stands.
    (opened_first c.create.new.disk c.layout-layout.result (layout_in new) (state_in new) (c.in-Ok.ensures.ok refl) stands).1)
    c.open_store.ensures.stands

pub returns-in-Ok-clause-size : goal.returns-in-Ok-clause-size
returns-in-Ok-clause-size c =
    if_ok_both c.open_store.result _ _ _ c.open_store.ensures.stands c.open_store.ensures.size (λ new stands size.
    size_first (size_in new) c.layout-layout.result (layout_in new) size
    (opened_first c.create.new.disk c.layout-layout.result (layout_in new) (state_in new) (c.in-Ok.ensures.ok refl) stands).0 c.layout-layout.ensures.slot)
