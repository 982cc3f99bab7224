use Rattle.std.proofs.Common.{true, List, [], ap, map, not, refl, subst}
use Rattle.std.specs.Bool.{IsTrue}
use Rattle.um_children.specs.Calls.{call_of, calls_of}
use Rattle.um_children.specs.declared.fake.FakeChildren.{FakeChildren}
use Rattle.um_instance.specs.Instances.{SoFar}
use Rattle.um_keeper.specs.Keepers.{disk_in, layout_in}
use Rattle.um_manager.specs.Turns.{Now, now_in}
use Rattle.um_model.specs.Children.{Call}
use Rattle.um_sector.specs.Left.{IsLeftBy}
use Rattle.um_sector.specs.Memory.{history}
use Rattle.um_sector.specs.declared.memory.MemDisk.{MemDisk}
use Rattle.um_instance.proofs.Instances.{instance_of}
use Rattle.um_instance.proofs.lives.two_lives.Goals as goal

-- children in memory are honest, and whole where no call is missing
abbrev Known : FakeChildren → Type 0
Known children = IsTrue true × IsTrue (not children.lost)

pub returns-in-Ok-life-2 : goal.returns-in-Ok-life-2
returns-in-Ok-life-2 c =
    let first = c.in-Ok-life.first in
    let second = c.in-Ok-life-2.second in
    let parts = c.into_parts-disk.ensures in
    let there : Now = now_in first.keeper (calls_of first.children.calls.items) first.marks first.sessions.items (history (disk_in first.keeper)) in
    let behind : Now = now_in second.keeper (calls_of second.children.calls.items) second.marks second.sessions.items (history (disk_in second.keeper)) in
    let begun : SoFar (layout_in first.keeper) (history c.in-Ok.disk) [] (IsTrue true) (Known first.children) there =
    subst (λ (calls : List Call). SoFar (layout_in first.keeper) (history c.in-Ok.disk) calls (IsTrue true) (Known first.children) there)
    (ap (λ l. map call_of l) c.new.ensures.calls) c.in-Ok-life.ensures.so_far in
    let then : SoFar (layout_in second.keeper) (history c.in-Ok-crash.crashed) there.past (IsTrue true) (Known second.children) behind =
    subst (λ (f : FakeChildren). SoFar (layout_in second.keeper) (history c.in-Ok-crash.crashed) (calls_of f.calls.items) (IsTrue true) (Known second.children) behind)
    parts.children c.in-Ok-life-2.ensures.so_far in
    let left : IsLeftBy there.disk (history c.in-Ok-crash.crashed) =
    subst (λ (d : MemDisk). IsLeftBy (history d) (history c.in-Ok-crash.crashed)) parts.disk c.in-Ok-crash.ensures.found in
    let less : IsTrue (not second.children.lost) → Known first.children =
    λ known. (refl, subst (λ (f : FakeChildren). IsTrue (not f.lost)) parts.children (c.in-Ok-life-2.ensures.whole known)) in
    let too : IsTrue (not second.children.lost) → Known second.children = λ known. (refl, known) in
    instance_of c.a_service_manager_outlives_crashes.ensures c.args.layout (history c.in-Ok.disk) c.in-Ok.ensures.created c.in-Ok.ensures.read refl less too begun left then
