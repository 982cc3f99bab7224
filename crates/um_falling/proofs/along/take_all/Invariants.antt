use Rattle.std.proofs.Common.{◌≡◌, drop}
use Rattle.um_falling.specs.Along.{taken_all}
use Rattle.um_falling.specs.Work.{Keeps}
use Rattle.um_state.specs.View.{state_of}
use Rattle.um_falling.proofs.along.take_all.Given as goal

-- the starts taken so far and those by the neighbours that are left are those taken by all
abbrev pub invariant-loop-neighbour : goal.invariant-loop-neighbour
invariant-loop-neighbour l = record {
  taken : taken_all l.initial.work.graph (drop l.neighbour-index l.row) (state_of l.work.now, l.list.items)
      ≡ taken_all l.initial.work.graph l.row (state_of l.initial.work.now, l.initial.list.items);
  keeps : Keeps l.initial.work l.work;
  actions : l.work.actions ≡ l.initial.work.actions;
}
