use Rattle.std.proofs.Common.{◌≡◌, ◌+◌, ◌≤◌, ◌++◌, List, length, take, drop, map, false, IsTrue, vec_len, vec_capacity}
use Rattle.std.specs.List.{AllByRecursion}
use Rattle.um_engine.specs.Engine.{standing_in, state_in, size_in}
use Rattle.um_model.specs.Disk.{During}
use Rattle.um_sector.specs.Unsynced.{sync_count}
use Rattle.um_state.specs.View.{input_of}
use Rattle.um_keeper.specs.Answering.{Answer, AreAnswered, taken, IsIdle, HaveNoRecord, most_calls, state_before_all}
use Rattle.um_keeper.specs.Keeping.{MayHold, IsBegun}
use Rattle.um_keeper.specs.Underway.{UnderwayIn, KeptIn, owed, TakesUnsynced}
use Rattle.um_keeper.proofs.batch.take_all.Given as goal

abbrev pub invariant-loop-input : goal.invariant-loop-input
invariant-loop-input g l =
    let D = g.D.Disk in
    let front = map input_of (take l.input-index l.inputs) in
    let left = map input_of (drop l.input-index l.inputs) in
    let all = map input_of l.inputs in
    let first = l.fn.engine in
    let layout = l.fn.ahead.log.layout in
    record {
      answered : AreAnswered (size_in first) (state_in first) front l.answers.items (state_in l.engine);
      during : IsTrue (D.honest l.fn.disk) → KeptIn (D.past l.fn.disk) (D.size l.fn.disk) l.fn.ahead (state_in first)
          → During (D.past l.fn.disk) (D.past l.disk) (IsBegun layout (state_in first) (taken front l.answers.items));
      under : IsTrue (D.honest l.fn.disk) → KeptIn (D.past l.fn.disk) (D.size l.fn.disk) l.fn.ahead (state_in first)
          → UnderwayIn (state_in first) (taken front l.answers.items) (D.past l.disk) l.ahead (state_in l.engine);
      back : state_before_all l.backs.items (standing_in l.engine) ≡ state_before_all l.fn.backs.items (standing_in first);
      idle : AllByRecursion (IsIdle (state_in first)) all
          → (l.disk ≡ l.fn.disk) × (l.ahead ≡ l.fn.ahead) × (state_in l.engine ≡ state_in first) × AllByRecursion (IsIdle (state_in first)) left;
      unrecorded : (rest : List Answer) → HaveNoRecord (state_in first) all (l.answers.items ++ rest)
          → (l.disk ≡ l.fn.disk) × (l.ahead ≡ l.fn.ahead) × (state_in l.engine ≡ state_in first) × HaveNoRecord (state_in first) left rest;
      clean : l.ahead.unsynced ≡ false → HaveNoRecord (state_in first) front l.answers.items × (state_in l.engine ≡ state_in first);
      takes : TakesUnsynced (D.honest l.fn.disk) (sync_count (D.past l.fn.disk)) (sync_count (D.past l.disk)) (size_in first) l.fn.ahead l.ahead
          (D.calls l.fn.disk) (D.calls l.disk) (state_in first) front l.answers.items (state_in l.engine);
      calls : D.calls l.disk + owed l.ahead.unsynced + most_calls layout left ≤ D.calls l.fn.disk + most_calls layout all;
      held : MayHold l.ahead.log.layout (size_in l.engine) (state_in l.engine);
      sized : size_in l.engine ≡ size_in first;
      layout : l.ahead.log.layout ≡ layout;
      failures : D.failures l.disk ≡ D.failures l.fn.disk;
      sectors : D.size l.disk ≡ D.size l.fn.disk;
      honest : D.honest l.disk ≡ D.honest l.fn.disk;
      capacity : length l.inputs ≤ vec_capacity l.answers;
      room : vec_len l.answers + length (drop l.input-index l.inputs) ≤ vec_capacity l.answers;
      ways : vec_len l.backs + length (drop l.input-index l.inputs) ≤ vec_capacity l.backs;
    }
