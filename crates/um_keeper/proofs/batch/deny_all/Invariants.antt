use Rattle.std.proofs.Common.{◌≡◌, map, take, drop}
use Rattle.um_keeper.specs.Answering.{denied}
use Rattle.um_keeper.proofs.batch.deny_all.Given as goal

abbrev pub invariant-loop-answer : goal.invariant-loop-answer
invariant-loop-answer l = record {
  front : take l.answer-index l.answer-items ≡ map denied (take l.answer-index l.fn.answers.items);
  rest : drop l.answer-index l.answer-items ≡ drop l.answer-index l.fn.answers.items;
}
