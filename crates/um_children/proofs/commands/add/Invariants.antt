use Rattle.std.proofs.Common.{◌≡◌, ◌++◌, drop}
use Rattle.std.specs.Process.{command_program, command_args}
use Rattle.um_children.specs.Commands.{lent}
use Rattle.um_children.proofs.commands.add.Given as goal

-- the words that are added and those that are left are all words
abbrev pub invariant-loop-word : goal.invariant-loop-word
invariant-loop-word l = record {
  program : command_program l.command ≡ command_program l.initial.command;
  args : command_args l.command ++ lent (drop l.word-index l.words) ≡ command_args l.initial.command ++ lent l.words;
}
