use Rattle.std.proofs.Common.{◌≡◌, ◌++◌, map, drop, string_bytes}
use Rattle.std.specs.Process.{command_program, command_args}
use Rattle.um_children.proofs.commands.add_texts.Given as goal

-- the texts that are added and those that are left are all texts
abbrev pub invariant-loop-text : goal.invariant-loop-text
invariant-loop-text l = record {
  program : command_program l.command ≡ command_program l.initial.command;
  args : command_args l.command ++ map string_bytes (drop l.text-index l.texts) ≡ command_args l.initial.command ++ map string_bytes l.texts;
}
