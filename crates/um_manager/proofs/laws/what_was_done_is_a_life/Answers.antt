use Rattle.std.proofs.Common.{refl}
use Rattle.um_manager.proofs.Continuing.{just_gone, turn_continues, taking_gone, stops_there, refused_life}
use Rattle.um_manager.proofs.laws.what_was_done_is_a_life.Goals as goal

pub returns-clause-opened : goal.returns-clause-opened
returns-clause-opened c = λ layout honest whole moment boot count sectors disk before b past. just_gone layout honest whole moment boot count sectors past

pub returns-clause-turned : goal.returns-clause-turned
returns-clause-turned c = λ layout honest whole result moment pieces disk before a b past all turn gone. turn_continues layout past all turn gone refl

pub returns-clause-taken : goal.returns-clause-taken
returns-clause-taken c = λ layout disk before a b past all. taking_gone layout past all

pub returns-clause-stops : goal.returns-clause-stops
returns-clause-stops c = λ layout disk before b past. stops_there layout past

pub returns-clause-refused : goal.returns-clause-refused
returns-clause-refused c = λ layout honest whole moment boot sectors disk left past calls. refused_life layout honest whole
