use Rattle.um_manager.proofs.Having.{had_of}
use Rattle.um_manager.proofs.PuttingOut.{out_of, told_since}
use Rattle.um_manager.proofs.Talking.{is_served}
use Rattle.um_manager.proofs.laws.each_connection_is_served.Goals as goal

pub returns-clause-served : goal.returns-clause-served
returns-clause-served c = is_served

pub returns-clause-had : goal.returns-clause-had
returns-clause-had c = λ k low disk before b past. had_of k low past

pub returns-clause-put : goal.returns-clause-put
returns-clause-put c = λ k low disk before b past. out_of k low past

pub returns-clause-told : goal.returns-clause-told
returns-clause-told c = λ k disk before b past. told_since k past
