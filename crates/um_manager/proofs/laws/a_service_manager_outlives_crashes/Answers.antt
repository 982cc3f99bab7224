use Rattle.um_manager.proofs.Living.{manager_outlives}
use Rattle.um_manager.proofs.TakenUp.{taken_stands}
use Rattle.um_manager.proofs.laws.a_service_manager_outlives_crashes.Goals as goal

pub returns : goal.returns
returns c =
    manager_outlives c.offers_are_parts_of_lives.ensures c.finished.ensures.run
    (record { stands = λ count layout image slot generation s. taken_stands; spent = c.a_store_is_taken_up.ensures.spent })
