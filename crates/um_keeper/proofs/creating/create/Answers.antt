use Rattle.std.proofs.Common.{◌∙◌, inl, refl, ap}
use Rattle.um_laws.proofs.DiskLaws.{started}
use Rattle.um_model.specs.StateSpellings.{state_spelling}
use Rattle.um_keeper.specs.Creating.{unsynced}
use Rattle.um_model.specs.Lives.{AreUnanswered, holds}
use Rattle.um_keeper.proofs.Results.{ok_from}
use Rattle.um_keeper.proofs.creating.create.Goals as goal

-- nothing is written before all that takes memory
pub returns-in_err-body-clause-during : goal.returns-in_err-body-clause-during
returns-in_err-body-clause-during g c h = unsynced refl (started (g.D.Disk.past c.args.disk.now) _ (λ image at. inl at))

pub lay-requires : goal.lay-requires
lay-requires g c = record { empty = c.deref.ensures.value ∙ c.in_ok-body.ensures.bytes ∙ ap state_spelling c.empty-empty.ensures }

pub returns-clause-life : goal.returns-clause-life
returns-clause-life g c = ok_from c.lay.result (λ ok h image there. holds (ok h image there).store AreUnanswered.none) c.lay.ensures.ok
