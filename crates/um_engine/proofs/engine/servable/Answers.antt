use Rattle.std.proofs.Common.{◌≢◌, refl, subst, sym}
use Rattle.um_model.specs.Servable.{IsFew, IsServable}
use Rattle.um_state.specs.View.{state_of}
use Rattle.um_wire.specs.declared.refusal.Refusal.TheVariants.{NoMemory}
use Rattle.um_engine.proofs.OnlyLaws.{served_servable, load_unservable, heavy_unservable, unservable_is}
use Rattle.um_engine.proofs.engine.servable.Goals as goal

pub returns-in_err-served-clause-refused : goal.returns-in_err-served-clause-refused
returns-in_err-served-clause-refused c =
    let s = state_of c.args.state in
    let step : c.in_err-served.field-0.0 ≢ NoMemory → ¬ IsServable c.args.size s = load_unservable c.args.size s s.loaded c.in_err-served.field-0.0 refl c.in_err-served.ensures.refused in
    unservable_is c.args.size s c.from_residual.result c.in_err-served.field-0.0 c.from_residual.ensures.1 step

pub returns-in_err-check_room-clause-refused : goal.returns-in_err-check_room-clause-refused
returns-in_err-check_room-clause-refused c =
    let s = state_of c.args.state in
    let step : c.in_err-check_room.field-0.0 ≢ NoMemory → ¬ IsServable c.args.size s =
    λ differs. heavy_unservable c.args.size s c.in_ok-served.served.state c.in_ok-served.ensures.state (c.in_err-check_room.ensures.refused differs).1 in
    unservable_is c.args.size s c.from_residual-in_err-check_room.result c.in_err-check_room.field-0.0 c.from_residual-in_err-check_room.ensures.1 step

pub returns-clause-servable : goal.returns-clause-servable
returns-clause-servable c =
    let s = state_of c.args.state in
    served_servable c.args.size s c.in_ok-served.served.state s.loaded refl c.in_ok-served.ensures.refused c.in_ok-served.ensures.state c.in_ok-check_room.ensures.room

pub returns-clause-exact : goal.returns-clause-exact
returns-clause-exact c =
    let s = state_of c.args.state in
    let is = served_servable c.args.size s c.in_ok-served.served.state s.loaded refl c.in_ok-served.ensures.refused c.in_ok-served.ensures.state c.in_ok-check_room.ensures.room in
    c.in_ok-served.ensures.exact (subst IsFew (sym c.in_ok-served.ensures.state) is.few)
