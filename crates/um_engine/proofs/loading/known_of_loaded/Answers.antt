use Rattle.std.proofs.Common.{◌≢◌, ap, subst, sym}
use Rattle.um_model.specs.Machine.{CausesOfLoad}
use Rattle.um_state.specs.View.{state_of}
use Rattle.um_wire.specs.Refusal.{refused_of}
use Rattle.um_wire.specs.declared.refusal.Refusal.TheVariants.{NoMemory}
use Rattle.um_unit.specs.View.{tree_read}
use Rattle.um_engine.specs.Known.{KnownView, KnowsFor}
use Rattle.um_engine.proofs.KnownLaws.{knows_made}
use Rattle.um_engine.proofs.LoadedLaws.{free_to_load, loads_none_circle, loads_none_full, refused_is}
use Rattle.um_engine.proofs.loading.known_of_loaded.Goals as goal

pub returns-clause-knows : goal.returns-clause-knows
returns-clause-knows c =
    knows_made c.in_ok-known.known.value (state_of c.args.state.now) (tree_read c.args.reading) c.in_ok-known.ensures.made c.in_ok-known.ensures.lasting c.in_ok-known.ensures.extra

pub returns-in_err-known-clause-refused : goal.returns-in_err-known-clause-refused
returns-in_err-known-clause-refused c =
    let s = state_of c.args.state.now in
    let step : c.in_err-known.field-0.0 ≢ NoMemory → CausesOfLoad s (tree_read c.args.reading) (refused_of c.in_err-known.field-0.0) =
    λ differs. let r = c.in_err-known.ensures.refused differs in loads_none_full s (tree_read c.args.reading) (refused_of c.in_err-known.field-0.0) (ap refused_of r.0) r.1 in
    refused_is (CausesOfLoad s (tree_read c.args.reading)) c.from_residual.result c.in_err-known.field-0.0 c.from_residual.ensures.1 step

pub returns-in_err-check_order-clause-refused : goal.returns-in_err-check_order-clause-refused
returns-in_err-check_order-clause-refused c =
    let s = state_of c.args.state.now in
    let tree = (tree_read c.args.reading) in
    let k : KnownView = c.in_ok-known.known.value in
    let knows : KnowsFor k (record s { loaded = tree }) = knows_made k s tree c.in_ok-known.ensures.made c.in_ok-known.ensures.lasting c.in_ok-known.ensures.extra in
    refused_is (CausesOfLoad s tree) c.from_residual-in_err-check_order.result c.in_err-check_order.field-0.0 c.from_residual-in_err-check_order.ensures.1
    (λ differs. loads_none_circle s tree _ c.in_ok-known.ensures.few (c.in_err-check_order.ensures tree (subst (λ (x : KnownView). KnowsFor x (record s { loaded = tree })) (sym c.deref.ensures) knows) differs))

pub returns-clause-refused : goal.returns-clause-refused
returns-clause-refused c =
    let s = state_of c.args.state.now in
    let tree = (tree_read c.args.reading) in
    let k : KnownView = c.in_ok-known.known.value in
    let knows : KnowsFor k (record s { loaded = tree }) = knows_made k s tree c.in_ok-known.ensures.made c.in_ok-known.ensures.lasting c.in_ok-known.ensures.extra in
    free_to_load s tree c.in_ok-known.ensures.few (c.in_ok-check_order.ensures tree (subst (λ (x : KnownView). KnowsFor x (record s { loaded = tree })) (sym c.deref.ensures) knows))

pub returns-clause-held : goal.returns-clause-held
returns-clause-held c unit among = (c.in_ok-known.ensures.extra unit).0 among
