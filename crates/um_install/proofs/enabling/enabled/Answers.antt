use Rattle.std.proofs.Common.{◌≢◌, ◌≡◌, ◌∙◌, map as each, None, List, ap, subst, rules}
use Rattle.std.specs.FinMap as map
use Rattle.um_model.specs.Install.{RefusesLinks, LinkAt}
use Rattle.um_model.specs.Refusals.{Refused, bad_path, exists_at}
use Rattle.um_model.specs.declared.install.InstallVerb.TheVariants as verbs
use Rattle.um_wire.specs.Refusal.{refused_of}
use Rattle.um_wire.specs.declared.refusal.Refusal.TheVariants.{NoMemory}
use Rattle.um_unit.specs.View.{tree_read}
use Rattle.um_install.specs.Changes.{linked}
use Rattle.um_wire.specs.Gives.{Gives}
use Rattle.um_install.specs.Checks.{LacksRoom, Names, is_occupied, is_unfit, least_of, links_in, with_targets}
use Rattle.um_install.specs.View.{link_of, targets_of, units_of}
use Rattle.um_install.proofs.EnableEnd.{by_unfit, by_occupied, by_room, installs, refuses}
use Rattle.um_install.proofs.enabling.enabled.Goals as goal

abbrev NoUnfit : List LinkAt → Type 0
NoUnfit ls = (q : Refused) → ¬ Names bad_path (least_of is_unfit None ls) q

pub returns-in_err-check_fit-clause-refused : goal.returns-in_err-check_fit-clause-refused
returns-in_err-check_fit-clause-refused c =
    let read = tree_read c.args.reading in
    let tree = c.args.reading.tree.now in
    let asked = c.args.unit.now in
    let units = units_of c.in_ok-units.units.entries in
    let walked = c.in_ok-units.ensures in
    let links = links_in units in
    let second : each link_of c.as_slice-2.result.now ≡ links = ap (each link_of) c.as_slice-2.ensures.value ∙ c.in_ok-links.ensures in
    let step : c.in_err-check_fit.field-0.0 ≢ NoMemory → RefusesLinks read verbs.Enable asked (refused_of c.in_err-check_fit.field-0.0) =
    λ differs. by_unfit read asked units walked (refused_of c.in_err-check_fit.field-0.0)
    (subst (λ ls. Names bad_path (least_of is_unfit None ls) (refused_of c.in_err-check_fit.field-0.0)) second (c.in_err-check_fit.ensures differs)) in
    search (rules, step)

pub returns-in_err-check_free-clause-refused : goal.returns-in_err-check_free-clause-refused
returns-in_err-check_free-clause-refused c =
    let read = tree_read c.args.reading in
    let tree = c.args.reading.tree.now in
    let asked = c.args.unit.now in
    let units = units_of c.in_ok-units.units.entries in
    let walked = c.in_ok-units.ensures in
    let links = links_in units in
    let second : each link_of c.as_slice-2.result.now ≡ links = ap (each link_of) c.as_slice-2.ensures.value ∙ c.in_ok-links.ensures in
    let targets : targets_of c.in_ok-targets.targets.entries ≡ with_targets map.empty links =
    c.in_ok-targets.ensures ∙ ap (with_targets map.empty) (ap (each link_of) c.as_slice.ensures.value ∙ c.in_ok-links.ensures) in
    let third : each link_of c.as_slice-3.result.now ≡ links = ap (each link_of) c.as_slice-3.ensures.value ∙ c.in_ok-links.ensures in
    let fits = subst NoUnfit second c.in_ok-check_fit.ensures in
    let step : c.in_err-check_free.field-0.0 ≢ NoMemory → RefusesLinks read verbs.Enable asked (refused_of c.in_err-check_free.field-0.0) =
    λ differs. by_occupied read asked units walked fits (refused_of c.in_err-check_free.field-0.0)
    (subst (λ ts. Names exists_at (least_of (is_occupied tree ts) None links) (refused_of c.in_err-check_free.field-0.0)) targets
    (subst (λ ls. Names exists_at (least_of (is_occupied tree (targets_of c.in_ok-targets.targets.entries)) None ls) (refused_of c.in_err-check_free.field-0.0)) third
    (c.in_err-check_free.ensures differs))) in
    search (rules, step)

pub returns-in_err-check_room-clause-refused : goal.returns-in_err-check_room-clause-refused
returns-in_err-check_room-clause-refused c =
    let read = tree_read c.args.reading in
    let tree = c.args.reading.tree.now in
    let asked = c.args.unit.now in
    let units = units_of c.in_ok-units.units.entries in
    let walked = c.in_ok-units.ensures in
    let links = links_in units in
    let second : each link_of c.as_slice-2.result.now ≡ links = ap (each link_of) c.as_slice-2.ensures.value ∙ c.in_ok-links.ensures in
    let targets : targets_of c.in_ok-targets.targets.entries ≡ with_targets map.empty links =
    c.in_ok-targets.ensures ∙ ap (with_targets map.empty) (ap (each link_of) c.as_slice.ensures.value ∙ c.in_ok-links.ensures) in
    let third : each link_of c.as_slice-3.result.now ≡ links = ap (each link_of) c.as_slice-3.ensures.value ∙ c.in_ok-links.ensures in
    let fits = subst NoUnfit second c.in_ok-check_fit.ensures in
    let frees =
    subst (λ ts. (q : Refused) → ¬ Names exists_at (least_of (is_occupied tree ts) None links) q) targets
    (subst (λ ls. (q : Refused) → ¬ Names exists_at (least_of (is_occupied tree (targets_of c.in_ok-targets.targets.entries)) None ls) q) third c.in_ok-check_free.ensures) in
    let step : c.in_err-check_room.field-0.0 ≢ NoMemory → RefusesLinks read verbs.Enable asked (refused_of c.in_err-check_room.field-0.0) =
    λ differs. by_room read asked units walked fits frees (refused_of c.in_err-check_room.field-0.0)
    (subst (λ ts. LacksRoom tree ts (refused_of c.in_err-check_room.field-0.0)) targets (c.in_err-check_room.ensures.room differs)) in
    search (rules, step)

pub returns-clause-installs : goal.returns-clause-installs
returns-clause-installs c =
    let read = tree_read c.args.reading in
    let tree = c.args.reading.tree.now in
    let asked = c.args.unit.now in
    let units = units_of c.in_ok-units.units.entries in
    let walked = c.in_ok-units.ensures in
    let links = links_in units in
    let second : each link_of c.as_slice-2.result.now ≡ links = ap (each link_of) c.as_slice-2.ensures.value ∙ c.in_ok-links.ensures in
    let targets : targets_of c.in_ok-targets.targets.entries ≡ with_targets map.empty links =
    c.in_ok-targets.ensures ∙ ap (with_targets map.empty) (ap (each link_of) c.as_slice.ensures.value ∙ c.in_ok-links.ensures) in
    let third : each link_of c.as_slice-3.result.now ≡ links = ap (each link_of) c.as_slice-3.ensures.value ∙ c.in_ok-links.ensures in
    let fits = subst NoUnfit second c.in_ok-check_fit.ensures in
    let frees =
    subst (λ ts. (q : Refused) → ¬ Names exists_at (least_of (is_occupied tree ts) None links) q) targets
    (subst (λ ls. (q : Refused) → ¬ Names exists_at (least_of (is_occupied tree (targets_of c.in_ok-targets.targets.entries)) None ls) q) third c.in_ok-check_free.ensures) in
    let rooms = subst (λ ts. (q : Refused) → ¬ LacksRoom tree ts q) targets c.in_ok-check_room.ensures.room in
    installs read asked units walked fits frees c.in_ok-check_room.ensures.tree rooms c.with_links.result
    (subst (λ ts. Gives (λ t. t) c.with_links.result (linked tree (map.entries ts))) targets c.with_links.ensures)

pub returns-clause-refused : goal.returns-clause-refused
returns-clause-refused c =
    let read = tree_read c.args.reading in
    let tree = c.args.reading.tree.now in
    let asked = c.args.unit.now in
    let units = units_of c.in_ok-units.units.entries in
    let walked = c.in_ok-units.ensures in
    let links = links_in units in
    let second : each link_of c.as_slice-2.result.now ≡ links = ap (each link_of) c.as_slice-2.ensures.value ∙ c.in_ok-links.ensures in
    let targets : targets_of c.in_ok-targets.targets.entries ≡ with_targets map.empty links =
    c.in_ok-targets.ensures ∙ ap (with_targets map.empty) (ap (each link_of) c.as_slice.ensures.value ∙ c.in_ok-links.ensures) in
    let third : each link_of c.as_slice-3.result.now ≡ links = ap (each link_of) c.as_slice-3.ensures.value ∙ c.in_ok-links.ensures in
    let fits = subst NoUnfit second c.in_ok-check_fit.ensures in
    let frees =
    subst (λ ts. (q : Refused) → ¬ Names exists_at (least_of (is_occupied tree ts) None links) q) targets
    (subst (λ ls. (q : Refused) → ¬ Names exists_at (least_of (is_occupied tree (targets_of c.in_ok-targets.targets.entries)) None ls) q) third c.in_ok-check_free.ensures) in
    let rooms = subst (λ ts. (q : Refused) → ¬ LacksRoom tree ts q) targets c.in_ok-check_room.ensures.room in
    refuses read asked units walked fits frees c.in_ok-check_room.ensures.tree rooms c.with_links.result
    (subst (λ ts. Gives (λ t. t) c.with_links.result (linked tree (map.entries ts))) targets c.with_links.ensures)
