use Rattle.std.proofs.Common.{ℕ, List, ◌∙◌, ◌++◌, ◌∷◌, [], append-nil, append_assoc, map, ap, sym}
use Rattle.um_laws.proofs.NameMaps.{entries_kept}
use Rattle.um_state.proofs.maps.push_keys.Goals as goal

pub returns : goal.returns
returns g c =
    let all = c.into_iter-name-iterator.ensures.into_iter_gives ∙ c.iter-name-items.ensures.rest in
    let told = c.loop-name.names.items in
    let done = sym (ap (λ rest. told ++ map (λ e. e.0) rest) c.in-None.ensures.steps.0) ∙ c.loop-name.invariant in
    sym (append-nil told) ∙ (done ∙ ap (λ rest. c.args.names.now.items ++ map (λ e. e.0) rest) (all ∙ sym (entries_kept c.args.entries.now c.iter-name-items.ensures.ordered)))

pub loop-name-preserved : goal.loop-name-preserved
loop-name-preserved g c =
    let told = c.loop-name.names.items in
    let name = c.in-Some.name.now in
    let rest = map (λ e. e.0) c.next.new.self in
    ap (λ l. l ++ rest) (◌∙◌ {A = List (List ℕ)} c.in_ok-push.ensures.items (ap (λ n. told ++ n ∷ []) c.in_ok-copy.ensures))
    ∙ (append_assoc told (name ∷ []) rest ∙ (sym (ap (λ l. told ++ map (λ e. e.0) l) c.in-Some.ensures.steps) ∙ c.loop-name.invariant))
