use Rattle.std.proofs.Common.{rules, ◌≡◌, ℕ, List, true, false, cond, Some, None, string_bytes, drop, sym, ap, ◌∙◌}
use Rattle.std.specs.FinMap as map
use Rattle.um_model.specs.Bytes.{are_keys, ascends, list_at, pair_at, text_at}
use Rattle.um_wire.specs.Entries.{seen}
use Rattle.um_model.proofs.BytesLaws.{at_some}
use Rattle.um_wire.proofs.MapEntries.{no_map, map_here}
use Rattle.um_wire.proofs.maps.BTreeMapCanon.get.Goals as goal

pub returns-then-not-ascend-clause-read : goal.returns-then-not-ascend-clause-read
returns-then-not-ascend-clause-read g c =
    let bytes = c.args.bytes.now in
    let es = seen string_bytes g.V.Canon.value c.in-Some.entries.items in
    let read : list_at (pair_at text_at g.V.Canon.reading) bytes ≡ Some (es, drop c.in-Some.n bytes) =
    at_some (λ xs. seen string_bytes g.V.Canon.value xs.items) bytes _ _ c.in-Some.entries c.in-Some.n c.in_ok-entries.ensures.read c.in-Some.is in
    let down : ascends es ≡ false = search rules in
    no_map g.V.Canon.reading g.K.Key.is_key bytes es (drop c.in-Some.n bytes) read down

pub returns-in-Some-2-clause-read : goal.returns-in-Some-2-clause-read
returns-in-Some-2-clause-read g c =
    let bytes = c.args.bytes.now in
    let es = seen string_bytes g.V.Canon.value c.in-Some.entries.items in
    let read : list_at (pair_at text_at g.V.Canon.reading) bytes ≡ Some (es, drop c.in-Some.n bytes) =
    at_some (λ xs. seen string_bytes g.V.Canon.value xs.items) bytes _ _ c.in-Some.entries c.in-Some.n c.in_ok-entries.ensures.read c.in-Some.is in
    let up : ascends es ≡ true = search rules in
    let same : seen g.K.Key.bytes g.V.Canon.value c.in-Some-2.map.entries ≡ es = search rules in
    let keyed : Some true ≡ cond (are_keys g.K.Key.is_key es) (Some true) None = search rules in
    map_here g.V.Canon.reading g.K.Key.is_key bytes es (drop c.in-Some.n bytes) read up keyed
    ∙ ap (λ (l : List (List ℕ × g.V.Canon.Value)). Some (map.from_entries l, drop c.in-Some.n bytes)) (sym same)
