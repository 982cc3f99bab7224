-- The details of a reply, as the code reads them.
use Rattle.std.proofs.Common.{◌≡◌, List, [], ◌∷◌, map, Option, Some, None, option_map, Bor, Vec, Global, refl, sym, ap}
use Rattle.serde_json.specs.Data.{Data}
use Rattle.serde_json.specs.View.{items_of, items_view, view}
use Rattle.serde_json.specs.declared.value.Value.{Value}
use Rattle.um_ctl.specs.Told.{data_in}

pub data_in-items_of : (ds : List Data) → data_in (items_of ds) ≡ ds
data_in-items_of [] = refl
data_in-items_of (d ∷ ds) = ap (λ es. d ∷ es) (data_in-items_of ds)

-- the items of a list of values, as the definitions have them
pub details_seen : (o : Option (Bor (Vec Value Global)))
    → option_map (λ v. map view v.now.items) o ≡ option_map data_in (option_map (λ v. items_view v.now.items) o)
details_seen None = refl
details_seen (Some v) = ap Some (sym (data_in-items_of (map view v.now.items)))
