use Rattle.std.proofs.Common.{◌≡◌, ap}
use Rattle.um_model.specs.Profiles.{ReadTree, read_by}
use Rattle.um_model.specs.Tree.{Tree}
use Rattle.um_model.specs.declared.profile.Profile.{Profile}
use Rattle.um_engine.proofs.same.is_same_reading.Goals as goal

-- the same entries, read by the same profile
read_as : (p q : Profile) (t u : Tree) → p ≡ q → t ≡ u → read_by p t ≡ read_by q u
read_as p q t u e f = cc

pub returns-then-is_same_profile : goal.returns-then-is_same_profile
returns-then-is_same_profile c = (
  λ t. read_as _ _ _ _ (c.is_same_profile.ensures.0 c.if-is_same_profile.true) (c.is_same_tree.ensures.0 t),
  λ e. c.is_same_tree.ensures.1 (ap (λ (r : ReadTree). r.entries) e),
)
