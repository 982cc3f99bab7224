-- Of new sessions.
use Rattle.std.proofs.Common.{◌≡◌, ◌++◌, ◌∷◌, [], List, sym, subst}
use Rattle.std.specs.List.{AllByRecursion}
use Rattle.um_model.specs.Sessions.{Session}
use Rattle.um_manager.specs.Connections.{IsNew}

pushed : (ts : List Session) (t : Session) → IsNew t → AllByRecursion IsNew ts → AllByRecursion IsNew (ts ++ t ∷ [])
pushed [] t new all = (new, all)
pushed (u ∷ us) t new all = (all.0, pushed us t new all.1)

-- one more after new ones
pub one_more : (ts us : List Session) (t : Session) → us ≡ ts ++ t ∷ [] → IsNew t → AllByRecursion IsNew ts → AllByRecursion IsNew us
one_more ts us t is new all = subst (AllByRecursion IsNew) (sym is) (pushed ts t new all)
