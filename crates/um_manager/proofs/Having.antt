-- The history of a manager, of one connection of it.
use Rattle.std.proofs.Common.{◌≡◌, ◌≢◌, ◌<◌, ◌≤◌, ◌∙◌, inl, inr, ℕ, zero, suc, List, [], ◌∷◌, ◌++◌, length, Bool, Result, Option, Some, None, slice_get, append-nil, refl, sym, ap, subst, arith}
use Rattle.std.specs.List.{AllByRecursion}
use Rattle.um_model.specs.Children.{Call}
use Rattle.um_model.specs.Disk.{Past}
use Rattle.um_model.specs.Sessions.{Session}
use Rattle.um_manager.proofs.Clients.{none_some, some_same}
use Rattle.um_manager.proofs.Talking.{is_served}
use Rattle.um_manager.specs.Clients.{HasHad, bytes_in, IsSameAt}
use Rattle.um_manager.specs.Clients as connections
use Rattle.um_manager.specs.Connections.{IsNew, AllSame}
use Rattle.um_manager.specs.Had.{came_behind, since_closed, taken_now, came_of, taken_of}
use Rattle.um_manager.specs.Done.{IsTaken}
use Rattle.um_manager.specs.Histories.{History, opens, turns, takes}
use Rattle.um_manager.specs.Turns.{Now, Turned}
use Rattle.um_manager.specs.Places.{Place}
use Rattle.um_manager.specs.Replies.{IsOutput}
use Rattle.um_wire.specs.declared.refusal.Refusal.{Refusal}
use Rattle.um_manager.specs.declared.pieces.Piece.{Piece}
use Rattle.um_manager.specs.declared.pieces.Piece.TheVariants.{Nothing, Bytes, Closed}

-- one of new sessions
pub new_at : (k : ℕ) (ts : List Session) → k < length ts → AllByRecursion IsNew ts → (t : Session) × (slice_get ts k ≡ Some t) × IsNew t
new_at k [] low all = absurd (omega (arith, low))
new_at zero (t ∷ ts) low all = (t, refl, all.0)
new_at (suc k) (t ∷ ts) low all = new_at k ts (omega (arith, low)) all.1

same_at : (k : ℕ) (ts us : List Session) (t : Session) → AllSame ts us → slice_get ts k ≡ Some t → IsSameAt (slice_get ts k) (slice_get us k)
same_at k [] us t same at = absurd (none_some at)
same_at k (x ∷ ts) [] t same at = absurd same
same_at zero (x ∷ ts) (y ∷ us) t same at = same.0
same_at (suc k) (x ∷ ts) (y ∷ us) t same at = same_at k ts us t same.1 at

-- a turn, by the piece of the connection
turned_had : (k : ℕ) {place : Place} {honest whole : Bool} {result : Result Unit Refusal} {moment : ℕ} {pieces : List Piece} {came taken : List ℕ} {a b : Now} → HasHad k came taken a
    → Turned place honest whole result moment pieces a b → (piece : Option Piece) → slice_get pieces k ≡ piece → HasHad k (came_behind piece came) (since_closed piece taken) b
turned_had k had turned (Some Closed) is = connections.closes had turned is
turned_had k {came = came} {taken = taken} {b = b} had turned (Some (Bytes bytes)) is =
    subst (λ p. HasHad k (came ++ bytes_in p) taken b) is (connections.turns had turned (λ closed. other (sym is ∙ closed)))
  where
    other : Some (Bytes bytes) ≡ Some Closed → ⊥
    other e = cc
turned_had k {came = came} {taken = taken} {b = b} had turned (Some Nothing) is =
    subst (λ l. HasHad k l taken b) (append-nil came)
    (subst (λ p. HasHad k (came ++ bytes_in p) taken b) is (connections.turns had turned (λ closed. other (sym is ∙ closed))))
  where
    other : Some Nothing ≡ Some Closed → ⊥
    other e = cc
turned_had k {came = came} {taken = taken} {b = b} had turned None is =
    subst (λ l. HasHad k l taken b) (append-nil came)
    (subst (λ p. HasHad k (came ++ bytes_in p) taken b) is (connections.turns had turned (λ closed. other (sym is ∙ closed))))
  where
    other : None ≡ Some Closed → ⊥
    other e = cc

-- the bytes that are taken of the connection's session
taken_had : (k : ℕ) {came taken : List ℕ} {a b : Now} → HasHad k came taken a → (t : Session) → slice_get a.sessions k ≡ Some t → (x y : Option Session) → slice_get a.sessions k ≡ x
    → slice_get b.sessions k ≡ y → (is : IsTaken x y) → HasHad k came (taken ++ taken_now x y is) b
taken_had k had t at None y was now is = absurd (none_some (sym was ∙ at))
taken_had k had t at (Some u) None was now is = absurd is
taken_had k {came} {taken} {a} {b} had t at (Some u) (Some v) was now (inl same) =
    subst (λ l. HasHad k came l b) (sym (append-nil taken))
    (connections.rests had (subst (λ x. IsSameAt x (slice_get b.sessions k)) (sym was) (subst (λ y. IsSameAt (Some u) y) (sym now) same)))
taken_had k {came} {taken} {a} {b} had t at (Some u) (Some v) was now (inr (out, does)) =
    connections.takes out v.failed had (subst (λ x. IsOutput x out v.failed (slice_get b.sessions k)) (sym was) (subst (λ y. IsOutput (Some u) out v.failed y) (sym now) (does, refl)))

pub had_of : (k : ℕ) (low : k < 64) {disk : Past} {before : List Call} {b : Now} (past : History disk before b) → HasHad k (came_of k past) (taken_of k low past) b
had_of k low (opens sessions opened anew) =
    let (t, at, new) = new_at k sessions (omega (arith, low, anew.0)) anew.1 in
    connections.opens at new
had_of k low (turns {pieces = pieces} past turned) = turned_had k (had_of k low past) turned (slice_get pieces k) refl
had_of k low (takes {a} {b} past out) =
    let had = had_of k low past in
    let (t, at, served) = is_served k (came_of k past) (taken_of k low past) a had in
    taken_had k had t at (slice_get a.sessions k) (slice_get b.sessions k) refl refl (out.each k low)
