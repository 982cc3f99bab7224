-- Connections that are taken in order, taken together.
use Rattle.std.proofs.Common.{◌≡◌, ℕ, ◌+◌, List, [], ◌∷◌, ◌++◌, flat_map, map, Option, Result, ap, ◌∙◌, append_assoc, arith}
use Rattle.um_model.specs.Machine.{Input}
use Rattle.um_model.specs.Sessions.{Session}
use Rattle.um_proto.specs.declared.request.Request.{Request}
use Rattle.um_wire.specs.declared.refusal.Refusal.{Refusal}
use Rattle.um_manager.specs.Connections.{Cuts, Took, inputs_asked, due_of}
use Rattle.um_manager.specs.Replies.{replies_due, replies_owed}
use Rattle.um_manager.specs.declared.pieces.Piece.{Piece}
use Rattle.um_manager.specs.declared.taking.Due.{Due}

pub took_more : (moment : ℕ) (t u : Session) (p : Piece) (r : Option (Result Request Refusal)) (ts us : List Session) (ps : List Piece) (x y z : List Input) (d e f : List Due)
    → Cuts t p r u → y ≡ x ++ inputs_asked moment r → e ≡ d ++ due_of r ∷ [] → Took moment ts ps us y z e f → Took moment (t ∷ ts) (p ∷ ps) (u ∷ us) x z d f
took_more moment t u p r ts us ps x y z d e f cuts inputs owed more = record {
  requests = r ∷ more.requests;
  cuts = (cuts, more.cuts);
  inputs_are = more.inputs_are ∙ ap (λ l. l ++ flat_map (inputs_asked moment) more.requests) inputs ∙ append_assoc x (inputs_asked moment r) (flat_map (inputs_asked moment) more.requests);
  due_are = more.due_are ∙ ap (λ l. l ++ map due_of more.requests) owed ∙ append_assoc d (due_of r ∷ []) (map due_of more.requests);
}

pub owed_push : (ds : List Due) (d : Due) → replies_owed (ds ++ d ∷ []) ≡ replies_owed ds + replies_due d
owed_push [] d = omega arith
owed_push (e ∷ ds) d = omega (arith, owed_push ds d)
