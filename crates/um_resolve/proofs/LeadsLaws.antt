-- The function finds where a chain of hops leads, and nothing else.
use Rattle.std.proofs.Common.{◌≡◌, ◌↔◌, ℕ, zero, suc, ◌<◌, Bool, true, false, cond, List, [], ◌∷◌, length, Option, Some, None, refl, sym, ap, ◌∙◌, subst, arith}
use Rattle.std.specs.Option.{option_map_or}
use Rattle.std.specs.Str.{bytes_eq}
use Rattle.um_model.specs.Names.{suffix_of}
use Rattle.um_model.specs.Resolution.{Resolution, AtFile, AtNoFile, AtMask, Nowhere, held, hop_limit, is_mask, is_served_type, shutdown_target, next_name, resolution_at, resolution_of, resolved}
use Rattle.um_model.specs.Tree.{Tree, Entry, File, Link}
use Rattle.um_resolve.specs.Leads.{Hops, EndsAt, at_file, at_empty_file, at_mask, at_no_file, at_nothing, at_no_name, Leads, ends, hop, too_far}

-- the function's result holds for a step, if it holds after a hop
module _ (limit : ℕ) (tree : Tree) (name : List ℕ) (follow : List ℕ → Resolution) (later : (next : List ℕ) → Hops tree name next → Leads tree limit name (follow next)) where
  leads_nothing : (b : Bool) → held tree name ≡ None → bytes_eq name shutdown_target ≡ b → Leads tree limit name (cond b (AtNoFile name) Nowhere)
  leads_nothing true h e = ends limit name (AtNoFile name) (at_no_file name h e)
  leads_nothing false h e = ends limit name Nowhere (at_nothing name h e)

  leads_next : (path target : List ℕ) (o : Option (List ℕ)) → held tree name ≡ Some (path, Link target) → is_mask target ≡ false → next_name name target ≡ o
      → Leads tree limit name (option_map_or follow o Nowhere)
  leads_next path target None h unmasked e = ends limit name Nowhere (at_no_name name path target h unmasked e)
  leads_next path target (Some next) h unmasked e = later next (record { path = path; target = target; linked = h; unmasked = unmasked; leads_on = e })

  leads_link : (path target : List ℕ) (b : Bool) → held tree name ≡ Some (path, Link target) → is_mask target ≡ b
      → Leads tree limit name (cond b (AtMask name) (option_map_or follow (next_name name target) Nowhere))
  leads_link path target true h mask = ends limit name (AtMask name) (at_mask name path target h mask)
  leads_link path target false h unmasked = leads_next path target (next_name name target) h unmasked refl

  leads_at : (o : Option (List ℕ × Entry)) → held tree name ≡ o → Leads tree limit name (resolution_at name o follow)
  leads_at None h = leads_nothing (bytes_eq name shutdown_target) h refl
  leads_at (Some (path, File [])) h = ends limit name (AtMask name) (at_empty_file name path h)
  leads_at (Some (path, File (b ∷ bs))) h = ends limit name (AtFile name path (b ∷ bs)) (at_file name path (b ∷ bs) h (omega arith))
  leads_at (Some (path, Link target)) h = leads_link path target (is_mask target) h refl

-- the function finds where a name leads
pub leads_resolved : (limit : ℕ) (tree : Tree) (name : List ℕ) → Leads tree limit name (resolved limit tree name)
leads_resolved zero tree name = leads_at zero tree name (λ other. Nowhere) (λ next h. too_far name next h) (held tree name) refl
leads_resolved (suc limit) tree name =
    leads_at (suc limit) tree name (resolved limit tree) (λ next h. hop limit name next (resolved limit tree next) h (leads_resolved limit tree next)) (held tree name) refl

filled_file : (unit path text : List ℕ) (follow : List ℕ → Resolution) → 0 < length text → resolution_at unit (Some (path, File text)) follow ≡ AtFile unit path text
filled_file unit path [] follow some = absurd (omega arith)
filled_file unit path (b ∷ bs) follow some = refl

-- an end is the same whatever would follow
ended : (tree : Tree) (name : List ℕ) (end : Resolution) (follow : List ℕ → Resolution) → EndsAt tree name end → resolution_at name (held tree name) follow ≡ end
ended tree name end follow (at_file unit path text h some) = ap (λ o. resolution_at unit o follow) h ∙ filled_file unit path text follow some
ended tree name end follow (at_empty_file unit path h) = ap (λ o. resolution_at unit o follow) h
ended tree name end follow (at_mask unit path target h mask) =
    ap (λ o. resolution_at unit o follow) h ∙ ap (λ b. cond b (AtMask unit) (option_map_or follow (next_name unit target) Nowhere)) mask
ended tree name end follow (at_no_file unit h e) = ap (λ o. resolution_at unit o follow) h ∙ ap (λ b. cond b (AtNoFile unit) Nowhere) e
ended tree name end follow (at_nothing unit h e) = ap (λ o. resolution_at unit o follow) h ∙ ap (λ b. cond b (AtNoFile unit) Nowhere) e
ended tree name end follow (at_no_name unit path target h unmasked e) =
    ap (λ o. resolution_at unit o follow) h
    ∙ (ap (λ b. cond b (AtMask unit) (option_map_or follow (next_name unit target) Nowhere)) unmasked ∙ ap (λ o. option_map_or follow o Nowhere) e)

followed_link : (tree : Tree) (name next : List ℕ) (follow : List ℕ → Resolution) → Hops tree name next → resolution_at name (held tree name) follow ≡ follow next
followed_link tree name next follow h =
    ap (λ o. resolution_at name o follow) h.linked
    ∙ ap (λ b. cond b (AtMask name) (option_map_or follow (next_name name h.target) Nowhere)) h.unmasked
    ∙ ap (λ o. option_map_or follow o Nowhere) h.leads_on

-- and a name leads to the result of the function
pub resolved_leads : (tree : Tree) (limit : ℕ) (name : List ℕ) (end : Resolution) → Leads tree limit name end → resolved limit tree name ≡ end
resolved_leads tree zero name end (ends limit n e at) = ended tree n e (λ other. Nowhere) at
resolved_leads tree (suc more) name end (ends limit n e at) = ended tree n e (resolved more tree) at
resolved_leads tree (suc more) name end (hop limit n next e first later) = followed_link tree n next (resolved limit tree) first ∙ resolved_leads tree limit next e later
resolved_leads tree limit name end (too_far n next first) = followed_link tree n next (λ other. Nowhere) first

pub leads_by_hops : (limit : ℕ) (tree : Tree) (name : List ℕ) (end : Resolution) → (resolved limit tree name ≡ end) ↔ Leads tree limit name end
leads_by_hops limit tree name end = (λ e. subst (Leads tree limit name) e (leads_resolved limit tree name), resolved_leads tree limit name end)

-- of a type that is served, by eight hops; of another, nowhere
pub leads_by_eight : (tree : Tree) (name : List ℕ) (end : Resolution) → is_served_type (suffix_of name) ≡ true → (resolution_of tree name ≡ end) ↔ Leads tree hop_limit name end
unfolding resolution_of
leads_by_eight tree name end served =
    let same : resolution_of tree name ≡ resolved hop_limit tree name = ap (λ b. cond b (resolved hop_limit tree name) Nowhere) served in
    (λ e. (leads_by_hops hop_limit tree name end).0 (sym same ∙ e), λ l. same ∙ (leads_by_hops hop_limit tree name end).1 l)

pub unserved_nowhere : (tree : Tree) (name : List ℕ) → is_served_type (suffix_of name) ≡ false → resolution_of tree name ≡ Nowhere
unfolding resolution_of
unserved_nowhere tree name other = ap (λ b. cond b (resolved hop_limit tree name) Nowhere) other
