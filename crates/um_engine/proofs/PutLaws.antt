-- For a put file or link, and for a removal, the entry at the path decides whether the tree differs.
use Rattle.std.proofs.Common.{◌≡◌, ◌∙◌, ℕ, cond, List, Option, Some, None, Result, Ok, Err, sym, ap, subst}
use Rattle.std.specs.Cmp.Lexicographic.{nat_list_cmp_total}
use Rattle.std.specs.FinMap as map
use Rattle.std.specs.Prelude.{if◌then◌else◌, is_none}
use Rattle.std.proofs.lemmas.Option.{none-some}
use Rattle.um_model.specs.declared.profile.Profile.{Profile}
use Rattle.um_model.specs.Profiles.{current}
use Rattle.um_model.specs.Machine as model
use Rattle.um_model.specs.Machine.{State, Changes, Refuses, puts, links, removes}
use Rattle.um_model.specs.Refusals.{Refused, bad_path, unless_refused}
use Rattle.um_model.specs.Tree.{Entry, Tree, File, Link, put_cause, link_cause, remove_cause, put_file, put_link, remove_at}
use Rattle.um_model.proofs.TreeLaws.{insert-same}
use Rattle.um_model.proofs.UnitLaws.{alike}

-- an entry that was put at a path stands there
inserted : (tree : Tree) (path : List ℕ) (entry : Entry) → map.get (map.insert tree path entry) path ≡ Some entry
inserted tree path entry = map.get-insert nat_list_cmp_total tree path entry path ∙ ap (λ b. cond b (Some entry) (map.get tree path)) (alike path)

-- a removed entry doesn't
taken_out : (tree : Tree) (path : List ℕ) → map.get (map.remove tree path) path ≡ None
taken_out tree path = map.get-remove nat_list_cmp_total tree path path ∙ ap (λ b. cond b None (map.get tree path)) (alike path)

file_put : (tree : Tree) (path text : List ℕ) → put_cause tree path text ≡ None → put_file tree path text ≡ Ok (map.insert tree path (File text))
unfolding put_file
file_put tree path text none = ap (λ o. unless_refused o (map.insert tree path (File text))) none

link_put : (tree : Tree) (path target : List ℕ) → link_cause tree path target ≡ None → put_link tree path target ≡ Ok (map.insert tree path (Link target))
unfolding put_link
link_put tree path target none = ap (λ o. unless_refused o (map.insert tree path (Link target))) none

path_removed : (tree : Tree) (path : List ℕ) → remove_cause tree path ≡ None → remove_at tree path ≡ Ok (map.remove tree path)
unfolding remove_at
path_removed tree path none = ap (λ o. unless_refused o (map.remove tree path)) none

same_ok : (a b : Tree) (r : Result Tree Refused) → r ≡ Ok a → r ≡ Ok b → a ≡ b
same_ok a b r e f = cc

not_both : (a : Tree) (r : Refused) → Ok a ≡ Err r → ⊥
not_both a r e = cc

module _ (s : State) (path text : List ℕ) (none : put_cause s.tree path text ≡ None) where
  pub file_free : (r : Refused) → ¬ Refuses current s (model.PutFile path text) r
  file_free r h = not_both (map.insert s.tree path (File text)) r (sym (file_put s.tree path text none) ∙ h)

  -- the file stands there
  pub file_stands : {profile : Profile} (u : State) → map.get s.tree path ≡ Some (File text) → u ≡ s → Changes profile s (model.PutFile path text) u
  file_stands {profile} u there is =
      subst (Changes profile s (model.PutFile path text)) (sym is) (puts (file_put s.tree path text none ∙ ap Ok (insert-same s.tree path (File text) there)))

  -- it doesn't, and the tree is another one then
  pub file_differs : {profile : Profile} (u : State) → ¬ (map.get s.tree path ≡ Some (File text)) → Changes profile s (model.PutFile path text) u → ¬ (u.tree ≡ s.tree)
  file_differs _ other (puts {tree = tree} e) same =
      let is : map.insert s.tree path (File text) ≡ tree = same_ok (map.insert s.tree path (File text)) tree (put_file s.tree path text) (file_put s.tree path text none) e in
      other (ap (λ (t : Tree). map.get t path) (sym (is ∙ same)) ∙ inserted s.tree path (File text))

module _ (s : State) (path target : List ℕ) (none : link_cause s.tree path target ≡ None) where
  pub link_free : (r : Refused) → ¬ Refuses current s (model.PutLink path target) r
  link_free r h = not_both (map.insert s.tree path (Link target)) r (sym (link_put s.tree path target none) ∙ h)

  pub link_stands : {profile : Profile} (u : State) → map.get s.tree path ≡ Some (Link target) → u ≡ s → Changes profile s (model.PutLink path target) u
  link_stands {profile} u there is =
      subst (Changes profile s (model.PutLink path target)) (sym is) (links (link_put s.tree path target none ∙ ap Ok (insert-same s.tree path (Link target) there)))

  pub link_differs : {profile : Profile} (u : State) → ¬ (map.get s.tree path ≡ Some (Link target)) → Changes profile s (model.PutLink path target) u → ¬ (u.tree ≡ s.tree)
  link_differs _ other (links {tree = tree} e) same =
      let is : map.insert s.tree path (Link target) ≡ tree = same_ok (map.insert s.tree path (Link target)) tree (put_link s.tree path target) (link_put s.tree path target none) e in
      other (ap (λ (t : Tree). map.get t path) (sym (is ∙ same)) ∙ inserted s.tree path (Link target))

-- there is an entry at the path of the removal
some_there : (tree : Tree) (path : List ℕ) → remove_cause tree path ≡ None → map.get tree path ≡ None → ⊥
some_there tree path none gone = none-some (bad_path path) (sym none ∙ ap (λ (o : Option Entry). if is_none o then Some (bad_path path) else None) gone)

-- so the tree is another one without it
pub removed_differs : {profile : Profile} (s u : State) (path : List ℕ) → remove_cause s.tree path ≡ None → Changes profile s (model.Remove path) u → ¬ (u.tree ≡ s.tree)
removed_differs s _ path none (removes {tree = tree} e) same =
    let is : map.remove s.tree path ≡ tree = same_ok (map.remove s.tree path) tree (remove_at s.tree path) (path_removed s.tree path none) e in
    some_there s.tree path none (ap (λ (t : Tree). map.get t path) (sym (is ∙ same)) ∙ taken_out s.tree path)
