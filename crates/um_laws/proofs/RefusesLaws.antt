-- A command is refused by a number up to 14, or by 21: the numbers of memory, of stores and of devices are not among them.
use Rattle.std.proofs.Common.{ℕ, nat_lt, ◌≡◌, ◌⊎◌, inl, inr, ◌≤◌, Bool, true, false, not, List, length, Option, Some, None, is_none, Err, refl, sym, subst, arith}
use Rattle.std.specs.FinMap as map
use Rattle.std.proofs.lemmas.Option.{none-some, same_Some}
use Rattle.std.specs.Prelude.{cond}
use Rattle.um_model.specs.Profiles.{ReadTree, read_by}
use Rattle.um_model.specs.declared.profile.Profile.{Profile}
use Rattle.um_model.specs.Install.{HasTooMany, too_many, CannotEnable, isnt_found, is_masked, has_bad_setting, lacks_instance, RefusesLinks, enables_none, masks_none, RefusesUnits, takes_none}
use Rattle.um_model.specs.Machine as model
use Rattle.um_model.specs.Machine.{as_loaded, State, Command, PutFile, PutLink, Remove, DaemonReload, ForUnit, Cancel, ResetFailed, Install, IsMissing, IsCrowded, CannotStart, PlansTooMany, by_name, by_jobs, HasNoPlan, CausesOfLoad, Refuses, IsNotThere, to_stop, to_try_restart}
use Rattle.um_model.specs.Refusals.{Refused, bad_path, exists_at, too_large, no_room, FirstCause, at_first, at_second, unless_refused}
use Rattle.um_model.specs.Tree.{Tree, File, Link, path_parts, is_served, is_link, is_other_than_link, is_fit_target, is_full_for, text_limit, put_cause, put_file, link_cause, put_link, remove_cause, remove_at}
use Rattle.um_model.specs.Units.{Loading}
use Rattle.um_model.specs.declared.commands.JobMode.{JobMode}
use Rattle.um_model.specs.declared.commands.UnitVerb.{UnitVerb}
use Rattle.um_model.specs.declared.install.InstallVerb.{InstallVerb}
use Rattle.um_model.specs.declared.refusals.Limit.TheVariants.{Text, Entries, Units}
use Rattle.um_model.proofs.Forms.{cause}

-- the number of a refusal of a command
abbrev pub IsOfCommand : Refused → Type 0
IsOfCommand r = (r.number ≤ 14) ⊎ (r.number ≡ 21)

-- ---- causes in a row

by_cause : (b : Bool) (q : Refused) → IsOfCommand q → (r : Refused) → cause b q ≡ Some r → IsOfCommand r
by_cause true q of r e = subst IsOfCommand (same_Some q r e) of
by_cause false q of r e = absurd (none-some r e)

-- those of a file that is put into the tree
by_causes : (a b c d : Bool) (path : List ℕ) (r : Refused)
    → cond a (Some (bad_path path)) (cond b (Some (exists_at path)) (cond c (Some (too_large Text)) (cond d (Some (too_large Entries)) None))) ≡ Some r → IsOfCommand r
by_causes true b c d path r e = by_cause true (bad_path path) (inl (omega arith)) r e
by_causes false true c d path r e = by_cause true (exists_at path) (inl (omega arith)) r e
by_causes false false true d path r e = by_cause true (too_large Text) (inl (omega arith)) r e
by_causes false false false true path r e = by_cause true (too_large Entries) (inl (omega arith)) r e
by_causes false false false false path r e = absurd (none-some r e)

by_either : (First Second : Refused → Type 0) (r : Refused) → (First r → IsOfCommand r) → (Second r → IsOfCommand r) → FirstCause First Second r → IsOfCommand r
by_either First Second r one other (at_first h) = one h
by_either First Second r one other (at_second none h) = other h

told : (q r : Refused) → IsOfCommand q → r ≡ q → IsOfCommand r
told q r of e = subst IsOfCommand (sym e) of

-- ---- the tree

-- and those of a link
by_causes_of_link : (a b d : Bool) (path : List ℕ) (r : Refused)
    → cond a (Some (bad_path path)) (cond b (Some (exists_at path)) (cond d (Some (too_large Entries)) None)) ≡ Some r → IsOfCommand r
by_causes_of_link true b d path r e = by_causes true b false d path r e
by_causes_of_link false true d path r e = by_causes false true false d path r e
by_causes_of_link false false d path r e = by_causes false false false d path r e

cause_of : (o : Option Refused) (a : Tree) (r : Refused) → unless_refused o a ≡ Err r → o ≡ Some r
cause_of None a r e = cc
cause_of (Some q) a r e = cc

put_of : (tree : Tree) (path text : List ℕ) (r : Refused) → put_file tree path text ≡ Err r → IsOfCommand r
unfolding put_file
put_of tree path text r e =
    by_causes (not (is_served path)) (is_link (map.get tree path)) (nat_lt text_limit (length text)) (is_full_for tree path) path r
    (cause_of (put_cause tree path text) (map.insert tree path (File text)) r e)

link_of : (tree : Tree) (path target : List ℕ) (r : Refused) → put_link tree path target ≡ Err r → IsOfCommand r
unfolding put_link
link_of tree path target r e =
    by_causes_of_link (not (is_fit_target (path_parts path) target)) (is_other_than_link (map.get tree path) target) (is_full_for tree path) path r
    (cause_of (link_cause tree path target) (map.insert tree path (Link target)) r e)

remove_of : (tree : Tree) (path : List ℕ) (r : Refused) → remove_at tree path ≡ Err r → IsOfCommand r
unfolding remove_at
remove_of tree path r e = by_cause (is_none (map.get tree path)) (bad_path path) (inl (omega arith)) r (cause_of (remove_cause tree path) (map.remove tree path) r e)

-- ---- units

crowded_of : (tree : ReadTree) (Extra : List ℕ → Type 0) (r : Refused) → IsCrowded tree Extra r → IsOfCommand r
crowded_of tree Extra r h = told (too_large Units) r (inl (omega arith)) h.refusal

start_of : (asked : List ℕ) (l : Loading) (r : Refused) → CannotStart asked l r → IsOfCommand r
start_of asked _ _ model.isnt_found = inl (omega arith)
start_of asked _ _ model.is_masked = inl (omega arith)
start_of asked _ _ model.has_bad_setting = inl (omega arith)
start_of asked _ _ (model.is_a_template is) = inl (omega arith)

enable_of : (unit : List ℕ) (l : Loading) (r : Refused) → CannotEnable unit l r → IsOfCommand r
enable_of unit _ _ isnt_found = inl (omega arith)
enable_of unit _ _ is_masked = inl (omega arith)
enable_of unit _ _ has_bad_setting = inl (omega arith)
enable_of unit _ _ (lacks_instance none) = inl (omega arith)

many_of : (tree : ReadTree) (asked : List ℕ) (r : Refused) → HasTooMany tree asked r → IsOfCommand r
many_of tree asked r (too_many all many) = inl (omega arith)

missing_of : (s : State) (asked : List ℕ) (r : Refused) → IsMissing s asked r → IsOfCommand r
missing_of s asked r h = told _ r (inl (omega arith)) h.refusal

load_of : (s : State) (tree : ReadTree) (r : Refused) → CausesOfLoad s tree r → IsOfCommand r
load_of s tree r = by_either _ _ r (crowded_of tree _ r) (λ h. told _ r (inl (omega arith)) h.refusal)

plan_of : (s : State) (verb : UnitVerb) (asked : List ℕ) (mode : JobMode) (r : Refused) → HasNoPlan s verb asked mode r → IsOfCommand r
plan_of s verb asked mode r h =
    by_either _ _ r (λ barred. start_of _ _ r barred.told)
    (by_either _ _ r (λ clashes. told _ r (inl (omega arith)) clashes.told)
    (by_either _ _ r (λ drops. told _ r (inl (omega arith)) drops.names.told) (λ circle. told _ r (inl (omega arith)) circle.refusal))) h.cause

too_many_of : (s : State) (verb : UnitVerb) (asked : List ℕ) (r : Refused) → PlansTooMany s verb asked r → IsOfCommand r
too_many_of s verb asked r (by_name h) = crowded_of s.loaded _ r h
too_many_of s verb asked r (by_jobs demanded plan h) = crowded_of s.loaded _ r h

pub missing_there : {s : State} {verb : UnitVerb} {asked : List ℕ} {r : Refused} → IsNotThere s verb asked r → IsMissing s asked r
missing_there (to_stop h) = h
missing_there (to_try_restart h) = h

unit_of : (profile : Profile) (s : State) (verb : UnitVerb) (asked : List ℕ) (mode : JobMode) (r : Refused) → Refuses profile s (ForUnit verb asked mode) r → IsOfCommand r
unit_of profile s verb asked mode r = by_either _ _ r (too_many_of s verb asked r) (by_either _ _ r (λ h. missing_of s asked r (missing_there h)) (plan_of s verb asked mode r))

cancel_of : (profile : Profile) (s : State) (asked : List ℕ) (r : Refused) → Refuses profile s (Cancel asked) r → IsOfCommand r
cancel_of profile s asked r = by_either _ _ r (missing_of s asked r) (λ h. told _ r (inr refl) h.refusal)

links_of : (tree : ReadTree) (verb : InstallVerb) (unit : List ℕ) (r : Refused) → RefusesLinks tree verb unit r → IsOfCommand r
links_of tree _ unit r (enables_none causes) =
    by_either _ _ r (λ unfit. told _ r (inl (omega arith)) unfit.told)
    (by_either _ _ r (λ occupied. told _ r (inl (omega arith)) occupied.told) (many_of tree _ r)) causes
links_of tree _ unit r (masks_none e) = link_of tree.entries _ _ r e

units_of : (tree : ReadTree) (verb : InstallVerb) (unit : List ℕ) (r : Refused) → RefusesUnits tree verb unit r → IsOfCommand r
units_of tree _ unit r (takes_none barred) = enable_of _ _ r barred.told

install_of : (profile : Profile) (s : State) (verb : InstallVerb) (unit : List ℕ) (r : Refused) → Refuses profile s (Install verb unit) r → IsOfCommand r
install_of profile s verb unit r =
    by_either _ _ r (links_of (read_by profile s.tree) verb unit r)
    (by_either _ _ r (λ h. crowded_of (as_loaded profile s h.tree) _ r h.cause)
    (by_either _ _ r (units_of (read_by profile s.tree) verb unit r) (λ h. told _ r (inl (omega arith)) h.cause.refusal)))

-- ---- all commands

pub refused_of_command : (profile : Profile) (s : State) (command : Command) (r : Refused) → Refuses profile s command r → IsOfCommand r
refused_of_command profile s (PutFile path text) r e = put_of s.tree _ _ r e
refused_of_command profile s (PutLink path target) r e = link_of s.tree _ _ r e
refused_of_command profile s (Remove path) r e = remove_of s.tree _ r e
refused_of_command profile s DaemonReload r causes = load_of s (as_loaded profile s s.tree) r causes
refused_of_command profile s (ForUnit verb asked mode) r causes = unit_of profile s verb asked mode r causes
refused_of_command profile s (Cancel asked) r causes = cancel_of profile s asked r causes
refused_of_command profile s (ResetFailed (Some asked)) r missing = missing_of s asked r missing
refused_of_command profile s (ResetFailed None) r none = absurd none
refused_of_command profile s (Install verb unit) r causes = install_of profile s verb unit r causes

-- nor is want of room
pub no_room_of_command : IsOfCommand no_room
no_room_of_command = inl (omega arith)
