-- The replies, from the contracts of the functions called.
use Rattle.std.proofs.Common.{◌≡◌, ℕ, List, sym, subst}
use Rattle.um_model.specs.Install.{IsEnabledAs}
use Rattle.um_model.specs.Jobs.{jobs_shown}
use Rattle.um_model.specs.Machine.{State, Reply, Shown, Activity, EnabledAs, Jobs, Show, IsActive, IsFailed, Cat, IsEnabled, ListJobs, shown_of, state_asked, files_told, IsReplyTo, shows, tells_activity, tells_failure, tells_files, tells_enabling, lists_jobs}
use Rattle.um_model.specs.Profiles.{current, read_by}
use Rattle.um_model.specs.Resolution.{resolution_of}
use Rattle.um_model.specs.Service.{active_state_of}
use Rattle.um_model.specs.Units.{load}
use Rattle.um_model.specs.declared.install.Enabling.{Enabling}

pub shows_so : (s : State) (asked : List ℕ) (reply : Reply) → reply ≡ Shown (shown_of asked (load s.loaded asked) (state_asked s asked)) → IsReplyTo s (Show asked) reply
shows_so s asked reply is = subst (IsReplyTo s (Show asked)) (sym is) shows

pub tells_activity_so : (s : State) (asked : List ℕ) (reply : Reply) → reply ≡ Activity (active_state_of (state_asked s asked).sub) → IsReplyTo s (IsActive asked) reply
tells_activity_so s asked reply is = subst (IsReplyTo s (IsActive asked)) (sym is) tells_activity

pub tells_failure_so : (s : State) (asked : List ℕ) (reply : Reply) → reply ≡ Activity (active_state_of (state_asked s asked).sub) → IsReplyTo s (IsFailed asked) reply
tells_failure_so s asked reply is = subst (IsReplyTo s (IsFailed asked)) (sym is) tells_failure

pub tells_files_so : (s : State) (asked : List ℕ) (reply : Reply) → reply ≡ files_told s.tree asked (resolution_of s.tree asked) → IsReplyTo s (Cat asked) reply
tells_files_so s asked reply is = subst (IsReplyTo s (Cat asked)) (sym is) tells_files

pub tells_enabling_so : (s : State) (asked : List ℕ) (reply : Reply) → ((answer : Enabling) × IsEnabledAs (read_by current s.tree) asked answer × (reply ≡ EnabledAs answer))
    → IsReplyTo s (IsEnabled asked) reply
tells_enabling_so s asked reply (answer, enabled, is) = subst (IsReplyTo s (IsEnabled asked)) (sym is) (tells_enabling enabled)

pub lists_jobs_so : (s : State) (reply : Reply) → reply ≡ Jobs (jobs_shown s.pending) → IsReplyTo s ListJobs reply
lists_jobs_so s reply is = subst (IsReplyTo s ListJobs) (sym is) lists_jobs
