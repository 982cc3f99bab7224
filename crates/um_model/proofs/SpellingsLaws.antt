-- The laws of the bytes of one unit's state.
use Rattle.std.proofs.Common.{◌≡◌, ℕ, ◌-◌, Bool, true, false, ◌==◌, if◌then◌else◌, ◌++◌, List, Some, None, refl, sym, ap, ◌∙◌, arith}
use Rattle.std.specs.Prelude.{⊤}
use Rattle.std.proofs.lemmas.Bool.{eqb-true}
use Rattle.std.specs.List.{slice_get}
use Rattle.um_model.specs.Bytes.{IsCanonical, arm_in, text_spelling, table_at, tagged}
use Rattle.um_model.specs.Names.{is_unit_name}
use Rattle.um_model.proofs.BytesLaws.{some_is, canonical8, canonical32, canonical_pair, canonical_form, canonical_as, canonical_option, canonical_tag, table_back, canonical_between, canonical_truth, canonical_text, canonical_only, AllTell, tells, tells_just, canonical_arms}
use Rattle.um_model.specs.Moments.{moment_limit, deadline_limit, process_limit}
use Rattle.um_model.specs.Spellings.{profile_tag, profile_of, profile_at, sub_tag, sub_states, result_tag, results, kind_tag, kinds, job_state_tag, job_states}
use Rattle.um_model.specs.Spellings.{end_tag, end_fields, end_arms, end_spelling, end_at, FitEnd, moment_at, FitMoment, deadline_at, FitDeadline, process_at, FitProcess, next_at, FitNext}
use Rattle.um_model.specs.Spellings.{unit_name_at, FitUnitName, counted_spelling, counted_of, counted_at, FitCounted, unit_spelling, UnitFields, unit_of, unit_at, FitUnit}
use Rattle.byteorder.specs.Endian.{big_bytes}
use Rattle.um_model.specs.declared.jobs.JobKind.{JobKind}
use Rattle.um_model.specs.declared.jobs.JobKind.TheVariants as kind
use Rattle.um_model.specs.declared.jobs.JobState.{JobState}
use Rattle.um_model.specs.declared.jobs.JobState.TheVariants.{Waiting, Running}
use Rattle.um_model.specs.declared.profile.Profile.{Profile}
use Rattle.um_model.specs.declared.profile.Profile.TheVariants.{One, Two}
use Rattle.um_model.specs.declared.service.End.{End}
use Rattle.um_model.specs.declared.service.End.TheVariants as end
use Rattle.um_model.specs.declared.service.SubState.{SubState}
use Rattle.um_model.specs.declared.service.SubState.TheVariants as sub
use Rattle.um_model.specs.declared.service.UnitResult.{UnitResult}
use Rattle.um_model.specs.declared.service.UnitResult.TheVariants as result
use Rattle.um_model.specs.declared.service.UnitState.{UnitState}

-- ---- choices without fields

pub profile_again : (p : Profile) → profile_of (profile_tag p) ≡ Some p
profile_again One = refl
profile_again Two = refl

pub profile_back : (n : ℕ) (p : Profile) → profile_of n ≡ Some p → profile_tag p ≡ n
profile_back n p e = by (n == 1) (n == 2) refl refl e where
  by : (one two : Bool) → (n == 1) ≡ one → (n == 2) ≡ two → (if one then Some One else (if two then Some Two else None)) ≡ Some p → profile_tag p ≡ n
  by true two is isnt found = ap profile_tag (sym (some_is One p found)) ∙ sym (eqb-true n 1 is)
  by false true isnt is found = ap profile_tag (sym (some_is Two p found)) ∙ sym (eqb-true n 2 is)
  by false false isnt neither found = absurd cc

pub canonical_profile : IsCanonical (λ p. ⊤) (tagged profile_tag) profile_at
canonical_profile = canonical_tag profile_tag profile_of profile_again profile_back

pub sub_again : (s : SubState) → slice_get sub_states (sub_tag s) ≡ Some s
sub_again sub.Dead = refl
sub_again sub.Start = refl
sub_again sub.Running = refl
sub_again sub.Exited = refl
sub_again sub.Stop = refl
sub_again sub.StopSigterm = refl
sub_again sub.StopSigkill = refl
sub_again sub.Failed = refl
sub_again sub.AutoRestart = refl
sub_again sub.Active = refl
sub_again sub.StartPre = refl

pub sub_back : (n : ℕ) (a : SubState) → slice_get sub_states n ≡ Some a → sub_tag a ≡ n
sub_back = table_back sub_tag sub_states (refl, (refl, (refl, (refl, (refl, (refl, (refl, (refl, (refl, (refl, (refl, tt)))))))))))

pub canonical_sub : IsCanonical (λ s. ⊤) (tagged sub_tag) (table_at sub_states)
canonical_sub = canonical_tag sub_tag (slice_get sub_states) sub_again sub_back

pub result_again : (r : UnitResult) → slice_get results (result_tag r) ≡ Some r
result_again result.Success = refl
result_again result.ExitCode = refl
result_again result.Signal = refl
result_again result.Timeout = refl
result_again result.Lost = refl
result_again result.StartLimitHit = refl
result_again result.Dependency = refl
result_again result.NotLoaded = refl
result_again result.Resources = refl

pub result_back : (n : ℕ) (a : UnitResult) → slice_get results n ≡ Some a → result_tag a ≡ n
result_back = table_back result_tag results (refl, (refl, (refl, (refl, (refl, (refl, (refl, (refl, (refl, tt)))))))))

pub canonical_result : IsCanonical (λ r. ⊤) (tagged result_tag) (table_at results)
canonical_result = canonical_tag result_tag (slice_get results) result_again result_back

pub kind_again : (k : JobKind) → slice_get kinds (kind_tag k) ≡ Some k
kind_again kind.Stop = refl
kind_again kind.Start = refl

pub kind_back : (n : ℕ) (a : JobKind) → slice_get kinds n ≡ Some a → kind_tag a ≡ n
kind_back = table_back kind_tag kinds (refl, (refl, tt))

pub canonical_kind : IsCanonical (λ k. ⊤) (tagged kind_tag) (table_at kinds)
canonical_kind = canonical_tag kind_tag (slice_get kinds) kind_again kind_back

pub job_state_again : (s : JobState) → slice_get job_states (job_state_tag s) ≡ Some s
job_state_again Waiting = refl
job_state_again Running = refl

pub job_state_back : (n : ℕ) (a : JobState) → slice_get job_states n ≡ Some a → job_state_tag a ≡ n
job_state_back = table_back job_state_tag job_states (refl, (refl, tt))

pub canonical_job_state : IsCanonical (λ s. ⊤) (tagged job_state_tag) (table_at job_states)
canonical_job_state = canonical_tag job_state_tag (slice_get job_states) job_state_again job_state_back

-- ---- an end

pub canonical_end : IsCanonical FitEnd end_spelling end_at
canonical_end = canonical_arms end_arms all again where
  all : AllTell end_tag end_fields FitEnd 0 end_arms
  all = (tells 0 end.Code canonical8 (λ n fit. (refl, refl, fit)), (tells 1 end.Signal canonical8 (λ n fit. (refl, refl, fit)), (tells_just 2 end.Lost refl refl tt, tt)))

  again : (e : End) (rest : List ℕ) → FitEnd e → arm_in end_arms (end_tag e) (end_fields e ++ rest) ≡ Some (e, rest)
  again (end.Code code) rest h = refl
  again (end.Signal number) rest h = refl
  again end.Lost rest h = refl

-- ---- moments and process numbers

pub canonical_moment : IsCanonical FitMoment (big_bytes 8) moment_at
canonical_moment = canonical_between 0 moment_limit (omega arith)

pub canonical_deadline : IsCanonical FitDeadline (big_bytes 8) deadline_at
canonical_deadline = canonical_between 0 deadline_limit (omega arith)

pub canonical_process : IsCanonical FitProcess (big_bytes 8) process_at
canonical_process = canonical_between 1 (process_limit - 1) (omega arith)

pub canonical_next : IsCanonical FitNext (big_bytes 8) next_at
canonical_next = canonical_between 1 process_limit (omega arith)

-- ---- the name of a unit, a start window, and a unit

pub canonical_unit_name : IsCanonical FitUnitName text_spelling unit_name_at
canonical_unit_name = canonical_only is_unit_name canonical_text

pub canonical_counted : IsCanonical FitCounted counted_spelling counted_at
canonical_counted = canonical_as counted_of (λ c. (c.began, c.count)) (λ f. refl) (λ c. refl) (canonical_pair canonical_moment canonical32)

abbrev fields : UnitState → UnitFields
fields u = (u.sub, (u.result, (u.main, (u.control, (u.index, (u.deadline, (u.window, (u.stop_asked, u.last))))))))

pub canonical_unit : IsCanonical FitUnit unit_spelling unit_at
canonical_unit =
    canonical_form unit_of fields
    (λ f h. (record { main = h.1.1.0; control = h.1.1.1.0; index = h.1.1.1.1.0; deadline = h.1.1.1.1.1.0; window = h.1.1.1.1.1.1.0; last = h.1.1.1.1.1.1.1.1 }, refl))
    (λ u h. ((tt, (tt, (h.main, (h.control, (h.index, (h.deadline, (h.window, (tt, h.last)))))))), refl))
    (canonical_pair canonical_sub (canonical_pair canonical_result (canonical_pair (canonical_option canonical_process) (canonical_pair (canonical_option canonical_process)
    (canonical_pair canonical32 (canonical_pair (canonical_option canonical_deadline) (canonical_pair (canonical_option canonical_counted)
    (canonical_pair canonical_truth (canonical_option canonical_end)))))))))
