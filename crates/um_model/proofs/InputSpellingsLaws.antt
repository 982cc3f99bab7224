-- The law of the bytes of inputs.
use Rattle.std.proofs.Common.{◌≡◌, ℕ, List, [], ◌++◌, Some, refl, ap}
use Rattle.std.specs.Prelude.{⊤}
use Rattle.std.specs.List.{slice_get}
use Rattle.byteorder.specs.Endian.{big_bytes}
use Rattle.um_model.specs.Bytes.{Decoder, Spelling, IsCanonical, arm_in, table_at, tagged}
use Rattle.um_model.specs.Machine.{PutFile, PutLink, Remove, DaemonReload, ForUnit, Cancel, ResetFailed, Install, ProcessEnded, ProcessExecuted, Tick, Booted, Event, Commanded, Happened, Input}
use Rattle.um_model.specs.InputSpellings.{mode_tag, modes, event_tag, event_fields, input_spelling, input_with, Timed, comes_at, for_unit_at, install_at, nothing_at, input_arms, input_at, FitEvent, FitInput}
use Rattle.um_model.proofs.BytesLaws.{just_is, Tells, AllTell, tells, tells_none, canonical_arms, canonical_as, canonical_fits, canonical_tag, table_back, canonical_pair, canonical_text, canonical64, canonical_option}
use Rattle.um_model.proofs.StateSpellingsLaws.{canonical_boot}
use Rattle.um_model.proofs.SpellingsLaws.{canonical_profile, canonical_moment, canonical_unit_name, canonical_end}
use Rattle.um_model.specs.Spellings.{FitMoment}
use Rattle.um_model.specs.declared.commands.JobMode.{JobMode}
use Rattle.um_model.specs.declared.commands.JobMode.TheVariants as mode
use Rattle.um_model.specs.declared.commands.UnitVerb.{UnitVerb}
use Rattle.um_model.specs.declared.commands.UnitVerb.TheVariants as verb
use Rattle.um_model.specs.declared.install.InstallVerb.{InstallVerb}
use Rattle.um_model.specs.declared.install.InstallVerb.TheVariants as install

-- ---- the modes

pub mode_again : (m : JobMode) → slice_get modes (mode_tag m) ≡ Some m
mode_again mode.Replace = refl
mode_again mode.Fail = refl

pub mode_back : (n : ℕ) (m : JobMode) → slice_get modes n ≡ Some m → mode_tag m ≡ n
mode_back = table_back mode_tag modes (refl, (refl, tt))

pub canonical_mode : IsCanonical (λ m. ⊤) (tagged mode_tag) (table_at modes)
canonical_mode = canonical_tag mode_tag (slice_get modes) mode_again mode_back

-- ---- the arms of an input

-- no fields
canonical_nothing : IsCanonical (λ (n : ⊤). ⊤) (λ n. []) nothing_at
canonical_nothing = record { takes = λ bytes v rest h e. just_is tt (λ w r. (bytes ≡ [] ++ r) × ⊤) bytes v rest e (refl, tt); again = λ v rest h. refl }

abbrev timed_tag : Timed → ℕ
timed_tag i = event_tag i.1

abbrev timed_fields : Spelling Timed
timed_fields i = big_bytes 8 i.0 ++ event_fields i.1

abbrev FitTimed : Timed → Type 0
FitTimed i = FitMoment i.0 × FitEvent i.1

-- an arm of an input: a moment, and its fields
arm : {A : Type 0} {fits : A → Type 0} {spelling : Spelling A} {reading : Decoder A} (n : ℕ) (to : A → Event) → IsCanonical fits spelling reading
    → ((f : A) → fits f → (n ≡ event_tag (to f)) × (event_fields (to f) ≡ spelling f) × FitEvent (to f)) → Tells timed_tag timed_fields FitTimed n (comes_at to reading)
arm n to law is =
    tells n (λ f. (f.0, to f.1)) (canonical_pair canonical_moment law)
    (λ f fit. ((is f.1 fit.1).0, ap (λ (w : List ℕ). big_bytes 8 f.0 ++ w) (is f.1 fit.1).1, (fit.0, (is f.1 fit.1).2)))

for_unit : (v : UnitVerb) → Tells timed_tag timed_fields FitTimed (event_tag (Commanded (ForUnit v [] mode.Replace))) (for_unit_at v)
for_unit v = arm _ _ (canonical_pair canonical_unit_name canonical_mode) (λ f fit. (refl, refl, fit.0))

installs : (v : InstallVerb) → Tells timed_tag timed_fields FitTimed (event_tag (Commanded (Install v []))) (install_at v)
installs v = arm _ _ canonical_unit_name (λ unit fit. (refl, refl, fit))

all_arms : AllTell timed_tag timed_fields FitTimed 0 input_arms
all_arms = (
  tells_none 0,
  (
    arm 1 _ (canonical_pair canonical_text canonical_text) (λ f fit. (refl, refl, fit)),
    (
      arm 2 _ (canonical_pair canonical_text canonical_text) (λ f fit. (refl, refl, fit)),
      (
        arm 3 _ canonical_text (λ f fit. (refl, refl, fit)),
        (
          arm 4 _ canonical_nothing (λ f fit. (refl, refl, tt)),
          (
            for_unit verb.Start,
            (
              for_unit verb.Stop,
              (
                for_unit verb.Restart,
                (
                  for_unit verb.TryRestart,
                  (
                    arm 9 _ canonical_unit_name (λ f fit. (refl, refl, fit)),
                    (
                      arm 10 _ (canonical_option canonical_unit_name) (λ f fit. (refl, refl, fit)),
                      (
                        installs install.Enable,
                        (
                          installs install.Disable,
                          (
                            installs install.Mask,
                            (
                              installs install.Unmask,
                              (arm 15 _ (canonical_pair canonical64 canonical_end) (λ f fit. (refl, refl, fit)), (arm 16 _ canonical64 (λ f fit. (refl, refl, fit)), (arm 17 _ canonical_nothing (λ f fit. (refl, refl, tt)), (arm 18 _ canonical_boot (λ f fit. (refl, refl, fit)), tt)))),
                            ),
                          ),
                        ),
                      ),
                    ),
                  ),
                ),
              ),
            ),
          ),
        ),
      ),
    ),
  ),
)

-- ---- the law

-- the fields that are spelled after a moment are read back by their arm
reads : {A : Type 0} {fits : A → Type 0} {spelling : Spelling A} {reading : Decoder A} (to : A → Event) (law : IsCanonical fits spelling reading) (t : ℕ) (f : A) (rest : List ℕ) → FitTimed (t, to f) → fits f
    → comes_at to reading ((big_bytes 8 t ++ spelling f) ++ rest) ≡ Some ((t, to f), rest)
reads {spelling = spelling} to law t f rest h fit = rw ((canonical_pair canonical_moment law).again (t, f) rest (h.0, fit)) refl

arms_again : (i : Timed) (rest : List ℕ) → FitTimed i → arm_in input_arms (timed_tag i) (timed_fields i ++ rest) ≡ Some (i, rest)
arms_again i rest h = by i.1 i.0 h where
  by : (e : Event) (t : ℕ) → FitTimed (t, e) → arm_in input_arms (event_tag e) ((big_bytes 8 t ++ event_fields e) ++ rest) ≡ Some ((t, e), rest)
  by (Commanded (PutFile path text)) t h = reads _ (canonical_pair canonical_text canonical_text) t (path, text) rest h h.1
  by (Commanded (PutLink path target)) t h = reads _ (canonical_pair canonical_text canonical_text) t (path, target) rest h h.1
  by (Commanded (Remove path)) t h = reads _ canonical_text t path rest h h.1
  by (Commanded DaemonReload) t h = reads _ canonical_nothing t tt rest h tt
  by (Commanded (ForUnit verb.Start unit mode)) t h = reads _ (canonical_pair canonical_unit_name canonical_mode) t (unit, mode) rest h (h.1, tt)
  by (Commanded (ForUnit verb.Stop unit mode)) t h = reads _ (canonical_pair canonical_unit_name canonical_mode) t (unit, mode) rest h (h.1, tt)
  by (Commanded (ForUnit verb.Restart unit mode)) t h = reads _ (canonical_pair canonical_unit_name canonical_mode) t (unit, mode) rest h (h.1, tt)
  by (Commanded (ForUnit verb.TryRestart unit mode)) t h = reads _ (canonical_pair canonical_unit_name canonical_mode) t (unit, mode) rest h (h.1, tt)
  by (Commanded (Cancel unit)) t h = reads _ canonical_unit_name t unit rest h h.1
  by (Commanded (ResetFailed unit)) t h = reads _ (canonical_option canonical_unit_name) t unit rest h h.1
  by (Commanded (Install install.Enable unit)) t h = reads _ canonical_unit_name t unit rest h h.1
  by (Commanded (Install install.Disable unit)) t h = reads _ canonical_unit_name t unit rest h h.1
  by (Commanded (Install install.Mask unit)) t h = reads _ canonical_unit_name t unit rest h h.1
  by (Commanded (Install install.Unmask unit)) t h = reads _ canonical_unit_name t unit rest h h.1
  by (Happened (ProcessEnded number end)) t h = reads _ (canonical_pair canonical64 canonical_end) t (number, end) rest h h.1
  by (Happened (ProcessExecuted number)) t h = reads _ canonical64 t number rest h h.1
  by (Happened Tick) t h = reads _ canonical_nothing t tt rest h tt
  by (Happened (Booted boot)) t h = reads _ canonical_boot t boot rest h h.1

pub canonical_input : IsCanonical FitInput input_spelling input_at
canonical_input =
    canonical_fits (λ i h. record { moment = h.1.0; event = h.1.1 }) (λ i h. (tt, (h.moment, h.event)))
    (canonical_as input_with (λ i. (i.profile, (i.moment, i.event))) (λ f. refl) (λ i. refl) (canonical_pair canonical_profile (canonical_arms input_arms all_arms arms_again)))
