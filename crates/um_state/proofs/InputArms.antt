-- An input is read by the tag of its fields, after its moment.
use Rattle.std.proofs.Common.{◌≡◌, ℕ, zero, suc, ◌-◌, nat_lt, Bool, true, false, List, [], ◌∷◌, ◌++◌, length, map as each, Option, Some, None, refl, sym, ap, ◌∙◌}
use Rattle.std.proofs.Common.{◌<◌, ◌≤◌, ◌+◌, take, drop, slice_index, arith}
use Rattle.std.specs.Prelude.{⊤}
use Rattle.std.proofs.lemmas.Bool.{ltb-true, ltb-false}
use Rattle.std.proofs.lemmas.List.{drop-drop, take_rest}
use Rattle.um_model.specs.Bytes.{Decoder, ◌>>=◌, choice_at, arm_in, as_at, pair_at, none_at, number_at, option_at, text_at, table_at}
use Rattle.um_model.specs.InputSpellings.{Timed, input_with, comes_at, for_unit_at, input_arms, input_at, install_at, nothing_at, texts_at, modes}
use Rattle.um_model.specs.Machine.{PutFile, PutLink, Remove, DaemonReload, ForUnit, Cancel, ResetFailed, Install, ProcessEnded, ProcessExecuted, Tick, Booted, Event, Commanded, Happened, Input}
use Rattle.um_model.specs.Spellings.{profile_of, end_at, moment_at, unit_name_at}
use Rattle.um_model.specs.StateSpellings.{boot_at}
use Rattle.um_model.specs.declared.commands.UnitVerb.{UnitVerb}
use Rattle.um_model.specs.declared.commands.UnitVerb.TheVariants as verb
use Rattle.um_model.specs.declared.install.InstallVerb.{InstallVerb}
use Rattle.um_model.specs.declared.install.InstallVerb.TheVariants as install
use Rattle.um_model.specs.declared.profile.Profile.{Profile}
use Rattle.um_state.proofs.Fronts.{two_first}
use Rattle.um_state.specs.Arms.{command_arms, event_at, for_unit, happening_arms, installs, timed_at}

-- two readings are one
abbrev Same : {A : Type 0} → Decoder A → Decoder A → Type 0
Same one other = (bytes : List ℕ) → one bytes ≡ other bytes

-- after a moment
abbrev timed : Decoder Event → Decoder Timed
timed one = pair_at moment_at one

-- a value as it was read, in another form, beside the value read before it
abbrev pub told : {A B : Type 0} → (A → B) → Option (A × List ℕ) → Option (B × List ℕ)
told to o = o >>= λ a. Some (to a.0, a.1)

abbrev beside : {A B : Type 0} → A → Option (B × List ℕ) → Option ((A × B) × List ℕ)
beside a o = o >>= λ b. Some ((a, b.0), b.1)

abbrev behind : {A B : Type 0} → Decoder B → Option (A × List ℕ) → Option ((A × B) × List ℕ)
behind one o = o >>= λ a. beside a.0 (one a.1)

-- the fields are read in one form, put into another, and then into a third
module _ {A B : Type 0} (to : A → B) (last : B → Event) (reading : Decoder A) where
  abbrev timed_by : ℕ × A → Timed
  timed_by f = (f.0, last (to f.1))

  at_fields : (m : ℕ) (o : Option (A × List ℕ)) → told timed_by (beside m o) ≡ beside m (told last (told to o))
  at_fields m None = refl
  at_fields m (Some x) = refl

  at_moment : (o : Option (ℕ × List ℕ)) → told timed_by (behind reading o) ≡ behind (as_at last (as_at to reading)) o
  at_moment None = refl
  at_moment (Some x) = at_fields x.0 (reading x.1)

  comes : Same (comes_at (λ f. last (to f)) reading) (timed (as_at last (as_at to reading)))
  comes bytes = at_moment (moment_at bytes)

none_timed : Same none_at (timed none_at)
none_timed bytes = by (moment_at bytes) where
  by : (o : Option (ℕ × List ℕ)) → None ≡ behind (none_at {A = Event}) o
  by None = refl
  by (Some x) = refl

-- each arm is the same as the timed one at its place
abbrev AreSame : List (Decoder Timed) → List (Decoder Event) → Type 0
AreSame [] [] = ⊤
AreSame [] (e ∷ es) = ⊥
AreSame (i ∷ is) [] = ⊥
AreSame (i ∷ is) (e ∷ es) = Same i (timed e) × AreSame is es

same_arm : (is : List (Decoder Timed)) (es : List (Decoder Event)) → AreSame is es → (tag : ℕ) → Same (arm_in is tag) (timed (arm_in es tag))
same_arm [] [] h tag = none_timed
same_arm [] (e ∷ es) h tag = absurd h
same_arm (i ∷ is) [] h tag = absurd h
same_arm (i ∷ is) (e ∷ es) h zero = h.0
same_arm (i ∷ is) (e ∷ es) h (suc tag) = same_arm is es h.1 tag

-- the fields of all events, by the tags
abbrev event_arms : List (Decoder Event)
event_arms = each (as_at Commanded) command_arms ++ each (as_at Happened) happening_arms

all_same : AreSame input_arms event_arms
all_same = (
  none_timed,
  (
    comes (λ f. PutFile f.0 f.1) Commanded texts_at,
    (
      comes (λ f. PutLink f.0 f.1) Commanded texts_at,
      (
        comes Remove Commanded text_at,
        (
          comes (λ nothing. DaemonReload) Commanded nothing_at,
          (
            for_units verb.Start,
            (
              for_units verb.Stop,
              (
                for_units verb.Restart,
                (
                  for_units verb.TryRestart,
                  (
                    comes Cancel Commanded unit_name_at,
                    (
                      comes ResetFailed Commanded (option_at unit_name_at),
                      (install_same install.Enable, (install_same install.Disable, (install_same install.Mask, (install_same install.Unmask, happenings)))),
                    ),
                  ),
                ),
              ),
            ),
          ),
        ),
      ),
    ),
  ),
) where
  for_units : (v : UnitVerb) → Same (for_unit_at v) (timed (as_at Commanded (for_unit v)))
  for_units v = comes (λ f. ForUnit v f.0 f.1) Commanded (pair_at unit_name_at (table_at modes))

  install_same : (v : InstallVerb) → Same (install_at v) (timed (as_at Commanded (installs v)))
  install_same v = comes (λ unit. Install v unit) Commanded unit_name_at

  happenings : AreSame (drop 15 input_arms) (each (as_at Happened) happening_arms)
  happenings = (
    comes (λ f. ProcessEnded f.0 f.1) Happened (pair_at (number_at 8) end_at),
    (comes ProcessExecuted Happened (number_at 8), (comes (λ nothing. Tick) Happened nothing_at, (comes Booted Happened boot_at, tt))),
  )

-- ---- an arm of two tables, one after the other

module _ {A : Type 0} (to : A → Event) where
  arm_told : (arms : List (Decoder A)) (tag : ℕ) → Same (arm_in (each (as_at to) arms) tag) (as_at to (arm_in arms tag))
  arm_told [] tag bytes = refl
  arm_told (arm ∷ arms) zero bytes = refl
  arm_told (arm ∷ arms) (suc tag) bytes = arm_told arms tag bytes

module _ {A B : Type 0} (to : A → Event) (other : B → Event) (others : List (Decoder B)) where
  abbrev both : List (Decoder A) → List (Decoder Event)
  both arms = each (as_at to) arms ++ each (as_at other) others

  in_first : (arms : List (Decoder A)) (tag : ℕ) → tag < length arms → Same (arm_in (both arms) tag) (as_at to (arm_in arms tag))
  in_first [] tag low bytes = absurd (omega (arith, low))
  in_first (arm ∷ arms) zero low bytes = refl
  in_first (arm ∷ arms) (suc tag) low bytes = in_first arms tag (omega (arith, low)) bytes

  in_second : (arms : List (Decoder A)) (tag : ℕ) → Same (arm_in (both arms) (length arms + tag)) (as_at other (arm_in others tag))
  in_second [] tag bytes =
      let same : 0 + tag ≡ tag = omega arith in
      ap (λ n. arm_in (both []) n bytes) same ∙ arm_told other others tag bytes
  in_second (arm ∷ arms) tag bytes =
      let same : length (arm ∷ arms) + tag ≡ suc (length arms + tag) = omega arith in
      ap (λ n. arm_in (both (arm ∷ arms)) n bytes) same ∙ in_second arms tag bytes

-- the fields of the event are read by its tag
event_here : (tag : ℕ) → Same (arm_in event_arms tag) (event_at tag)
event_here tag bytes = by (nat_lt tag 15) refl where
  by : (low : Bool) → nat_lt tag 15 ≡ low → arm_in event_arms tag bytes ≡ event_at tag bytes
  by true e = rw e (in_first Commanded Happened happening_arms command_arms tag (ltb-true tag 15 e) bytes)
  by false e =
      let high : 15 ≤ tag = ltb-false tag 15 e in
      let is : 15 + (tag - 15) ≡ tag = omega (arith, high) in
      rw e (ap (λ n. arm_in event_arms n bytes) (sym is) ∙ in_second Commanded Happened happening_arms command_arms (tag - 15) bytes)

timed_same : (one other : Decoder Event) → Same one other → Same (timed one) (timed other)
timed_same one other h bytes = by (moment_at bytes) where
  by : (o : Option (ℕ × List ℕ)) → behind one o ≡ behind other o
  by None = refl
  by (Some x) = ap (beside x.0) (h x.1)

-- the profile of a tag, with the bytes after it
abbrev tagged_by : List ℕ → Option Profile → Option (Profile × List ℕ)
tagged_by rest o = o >>= λ p. Some (p, rest)

-- the input that is read after the tag of its profile
abbrev input_behind : List ℕ → Option Profile → Option (Input × List ℕ)
input_behind rest o = told input_with (behind (choice_at (arm_in input_arms)) (tagged_by rest o))

-- after the tag of a profile and another tag, an input is a moment and the fields of that tag
pub input_here : (bytes : List ℕ) → 2 ≤ length bytes → (profile : Profile) → profile_of (slice_index bytes 0) ≡ Some profile
    → input_at bytes ≡ as_at (λ t. input_with (profile, t)) (timed_at (slice_index bytes 1)) (drop 2 bytes)
input_here bytes long profile is =
    let tag = slice_index bytes 1 in
    let rest = drop 2 bytes in
    let arm = same_arm input_arms event_arms all_same tag rest ∙ timed_same (arm_in event_arms tag) (event_at tag) (event_here tag) rest in
    ap input_at (two_first bytes long)
    ∙ (by (profile_of (slice_index bytes 0)) is ∙ ap (told (λ t. input_with (profile, t))) arm)
  where
    with_profile : (o : Option (Timed × List ℕ)) → told input_with (beside profile o) ≡ told (λ t. input_with (profile, t)) o
    with_profile None = refl
    with_profile (Some x) = refl

    by : (o : Option Profile) → o ≡ Some profile
        → input_behind (slice_index bytes 1 ∷ drop 2 bytes) o ≡ told (λ t. input_with (profile, t)) (arm_in input_arms (slice_index bytes 1) (drop 2 bytes))
    by o same = rw same (with_profile (arm_in input_arms (slice_index bytes 1) (drop 2 bytes)))

-- a first byte that is no profile's tag is no input
pub unprofiled : (bytes : List ℕ) → 2 ≤ length bytes → profile_of (slice_index bytes 0) ≡ None → input_at bytes ≡ None
unprofiled bytes long none = ap input_at (two_first bytes long) ∙ rw none refl

-- nor do fewer than two bytes
pub input_short : (bytes : List ℕ) → length bytes < 2 → input_at bytes ≡ None
input_short [] short = refl
input_short (b ∷ []) short = by (profile_of b)
  where
    by : (o : Option Profile) → input_behind [] o ≡ None
    by None = refl
    by (Some p) = refl
input_short (b ∷ c ∷ bytes) short = absurd (omega (arith, short))

-- the event is read after its moment
pub timed_here : (tag : ℕ) (bytes : List ℕ) (moment n : ℕ) (event : Event) (m : ℕ) → moment_at bytes ≡ Some (moment, drop n bytes)
    → event_at tag (take (length bytes - n) (drop n bytes)) ≡ Some (event, drop m (take (length bytes - n) (drop n bytes)))
    → timed_at tag bytes ≡ Some ((moment, event), drop (n + m) bytes)
timed_here tag bytes moment n event m first second =
    let rest = take_rest bytes n in
    let there = rw rest at second in
    rw (first, there) (ap (λ l. Some ((moment, event), l)) (drop-drop m n bytes))

-- and there is none if that isn't there
pub timed_none : (tag : ℕ) (bytes : List ℕ) (moment n : ℕ) → moment_at bytes ≡ Some (moment, drop n bytes) → event_at tag (take (length bytes - n) (drop n bytes)) ≡ None
    → timed_at tag bytes ≡ None
timed_none tag bytes moment n first second =
    let rest = take_rest bytes n in
    let there = rw rest at second in
    rw (first, there) refl
