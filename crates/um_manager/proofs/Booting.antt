-- A boot's effect on the live processes; it has no actions.
use Rattle.std.proofs.Common.{◌≡◌, ◌≢◌, ◌⊎◌, ◌↔◌, ◌+◌, ◌≤◌, ◌∙◌, ℕ, List, [], length, length-append, Bool, true, false, true≢false, None, unwrap_or, Result, Ok, Err, refl, sym, ap, subst, inl, inr, arith}
use Rattle.um_engine.specs.OfStore.{is_of_store}
use Rattle.um_sector.specs.Refused.{IsLost}
use Rattle.um_wire.specs.Refusal.{refused_of}
use Rattle.um_wire.specs.declared.refusal.Refusal as declared
use Rattle.um_wire.specs.declared.refusal.Refusal.TheVariants.{Reopen, GenerationsSpent}
use Rattle.std.specs.Bool.{⊤}
use Rattle.std.specs.FinMap as map
use Rattle.byteorder.specs.Endian.{big_bytes}
use Rattle.um_log.specs.Reading.{Fits}
use Rattle.um_laws.proofs.InputLengthLaws.{text_long, number_long}
use Rattle.um_model.specs.Bytes.{text_spelling}
use Rattle.um_model.specs.InputSpellings.{input_spelling}
use Rattle.um_model.specs.Refusals.{Refused, no_room}
use Rattle.um_model.specs.Store.{log_start}
use Rattle.um_model.specs.Tree.{Tree}
use Rattle.um_model.specs.declared.layout.Layout.{Layout}
use Rattle.um_model.specs.declared.profile.Profile.{Profile}
use Rattle.um_model.specs.Machine.{boot_limit, Done, Refusal, reply_after}
use Rattle.um_model.specs.Machine.{State, Input, Reply, Event, Commanded, Happened, Happening, ProcessEnded, ProcessExecuted, Tick, Booted, HasNoEffect, is_over, isnt_awaited, is_idle, is_known, Follows, ends, reports, ticks, boots, TakesEffect, obeys, meets, HasNoRoom, Step, refused, crowded_out, idle, taken}
use Rattle.um_model.specs.Service.{Action}
use Rattle.um_model.specs.Service.{dead_unit}
use Rattle.um_model.specs.Transitions.{HasNumber}
use Rattle.um_fates.proofs.Numbered.{over_dead}
use Rattle.um_fates.specs.Fates.{happens_at}
use Rattle.um_fates.specs.Live.{has, is_live, AreLive}

abbrev Boots : State → List ℕ → List Action → State → Type 0
Boots s boot actions t = (actions ≡ []) × (((boot ≡ s.boot) × (t.units ≡ s.units)) ⊎ ((boot ≢ s.boot) × (t.units ≡ map.empty)))

abbrev IsBooted : State → Event → List Action → State → Type 0
IsBooted s (Commanded command) actions t = ⊤
IsBooted s (Happened (ProcessEnded number end)) actions t = ⊤
IsBooted s (Happened (ProcessExecuted number)) actions t = ⊤
IsBooted s (Happened Tick) actions t = ⊤
IsBooted s (Happened (Booted boot)) actions t = Boots s boot actions t

known : (t : ℕ) (s : State) (happening : Happening) → HasNoEffect t s happening → IsBooted s (Happened happening) [] s
known t s happening (is_over over) = tt
known t s happening (isnt_awaited none) = tt
known t s happening (is_idle still) = tt
known t s happening (is_known same) = (refl, inl (same, refl))

followed : (t : ℕ) (s u : State) (happening : Happening) (actions : List Action) → ¬ HasNoEffect t s happening → Follows t s happening actions u → IsBooted s (Happened happening) actions (record u { clock = t })
followed t s u happening actions effect (ends unit process met settles) = tt
followed t s u happening actions effect (reports unit process awaits met settles) = tt
followed t s u happening actions effect (ticks timers are due) = tt
followed t s u happening actions effect boots = (refl, inr ((λ same. effect (is_known same)), refl))

takes_boot : {profile : Profile} (t : ℕ) (s u : State) (event : Event) (actions : List Action) → TakesEffect profile t s event actions u → IsBooted s event actions (record u { clock = t })
takes_boot t s u event actions (obeys accepted does settles) = tt
takes_boot t s u event actions (meets effect follows) = followed t s u _ actions effect follows

crowded : (size : ℕ) (s u : State) (event : Event) → HasNoRoom size event u → IsBooted s event [] s
crowded size s u (Commanded command) heavy = tt
crowded size s u (Happened happening) heavy = absurd heavy

stepped : (size : ℕ) (s t : State) (input : Input) (reply : Reply) (actions : List Action) → Step size s input reply actions t → IsBooted s input.event actions t
stepped size s t input reply actions (refused r) = tt
stepped size s t input reply actions (crowded_out takes heavy) = crowded size s _ _ heavy
stepped size s t input reply actions (idle effect) = known _ s _ effect
stepped size s t input reply actions (taken takes light) = takes_boot _ s _ _ actions takes

-- a boot has no actions
pub asks_nothing : (size moment : ℕ) (boot : List ℕ) (s t : State) (reply : Reply) (actions : List Action) → Step size s (happens_at moment (Booted boot)) reply actions t → actions ≡ []
asks_nothing size moment boot s t reply actions step = (stepped size s t (happens_at moment (Booted boot)) reply actions step).0

none_held : (n : ℕ) (unit : List ℕ) → HasNumber (unwrap_or None dead_unit) n → ⊥
none_held n unit (inl e) = cc
none_held n unit (inr e) = cc

none_live : (n : ℕ) → has n [] ≡ is_live map.empty n
none_live n = sym (over_dead map.empty n (λ unit h. none_held n unit (subst (λ o. HasNumber (unwrap_or o dead_unit) n) (map.get-empty _ unit) h)))

-- the numbers that are live after a boot: those from before where it is the same, else none
pub live_after : (size moment : ℕ) (boot : List ℕ) (s t : State) (reply : Reply) (actions : List Action) (live : List ℕ) → Step size s (happens_at moment (Booted boot)) reply actions t
    → (boot ≡ s.boot → AreLive s.units live) → (boot ≢ s.boot → live ≡ []) → AreLive t.units live
live_after size moment boot s t reply actions live step same other = elim ((stepped size s t (happens_at moment (Booted boot)) reply actions step).1) [
  | inl known ↦ subst (λ units. AreLive units live) (sym known.1) (same known.0)
  | inr anew ↦ subst (λ units. AreLive units live) (sym anew.1) (subst (λ l. AreLive map.empty l) (sym (other anew.0)) (record { each = none_live; ascending = λ i j d less within. absurd (omega (arith, within, less)) }))
]

-- ---- the reply

abbrev IsDone : Event → Reply → Type 0
IsDone (Commanded command) reply = ⊤
IsDone (Happened happening) reply = reply ≡ Done

full : (size : ℕ) (event : Event) (u : State) → HasNoRoom size event u → IsDone event (Refusal no_room)
full size (Commanded command) u heavy = tt
full size (Happened happening) u heavy = absurd heavy

replied : (event : Event) (before after : Tree) → IsDone event (reply_after event before after)
replied (Commanded command) before after = tt
replied (Happened happening) before after = refl

done : (size : ℕ) (s t : State) (input : Input) (reply : Reply) (actions : List Action) → Step size s input reply actions t → IsDone input.event reply
done size s t input reply actions (refused r) = tt
done size s t input reply actions (crowded_out {event = event} {u = u} takes heavy) = full size event u heavy
done size s t input reply actions (idle effect) = refl
done size s t input reply actions (taken {event = event} {u = u} takes light) = replied event s.tree u.tree

-- a boot isn't refused by its step
pub is_answered : (size moment : ℕ) (boot : List ℕ) (s t : State) (r : Refused) (actions : List Action) → Step size s (happens_at moment (Booted boot)) (Refusal r) actions t → ⊥
is_answered size moment boot s t r actions step = isnt_done (done size s t (happens_at moment (Booted boot)) (Refusal r) actions step)
  where
    isnt_done : Refusal r ≡ Done → ⊥
    isnt_done e = cc

-- so a boot of a store that didn't fail before is refused for want of memory, by the disk, or because it has no room
pub boot_refused : {T : Type 0} {r : Result T declared.Refusal} {failed : Bool} (size moment : ℕ) (boot : List ℕ) (s : State) (e : declared.Refusal) → r ≡ Err e → failed ≡ false
    → ((r ≡ Err Reopen) ↔ (failed ≡ true))
    → (IsLost e ⊎ (e ≡ Reopen) ⊎ (e ≡ GenerationsSpent) ⊎ ((is_of_store e ≡ false) × Step size s (happens_at moment (Booted boot)) (Refusal (refused_of e)) [] s))
    → IsLost e ⊎ (e ≡ GenerationsSpent)
boot_refused size moment boot s e is works reopen (inl lost) = inl lost
boot_refused size moment boot s e is works reopen (inr (inl again)) = absurd (true≢false (sym (reopen.0 (is ∙ ap Err again)) ∙ works))
boot_refused size moment boot s e is works reopen (inr (inr (inl spent))) = inr spent
boot_refused size moment boot s e is works reopen (inr (inr (inr own))) = absurd (is_answered size moment boot s s (refused_of e) [] own.1)

-- ---- its record

-- the record of a boot has room in a log that is empty
pub boot_fits : (layout : Layout) (generation next moment : ℕ) (boot : List ℕ) → length boot ≤ boot_limit → next ≡ log_start layout generation
    → Fits layout generation next (length (input_spelling (happens_at moment (Booted boot))))
boot_fits layout generation next moment boot short empty =
    let spelled : length (input_spelling (happens_at moment (Booted boot))) ≡ 14 + length boot =
    omega (arith, length-append (big_bytes 8 moment) (text_spelling boot), number_long 8 moment, text_long boot) in
    record {
      some = omega (arith, spelled);
      short = omega (arith, spelled, short);
      within = omega (arith, spelled, short, empty, layout.log_least);
    }
