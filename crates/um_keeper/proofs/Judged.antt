-- The calls that the inputs of a list need, and their answers while they are taken.
use Rattle.std.proofs.Common.{◌≡◌, ◌⊎◌, ℕ, ◌<◌, ◌≤◌, Bool, true, false, List, [], ◌∷◌, ◌++◌, length, refl, sym, ap, subst, inl, inr, ⊎_elim, arith, append-nil}
use Rattle.std.specs.Prelude.{Err, if◌then◌else◌}
use Rattle.std.proofs.lemmas.Bool.{false≢true, cases_Bool}
use Rattle.um_model.specs.Disk.{Past}
use Rattle.um_model.specs.Machine.{State, Input, Reply, Refusal, Step}
use Rattle.um_model.specs.Refusals.{Refused}
use Rattle.um_model.specs.Servable.{IsServable}
use Rattle.um_model.specs.Service.{Action}
use Rattle.um_model.specs.Store.{body_limit, sector_count}
use Rattle.um_model.specs.declared.layout.Layout.{Layout}
use Rattle.um_model.specs.declared.layout.Slot.{Slot}
use Rattle.um_engine.specs.OfStore.{is_of_store}
use Rattle.um_sector.specs.Refused.{IsLost}
use Rattle.um_wire.specs.Refusal.{refused_of}
use Rattle.um_wire.specs.declared.refusal.Refusal as declared
use Rattle.um_wire.specs.declared.refusal.Refusal.TheVariants.{Device, GenerationsSpent}
use Rattle.um_keeper.specs.Answering.{is_turned_away, where_step, most_snapshot_calls}
use Rattle.um_keeper.specs.Keeping.{MayHold, has_bytes, left_of, finish_calls}
use Rattle.um_keeper.specs.Underway.{IsUnderway, MayRise, owed, finish_ahead, is_renewing}
use Rattle.um_keeper.specs.declared.ahead.Ahead.{Ahead}
use Rattle.um_keeper.proofs.Underway.{underway_stayed}

-- ---- the calls needed

-- a state that may be held may be held by a store of the layout
pub may_hold : {layout : Layout} {size : ℕ} {s : State} → MayHold layout size s → IsServable (body_limit layout) s
may_hold {s = s} held = subst (λ n. IsServable n s) held.size_is held.servable

-- a step over a store of the layout
pub step_on : {layout : Layout} {size : ℕ} {s t u : State} {input : Input} {reply : Reply} {actions : List Action} → MayHold layout size s → Step size s input reply actions u → u ≡ t
    → Step (body_limit layout) s input reply actions t
step_on {layout} {size} {s} {u = u} {input = input} {reply} {actions} held step is =
    subst (λ (z : State). Step (body_limit layout) s input reply actions z) is (subst (λ n. Step n s input reply actions u) held.size_is step)

-- a refusal that is a step's, or turns the input away
pub underway_refused : {layout : Layout} {s : State} {taken : List Input} {past : Past} {slot : Slot} {newest : ℕ} {kept : List ℕ} {written generation number next : ℕ} {unsynced : Bool} {state : State} {input : Input} (e : declared.Refusal)
    → IsUnderway layout s taken past slot newest kept written generation number next unsynced state → ((is_turned_away e ≡ true) ⊎ ((r : Refused) × Step (body_limit layout) state input (Refusal r) [] state))
    → IsUnderway layout s (taken ++ where_step (Err e) input) past slot newest kept written generation number next unsynced state
underway_refused {layout} {s} {taken} {past} {slot} {newest} {kept} {written} {generation} {number} {next} {unsynced} {state} {input} e under told = by (is_turned_away e) refl told
  where
    turned : is_turned_away e ≡ true → IsUnderway layout s (taken ++ where_step (Err e) input) past slot newest kept written generation number next unsynced state
    turned is = subst (λ away. IsUnderway layout s (taken ++ (if away then [] else input ∷ [])) past slot newest kept written generation number next unsynced state) (sym is) (subst (λ l. IsUnderway layout s l past slot newest kept written generation number next unsynced state) (sym (append-nil taken)) under)

    by : (away : Bool) → is_turned_away e ≡ away → ((is_turned_away e ≡ true) ⊎ ((r : Refused) × Step (body_limit layout) state input (Refusal r) [] state)) → IsUnderway layout s (taken ++ where_step (Err e) input) past slot newest kept written generation number next unsynced state
    by true is cause = turned is
    by false is (inl other) = turned other
    by false is (inr step) = subst (λ away. IsUnderway layout s (taken ++ (if away then [] else input ∷ [])) past slot newest kept written generation number next unsynced state) (sym is) (underway_stayed under step.1)

-- the cause of a refusal that isn't the disk's
pub cause_of : (layout : Layout) {size : ℕ} {state : State} {input : Input} {e : declared.Refusal} → size ≡ body_limit layout → ¬ (e ≡ Device)
    → IsLost e ⊎ (e ≡ GenerationsSpent) ⊎ ((is_of_store e ≡ false) × Step size state input (Refusal (refused_of e)) [] state)
    → (is_turned_away e ≡ true) ⊎ ((r : Refused) × Step (body_limit layout) state input (Refusal r) [] state)
cause_of layout same other (inl (inl memory)) = inl (ap is_turned_away memory)
cause_of layout same other (inl (inr device)) = absurd (other device)
cause_of layout same other (inr (inl spent)) = inl (ap is_turned_away spent)
cause_of layout {state = state} {input = input} {e = e} same other (inr (inr told)) = inr (refused_of e, subst (λ n. Step n state input (Refusal (refused_of e)) [] state) same told.1)

-- a count of calls with those that are owed
pub owed_most : (b : Bool) → owed b ≤ 1
owed_most true = omega arith
owed_most false = omega arith

-- ---- a snapshot under way

-- there is one exactly where sectors are left
by_left : (kept : List ℕ) (written : ℕ) → (0 < length kept → written < sector_count (length kept)) → (has_bytes kept ≡ false → left_of kept written ≡ 0) × (left_of kept written ≡ 0 → has_bytes kept ≡ false)
by_left [] written going = ((λ none. omega arith), (λ zero_is. refl))
by_left (x ∷ kept) written going = let some = going (omega arith) in ((λ none. absurd (false≢true (sym none))), (λ zero_is. absurd (omega (arith, zero_is, some))))

pub some_has : (kept : List ℕ) → 0 < length kept → has_bytes kept ≡ true
some_has [] some = absurd (omega (arith, some))
some_has (x ∷ kept) some = refl

pub idle_left : (a : Ahead) → left_of a.aside.body.items a.aside.written ≡ 0 → is_renewing a ≡ false
idle_left a = (by_left a.aside.body.items a.aside.written a.aside.going).1

pub left_idle : (a : Ahead) → is_renewing a ≡ false → left_of a.aside.body.items a.aside.written ≡ 0
left_idle a = (by_left a.aside.body.items a.aside.written a.aside.going).0

pub renewing_by : (a : Ahead) → ¬ (left_of a.aside.body.items a.aside.written ≡ 0) → is_renewing a ≡ true
renewing_by a some = ⊎_elim (λ is. is) (λ none. absurd (some (left_idle a none))) (cases_Bool (is_renewing a))

-- to finish it takes no more calls than a snapshot of a full slot
by_most : (layout : Layout) (kept : List ℕ) (written : ℕ) → length kept ≤ body_limit layout → finish_calls kept written ≤ most_snapshot_calls layout
by_most layout [] written short = omega arith
by_most layout (x ∷ kept) written short = omega (arith, short)

pub finish_most : (a : Ahead) → finish_ahead a ≤ most_snapshot_calls a.log.layout
finish_most a = by_most a.log.layout a.aside.body.items a.aside.written a.short

-- the same of a log that rose
pub rises_at_most : (old new : Ahead) {most now : ℕ} → MayRise old new (finish_ahead old) most now → MayRise old new (most_snapshot_calls old.log.layout) most now
rises_at_most old new (inl kept) = inl kept
rises_at_most old new {most} {now} (inr (one, few, begins)) = let small = finish_most old in inr (one, omega (arith, few, small), begins)
