-- While a list is taken: the disk after each record that is written, each part of a snapshot, its end, and the sync.
use Rattle.std.proofs.Common.{◌≡◌, ◌⊎◌, ◌∙◌, ℕ, ◌+◌, ◌<◌, ◌≤◌, Bool, true, false, List, [], ◌∷◌, ◌++◌, length, take, refl, sym, ap, subst, inl, inr, ⊎_elim, arith, append_assoc, append-nil, length-append}
use Rattle.std.specs.Prelude.{Some, if◌then◌else◌}
use Rattle.std.proofs.lemmas.Bool.{cases_lt, true≢false, false≢true}
use Rattle.std.proofs.lemmas.List.{take_all, take-append-le}
use Rattle.um_model.specs.Bytes.{nothing_left}
use Rattle.um_model.specs.Disk.{Past, Image, IsImage, Images, During, seen}
use Rattle.um_model.specs.InputSpellings.{FitInput, input_spelling}
use Rattle.um_model.specs.Machine.{State, Input, Reply, Run, rests, Step}
use Rattle.um_model.specs.Servable.{IsServable}
use Rattle.um_model.specs.Service.{Action}
use Rattle.um_model.specs.Stands.{contents_of, inputs_of, IsStoreOf}
use Rattle.um_model.specs.StateSpellings.{state_at}
use Rattle.um_model.specs.Store.{current, other, body_limit, slot_start, log_start, log_end, store_sectors, records_of, all_records, IsNoneAbove, IsLogEnd, IsStore, GoesOn}
use Rattle.um_model.specs.declared.layout.Layout.{Layout}
use Rattle.um_model.specs.declared.layout.Slot.{Slot}
use Rattle.um_laws.proofs.CountedLaws.{log_anew, own_records, above_later}
use Rattle.um_laws.proofs.DiskLaws.{started, weaker, followed}
use Rattle.um_laws.proofs.StandsLaws.{contents, contents_are, records_told, store_of, comes_further, only_end, run_step}
use Rattle.um_laws.proofs.StoreLaws.{area_within, behind_slot}
use Rattle.um_slot.specs.Snapshots.{IsWritten, IsBeside, HasStore, EitherSnapshot}
use Rattle.um_log.specs.Ahead.{HasSome, GoesOnAhead}
use Rattle.um_log.proofs.Behind.{ahead_by_nothing, nothing_ahead}
use Rattle.um_keeper.specs.Keeping.{Keeps, IsBegun, has_bytes, log_generation}
use Rattle.um_keeper.specs.Underway.{Spells, Begins, IsAside, IsUnderway}
use Rattle.um_keeper.proofs.Aside.{comes_of, spells_of, spells_behind, next_generation, own_generation, written_apart, before_same, aside_at}
use Rattle.um_keeper.proofs.Going.{records_same, part_some, part_ahead}
use Rattle.um_keeper.proofs.Kept.{longer, begun_longer, unpacked, packed}

-- all of the inputs are a beginning of them
begins_all : {layout : Layout} {s : State} {taken : List Input} {body : List ℕ} {records : List (List ℕ)} {t : State} → Run (body_limit layout) s taken t → Spells layout body records t
    → Begins layout s taken body records
begins_all {layout} {s} {taken} {t = t} run spells = record {
  count = length taken;
  state = t;
  run = subst (λ (l : List Input). Run (body_limit layout) s l t) (sym (take_all (length taken) taken (omega arith))) run;
  spells = spells;
}

begins_longer : {layout : Layout} {s : State} {taken : List Input} {body : List ℕ} {records : List (List ℕ)} (more : List Input) → Begins layout s taken body records → Begins layout s (taken ++ more) body records
begins_longer {layout} {s} {taken} more begins =
    let (n, is) = longer taken more begins.count in
    record { count = n; state = begins.state; run = subst (λ (l : List Input). Run (body_limit layout) s l begins.state) (sym is) begins.run; spells = begins.spells }

-- ---- where all is synced

-- the log is ahead by nothing
nothing_behind : {layout : Layout} {s : State} {taken : List Input} {past : Past} {slot : Slot} {newest : ℕ} {kept : List ℕ} {written generation number next : ℕ} {body : List ℕ}
    {records : List (List ℕ)} {state : State} (unsynced : Bool) → IsImage past (seen past) → GoesOn layout past slot newest body records generation number next → Spells layout body records state
    → Run (body_limit layout) s taken state → generation ≡ log_generation newest kept → (has_bytes kept ≡ true → IsAside layout (seen past) newest body kept)
    → IsWritten layout (seen past) (other slot) kept written → IsUnderway layout s taken past slot newest kept written generation number next unsynced state
nothing_behind {layout} {s} {taken} {body = body} {records} {state} unsynced here whole spells run same aside beside =
    let none : (n : ℕ) → records ≡ records ++ take n [] = λ n. sym (ap (λ (l : List (List ℕ)). records ++ l) (take_all n [] (omega arith)) ∙ append-nil records) in
    record {
      body = body;
      records = records;
      more = [];
      ahead = ahead_by_nothing here whole;
      begins = λ n. subst (Begins layout s taken body) (none n) (begins_all run spells);
      all = subst (λ (l : List (List ℕ)). Spells layout body l state) (sym (append-nil records)) spells;
      ends = run;
      synced = λ _. refl;
      same = same;
      aside = aside;
      written_is = beside;
    }

pub underway_kept : {past : Past} {sectors : ℕ} {layout : Layout} {slot : Slot} {newest : ℕ} {kept : List ℕ} {written generation number next : ℕ} {s : State} (unsynced : Bool) → IsImage past (seen past)
    → Keeps past sectors layout slot newest kept written generation number next s → IsUnderway layout s [] past slot newest kept written generation number next unsynced s
underway_kept unsynced here k =
    let u = unpacked here k in
    nothing_behind unsynced here u.goes_on (spells_of u.comes) rests k.same u.aside k.written_is

module _ {layout : Layout} {s : State} {taken : List Input} {past : Past} {slot : Slot} {newest : ℕ} {kept : List ℕ} {written generation number next : ℕ} {unsynced : Bool} {state : State}
    (under : IsUnderway layout s taken past slot newest kept written generation number next unsynced state) where
  -- ---- images that a crash leaves

  some_begun : (image : Image) → HasSome layout slot newest under.body under.records under.more image → IsBegun layout s taken image
  some_begun image has =
      let b = under.begins has.count in
      record { count = b.count; state = b.state; run = b.run; store = store_of has.store (comes_of b.spells) }

  pub still_begun : During past past (IsBegun layout s taken)
  still_begun = started past _ (λ image is. some_begun image (under.ahead.images image is).some)

  pub still_longer : (more : List Input) → During past past (IsBegun layout s (taken ++ more))
  still_longer more = weaker past past _ _ (begun_longer taken more) still_begun

  -- while the records are synced
  pub during_begun : {new : Past} → During past new (HasSome layout slot newest under.body under.records under.more) → During past new (IsBegun layout s taken)
  during_begun {new} run = weaker past new _ _ some_begun run

  -- all records that count, as a read gives them
  all_seen : all_records current layout newest (seen past) ≡ under.records ++ under.more
  all_seen = records_told under.ahead.store

  -- ---- an input without a record

  pub underway_longer : (more : List Input) → Run (body_limit layout) s (taken ++ more) state
      → IsUnderway layout s (taken ++ more) past slot newest kept written generation number next unsynced state
  underway_longer more run = record {
    body = under.body;
    records = under.records;
    more = under.more;
    ahead = under.ahead;
    begins = λ n. begins_longer more (under.begins n);
    all = under.all;
    ends = run;
    synced = under.synced;
    same = under.same;
    aside = under.aside;
    written_is = under.written_is;
  }

  -- one that is refused, or has no effect
  pub underway_stayed : {input : Input} {reply : Reply} {actions : List Action} → Step (body_limit layout) state input reply actions state
      → IsUnderway layout s (taken ++ input ∷ []) past slot newest kept written generation number next unsynced state
  underway_stayed {input} step = underway_longer (input ∷ []) (run_step under.ends step)

  -- ---- an input with its record

  module _ {input : Input} (fit : FitInput input) {reply : Reply} {actions : List Action} {t : State} (step : Step (body_limit layout) state input reply actions t) where
    abbrev more : List (List ℕ)
    more = under.more ++ input_spelling input ∷ []

    all_more : Spells layout under.body (under.records ++ more) t
    all_more = subst (λ (l : List (List ℕ)). Spells layout under.body l t) (append_assoc under.records under.more (input_spelling input ∷ []))
        (spells_of (comes_further (comes_of under.all) fit step))

    begins_more : (n : ℕ) → Begins layout s (taken ++ input ∷ []) under.body (under.records ++ take n more)
    begins_more n = ⊎_elim
        (λ high. subst (λ (l : List (List ℕ)). Begins layout s (taken ++ input ∷ []) under.body (under.records ++ l)) (sym (take_all n more (omega (arith, high, length-append under.more (input_spelling input ∷ [])))))
        (begins_all (run_step under.ends step) all_more))
        (λ low. subst (λ (l : List (List ℕ)). Begins layout s (taken ++ input ∷ []) under.body (under.records ++ l)) (sym (take-append-le n under.more (input_spelling input ∷ []) low))
        (begins_longer (input ∷ []) (under.begins n)))
        (cases_lt (length under.more) n)

    -- while the record is written
    pub during_recorded : {new : Past} → During past new (HasSome layout slot newest under.body under.records more) → During past new (IsBegun layout s (taken ++ input ∷ []))
    during_recorded {new} run = weaker past new _ _ (λ image has.
        let b = begins_more has.count in
        record { count = b.count; state = b.state; run = b.run; store = store_of has.store (comes_of b.spells) })
        run

    -- and after it
    pub underway_recorded : {new : Past} {l : Layout} {g later further : ℕ} → l ≡ layout → g ≡ generation → written < layout.slot_sectors → (parts : ℕ) → next + parts ≤ log_end layout generation
        → ((j : ℕ) → (j < next) ⊎ (next + parts ≤ j) → seen new j ≡ seen past j) → GoesOnAhead l new slot newest under.body under.records more g later further
        → IsUnderway l s (taken ++ input ∷ []) new slot newest kept written g later further true t
    underway_recorded {new} {l} {g} {later} {further} on of room parts fits read ahead =
        let low : log_start layout generation ≤ next = omega (arith, under.ahead.end.place) in
        let within = area_within current layout generation in
        let before : has_bytes kept ≡ true → records_of current layout newest (seen new) ≡ records_of current layout newest (seen past) =
        λ sure. before_same layout newest generation (seen past) (seen new) (next_generation newest generation kept under.same sure)
        (λ j from out. read j (⊎_elim {C = (j < next) ⊎ (next + parts ≤ j)} (λ b. inl (omega (arith, b, low))) (λ a. inr (omega (arith, a, fits))) out)) in
        subst (λ (z : Layout). IsUnderway z s (taken ++ input ∷ []) new slot newest kept written g later further true t) (sym on)
        (subst (λ n. IsUnderway layout s (taken ++ input ∷ []) new slot newest kept written n later further true t) (sym of)
        (record {
          body = under.body;
          records = under.records;
          more = more;
          ahead = subst (λ n. GoesOnAhead layout new slot newest under.body under.records more n later further) of
              (subst (λ (z : Layout). GoesOnAhead z new slot newest under.body under.records more g later further) on ahead);
          begins = begins_more;
          all = all_more;
          ends = run_step under.ends step;
          synced = λ e. absurd (true≢false e);
          same = under.same;
          aside = λ sure. aside_at (before sure) (under.aside sure);
          written_is = written_apart layout (seen past) (seen new) (other slot) kept written room (λ j below. read j (inl (omega (arith, below, low, within.0)))) under.written_is;
        }))

  -- ---- after a sync

  pub underway_settled : {new : Past} → IsImage new (seen new) → GoesOn layout new slot newest under.body (under.records ++ under.more) generation number next → seen new ≡ seen past
      → IsUnderway layout s taken new slot newest kept written generation number next false state
  underway_settled {new} here whole read = nothing_behind false here whole under.all under.ends under.same
      (λ sure. subst (λ (i : Image). IsAside layout i newest under.body kept) (sym read) (under.aside sure))
      (subst (λ (i : Image). IsWritten layout i (other slot) kept written) (sym read) under.written_is)

  -- where nothing was to be synced
  pub underway_clean : unsynced ≡ false → IsUnderway layout s taken past slot newest kept written generation number next false state
  underway_clean is = subst (λ u. IsUnderway layout s taken past slot newest kept written generation number next u state) is under

  -- ---- a part of a snapshot

  pub part_begun : {new : Past} → IsImage past (seen past) → During past new (IsBeside layout past slot) → During past new (IsBegun layout s taken)
  part_begun here run = during_begun (part_some here under.ahead run)

  pub underway_beside : {new : Past} (end : ℕ) → IsImage past (seen past) → During past new (IsBeside layout past slot)
      → ((j : ℕ) → (j ≤ slot_start layout (other slot)) ⊎ (slot_start layout (other slot) + layout.slot_sectors ≤ j) → seen new j ≡ seen past j)
      → IsWritten layout (seen new) (other slot) kept end → IsUnderway layout s taken new slot newest kept end generation number next unsynced state
  underway_beside {new} end here run same beside = record {
    body = under.body;
    records = under.records;
    more = under.more;
    ahead = part_ahead here under.ahead run same;
    begins = under.begins;
    all = under.all;
    ends = under.ends;
    synced = under.synced;
    same = under.same;
    aside = λ sure. aside_at (records_same layout newest (seen past) (seen new) (λ j low. same j (inr (behind_slot layout (other slot) j low)))) (under.aside sure);
    written_is = beside;
  }

  -- ---- the end of a snapshot

  -- each image is that of a store with the newest snapshot, as the slots need it
  pub each_has : Images past (HasStore layout slot newest under.body)
  each_has image is =
      let has = (under.ahead.images image is).some in
      subst (IsStore current layout image slot newest under.body) (sym (records_told has.store)) has.store

  module _ (sure : has_bytes kept ≡ true) where
    on_next : generation ≡ newest + 1
    on_next = next_generation newest generation kept under.same sure

    -- the snapshot and the records of its generation lead to the state
    behind_it : Spells layout kept (all_records current layout (newest + 1) (seen past)) state
    behind_it =
        let all : Spells layout under.body (all_records current layout newest (seen past)) state = subst (λ (l : List (List ℕ)). Spells layout under.body l state) (sym all_seen) under.all in
        subst (λ (l : List (List ℕ)). Spells layout kept l state)
        (sym (own_records current layout (newest + 1) (seen past) (subst (λ n. IsNoneAbove layout (seen past) n) on_next under.ahead.above)))
        (spells_behind (records_of current layout (newest + 1) (seen past)) all (under.aside sure))

    -- while it is brought to count
    either_begun : (image : Image) → EitherSnapshot layout past slot newest under.body kept image → IsBegun layout s taken image
    either_begun image (inl was) =
        let has = (under.ahead.images was.from was.was).some in
        some_begun image (record { count = has.count; within = has.within; store = subst (IsStore current layout image slot newest under.body) (records_told has.store) was.store })
    either_begun image (inr new) =
        let b = begins_all under.ends behind_it in
        record { count = b.count; state = b.state; run = b.run; store = store_of new (comes_of b.spells) }

    pub snapshot_begun : {new : Past} → During past new (EitherSnapshot layout past slot newest under.body kept) → During past new (IsBegun layout s taken)
    snapshot_begun {new} run = weaker past new _ _ either_begun run

    -- where the log goes on after it
    pub next_end : {after : ℕ} → after ≡ newest + 1 → IsLogEnd layout after (seen past) (records_of current layout after (seen past)) number next
    next_end is = subst (λ n. IsLogEnd layout n (seen past) (records_of current layout n (seen past)) number next) (on_next ∙ sym is) under.ahead.end

    -- and after it
    pub underway_finished : {new : Past} {to : Slot} {after : ℕ} {cleared : List ℕ} {nothing : ℕ} → IsImage new (seen new) → to ≡ other slot → after ≡ newest + 1 → cleared ≡ [] → nothing ≡ 0
        → GoesOn layout new to after kept (all_records current layout after (seen past)) after number next
        → IsUnderway layout s taken new to after cleared nothing generation number next unsynced state
    underway_finished {new} {to} {after} {cleared} {nothing} here at is none zero_is whole =
        subst (λ (c : List ℕ). IsUnderway layout s taken new to after c nothing generation number next unsynced state) (sym none)
        (subst (λ n. IsUnderway layout s taken new to after [] nothing n number next unsynced state) (is ∙ sym on_next)
        (nothing_behind unsynced here whole (subst (λ n. Spells layout kept (all_records current layout n (seen past)) state) (sym is) behind_it) under.ends (omega arith)
        (λ e. absurd (false≢true e)) (λ i below. absurd (omega (arith, below, zero_is)))))

  -- ---- a snapshot begins

  module _ (clean : unsynced ≡ false) where
    none_more : under.more ≡ []
    none_more = under.synced clean

    whole_again : GoesOn layout past slot newest under.body (under.records ++ []) generation number next
    whole_again = subst (λ (l : List (List ℕ)). GoesOn layout past slot newest under.body l generation number next) (sym (append-nil under.records))
        (nothing_ahead (subst (λ (l : List (List ℕ)). GoesOnAhead layout past slot newest under.body under.records l generation number next) none_more under.ahead))

    all_again : Spells layout under.body (under.records ++ []) state
    all_again = subst (λ (l : List (List ℕ)). Spells layout under.body (under.records ++ l) state) none_more under.all

    -- nothing is written, and records go on as the next generation
    pub underway_anew : {l : Layout} {bytes : List ℕ} {nothing g later further : ℕ} → IsImage past (seen past) → l ≡ layout → nothing ≡ 0 → has_bytes kept ≡ false → has_bytes bytes ≡ true → nothing_left (state_at bytes) ≡ Some state
        → IsServable (body_limit layout) state → g ≡ generation + 1 → later ≡ 0 → further ≡ log_start layout (generation + 1)
        → IsUnderway l s taken past slot newest bytes nothing g later further unsynced state
    underway_anew {l} {bytes} {nothing} {g} {later} {further} here on at_first idle some spelled may is zero_is from =
        let start : further ≡ log_start layout g = from ∙ ap (log_start layout) (sym is) in
        let own = own_generation newest generation kept under.same idle in
        let last : (image : Image) → IsNoneAbove layout image generation → IsLogEnd layout g image (records_of current layout g image) later further =
        λ image none. subst (λ n. IsLogEnd layout g image (records_of current layout g image) n further) (sym zero_is)
        (subst (λ n. IsLogEnd layout g image (records_of current layout g image) 0 n) (sym start) (log_anew layout g generation image (omega (arith, is)) none)) in
        let whole : GoesOn layout past slot newest under.body (under.records ++ []) g later further = record {
          counts = inr (omega (arith, is, own));
          store = whole_again.store;
          above = λ image at. above_later layout (omega (arith, is)) (whole_again.above image at);
          end = λ image at. last image (whole_again.above image at);
        } in
        let of_own : all_records current layout newest (seen past) ≡ records_of current layout newest (seen past) =
        own_records current layout newest (seen past) (subst (λ n. IsNoneAbove layout (seen past) n) own under.ahead.above) in
        subst (λ (z : Layout). IsUnderway z s taken past slot newest bytes nothing g later further unsynced state) (sym on)
        (nothing_behind unsynced here whole all_again under.ends (is ∙ ap (λ (n : ℕ). n + 1) own ∙ sym (one_more some))
        (λ _. record {
          state = state;
          spells = subst (λ (l : List (List ℕ)). Spells layout under.body l state) (sym all_seen ∙ of_own) under.all;
          kept_is = spelled;
          may = may;
        })
        (λ i below. absurd (omega (arith, below, at_first))))
      where
        one_more : has_bytes bytes ≡ true → log_generation newest bytes ≡ newest + 1
        one_more e = ap (λ (b : Bool). newest + (if b then 1 else 0)) e

    -- ---- at the end

    -- each image is a store of the state
    pub kept_clean : {sectors : ℕ} → IsImage past (seen past) → store_sectors layout ≤ sectors
        → Keeps past sectors layout slot newest kept written generation number next state
    kept_clean here on_disk = packed here under.same whole_again (comes_of all_again) on_disk under.aside under.written_is

-- ---- of no input

-- where none was taken each image is a store of the state
none_taken : {layout : Layout} {s : State} (image : Image) → IsBegun layout s [] image → IsStoreOf layout image s
none_taken {layout} {s} image b =
    let none : take b.count [] ≡ [] = take_all b.count [] (omega arith) in
    subst (λ (t : State). IsStoreOf layout image t) (only_end rests b.state (subst (λ (l : List Input). Run (body_limit layout) s l b.state) none b.run)) b.store

pub taken_none : {old new : Past} {layout : Layout} {s : State} → During old new (IsBegun layout s []) → During old new (λ image. IsStoreOf layout image s)
taken_none {old} {new} run = weaker old new _ _ none_taken run

-- one of two, of the same layout
pub then_begun : {old mid new : Past} {layout l : Layout} {s : State} {taken : List Input} (more : List Input) → l ≡ layout → During old mid (IsBegun layout s taken) → During mid new (IsBegun l s (taken ++ more))
    → During old new (IsBegun layout s (taken ++ more))
then_begun {old} {mid} {new} {layout} {l} {s} {taken} more same first second = followed old mid new _ (weaker old mid _ _ (begun_longer taken more) first)
    (subst (λ (z : Layout). During mid new (IsBegun z s (taken ++ more))) same second)

pub then_settled : {old mid new : Past} {layout l : Layout} {s : State} {taken : List Input} → l ≡ layout → During old mid (IsBegun layout s taken) → During mid new (IsBegun l s taken)
    → During old new (IsBegun layout s taken)
then_settled {old} {mid} {new} {layout} {l} {s} {taken} same first second = followed old mid new _ first (subst (λ (z : Layout). During mid new (IsBegun z s taken)) same second)

-- ---- a keeper whose log has no record, and no snapshot under way

pub told_anew : {past : Past} {sectors : ℕ} {layout l : Layout} {slot : Slot} {newest : ℕ} {kept : List ℕ} {written generation number next : ℕ} {s : State} → IsImage past (seen past)
    → Keeps past sectors l slot newest kept written generation number next s → l ≡ layout → has_bytes kept ≡ false → number ≡ 0
    → Images past (λ image. contents_of current layout image ≡ Some (contents slot newest s []))
told_anew {past} {sectors} {layout} {l} {slot} {newest} {kept} {written} {generation} {number} {next} {s} here k on idle zero_is image at =
    subst (λ (z : Layout). contents_of current z image ≡ Some (contents slot newest s [])) on
    (contents_are ((unpacked here k).goes_on.store image at) ((unpacked here k).comes.start_is ∙ ap (λ (x : State). Some x) (sym started_at)) (ap (λ (l : List (List ℕ)). inputs_of l) none))
  where
    own : generation ≡ newest
    own = own_generation newest generation kept k.same idle

    none : all_records current l newest (seen past) ≡ []
    none = own_records current l newest (seen past) (subst (λ n. IsNoneAbove l (seen past) n) own (k.above (seen past) here))
        ∙ ap (λ n. records_of current l n (seen past)) (sym own) ∙ empty (records_of current l generation (seen past)) (sym k.count ∙ zero_is)
      where
        empty : (xs : List (List ℕ)) → length xs ≡ 0 → xs ≡ []
        empty [] e = refl
        empty (x ∷ xs) e = absurd (omega (arith, e))

    no_inputs : (unpacked here k).inputs ≡ []
    no_inputs = same (sym (unpacked here k).comes.inputs_are ∙ ap (λ (l : List (List ℕ)). inputs_of l) none)
      where
        same : {xs : List Input} → Some xs ≡ Some [] → xs ≡ []
        same e = cc

    started_at : s ≡ (unpacked here k).start
    started_at = only_end rests s (subst (λ (xs : List Input). Run (body_limit l) (unpacked here k).start xs s) no_inputs (unpacked here k).comes.run)
