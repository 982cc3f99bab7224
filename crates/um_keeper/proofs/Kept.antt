-- The invariant of a keeper's disk: the facts of it that the log and the slots need, and those that they give back.
use Rattle.std.proofs.Common.{◌≡◌, ◌≢◌, ◌⊎◌, ◌∙◌, ℕ, zero, suc, ◌+◌, ◌<◌, ◌≤◌, true, List, [], ◌∷◌, ◌++◌, length, take, refl, sym, ap, subst, arith, Option, Some, None, is_some, inl, inr, ⊎_elim}
use Rattle.std.specs.Prelude.{Result, Ok, Err, IfOk}
use Rattle.std.proofs.Math.Bridge.{le_prop}
use Rattle.std.proofs.Math.Logic.{∥∥₁_elim, ∥∥₁_map}
use Rattle.std.proofs.lemmas.Bool.{false≢true}
use Rattle.std.proofs.lemmas.Option.{same_Some}
use Rattle.um_model.specs.Bytes.{nothing_left}
use Rattle.um_model.specs.Disk.{Past, Image, IsImage, Images, During, seen}
use Rattle.um_model.specs.InputSpellings.{input_limit, FitInput, input_spelling}
use Rattle.um_model.specs.Machine.{State, Input, Run, rests, goes, Step, Reply, Refusal}
use Rattle.um_model.specs.Numbers.{AreNew, started_numbers}
use Rattle.um_model.specs.Refusals.{Refused}
use Rattle.um_model.specs.Servable.{IsServable}
use Rattle.um_model.specs.Service.{Action}
use Rattle.um_model.specs.StateSpellings.{state_spelling, state_at}
use Rattle.um_model.specs.Stands.{Contents, contents_of, inputs_of, IsStoreOf}
use Rattle.um_model.specs.Store.{current, other, body_limit, part_count, log_start, log_end, store_sectors, Newest, newest_of, records_of, all_records, sectors_of, Counts, GoesOn}
use Rattle.um_slot.specs.Snapshots.{IsWritten}
use Rattle.um_log.specs.Appending.{EitherRecord}
use Rattle.um_model.specs.declared.layout.Layout.{Layout}
use Rattle.um_model.specs.declared.layout.Slot.{Slot}
use Rattle.um_laws.proofs.CountedLaws.{counts_top, above_later}
use Rattle.um_laws.proofs.DiskLaws.{started, weaker, followed}
use Rattle.um_laws.proofs.ImageLaws.{newest_some}
use Rattle.um_laws.proofs.NumbersLaws.{numbers_rise}
use Rattle.um_laws.proofs.ServableLaws.{step_servable}
use Rattle.um_laws.proofs.StandsLaws.{contents, ComesTo, HasContents, has_contents, contents_are, newest_told, records_told, store_of, comes_further, run_to, only_end}
use Rattle.um_laws.proofs.StoreLaws.{area_within}
use Rattle.um_laws.proofs.WholeLaws.{step_fits, spelled_room, accepted_room}
use Rattle.um_keeper.proofs.Aside.{spells_of, aside_told, aside_of, counts_of, next_generation, all_by_parts, parts_alike, written_apart, before_same, aside_at}
use Rattle.um_keeper.proofs.Meanwhile.{either_state}
use Rattle.um_keeper.specs.Keeping.{MayHold, Keeps, IsBegun, has_bytes, log_generation}
use Rattle.um_keeper.specs.Underway.{IsAside}

-- ---- beginnings

-- a beginning of a list is one of a longer list
pub longer : (xs ys : List Input) (count : ℕ) → (n : ℕ) × (take n (xs ++ ys) ≡ take count xs)
longer xs ys zero = (0, refl)
longer [] ys (suc count) = (0, refl)
longer (x ∷ xs) ys (suc count) = let (n, is) = longer xs ys count in (suc n, ap (λ l. x ∷ l) is)

pub begun_longer : {layout : Layout} {s : State} (xs ys : List Input) (image : Image) → IsBegun layout s xs image → IsBegun layout s (xs ++ ys) image
begun_longer {layout} {s} xs ys image b =
    let (n, is) = longer xs ys b.count in
    record { count = n; state = b.state; run = subst (λ l. Run (body_limit layout) s l b.state) (sym is) b.run; store = b.store }

-- ---- facts that the log and the slots need

-- the invariant of a keeper, with the snapshot's body, its state and the inputs
pub record Unpacked (past : Past) (layout : Layout) (slot : Slot) (newest : ℕ) (kept : List ℕ) (generation number next : ℕ) (s : State) : Type 0 where
  pub body : List ℕ
  pub start : State
  pub inputs : List Input
  pub goes_on : GoesOn layout past slot newest body (all_records current layout newest (seen past)) generation number next
  pub comes : ComesTo (body_limit layout) body (all_records current layout newest (seen past)) start inputs s
  pub aside : has_bytes kept ≡ true → IsAside layout (seen past) newest body kept

-- the contents that are there
found : {X : Type 0} (o : Option X) → is_some o ≡ true → (x : X) × (o ≡ Some x)
found None there = absurd (false≢true there)
found (Some x) there = (x, refl)

module _ {past : Past} {sectors : ℕ} {layout : Layout} {slot : Slot} {newest : ℕ} {kept : List ℕ} {written generation number next : ℕ} {s : State} (here : IsImage past (seen past))
    (k : Keeps past sectors layout slot newest kept written generation number next s) where
  abbrev counts : Counts current newest generation
  counts = counts_of newest generation kept k.same

  -- the newest snapshot, where a keeper says that it stands
  newest_there : (c : Contents) → c.slot ≡ slot → c.generation ≡ newest → (h : HasContents current layout (seen past) c)
      → newest_of layout (seen past) ≡ Some (record { slot = slot; generation = newest; body = h.body })
  newest_there c on of h = subst (λ g. newest_of layout (seen past) ≡ Some (record { slot = slot; generation = g; body = h.body })) of
      (subst (λ x. newest_of layout (seen past) ≡ Some (record { slot = x; generation = c.generation; body = h.body })) on
      ((newest_some layout (seen past) (record { slot = c.slot; generation = c.generation; body = h.body })).1 h.newest))

  -- each image has the records that a read gives
  all_same : Images past (λ image. all_records current layout newest image ≡ all_records current layout newest (seen past))
  all_same image at = all_by_parts layout newest generation (seen past) image (k.above (seen past) here) (k.above image at) counts (k.front image at) (k.logged image at)

  with_contents : (c : Contents) → contents_of current layout (seen past) ≡ Some c → HasContents current layout (seen past) c → Unpacked past layout slot newest kept generation number next s
  with_contents c is h =
      let there = newest_there c (k.home c is).0 (k.home c is).1 h in
      let comes : ComesTo (body_limit layout) h.body (all_records current layout newest (seen past)) c.start c.inputs s = record {
        start_is = h.start_is;
        inputs_are = subst (λ g. inputs_of (all_records current layout g (seen past)) ≡ Some c.inputs) (k.home c is).1 h.inputs_are;
        servable = k.start c is;
        run = run_to (k.run c is);
      } in
      record {
        body = h.body;
        start = c.start;
        inputs = c.inputs;
        goes_on = record {
          counts = counts;
          store = λ image at. record {
            first = k.first image at;
            newest = (newest_some layout image (record { slot = slot; generation = newest; body = h.body })).0 (k.newest_is image at ∙ there);
            records_are = sym (all_same image at);
            none_later = above_later layout (counts_top current newest generation counts) (k.above image at);
          };
          above = k.above;
          end = λ image at. record {
            count = k.count ∙ ap (λ (l : List (List ℕ)). length l) (sym (k.logged image at));
            place = k.place ∙ ap (λ (l : List (List ℕ)). log_start layout generation + sectors_of l) (sym (k.logged image at));
            within = k.within;
            free = k.free image at;
          };
        };
        comes = comes;
        aside = λ sure. aside_of (records_of current layout (newest + 1) (seen past)) (spells_of comes)
            (k.aside sure (record { slot = slot; generation = newest; body = h.body }) there);
      }

  pub unpacked : Unpacked past layout slot newest kept generation number next s
  unpacked =
      let (c, is) = found (contents_of current layout (seen past)) k.holds in
      with_contents c is (has_contents current layout (seen past) c is)

  -- each image that a crash leaves is a store of the state
  pub stores : Images past (λ image. IsStoreOf layout image s)
  stores image is = store_of (unpacked.goes_on.store image is) unpacked.comes

  -- where nothing is written
  pub still : During past past (λ image. IsStoreOf layout image s)
  still = started past _ stores

-- ---- facts that they give back

pub packed : {past : Past} {sectors : ℕ} {layout : Layout} {slot : Slot} {newest : ℕ} {kept : List ℕ} {written generation number next : ℕ} {s : State} {body : List ℕ} {records : List (List ℕ)}
    {start : State} {inputs : List Input} → IsImage past (seen past) → generation ≡ log_generation newest kept → GoesOn layout past slot newest body records generation number next
    → ComesTo (body_limit layout) body records start inputs s → store_sectors layout ≤ sectors → (has_bytes kept ≡ true → IsAside layout (seen past) newest body kept)
    → IsWritten layout (seen past) (other slot) kept written → Keeps past sectors layout slot newest kept written generation number next s
packed {past} {sectors} {layout} {slot} {newest} {kept} {written} {generation} {number} {next} {s} {body} {records} {start} {inputs} here same whole comes on_disk aside beside = record {
  same = same;
  first = λ image at. (whole.store image at).first;
  newest_is = λ image at. newest_told (whole.store image at) ∙ sym (newest_told (whole.store (seen past) here));
  front = λ image at. (alike image at).0;
  logged = λ image at. (alike image at).1;
  above = whole.above;
  free = λ image at. (whole.end image at).free;
  holds = ap is_some told;
  home = λ c e. let one = same_Some c (contents slot newest start inputs) (sym e ∙ told) in (ap (λ (d : Contents). d.slot) one, ap (λ (d : Contents). d.generation) one);
  start = λ c e. subst (λ (d : Contents). IsServable (body_limit layout) d.start) (same_Some (contents slot newest start inputs) c (sym told ∙ e)) comes.servable;
  run = λ c e. subst (λ (d : Contents). (t : State) → Run (body_limit layout) d.start d.inputs t → t ≡ s) (same_Some (contents slot newest start inputs) c (sym told ∙ e)) (only_end comes.run);
  count = (whole.end (seen past) here).count;
  place = (whole.end (seen past) here).place;
  within = (whole.end (seen past) here).within;
  on_disk = on_disk;
  aside = λ sure n is. subst (λ (m : Newest). (start : State) (inputs : List Input) → nothing_left (state_at m.body) ≡ Some start → inputs_of (records_of current layout newest (seen past)) ≡ Some inputs
      → (t : State) → Run (body_limit layout) start inputs t → (nothing_left (state_at kept) ≡ Some t) × IsServable (body_limit layout) t)
      (same_Some _ n (sym (newest_told (whole.store (seen past) here)) ∙ is)) (aside_told (aside sure));
  written_is = beside;
}
  where
    alike : (image : Image) → IsImage past image
        → (records_of current layout newest image ≡ records_of current layout newest (seen past)) × (records_of current layout generation image ≡ records_of current layout generation (seen past))
    alike image at = parts_alike layout newest generation (seen past) image (whole.above (seen past) here) (whole.above image at) whole.counts
        (records_told (whole.store image at) ∙ sym (records_told (whole.store (seen past) here)))
        (sym (whole.end image at).count ∙ (whole.end (seen past) here).count)

    told : contents_of current layout (seen past) ≡ Some (contents slot newest start inputs)
    told = contents_are (whole.store (seen past) here) comes.start_is comes.inputs_are

-- the same by equal numbers
pub keeps_at : {past : Past} {sectors w g n m x y n' g' : ℕ} {layout l : Layout} {slot : Slot} {newest : ℕ} {kept : List ℕ} {s : State} → Keeps past sectors layout slot newest kept w g n x s
    → n' ≡ sectors → l ≡ layout → g' ≡ g → m ≡ n → y ≡ x → Keeps past n' l slot newest kept w g' m y s
keeps_at {past} {sectors} {w} {g} {n} {m} {x} {y} {n'} {g'} {layout} {l} {slot} {newest} {kept} {s} k a b of c d =
    subst (λ z. Keeps past n' l slot newest kept w g' m z s) (sym d) (subst (λ z. Keeps past n' l slot newest kept w g' z x s) (sym c)
    (subst (λ z. Keeps past n' l slot newest kept w z n x s) (sym of)
    (subst (λ (z : Layout). Keeps past n' z slot newest kept w g n x s) (sym b) (subst (λ z. Keeps past z layout slot newest kept w g n x s) (sym a) k))))

-- ---- a record

module _ {past : Past} {sectors : ℕ} {layout : Layout} {slot : Slot} {newest : ℕ} {kept : List ℕ} {written generation number next size : ℕ} {s t : State} (here : IsImage past (seen past))
    (held : MayHold layout size s) (k : Keeps past sectors layout slot newest kept written generation number next s) {input : Input} (fit : FitInput input) {reply : Reply} {actions : List Action}
    (step : Step size s input reply actions t) where
  stepped : Step (body_limit layout) s input reply actions t
  stepped = subst (λ n. Step n s input reply actions t) held.size_is step

  begun : {image : Image} → IsStoreOf layout image s ⊎ IsStoreOf layout image t → IsBegun layout s (input ∷ []) image
  begun (inl before) = record { count = 0; state = s; run = rests; store = before }
  begun (inr behind) = record { count = 1; state = t; run = goes reply actions stepped rests; store = behind }

  -- while it is written the image is a store of the state before or after the input
  pub either_begun : (image : Image) → EitherRecord layout slot newest (unpacked here k).body (all_records current layout newest (seen past)) (input_spelling input) image
      → IsBegun layout s (input ∷ []) image
  either_begun image either = begun (either_state (unpacked here k).comes fit stepped either)

  -- afterwards the keeper holds the state after the input
  pub recorded : {new : Past} {later further : ℕ} → IsImage new (seen new) → written < layout.slot_sectors → (parts : ℕ) → next + parts ≤ log_end layout generation
      → ((j : ℕ) → (j < next) ⊎ (next + parts ≤ j) → seen new j ≡ seen past j)
      → GoesOn layout new slot newest (unpacked here k).body (all_records current layout newest (seen past) ++ input_spelling input ∷ []) generation later further
      → Keeps new sectors layout slot newest kept written generation later further t
  recorded {new} is room parts fits read whole =
      let low : log_start layout generation ≤ next = omega (arith, k.place) in
      let within = area_within current layout generation in
      let before : has_bytes kept ≡ true → records_of current layout newest (seen new) ≡ records_of current layout newest (seen past) =
      λ sure. before_same layout newest generation (seen past) (seen new) (next_generation newest generation kept k.same sure)
      (λ j from out. read j (⊎_elim {C = (j < next) ⊎ (next + parts ≤ j)} (λ b. inl (omega (arith, b, low))) (λ a. inr (omega (arith, a, fits))) out)) in
      packed is k.same whole (comes_further (unpacked here k).comes fit stepped) k.on_disk (λ sure. aside_at (before sure) ((unpacked here k).aside sure))
      (written_apart layout (seen past) (seen new) (other slot) kept written room (λ j below. read j (inl (omega (arith, below, low, within.0)))) k.written_is)

  -- the same of the calls that write it
  module _ {bytes : List ℕ} (is : bytes ≡ input_spelling input) where
    pub during_begun : {new : Past} → ((slot : Slot) (newest : ℕ) (body : List ℕ) (records : List (List ℕ)) → GoesOn layout past slot newest body records generation number next
        → During past new (EitherRecord layout slot newest body records bytes)) → During past new (IsBegun layout s (input ∷ []))
    during_begun {new} wrote = weaker past new _ _ either_begun
        (subst (λ b. During past new (EitherRecord layout slot newest (unpacked here k).body (all_records current layout newest (seen past)) b)) is
        (wrote slot newest (unpacked here k).body (all_records current layout newest (seen past)) (unpacked here k).goes_on))

    pub kept_recorded : {new : Past} {l : Layout} {later_of later further : ℕ} → ((slot : Slot) (newest : ℕ) (body : List ℕ) (records : List (List ℕ))
        → GoesOn layout past slot newest body records generation number next → GoesOn l new slot newest body (records ++ bytes ∷ []) later_of later further)
        → IsImage new (seen new) → written < layout.slot_sectors → next + part_count (length bytes) ≤ log_end layout generation
        → ((j : ℕ) → (j < next) ⊎ (next + part_count (length bytes) ≤ j) → seen new j ≡ seen past j)
        → l ≡ layout → later_of ≡ generation → Keeps new sectors l slot newest kept written later_of later further t
    kept_recorded {new} {l} {later_of} {later} {further} wrote image room fits read on_layout of_generation =
        subst (λ (z : Layout). Keeps new sectors z slot newest kept written later_of later further t) (sym on_layout)
        (subst (λ g. Keeps new sectors layout slot newest kept written g later further t) (sym of_generation) (recorded image room (part_count (length bytes)) fits read
        (subst (λ b. GoesOn layout new slot newest (unpacked here k).body (all_records current layout newest (seen past) ++ b ∷ []) generation later further) is
        (subst (λ g. GoesOn layout new slot newest (unpacked here k).body (all_records current layout newest (seen past) ++ bytes ∷ []) g later further) of_generation
        (subst (λ (z : Layout). GoesOn z new slot newest (unpacked here k).body (all_records current layout newest (seen past) ++ bytes ∷ []) later_of later further) on_layout
        (wrote slot newest (unpacked here k).body (all_records current layout newest (seen past)) (unpacked here k).goes_on))))))

-- the same by equal values
pub held_at : {layout l : Layout} {size n : ℕ} {s t : State} → MayHold layout size s → l ≡ layout → n ≡ size → t ≡ s → MayHold l n t
held_at {l = l} {size = size} {n = n} {s = s} held a b c =
    subst (λ (z : State). MayHold l n z) (sym c) (subst (λ z. MayHold l z s) (sym b) (subst (λ (z : Layout). MayHold z size s) (sym a) held))

-- the disk has room for the layout
pub on_disk_at : {past : Past} {sectors : ℕ} {layout l : Layout} {slot : Slot} {newest : ℕ} {kept : List ℕ} {written generation number next : ℕ} {s : State} → l ≡ layout
    → Keeps past sectors layout slot newest kept written generation number next s → store_sectors l ≤ sectors
on_disk_at {sectors = sectors} same k = subst (λ (z : Layout). store_sectors z ≤ sectors) (sym same) k.on_disk

pub keeps_for : {past : Past} {sectors more : ℕ} {layout : Layout} {slot : Slot} {newest : ℕ} {kept : List ℕ} {written generation number next : ℕ} {s t : State}
    → Keeps past sectors layout slot newest kept written generation number next s → more ≡ sectors → t ≡ s → Keeps past more layout slot newest kept written generation number next t
keeps_for {past} {sectors} {more} {layout} {slot} {newest} {kept} {written} {generation} {number} {next} {s} k a b =
    subst (λ (z : State). Keeps past more layout slot newest kept written generation number next z) (sym b) (subst (λ z. Keeps past z layout slot newest kept written generation number next s) (sym a) k)

-- a state after a step may be held too
pub held_after : {layout : Layout} {size : ℕ} {s t : State} {input : Input} {reply : Reply} {actions : List Action} → MayHold layout size s → FitInput input
    → Step size s input reply actions t → MayHold layout size t
held_after {size = size} {s = s} {t = t} {input} {reply} {actions} held fit step = record {
  size_is = held.size_is;
  servable = step_servable size s input reply actions t step held.servable;
  fits = ∥∥₁_map held.fits (λ f. step_fits size s input reply actions t fit step f held.servable);
}

-- none of the inputs was taken
none_begun : {layout : Layout} {s : State} {inputs : List Input} (image : Image) → IsStoreOf layout image s → IsBegun layout s inputs image
none_begun {s = s} image store = record { count = 0; state = s; run = rests; store = store }

pub not_begun : {past : Past} {sectors : ℕ} {layout : Layout} {slot : Slot} {newest : ℕ} {kept : List ℕ} {written generation number next : ℕ} {s : State} (inputs : List Input)
    → IsImage past (seen past) → Keeps past sectors layout slot newest kept written generation number next s → During past past (IsBegun layout s inputs)
not_begun {past} inputs here k = weaker past past _ _ none_begun (still here k)

-- nor while a snapshot of the state was written
pub room_begun : {past new : Past} {layout : Layout} {s : State} (inputs : List Input) → During past new (λ image. IsStoreOf layout image s) → During past new (IsBegun layout s inputs)
room_begun {past} {new} inputs made = weaker past new _ _ none_begun made

-- a snapshot first, and then the record
pub room_and_record : {past mid new : Past} {layout l : Layout} {s t : State} (inputs : List Input) → During past mid (λ image. IsStoreOf layout image s)
    → During mid new (IsBegun l t inputs) → l ≡ layout → t ≡ s → During past new (IsBegun layout s inputs)
room_and_record {past} {mid} {new} {layout} {l} {s} {t} inputs made written on_layout of_state = followed past mid new _ (room_begun inputs made)
    (subst (λ (z : State). During mid new (IsBegun layout z inputs)) of_state (subst (λ (z : Layout). During mid new (IsBegun z t inputs)) on_layout written))

-- the record of an input that isn't refused is no longer than any record may be
pub record_short : {layout : Layout} {size : ℕ} {s t : State} {input : Input} {reply : Reply} {actions : List Action} → MayHold layout size s → FitInput input
    → Step size s input reply actions t → ((r : Refused) → reply ≢ Refusal r) → length (input_spelling input) ≤ input_limit
record_short {size = size} {s = s} {t = t} {input} {reply} {actions} held fit step accepted =
    ∥∥₁_elim held.fits le_prop (λ f. (accepted_room size s input reply actions t f fit step accepted).1)

-- ---- the answer of a step

-- a fact that follows from another fact of the value
pub if_ok : {A E : Type 0} {P Q : A → Type 0} (result : Result A E) → ((x : A) → P x → Q x) → IfOk result P → IfOk result Q
if_ok (Ok x) more said = more x said
if_ok (Err e) more said = said

pub new_numbers : {size : ℕ} {s t u : State} {input : Input} {reply : Reply} {actions more : List Action} → Step size s input reply actions t → more ≡ actions → u ≡ t
    → AreNew s.next u.next (started_numbers more)
new_numbers {size} {s} {t} {u} {input} {reply} {actions} {more} step a b =
    subst (λ (v : State). AreNew s.next v.next (started_numbers more)) (sym b)
    (subst (λ l. AreNew s.next t.next (started_numbers l)) (sym a) (numbers_rise size s input reply actions t step))

pub stores_at : {past : Past} {sectors : ℕ} {layout l : Layout} {slot : Slot} {newest : ℕ} {kept : List ℕ} {written generation number next : ℕ} {s : State} → IsImage past (seen past) → Keeps past sectors l slot newest kept written generation number next s
    → l ≡ layout → Images past (λ image. IsStoreOf layout image s)
stores_at {s = s} here k same image is = subst (λ (z : Layout). IsStoreOf z image s) same (stores here k image is)

pub stores_for : {past : Past} {sectors : ℕ} {layout : Layout} {slot : Slot} {newest : ℕ} {kept : List ℕ} {written generation number next : ℕ} {s t : State} → IsImage past (seen past) → Keeps past sectors layout slot newest kept written generation number next s
    → t ≡ s → Images past (λ image. IsStoreOf layout image t)
stores_for {layout = layout} here k same image is = subst (λ (z : State). IsStoreOf layout image z) (sym same) (stores here k image is)

-- ---- a snapshot

-- a state's bytes have room in a slot
pub spelled_fits : {layout : Layout} {size : ℕ} {s : State} → MayHold layout size s → length (state_spelling s) ≤ body_limit layout
spelled_fits {size = size} {s = s} held = subst (λ n. length (state_spelling s) ≤ n) held.size_is (∥∥₁_elim held.fits le_prop (λ f. spelled_room size s f held.servable))
