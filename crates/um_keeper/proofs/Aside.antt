-- A snapshot under way: the state that its bytes spell, alone and with the records after it.
use Rattle.std.proofs.Common.{◌≡◌, ◌⊎◌, ◌∙◌, ℕ, ◌+◌, ◌<◌, ◌≤◌, min, Bool, true, false, List, [], ◌∷◌, ◌++◌, length, refl, sym, ap, subst, inl, inr, arith, length-append}
use Rattle.std.specs.Prelude.{Some, if◌then◌else◌}
use Rattle.std.proofs.lemmas.Option.{same_Some}
use Rattle.um_model.specs.Bytes.{nothing_left}
use Rattle.um_model.specs.Disk.{Image}
use Rattle.um_model.specs.Machine.{State, Input, Run}
use Rattle.um_model.specs.Servable.{IsServable}
use Rattle.um_model.specs.Stands.{inputs_of}
use Rattle.um_model.specs.StateSpellings.{state_at}
use Rattle.um_model.specs.Store.{current, body_limit, slot_start, sector_count, first_log_sector, log_start, log_end, records_of, all_records, Counts, IsNoneAbove}
use Rattle.um_model.specs.declared.layout.Layout.{Layout}
use Rattle.um_model.specs.declared.layout.Slot.{Slot}
use Rattle.um_model.specs.declared.layout.Slot.TheVariants.{A, B}
use Rattle.um_laws.proofs.CountedLaws.{split, front, front_same, own_records}
use Rattle.um_laws.proofs.MachineLaws.{one_run}
use Rattle.um_laws.proofs.SplitLaws.{run_split, inputs_split}
use Rattle.um_laws.proofs.StandsLaws.{ComesTo}
use Rattle.um_slot.specs.Snapshots.{IsWritten}
use Rattle.um_keeper.specs.Keeping.{has_bytes, log_generation}
use Rattle.um_keeper.specs.Underway.{Spells, IsAside}

-- ---- spelled states

-- the spelled state is the state of a store
pub comes_of : {layout : Layout} {body : List ℕ} {records : List (List ℕ)} {s : State} (spells : Spells layout body records s) → ComesTo (body_limit layout) body records spells.start spells.inputs s
comes_of spells = record { start_is = spells.start_is; inputs_are = spells.inputs_are; servable = spells.servable; run = spells.run }

pub spells_of : {layout : Layout} {body : List ℕ} {records : List (List ℕ)} {start : State} {inputs : List Input} {s : State} → ComesTo (body_limit layout) body records start inputs s → Spells layout body records s
spells_of {start = start} {inputs} comes = record { start = start; inputs = inputs; start_is = comes.start_is; inputs_are = comes.inputs_are; servable = comes.servable; run = comes.run }

-- ---- the bytes of a snapshot under way

-- facts of its state that don't say that there is one
abbrev pub Told : Layout → (body : List ℕ) (records : List (List ℕ)) (kept : List ℕ) → Type 0
Told layout body records kept = (start : State) (inputs : List Input) → nothing_left (state_at body) ≡ Some start → inputs_of records ≡ Some inputs
    → (t : State) → Run (body_limit layout) start inputs t → (nothing_left (state_at kept) ≡ Some t) × IsServable (body_limit layout) t

module _ {layout : Layout} {image : Image} {newest : ℕ} {body kept : List ℕ} where
  pub aside_told : IsAside layout image newest body kept → Told layout body (records_of current layout newest image) kept
  aside_told is start inputs start_is inputs_are t run =
      let sp = is.spells in
      let one : start ≡ sp.start = same_Some start sp.start (sym start_is ∙ sp.start_is) in
      let two : inputs ≡ sp.inputs = same_Some inputs sp.inputs (sym inputs_are ∙ sp.inputs_are) in
      let there : Run (body_limit layout) sp.start sp.inputs t = subst (λ (l : List Input). Run (body_limit layout) sp.start l t) two (subst (λ (x : State). Run (body_limit layout) x inputs t) one run) in
      let same : is.state ≡ t = one_run (body_limit layout) sp.start is.state t sp.inputs sp.run there in
      (is.kept_is ∙ ap (λ (x : State). Some x) same, subst (λ (x : State). IsServable (body_limit layout) x) same is.may)

  module _ (behind : List (List ℕ)) {s : State} (all : Spells layout body (records_of current layout newest image ++ behind) s) where
    pub aside_of : Told layout body (records_of current layout newest image) kept → IsAside layout image newest body kept
    aside_of told =
        let p = inputs_split (records_of current layout newest image) behind all.inputs all.inputs_are in
        let m = run_split (body_limit layout) all.start s p.front p.behind (subst (λ (l : List Input). Run (body_limit layout) all.start l s) p.all_are all.run) in
        let both = told all.start p.front all.start_is p.front_are m.state m.first in
        record {
          state = m.state;
          spells = record { start = all.start; inputs = p.front; start_is = all.start_is; inputs_are = p.front_are; servable = all.servable; run = m.first };
          kept_is = both.0;
          may = both.1;
        }

    -- with these bytes as its body the store reaches the state by the records after it
    pub spells_behind : IsAside layout image newest body kept → Spells layout kept behind s
    spells_behind is =
        let p = inputs_split (records_of current layout newest image) behind all.inputs all.inputs_are in
        let m = run_split (body_limit layout) all.start s p.front p.behind (subst (λ (l : List Input). Run (body_limit layout) all.start l s) p.all_are all.run) in
        let both = aside_told is all.start p.front all.start_is p.front_are m.state m.first in
        record { start = m.state; inputs = p.behind; start_is = both.0; inputs_are = p.behind_are; servable = both.1; run = m.second }

-- ---- the log's generation

by_bytes : (newest generation : ℕ) (b : Bool) → generation ≡ newest + (if b then 1 else 0) → Counts current newest generation
by_bytes newest generation false is = inl (omega (arith, is))
by_bytes newest generation true is = inr is

-- its records count
pub counts_of : (newest generation : ℕ) (kept : List ℕ) → generation ≡ log_generation newest kept → Counts current newest generation
counts_of newest generation kept is = by_bytes newest generation (has_bytes kept) is

-- it is the next with a snapshot under way, and else the newest one's
pub next_generation : (newest generation : ℕ) (kept : List ℕ) → generation ≡ log_generation newest kept → has_bytes kept ≡ true → generation ≡ newest + 1
next_generation newest generation kept is has = is ∙ ap (λ (b : Bool). newest + (if b then 1 else 0)) has

pub own_generation : (newest generation : ℕ) (kept : List ℕ) → generation ≡ log_generation newest kept → has_bytes kept ≡ false → generation ≡ newest
own_generation newest generation kept is none = let same : generation ≡ newest + 0 = is ∙ ap (λ (b : Bool). newest + (if b then 1 else 0)) none in omega (arith, same)

-- ---- all records that count, by their parts

-- lists that end alike are equal before that
pub ends_alike : (a b c d : List (List ℕ)) → a ++ b ≡ c ++ d → length b ≡ length d → (a ≡ c) × (b ≡ d)
ends_alike [] b [] d is same = (refl, is)
ends_alike [] b (y ∷ c) d is same = absurd (omega (arith, ap (λ (l : List (List ℕ)). length l) is, length-append c d, same))
ends_alike (x ∷ a) b [] d is same = absurd (omega (arith, ap (λ (l : List (List ℕ)). length l) is, length-append a b, same))
ends_alike (x ∷ a) b (y ∷ c) d is same =
    let head : x ≡ y = cc in
    let tail : a ++ b ≡ c ++ d = cc in
    let rest = ends_alike a b c d tail same in
    ((λ k. head k ∷ rest.0 k), rest.1)

module _ (layout : Layout) (newest generation : ℕ) (a b : Image) (above_a : IsNoneAbove layout a generation) (above_b : IsNoneAbove layout b generation) where
  fronts : (counts : Counts current newest generation) → records_of current layout newest b ≡ records_of current layout newest a
      → front layout newest generation counts b ≡ front layout newest generation counts a
  fronts (inl own) same = refl
  fronts (inr next) same = same

  -- images that agree in the records of both generations agree in all
  pub all_by_parts : Counts current newest generation → records_of current layout newest b ≡ records_of current layout newest a → records_of current layout generation b ≡ records_of current layout generation a
      → all_records current layout newest b ≡ all_records current layout newest a
  all_by_parts counts here logged =
      split layout newest generation b counts above_b ∙ (λ k. fronts counts here k ++ logged k) ∙ sym (split layout newest generation a counts above_a)

  -- and back, where the log's generation has as many
  pub parts_alike : Counts current newest generation → all_records current layout newest b ≡ all_records current layout newest a
      → length (records_of current layout generation b) ≡ length (records_of current layout generation a)
      → (records_of current layout newest b ≡ records_of current layout newest a) × (records_of current layout generation b ≡ records_of current layout generation a)
  parts_alike (inl own) same long =
      let here : records_of current layout newest b ≡ records_of current layout newest a =
      sym (own_records current layout newest b (subst (λ n. IsNoneAbove layout b n) own above_b)) ∙ same ∙ own_records current layout newest a (subst (λ n. IsNoneAbove layout a n) own above_a) in
      (here, subst (λ n. records_of current layout n b ≡ records_of current layout n a) (sym own) here)
  parts_alike (inr next) same long =
      let both = ends_alike (records_of current layout newest b) (records_of current layout generation b) (records_of current layout newest a) (records_of current layout generation a)
      (sym (split layout newest generation b (inr next) above_b) ∙ same ∙ split layout newest generation a (inr next) above_a) long in
      both

-- ---- the sectors beside the log

-- this many sectors of a body that fits have room in its slot
pub written_room : (layout : Layout) (kept : List ℕ) (written : ℕ) → (0 < length kept → written < sector_count (length kept)) → (length kept ≡ 0 → written ≡ 0)
    → length kept ≤ body_limit layout → written < layout.slot_sectors
written_room layout [] written going none short = let zero_is = none refl in omega (arith, zero_is, layout.slot_least)
written_room layout (x ∷ kept) written going none short = let some = going (omega arith) in omega (arith, some, short, layout.slot_least)

-- at most this many of them were written
pub low_written : (kept : List ℕ) (written : ℕ) → (0 < length kept → written < sector_count (length kept)) → (length kept ≡ 0 → written ≡ 0) → written ≤ sector_count (length kept)
low_written [] written going none = let zero_is = none refl in omega (arith, zero_is)
low_written (x ∷ kept) written going none = let some = going (omega arith) in omega (arith, some)

-- and where more of them stand, these do
pub fewer_written : (layout : Layout) (image : Image) (slot : Slot) (kept : List ℕ) {few many : ℕ} → few ≤ many → IsWritten layout image slot kept many → IsWritten layout image slot kept few
fewer_written layout image slot kept low is i below = is i (omega (arith, below, low))

-- where no more are left than are written, all stand
pub all_written : (layout : Layout) (image : Image) (slot : Slot) (kept : List ℕ) (from count : ℕ) → sector_count (length kept) ≤ from + count
    → IsWritten layout image slot kept (min (from + count) (sector_count (length kept))) → IsWritten layout image slot kept (sector_count (length kept))
all_written layout image slot kept from count enough is i below = is i (omega (arith, below, enough))

-- a change in the log alone leaves them
pub written_apart : (layout : Layout) (a b : Image) (slot : Slot) (kept : List ℕ) (written : ℕ) → written < layout.slot_sectors → ((j : ℕ) → j < first_log_sector layout → b j ≡ a j)
    → IsWritten layout a slot kept written → IsWritten layout b slot kept written
written_apart layout a b slot kept written room same is i below = same (slot_start layout slot + 1 + i) (before slot) ∙ is i below
  where
    before : (slot : Slot) → slot_start layout slot + 1 + i < first_log_sector layout
    before A = omega (arith, below, room)
    before B = omega (arith, below, room)

-- a change in the place of the log's generation alone leaves the records before them
pub before_same : (layout : Layout) (newest generation : ℕ) (a b : Image) → generation ≡ newest + 1
    → ((j : ℕ) → first_log_sector layout ≤ j → (j < log_start layout generation) ⊎ (log_end layout generation ≤ j) → b j ≡ a j)
    → records_of current layout newest b ≡ records_of current layout newest a
before_same layout newest generation a b next same = front_same layout newest generation a b (inr next) same

-- with the same records a snapshot under way is the same
pub aside_at : {layout : Layout} {a b : Image} {newest : ℕ} {body kept : List ℕ} → records_of current layout newest b ≡ records_of current layout newest a
    → IsAside layout a newest body kept → IsAside layout b newest body kept
aside_at {layout} {body = body} same is = record {
  state = is.state;
  spells = subst (λ (l : List (List ℕ)). Spells layout body l is.state) (sym same) is.spells;
  kept_is = is.kept_is;
  may = is.may;
}
