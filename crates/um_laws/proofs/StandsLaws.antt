-- An image of a store stands for one state at most, of one layout; and the state of a store by its sectors.
use Rattle.std.specs.Prelude.{drop, map}
use Rattle.std.specs.List.{AllByRecursion}
use Rattle.std.proofs.Common.{◌≡◌, ◌∙◌, ℕ, ◌≤◌, List, [], ◌∷◌, ◌++◌, Option, Some, None, refl, sym, ap, subst, arith}
use Rattle.std.proofs.Math.Bridge.{le_prop}
use Rattle.std.proofs.lemmas.List.{append-nil}
use Rattle.std.proofs.lemmas.Option.{same_Some, none-some}
use Rattle.byteorder.specs.Endian.{big_number}
use mathlib.Core.HLevel.{×_prop}
use Rattle.um_model.specs.Profiles.{current}
use Rattle.um_model.specs.Bytes.{◌>>=◌, nothing_left}
use Rattle.um_model.specs.Disk.{Sector, Image}
use Rattle.um_model.specs.InputSpellings.{input_spelling, input_at, FitInput}
use Rattle.um_model.specs.Machine.{State, Input, Reply, Step, Run, rests, goes, empty_state}
use Rattle.um_model.specs.Servable.{IsServable}
use Rattle.um_model.specs.Service.{Action}
use Rattle.um_model.specs.Stands.{inputs_of, Contents, contents_of, StandsFor, IsStoreOf}
use Rattle.um_model.specs.StateSpellings.{state_spelling, state_at, FitState}
use Rattle.um_model.specs.Store.{superblock, other, body_limit, Newest, newest_of, top, all_records, IsNewest, IsNoneAbove, IsStore}
use Rattle.um_model.specs.declared.layout.Format.{Format}
use Rattle.um_model.specs.declared.layout.Layout.{Layout}
use Rattle.um_model.specs.declared.layout.Slot.{Slot}
use Rattle.um_laws.proofs.FewLaws.{empty_blank}
use Rattle.um_laws.proofs.FitStateLaws.{empty_fit}
use Rattle.um_laws.proofs.ImageLaws.{newest_some}
use Rattle.um_model.proofs.InputSpellingsLaws.{canonical_input}
use Rattle.um_laws.proofs.MachineLaws.{one_run, run-append}
use Rattle.um_laws.proofs.ServableLaws.{blank_servable}
use Rattle.um_model.proofs.StateSpellingsLaws.{canonical_state}
use Rattle.um_laws.proofs.StoreLaws.{superblock_says, one_format}
use Rattle.um_laws.proofs.TotalLaws.{a_step}

-- ---- one state

-- an image holds one store at most
pub one_contents : (format : Format) (layout : Layout) (image : Image) (c d : Contents) → contents_of format layout image ≡ Some c → contents_of format layout image ≡ Some d → c ≡ d
one_contents format layout image c d one two = same_Some c d (sym one ∙ two)

-- An image stands for one state at most.
pub one_state : (layout : Layout) (image : Image) (s t : State) → StandsFor layout image s → StandsFor layout image t → s ≡ t
one_state layout image s t one two =
    let format = one_format two.format one.format layout layout (sym two.first ∙ one.first) in
    let holds : contents_of one.format layout image ≡ Some two.contents = subst (λ f. contents_of f layout image ≡ Some two.contents) format two.holds in
    let same = one_contents one.format layout image two.contents one.contents holds one.holds in
    one_run (body_limit layout) one.contents.start s t one.contents.inputs one.run (subst (λ (c : Contents). Run (body_limit layout) c.start c.inputs t) same two.run)

-- ---- one layout

-- the sizes that a layout may have
abbrev Bounds : ℕ → ℕ → Type 0
Bounds slot log = (64 ≤ slot) × ((slot ≤ 1048576) × ((512 ≤ log) × (log ≤ 1048576)))

of_sizes : (slot log : ℕ) → Bounds slot log → Layout
of_sizes slot log b =
    record { slot_sectors = slot; log_sectors = log; slot_least = b.0; slot_most = b.1.0; log_least = b.1.1.0; log_most = b.1.1.1 }

bounds_once : (slot log : ℕ) → IsProp (Bounds slot log)
bounds_once slot log = ×_prop le_prop (×_prop le_prop (×_prop le_prop le_prop))

-- layouts of the same sizes are the same
pub same_layout : (l m : Layout) → l.slot_sectors ≡ m.slot_sectors → l.log_sectors ≡ m.log_sectors → l ≡ m
unfolding of_sizes
same_layout l m slot log = by m.slot_sectors m.log_sectors (bounds m) slot log
  where
    bounds : (l : Layout) → Bounds l.slot_sectors l.log_sectors
    bounds l = (l.slot_least, (l.slot_most, (l.log_least, l.log_most)))

    by : (s g : ℕ) (b : Bounds s g) → l.slot_sectors ≡ s → l.log_sectors ≡ g → l ≡ of_sizes s g b
    by s g b e f = subst (λ s. (b : Bounds s g) → l ≡ of_sizes s g b) e (subst (λ g. (b : Bounds l.slot_sectors g) → l ≡ of_sizes l.slot_sectors g b) f
        (λ b. ap (of_sizes l.slot_sectors l.log_sectors) (bounds_once l.slot_sectors l.log_sectors (bounds l) b))) b

-- An image is of one layout at most.
pub one_layout : (f g : Format) (l m : Layout) (image : Image) → image 0 ≡ superblock f l → image 0 ≡ superblock g m → l ≡ m
one_layout f g l m image one two =
    let same : superblock f l ≡ superblock g m = sym one ∙ two in
    let a = superblock_says f l in
    let b = superblock_says g m in
    same_layout l m (sym a.0 ∙ ap (λ (s : Sector). big_number 4 (drop 8 s)) same ∙ b.0)
    (sym a.1 ∙ ap (λ (s : Sector). big_number 4 (drop 12 s)) same ∙ b.1)

-- ---- runs

-- Each list of inputs has a run from each state.
pub runs_exist : (size : ℕ) (s : State) (inputs : List Input) → (t : State) × Run size s inputs t
runs_exist size s [] = (s, rests)
runs_exist size s (input ∷ inputs) =
    let (reply, actions, t, step) = a_step size s input in
    let (u, run) = runs_exist size t inputs in
    (u, goes reply actions step run)

-- so a state is the end of a run if no run ends elsewhere
pub run_to : {size : ℕ} {s t : State} {inputs : List Input} → ((u : State) → Run size s inputs u → u ≡ t) → Run size s inputs t
run_to {size} {s} {t} {inputs} only = let (u, run) = runs_exist size s inputs in subst (Run size s inputs) (only u run) run

-- and no run ends elsewhere than one
pub only_end : {size : ℕ} {s t : State} {inputs : List Input} → Run size s inputs t → (u : State) → Run size s inputs u → u ≡ t
only_end {size} {s} {t} {inputs} run u other = one_run size s u t inputs other run

-- a run and then a step
pub run_step : {size : ℕ} {s t u : State} {inputs : List Input} {input : Input} {reply : Reply} {actions : List Action} → Run size s inputs t → Step size t input reply actions u
    → Run size s (inputs ++ input ∷ []) u
run_step {size} {s} {t} {u} {inputs} {input} run step = run-append size s t u inputs (input ∷ []) run (goes _ _ step rests)

-- ---- spellings

-- the two steps of a chain that gives a value
pub bound : {A B : Type 0} (o : Option A) (f : A → Option B) (b : B) → (o >>= f) ≡ Some b → (a : A) × (o ≡ Some a) × (f a ≡ Some b)
bound None f b e = absurd (none-some b e)
bound (Some a) f b e = (a, refl, e)

-- a state's spelling is read as that state
pub state_back : (s : State) → FitState s → nothing_left (state_at (state_spelling s)) ≡ Some s
state_back s fit = ap (λ l. nothing_left (state_at l)) (sym (append-nil (state_spelling s))) ∙ ap nothing_left (canonical_state.again s [] fit)

-- an input's spelling is read as that input
pub input_back : (input : Input) → FitInput input → nothing_left (input_at (input_spelling input)) ≡ Some input
input_back input fit = ap (λ l. nothing_left (input_at l)) (sym (append-nil (input_spelling input))) ∙ ap nothing_left (canonical_input.again input [] fit)

-- and so are those of several
pub inputs_back : (inputs : List Input) → AllByRecursion FitInput inputs → inputs_of (map input_spelling inputs) ≡ Some inputs
inputs_back [] fit = refl
inputs_back (input ∷ inputs) fit = λ k. input_back input fit.0 k >>= λ i. inputs_back inputs fit.1 k >>= λ is. Some (i ∷ is)

-- one record more is one input more
pub inputs_push : (records : List (List ℕ)) (inputs : List Input) (input : Input) → inputs_of records ≡ Some inputs → FitInput input
    → inputs_of (records ++ input_spelling input ∷ []) ≡ Some (inputs ++ input ∷ [])
inputs_push [] inputs input is fit = inputs_back (input ∷ []) (fit, tt) ∙ ap (λ l. Some (l ++ input ∷ [])) (same_Some [] inputs is)
inputs_push (bytes ∷ records) inputs input is fit =
    let (first, here, more) = bound (nothing_left (input_at bytes)) (λ i. inputs_of records >>= λ is. Some (i ∷ is)) inputs is in
    let (others, there, both) = bound (inputs_of records) (λ is. Some (first ∷ is)) inputs more in
    let rest = inputs_push records others input there fit in
    (λ k. here k >>= λ i. rest k >>= λ is. Some (i ∷ is)) ∙ ap (λ l. Some (l ++ input ∷ [])) (same_Some (first ∷ others) inputs both)

-- ---- from the sectors of a store to its state, and back

abbrev pub contents : Slot → ℕ → State → List Input → Contents
contents slot generation start inputs = record { slot = slot; generation = generation; start = start; inputs = inputs }

-- The body spells the start, the records spell the inputs, and a run over these from the start ends in the state.
pub record ComesTo (size : ℕ) (body : List ℕ) (records : List (List ℕ)) (start : State) (inputs : List Input) (s : State) : Type 0 where
  pub start_is : nothing_left (state_at body) ≡ Some start
  pub inputs_are : inputs_of records ≡ Some inputs
  pub servable : IsServable size start
  pub run : Run size start inputs s

module _ {format : Format} {layout : Layout} {image : Image} {slot : Slot} {generation : ℕ} {body : List ℕ} {records : List (List ℕ)} (store : IsStore format layout image slot generation body records) where
  -- its newest slot and its records, as functions of the image
  pub newest_told : newest_of layout image ≡ Some (record { slot = slot; generation = generation; body = body })
  newest_told = (newest_some layout image _).1 store.newest

  pub records_told : all_records format layout generation image ≡ records
  records_told = sym store.records_are

  -- the contents of the store
  pub contents_are : {start : State} {inputs : List Input} → nothing_left (state_at body) ≡ Some start → inputs_of records ≡ Some inputs
      → contents_of format layout image ≡ Some (contents slot generation start inputs)
  contents_are {start} {inputs} start_is inputs_are =
      (λ k. newest_told k >>= λ n. nothing_left (state_at n.body) >>= λ s. inputs_of (all_records format layout n.generation image) >>= λ is. Some (contents n.slot n.generation s is))
      ∙ (λ k. start_is k >>= λ s. inputs_of (records_told k) >>= λ is. Some (contents slot generation s is))
      ∙ (λ k. inputs_are k >>= λ is. Some (contents slot generation start is))

  -- A store whose body and records lead to a state is a store of it.
  pub store_of : {start : State} {inputs : List Input} {s : State} → ComesTo (body_limit layout) body records start inputs s → IsStoreOf layout image s
  store_of {start} {inputs} comes = record {
    stands = record {
      format = format;
      first = store.first;
      contents = contents slot generation start inputs;
      holds = contents_are comes.start_is comes.inputs_are;
      servable = comes.servable;
      run = comes.run;
    };
    none_later = store.none_later;
  }

-- the contents of an image, by its parts
pub record HasContents (format : Format) (layout : Layout) (image : Image) (c : Contents) : Type 0 where
  pub body : List ℕ
  pub newest : IsNewest layout image c.slot c.generation body
  pub start_is : nothing_left (state_at body) ≡ Some c.start
  pub inputs_are : inputs_of (all_records format layout c.generation image) ≡ Some c.inputs

from_parts : (format : Format) (layout : Layout) (image : Image) (n : Newest) (s : State) (inputs : List Input) → newest_of layout image ≡ Some n → nothing_left (state_at n.body) ≡ Some s
    → inputs_of (all_records format layout n.generation image) ≡ Some inputs → HasContents format layout image (contents n.slot n.generation s inputs)
from_parts format layout image n s inputs newest start are = record { body = n.body; newest = (newest_some layout image n).0 newest; start_is = start; inputs_are = are }

pub has_contents : (format : Format) (layout : Layout) (image : Image) (c : Contents) → contents_of format layout image ≡ Some c → HasContents format layout image c
has_contents format layout image c is =
    let (n, newest, more) = bound (newest_of layout image) _ c is in
    let (s, start, others) = bound (nothing_left (state_at n.body)) _ c more in
    let (inputs, are, same) = bound (inputs_of (all_records format layout n.generation image)) _ c others in
    subst (HasContents format layout image) (same_Some _ c same) (from_parts format layout image n s inputs newest start are)

-- The body and the records of a store of a state, and how they lead to it.
pub record IsHeld (format : Format) (layout : Layout) (image : Image) (s : State) : Type 0 where
  pub slot : Slot
  pub generation : ℕ
  pub body : List ℕ
  pub records : List (List ℕ)
  pub start : State
  pub inputs : List Input
  pub store : IsStore format layout image slot generation body records
  pub comes : ComesTo (body_limit layout) body records start inputs s
  pub holds : contents_of format layout image ≡ Some (contents slot generation start inputs)

-- ---- how a keeper changes a store

-- a record more is a step more
pub comes_further : {size : ℕ} {body : List ℕ} {records : List (List ℕ)} {start : State} {inputs : List Input} {s t : State} {input : Input} {reply : Reply} {actions : List Action}
    → ComesTo size body records start inputs s → FitInput input → Step size s input reply actions t → ComesTo size body (records ++ input_spelling input ∷ []) start (inputs ++ input ∷ []) t
comes_further {records} {inputs} {input} comes fit step = record {
  start_is = comes.start_is;
  inputs_are = inputs_push records inputs input comes.inputs_are fit;
  servable = comes.servable;
  run = run_step comes.run step;
}

-- a state's own spelling leads to it without a record
pub comes_anew : {size : ℕ} {s : State} → nothing_left (state_at (state_spelling s)) ≡ Some s → IsServable size s → ComesTo size (state_spelling s) [] s [] s
comes_anew is may = record { start_is = is; inputs_are = refl; servable = may; run = rests }

-- With one record more it is a store of the state after the step.
pub one_more : {format : Format} {layout : Layout} {image : Image} {slot : Slot} {generation : ℕ} {body : List ℕ} {records : List (List ℕ)} {start : State} {inputs : List Input} {s t : State} {input : Input} {reply : Reply}
    {actions : List Action} → IsStore format layout image slot generation body (records ++ input_spelling input ∷ []) → ComesTo (body_limit layout) body records start inputs s
    → FitInput input → Step (body_limit layout) s input reply actions t → IsStoreOf layout image t
one_more store comes fit step = store_of store (comes_further comes fit step)

-- With a state's own spelling and no record it is a store of that state.
pub anew : {format : Format} {layout : Layout} {image : Image} {slot : Slot} {generation : ℕ} {s : State} → IsStore format layout image slot generation (state_spelling s) []
    → nothing_left (state_at (state_spelling s)) ≡ Some s → IsServable (body_limit layout) s → IsStoreOf layout image s
anew store is may = store_of store (comes_anew is may)

-- the empty state has bytes, and any store may hold it
pub empty_back : nothing_left (state_at (state_spelling empty_state)) ≡ Some empty_state
empty_back = state_back empty_state (empty_fit current)

pub empty_may : (layout : Layout) → IsServable (body_limit layout) empty_state
empty_may layout = blank_servable (body_limit layout) empty_state (omega (arith, layout.slot_least)) (empty_blank current)

-- With the empty state's spelling and no record it is a store of the empty state.
pub empty_store : {format : Format} {layout : Layout} {image : Image} {slot : Slot} {generation : ℕ} → IsStore format layout image slot generation (state_spelling empty_state) [] → IsStoreOf layout image empty_state
empty_store {format} {layout} store = anew store empty_back (empty_may layout)

-- From the facts that a keeper has of an image without a run: no run over its contents ends elsewhere.
pub stands_by_ends : (format : Format) {layout : Layout} {image : Image} {c : Contents} {s : State} → image 0 ≡ superblock format layout → contents_of format layout image ≡ Some c → IsServable (body_limit layout) c.start
    → ((t : State) → Run (body_limit layout) c.start c.inputs t → t ≡ s) → StandsFor layout image s
stands_by_ends format {c} first holds may only = record { format = format; first = first; contents = c; holds = holds; servable = may; run = run_to only }

pub store_by_ends : (format : Format) {layout : Layout} {image : Image} {c : Contents} {s : State} → image 0 ≡ superblock format layout → contents_of format layout image ≡ Some c → IsServable (body_limit layout) c.start
    → ((t : State) → Run (body_limit layout) c.start c.inputs t → t ≡ s) → IsNoneAbove layout image (top format c.generation) → IsStoreOf layout image s
unfolding stands_by_ends
store_by_ends format first holds may only free = record { stands = stands_by_ends format first holds may only; none_later = free }

-- and back, for any contents that the function returns
pub ends_of : (format : Format) {layout : Layout} {image : Image} {c : Contents} {s : State} → StandsFor layout image s → image 0 ≡ superblock format layout → contents_of format layout image ≡ Some c
    → IsServable (body_limit layout) c.start × ((t : State) → Run (body_limit layout) c.start c.inputs t → t ≡ s)
ends_of format {layout} {image} {c} {s} one first holds =
    let same = one_format one.format format layout layout (sym one.first ∙ first) in
    let told : contents_of format layout image ≡ Some one.contents = subst (λ f. contents_of f layout image ≡ Some one.contents) same one.holds in
    subst (λ (d : Contents). IsServable (body_limit layout) d.start × ((t : State) → Run (body_limit layout) d.start d.inputs t → t ≡ s))
    (one_contents format layout image one.contents c told holds) (one.servable, only_end one.run)
