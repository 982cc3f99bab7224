-- A store that is opened is in the state that its image stands for; and a disk in memory that is settled shows what it showed.
use Rattle.std.proofs.Common.{◌≡◌, ◌∙◌, ◌-◌, ◌*◌, ℕ, List, [], sym, ap, subst}
use Rattle.um_memory.specs.Stores.{StandsIn}
use Rattle.um_keeper.specs.Creating.{IsEmptyStore}
use Rattle.um_laws.proofs.StandsLaws.{one_layout, one_state}
use Rattle.um_model.specs.Disk.{Image, Images, Sector, seen}
use Rattle.um_memory.specs.Stores.{memory_size}
use Rattle.um_model.specs.Machine.{State, empty_state}
use Rattle.um_model.specs.Stands.{StandsFor, IsStoreOf}
use Rattle.um_model.specs.Store.{body_limit}
use Rattle.um_model.specs.declared.layout.Layout.{Layout}
use Rattle.um_sector.specs.Memory.{history}
use Rattle.um_sector.specs.Noted.{past_of, seen_is_image}
use Rattle.um_sector.specs.declared.memory.MemDisk.{MemDisk}
use Rattle.um_sector.specs.declared.noted.Noted.{Noted}

-- an image stands for one state
pub stands_in : {image : Image} {layout : Layout} {s : State} → StandsFor layout image s → StandsIn image layout s
stands_in {image = image} {layout = layout} {s = s} mine l t store =
    let same : layout ≡ l = one_layout mine.format store.stands.format layout l image mine.first store.stands.first in
    (same, one_state l image s t (subst (λ (m : Layout). StandsFor m image s) same mine) store.stands)

-- ---- disks in memory

-- the image that a read gives of a disk in memory is a store, if each image is
pub seen_store : (d : MemDisk) (layout : Layout) (s : State) → Images (history d) (λ image. IsStoreOf layout image s) → IsStoreOf layout (seen (history d)) s
seen_store d layout s each = each (seen (history d)) (seen_is_image d.start.items d.noted.items)

-- a read of a settled disk gives the same as before
pub same_seen : (d e : MemDisk) → e.start.items ≡ d.held.items → e.noted.items ≡ [] → seen (history e) ≡ seen (history d)
same_seen d e start none =
    ap (λ (n : List Noted). seen (past_of e.start.items n)) none ∙ ap (λ (s : List Sector). seen (past_of s [])) start ∙ (λ i k. d.shown k i)

-- and is opened in the state of which it was a store
pub opened_again : (d was e : MemDisk) (layout l : Layout) (s t : State) → d ≡ was → e.start.items ≡ d.held.items → e.noted.items ≡ []
    → Images (history was) (λ image. IsStoreOf layout image s) → StandsIn (seen (history e)) l t → (l ≡ layout) × (t ≡ s)
opened_again d was e layout l s t same start none each stands =
    let there = seen_store was layout s each in
    let here : IsStoreOf layout (seen (history d)) s = subst (λ (m : MemDisk). IsStoreOf layout (seen (history m)) s) (sym same) there in
    stands layout s (subst (λ (image : Image). IsStoreOf layout image s) (sym (same_seen d e start none)) here)

-- a new store is opened in the empty state
pub opened_first : (d : MemDisk) (layout l : Layout) (t : State) → Images (history d) (IsEmptyStore layout) → StandsIn (seen (history d)) l t → (l ≡ layout) × (t ≡ empty_state)
opened_first d layout l t each stands = stands layout empty_state (seen_store d layout empty_state (λ image is. (each image is).store))

-- ---- sizes

-- a store has the size of its layout
pub size_again : (size n : ℕ) (layout l : Layout) → size ≡ body_limit l → n ≡ body_limit layout → l ≡ layout → size ≡ n
size_again size n layout l is was same = is ∙ ap (λ (m : Layout). body_limit m) same ∙ sym was

-- that of this layout is the one named
pub size_first : (size : ℕ) (layout l : Layout) → size ≡ body_limit l → l ≡ layout → layout.slot_sectors ≡ 16384 → size ≡ memory_size
size_first size layout l is same slot = is ∙ ap (λ (m : Layout). body_limit m) same ∙ ap (λ n. (n - 1) * 512) slot
