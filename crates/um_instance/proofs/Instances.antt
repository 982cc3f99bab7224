-- Two lives are an instance.
use Rattle.std.proofs.Common.{◌≡◌, ◌∙◌, ℕ, List, [], ◌∷◌, Bool, true, Result, Ok, append-nil, refl, sym, ap, subst}
use Rattle.std.specs.Bool.{IsTrue}
use Rattle.um_instance.specs.Instances.{SoFar, IsInstance}
use Rattle.um_keeper.specs.Creating.{IsEmptyStore}
use Rattle.um_laws.proofs.StandsLaws.{one_layout}
use Rattle.um_manager.proofs.Continuing.{turn_continues, stops_there}
use Rattle.um_manager.specs.Going.{IsJustOpened, IsTurn, is_turn, is_none, stopped, Continues, goes_on, has_stopped, offers_in_turn}
use Rattle.um_manager.specs.Histories.{History, opens, turns, takes, HasGoneOn, AreTrusted}
use Rattle.um_manager.specs.Lives.{DiskPremises, Outlives}
use Rattle.um_manager.specs.Living.{ManagerLife, behind, IsByDisk}
use Rattle.um_manager.specs.Places.{Place, place, place_on}
use Rattle.um_manager.specs.Turns.{Now}
use Rattle.um_manager.specs.declared.pieces.Piece.{Piece}
use Rattle.um_model.specs.Children.{Call}
use Rattle.um_model.specs.Disk.{Image, Past, IsImage, Images, seen}
use Rattle.um_model.specs.Lives.{Offer}
use Rattle.um_model.specs.Machine.{State, empty_state}
use Rattle.um_model.specs.Stands.{StandsFor}
use Rattle.um_model.specs.Store.{body_limit}
use Rattle.um_model.specs.declared.layout.Layout.{Layout}
use Rattle.um_sector.specs.Left.{IsLeftBy}
use Rattle.um_wire.specs.declared.refusal.Refusal.{Refusal}

-- ---- an opening

place_is : (size : ℕ) (layout : Layout) (honest : Bool) → size ≡ body_limit layout → honest ≡ true → place size layout honest ≡ place_on layout
place_is size layout honest sized sure = ap (λ n. place n layout honest) sized ∙ ap (λ h. place (body_limit layout) layout h) sure

pub opened_so_far : (layout : Layout) (size : ℕ) (honest told whole : Bool) (moment : ℕ) (boot : List ℕ) (count sectors : ℕ) {disk : Past} {before : List Call} {b : Now}
    → size ≡ body_limit layout → (all : History disk before b) → IsJustOpened (place size layout honest) told whole moment boot count sectors all
    → SoFar layout disk before (IsTrue honest) (IsTrue told × IsTrue whole) b
opened_so_far layout size honest told whole moment boot count sectors {disk = disk} sized (opens {at = at} sessions opened anew)
    (is, as_told, all_told, at_moment, of_boot, of_count, of_size) = record {
      past = opens sessions opened anew;
      gone = λ sure. is ∙ place_is size layout honest sized sure;
      found = λ sure.
          let there : at ≡ place_on layout = is ∙ place_is size layout honest sized sure in
          let had = opened.found (ap (λ (p : Place). p.trusted) there) in
          (opened.a.state, subst (λ (p : Place). StandsFor p.layout (seen disk) opened.a.state) there had.stands);
      are_trusted = λ trust. (as_told ∙ trust.0, all_told ∙ trust.1);
    }
opened_so_far layout size honest told whole moment boot count sectors sized (turns past turned) just = absurd just
opened_so_far layout size honest told whole moment boot count sectors sized (takes past out) just = absurd just

-- ---- a turn that is answered Ok

still_gone : (layout : Layout) {disk : Past} {before : List Call} {a b : Now} (past : History disk before a) (all : History disk before b) (more : List Offer) → Continues layout past all more (Ok tt)
    → HasGoneOn layout all
still_gone layout past all more (goes_on gone are) = gone
still_gone layout past all more (has_stopped refused life ends) = absurd (refused refl)

still_trusted : {at : Place} {honest whole : Bool} {result : Result Unit Refusal} {moment : ℕ} {pieces : List Piece} {disk : Past} {before : List Call} {a b : Now} (past : History disk before a)
    (all : History disk before b) → IsTurn at honest whole result moment pieces past all → AreTrusted past → IsTrue honest → IsTrue whole → AreTrusted all
still_trusted past all (is_turn turned) trust sure known = (trust, sure, known)
still_trusted past all (is_none want still out) trust sure known = trust

pub turned_so_far : (layout later : Layout) {at : Place} {honest whole : Bool} {result : Result Unit Refusal} {moment : ℕ} {pieces : List Piece} {disk : Past} {before : List Call} {a b : Now}
    {Sure Known More : Type 0} → later ≡ layout → (so : SoFar layout disk before Sure Known a) → (Sure → at ≡ place_on layout) → result ≡ Ok tt → (More → IsTrue honest)
    → (More → IsTrue whole) → (More → Known) → ((all : History disk before b) × IsTurn at honest whole result moment pieces so.past all)
    → SoFar later disk before Sure More b
turned_so_far layout later {disk = disk} {before = before} {b = b} {Sure = Sure} {More = More} same so is ok honest whole less (all, turn) =
    subst (λ (l : Layout). SoFar l disk before Sure More b) (sym same) (record {
      past = all;
      gone = λ sure. still_gone layout so.past all (offers_in_turn turn)
          (subst (λ r. Continues layout so.past all (offers_in_turn turn) r) ok (turn_continues layout so.past all turn (so.gone sure) (is sure)));
      found = so.found;
      are_trusted = λ trust. still_trusted so.past all turn (so.are_trusted (less trust)) (honest trust) (whole trust);
    })

-- ---- two lives

-- the history by then, and a stop there
abbrev ended : {disk : Past} {before : List Call} {b : Now} → History disk before b → ManagerLife
ended {b = b} past = stopped (behind past) b.disk b.past

of_layout : (layout other : Layout) {disk : Past} {before : List Call} {b : Now} (past : History disk before b) → other ≡ layout → HasGoneOn other past
    → IsByDisk layout (behind past) b.disk
of_layout layout other past is gone = (stops_there layout past (subst (λ (l : Layout). HasGoneOn l past) is gone)).by_disk

module _ (outlives : (layout : Layout) (first : State) (lives : List ManagerLife) (stop : Past) (image : Image) → DiskPremises layout first lives stop → IsImage stop image → Outlives layout first lives image)
    (layout : Layout) (made : Past) (created : Images made (IsEmptyStore layout)) (read : IsImage made (seen made)) where
  one_premises : {other : Layout} {b : Now} (past : History made [] b) → other ≡ layout → HasGoneOn other past → DiskPremises layout empty_state (ended past ∷ []) b.disk
  one_premises {other} past is gone = record {
    made = made;
    empty = record { tree = refl; loaded = refl; boot = refl; clock = refl; next = refl; units = refl; pending = refl };
    created = λ image was. (created image was).store;
    follow = (record { no_other = λ image was. was; read = read }, refl);
    each = (of_layout layout other past is gone, tt);
  }

  pub instance_of : {one other : Layout} {b d : Now} {next : Past} {Sure First More Known : Type 0} → Sure → (Known → First) → (Known → More)
      → (so : SoFar one made [] Sure First b) → IsLeftBy b.disk next → (then : SoFar other next b.past Sure More d) → IsInstance layout d.disk d.past Known
  instance_of {one} {other} {b} {d} {next} sure less too so left then =
      let stands = (so.found sure).1 in
      let was : one ≡ layout = one_layout stands.format (created (seen made) read).store.stands.format one layout (seen made) stands.first (created (seen made) read).store.stands.first in
      let all = outlives layout empty_state (ended so.past ∷ []) b.disk (seen next) (one_premises so.past was (so.gone sure)) (left.no_other (seen next) left.read) in
      let there = (then.found sure).1 in
      let is : other ≡ layout = one_layout there.format all.store.stands.format other layout (seen next) there.first all.store.stands.first in
      record {
        lives = ended so.past ∷ (ended then.past ∷ []);
        disk = record {
          made = made;
          empty = record { tree = refl; loaded = refl; boot = refl; clock = refl; next = refl; units = refl; pending = refl };
          created = λ image had. (created image had).store;
          follow = (record { no_other = λ image had. had; read = read }, (left, refl));
          each = (of_layout layout one so.past was (so.gone sure), (of_layout layout other then.past is (then.gone sure), tt));
        };
        children = λ trust. record {
          before = [];
          unstarted = refl;
          follow = (refl, (refl, refl));
          each = ((so.are_trusted (less trust), ([], sym (append-nil b.past))), ((then.are_trusted (too trust), ([], sym (append-nil d.past))), tt));
        };
      }
