-- The greatest generation of the whole log, from those of its places.
use Rattle.std.proofs.Common.{◌≡◌, ◌⊎◌, ◌∙◌, ◌+◌, ◌*◌, ◌<◌, ◌≤◌, ℕ, inl, inr, ⊎_elim, sym, subst, arith}
use Rattle.std.proofs.lemmas.Bool.{cases_lt}
use Rattle.um_model.specs.Disk.{Image}
use Rattle.um_model.specs.Store.{first_log_sector, area_sectors, area_start, area_end, store_sectors, top, IsOf}
use Rattle.um_model.specs.declared.layout.Format.TheVariants.{One, Two}
use Rattle.um_model.specs.declared.layout.Layout.{Layout}
use Rattle.um_laws.proofs.StoreLaws.{areas}
use Rattle.um_log.specs.Greatest.{IsTold, IsGreatestIn, IsGreatest}

-- of format 1 a generation's place is the whole log
pub one_place : (layout : Layout) (newest : ℕ) (image : Image) (here : ℕ) → IsGreatestIn One layout newest image here → IsGreatest layout image (top One newest) here
one_place layout newest image here is = record {
  least = is.least;
  none_later = λ theirs j low high of. is.none_later theirs j low (omega (arith, high)) of;
  stands = is.stands;
}

-- of format 2 the places of two generations, and the sectors past both, are
module _ (layout : Layout) (newest : ℕ) (image : Image) (here later both all : ℕ) (is_here : IsGreatestIn Two layout newest image here) (is_later : IsGreatestIn Two layout (newest + 1) image later)
    (least : (here ≤ both) × (later ≤ both)) (either : (both ≡ here) ⊎ ((both ≡ later) × (here < later))) (least_all : both ≤ all)
    (most : (theirs j : ℕ) → first_log_sector layout + 2 * area_sectors Two layout ≤ j → j < store_sectors layout → IsOf theirs (image j) → theirs ≤ all)
    (stands : (all ≡ both) ⊎ IsTold layout image all) where
  in_here : (theirs j : ℕ) → area_start Two layout newest ≤ j → j < area_end Two layout newest → IsOf theirs (image j) → theirs ≤ all
  in_here theirs j low high of = let few = is_here.none_later theirs j low high of in omega (arith, few, least.0, least_all)

  in_later : (theirs j : ℕ) → area_start Two layout (newest + 1) ≤ j → j < area_end Two layout (newest + 1) → IsOf theirs (image j) → theirs ≤ all
  in_later theirs j low high of = let few = is_later.none_later theirs j low high of in omega (arith, few, least.1, least_all)

  anywhere : (theirs j : ℕ) → first_log_sector layout ≤ j → j < store_sectors layout → IsOf theirs (image j) → theirs ≤ all
  anywhere theirs j low high of = ⊎_elim
      (λ first. ⊎_elim {C = theirs ≤ all} (λ p. in_here theirs j (omega (arith, p.0, low)) (omega (arith, p.0, first)) of) (λ p. in_later theirs j (omega (arith, p.1, low)) (omega (arith, p.1, first)) of) (areas layout newest))
      (λ not_first. ⊎_elim
      (λ second. ⊎_elim {C = theirs ≤ all} (λ p. in_later theirs j (omega (arith, p.1, not_first)) (omega (arith, p.1, second)) of) (λ p. in_here theirs j (omega (arith, p.0, not_first)) (omega (arith, p.0, second)) of) (areas layout newest))
      (λ behind. most theirs j behind high of)
      (cases_lt j (first_log_sector layout + 2 * area_sectors Two layout)))
      (cases_lt j (first_log_sector layout + area_sectors Two layout))

  of_both : (both ≡ newest + 1) ⊎ IsTold layout image both
  of_both = ⊎_elim {C = (both ≡ newest + 1) ⊎ IsTold layout image both}
      (λ same. ⊎_elim {C = (both ≡ newest + 1) ⊎ IsTold layout image both}
      (λ own. let above = is_later.least in absurd (omega (arith, same, own, least.1, above))) (λ told. inr (subst (IsTold layout image) (sym same) told)) is_here.stands)
      (λ same. ⊎_elim {C = (both ≡ newest + 1) ⊎ IsTold layout image both}
      (λ own. inl (same.0 ∙ own)) (λ told. inr (subst (IsTold layout image) (sym same.0) told)) is_later.stands)
      either

  pub three_places : IsGreatest layout image (top Two newest) all
  three_places = record {
    least = let above = is_later.least in omega (arith, above, least.1, least_all);
    none_later = anywhere;
    stands = ⊎_elim {C = (all ≡ newest + 1) ⊎ IsTold layout image all}
        (λ same. ⊎_elim {C = (all ≡ newest + 1) ⊎ IsTold layout image all} (λ next. inl (same ∙ next)) (λ told. inr (subst (IsTold layout image) (sym same) told)) of_both)
        (λ told. inr told) stands;
  }
