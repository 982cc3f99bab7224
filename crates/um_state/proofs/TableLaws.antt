-- The value of a name in a list of rows in the order of their names, and its value after a row is set.
use Rattle.std.proofs.Common.{◌≡◌, ◌≢◌, ◌∙◌, ◌<◌, ◌≤◌, ℕ, zero, suc, Bool, true, false, cond, List, [], ◌∷◌, length, set, get_or, nat_lt, refl, sym, ap, subst, inl, inr, arith}
use Rattle.std.specs.Cmp.Lexicographic.{slice_cmp}
use Rattle.std.specs.Ordering.{nat_cmp, eq_by_cmp}
use Rattle.std.proofs.lemmas.Bool.Decides.{Decides-ltb}
use Rattle.std.proofs.lemmas.List.{get_or_default}
use Rattle.um_name.specs.Names.{name_at, IsApart, AreAscending}
use Rattle.um_name.proofs.NumberLaws.{AreOnce, names_once, same_name}
use Rattle.um_model.specs.Service.{ByUnit}
use Rattle.um_model.specs.Standing.{Table}
use Rattle.um_state.specs.Tables.{by_names, put_at}
use Rattle.um_model.proofs.UnitLaws.{IsTidy, same_tidy, tidy_empty, alike, unlike}
use Rattle.um_state.proofs.PutLaws.{look, Puts, look_empty}

pub once_later : (n : List ℕ) (ns : List (List ℕ)) → AreOnce (n ∷ ns) → AreOnce ns
once_later n ns once i j h k e = let same = once (suc i) (suc j) (omega arith) (omega arith) e in omega (arith, same)

pub first_apart : (n : List ℕ) (ns : List (List ℕ)) → AreOnce (n ∷ ns) → (i : ℕ) → i < length ns → n ≢ name_at ns i
first_apart n ns once i h e = let same = once 0 (suc i) (omega arith) (omega arith) e in omega (arith, same)

module _ {A : Type 0} (nothing : A) (put : ByUnit A → List ℕ → A → ByUnit A) (puts : Puts nothing put) where
  pub here : (m : ByUnit A) (k : List ℕ) (x : A) → look nothing (put m k x) k ≡ x
  here m k x = puts.after m k x k ∙ ap (λ b. cond b x (look nothing m k)) (alike k)

  pub apart : (m : ByUnit A) (k : List ℕ) (x : A) (q : List ℕ) → q ≢ k → look nothing (put m k x) q ≡ look nothing m q
  apart m k x q other = puts.after m k x q ∙ ap (λ b. cond b x (look nothing m q)) (unlike q k other)

  chosen : (b : Bool) (x y z : A) → (b ≡ true → y ≡ x) → cond b x (cond b z y) ≡ y
  chosen true x y z e = sym (e refl)
  chosen false x y z e = refl

  at_same : (m : ByUnit A) (k q : List ℕ) (x : A) → x ≡ look nothing m k → eq_by_cmp (slice_cmp nat_cmp) q k ≡ true → look nothing m q ≡ x
  at_same m k q x e t = elim (same_name q k) as (λ _. look nothing m q ≡ x) [
    | inl is ↦ ap (look nothing m) is ∙ sym e
    | inr other ↦ absurd (differ (sym t ∙ unlike q k other))
  ]
    where
      differ : true ≡ false → ⊥
      differ e = cc

  -- the old value, put back, undoes a put
  pub put_back : (m : ByUnit A) (k : List ℕ) (x y : A) → IsTidy nothing m → y ≡ look nothing m k → put (put m k x) k y ≡ m
  put_back m k x y t e = same_tidy nothing (put (put m k x) k y) m (puts.tidy (put m k x) k y (puts.tidy m k x t)) t (λ q.
      puts.after (put m k x) k y q ∙ (ap (cond (eq_by_cmp (slice_cmp nat_cmp) q k) y) (puts.after m k x q)
      ∙ chosen (eq_by_cmp (slice_cmp nat_cmp) q k) y (look nothing m q) x (at_same m k q y e)))

  twice : (b : Bool) (x y z : A) → cond b x (cond b y z) ≡ cond b x z
  twice true x y z = refl
  twice false x y z = refl

  -- of two puts under one name the last stands
  pub put_over : (m : ByUnit A) (k : List ℕ) (x y : A) → IsTidy nothing m → put (put m k x) k y ≡ put m k y
  put_over m k x y t = same_tidy nothing (put (put m k x) k y) (put m k y) (puts.tidy (put m k x) k y (puts.tidy m k x t)) (puts.tidy m k y t) (λ q.
      puts.after (put m k x) k y q ∙ (ap (cond (eq_by_cmp (slice_cmp nat_cmp) q k) y) (puts.after m k x q)
      ∙ (twice (eq_by_cmp (slice_cmp nat_cmp) q k) y x (look nothing m q) ∙ sym (puts.after m k y q))))

  either : (b c : Bool) (x y z : A) → (b ≡ true → c ≡ true → ⊥) → cond b x (cond c y z) ≡ cond c y (cond b x z)
  either true true x y z h = absurd (h refl refl)
  either true false x y z h = refl
  either false c x y z h = refl

  not_both : (q k l : List ℕ) → k ≢ l → eq_by_cmp (slice_cmp nat_cmp) q k ≡ true → eq_by_cmp (slice_cmp nat_cmp) q l ≡ true → ⊥
  not_both q k l other t s = elim (same_name q k) as (λ _. ⊥) [
    | inl is ↦ no (sym s ∙ unlike q l (λ e. other (sym is ∙ e)))
    | inr not_k ↦ no (sym t ∙ unlike q k not_k)
  ]
    where
      no : true ≡ false → ⊥
      no e = cc

  -- puts under two names may change places
  pub put_swap : (m : ByUnit A) (k l : List ℕ) (x y : A) → k ≢ l → IsTidy nothing m → put (put m k x) l y ≡ put (put m l y) k x
  put_swap m k l x y other t = same_tidy nothing (put (put m k x) l y) (put (put m l y) k x) (puts.tidy _ l y (puts.tidy m k x t)) (puts.tidy _ k x (puts.tidy m l y t)) (λ q.
      puts.after (put m k x) l y q ∙ (ap (cond (eq_by_cmp (slice_cmp nat_cmp) q l) y) (puts.after m k x q)
      ∙ (either (eq_by_cmp (slice_cmp nat_cmp) q l) (eq_by_cmp (slice_cmp nat_cmp) q k) y x (look nothing m q) (λ s r. not_both q k l other r s)
      ∙ (ap (cond (eq_by_cmp (slice_cmp nat_cmp) q k) x) (sym (puts.after m l y q)) ∙ sym (puts.after (put m l y) k x q)))))

  pub by_tidy : (names : List (List ℕ)) (rows : List A) → IsTidy nothing (by_names put names rows)
  by_tidy [] rows = tidy_empty nothing
  by_tidy (n ∷ ns) [] = tidy_empty nothing
  by_tidy (n ∷ ns) (r ∷ rows) = puts.tidy (by_names put ns rows) n r (by_tidy ns rows)

  -- the value of the name with a number
  pub by_at : (names : List (List ℕ)) (rows : List A) → AreOnce names → (i : ℕ) → i < length names → look nothing (by_names put names rows) (name_at names i) ≡ get_or rows i nothing
  by_at [] rows once i h = absurd (omega arith)
  by_at (n ∷ ns) [] once i h = look_empty nothing (name_at (n ∷ ns) i)
  by_at (n ∷ ns) (r ∷ rows) once zero h = here (by_names put ns rows) n r
  by_at (n ∷ ns) (r ∷ rows) once (suc i) h =
      apart (by_names put ns rows) n r (name_at ns i) (λ e. first_apart n ns once i (omega arith) (sym e)) ∙ by_at ns rows (once_later n ns once) i (omega arith)

  -- and of another name
  pub by_none : (names : List (List ℕ)) (rows : List A) (x : List ℕ) → IsApart names x → look nothing (by_names put names rows) x ≡ nothing
  by_none [] rows x a = look_empty nothing x
  by_none (n ∷ ns) [] x a = look_empty nothing x
  by_none (n ∷ ns) (r ∷ rows) x a = apart (by_names put ns rows) n r x (λ e. a 0 (omega arith) (sym e)) ∙ by_none ns rows x (λ i h. a (suc i) (omega arith))

  -- a row that is set is put under its name
  pub by_set : (names : List (List ℕ)) (rows : List A) → AreOnce names → length rows ≡ length names → (i : ℕ) (x : A) → i < length names
      → by_names put names (set rows i x) ≡ put (by_names put names rows) (name_at names i) x
  by_set [] rows once l i x h = absurd (omega arith)
  by_set (n ∷ ns) [] once l i x h = absurd (omega (arith, l))
  by_set (n ∷ ns) (r ∷ rows) once l zero x h = sym (put_over (by_names put ns rows) n r x (by_tidy ns rows))
  by_set (n ∷ ns) (r ∷ rows) once l (suc i) x h =
      ap (λ m. put m n r) (by_set ns rows (once_later n ns once) (omega (arith, l)) i x (omega arith))
      ∙ put_swap (by_names put ns rows) (name_at ns i) n x r (λ e. first_apart n ns once i (omega arith) (sym e)) (by_tidy ns rows)

  pub put_within : (names : List (List ℕ)) (m : ByUnit A) (i : ℕ) (x : A) → i < length names → put_at put names m i x ≡ put m (name_at names i) x
  put_within names m i x h = ap (λ b. cond b (put m (name_at names i) x) m) ((Decides-ltb i (length names)).1 h)

  past : (b : Bool) (n i : ℕ) → nat_lt i n ≡ b → n ≤ i → nat_lt i n ≡ false
  past true n i e h = let k : i < n = (Decides-ltb i n).0 e in absurd (omega (arith, k, h))
  past false n i e h = e

  pub put_past : (names : List (List ℕ)) (m : ByUnit A) (i : ℕ) (x : A) → length names ≤ i → put_at put names m i x ≡ m
  put_past names m i x h = ap (λ b. cond b (put m (name_at names i) x) m) (past _ (length names) i refl h)

  -- a row that is set in a table
  pub row_set : (names : List (List ℕ)) (rows : List A) → AreAscending names → length rows ≡ length names → (i : ℕ) (x : A) → i < length rows
      → by_names put names (set rows i x) ≡ put_at put names (by_names put names rows) i x
  row_set names rows sorted l i x h =
      let within : i < length names = omega (arith, l, h) in
      by_set names rows (names_once names sorted) l i x within ∙ sym (put_within names (by_names put names rows) i x within)

  -- and the old value, put back
  pub row_back : (names : List (List ℕ)) (rows : List A) → AreAscending names → length rows ≡ length names → (i : ℕ) (x y : A) → i < length rows → y ≡ get_or rows i nothing
      → put_at put names (by_names put names (set rows i x)) i y ≡ by_names put names rows
  row_back names rows sorted l i x y h e =
      let within : i < length names = omega (arith, l, h) in
      let once = names_once names sorted in
      put_within names (by_names put names (set rows i x)) i y within
      ∙ (ap (λ m. put m (name_at names i) y) (by_set names rows once l i x within)
      ∙ put_back (by_names put names rows) (name_at names i) x y (by_tidy names rows) (e ∙ sym (by_at names rows once i within)))

  -- ---- the same, of a table that is seen as these names and rows

  module _ (t : Table A) (names : List (List ℕ)) (rows : List A) (seen : record { names = names; held = by_names put names rows } ≡ t) (sorted : AreAscending names) where
    pub told_at : (i : ℕ) (k : List ℕ) (x : A) → i < length names → i < length rows → name_at names i ≡ k → x ≡ get_or rows i x → x ≡ look nothing t.held k
    told_at i k x h l e g =
        g ∙ (get_or_default rows i x nothing l ∙ (sym (by_at names rows (names_once names sorted) i h) ∙ (ap (look nothing (by_names put names rows)) e
        ∙ ap (λ (u : Table A). look nothing u.held k) seen)))

    pub told_none : (k : List ℕ) → IsApart names k → nothing ≡ look nothing t.held k
    told_none k a = sym (by_none names rows k a) ∙ ap (λ (u : Table A). look nothing u.held k) seen

    pub tidy_table : IsTidy nothing t.held
    tidy_table = subst (λ (u : Table A). IsTidy nothing u.held) seen (by_tidy names rows)

    pub swap_held : (i : ℕ) (x y : A) → length rows ≡ length names → i < length rows → y ≡ x → by_names put names (set rows i y) ≡ put_at put t.names t.held i x
    swap_held i x y l h e =
        ap (λ z. by_names put names (set rows i z)) e ∙ (row_set names rows sorted l i x h ∙ ap (λ (u : Table A). put_at put u.names u.held i x) seen)

    pub swap_back : (i : ℕ) (x y z : A) → length rows ≡ length names → i < length rows → y ≡ z → z ≡ get_or rows i z
        → put_at put names (by_names put names (set rows i x)) i y ≡ t.held
    swap_back i x y z l h g e =
        row_back names rows sorted l i x y h (g ∙ (e ∙ get_or_default rows i z nothing h)) ∙ ap (λ (u : Table A). u.held) seen

    pub swap_past : (i : ℕ) (x : A) → length rows ≡ length names → length rows ≤ i → put_at put t.names t.held i x ≡ t.held
    swap_past i x l h = subst (λ (u : Table A). put_at put u.names u.held i x ≡ u.held) seen (put_past names (by_names put names rows) i x (omega (arith, l, h)))
