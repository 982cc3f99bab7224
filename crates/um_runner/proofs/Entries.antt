-- The entries that are set so far, and the words of a job.
use Rattle.std.proofs.Common.{◌≡◌, ◌≢◌, ◌<◌, ℕ, ◌+◌, Bool, true, false, ◌&&◌, cond, List, [], ◌∷◌, ◌++◌, length, take, map, reverse, get_or, find, Option, Some, option_map, refl, sym, ap, subst, ◌∙◌, inl, inr}
use Rattle.std.specs.Prelude.{bytes_eq, nat_lt}
use Rattle.std.specs.List.{list_all, before_first, after_first}
use Rattle.std.specs.Process.{command_var}
use Rattle.std.specs.declared.process.command.Command.{Command}
use Rattle.std.proofs.lemmas.Bool.{cases_Bool, cond-true, cond-false, and_from, lt-ltb, true≢false}
use Rattle.std.proofs.lemmas.List.{reverse-append, map_more, take-map, length-map}
use Rattle.std.proofs.lemmas.List.Folds.{list_all-map}
use Rattle.std.proofs.lemmas.Slice.Eq.{bytes_eq-Decides}
use Rattle.um_runner.specs.RunnerSteps.{is_entry_sign, entry_value}
use Rattle.um_runner.specs.Jobs.{SetsTo, can_be_job, is_entry}

mapped_cond : {A B : Type 0} (f : A → B) (b : Bool) (x y : Option A) → option_map f (cond b x y) ≡ cond b (option_map f x) (option_map f y)
mapped_cond f true x y = refl
mapped_cond f false x y = refl

-- one entry more: of equal names the later counts
entry_more : (es : List (List ℕ)) (e name : List ℕ)
    → entry_value (es ++ e ∷ []) name ≡ cond (bytes_eq (before_first is_entry_sign e) name) (Some (after_first is_entry_sign e)) (entry_value es name)
entry_more es e name =
    ap (λ entries. option_map (λ entry. after_first is_entry_sign entry) (find (λ entry. bytes_eq (before_first is_entry_sign entry) name) entries)) (reverse-append es (e ∷ []))
    ∙ mapped_cond _ (bytes_eq (before_first is_entry_sign e) name) (Some e) (find (λ entry. bytes_eq (before_first is_entry_sign entry) name) (reverse es))

sets_more : {A : Type 0} (es : List (List ℕ)) (e : List ℕ) (a b : Command A) → ((name : List ℕ) → command_var a name ≡ option_map Some (entry_value es name))
    → SetsTo (before_first is_entry_sign e) (after_first is_entry_sign e) a b
    → (name : List ℕ) → command_var b name ≡ option_map Some (entry_value (es ++ e ∷ []) name)
sets_more es e a b so_far sets name = elim (cases_Bool (bytes_eq (before_first is_entry_sign e) name)) [
  | inl same ↦
      let is = (bytes_eq-Decides (before_first is_entry_sign e) name).0 same in
      ap (command_var b) (sym is) ∙ sets.0 ∙ sym (ap (option_map Some) (entry_more es e name ∙ cond-true _ _ _ same))
  | inr other ↦
      let never : name ≢ before_first is_entry_sign e = λ is. true≢false (sym ((bytes_eq-Decides (before_first is_entry_sign e) name).1 (sym is)) ∙ other) in
      sets.1 name never ∙ so_far name ∙ sym (ap (option_map Some) (entry_more es e name ∙ cond-false _ _ _ other))
]

-- the next entry is set
pub sets_next : {A X : Type 0} (f : X → List ℕ) (xs : List X) (i : ℕ) (x : X) (e : List ℕ) (a b : Command A) → i < length xs → get_or xs i x ≡ x → e ≡ f x
    → ((name : List ℕ) → command_var a name ≡ option_map Some (entry_value (map f (take i xs)) name))
    → SetsTo (before_first is_entry_sign e) (after_first is_entry_sign e) a b
    → (name : List ℕ) → command_var b name ≡ option_map Some (entry_value (map f (take (i + 1) xs)) name)
sets_next f xs i x e a b below here is so_far sets name =
    sets_more (map f (take i xs)) e a b so_far sets name
    ∙ ap (λ es. option_map Some (entry_value es name)) (ap (λ y. map f (take i xs) ++ y ∷ []) (is ∙ ap f (sym here)) ∙ sym (map_more f xs i x below))

-- one is not an entry
pub no_job : {X : Type 0} (f : X → List ℕ) (count : ℕ) (xs : List X) → list_all (λ x. is_entry (f x)) (take count xs) ≡ false → can_be_job count (map f xs) ≡ false
no_job f count xs other =
    let all = ap (list_all is_entry) (take-map f count xs) ∙ list_all-map is_entry f (take count xs) ∙ other in
    ap (λ b. nat_lt count (length (map f xs)) && b) all ∙ never (nat_lt count (length (map f xs)))
  where
    never : (b : Bool) → (b && false) ≡ false
    never true = refl
    never false = refl

-- the words can be a job
pub can_be : {X : Type 0} (f : X → List ℕ) (count : ℕ) (xs : List X) → count < length xs → list_all (λ x. is_entry (f x)) (take count xs) ≡ true
    → can_be_job count (map f xs) ≡ true
can_be f count xs below all =
    and_from _ _ (lt-ltb count (length (map f xs)) (subst (λ n. count < n) (sym (length-map xs f)) below))
    (ap (list_all is_entry) (take-map f count xs) ∙ list_all-map is_entry f (take count xs) ∙ all)
