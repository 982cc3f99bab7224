-- The fields of a state, put and read one after the other.
use Rattle.std.proofs.Common.{◌≡◌, ℕ, Bool, true, false, cond, List, [], ◌∷◌, ◌++◌, drop, append_assoc, Some, None, refl, sym, ap, ◌∙◌}
use Rattle.std.specs.Option.{option_map}
use Rattle.um_model.specs.Bytes.{Decoder, pair_at}
use Rattle.um_model.specs.Spellings.{profile_at, moment_at, next_at}
use Rattle.um_model.specs.StateSpellings.{StateFields, boot_at, is_sound, pending_at, state_at, state_of, tree_at, units_at}
use Rattle.um_model.specs.InputSpellings.{happening_fields}
use Rattle.um_model.specs.Machine.{ProcessExecuted, State}

-- the fields that follow a mark, one after the other
pub behind_mark : (m : ℕ) (old a b c d e f g : List ℕ) → (((((((old ++ m ∷ []) ++ a) ++ b) ++ c) ++ d) ++ e) ++ f) ++ g ≡ old ++ m ∷ (a ++ (b ++ (c ++ (d ++ (e ++ (f ++ g))))))
behind_mark m old a b c d e f g =
    let front = old ++ m ∷ [] in
    append_assoc (((((front ++ a) ++ b) ++ c) ++ d) ++ e) f g
    ∙ (append_assoc ((((front ++ a) ++ b) ++ c) ++ d) e (f ++ g)
    ∙ (append_assoc (((front ++ a) ++ b) ++ c) d (e ++ (f ++ g))
    ∙ (append_assoc ((front ++ a) ++ b) c (d ++ (e ++ (f ++ g)))
    ∙ (append_assoc (front ++ a) b (c ++ (d ++ (e ++ (f ++ g))))
    ∙ (append_assoc front a (b ++ (c ++ (d ++ (e ++ (f ++ g)))))
    ∙ append_assoc old (m ∷ []) (a ++ (b ++ (c ++ (d ++ (e ++ (f ++ g)))))))))))

-- a number in eight bytes, as that of a process is spelled
abbrev pub eight_bytes : ℕ → List ℕ
eight_bytes n = happening_fields (ProcessExecuted n)

-- the fields in order
abbrev pub fields_at : Decoder StateFields
fields_at =
    pair_at profile_at (pair_at tree_at (pair_at tree_at (pair_at boot_at (pair_at moment_at (pair_at next_at (pair_at units_at pending_at))))))

-- they are a state if they fit together, and none otherwise; so the result is the state if it is sound
module _ (bytes : List ℕ) (f : StateFields) (n : ℕ) (read : fields_at bytes ≡ Some (f, drop n bytes)) where
  either : (b : Bool) → is_sound (state_of f) ≡ b → state_at bytes ≡ option_map (λ s. (s, drop n bytes)) (cond b (Some (state_of f)) None)
  either true sound = rw (read, sound) refl
  either false sound = rw (read, sound) refl

  pub found_here : (s : State) → s ≡ state_of f → state_at bytes ≡ option_map (λ t. (t, drop n bytes)) (cond (is_sound s) (Some s) None)
  found_here s same = either (is_sound (state_of f)) refl ∙ ap (λ t. option_map (λ u. (u, drop n bytes)) (cond (is_sound t) (Some t) None)) (sym same)

-- nor is there one where they aren't there
pub no_fields : (bytes : List ℕ) → fields_at bytes ≡ None → state_at bytes ≡ None
no_fields bytes read = rw read refl
