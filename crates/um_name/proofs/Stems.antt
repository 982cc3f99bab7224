-- The stem of any text.
use Rattle.std.proofs.Common.{◌≡◌, ◌==◌, ℕ, false, List, length, Option, None, ap, sym}
use Rattle.std.specs.Option.{option_map_or}
use Rattle.um_model.specs.Names.{suffix_of, stem_of, after_at, instance_of, is_template}
use Rattle.um_model.proofs.Forms.{stem_before}

-- a text without a suffix is its own stem
pub stem_whole : (text : List ℕ) → suffix_of text ≡ None → text ≡ stem_of text
unfolding stem_of
stem_whole text e = ap (stem_before text) (sym e)

-- a template by what follows the first `@` of the stem
pub is_template-after_at : (text : List ℕ) (o : Option (List ℕ)) → after_at (stem_of text) ≡ o → option_map_or (λ i. length i == 0) o false ≡ is_template text
unfolding instance_of
is_template-after_at text o e = ap (λ r. option_map_or (λ i. length i == 0) r false) (sym e)
