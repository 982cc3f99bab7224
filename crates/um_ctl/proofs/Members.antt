-- A text as a value.
use Rattle.std.proofs.Common.{◌≡◌, String, Global, string_bytes, rules}
use Rattle.serde_json.specs.Data.{string}
use Rattle.serde_json.specs.View.{view}
use Rattle.serde_json.specs.declared.value.Value.{String as Text, the_lemmas}

pub view-String : (s : String Global) → view (Text s) ≡ string (string_bytes s)
view-String s = search (rules, the_lemmas)
