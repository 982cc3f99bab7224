use Rattle.std.proofs.Common.{◌≡◌, List, ℕ, Result, Ok, Err, String, Vec, Global, IfOk, IsOk, string_bytes, option_map, sym, ap, subst}
use Rattle.std.specs.Result.{result_ok}
use Rattle.std.specs.String.{string_vec}
use Rattle.std.specs.Str.{IsUtf8}
use Rattle.std.proofs.lemmas.Str.{IsUtf8-string_bytes}
use Rattle.std.proofs.lemmas.Bool.{false≢true}
use Rattle.um_model.specs.Names.{unescape_front}
use Rattle.um_model.specs.Specifiers.{StandsForBytes}
use Rattle.um_model.specs.Specifiers.{IsUnescaped}
use Rattle.um_model.proofs.PiecesLaws.{one_reading}
use Rattle.um_spec.proofs.expansion.unescaped.Goals as goal

bytes_of : {E : Type 0} (bytes : Vec ℕ Global) (r : Result (String Global) E) → IfOk r (λ t. string_vec t ≡ bytes) → IfOk r (λ t. string_bytes t ≡ bytes.items)
bytes_of bytes (Ok t) same = ap (λ v. v.items) same
bytes_of bytes (Err e) same = tt

-- the bytes that the escapes stand for, as a text if they are one
read : {E : Type 0} (escaped bytes : List ℕ) (r : Result (String Global) E) → StandsForBytes escaped bytes → IfOk r (λ t. string_bytes t ≡ bytes) → (IsUtf8 bytes → IsOk r)
    → IsUnescaped escaped (option_map string_bytes (result_ok r))
read escaped bytes (Ok t) stands same succeeds = (subst (StandsForBytes escaped) (sym same) stands, IsUtf8-string_bytes t)
read escaped bytes (Err e) stands same succeeds = λ other means utf8.
    absurd (false≢true (succeeds (subst IsUtf8 (one_reading unescape_front escaped other bytes means stands) utf8)))

pub returns-in-Some : goal.returns-in-Some
returns-in-Some c =
    let stands : StandsForBytes c.args.instance.now c.in-Some.bytes.items = rw c.in-Some.is at c.in_ok-bytes.ensures in
    rw c.ok.ensures.value (read c.args.instance.now c.in-Some.bytes.items c.from_utf8.result stands (bytes_of c.in-Some.bytes c.from_utf8.result c.from_utf8.ensures.ok) c.from_utf8.ensures.succeeds)
