-- The request that the bytes of a frame are, by the parts that were read of them.
use Rattle.std.proofs.Common.{◌≡◌, ℕ, List, Bool, true, false, Option, None, Some, Err, cond, refl}
use Rattle.std.specs.Str.{IsUtf8, is_utf8}
use Rattle.std.proofs.lemmas.Str.{IsUtf8-from_is_utf8, is_utf8-from_IsUtf8}
use Rattle.serde_json.specs.Data.{Data}
use Rattle.serde_json.specs.Read.{read}
use Rattle.um_model.specs.Refusals.{bad_request}
use Rattle.um_model.specs.Requests.{request_of, request_of_data}
use Rattle.um_model.specs.declared.requests.Mode.{Mode}

pub request_of-read : (mode : Mode) (bytes : List ℕ) (d : Data) → IsUtf8 bytes → read bytes ≡ Some d → request_of mode bytes ≡ request_of_data mode d
unfolding request_of
request_of-read mode bytes d text is =
    let test = is_utf8-from_IsUtf8 bytes text in
    rw (test, is) refl

unread_at : (o : Option Data) (b : Bool) → (b ≡ true → o ≡ None) → cond b o None ≡ None
unread_at o true h = h refl
unread_at o false h = refl

pub request_of-unread : (mode : Mode) (bytes : List ℕ) → (IsUtf8 bytes → read bytes ≡ None) → request_of mode bytes ≡ Err bad_request
unfolding request_of
request_of-unread mode bytes none =
    let unread = unread_at (read bytes) (is_utf8 bytes) (λ e. none (IsUtf8-from_is_utf8 bytes e)) in
    rw unread refl
