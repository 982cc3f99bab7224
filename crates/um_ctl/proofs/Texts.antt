-- Objects whose members are texts: they are flat, and hold no float.
use Rattle.std.proofs.Common.{◌≡◌, ◌≤◌, ℕ, List, [], ◌∷◌, Option, Some, None, Ordering, Less, Equal, Greater, nat_cmp, false, codes, refl, sym, subst, arith}
use Rattle.std.specs.Bool.{⊤}
use Rattle.std.specs.Cmp.Lexicographic.{slice_cmp}
use Rattle.std.specs.Ordering.{match_ordering}
use Rattle.serde_json.specs.Data.{Data, Members, no_members, member, string, object, put, depth, members_depth}
use Rattle.serde_json.specs.Read.{max_depth}
use Rattle.serde_json.specs.Written.{has_float, members_have_float}
use Rattle.um_ctl.specs.Words.{argument_names, with_arguments, with_told, request_data}
use Rattle.um_model.specs.Requests.{row_of}
use Rattle.um_model.specs.declared.requests.Verb.{Verb}

-- each member is flat, and no float
abbrev pub AreTexts : Members → Type 0
AreTexts no_members = ⊤
AreTexts (member k d ms) = (depth d ≡ 0) × (has_float d ≡ false) × AreTexts ms

at_ordering : (o : Ordering) (k t l : List ℕ) (e : Data) (ms rest : Members) → AreTexts (member l e ms) → AreTexts rest
    → AreTexts (match_ordering o (member k (string t) (member l e ms)) (member l (string t) ms) (member l e rest))
at_ordering Less k t l e ms rest these others = (refl, refl, these)
at_ordering Equal k t l e ms rest (p, q, r) others = (refl, refl, r)
at_ordering Greater k t l e ms rest (p, q, r) others = (p, q, others)

pub put_texts : (k t : List ℕ) (ms : Members) → AreTexts ms → AreTexts (put k (string t) ms)
put_texts k t no_members these = (refl, refl, tt)
put_texts k t (member l e ms) (p, q, r) = at_ordering (slice_cmp nat_cmp k l) k t l e ms (put k (string t) ms) (p, q, r) (put_texts k t ms r)

pub arguments_texts : (names arguments : List (List ℕ)) (ms : Members) → AreTexts ms → AreTexts (with_arguments names arguments ms)
arguments_texts [] arguments ms these = these
arguments_texts (n ∷ ns) [] ms these = these
arguments_texts (n ∷ ns) (a ∷ more) ms these = arguments_texts ns more (put n (string a) ms) (put_texts n a ms these)

pub told_texts : (name : List ℕ) (text : Option (List ℕ)) (ms : Members) → AreTexts ms → AreTexts (with_told name text ms)
told_texts name None ms these = these
told_texts name (Some text) ms these = put_texts name text ms these

depth_of : (ms : Members) → AreTexts ms → members_depth ms ≡ 0
depth_of no_members these = refl
depth_of (member k d ms) (p, q, r) = rw (p, depth_of ms r) refl

plain_of : (ms : Members) → AreTexts ms → members_have_float ms ≡ false
plain_of no_members these = refl
plain_of (member k d ms) (p, q, r) = rw (q, plain_of ms r) refl

pub object_depth : (ms : Members) → AreTexts ms → depth (object ms) ≤ max_depth
object_depth ms these = let flat = depth_of ms these in omega arith

pub object_plain : (ms : Members) → AreTexts ms → has_float (object ms) ≡ false
object_plain ms these = plain_of ms these

-- the members of a request are texts
unfoldable pub told_members : Verb → List (List ℕ) → Option (List ℕ) → Option (List ℕ) → Members
told_members v arguments text mode =
    with_told (codes "mode") mode (with_told (codes "text") text
    (with_arguments (argument_names (row_of v)) arguments (put (codes "verb") (string (row_of v).text) no_members)))

are_texts : (v : Verb) (arguments : List (List ℕ)) (text mode : Option (List ℕ)) → AreTexts (told_members v arguments text mode)
unfolding told_members
are_texts v arguments text mode =
    let verb = put_texts (codes "verb") (row_of v).text no_members tt in
    let told = arguments_texts (argument_names (row_of v)) arguments (put (codes "verb") (string (row_of v).text) no_members) verb in
    told_texts (codes "mode") mode _ (told_texts (codes "text") text _ told)

is_object : (v : Verb) (arguments : List (List ℕ)) (text mode : Option (List ℕ))
    → request_data v arguments text mode ≡ object (told_members v arguments text mode)
unfolding told_members
is_object v arguments text mode = refl

-- the object of a request is one
pub request_depth : (v : Verb) (arguments : List (List ℕ)) (text mode : Option (List ℕ)) → depth (request_data v arguments text mode) ≤ max_depth
request_depth v arguments text mode =
    subst (λ d. depth d ≤ max_depth) (sym (is_object v arguments text mode)) (object_depth (told_members v arguments text mode) (are_texts v arguments text mode))

pub request_plain : (v : Verb) (arguments : List (List ℕ)) (text mode : Option (List ℕ)) → has_float (request_data v arguments text mode) ≡ false
request_plain v arguments text mode =
    subst (λ d. has_float d ≡ false) (sym (is_object v arguments text mode)) (object_plain (told_members v arguments text mode) (are_texts v arguments text mode))
