-- An input that isn't refused is spelled in at most 66,078 bytes: the longest puts a file at a path of a tree.
use Rattle.std.proofs.Common.{ℕ, ◌≡◌, ◌≢◌, ◌∙◌, ◌+◌, ◌≤◌, nat_lt, Bool, true, false, not, List, ◌++◌, length, Option, Some, None, is_none, Ok, refl, sym, ap, length-append, arith}
use Rattle.std.specs.Prelude.{IfSome}
use Rattle.std.specs.FinMap as map
use Rattle.std.proofs.lemmas.Bool.{leb-true, ltb-false, not-false}
use Rattle.byteorder.specs.Endian.{big_bytes}
use Rattle.byteorder.specs.Numbers.{length-bytes_high_first}
use Rattle.um_model.specs.declared.profile.Profile.{Profile}
use Rattle.um_model.specs.Bytes.{text_spelling, option_spelling, tagged}
use Rattle.um_model.specs.Refusals.{Refused, no_room, unless_refused}
use Rattle.um_model.specs.Tree.{Tree, Entry, File, Link, IsTree, path_parts, is_served, is_fit_target, is_link, is_other_than_link, is_full_for, text_limit, put_cause, put_file, link_cause, put_link, remove_cause, remove_at}
use Rattle.um_model.specs.Machine.{State, Command, PutFile, PutLink, Remove, DaemonReload, ForUnit, Cancel, ResetFailed, Install, Happening, ProcessEnded, ProcessExecuted, Tick, Booted, Event, Commanded, Happened, Input, Reply, Refusal, boot_limit, puts, links, removes, Does, TakesEffect, obeys, meets, moment_of, Step, refused, crowded_out, idle, taken}
use Rattle.um_model.specs.Service.{Action}
use Rattle.um_model.specs.Spellings.{FitUnitName, end_spelling}
use Rattle.um_model.specs.InputSpellings.{input_limit, command_fields, happening_fields, event_fields, input_spelling, FitCommand, FitHappening, FitInput, mode_tag}
use Rattle.um_model.specs.declared.service.End.{End}
use Rattle.um_model.specs.declared.service.End.TheVariants as end
use Rattle.um_model.proofs.TreeLaws.{none_of_three, none_of_four}
use Rattle.um_model.proofs.WeightLaws.{short_name, short_path, short_target, entry_short}
use Rattle.um_model.proofs.Forms.{is_fit_at, cause}

-- ---- lengths

-- a number has the bytes of its width
pub number_long : (width n : ℕ) → length (big_bytes width n) ≡ width
number_long width n = length-bytes_high_first width n

-- a text
pub text_long : (text : List ℕ) → length (text_spelling text) ≡ 4 + length text
text_long text = length-append (big_bytes 4 (length text)) text ∙ ap (λ n. n + length text) (number_long 4 (length text))

-- ---- puts, links and removals

-- a value that isn't refused has no cause of refusal
no_cause : {A : Type 0} (o : Option Refused) (a b : A) → unless_refused o a ≡ Ok b → o ≡ None
no_cause None a b e = refl
no_cause (Some r) a b e = cc

put_long : (s : State) (path text : List ℕ) (tree : Tree) → put_file s.tree path text ≡ Ok tree → length path + length text ≤ 66060
unfolding put_file
put_long s path text tree e =
    let none = no_cause (put_cause s.tree path text) (map.insert s.tree path (File text)) tree e in
    let all = none_of_four (not (is_served path)) (is_link (map.get s.tree path)) (nat_lt text_limit (length text)) (is_full_for s.tree path) _ _ _ _ none in
    let short = short_path path (path_parts path) refl (not-false (is_served path) all.0) in
    let low = ltb-false text_limit (length text) all.2 in
    omega (arith, short, low)

link_long : (s : State) (path target : List ℕ) (tree : Tree) → put_link s.tree path target ≡ Ok tree → length path + length target ≤ 66060
unfolding put_link
link_long s path target tree e =
    let none = no_cause (link_cause s.tree path target) (map.insert s.tree path (Link target)) tree e in
    let all = none_of_three (not (is_fit_target (path_parts path) target)) (is_other_than_link (map.get s.tree path) target) (is_full_for s.tree path) _ _ _ none in
    let short = short_target path target (path_parts path) refl (not-false _ all.0) in
    omega (arith, short.0, short.1)

-- a path at which something stands is short
held_long : (tree : Tree) (path : List ℕ) → IsTree tree → (o : Option Entry) → map.get tree path ≡ o → is_none o ≡ false → length path ≤ 524
held_long tree path is None at some = cc
held_long tree path is (Some entry) at some = entry_short path entry (sym (ap (is_fit_at path) at) ∙ is.fit path)

isnt_cause : (b : Bool) (r : Refused) → cause b r ≡ None → b ≡ false
isnt_cause true r e = cc
isnt_cause false r e = refl

remove_long : (s : State) (path : List ℕ) (tree : Tree) → IsTree s.tree → remove_at s.tree path ≡ Ok tree → length path ≤ 524
unfolding remove_at
remove_long s path tree is e =
    let none = no_cause (remove_cause s.tree path) (map.remove s.tree path) tree e in
    held_long s.tree path is (map.get s.tree path) refl (isnt_cause (is_none (map.get s.tree path)) _ none)

-- ---- fields

named_long : (name : List ℕ) → FitUnitName name → length (text_spelling name) ≤ 259
named_long name fit = omega (arith, text_long name, short_name name fit.1)

optional_long : (name : Option (List ℕ)) → IfSome name FitUnitName → length (option_spelling text_spelling name) ≤ 260
optional_long None fit = omega arith
optional_long (Some name) fit = omega (arith, named_long name fit)

two_long : (a b : List ℕ) → length a + length b ≤ 66060 → length (text_spelling a ++ text_spelling b) ≤ 66068
two_long a b h = omega (arith, length-append (text_spelling a) (text_spelling b), text_long a, text_long b)

-- the length of a command that takes effect
command_long : {profile : Profile} (t : ℕ) (s : State) (command : Command) (actions : List Action) (u : State) → IsTree s.tree → FitCommand command → Does profile t s command actions u
    → length (command_fields command) ≤ 66068
command_long t s (PutFile path text) actions u is fit (Does.changes (puts {tree = tree} e)) = two_long path text (put_long s path text tree e)
command_long t s (PutLink path target) actions u is fit (Does.changes (links {tree = tree} e)) = two_long path target (link_long s path target tree e)
command_long t s (Remove path) actions u is fit (Does.changes (removes {tree = tree} e)) = omega (arith, text_long path, remove_long s path tree is e)
command_long t s DaemonReload actions u is fit does = omega arith
command_long t s (ForUnit verb unit mode) actions u is fit does = omega (arith, length-append (text_spelling unit) (tagged mode_tag mode), named_long unit fit)
command_long t s (Cancel unit) actions u is fit does = omega (arith, named_long unit fit)
command_long t s (ResetFailed unit) actions u is fit does = omega (arith, optional_long unit fit)
command_long t s (Install verb unit) actions u is fit does = omega (arith, named_long unit fit)

pub end_long : (e : End) → length (end_spelling e) ≤ 2
end_long (end.Code code) = omega arith
end_long (end.Signal number) = omega arith
end_long end.Lost = omega arith

happening_long : (happening : Happening) → FitHappening happening → length (happening_fields happening) ≤ 66068
happening_long (ProcessEnded number e) fit = omega (arith, length-append (big_bytes 8 number) (end_spelling e), number_long 8 number, end_long e)
happening_long (ProcessExecuted number) fit = omega (arith, number_long 8 number)
happening_long Tick fit = omega arith
happening_long (Booted boot) fit = omega (arith, text_long boot, leb-true (length boot) boot_limit fit.1)

-- ---- the input

whole_long : (i : Input) → length (event_fields i.event) ≤ 66068 → length (input_spelling i) ≤ input_limit
whole_long i h = omega (arith, length-append (big_bytes 8 i.moment) (event_fields i.event), number_long 8 i.moment)

taken_long : {profile : Profile} (t : ℕ) (s : State) (moment : ℕ) (event : Event) (actions : List Action) (u : State) → IsTree s.tree → FitInput (record { profile = profile; moment = moment; event = event })
    → TakesEffect profile t s event actions u → length (input_spelling (record { profile = profile; moment = moment; event = event })) ≤ input_limit
taken_long {profile} t s moment event actions u is fit (obeys {command = command} {first = first} {u = v} none does settles) =
    whole_long (record { profile = profile; moment = moment; event = Commanded command }) (command_long t s command first v is fit.event does)
taken_long {profile} t s moment event actions u is fit (meets {happening = happening} effect follows) =
    whole_long (record { profile = profile; moment = moment; event = Happened happening }) (happening_long happening fit.event)

-- an input that isn't refused, in a state with a tree
pub accepted_short : (size : ℕ) (s : State) (i : Input) (reply : Reply) (actions : List Action) (t : State) → IsTree s.tree → FitInput i → Step size s i reply actions t
    → ((r : Refused) → reply ≢ Refusal r) → length (input_spelling i) ≤ input_limit
accepted_short size s i reply actions t is fit (refused {r = r} e) accepted = absurd (accepted r refl)
accepted_short size s i reply actions t is fit (crowded_out h heavy) accepted = absurd (accepted no_room refl)
accepted_short size s i reply actions t is fit (idle {profile = profile} {moment = moment} {happening = happening} e) accepted =
    whole_long (record { profile = profile; moment = moment; event = Happened happening }) (happening_long happening fit.event)
accepted_short size s i reply actions t is fit (taken {moment = moment} {event = event} {u = u} h room) accepted =
    taken_long (moment_of s moment) s moment event actions u is fit h
