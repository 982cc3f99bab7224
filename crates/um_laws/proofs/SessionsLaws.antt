-- The readings and the output of a session over its whole life.
use Rattle.std.proofs.Common.{◌≡◌, ℕ, List, [], ◌∷◌, ◌++◌, flat_map, Bool, true, false, Option, Err, refl, sym, ap, subst, ◌∙◌, append_assoc, append-nil}
use Rattle.std.proofs.lemmas.Bool.{true≢false}
use Rattle.um_model.specs.Frames.{frame_of, BeginsWith, BeginsTooLong}
use Rattle.um_model.specs.Refusals.{too_large}
use Rattle.um_model.specs.Requests.{request_of}
use Rattle.um_model.specs.Sessions.{Session, Asked, Reads, waits, takes, refuses, Deed, Room, Feed, Read, Put, GiveUp, Take, Does, Lives, rests, goes_on, bytes_fed, readings, frames_put, bytes_taken, none, frame, AreRead, whole, cut, IsReadOf}
use Rattle.um_model.specs.declared.refusals.Limit.TheVariants.{Frame}
use Rattle.um_model.specs.declared.requests.Mode.TheVariants.{Service}
use Rattle.um_model.proofs.Forms.{asked_in}

-- more bytes after a stream leave its first frame
begins_more : (stream bytes rest more : List ℕ) → BeginsWith stream bytes rest → BeginsWith (stream ++ more) bytes (rest ++ more)
begins_more stream bytes rest more b = record {
  header = b.header;
  four = b.four;
  length_is = b.length_is;
  short = b.short;
  whole = ap (λ l. l ++ more) b.whole ∙ append_assoc b.header (bytes ++ rest) more ∙ ap (λ l. b.header ++ l) (append_assoc bytes rest more);
}

-- and a length past the limit
too_long_more : (stream more : List ℕ) → BeginsTooLong stream → BeginsTooLong (stream ++ more)
too_long_more stream more b = record {
  header = b.header;
  rest = b.rest ++ more;
  four = b.four;
  long = b.long;
  whole = ap (λ l. l ++ more) b.whole ∙ append_assoc b.header b.rest more;
}

-- a session that has failed stays so, and reads nothing
reads_none : (s t : Session) (asked : Option Asked) → s.failed ≡ true → Reads s t asked → (asked_in asked ≡ []) × (t.failed ≡ true)
reads_none s t asked h (waits why is) = (refl, ap (λ (x : Session). x.failed) is ∙ h)
reads_none s t asked h (takes ok begins is) = absurd (true≢false (sym h ∙ ok))
reads_none s t asked h (refuses ok long is) = absurd (true≢false (sym h ∙ ok))

failed_deed : (s t : Session) (deed : Deed) → s.failed ≡ true → Does s deed t → (readings deed ≡ []) × (t.failed ≡ true)
failed_deed s t Room h does = (refl, does.2 ∙ h)
failed_deed s t (Feed bytes) h does = (refl, does.2 ∙ h)
failed_deed s t (Read asked) h does = reads_none s t asked h does
failed_deed s t (Put text) h does = (refl, does.2 ∙ h)
failed_deed s t GiveUp h does = (refl, does.2)
failed_deed s t (Take bytes) h does = (refl, does.2 ∙ h)

failed_life : (s u : Session) (deeds : List Deed) → s.failed ≡ true → Lives s deeds u → (flat_map readings deeds ≡ []) × (u.failed ≡ true)
failed_life s u [] h rests = (refl, h)
failed_life s u (deed ∷ deeds) h (goes_on {t = t} does lives) =
    let now = failed_deed s t deed h does in
    let later = failed_life t u deeds now.1 lives in
    (ap (λ l. l ++ flat_map readings deeds) now.0 ∙ later.0, later.1)

-- a stream of which nothing more is read
nothing_read : (stream : List ℕ) (asked : List Asked) (u : Session) → asked ≡ [] → u.failed ≡ true → IsReadOf stream asked u
nothing_read stream asked u none_asked failed = record {
  frames = [];
  behind = stream;
  are = none;
  read = subst (λ (l : List Asked). AreRead [] stream l) (sym none_asked) whole;
  left = λ ok. absurd (true≢false (sym failed ∙ ok));
}

-- a frame was read, and then the rest
one_read : (stream bytes rest : List ℕ) (asked : List Asked) (u : Session) → BeginsWith stream bytes rest → IsReadOf rest asked u
    → IsReadOf stream (request_of Service bytes ∷ asked) u
one_read stream bytes rest asked u begins later = record {
  frames = bytes ∷ later.frames;
  behind = later.behind;
  are = frame begins later.are;
  read = read_more later.frames later.behind asked later.read;
  left = later.left;
}
  where
    read_more : (frames : List (List ℕ)) (behind : List ℕ) (asked : List Asked)
        → AreRead frames behind asked → AreRead (bytes ∷ frames) behind (request_of Service bytes ∷ asked)
    read_more frames behind asked whole = whole
    read_more frames behind asked (cut long) = cut long

-- a length past the limit was refused
refused_there : (stream : List ℕ) (asked : List Asked) (u : Session) → BeginsTooLong stream → asked ≡ [] → u.failed ≡ true
    → IsReadOf stream (Err (too_large Frame) ∷ asked) u
refused_there stream asked u long none_asked failed = record {
  frames = [];
  behind = stream;
  are = none;
  read = subst (λ (l : List Asked). AreRead [] stream (Err (too_large Frame) ∷ l)) (sym none_asked) (cut long);
  left = λ ok. absurd (true≢false (sym failed ∙ ok));
}

abbrev More : Session → List Deed → Session → Type 0
More s deeds u = IsReadOf (s.rest ++ flat_map bytes_fed deeds) (flat_map readings deeds) u

-- the same bytes are there, and nothing was read
as_before : (s t u : Session) (deeds : List Deed) → t.rest ≡ s.rest → More t deeds u → More s deeds u
as_before s t u deeds same later = subst (λ (l : List ℕ). IsReadOf (l ++ flat_map bytes_fed deeds) (flat_map readings deeds) u) same later

read_on : (s t u : Session) (deed : Deed) (deeds : List Deed) (failed : Bool) → s.failed ≡ failed → Does s deed t → Lives t deeds u → More t deeds u
    → More s (deed ∷ deeds) u
read_on s t u deed deeds true h does lives later =
    let over = failed_life s u (deed ∷ deeds) h (goes_on does lives) in
    nothing_read (s.rest ++ flat_map bytes_fed (deed ∷ deeds)) (flat_map readings (deed ∷ deeds)) u over.0 over.1
read_on s t u Room deeds false h does lives later = as_before s t u deeds does.0 later
read_on s t u (Feed bytes) deeds false h does lives later =
    let here : t.rest ≡ s.rest ++ bytes = does.0 ∙ rw h refl in
    let moved = ap (λ l. l ++ flat_map bytes_fed deeds) here ∙ append_assoc s.rest bytes (flat_map bytes_fed deeds) in
    subst (λ (l : List ℕ). IsReadOf l (flat_map readings deeds) u) moved later
read_on s t u (Read asked) deeds false h (waits why is) lives later = as_before s t u deeds (ap (λ (x : Session). x.rest) is) later
read_on s t u (Read asked) deeds false h (takes {bytes = bytes} {rest = rest} ok begins is) lives later =
    one_read (s.rest ++ flat_map bytes_fed deeds) bytes (rest ++ flat_map bytes_fed deeds) (flat_map readings deeds) u
    (begins_more s.rest bytes rest (flat_map bytes_fed deeds) begins)
    (subst (λ (l : List ℕ). IsReadOf (l ++ flat_map bytes_fed deeds) (flat_map readings deeds) u) (ap (λ (x : Session). x.rest) is) later)
read_on s t u (Read asked) deeds false h (refuses ok long is) lives later =
    let over = failed_life t u deeds (ap (λ (x : Session). x.failed) is) lives in
    refused_there (s.rest ++ flat_map bytes_fed deeds) (flat_map readings deeds) u (too_long_more s.rest (flat_map bytes_fed deeds) long) over.0 over.1
read_on s t u (Put text) deeds false h does lives later = as_before s t u deeds does.0 later
read_on s t u GiveUp deeds false h does lives later = as_before s t u deeds does.0 later
read_on s t u (Take bytes) deeds false h does lives later = as_before s t u deeds does.0 later

read_frames : (s u : Session) (deeds : List Deed) → Lives s deeds u → More s deeds u
read_frames s u [] rests = record { frames = []; behind = s.rest ++ []; are = none; read = whole; left = λ ok. append-nil s.rest }
read_frames s u (deed ∷ deeds) (goes_on {t = t} does lives) = read_on s t u deed deeds s.failed refl does lives (read_frames t u deeds lives)

-- a session reads the requests of the frames of all bytes that came, in their order
pub session_reads : (s u : Session) (deeds : List Deed) → s.rest ≡ [] → s.failed ≡ false → Lives s deeds u
    → IsReadOf (flat_map bytes_fed deeds) (flat_map readings deeds) u
session_reads s u deeds none_held ok lives =
    subst (λ (l : List ℕ). IsReadOf (l ++ flat_map bytes_fed deeds) (flat_map readings deeds) u) none_held (read_frames s u deeds lives)

-- reading puts out nothing
reads_quietly : (s t : Session) (asked : Option Asked) → Reads s t asked → t.output ≡ s.output
reads_quietly s t asked (waits why is) = ap (λ (x : Session). x.output) is
reads_quietly s t asked (takes ok begins is) = ap (λ (x : Session). x.output) is
reads_quietly s t asked (refuses ok long is) = ap (λ (x : Session). x.output) is

put_on : (s t u : Session) (deed : Deed) (deeds : List Deed) → Does s deed t
    → flat_map bytes_taken deeds ++ u.output ≡ t.output ++ flat_map frames_put deeds
    → flat_map bytes_taken (deed ∷ deeds) ++ u.output ≡ s.output ++ flat_map frames_put (deed ∷ deeds)
put_on s t u Room deeds does later = later ∙ ap (λ l. l ++ flat_map frames_put deeds) does.1
put_on s t u (Feed bytes) deeds does later = later ∙ ap (λ l. l ++ flat_map frames_put deeds) does.1
put_on s t u (Read asked) deeds does later = later ∙ ap (λ l. l ++ flat_map frames_put deeds) (reads_quietly s t asked does)
put_on s t u (Put text) deeds does later =
    later ∙ ap (λ l. l ++ flat_map frames_put deeds) does.1 ∙ append_assoc s.output (frame_of text) (flat_map frames_put deeds)
put_on s t u GiveUp deeds does later = later ∙ ap (λ l. l ++ flat_map frames_put deeds) does.1
put_on s t u (Take bytes) deeds does later =
    append_assoc bytes (flat_map bytes_taken deeds) u.output ∙ ap (λ l. bytes ++ l) (later ∙ ap (λ l. l ++ flat_map frames_put deeds) does.1)
    ∙ ap (λ l. l ++ flat_map frames_put deeds) does.3

put_out : (s u : Session) (deeds : List Deed) → Lives s deeds u → flat_map bytes_taken deeds ++ u.output ≡ s.output ++ flat_map frames_put deeds
put_out s u [] rests = sym (append-nil s.output)
put_out s u (deed ∷ deeds) (goes_on {t = t} does lives) = put_on s t u deed deeds does (put_out t u deeds lives)

-- a session puts out the frames of the replies, in their order
pub session_puts_out : (s u : Session) (deeds : List Deed) → s.output ≡ [] → Lives s deeds u
    → flat_map bytes_taken deeds ++ u.output ≡ flat_map frames_put deeds
session_puts_out s u deeds none_put lives = put_out s u deeds lives ∙ ap (λ l. l ++ flat_map frames_put deeds) none_put
