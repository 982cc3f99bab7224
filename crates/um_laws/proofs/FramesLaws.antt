-- A stream has one reading as frames, and one list of bytes is written for it, frame by frame, but for the cycles that refusals name.
use Rattle.std.proofs.Common.{◌≡◌, ℕ, zero, suc, ◌+◌, ◌-◌, ◌<◌, ◌≤◌, ◌⊎◌, inl, inr, List, ◌∷◌, ◌++◌, [], length, take, drop, Result, Ok, Err, refl, sym, ap, ◌∙◌, subst, arith, length-append, take-append-drop}
use Rattle.std.proofs.Math.Seq.{take-append_seam, drop-append_seam}
use Rattle.std.proofs.lemmas.List.{length-take-le, length-drop}
use Rattle.std.proofs.lemmas.Bool.{cases_lt}
use Rattle.byteorder.specs.Endian.{big_number}
use Rattle.um_model.specs.Frames.{frame_of, frame_limit, BeginsWith, IsPartial, in_header, in_body, BeginsTooLong, EndsSo, IsStream, ends, frame, Answers, unread, queried, told, stepped, input_of, last_reply, AreReplies, last, reply, Serves}
use Rattle.um_model.specs.Machine.{State, Reply, Refusal, IsReplyTo, Step}
use Rattle.um_model.specs.Refusals.{Refused}
use Rattle.um_model.specs.Replies.{reply_text}
use Rattle.um_model.specs.Requests.{Request, request_of}
use Rattle.um_model.specs.Service.{Action}
use Rattle.um_model.specs.declared.frames.Ending.{Ending}
use Rattle.um_model.specs.declared.frames.Ending.TheVariants.{Between, Inside, TooLong}
use Rattle.um_model.specs.declared.requests.Mode.TheVariants.{Memory}
use Rattle.um_model.specs.Outcomes.{AlikeBut, the_same, AreAlikeBut, at_last, and_reply}
use Rattle.um_laws.proofs.MachineLaws.{one_outcome, one_reply_to}

-- ---- one reading

-- of two ways to cut a list with fronts of one length, the parts are the same
same_parts : (a b x y : List ℕ) → length a ≡ length b → a ++ x ≡ b ++ y → (a ≡ b) × (x ≡ y)
same_parts a b x y len e = (
  sym (take-append_seam a x) ∙ ap (λ n. take n (a ++ x)) len ∙ ap (take (length b)) e ∙ take-append_seam b y,
  sym (drop-append_seam a x) ∙ ap (λ n. drop n (a ++ x)) len ∙ ap (drop (length b)) e ∙ drop-append_seam b y,
)

-- a stream begins with one frame
one_frame : (stream b c r q : List ℕ) → BeginsWith stream b r → BeginsWith stream c q → (b ≡ c) × (r ≡ q)
one_frame stream b c r q x y =
    let head = same_parts x.header y.header (b ++ r) (c ++ q) (x.four ∙ sym y.four) (sym x.whole ∙ y.whole) in
    same_parts b c r q (sym x.length_is ∙ ap (big_number 4) head.0 ∙ y.length_is) head.1

-- a stream with a header has four bytes or more
four_bytes : (stream header rest : List ℕ) → length header ≡ 4 → stream ≡ header ++ rest → 4 ≤ length stream
four_bytes stream header rest four whole =
    let size : length stream ≡ length header + length rest = ap length whole ∙ length-append header rest in
    omega arith

not_partial : (stream b r : List ℕ) → BeginsWith stream b r → ¬ IsPartial stream
not_partial stream b r x (in_header some few) =
    let many = four_bytes stream x.header (b ++ r) x.four x.whole in
    omega arith
not_partial stream b r x (in_body header body four low short whole) =
    let head = same_parts x.header header (b ++ r) body (x.four ∙ sym four) (sym x.whole ∙ whole) in
    let size : big_number 4 header ≡ length b = ap (big_number 4) (sym head.0) ∙ x.length_is in
    let few : length body < length b = subst (λ n. length body < n) size short in
    let many : length body ≡ length b + length r = ap length (sym head.1) ∙ length-append b r in
    omega arith

not_too_long : (stream b r : List ℕ) → BeginsWith stream b r → ¬ BeginsTooLong stream
not_too_long stream b r x y =
    let head = same_parts x.header y.header (b ++ r) y.rest (x.four ∙ sym y.four) (sym x.whole ∙ y.whole) in
    let size : big_number 4 y.header ≡ length b = ap (big_number 4) (sym head.0) ∙ x.length_is in
    let long : frame_limit < length b = subst (λ n. frame_limit < n) size y.long in
    let short = x.short in
    omega arith

-- a stream that begins with a frame doesn't end there
not_over : (stream b r : List ℕ) (ending : Ending) → BeginsWith stream b r → ¬ EndsSo stream ending
not_over stream b r Between x over =
    let many = four_bytes stream x.header (b ++ r) x.four x.whole in
    let none : length stream ≡ 0 = ap length over in
    omega arith
not_over stream b r Inside x over = not_partial stream b r x over
not_over stream b r TooLong x over = not_too_long stream b r x over

empty_isnt_partial : (stream : List ℕ) → stream ≡ [] → ¬ IsPartial stream
empty_isnt_partial stream e (in_header some few) =
    let none : length stream ≡ 0 = ap length e in
    omega arith
empty_isnt_partial stream e (in_body header body four low short whole) =
    let many = four_bytes stream header body four whole in
    let none : length stream ≡ 0 = ap length e in
    omega arith

empty_isnt_too_long : (stream : List ℕ) → stream ≡ [] → ¬ BeginsTooLong stream
empty_isnt_too_long stream e x =
    let many = four_bytes stream x.header x.rest x.four x.whole in
    let none : length stream ≡ 0 = ap length e in
    omega arith

partial_isnt_too_long : (stream : List ℕ) → IsPartial stream → ¬ BeginsTooLong stream
partial_isnt_too_long stream (in_header some few) x =
    let many = four_bytes stream x.header x.rest x.four x.whole in
    omega arith
partial_isnt_too_long stream (in_body header body four low short whole) x =
    let head = same_parts x.header header x.rest body (x.four ∙ sym four) (sym x.whole ∙ whole) in
    let long : frame_limit < big_number 4 header = subst (λ h. frame_limit < big_number 4 h) head.0 x.long in
    omega arith

-- a stream ends in one way
one_ending : (stream : List ℕ) (d e : Ending) → EndsSo stream d → EndsSo stream e → d ≡ e
one_ending stream Between Between h k = refl
one_ending stream Between Inside h k = absurd (empty_isnt_partial stream h k)
one_ending stream Between TooLong h k = absurd (empty_isnt_too_long stream h k)
one_ending stream Inside Between h k = absurd (empty_isnt_partial stream k h)
one_ending stream Inside Inside h k = refl
one_ending stream Inside TooLong h k = absurd (partial_isnt_too_long stream h k)
one_ending stream TooLong Between h k = absurd (empty_isnt_too_long stream k h)
one_ending stream TooLong Inside h k = absurd (partial_isnt_too_long stream k h)
one_ending stream TooLong TooLong h k = refl

-- a stream has one reading
pub one_stream : (stream : List ℕ) (f g : List (List ℕ)) (d e : Ending) → IsStream stream f d → IsStream stream g e → (f ≡ g) × (d ≡ e)
one_stream stream f g d e (ends h) (ends k) = (refl, one_ending stream d e h k)
one_stream stream f g d e (ends h) (frame {rest = rest} {bytes = bytes} b k) = absurd (not_over stream bytes rest d b h)
one_stream stream f g d e (frame {rest = rest} {bytes = bytes} b h) (ends k) = absurd (not_over stream bytes rest e b k)
one_stream stream f g d e (frame {rest = r} {bytes = x} {frames = fs} b h) (frame {rest = q} {bytes = y} {frames = gs} c k) =
    let head = one_frame stream x y r q b c in
    let later = one_stream r fs gs d e h (subst (λ s. IsStream s gs e) (sym head.1) k) in
    (ap (λ z. z ∷ fs) head.0 ∙ ap (λ zs. y ∷ zs) later.0, later.1)

-- ---- a reading of each stream

abbrev StreamRead : List ℕ → Type 0
StreamRead stream = (frames : List (List ℕ)) × (ending : Ending) × IsStream stream frames ending

-- after a length within the limit
body_read : (stream header rest : List ℕ) (size : ℕ) → length header ≡ 4 → big_number 4 header ≡ size → size ≤ frame_limit → stream ≡ header ++ rest
    → ((more : List ℕ) → length more ≤ length rest → StreamRead more) → (length rest < size) ⊎ (size ≤ length rest) → StreamRead stream
body_read stream header rest size four is low whole read (inl few) =
    ([], Inside, ends (in_body header rest four (subst (λ n. n ≤ frame_limit) (sym is) low) (subst (λ n. length rest < n) (sym is) few) whole))
body_read stream header rest size four is low whole read (inr many) =
    let later = read (drop size rest) (let left = length-drop size rest in omega arith) in
    let len : length (take size rest) ≡ size = length-take-le size rest many in (
      take size rest ∷ later.0,
      later.1,
      frame (record {
        header = header;
        four = four;
        length_is = is ∙ sym len;
        short = subst (λ n. n ≤ frame_limit) (sym len) low;
        whole = whole ∙ ap (λ l. header ++ l) (sym (take-append-drop size rest));
      }) later.2,
    )

behind_length : (stream header rest : List ℕ) (size : ℕ) → length header ≡ 4 → big_number 4 header ≡ size → stream ≡ header ++ rest
    → ((more : List ℕ) → length more ≤ length rest → StreamRead more) → (frame_limit < size) ⊎ (size ≤ frame_limit) → StreamRead stream
behind_length stream header rest size four is whole read (inl long) =
    ([], TooLong, ends (record { header = header; rest = rest; four = four; long = subst (λ n. frame_limit < n) (sym is) long; whole = whole }))
behind_length stream header rest size four is whole read (inr low) = body_read stream header rest size four is low whole read (cases_lt (length rest) size)

-- a stream with at least one byte: part of a length, or a length and the bytes after it
past_header : (n : ℕ) (stream : List ℕ) → length stream ≤ suc n → ((more : List ℕ) → length more ≤ n → StreamRead more)
    → 0 < length stream → (length stream < 4) ⊎ (4 ≤ length stream) → StreamRead stream
past_header n stream h read some (inl few) = ([], Inside, ends (in_header some few))
past_header n stream h read some (inr many) =
    let rest = drop 4 stream in
    let left : length rest ≡ length stream - 4 = length-drop 4 stream in
    behind_length stream (take 4 stream) rest (big_number 4 (take 4 stream)) (length-take-le 4 stream many) refl (sym (take-append-drop 4 stream))
    (λ more small. read more (omega arith)) (cases_lt frame_limit (big_number 4 (take 4 stream)))

read_within : (n : ℕ) (stream : List ℕ) → length stream ≤ n → StreamRead stream
read_within n [] h = ([], Between, ends refl)
read_within zero (b ∷ bs) h = absurd (omega arith)
read_within (suc n) (b ∷ bs) h = past_header n (b ∷ bs) h (read_within n) (omega arith) (cases_lt (length (b ∷ bs)) 4)

-- each stream has a reading
pub each_stream : (stream : List ℕ) → (frames : List (List ℕ)) × (ending : Ending) × IsStream stream frames ending
each_stream stream = read_within (length stream) stream (omega arith)

-- ---- the bytes that are written

-- two answers are one, but for the cycle that a refusal names
pub record IsSameAnswer (r q : Reply) (s t : State) (a b : List Action) : Type 0 where
  pub reply : AlikeBut r q
  pub state : s ≡ t
  pub kept : a ≡ b

-- the bytes of a frame are one request, or none
same_request : (r : Result Request Refused) (x y : Request) → r ≡ Ok x → r ≡ Ok y → x ≡ y
same_request r x y e f = cc

same_refusal : (r : Result Request Refused) (x y : Refused) → r ≡ Err x → r ≡ Err y → x ≡ y
same_refusal r x y e f = cc

not_both : (r : Result Request Refused) (x : Request) (y : Refused) → r ≡ Ok x → ¬ (r ≡ Err y)
not_both r x y e f = cc

-- and have one subject
same_asked : (r : Result Request Refused) (x y : Request) → r ≡ Ok x → r ≡ Ok y → x.asked ≡ y.asked
same_asked r x y e f = ap (λ (z : Request). z.asked) (same_request r x y e f)

-- a frame has one answer, but for the cycle that a refusal names
pub one_answer : (size : ℕ) (s : State) (kept : List Action) (bytes : List ℕ) (r q : Reply) (t u : State) (left other : List Action)
    → Answers size s kept bytes r t left → Answers size s kept bytes q u other → IsSameAnswer r q t u left other
one_answer size s kept bytes r q t u left other (unread x e) (unread y f) =
    record { reply = the_same (ap Refusal (same_refusal (request_of Memory bytes) x y e f)); state = refl; kept = refl }
one_answer size s kept bytes r q t u left other (unread x e) (queried at y told_by f h) = absurd (not_both (request_of Memory bytes) _ x f e)
one_answer size s kept bytes r q t u left other (unread x e) (told at f) = absurd (not_both (request_of Memory bytes) _ x f e)
one_answer size s kept bytes r q t u left other (unread x e) (stepped at event told_by actions v f step) = absurd (not_both (request_of Memory bytes) _ x f e)
one_answer size s kept bytes r q t u left other (queried at x by e g) (unread y f) = absurd (not_both (request_of Memory bytes) _ y e f)
one_answer size s kept bytes r q t u left other (queried at x by e g) (queried at' y told_by f h) =
    let both = same_asked (request_of Memory bytes) _ _ e f in
    let same : x ≡ y = cc in
    record { reply = the_same (one_reply_to s y by told_by (subst (λ i. IsReplyTo s i by) same g) h); state = refl; kept = refl }
one_answer size s kept bytes r q t u left other (queried at x by e g) (told at' f) = absurd (let both = same_asked (request_of Memory bytes) _ _ e f in cc)
one_answer size s kept bytes r q t u left other (queried at x by e g) (stepped at' event told_by actions v f step) =
    absurd (let both = same_asked (request_of Memory bytes) _ _ e f in cc)
one_answer size s kept bytes r q t u left other (told at e) (unread y f) = absurd (not_both (request_of Memory bytes) _ y e f)
one_answer size s kept bytes r q t u left other (told at e) (queried at' y by f h) = absurd (let both = same_asked (request_of Memory bytes) _ _ e f in cc)
one_answer size s kept bytes r q t u left other (told at e) (told at' f) = record { reply = the_same refl; state = refl; kept = refl }
one_answer size s kept bytes r q t u left other (told at e) (stepped at' event told_by actions v f step) =
    absurd (let both = same_asked (request_of Memory bytes) _ _ e f in cc)
one_answer size s kept bytes r q t u left other (stepped at event told_by actions v e step) (unread y f) = absurd (not_both (request_of Memory bytes) _ y e f)
one_answer size s kept bytes r q t u left other (stepped at event told_by actions v e step) (queried at' y by f h) =
    absurd (let both = same_asked (request_of Memory bytes) _ _ e f in cc)
one_answer size s kept bytes r q t u left other (stepped at event told_by actions v e step) (told at' f) =
    absurd (let both = same_asked (request_of Memory bytes) _ _ e f in cc)
one_answer size s kept bytes r q t u left other (stepped at event told_by actions v e step) (stepped at' event' told_by' actions' v' f step') =
    let request = same_request (request_of Memory bytes) _ _ e f in
    let moment : at ≡ at' = ap (λ (z : Request). z.at) request in
    let both = ap (λ (z : Request). z.asked) request in
    let same : event ≡ event' = cc in
    let moved = subst (λ i. Step size s (input_of s at' i) told_by actions v) same (subst (λ i. Step size s (input_of s i event) told_by actions v) moment step) in
    let one = one_outcome size s (input_of s at' event') told_by told_by' actions actions' v v' moved step' in
    record { reply = one.reply; state = one.state; kept = ap (λ l. kept ++ l) one.actions }

-- one list of bytes is written for the frames, but for the cycles that refusals name
pub one_list_of_replies : (size : ℕ) (ending : Ending) (s : State) (kept : List Action) (frames : List (List ℕ)) (out other : List ℕ)
    → AreReplies size ending s kept frames out → AreReplies size ending s kept frames other → AreAlikeBut ending out other
one_list_of_replies size ending s kept [] out other last last = at_last
one_list_of_replies size ending s kept (bytes ∷ frames) out other
    (reply {t = t} {left = left} {out = more} r a h) (reply {t = u} {left = left'} {out = more'} q b k) =
    let same = one_answer size s kept bytes r q t u left left' a b in
    and_reply same.reply
    (one_list_of_replies size ending t left frames more more' h
    (subst (λ x. AreReplies size ending t x frames more') (sym same.kept) (subst (λ x. AreReplies size ending x left' frames more') (sym same.state) k)))

-- one list of bytes is written for a stream, but for the cycles that refusals name
pub one_serving : (size : ℕ) (s : State) (kept : List Action) (stream out other : List ℕ) (d e : Ending)
    → Serves size s kept stream out d → Serves size s kept stream other e → AreAlikeBut d out other × (d ≡ e)
one_serving size s kept stream out other d e h k =
    let same = one_stream stream h.frames k.frames d e h.read k.read in (
      one_list_of_replies size d s kept h.frames out other h.written
          (subst (λ x. AreReplies size x s kept h.frames other) (sym same.1) (subst (λ x. AreReplies size e s kept x other) (sym same.0) k.written)),
      same.1,
    )

-- the bytes written for a stream begin with the reply to its first frame
pub serves_frame : (size : ℕ) (s t : State) (kept left : List Action) (bytes stream rest out : List ℕ) (r : Reply) (ending : Ending)
    → BeginsWith stream bytes rest → Answers size s kept bytes r t left → Serves size t left rest out ending
    → Serves size s kept stream (frame_of (reply_text r) ++ out) ending
serves_frame size s t kept left bytes stream rest out r ending begins answers later =
    record { frames = bytes ∷ later.frames; read = frame begins later.read; written = reply r answers later.written }

-- a stream without a whole frame
pub serves_end : (size : ℕ) (s : State) (kept : List Action) (stream : List ℕ) (ending : Ending) → EndsSo stream ending
    → Serves size s kept stream (last_reply ending) ending
serves_end size s kept stream ending so = record { frames = []; read = ends so; written = last }
