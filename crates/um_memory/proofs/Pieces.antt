-- The piece that was read: a frame, or the end of a stream.
use Rattle.std.proofs.Common.{◌≡◌, ℕ, ◌<◌, ◌≤◌, List, [], ◌++◌, length, Option, Some, None, Vec, Global, sym, ap, ◌∙◌, subst, append-nil}
use Rattle.std.specs.Io.KnownBytes.{Consumes, IsAtEnd}
use Rattle.byteorder.specs.Endian.{big_number}
use Rattle.um_memory.specs.Streams.{Comes, IsBodyOf}
use Rattle.um_memory.specs.declared.frames.Piece.{Piece}
use Rattle.um_memory.specs.declared.frames.Piece.TheVariants.{Frame, End}
use Rattle.um_model.specs.Frames.{frame_limit, in_header, in_body}
use Rattle.um_model.specs.declared.frames.Ending.TheVariants.{Between, Inside, TooLong}

partial_body : (a b d : Option (List ℕ)) (h t : List ℕ) → Consumes a b h → Consumes b d t → IsAtEnd d → length h ≡ 4 → big_number 4 h ≤ frame_limit
    → length t < big_number 4 h → Comes (End Inside) a d
partial_body None b d h t p q e four low short = tt
partial_body (Some xs) None d h t p q e four low short = absurd p
partial_body (Some xs) (Some ys) None h t p q e four low short = absurd q
partial_body (Some xs) (Some ys) (Some zs) h t p q e four low short =
    let rest : ys ≡ t = q ∙ ap (λ l. t ++ l) e ∙ append-nil t in
    in_body h t four low short (p ∙ ap (λ l. h ++ l) rest)

whole_frame : (a b d : Option (List ℕ)) (h : List ℕ) (v : Vec ℕ Global) → Consumes a b h → Consumes b d v.items → length h ≡ 4 → big_number 4 h ≡ length v.items
    → length v.items ≤ frame_limit → Comes (Frame v) a d
whole_frame None b d h v p q four is low = tt
whole_frame (Some xs) None d h v p q four is low = absurd p
whole_frame (Some xs) (Some ys) None h v p q four is low = absurd q
whole_frame (Some xs) (Some ys) (Some zs) h v p q four is low =
    record { header = h; four = four; length_is = is; short = low; whole = p ∙ ap (λ l. h ++ l) q }

-- a length was read, and after it a frame or less
pub comes_body : (a b d : Option (List ℕ)) (h : List ℕ) (size : ℕ) (piece : Piece) → Consumes a b h → length h ≡ 4 → size ≡ big_number 4 h → size ≤ frame_limit
    → IsBodyOf size piece b d → Comes piece a d
comes_body a b d h size (End ending) p four is low (inside, part, short, taken, end) =
    subst (λ e. Comes (End e) a d) (sym inside) (partial_body a b d h part p taken end four (subst (λ n. n ≤ frame_limit) is low) (subst (λ n. length part < n) is short))
comes_body a b d h size (Frame v) p four is low (size_is, taken) =
    whole_frame a b d h v p taken four (sym is ∙ sym size_is) (subst (λ n. n ≤ frame_limit) (sym size_is) low)
