-- A frame that was taken, by its length and its text.
use Rattle.std.proofs.Common.{◌≡◌, ℕ, ◌≤◌, ◌<◌, ◌^◌, List, [], ◌++◌, length, take, drop, Option, Some, refl, sym, subst, ap, ◌∙◌, arith, append_assoc, append-nil}
use Rattle.std.proofs.KnownBytes.{Consumes-trans}
use Rattle.std.proofs.Math.Seq.{take-append_seam, drop-append_seam}
use Rattle.std.specs.Io.KnownBytes.{Consumes}
use Rattle.byteorder.specs.Endian.{big_bytes, big_number}
use Rattle.byteorder.specs.Numbers.{big_number-reads_back}
use Rattle.um_ctl.specs.Streams.{TakesReply}
use Rattle.um_laws.proofs.InputLengthLaws.{number_long}
use Rattle.um_model.specs.Frames.{frame_of}
use Rattle.um_model.specs.Replies.{reply_limit}

pub takes_reply : (a b d : Option (List ℕ)) (h reply : List ℕ) (size : ℕ) → length h ≡ 4 → size ≡ big_number 4 h → length reply ≡ size
    → size ≤ reply_limit → Consumes a b h → Consumes b d reply → TakesReply a d reply
takes_reply a b d h reply size four is len low p q =
    (h, four, sym is ∙ sym len, subst (λ n. n ≤ reply_limit) (sym len) low, Consumes-trans a b d h reply p q)

-- two ways to cut a list with fronts of one length have the same parts
same_parts : (a b x y : List ℕ) → length a ≡ length b → a ++ x ≡ b ++ y → (a ≡ b) × (x ≡ y)
same_parts a b x y len e = (
  sym (take-append_seam a x) ∙ ap (λ n. take n (a ++ x)) len ∙ ap (take (length b)) e ∙ take-append_seam b y,
  sym (drop-append_seam a x) ∙ ap (λ n. drop n (a ++ x)) len ∙ ap (drop (length b)) e ∙ drop-append_seam b y,
)

-- only one reply can be taken from an input
pub one_reply : (input a b r q : List ℕ) → TakesReply (Some input) (Some r) a → TakesReply (Some input) (Some q) b → (a ≡ b) × (r ≡ q)
one_reply input a b r q (h, four, is, low, whole) (k, other_four, other_is, other_low, other_whole) =
    let split = sym (append_assoc h a r) ∙ sym whole ∙ other_whole ∙ append_assoc k b q in
    let head = same_parts h k (a ++ r) (b ++ q) (four ∙ sym other_four) split in
    same_parts a b r q (sym is ∙ ap (big_number 4) head.0 ∙ other_is) head.1

-- a number in four bytes is read again
reads_back : (n : ℕ) → n ≤ reply_limit → big_number 4 (big_bytes 4 n) ≡ n
reads_back n low =
    let small : n < 256 ^ 4 = omega (arith, low) in
    ap (big_number 4) (sym (append-nil (big_bytes 4 n))) ∙ big_number-reads_back 4 n [] small

-- a frame is taken, whatever follows
pub whole_reply : (reply rest : List ℕ) → length reply ≤ reply_limit → TakesReply (Some (frame_of reply ++ rest)) (Some rest) reply
unfolding frame_of
whole_reply reply rest low = (big_bytes 4 (length reply), number_long 4 (length reply), reads_back (length reply) low, low, refl)
