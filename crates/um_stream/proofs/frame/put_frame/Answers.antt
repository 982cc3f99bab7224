use Rattle.std.proofs.Common.{[], ◌++◌, append-nil, sym, subst, ◌∙◌}
use Rattle.std.proofs.KnownBytes.{Appends-trans}
use Rattle.std.specs.Io.KnownBytes.{Appends}
use Rattle.um_stream.proofs.Written.{frame_front, frame_more, frame_whole, on_ok}
use Rattle.um_model.specs.Frames.{frame_of}
use Rattle.um_stream.proofs.frame.put_frame.Goals as goal

pub returns-in_err-put-clause-front : goal.returns-in_err-put-clause-front
returns-in_err-put-clause-front g c =
    let t = c.args.text.now in
    let h = c.write_u32.new.buf in
    let (x, more, split, appended) = c.put.ensures.front in
    (x, more ++ t, frame_front t h x more c.write_u32.ensures split, appended)

pub returns-in_err-put-2-clause-front : goal.returns-in_err-put-2-clause-front
returns-in_err-put-2-clause-front g c =
    let t = c.args.text.now in
    let h = c.write_u32.new.buf in
    let (x, more, split, appended) = c.put-2.ensures.front in
    (h ++ x, more, frame_more t h x more c.write_u32.ensures split, Appends-trans _ _ _ _ _ c.in_ok-put.ensures.ok appended)

pub returns-clause-front : goal.returns-clause-front
returns-clause-front g c =
    let t = c.args.text.now in
    let h = c.write_u32.new.buf in
    let put = Appends-trans _ _ _ _ _ (Appends-trans _ _ _ _ _ c.in_ok-put.ensures.ok c.in_ok-put-2.ensures.ok) c.flush.ensures.same in
    let whole = append-nil (h ++ t) ∙ sym (frame_whole t h c.write_u32.ensures) in
    (frame_of t, [], sym (append-nil (frame_of t)), subst (Appends _ _) whole put)

pub returns-clause-ok : goal.returns-clause-ok
returns-clause-ok g c =
    let t = c.args.text.now in
    let h = c.write_u32.new.buf in
    let put = Appends-trans _ _ _ _ _ (Appends-trans _ _ _ _ _ c.in_ok-put.ensures.ok c.in_ok-put-2.ensures.ok) c.flush.ensures.same in
    on_ok _ (subst (Appends _ _) (append-nil (h ++ t) ∙ sym (frame_whole t h c.write_u32.ensures)) put)
