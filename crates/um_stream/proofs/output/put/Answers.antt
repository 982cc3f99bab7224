use Rattle.std.proofs.Common.{◌+◌, take, drop, arith, sym, subst, take-append-drop}
use Rattle.std.proofs.KnownBytes.{Appends-trans, Appends-kept}
use Rattle.std.specs.Io.KnownBytes.{Appends}
use Rattle.um_stream.proofs.Written.{take_more}
use Rattle.um_stream.proofs.output.put.Goals as goal
use Rattle.um_stream.proofs.output.put.Goals.{in-Ok, in-Err+else-ne}

pub returns-in-Ok-eq0-clause-front : goal.returns-in-Ok-eq0-clause-front
returns-in-Ok-eq0-clause-front g c =
    let bytes = c.args.bytes.now in
    let n = c.in-Ok-eq0.field-0 in
    let all = take_more bytes c.parts.written n in (
      take (c.parts.written + n) bytes,
      drop (c.parts.written + n) bytes,
      sym (take-append-drop (c.parts.written + n) bytes),
      subst (Appends _ _) all (Appends-trans _ _ _ _ _ c.parts.invariant.done c.in-Ok-eq0.ensures.bytes),
    )

pub returns-then-ne-clause-front : goal.returns-then-ne-clause-front
returns-then-ne-clause-front g c = (
  take c.parts.written c.args.bytes.now,
  drop c.parts.written c.args.bytes.now,
  sym (take-append-drop c.parts.written c.args.bytes.now),
  Appends-kept _ _ _ _ c.parts.invariant.done c.in-Err.ensures.bytes,
)

pub returns-clause-front : goal.returns-clause-front
returns-clause-front g c =
    (take c.parts.written c.args.bytes.now, drop c.parts.written c.args.bytes.now, sym (take-append-drop c.parts.written c.args.bytes.now), c.parts.invariant.done)

pub parts-preserved : goal.parts-preserved
parts-preserved g c =
    let bytes = c.args.bytes.now in
    elim c.match-write.branch [
      | in-Ok w ↦
          let all = take_more bytes c.parts.written w.in-Ok.n in
          rw w.written-is (record {
            within = omega (arith, w.in-Ok.ensures.bound);
            done = subst (Appends _ _) all (Appends-trans _ _ _ _ _ c.parts.invariant.done w.in-Ok.ensures.bytes);
          })
      | in-Err+else-ne w ↦
          rw w.written-is (record { within = c.parts.invariant.within; done = Appends-kept _ _ _ _ c.parts.invariant.done w.in-Err.ensures.bytes })
    ]
