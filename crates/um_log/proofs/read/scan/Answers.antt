use Rattle.std.specs.Prelude.{Option, Some, None, ◌≡◌, ◌+◌, ◌<◌, ◌≤◌, ◌++◌, ℕ, List, length}
use Rattle.std.specs.Option.{IfSome}
use Rattle.std.proofs.Common.{◌∙◌, sym, subst, arith}
use Rattle.um_model.specs.Disk.{Past, seen}
use Rattle.um_model.specs.Store.{area_start, part_count, AreRecords, HasRecords}
use Rattle.um_model.specs.declared.layout.Format.{Format}
use Rattle.um_model.specs.declared.layout.Layout.{Layout}
use Rattle.um_log.specs.declared.read.Record.{Record}
use Rattle.um_log.specs.Reading.{ReadsNext, bytes_of, places_of}
use Rattle.um_log.proofs.Scanning.{serves_more, serves_all, records_grown, places_more, place_more}
use Rattle.um_log.proofs.read.scan.Goals as goal

-- the read record, where the log goes on, of the disk as it was given
read_there : {format f : Format} {layout l : Layout} {generation n : ℕ} {old new : Past} (number at : ℕ) (found : Option Record) → f ≡ format → l ≡ layout → n ≡ generation → new ≡ old
    → ReadsNext f l n (seen new) number at found → ReadsNext format layout generation (seen old) number at found
read_there {format} {f} {layout} {l} {generation} {n} {old} {new} number at found e a b c is =
    subst (λ (p : Past). ReadsNext format layout generation (seen p) number at found) c
    (subst (λ g. ReadsNext format layout g (seen new) number at found) b
    (subst (λ (z : Layout). ReadsNext format z n (seen new) number at found) a (subst (λ (z : Format). ReadsNext z l n (seen new) number at found) e is)))

pub loop-records-preserved : goal.loop-records-preserved
loop-records-preserved g c =
    let past = g.D.Disk.past in
    let old = c.loop-records.reader in
    let new = c.read_next.new.self in
    let bytes = c.in-Some.found.bytes.items in
    let goes = subst (λ o. IfSome o (λ r. (new.number ≡ old.number + 1) × (new.next ≡ old.next + part_count (length r.bytes.items)) × (0 < length r.bytes.items))) c.in-Some.is c.in_ok-found.ensures.goes in
    let first = subst (λ o. IfSome o (λ r. r.first ≡ old.next)) c.in-Some.is c.in_ok-found.ensures.first in
    let grown = records_grown c.loop-records.records.items c.push.new.self.items c.in-Some.found c.in_ok-push.ensures.items in
    let start = area_start c.args.format c.args.layout c.args.generation in
    record {
      serves = λ h.
          let is = read_there old.number old.next (Some c.in-Some.found) c.loop-records.invariant.format_is c.loop-records.invariant.layout_is c.loop-records.invariant.generation_is (c.loop-records.invariant.past h)
          (subst (λ o. ReadsNext old.format old.layout old.generation (seen (past c.loop-records.disk)) old.number old.next o) c.in-Some.is (c.in_ok-found.ensures.found (c.loop-records.invariant.honest ∙ h))) in
          subst (λ n. (more : List (List ℕ)) → AreRecords c.args.format c.args.layout c.args.generation (seen (past c.args.disk.now)) n new.next more → HasRecords c.args.format c.args.layout c.args.generation (seen (past c.args.disk.now)) (bytes_of c.push.new.self.items ++ more)) (sym goes.0)
          (serves_more c.args.format c.args.layout c.args.generation old.number old.next new.next (seen (past c.args.disk.now)) bytes (bytes_of c.loop-records.records.items) (bytes_of c.push.new.self.items) is
          (c.loop-records.invariant.serves h) goes.1 grown.0);
      places = places_more start old.next bytes (bytes_of c.loop-records.records.items) (bytes_of c.push.new.self.items) (places_of c.loop-records.records.items) (places_of c.push.new.self.items)
          c.loop-records.invariant.place grown.0 c.loop-records.invariant.places (grown.1 ∙ (λ i. places_of c.loop-records.records.items ++ Rattle.std.specs.Prelude.◌∷◌ (first i, bytes) Rattle.std.specs.Prelude.[]));
      place = place_more start old.next new.next bytes (bytes_of c.loop-records.records.items) (bytes_of c.push.new.self.items) c.loop-records.invariant.place grown.0 goes.1;
      format_is = c.read_next.ensures.of.0 ∙ c.loop-records.invariant.format_is;
      layout_is = c.read_next.ensures.of.1 ∙ c.loop-records.invariant.layout_is;
      generation_is = c.read_next.ensures.of.2 ∙ c.loop-records.invariant.generation_is;
      calls = omega (
        arith,
        subst (λ o. IfSome o (λ r. g.D.Disk.calls c.read_next.new.disk ≤ g.D.Disk.calls c.loop-records.disk + part_count (length r.bytes.items))) c.in-Some.is c.in_ok-found.ensures.calls,
        c.loop-records.invariant.calls,
        c.loop-records.invariant.place,
        goes.1,
      );
      past = λ h. c.read_next.ensures.past (c.loop-records.invariant.honest ∙ h) ∙ c.loop-records.invariant.past h;
      failures = c.in_ok-found.ensures.failures ∙ c.loop-records.invariant.failures;
      disk_size = c.read_next.ensures.size ∙ c.loop-records.invariant.disk_size;
      honest = c.read_next.ensures.honest ∙ c.loop-records.invariant.honest;
    }

pub returns-clause-records : goal.returns-clause-records
returns-clause-records g c h =
    let past = g.D.Disk.past in
    let old = c.loop-records.reader in
    let nothing = read_there old.number old.next None c.loop-records.invariant.format_is c.loop-records.invariant.layout_is c.loop-records.invariant.generation_is (c.loop-records.invariant.past h)
    (subst (λ o. ReadsNext old.format old.layout old.generation (seen (past c.loop-records.disk)) old.number old.next o) c.in_default.is (c.in_ok-found.ensures.found (c.loop-records.invariant.honest ∙ h))) in
    serves_all c.args.format c.args.layout c.args.generation old.number old.next (seen (past c.args.disk.now)) (bytes_of c.loop-records.records.items) (c.loop-records.invariant.serves h) nothing
