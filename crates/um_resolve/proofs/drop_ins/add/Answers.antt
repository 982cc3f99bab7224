use Rattle.std.proofs.Common.{string_bytes, sym, ◌∙◌}
use Rattle.um_resolve.specs.View.{by_file_of, drop_in_of}
use Rattle.um_resolve.proofs.ByFileLemmas.{contains_file, kept_new, kept_old, inserted}
use Rattle.um_resolve.proofs.drop_ins.add.Goals as goal

pub returns-then-contains_key : goal.returns-then-contains_key
returns-then-contains_key c =
    kept_old (by_file_of c.args.by_file.now.entries) (drop_in_of c.args.drop_in)
    (sym (contains_file c.args.by_file.now c.args.drop_in.file.now) ∙ sym c.contains_key.ensures ∙ c.if-contains_key.true)

pub returns : goal.returns
returns c =
    inserted c.args.by_file.now c.insert.new.self (string_bytes c.in_ok-file.file) c.args.drop_in.file.now c.args.drop_in c.in_ok-file.ensures.ok c.in_ok-insert.ensures.updates
    ∙ kept_new (by_file_of c.args.by_file.now.entries) (drop_in_of c.args.drop_in)
    (sym (contains_file c.args.by_file.now c.args.drop_in.file.now) ∙ sym c.contains_key.ensures ∙ c.if-contains_key.false)
