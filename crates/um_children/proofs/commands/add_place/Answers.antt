use Rattle.std.proofs.Common.{◌≡◌, ◌∙◌, ◌∷◌, ◌++◌, [], List, ℕ, Result, Ok, Err, OnOk, codes, decimal, ap, append_assoc, rules}
use Rattle.std.specs.Process.{command_args}
use Rattle.um_children.proofs.commands.add_place.Goals as goal

-- words that are added after words
behind : {T E : Type 0} (r : Result T E) (old mid new a b all : List (List ℕ)) → OnOk r (new ≡ mid ++ b) → mid ≡ old ++ a → a ++ b ≡ all → OnOk r (new ≡ old ++ all)
behind (Ok u) old mid new a b all last first whole = last ∙ ap (λ l. l ++ b) first ∙ append_assoc old a b ∙ ap (λ l. old ++ l) whole
behind (Err e) old mid new a b all last first whole = tt

pub returns-clause-args : goal.returns-clause-args
returns-clause-args c =
    let told : c.as_str.result.now ≡ decimal c.args.number = search (rules, c.as_str.ensures.value, c.in_ok-number.ensures.ok) in
    behind c.add-2.result (command_args c.args.command.now) (command_args c.add.new.command) (command_args c.add-2.new.command) _ _ _ c.add-2.ensures.args c.in_ok-add.ensures.args
    (ap (λ n. codes "run" ∷ codes "--dir" ∷ c.args.folder.now ∷ codes "--number" ∷ n ∷ codes "--env-file" ∷ codes "--" ∷ []) told)
