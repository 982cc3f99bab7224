-- Statements of the code as those of the definitions.
use Rattle.std.specs.Prelude.{ℕ, List}
use Rattle.um_model.specs.Syntax as said
use Rattle.um_syntax.specs.Places.{LiesAt}
use Rattle.um_syntax.specs.declared.statements.Statement.{Statement}
use Rattle.um_syntax.specs.declared.statements.Statement.TheVariants.{Blank, Head, Pair, Stray}

-- the statement of the definitions
abbrev pub statement_view : Statement → said.Statement
statement_view Blank = said.Blank
statement_view (Head name) = said.Head name.now
statement_view (Pair key value at) = said.Pair key.now value.now
statement_view Stray = said.Stray

-- a value lies at its given place
abbrev pub ValueLiesIn : List ℕ → Statement → Type 0
ValueLiesIn line Blank = Unit {0}
ValueLiesIn line (Head name) = Unit {0}
ValueLiesIn line (Pair key value at) = LiesAt line at value.now
ValueLiesIn line Stray = Unit {0}
