-- The laws `parsed`, `numbered` and `written` of wing_node.
use Rattle.wing_node.proofs.Worked.{parsed, numbered, written}
use Rattle.promises.proofs.definition_cases.Goals as goal

pub returns : goal.returns
returns c = (parsed, (numbered, written))
