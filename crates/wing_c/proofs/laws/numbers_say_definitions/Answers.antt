-- The law `definitions-say`.
use Rattle.wing_c.proofs.SaidDefinitions.{definitions-say}
use Rattle.wing_c.proofs.laws.numbers_say_definitions.Goals as goal

pub returns : goal.returns
returns c = definitions-say
