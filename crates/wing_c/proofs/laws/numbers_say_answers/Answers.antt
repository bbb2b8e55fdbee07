-- The law `numbers-say`.
use Rattle.wing_c.proofs.Said.{numbers-say}
use Rattle.wing_c.proofs.laws.numbers_say_answers.Goals as goal

pub returns : goal.returns
returns c = numbers-say
