-- The mirror's law `origin-forms`.
use Rattle.wing_mirror.proofs.Records.Before.{origin-forms}
use Rattle.promises.proofs.origin_forms.Goals as goal

pub returns : goal.returns
returns c = origin-forms
