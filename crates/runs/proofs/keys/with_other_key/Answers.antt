use Rattle.std.proofs.Common.{rules, refl}
use Rattle.runs.proofs.keys.with_other_key.Goals as goal

pub returns-in-Ok-hand_back : goal.returns-in-Ok-hand_back
returns-in-Ok-hand_back g c = (_, _, _, _, c.call-answer.ensures, refl, search rules, refl)

pub returns-in_default : goal.returns-in_default
returns-in_default g c = (_, _, _, _, c.call-answer.ensures, refl, search rules, refl)
