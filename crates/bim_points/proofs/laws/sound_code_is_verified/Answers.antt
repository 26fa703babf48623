use Rattle.bim_rules.specs.Images.{plain_breaches}
use Rattle.bim_points.proofs.Sound.{both_none, unbroken}
use Rattle.bim_points.proofs.Told.{empty_told}
use Rattle.bim_points.proofs.Plain.{plain_sound}
use Rattle.bim_points.proofs.Kept.{points_keep}
use Rattle.bim_points.proofs.Flowing.{flowing_plain}
use Rattle.bim_points.proofs.laws.sound_code_is_verified.Goals as goal

pub returns-clause-unbroken : goal.returns-clause-unbroken
returns-clause-unbroken c = unbroken

pub returns-clause-verified : goal.returns-clause-verified
returns-clause-verified c = λ image chosen steps rules sound.
    both_none (plain_breaches image) _ (c.rules_are_one.ensures.unbroken image rules) (unbroken image chosen steps sound)

pub returns-clause-empty : goal.returns-clause-empty
returns-clause-empty c = empty_told

pub returns-clause-plain : goal.returns-clause-plain
returns-clause-plain c = plain_sound

pub returns-clause-rules : goal.returns-clause-rules
returns-clause-rules c = points_keep

pub returns-clause-flowing : goal.returns-clause-flowing
returns-clause-flowing c = flowing_plain
