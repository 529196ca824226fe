-- `seatreg::answers::put_answers` stores three answers. Assumes nothing.
use mathlib.Core.Path.{ap, ◌∙◌}
use mir.Facts.{to_z-of_z}
use Rattle.seatreg.specs.Answers.{bits}
use Rattle.seatreg.proofs.AnswerBytes.{stored}
use Rattle.seatreg.proofs.answers.put_answers.Goals as goal

pub returns : goal.returns
returns c =
    stored c.args.answers.now _ _ _ c.args.first c.args.second c.args.third _ _ _ c.requires
    (c.bits_of.ensures ∙ ap bits (to_z-of_z c.ranges.first)) c.put_four.ensures
    (c.bits_of-2.ensures ∙ ap bits (to_z-of_z c.ranges.second)) c.put_four-2.ensures
    (c.bits_of-3.ensures ∙ ap bits (to_z-of_z c.ranges.third)) c.put_four-3.ensures
