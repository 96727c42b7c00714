use Rattle.std.proofs.Common.{refl, ◌∙◌, arith}
use Rattle.std.proofs.lemmas.Bool.{ltb-true, ltb-false}
use Rattle.framing.proofs.Fronts.{short, after_length, sized_long, sized_cut, sized_whole}
use Rattle.framing.proofs.cutting.cut.Goals as goal

pub returns-in_default : goal.returns-in_default
returns-in_default c = short c.args.input.now (omega (arith, ltb-true))

pub returns-then-length-gt-LONGEST : goal.returns-then-length-gt-LONGEST
returns-then-length-gt-LONGEST c =
    sized_long c.from_be_bytes-length.result _ c.if-length-gt-LONGEST.true
    ∙ after_length c.args.input.now _ _ (omega (arith, ltb-false)) c.from_be_bytes-length.ensures refl

pub returns-then-length-rest : goal.returns-then-length-rest
returns-then-length-rest c =
    sized_cut c.from_be_bytes-length.result _ c.if-length-gt-LONGEST.false c.if-length-rest.true
    ∙ after_length c.args.input.now _ _ (omega (arith, ltb-false)) c.from_be_bytes-length.ensures refl

pub returns : goal.returns
returns c =
    sized_whole c.from_be_bytes-length.result _ _ _ c.if-length-gt-LONGEST.false c.if-length-rest.false c.split_at.ensures.front c.split_at.ensures.back
    ∙ after_length c.args.input.now _ _ (omega (arith, ltb-false)) c.from_be_bytes-length.ensures refl
