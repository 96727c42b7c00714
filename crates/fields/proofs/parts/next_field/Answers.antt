use Rattle.std.proofs.Common.{Some, None, refl, sym, ◌∙◌, arith, rules}
use Rattle.fields.specs.Layout.{tag_number, parse_field}
use Rattle.fields.proofs.Tags.{shaped, not_shaped, unknown}
use Rattle.fields.proofs.Parsing.{parsed}
use Rattle.fields.proofs.parts.next_field.Goals.{in_default-try_from-via-in-Ok+else-length, in_default-try_from-via-in_default-try_from}
use Rattle.fields.proofs.parts.next_field.Goals as goal

pub returns-in_default : goal.returns-in_default
unfolding parse_field
returns-in_default c = search rules

pub returns-then-length-rest : goal.returns-then-length-rest
unfolding parse_field
returns-then-length-rest c = search rules

pub returns-in-Ok : goal.returns-in-Ok
returns-in-Ok c = rw c.of.ensures (parsed c.args.bytes.now c.args.at _ (Some (record { tag = tag_number c.in-Ok.tag; value = c.split_at.result.0.now; place = c.args.at })) _ _ _ c.in-len3-up.len_at_least refl (omega (arith, c.from-length.ensures, c.from_be_bytes.ensures)) c.if-length-rest.false c.split_at.ensures.front c.split_at.ensures.back
    (shaped c.in-Ok.tag _ c.args.at _ c.in-Ok.ensures (omega (arith, c.length.ensures, c.split_at.ensures.front_len))))

pub returns-in_default-try_from : goal.returns-in_default-try_from
returns-in_default-try_from c = parsed c.args.bytes.now c.args.at _ None _ c.split_at.result.1.now _ c.in-len3-up.len_at_least refl (omega (arith, c.from-length.ensures, c.from_be_bytes.ensures)) c.if-length-rest.false c.split_at.ensures.front c.split_at.ensures.back
    (elim c.in_default-try_from.branch [
      | in_default-try_from-via-in-Ok+else-length w ↦ not_shaped w.in-Ok.tag _ c.args.at _ w.in-Ok.ensures (λ e. w.if-length.false (w.length.ensures ∙ sym e ∙ c.split_at.ensures.front_len))
      | in_default-try_from-via-in_default-try_from w ↦ unknown _ c.args.at _ w.in_default-try_from.ensures.1
    ])
