use Rattle.std.proofs.Common.{◌∷◌, [], refl, ap, ◌∙◌, arith, rules, ◌≡◌}
use Rattle.replies.proofs.Writing.{puts_then, puts_field, finished}
use Rattle.replies.proofs.write_entered.Goals as goal

pub returns-clause-bytes : goal.returns-clause-bytes
returns-clause-bytes c =
    let fields =
    puts_then (puts_field c.to_be_bytes.ensures c.field.ensures)
    (puts_then (puts_field c.to_be_bytes-2.ensures c.field-2.ensures) (puts_field (ap (λ n. n ∷ []) c.called_byte.ensures.value) c.field-3.ensures)) in
    let all = finished 18 refl fields c.close.ensures (omega arith) (omega arith) in
    let link : _ ≡ c.close.new.self.out.now = search rules in
    link ∙ all.1
