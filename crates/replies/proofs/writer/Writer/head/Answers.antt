use Rattle.std.proofs.Common.{ap, ◌∙◌}
use Rattle.replies.specs.Layout.{half}
use Rattle.replies.proofs.Writing.{puts_then, puts_field}
use Rattle.replies.proofs.writer.Writer.head.Goals as goal

pub returns-clause-wrote : goal.returns-clause-wrote
returns-clause-wrote c =
    puts_then (puts_field (c.to_be_bytes.ensures ∙ ap half c.number.ensures) c.field.ensures)
    (puts_then (puts_field c.to_be_bytes-2.ensures c.field-2.ensures)
    (puts_then (puts_field c.to_be_bytes-3.ensures c.field-3.ensures)
    (puts_then (puts_field c.to_be_bytes-4.ensures c.field-4.ensures)
    (puts_then (puts_field c.to_be_bytes-5.ensures c.field-5.ensures)
    (puts_then (puts_field c.to_be_bytes-6.ensures c.field-6.ensures)
    (puts_then (puts_field c.to_be_bytes-7.ensures c.field-7.ensures) (puts_field c.to_be_bytes-8.ensures c.field-8.ensures)))))))
