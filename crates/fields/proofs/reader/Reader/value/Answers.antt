use Rattle.std.proofs.Common.{arith, ap}
use Rattle.std.specs.Prelude.{length}
use Rattle.fields.specs.Layout.{tell}
use Rattle.fields.proofs.Parsing.{whole}
use Rattle.fields.proofs.reader.Reader.value.Goals as goal

-- head, value and what comes after are all that was left, so the next offset is within the bytes
pub overflow_add-self : goal.overflow_add-self
overflow_add-self c =
    omega (arith, whole c.args.self.now.rest.now c.args.self.now.at (tell c.in_ok-field.field) c.in_ok-field.after.now c.in_ok-field.ensures, ap length c.value-value.ensures, c.args.self.now.short)

pub overflow_add-self-2 : goal.overflow_add-self-2
overflow_add-self-2 c =
    omega (arith, whole c.args.self.now.rest.now c.args.self.now.at (tell c.in_ok-field.field) c.in_ok-field.after.now c.in_ok-field.ensures, ap length c.value-value.ensures, c.args.self.now.short)

pub invariant_of-self : goal.invariant_of-self
invariant_of-self c =
    record { short = omega (arith, whole c.args.self.now.rest.now c.args.self.now.at (tell c.in_ok-field.field) c.in_ok-field.after.now c.in_ok-field.ensures, ap length c.value-value.ensures, c.args.self.now.short) }
