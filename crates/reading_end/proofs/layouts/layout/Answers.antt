use Rattle.std.proofs.Common.{rules}
use Rattle.book.specs.declared.answers.Status.TheVariants.{Follow, NoFollow, NoFrame}
use Rattle.reading_end.proofs.layouts.layout.Goals as goal

pub returns-in_default-2 : goal.returns-in_default-2
returns-in_default-2 c =
    let no = c.in_default.ensures.1 in
    search (rules, no Follow, no NoFollow, no NoFrame)
