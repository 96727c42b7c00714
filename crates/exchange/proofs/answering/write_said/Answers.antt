use Rattle.std.proofs.Common.{length, take, sym, ap, ◌∙◌}
use Rattle.replies.specs.Layout.{read_reply, written_length, written_over}
use Rattle.exchange.specs.Answering.{said_reply, frames_in}
use Rattle.exchange.proofs.Lengths.{read_length}
use Rattle.exchange.proofs.answering.write_said.Goals as goal

pub returns-in-Gave-clause-length : goal.returns-in-Gave-clause-length
returns-in-Gave-clause-length g c =
    let kind = g.R.Record.NUMBER in
    let writes = g.R.Record.writes in
    let row = c.args.row.now in
    c.write_gave.ensures.length ∙ ap (λ n. written_length n c.args.out.now) (read_length kind writes c.in-Gave.reading (take c.in-Gave.reading.count row))
    ∙ ap (λ s. written_length (length (said_reply kind writes s (frames_in s row))) c.args.out.now) (sym c.in-Gave.is)

pub returns-in-Gave-clause-bytes : goal.returns-in-Gave-clause-bytes
returns-in-Gave-clause-bytes g c =
    let kind = g.R.Record.NUMBER in
    let writes = g.R.Record.writes in
    let out = c.args.out.now in
    let row = c.args.row.now in
    let given = take c.in-Gave.reading.count row in
    c.write_gave.ensures.bytes ∙ ap (λ n. written_over n (read_reply kind writes c.in-Gave.reading given) out) (read_length kind writes c.in-Gave.reading given)
    ∙ ap (λ s. written_over (length (said_reply kind writes s (frames_in s row))) (said_reply kind writes s (frames_in s row)) out) (sym c.in-Gave.is)
