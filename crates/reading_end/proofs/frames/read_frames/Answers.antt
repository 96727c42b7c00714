use Rattle.std.proofs.Common.{◌≤◌, length, ap, ◌∙◌, arith}
use Rattle.fields.specs.Reading.{rest_of}
use Rattle.reading_end.specs.Frames.{records_at, fault_of, stored_over}
use Rattle.reading_end.proofs.Storing.{store_whole, whole_fits}
use Rattle.reading_end.proofs.frames.read_frames.Goals as goal

pub returns : goal.returns
returns g c =
    let n = c.args.count in
    let row = c.args.row.now in
    let all = records_at g.R.Record.NUMBER g.R.Record.reads n (rest_of c.args.fields) in
    let fit : n ≤ length row = omega arith in
    let same = whole_fits n (length row) all fit in
    record {
      answer = c.in_ok-check.ensures ∙ ap fault_of same;
      row = c.store.ensures ∙ store_whole g.R.Record.NUMBER g.R.Record.reads n (rest_of c.args.fields) _ row fit c.in_ok-check.ensures ∙ ap (λ o. stored_over o row) same;
    }
