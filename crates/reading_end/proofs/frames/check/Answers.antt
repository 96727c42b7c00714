use Rattle.std.proofs.Common.{◌≡◌, ◌-◌, Err, sym, ap, ◌∙◌, arith}
use Rattle.std.proofs.lemmas.Result.{err_from_is_err_and}
use Rattle.fields.specs.Reading.{rest_of}
use Rattle.reading_end.specs.Frames.{records_at, fault_of}
use Rattle.reading_end.proofs.Storing.{fault_more, fault_stops}
use Rattle.reading_end.proofs.frames.check.Goals as goal

pub loop-preserved : goal.loop-preserved
loop-preserved g c = sym (fault_more g.R.Record.NUMBER g.R.Record.reads c.args.count c.loop.counter (rest_of c.loop.fields) (rest_of c.next_frame.new.fields) _ (omega arith) c.in_ok-next_frame.ensures) ∙ c.loop.invariant

pub returns-in_err-next_frame : goal.returns-in_err-next_frame
returns-in_err-next_frame g c =
    let p = err_from_is_err_and c.from_residual.result c.from_residual.ensures.1 in
    p.1 ∙ ap Err p.2 ∙ sym (fault_stops g.R.Record.NUMBER g.R.Record.reads c.args.count c.loop.counter (rest_of c.loop.fields) _ (omega arith) c.in_err-next_frame.ensures) ∙ c.loop.invariant

pub returns : goal.returns
returns g c =
    let none : 0 ≡ c.args.count - c.loop.counter = omega arith in
    ap (λ k. fault_of (records_at g.R.Record.NUMBER g.R.Record.reads k (rest_of c.loop.fields))) none ∙ c.loop.invariant
