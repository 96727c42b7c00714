use Rattle.std.proofs.Common.{Err, sym, ap, ◌∙◌, arith}
use Rattle.std.proofs.lemmas.Result.{err_from_is_err_and}
use Rattle.fields.specs.Reading.{rest_of, frame_at}
use Rattle.reading_end.proofs.Counting.{fault_more, fault_stops}
use Rattle.reading_end.proofs.layouts.frames_form.Goals as goal

pub loop-preserved : goal.loop-preserved
unfolding frame_at
loop-preserved c = sym (fault_more c.args.count c.loop.counter (rest_of c.loop.fields) (rest_of c.read.new.self) _ (omega arith) c.in_ok-read.ensures) ∙ c.loop.invariant

pub returns-in_err-read : goal.returns-in_err-read
unfolding frame_at
returns-in_err-read c =
    let p = err_from_is_err_and c.from_residual.result c.from_residual.ensures.1 in
    p.1 ∙ ap Err p.2 ∙ sym (fault_stops c.args.count c.loop.counter (rest_of c.loop.fields) _ (omega arith) c.in_err-read.ensures) ∙ c.loop.invariant
