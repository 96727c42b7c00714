use Rattle.std.proofs.Common.{cond, is_ok, vec_items, ap, ◌∙◌, arith}
use Rattle.runs.specs.Steps.{world}
use Rattle.serving.specs.Sessions.{reply_of, after}
use Rattle.serving.proofs.Replied.{within, written_none, written_put}
use Rattle.serving.proofs.stretches.serve_one.Goals as goal

pub returns-then-length-eq0 : goal.returns-then-length-eq0
unfolding reply_of after
returns-then-length-eq0 g c =
    let does = c.serve-length.ensures in
    record {
      output = written_none (vec_items c.args.out.now) _ c.serve-length.result.reply does.length c.if-length-eq0.true;
      book = λ i. world (does.number i) (does.state i) (does.slots i);
      memory = does.memory;
    }

pub slice_bounds-put-end : goal.slice_bounds-put-end
slice_bounds-put-end g c = let l = within _ c.args.buffer.now _ _ c.serve-length.ensures.length c.serve-length.ensures.buffer in omega arith

pub returns : goal.returns
unfolding reply_of after
returns g c =
    let old = vec_items c.args.out.now in
    let does = c.serve-length.ensures in
    record {
      output = c.put.ensures ∙ ap (λ all. cond (is_ok c.put.result) all old) (written_put old _ c.args.buffer.now _ c.serve-length.result.reply does.length does.buffer c.if-length-eq0.false);
      book = λ i. world (does.number i) (does.state i) (does.slots i);
      memory = does.memory;
    }
