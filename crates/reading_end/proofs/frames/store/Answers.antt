use Rattle.std.proofs.Common.{◌≡◌, ◌+◌, ◌-◌, ◌++◌, take, drop, sym, ap, ◌∙◌, arith}
use Rattle.std.proofs.lemmas.List.{take-append-drop, length-append, length-take-le, set-append_left, set-get_or}
use Rattle.fields.specs.Reading.{rest_of}
use Rattle.reading_end.specs.Frames.{store_at}
use Rattle.reading_end.proofs.Storing.{store_more, store_stops}
use Rattle.reading_end.proofs.frames.store.Goals as goal

pub loop-slot-init : goal.loop-slot-init
loop-slot-init g c =
    let row = c.args.row.now in
    let all : c.args.count - 0 ≡ c.args.count = omega arith in
    ap (λ k. store_at g.R.Record.NUMBER g.R.Record.reads k (rest_of c.args.fields) (take c.args.count row ++ drop c.args.count row)) all
    ∙ ap (store_at g.R.Record.NUMBER g.R.Record.reads c.args.count (rest_of c.args.fields)) (take-append-drop c.args.count row)

pub loop-slot-preserved : goal.loop-slot-preserved
loop-slot-preserved g c =
    let kind = g.R.Record.NUMBER in
    let reads = g.R.Record.reads in
    let i = c.loop-slot.slot-index in
    let past = drop c.args.count c.args.row.now in
    let row = c.loop-slot.slot-items ++ past in
    let long = length-append c.loop-slot.slot-items past in
    ap (λ l. take (i + 1) l ++ store_at kind reads (c.args.count - (i + 1)) (rest_of c.next_frame.new.fields) (drop (i + 1) l)) (sym (set-append_left c.loop-slot.slot-items past i c.in-Ok.frame (omega arith)))
    ∙ store_more kind reads c.args.count i (rest_of c.loop-slot.fields) (rest_of c.next_frame.new.fields) c.in-Ok.frame row (omega (arith, length-take-le c.args.count c.args.row.now c.requires)) (omega arith) c.in-Ok.ensures
    ∙ c.loop-slot.invariant

pub returns-in-Err : goal.returns-in-Err
returns-in-Err g c =
    let past = drop c.args.count c.args.row.now in
    ap (λ l. l ++ past) (set-get_or c.loop-slot.slot-items c.loop-slot.slot-index c.slot-item.result)
    ∙ store_stops g.R.Record.NUMBER g.R.Record.reads c.args.count c.loop-slot.slot-index (rest_of c.loop-slot.fields) _ (c.loop-slot.slot-items ++ past) c.in-Err.ensures
    ∙ c.loop-slot.invariant

pub returns : goal.returns
returns g c =
    let i = c.loop-slot.slot-index in
    let row = c.loop-slot.slot-items ++ drop c.args.count c.args.row.now in
    let none : c.args.count - i ≡ 0 = omega (arith, length-take-le c.args.count c.args.row.now c.requires) in
    sym (take-append-drop i row)
    ∙ ap (λ k. take i row ++ store_at g.R.Record.NUMBER g.R.Record.reads k (rest_of c.loop-slot.fields) (drop i row)) (sym none)
    ∙ c.loop-slot.invariant
