use Rattle.std.proofs.Common.{◌≡◌, ℕ, length, Some, None, Option, sym, ◌∙◌, subst, ap₂, subst₂, arith}
use Rattle.runs.specs.Steps.{world_of}
use Rattle.exchange.specs.Orders.{asked_of}
use Rattle.exchange.specs.Answering.{Answered, sent_told, outcome_told, reply_to}
use Rattle.exchange.specs.Back.{ToldFits}
use Rattle.exchange.proofs.Returned.{sent_back}
use Rattle.exchange.proofs.Answered.{settled, reply_fits, whole, some_is}
use Rattle.exchange.proofs.answering.serve.Goals as goal

pub write_reply-requires : goal.write_reply-requires
write_reply-requires g c =
    let w = world_of g.T.Tray.row c.args.book.now in
    let asked = asked_of g.R.Record.reads c.args.telegram.now c.args.room in
    (settled g.R.Record.reads w c.args.into.now c.answer-said.new.into asked c.answer-said.result c.answer-said.ensures.answer c.answer-said.ensures.row).within

pub unreachable-requires : goal.unreachable-requires
unreachable-requires g c =
    let reads = g.R.Record.reads in
    let w = world_of g.T.Tray.row c.args.book.now in
    let asked = asked_of reads c.args.telegram.now c.args.room in
    let s = settled reads w c.args.into.now c.answer-said.new.into asked c.answer-said.result c.answer-said.ensures.answer c.answer-said.ensures.row in
    let fits = reply_fits reads w (length c.args.into.now) g.R.Record.NUMBER g.R.Record.writes c.args.telegram.now c.args.room (length c.args.buffer.now) c.requires in
    let all = whole _ _ c.args.buffer.now (ap₂ (reply_to g.R.Record.NUMBER g.R.Record.writes) s.told s.gives) fits in
    let never : ◌≡◌ {A = Option ℕ} None (Some _) = c.in-None.ensures.length ∙ all.0 in
    absurd (let z : ◌≡◌ {A = ℕ} 0 1 = cc in omega arith)

pub returns : goal.returns
returns g c =
    let reads = g.R.Record.reads in
    let writes = g.R.Record.writes in
    let kind = g.R.Record.NUMBER in
    let w = world_of g.T.Tray.row c.args.book.now in
    let old = c.args.into.now in
    let asked = asked_of reads c.args.telegram.now c.args.room in
    let s = settled reads w old c.answer-said.new.into asked c.answer-said.result c.answer-said.ensures.answer c.answer-said.ensures.row in
    let fits = reply_fits reads w (length old) kind writes c.args.telegram.now c.args.room (length c.args.buffer.now) c.requires in
    let all = whole _ _ c.args.buffer.now (ap₂ (reply_to kind writes) s.told s.gives) fits in
    record {
      outcome = subst (λ r. Answered r asked (outcome_told (sent_told reads asked w (length old)))) (sym c.outcome.ensures) s.outcome;
      length = some_is _ _ (c.in-Some.ensures.length ∙ all.0);
      buffer = c.in-Some.ensures.bytes ∙ all.1;
      back = sent_back reads w (length old) writes g.R.Record.means kind g.met.R.Record.back asked c.answer-said.result s.told
          (subst₂ (λ t fs. ToldFits writes t fs) s.told s.gives c.in-Some.ensures.fits);
      state = c.answer-said.ensures.state;
      slots = c.answer-said.ensures.slots;
      memory = c.answer-said.ensures.memory;
      number = c.answer-said.ensures.number;
      row = c.answer-said.ensures.row;
    }
