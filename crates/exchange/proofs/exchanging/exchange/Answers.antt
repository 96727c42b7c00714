use Rattle.std.proofs.Common.{◌≡◌, ℕ, ◌≤◌, min, ◌++◌, length, take, drop, sym, ap, ◌∙◌, subst, ap₂, subst₂, arith, take_at}
use Rattle.std.proofs.lemmas.List.{length-take}
use Rattle.std.proofs.lemmas.Bool.{eqb-false}
use Rattle.runs.specs.Steps.{world}
use Rattle.exchange.specs.Orders.{asked_of, usable, frame_room}
use Rattle.exchange.specs.Answering.{Answered, sent_told, sent_gives, outcome_told, sent_reply, replied, sent_state, sent_slots, sent_row}
use Rattle.exchange.specs.Back.{ReadBack}
use Rattle.exchange.proofs.Keys.{key_stays}
use Rattle.exchange.proofs.Answered.{some_bytes, row_whole}
use Rattle.exchange.proofs.exchanging.exchange.Goals as goal

pub returns : goal.returns
returns g c =
    let reads = g.R.Record.reads in
    let writes = g.R.Record.writes in
    let means = g.R.Record.means in
    let kind = g.R.Record.NUMBER in
    let b = c.args.book.now in
    let w = world b.number b.state (g.T.Tray.row b.tray) in
    let telegram = c.args.telegram.now in
    let into = c.args.into.now in
    let frames : ℕ = frame_room (length into) (length c.args.buffer.now) in
    let asked = asked_of reads telegram (usable (length into) (length c.args.buffer.now)) in
    let room = c.usable-room.ensures in
    let all = c.serve.ensures in
    let few : frames ≤ length into = omega arith in
    let count : c.frame_room-frames.result ≡ frames = omega (arith, c.frame_room-frames.ensures) in
    let whole-front : min frames (length into) ≡ frames = omega (arith, few) in
    let size : length (take (c.frame_room-frames.result) into) ≡ frames = omega (arith, length-take (c.frame_room-frames.result) into, c.frame_room-frames.ensures) in
    let reply = sent_reply reads kind writes asked w frames in
    let long : c.serve.result.reply ≡ length reply = all.length ∙ ap₂ (λ r n. length (sent_reply reads kind writes (asked_of reads telegram r) w n)) room size in
    let laid : c.serve.new.buffer ≡ replied reply c.args.buffer.now = all.buffer ∙ ap₂ (λ r n. replied (sent_reply reads kind writes (asked_of reads telegram r) w n) c.args.buffer.now) room size in
    let written : take c.serve.result.reply c.serve.new.buffer ≡ reply = ap (take c.serve.result.reply) laid ∙ take_at reply _ _ (sym long) in
    record {
      outcome = some_bytes reads telegram _ _ w frames (λ e. eqb-false (length telegram) 0 (sym c.is_empty.ensures ∙ c.if-is_empty.false) (ap length e))
          (subst₂ (λ r n. Answered c.serve.result.outcome (asked_of reads telegram r) (outcome_told (sent_told reads (asked_of reads telegram r) w n))) room size all.outcome);
      length = long;
      buffer = laid;
      back = subst (λ bs. ReadBack reads writes means kind bs (sent_told reads asked w frames) (sent_gives reads asked w frames)) (sym written)
          (subst₂ (λ r n. ReadBack reads writes means kind (sent_reply reads kind writes (asked_of reads telegram r) w n) (sent_told reads (asked_of reads telegram r) w n) (sent_gives reads (asked_of reads telegram r) w n)) room size all.back);
      state = all.state ∙ ap₂ (λ r n. sent_state (asked_of reads telegram r) w n) room size;
      key = ap (λ st. st.key) all.state ∙ key_stays (asked_of reads telegram c.usable-room.result) w _;
      slots = all.slots ∙ ap₂ (λ r n. sent_slots writes (asked_of reads telegram r) w n) room size;
      memory = all.memory;
      number = all.number;
      row = ap₂ (λ front n. front ++ drop n into) (all.row ∙ ap₂ (λ r n. sent_row reads (asked_of reads telegram r) w (length (take n into)) (take n into)) room count) count
          ∙ ap (λ n. sent_row reads asked w n (take frames into) ++ drop frames into) (length-take frames into ∙ whole-front)
          ∙ row_whole reads w frames asked into few;
    }
