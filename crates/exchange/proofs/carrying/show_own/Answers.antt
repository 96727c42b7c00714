use Rattle.std.proofs.Common.{rules, ◌∙◌}
use Rattle.exchange.proofs.Keys.{shown_back, never_refused}
use Rattle.exchange.proofs.carrying.show_own.Goals as goal

pub returns : goal.returns
returns g c =
    let take = c.in_ok-key.ensures in
    let show = c.show-answer.ensures in
    let hand = c.in-Ok.ensures in
    let all = shown_back _ c.args.call c.in_ok-key.key c.args.book.now.state _ _ _ _ _ _ c.show-answer.result c.map.result take.answer take.state take.number show.answer show.state hand.answer hand.state
    (λ x y is. search rules) c.map.ensures.cases in
    record {
      answer = all.0;
      state = all.1;
      tray = hand.tray ∙ (show.tray ∙ take.tray);
      number = hand.number ∙ (show.number ∙ take.number);
    }

pub unreachable-requires : goal.unreachable-requires
unreachable-requires g c =
    let take = c.in_ok-key.ensures in
    let show = c.show-answer.ensures in
    let hand = c.in-Err.ensures in
    never_refused c.args.call c.in_ok-key.key c.args.book.now.state _ _ _ _ _ _ take.answer take.state take.number show.state show.number hand.answer
