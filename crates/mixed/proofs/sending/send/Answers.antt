use Rattle.std.proofs.Common.{◌≡◌, ℕ, length, take, vec_items, ap, ◌∙◌, ap₂, arith}
use Rattle.std.proofs.lemmas.List.{with_items_is}
use Rattle.runs.specs.Steps.{world, world_of}
use Rattle.mixed.specs.Kinds.{numbered}
use Rattle.mixed.specs.Uses.{Use.sent, use_seen, use_after}
use Rattle.mixed.proofs.Settles.{sent_seen}
use Rattle.mixed.proofs.sending.send.Goals as goal

pub returns : goal.returns
returns g c =
    let K = numbered g.R.Record in
    let w = world_of g.T.Tray.row c.args.book.now in
    let does = c.exchange-served.ensures in
    let bytes = c.args.bytes.now in
    let row : length c.deref_mut.result.now ≡ c.args.frames = let e = c.in_ok-row.ensures in let l = c.deref_mut.ensures.len in omega arith in
    let out : length c.deref_mut-2.result.now ≡ c.args.buffer = let e = c.in_ok-reply.ensures in let l = c.deref_mut-2.ensures.len in omega arith in
    let filled : length c.exchange-served.new.buffer ≡ c.in_ok-reply.reply.len = let k = c.exchange-served.auto.buffer in let l = c.deref_mut-2.ensures.len in omega arith in
    let got : vec_items c.truncate.new.self ≡ take c.exchange-served.result.reply c.exchange-served.new.buffer =
    c.truncate.ensures.items ∙ ap (take c.exchange-served.result.reply) (with_items_is c.in_ok-reply.reply c.exchange-served.new.buffer filled) in
    record {
      seen = sent_seen K w bytes (length c.deref_mut.result.now) (length c.deref_mut-2.result.now) _ _ c.deref_mut-2.result.now _ c.requires got does.length does.buffer does.back
          ∙ ap₂ (λ (f n : ℕ). use_seen K (sent bytes f n) w) row out;
      left = (let s = does.state in let r = does.slots in let n = does.number in λ j. world (n j) (s j) (r j))
          ∙ ap₂ (λ (f n : ℕ). use_after K (sent bytes f n) w) row out;
      key = does.key;
      memory = does.memory;
      number = does.number;
    }
