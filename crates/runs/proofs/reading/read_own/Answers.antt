use Rattle.std.proofs.Common.{rules, ◌≡◌, length, ◌∙◌, arith}
use Rattle.std.proofs.lemmas.List.{with_items_is}
use Rattle.book.specs.Told.{told}
use Rattle.runs.specs.Answers.{answer_of, as_given, given}
use Rattle.runs.proofs.Given.{replied_with, read_told}
use Rattle.runs.proofs.reading.read_own.Goals as goal

pub returns : goal.returns
returns g c =
    let s = c.args.book.now.state in
    let row = g.T.Tray.row c.args.book.now.tray in
    let size : length c.deref_mut.result.now ≡ c.args.room = let e = c.in_ok-row.ensures in let l = c.deref_mut.ensures.len in omega arith in
    let filled : length c.ask.new.into ≡ c.in_ok-row.row.len = let k = c.ask.auto.into in let l = c.deref_mut.ensures.len in omega arith in
    let replied : answer_of c.map.result ≡ as_given (told c.ask.result) (given c.ask.result c.ask.new.into) =
    replied_with c.ask.new.into _ c.ask.result c.map.result (λ reading answer is. let same = with_items_is c.in_ok-row.row c.ask.new.into filled in search (rules, same)) c.map.ensures.cases in
    replied ∙ read_told g.R.Record.reads s row c.args.room c.args.read c.deref_mut.result.now c.ask.result _ size c.ask.ensures.answer c.ask.ensures.row
