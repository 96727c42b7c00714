use Rattle.std.proofs.Common.{rules}
use Rattle.tray_tests.proofs.Whole.{whole}
use Rattle.tray_tests.proofs.put_open.Goals as goal

pub returns : goal.returns
returns c = record { answer = search rules; slots = search (rules, whole) }
