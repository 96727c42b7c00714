-- The number and the layer of each refusal.
use Rattle.std.specs.Prelude.{ℕ}
use Rattle.book.specs.declared.fault.BookFault.{BookFault}
use Rattle.book.specs.declared.fault.BookFault.TheVariants.{NoRoom, ParamInvalid, IntervalInvalid, NotActive, NotInactive, TimeFalls, Full, NumbersUsedUp, UnknownMark, KeyOut, WrongKey}
use Rattle.book.specs.declared.fault.BookFault.TheVariants as Of
use Rattle.book.specs.Told.{fault_number as book_number}
use Rattle.requests.specs.declared.faults.Layer.{Layer}
use Rattle.requests.specs.declared.faults.Layer.TheVariants as In
use Rattle.requests.specs.declared.faults.TelegramFault.{TelegramFault}
use Rattle.requests.specs.declared.faults.TelegramFault.TheVariants.{Length, NoBuffer, Seal, Form, NoMethod, OtherKind, Book}

abbrev pub fault_number : TelegramFault → ℕ
fault_number Length = 11
fault_number NoBuffer = 10
fault_number Seal = 12
fault_number (Form at) = 13
fault_number NoMethod = 14
fault_number OtherKind = 17
fault_number (Book fault) = book_number fault

-- a record's refusal and a tray's, though carried by the book, keep their layer
abbrev pub book_layer : BookFault → Layer
book_layer NoRoom = In.Book
book_layer ParamInvalid = In.Book
book_layer IntervalInvalid = In.Book
book_layer NotActive = In.Book
book_layer NotInactive = In.Book
book_layer TimeFalls = In.Book
book_layer Full = In.Book
book_layer NumbersUsedUp = In.Book
book_layer UnknownMark = In.Book
book_layer KeyOut = In.Book
book_layer WrongKey = In.Book
book_layer (Of.Record fault) = In.Record
book_layer (Of.Tray fault) = In.Tray

abbrev pub fault_layer : TelegramFault → Layer
fault_layer Length = In.Telegram
fault_layer NoBuffer = In.Telegram
fault_layer Seal = In.Telegram
fault_layer (Form at) = In.Telegram
fault_layer NoMethod = In.Telegram
fault_layer OtherKind = In.Telegram
fault_layer (Book fault) = book_layer fault
