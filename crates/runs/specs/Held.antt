-- That the key in hand is its book's while it is out can be so in one way alone, as the field `held` of a session needs.
use Rattle.std.specs.Prelude.{◌≡◌, ℕ, Bool, true, false, Some, None, Option, refl}
use Rattle.std.specs.Coded.{Coded, Coded-set, code_by, coded_ℕ, coded_bool, ×_prop}
use Rattle.book.specs.declared.key.KeyPlace.{KeyPlace}
use Rattle.book.specs.declared.key.KeyPlace.TheVariants.{In, Out}
use Rattle.book.specs.declared.key.ServiceKey.{ServiceKey}
use Rattle.book.specs.State.{out}
use Rattle.runs.specs.Steps.{HeldKey}

abbrev place_of : Bool → KeyPlace
place_of false = In
place_of true = Out

place_again : (place : KeyPlace) → place_of (out place) ≡ place
place_again In = refl
place_again Out = refl

place_code : Coded KeyPlace
place_code = code_by Bool coded_bool out place_of place_again

pub held_one_way : (key : Option ServiceKey) (number : ℕ) (place : KeyPlace) → IsProp (HeldKey key number place)
held_one_way (Some key) number place = ×_prop (Coded-set coded_ℕ key.book number) (Coded-set place_code place Out)
held_one_way None number place = Coded-set place_code place In
