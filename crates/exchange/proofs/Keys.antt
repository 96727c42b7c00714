-- Telegrams that show the key: the key is in again after them.
use Rattle.std.proofs.Common.{◌≡◌, ℕ, Bool, true, false, cond, not, ◌||◌, eqb, Some, None, Ok, Err, Option, Result, MatchResult, IsOkAnd, sym, refl, ap, ◌∙◌, subst, subst₂, arith}
use Rattle.std.proofs.lemmas.Bool.{eq-eqb}
use Rattle.book.specs.declared.key.KeyPlace.{KeyPlace}
use Rattle.book.specs.declared.key.KeyPlace.TheVariants.{In, Out}
use Rattle.book.specs.declared.key.ServiceKey.{ServiceKey}
use Rattle.book.specs.declared.state.ListState.{ListState}
use Rattle.book.specs.declared.fault.BookFault.{BookFault}
use Rattle.book.specs.Told.{Told, Told.refused, Told.accepted, told, fault_number, verdict, tell, keep, decided, left}
use Rattle.book.specs.State.{with_key, out}
use Rattle.book.specs.Calls.{take_checks, key_of, key_checks}
use Rattle.runs.specs.declared.asked.Keyed.{Keyed}
use Rattle.runs.specs.Steps.{World, keyed_checks, keyed_state}
use Rattle.requests.specs.declared.faults.TelegramFault.{TelegramFault}
use Rattle.exchange.specs.declared.orders.Order.{Order}
use Rattle.exchange.specs.declared.orders.Order.TheVariants.{Enter, Listen, Show, Ask}
use Rattle.exchange.specs.Orders.{own_key_checks, own_key_state, order_checks, order_state}
use Rattle.exchange.specs.Answering.{sent_state}
use Rattle.exchange.specs.declared.orders.Said.{Said}
use Rattle.exchange.specs.declared.orders.Said.TheVariants.{Done}

pub refused_so : {X : Type 0} (v : Option ℕ) (n : ℕ) (x : X) → refused n ≡ tell v x → v ≡ Some n
refused_so None n x e = absurd (let z : ◌≡◌ {A = ℕ} 0 1 = cc in omega arith)
refused_so (Some m) n x e = cc

pub accepted_so : {X : Type 0} (v : Option ℕ) (x y : X) → accepted x ≡ tell v y → (v ≡ None) × (x ≡ y)
accepted_so None x y e = (refl, cc)
accepted_so (Some n) x y e = absurd (let z : ◌≡◌ {A = ℕ} 0 1 = cc in omega arith)

pub open_first : (b : Bool) (number : ℕ) (rest : Option ℕ) → cond b (Some number) rest ≡ None → b ≡ false
open_first true number rest e = absurd (let z : ◌≡◌ {A = ℕ} 0 1 = cc in omega arith)
open_first false number rest e = refl

in_then : (k : KeyPlace) → out k ≡ false → k ≡ In
in_then In e = refl
in_then Out e = absurd (let z : ◌≡◌ {A = ℕ} 0 1 = cc in omega arith)

-- the checks of a call with the key in hand are those after the taking; the key is in again after it
back_in : (call : Keyed) (s : ListState) (number : ℕ) (v : Option ℕ) (end : ListState) → out s.key ≡ false
    → verdict (keyed_checks call (with_key Out s) number number) ≡ v
    → end ≡ with_key In (keep v (keyed_state call (with_key Out s)) (with_key Out s))
    → (verdict (own_key_checks call s number) ≡ v) × (end ≡ keep v (own_key_state call s) s)
back_in call s number None end e is ends = (ap (λ b. cond b (Some 26) (verdict (keyed_checks call (with_key Out s) number number))) e ∙ is, ends)
back_in call s number (Some n) end e is ends =
    (ap (λ b. cond b (Some 26) (verdict (keyed_checks call (with_key Out s) number number))) e ∙ is, ends ∙ ap (λ k. with_key k s) (sym (in_then s.key e)))

-- what is told of a call that is done
done_told : (P : Unit {0} → Said → Type 0) (v : Option ℕ) (r : Result (Unit {0}) BookFault) (said : Result Said BookFault) → ((x : Unit {0}) (y : Said) → P x y → y ≡ Done)
    → told r ≡ tell v tt → MatchResult r (λ x. IsOkAnd said (P x)) (λ fault. said ≡ Err fault) → told said ≡ tell v Done
done_told P None (Ok x) (Ok y) done e is = ap accepted (done x y is)
done_told P None (Ok x) (Err fault) done e is = absurd is
done_told P None (Err fault) said done e is = absurd (let z : ◌≡◌ {A = ℕ} 0 1 = cc in omega arith)
done_told P (Some n) (Ok x) said done e is = absurd (let z : ◌≡◌ {A = ℕ} 0 1 = cc in omega arith)
done_told P (Some n) (Err fault) said done e is = ap told is ∙ (let same : fault_number fault ≡ n = cc in ap refused same)

-- taking the key, showing it and handing it back, by what each tells
pub shown_back : (P : Unit {0} → Said → Type 0) (call : Keyed) (key : ServiceKey) (s s1 s2 end : ListState) (number n1 n2 : ℕ) (r : Result (Unit {0}) BookFault) (said : Result Said BookFault)
    → accepted key ≡ decided (take_checks s) (key_of number) → s1 ≡ left (take_checks s) (with_key Out s) s → n1 ≡ number
    → told r ≡ decided (keyed_checks call s1 n1 key.book) tt → s2 ≡ left (keyed_checks call s1 n1 key.book) (keyed_state call s1) s1
    → ◌≡◌ {A = Told (Unit {0})} (accepted tt) (decided (key_checks s2 n2 key.book) tt)
    → end ≡ left (key_checks s2 n2 key.book) (with_key In s2) s2
    → ((x : Unit {0}) (y : Said) → P x y → y ≡ Done) → MatchResult r (λ x. IsOkAnd said (P x)) (λ fault. said ≡ Err fault)
    → (told said ≡ decided (own_key_checks call s number) Done) × (end ≡ left (own_key_checks call s number) (own_key_state call s) s)
shown_back P call key s s1 s2 end number n1 n2 r said took state1 same1 told_so state2 handed_so ends done is =
    let taken = accepted_so (verdict (take_checks s)) key (key_of number) took in
    let is_in : out s.key ≡ false = open_first (out s.key) 26 None taken.0 in
    let own : key.book ≡ number = ap (λ k. k.book) taken.1 in
    let with_it : s1 ≡ with_key Out s = state1 ∙ ap (λ v. keep v (with_key Out s) s) taken.0 in
    let back : end ≡ with_key In s2 = ends ∙ ap (λ v. keep v (with_key In s2) s2) (accepted_so (verdict (key_checks s2 n2 key.book)) tt tt handed_so).0 in
    let v : Option ℕ = verdict (keyed_checks call (with_key Out s) number number) in
    let Q : ListState → ℕ → ℕ → Type 0 = λ t m k. (told r ≡ decided (keyed_checks call t m k) tt) × (s2 ≡ left (keyed_checks call t m k) (keyed_state call t) t) in
    let all : Q (with_key Out s) number number = subst (λ t. Q t number number) with_it (subst₂ (λ m k. Q s1 m k) same1 own (told_so, state2)) in
    let own_so = back_in call s number v end is_in refl (back ∙ ap (with_key In) all.1) in (
      done_told P v r said done all.0 is ∙ ap (λ o. tell o Done) (sym own_so.0),
      own_so.1 ∙ ap (λ o. keep o (own_key_state call s) s) (sym own_so.0),
    )

-- a telegram leaves the key where it was
pub key_stays : {R : Type 0} (asked : Result (Order R) TelegramFault) (w : World) (n : ℕ) → (sent_state asked w n).key ≡ w.state.key
key_stays (Err fault) w n = refl
key_stays (Ok order) w n = go order (verdict (order_checks order w n)) refl
  where
    go : {R : Type 0} (order : Order R) (v : Option ℕ) → verdict (order_checks order w n) ≡ v → (keep v (order_state order w) w.state).key ≡ w.state.key
    go order (Some number) e = refl
    go (Enter time r) None e = refl
    go (Listen party mark level) None e = refl
    go (Ask read) None e = refl
    go (Show call) None e = sym (in_then w.state.key (open_first (out w.state.key) 26 _ e))

-- a call that shows the key leaves it where it was
keyed_place : (call : Keyed) (s : ListState) → (keyed_state call s).key ≡ s.key
keyed_place Keyed.Start s = refl
keyed_place Keyed.Stop s = refl
keyed_place (Keyed.SetMode mode) s = refl
keyed_place (Keyed.Release position) s = refl

kept_place : (v : Option ℕ) (call : Keyed) (s : ListState) → (keep v (keyed_state call s) s).key ≡ s.key
kept_place None call s = keyed_place call s
kept_place (Some n) call s = refl

-- handing back what was taken is never refused
pub never_refused : (call : Keyed) (key : ServiceKey) (s s1 s2 : ListState) (number n1 n2 n : ℕ)
    → accepted key ≡ decided (take_checks s) (key_of number) → s1 ≡ left (take_checks s) (with_key Out s) s → n1 ≡ number
    → s2 ≡ left (keyed_checks call s1 n1 key.book) (keyed_state call s1) s1 → n2 ≡ n1
    → ◌≡◌ {A = Told (Unit {0})} (refused n) (decided (key_checks s2 n2 key.book) tt) → ⊥
never_refused call key s s1 s2 number n1 n2 n took state1 same1 state2 same2 handed_so =
    let taken = accepted_so (verdict (take_checks s)) key (key_of number) took in
    let out1 : s1.key ≡ Out = ap (λ t. t.key) (state1 ∙ ap (λ v. keep v (with_key Out s) s) taken.0) in
    let out2 : s2.key ≡ Out = ap (λ t. t.key) state2 ∙ kept_place (verdict (keyed_checks call s1 n1 key.book)) call s1 ∙ out1 in
    let own : key.book ≡ n2 = ap (λ k. k.book) taken.1 ∙ sym (same2 ∙ same1) in
    let same : eqb key.book n2 ≡ true = eq-eqb key.book n2 own in
    let fine : verdict (key_checks s2 n2 key.book) ≡ None =
    ap (λ p. cond (not (out p) || not (eqb key.book n2)) (Some 27) None) out2 ∙ ap (λ b. cond (not b) (Some 27) None) same in
    let so = refused_so (verdict (key_checks s2 n2 key.book)) n tt handed_so in
    absurd (let z : ◌≡◌ {A = ℕ} 0 1 = cc in omega arith)
