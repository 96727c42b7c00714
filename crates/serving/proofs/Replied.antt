-- A reply at the start of a buffer, and what is written of it.
use Rattle.std.proofs.Common.{◌≡◌, ℕ, ◌-◌, ◌≤◌, List, [], ◌∷◌, ◌++◌, length, take, drop, sym, refl, ap, ◌∙◌, append-nil, arith}
use Rattle.std.proofs.lemmas.List.{length-append, take_at}
use Rattle.exchange.specs.Answering.{replied}
use Rattle.framing.specs.Frames.{framed}
use Rattle.serving.specs.Sessions.{written}

pub within : (reply old new : List ℕ) (n : ℕ) → n ≡ length reply → new ≡ replied reply old → n ≤ length new
within reply old new n is stands = omega (arith, ap length stands, length-append reply (drop (length reply) old))

pub written_none : (out reply : List ℕ) (n : ℕ) → n ≡ length reply → n ≡ 0 → out ≡ out ++ written reply
unfolding written
written_none out [] n is none = sym (append-nil out)
written_none out (byte ∷ bytes) n is none = absurd (omega arith)

written_some : (reply : List ℕ) → (length reply ≡ 0 → ⊥) → framed reply ≡ written reply
unfolding written
written_some [] some = absurd (some refl)
written_some (byte ∷ bytes) some = refl

pub written_put : (out reply old new : List ℕ) (n : ℕ) → n ≡ length reply → new ≡ replied reply old → (n ≡ 0 → ⊥) → out ++ framed (take (n - 0) new) ≡ out ++ written reply
written_put out reply old new n is stands some =
    let front : take (n - 0) new ≡ reply = ap (take (n - 0)) stands ∙ take_at reply (drop (length reply) old) (n - 0) (omega arith) in
    ap (λ bytes. out ++ framed bytes) front ∙ ap (λ bytes. out ++ bytes) (written_some reply (λ none. some (is ∙ none)))
