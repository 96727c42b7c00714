-- What shuts a word out: after a `-` no number, zero or one above 600; without one no number or one above 600.
use Rattle.std.proofs.Common.{◌≡◌, ◌^◌, ◌<◌, Some, None, sym, subst, arith, rules}
use Rattle.std.proofs.lemmas.Str.Pattern.{strip_prefix_char}
use Rattle.wording.specs.Numbers.{Tenths}
use Rattle.wording.proofs.Tenths.{below_none, above_none, same_number}
use Rattle.wording.proofs.numbers.tenths.Goals as goal

pub returns-in_err-number-in-Some-clause-exact : goal.returns-in_err-number-in-Some-clause-exact
returns-in_err-number-in-Some-clause-exact c =
    subst (Tenths c.args.word.now) (sym c.from_residual.ensures)
    (below_none c.args.word.now c.in-Some.digits.now
    (strip_prefix_char 45 c.args.word.now (Some c.in-Some.digits) c.in-Some.ensures.cases (omega arith))
    (λ n some small e. c.in_err-number-in-Some.ensures n (omega (arith, small)) e))

pub returns-in_err-number-in-None-clause-exact : goal.returns-in_err-number-in-None-clause-exact
returns-in_err-number-in-None-clause-exact c =
    subst (Tenths c.args.word.now) (sym c.from_residual-in_err-number-in-None.ensures)
    (above_none c.args.word.now (strip_prefix_char 45 c.args.word.now None c.in-None.ensures.cases (omega arith))
    (λ n small e. c.in_err-number-in-None.ensures n (omega (arith, small)) e))

pub returns-in_default-clause-exact : goal.returns-in_default-clause-exact
returns-in_default-clause-exact c =
    let zero : c.in_ok-number-in-Some.number < 1 = search rules in
    below_none c.args.word.now c.in-Some.digits.now
    (strip_prefix_char 45 c.args.word.now (Some c.in-Some.digits) c.in-Some.ensures.cases (omega arith))
    (λ n some small e.
    let same : c.in_ok-number-in-Some.number ≡ n = same_number c.in-Some.digits.now _ n (omega (arith, zero)) small c.in_ok-number-in-Some.ensures e in
    omega (arith, same, some, zero))

pub returns-in_default-3-clause-exact : goal.returns-in_default-3-clause-exact
returns-in_default-3-clause-exact c =
    let fits : c.in_ok-number-in-Some.number < 2 ^ 32 = search rules in
    let above : 600 < c.in_ok-number-in-Some.number = search rules in
    below_none c.args.word.now c.in-Some.digits.now
    (strip_prefix_char 45 c.args.word.now (Some c.in-Some.digits) c.in-Some.ensures.cases (omega arith))
    (λ n some small e.
    let same : c.in_ok-number-in-Some.number ≡ n = same_number c.in-Some.digits.now _ n fits small c.in_ok-number-in-Some.ensures e in
    omega (arith, same, small, above))

pub returns-in_default-2-clause-exact : goal.returns-in_default-2-clause-exact
returns-in_default-2-clause-exact c =
    let fits : c.in_ok-number-in-None.number < 2 ^ 32 = search rules in
    let above : 600 < c.in_ok-number-in-None.number = search rules in
    above_none c.args.word.now (strip_prefix_char 45 c.args.word.now None c.in-None.ensures.cases (omega arith))
    (λ n small e.
    let same : c.in_ok-number-in-None.number ≡ n = same_number c.args.word.now _ n fits small c.in_ok-number-in-None.ensures e in
    omega (arith, same, small, above))
