-- Reading a field: what it takes from the bytes, and that a field that is written is the field that is read.
use Rattle.std.proofs.Common.{◌≡◌, ℕ, ◌+◌, ◌-◌, ◌*◌, ◌≤◌, Bool, true, false, cond, leb, List, [], ◌∷◌, ◌++◌, length, get_or, take, drop, Some, None, Ok, Err, Option, Result, sym, refl, ap, ◌∙◌, arith}
use Rattle.std.proofs.lemmas.List.{length-append, length-take-le, take-append-drop, take_at, take_rest, drop_at}
use Rattle.std.proofs.lemmas.Bool.{cond-true, le-leb, leb-true}
use Rattle.fields.specs.Layout.{Told, shape, parse_rest, parse_field, listed, lengths}

parsed_head : (t h l at : ℕ) (r : List ℕ) (o : Option Told) → h * 256 + l ≤ length r → o ≡ shape t (take (h * 256 + l) r) at → parse_rest o (drop (h * 256 + l) r) at ≡ parse_field (t ∷ h ∷ l ∷ r) at
unfolding parse_field
parsed_head t h l at r o fit es = sym (cond-true _ _ _ (le-leb _ _ fit) ∙ ap (λ o. parse_rest o (drop (h * 256 + l) r) at) (sym es))

pub parsed : (bs : List ℕ) (at n : ℕ) (o : Option Told) (v after rest : List ℕ) → 3 ≤ length bs → rest ≡ take (length bs - 3) (drop 3 bs) → n ≡ get_or bs 1 0 * 256 + get_or bs 2 0 → n ≤ length rest → v ≡ take n rest → after ≡ drop n rest → o ≡ shape (get_or bs 0 0) v at → parse_rest o after at ≡ parse_field bs at
parsed [] at n o v after rest long er en fit ev ea es = absurd (omega arith)
parsed (t ∷ []) at n o v after rest long er en fit ev ea es = absurd (omega arith)
parsed (t ∷ b ∷ []) at n o v after rest long er en fit ev ea es = absurd (omega arith)
parsed (t ∷ b ∷ d ∷ r) at n o v after rest long er en fit ev ea es =
    let q : rest ≡ r = er ∙ take_rest (t ∷ b ∷ d ∷ r) 3 in
    let fits : b * 256 + d ≤ length r = omega (arith, ap length q) in
    let ev' : v ≡ take (b * 256 + d) r = cc in
    let ea' : after ≡ drop (b * 256 + d) r = cc in
    ap (λ z. parse_rest o z at) ea' ∙ parsed_head t b d at r o fits (es ∙ ap (λ z. shape t z at) ev')

unshape : (b : Bool) (f g : Told) → Some f ≡ cond b (Some g) None → f ≡ g
unshape true f g e = cc
unshape false f g e = absurd (let z : ◌≡◌ {A = ℕ} 0 1 = cc in omega arith)

unrest : (o : Option Told) (left after : List ℕ) (at : ℕ) (f : Told) → Ok (f, after) ≡ parse_rest o left at → (Some f ≡ o) × (after ≡ left)
unrest (Some g) left after at f e =
    let q : (f, after) ≡ (g, left) = cc in
    (ap (λ (z : Told × List ℕ). Some z.0) q, ap (λ (z : Told × List ℕ). z.1) q)
unrest None left after at f e = absurd (let z : ◌≡◌ {A = ℕ} 0 1 = cc in omega arith)

unhead : (b : Bool) (x y z : Result (Told × List ℕ) ℕ) (at : ℕ) (p : Told × List ℕ) → z ≡ Ok p → z ≡ cond b x (Err at) → (b ≡ true) × (Ok p ≡ x)
unhead true x y z at p e h = (refl, sym e ∙ h)
unhead false x y z at p e h = absurd (let z : ◌≡◌ {A = ℕ} 0 1 = cc in omega arith)

-- what a field takes from the bytes: its tag, its length and its value stand before the bytes after it
pub took : (bs : List ℕ) (at : ℕ) (f : Told) (after : List ℕ) → Ok (f, after) ≡ parse_field bs at → (h : ℕ) × (l : ℕ) × (bs ≡ f.tag ∷ h ∷ l ∷ (f.value ++ after)) × (length f.value ≡ h * 256 + l)
unfolding parse_field
took [] at f after e = absurd (let z : ◌≡◌ {A = ℕ} 0 1 = cc in omega arith)
took (t ∷ []) at f after e = absurd (let z : ◌≡◌ {A = ℕ} 0 1 = cc in omega arith)
took (t ∷ h ∷ []) at f after e = absurd (let z : ◌≡◌ {A = ℕ} 0 1 = cc in omega arith)
took (t ∷ h ∷ l ∷ r) at f after e =
    let p = unhead (leb (h * 256 + l) (length r)) _ (Err at) _ at (f, after) refl e in
    let q = unrest _ _ _ _ _ p.1 in
    let v = sym (unshape _ _ _ q.0) in
    let value : take (h * 256 + l) r ≡ f.value = ap (λ (z : Told). z.value) v in
    let rest : r ≡ f.value ++ after = sym (take-append-drop (h * 256 + l) r) ∙ (λ i. value i ++ sym q.1 i) in
    (h, l, λ i. (v i).tag ∷ h ∷ l ∷ rest i, sym (ap length value) ∙ length-take-le (h * 256 + l) r (leb-true _ _ p.0))

pub whole : (bs : List ℕ) (at : ℕ) (f : Told) (after : List ℕ) → Ok (f, after) ≡ parse_field bs at → 3 + length f.value + length after ≡ length bs
whole bs at f after e = let t = took bs at f after e in omega (arith, ap length t.2, length-append f.value after)

-- a field that is written is the field that is read
pub field_back : (t h l at : ℕ) (v rest : List ℕ) → length v ≡ h * 256 + l → listed lengths t (length v) ≡ true → Ok (record { tag = t; value = v; place = at }, rest) ≡ parse_field (t ∷ h ∷ l ∷ (v ++ rest)) at
field_back t h l at v rest len is =
    let fit : h * 256 + l ≤ length (v ++ rest) = omega (arith, length-append v rest) in
    let front : take (h * 256 + l) (v ++ rest) ≡ v = take_at v rest (h * 256 + l) len in
    let back : drop (h * 256 + l) (v ++ rest) ≡ rest = drop_at v rest (h * 256 + l) len in
    ap (λ z. Ok (record { tag = t; value = v; place = at }, z)) (sym back)
    ∙ parsed_head t h l at (v ++ rest) (Some (record { tag = t; value = v; place = at })) fit (sym (cond-true _ _ _ is) ∙ ap (λ z. shape t z at) (sym front))
