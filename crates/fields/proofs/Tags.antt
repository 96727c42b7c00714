-- The table of lengths has a line for each tag, and no other.
use Rattle.std.proofs.Common.{◌≡◌, ◌≢◌, ℕ, false, eqb, List, [], ◌∷◌, length, Some, None, sym, ap, ◌∙◌, refl, rules}
use Rattle.std.specs.List.{AllByRecursion}
use Rattle.std.proofs.lemmas.Bool.{cond-true, cond-false, eq-eqb, ne_eqb}
use Rattle.fields.specs.Layout.{tag_number, lengths, length_in, listed, shape}
use Rattle.fields.specs.declared.tag.Tag.{Tag}
use Rattle.fields.specs.declared.tag.Tag.TheVariants.{Method, Time, Position, Limit, FillLevel, Party, LastTime, Words, Status, FromTime, FromPosition, TillTime, TillPosition, Missed, Version, Count, Called, Frame}

listed_tag : (t : Tag) (k : ℕ) → listed lengths (tag_number t) k ≡ eqb k (length_in lengths (tag_number t))
listed_tag t k = search rules

none_listed : (rows : List (ℕ × ℕ)) (n k : ℕ) → AllByRecursion (λ row. row.0 ≢ n) rows → listed rows n k ≡ false
none_listed [] n k h = refl
none_listed (row ∷ rows) n k h = search (rules, none_listed rows n k h.1)

no_tag : (n k : ℕ) → ((t : Tag) → tag_number t ≢ n) → listed lengths n k ≡ false
no_tag n k h =
    none_listed lengths n k
    (h Method, (h Time, (h Position, (h Limit, (h FillLevel, (h Party, (h LastTime, (h Words, (h Status, (h FromTime, (h FromPosition, (h TillTime, (h TillPosition, (h Missed, (h Version, (h Count, (h Called, (h Frame, tt))))))))))))))))))

pub shaped : (t : Tag) (n at : ℕ) (v : List ℕ) → tag_number t ≡ n → length v ≡ length_in lengths (tag_number t) → Some (record { tag = tag_number t; value = v; place = at }) ≡ shape n v at
shaped t n at v is long =
    sym (cond-true _ _ _ (listed_tag t (length v) ∙ eq-eqb _ _ long)) ∙ ap (λ n. shape n v at) is

pub not_shaped : (t : Tag) (n at : ℕ) (v : List ℕ) → tag_number t ≡ n → length v ≢ length_in lengths (tag_number t) → None ≡ shape n v at
not_shaped t n at v is other =
    sym (cond-false _ _ _ (listed_tag t (length v) ∙ ne_eqb _ _ other)) ∙ ap (λ n. shape n v at) is

pub unknown : (n at : ℕ) (v : List ℕ) → ((t : Tag) → tag_number t ≢ n) → None ≡ shape n v at
unknown n at v none = sym (cond-false _ _ _ (no_tag n (length v) none))
