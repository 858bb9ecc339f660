-- `fields_of` meets its contract: the layout says where each field of the kind stands.
use native.Mathlib.Omega.{arith}
use mathlib.Core.Path.{◌≡◌, refl, sym, ap, ap₂, ◌∙◌}
use mathlib.Core.List.{List, []}
use Prim.Native.Nat.{ℕ, ◌+◌}
use lib.ListN.{take, drop, get_or}
use Rattle.std.specs.Prelude.{None}
use Rattle.tape.specs.Bits.{num, bits, field_at}
use Rattle.tape.specs.Edition.{Field, first_edition}
use Rattle.tape.specs.declared.edition.Edition.TheVariants as E
use Rattle.tape.specs.Layout.{fields, numbers, laid_out, layout_of, fields_of, fields_in}
use Rattle.tape.specs.declared.Fields.{Fields}
use Rattle.tape.specs.declared.layout.Layout.{Layout}
use Rattle.tape.proofs.WordLaws.{field_top}
use Rattle.tape.proofs.LayoutLaws.{row-places, field-number, laid-out, not-laid}
use Rattle.tape.proofs.fields_of.Goals as goal

make : ℕ → ℕ → ℕ → ℕ → ℕ → Fields
make k a b c d = record { kind = k; first = a; second = b; third = c; fourth = d }

-- the fields, cut by the layout of the word's kind
fields-are : (x k : ℕ) (l : Layout) (a b c d : ℕ) → k ≡ field_at x 0 3 → l ≡ laid_out (fields first_edition k) → a ≡ field_at x 3 l.first → b ≡ field_at x (3 + l.first) l.second
    → c ≡ field_at x (3 + l.first + l.second) l.third → d ≡ field_at x (3 + l.first + l.second + l.third) l.fourth → make k a b c d ≡ fields_in first_edition x
unfolding make fields_in fields_of
fields-are x k l a b c d e f ha hb hc hd =
    let n : k ≡ num (take 3 (bits 64 x)) = e ∙ field_top x 3 (omega arith) in
    let p = row-places first_edition k in
    let r = laid_out (fields first_edition k) in
    let a₁ = ha ∙ ap (λ (m : Layout). field_at x 3 m.first) f ∙ field-number first_edition x k 3 0 n refl in
    let b₁ = hb ∙ ap (λ (m : Layout). field_at x (3 + m.first) m.second) f ∙ field-number first_edition x k (3 + r.first) 1 n p.0 in
    let c₁ = hc ∙ ap (λ (m : Layout). field_at x (3 + m.first + m.second) m.third) f ∙ field-number first_edition x k (3 + r.first + r.second) 2 n p.1 in
    let d₁ = hd ∙ ap (λ (m : Layout). field_at x (3 + m.first + m.second + m.third) m.fourth) f ∙ field-number first_edition x k (3 + r.first + r.second + r.third) 3 n p.2 in
    ap₂ (λ u v. make u v b c d) n a₁ ∙ ap₂ (λ u v. make (get_or (fields_of first_edition x) 0 0) (get_or (fields_of first_edition x) 1 0) u v d) b₁ c₁
    ∙ ap (make (get_or (fields_of first_edition x) 0 0) (get_or (fields_of first_edition x) 1 0) (get_or (fields_of first_edition x) 2 0) (get_or (fields_of first_edition x) 3 0)) d₁

-- a kind that has no layout has no fields
none-are : (x k : ℕ) → k ≡ field_at x 0 3 → None ≡ layout_of (fields first_edition k) → make k 0 0 0 0 ≡ fields_in first_edition x
unfolding make fields_in fields_of numbers
none-are x k e f =
    let n : k ≡ num (take 3 (bits 64 x)) = e ∙ field_top x 3 (omega arith) in
    let z : fields first_edition (num (take 3 (bits 64 x))) ≡ [] = ap (fields first_edition) (sym n) ∙ not-laid (fields first_edition k) f in
    ap (λ k. make k 0 0 0 0) n
    ∙ ap (λ (xs : List Field). make (num (take 3 (bits 64 x))) (get_or (numbers xs (drop 3 (bits 64 x))) 0 0) (get_or (numbers xs (drop 3 (bits 64 x))) 1 0) (get_or (numbers xs (drop 3 (bits 64 x))) 2 0) (get_or (numbers xs (drop 3 (bits 64 x))) 3 0)) (sym z)

pub returns-in_default : goal.returns-in_default
unfolding make
returns-in_default c = none-are c.args.word c.field-kind.result c.field-kind.ensures (sym c.in_default.is ∙ c.layout.ensures)

pub returns : goal.returns
unfolding make
returns c =
    let k = c.field-kind in
    let x = c.args.word in
    fields-are x k.result c.in-Some.layout c.field.result c.field-2.result c.field-3.result c.field-4.result
    k.ensures (laid-out E.First k.result c.in-Some.layout (sym c.in-Some.is ∙ c.layout.ensures)).is c.field.ensures c.field-2.ensures c.field-3.ensures c.field-4.ensures
