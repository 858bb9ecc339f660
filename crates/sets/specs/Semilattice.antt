-- Joining and containment, once for all that is joined set by set: sets, notes, configurations, books.
-- A semilattice is given by five laws; that containment is reflexive and transitive, and a join contains its sides, follows here.
use mathlib.Core.Bool.{Bool, true}
use mathlib.Core.Path.{◌≡◌, sym, ap, ◌∙◌}

pub record Semilattice {A : Type 0} (inside : A → A → Bool) (join : A → A → A) : Type 0 where
  pub assoc : (a b c : A) → join (join a b) c ≡ join a (join b c)
  pub comm : (a b : A) → join a b ≡ join b a
  pub idem : (a : A) → join a a ≡ a
  pub inside_eq : (a b : A) → inside a b ≡ true → join a b ≡ b
  pub eq_inside : (a b : A) → join a b ≡ b → inside a b ≡ true

-- ---- Containment is reflexive and transitive, and a join contains its sides

module _ {A : Type 0} {inside : A → A → Bool} {join : A → A → A} (l : Semilattice inside join) where
  pub contained-refl : (a : A) → inside a a ≡ true
  contained-refl a = l.eq_inside a a (l.idem a)

  pub contained-trans : (a b c : A) → inside a b ≡ true → inside b c ≡ true → inside a c ≡ true
  contained-trans a b c h k =
      l.eq_inside a c
      (ap (join a) (sym (l.inside_eq b c k)) ∙ sym (l.assoc a b c) ∙ ap (λ (x : A). join x c) (l.inside_eq a b h) ∙ l.inside_eq b c k)

  pub contained-left : (a b : A) → inside a (join a b) ≡ true
  contained-left a b = l.eq_inside a (join a b) (sym (l.assoc a a b) ∙ ap (λ (x : A). join x b) (l.idem a))

  pub contained-right : (a b : A) → inside b (join a b) ≡ true
  contained-right a b = ap (inside b) (l.comm a b) ∙ contained-left b a
