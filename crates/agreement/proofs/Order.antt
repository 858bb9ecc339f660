-- Laws of the order of a semilattice, and of containment of books: both are reflexive and transitive, and a join is the least bound.
use mathlib.Core.Path.{◌≡◌, sym, ◌∙◌, ap}
use Rattle.agreement.specs.Lattice.{Semilattice, AtMost}
use Rattle.agreement.specs.Setting.{Setting, Book, Contained}

module _ {A : Type 0} {L : Semilattice A} where
  pub at-most-refl : {a : A} → AtMost L a a
  at-most-refl {a} = record { absorbed = L.idempotent a }

  pub at-most-of-eq : {a b : A} → a ≡ b → AtMost L a b
  at-most-of-eq {a} {b} e = record { absorbed = rw e (L.idempotent b) }

  pub at-most-trans : {a b c : A} → AtMost L a b → AtMost L b c → AtMost L a c
  at-most-trans {a} {b} {c} p q = record {
    absorbed =
        ap (λ (x : A). L.join a x) (sym q.absorbed)
        ∙ sym (L.associative a b c)
        ∙ ap (λ (x : A). L.join x c) p.absorbed
        ∙ q.absorbed;
  }

  pub at-most-antisymm : {a b : A} → AtMost L a b → AtMost L b a → a ≡ b
  at-most-antisymm {a} {b} p q = sym q.absorbed ∙ L.commutative b a ∙ p.absorbed

  pub at-most-join-left : (a b : A) → AtMost L a (L.join a b)
  at-most-join-left a b = record { absorbed = sym (L.associative a a b) ∙ ap (λ (x : A). L.join x b) (L.idempotent a) }

  pub at-most-join-right : (a b : A) → AtMost L b (L.join a b)
  at-most-join-right a b = at-most-trans (at-most-join-left b a) (at-most-of-eq (L.commutative b a))

  pub join-at-most : {a b c : A} → AtMost L a c → AtMost L b c → AtMost L (L.join a b) c
  join-at-most {a} {b} {c} p q = record { absorbed = L.associative a b c ∙ ap (λ (x : A). L.join a x) q.absorbed ∙ p.absorbed }

module _ {𝓢 : Setting} where
  pub contained-refl : {a : Book 𝓢} → Contained a a
  contained-refl = record { notes = at-most-refl; configuration = at-most-refl }

  pub contained-of-eq : {a b : Book 𝓢} → a ≡ b → Contained a b
  contained-of-eq e = rw e contained-refl

  pub contained-trans : {a b c : Book 𝓢} → Contained a b → Contained b c → Contained a c
  contained-trans p q = record {
    notes = at-most-trans p.notes q.notes;
    configuration = at-most-trans p.configuration q.configuration;
  }
