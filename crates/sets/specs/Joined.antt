-- Sets are joined by union; what consists of two parts is joined and compared part by part (01, Books, boxes and containment: "set by set").
use Rattle.std.specs.Prelude.{ℕ, Bool, ◌≡◌}
use Rattle.std.proofs.Common.{sym, ap, ap₂, ◌∙◌, arith}
use Rattle.std.proofs.lemmas.Bool.{and_parts, and_from, eqb-true, eq-eqb}
use Rattle.std.proofs.lemmas.Nat.{or_comm}
use Rattle.std.proofs.lemmas.Nat.Bits.{bit_at_or, same_from_bits}
use Rattle.std.specs.Int.Bits.{or_self}
use Rattle.sets.specs.Choice.{both}
use Rattle.sets.specs.Sets.{union, inside}
use Rattle.sets.specs.Semilattice.{Semilattice}

union_assoc : (a b c : ℕ) → union (union a b) c ≡ union a (union b c)
union_assoc a b c = same_from_bits _ _ (λ n. omega (arith, bit_at_or (union a b) c n, bit_at_or a b n, bit_at_or a (union b c) n, bit_at_or b c n))

pub sets-joined : Semilattice inside union
sets-joined =
    record {
      assoc = union_assoc;
      comm = or_comm;
      idem = or_self;
      inside_eq = λ a b. eqb-true (union a b) b;
      eq_inside = λ a b. eq-eqb (union a b) b;
    }

-- ---- What consists of two parts
module _ {X A B : Type 0} {insideA : A → A → Bool} {joinA : A → A → A} {insideB : B → B → Bool} {joinB : B → B → B}
    (left : X → A) (right : X → B) (make : A → B → X)
    (left-make : (a : A) (b : B) → left (make a b) ≡ a) (right-make : (a : A) (b : B) → right (make a b) ≡ b) (make-parts : (x : X) → make (left x) (right x) ≡ x) where
  pub parts-joined : Semilattice insideA joinA → Semilattice insideB joinB
      → Semilattice (λ (x y : X). both (insideA (left x) (left y)) (insideB (right x) (right y)))
      (λ (x y : X). make (joinA (left x) (left y)) (joinB (right x) (right y)))
  parts-joined l m =
      record {
        assoc = λ x y z.
            ap₂ make (ap (λ (a : A). joinA a (left z)) (left-make _ _) ∙ l.assoc (left x) (left y) (left z) ∙ ap (joinA (left x)) (sym (left-make _ _)))
            (ap (λ (b : B). joinB b (right z)) (right-make _ _) ∙ m.assoc (right x) (right y) (right z) ∙ ap (joinB (right x)) (sym (right-make _ _)));
        comm = λ x y. ap₂ make (l.comm (left x) (left y)) (m.comm (right x) (right y));
        idem = λ x. ap₂ make (l.idem (left x)) (m.idem (right x)) ∙ make-parts x;
        inside_eq = λ x y h.
            ap₂ make (l.inside_eq (left x) (left y) (and_parts _ _ h).0) (m.inside_eq (right x) (right y) (and_parts _ _ h).1) ∙ make-parts y;
        eq_inside = λ x y e.
            and_from _ _ (l.eq_inside (left x) (left y) (sym (left-make _ _) ∙ ap left e))
            (m.eq_inside (right x) (right y) (sym (right-make _ _) ∙ ap right e));
      }
