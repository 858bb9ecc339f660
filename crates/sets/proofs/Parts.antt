-- Tests of equality: what consists of two parts, each compared by itself, is compared part by part, and its test decides where theirs do.
use mathlib.Core.Bool.{Bool, true, false}
use mathlib.Core.Path.{◌≡◌, refl, sym, ap, ap₂, ◌∙◌}
use lib.Dec.{eqb}
use Rattle.std.proofs.lemmas.Bool.{and_parts, and_from, true≢false, eqb-true, eq-eqb}
use Rattle.sets.specs.Choice.{both}

-- the test holds of equals and of nothing else
pub record Decides {A : Type 0} (same : A → A → Bool) : Type 0 where
  pub same_eq : (a b : A) → same a b ≡ true → a ≡ b
  pub eq_same : (a b : A) → a ≡ b → same a b ≡ true

pub numbers-decided : Decides eqb
numbers-decided = record { same_eq = eqb-true; eq_same = eq-eqb }

module _ {X A B : Type 0} {sameA : A → A → Bool} {sameB : B → B → Bool} (left : X → A) (right : X → B) (make : A → B → X)
    (make-parts : (x : X) → make (left x) (right x) ≡ x) where
  pub parts-decided : Decides sameA → Decides sameB → Decides (λ (x y : X). both (sameA (left x) (left y)) (sameB (right x) (right y)))
  parts-decided d e =
      record {
        same_eq =
            λ x y h. let s = and_parts (sameA (left x) (left y)) (sameB (right x) (right y)) h in
            sym (make-parts x) ∙ ap₂ make (d.same_eq (left x) (left y) s.0) (e.same_eq (right x) (right y) s.1) ∙ make-parts y;
        eq_same = λ x y h. and_from _ _ (d.eq_same (left x) (left y) (ap left h)) (e.eq_same (right x) (right y) (ap right h));
      }

module _ {A : Type 0} {same : A → A → Bool} (d : Decides same) where
  pub ne_same : (a b : A) → (a ≡ b → ⊥) → same a b ≡ false
  ne_same a b n = go (same a b) refl
    where
      go : (t : Bool) → same a b ≡ t → same a b ≡ false
      go true h = absurd (n (d.same_eq a b h))
      go false h = h

  pub same-ne : (a b : A) → same a b ≡ false → a ≡ b → ⊥
  same-ne a b h e = true≢false (sym (d.eq_same a b e) ∙ h)
