-- Join-semilattices and their order (001, Section 2), and what stands in a list.
use Rattle.std.specs.Prelude.{◌≡◌, ◌⊎◌, List, [], ◌∷◌}

-- Joining: in any grouping, in any order, and a thing joined with itself is itself.
pub record Semilattice (A : Type 0) : Type 0 where
  pub join : A → A → A
  pub associative : (a b c : A) → join (join a b) c ≡ join a (join b c)
  pub commutative : (a b : A) → join a b ≡ join b a
  pub idempotent : (a : A) → join a a ≡ a

-- a ⊑ b: a joined to b adds nothing.
pub record AtMost {A : Type 0} (L : Semilattice A) (a b : A) : Type 0 where
  pub absorbed : L.join a b ≡ b

-- a stands in the list.
abbrev pub Among : {A : Type 0} → A → List A → Type 0
Among a [] = ⊥
Among a (x ∷ l) = (a ≡ x) ⊎ Among a l
