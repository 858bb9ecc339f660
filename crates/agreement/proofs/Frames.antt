-- What a step leaves alone: a fact of each tablet, box or list element carries over to the next state if it holds where the step acts.
use mathlib.Core.Path.{◌≡◌}
use mathlib.Core.Logic.{◌⊎◌, inl, inr}
use mathlib.Core.List.{List, ◌∷◌}
use Rattle.agreement.specs.Lattice.{Among}
use Rattle.agreement.specs.Setting.{Setting, Contents}
use Rattle.agreement.specs.State.{TabletState, State}
use Rattle.agreement.specs.Steps.{OnTablet, OnBox}

-- Every element of the list is such.
abbrev pub Every : {A : Type 0} → (A → Type 0) → List A → Type 0
Every {A} P l = (x : A) → Among x l → P x

pub every-cons : {A : Type 0} (P : A → Type 0) (x : A) (l : List A) → P x → Every P l → Every P (x ∷ l)
every-cons P x l h k y (inl e) = rw e h
every-cons P x l h k y (inr m) = k y m

module _ {𝓢 : Setting} where
  pub on-tablet : (P : 𝓢.Tablet → TabletState 𝓢 → Type 0) {s s' : State 𝓢} {p : 𝓢.Tablet} {t t' : TabletState 𝓢} → OnTablet s s' p t t'
      → P p t' → ((q : 𝓢.Tablet) → ¬ (q ≡ p) → P q (s.tablets q)) → (q : 𝓢.Tablet) → P q (s'.tablets q)
  on-tablet P {s} {s'} {p} o h k q = go (o.others q)
    where
      go : (q ≡ p) ⊎ ((¬ (q ≡ p)) × (s'.tablets q ≡ s.tablets q)) → P q (s'.tablets q)
      go (inl e) = rw (e, o.now) h
      go (inr e) = rw e.1 (k q e.0)

  pub on-box : (P : 𝓢.Box → Contents 𝓢 → Type 0) {boxes boxes' : 𝓢.Box → Contents 𝓢} {r : 𝓢.Box} {z : Contents 𝓢}
      → OnBox boxes boxes' r z → P r z → ((q : 𝓢.Box) → P q (boxes q)) → (q : 𝓢.Box) → P q (boxes' q)
  on-box P {boxes} {boxes'} {r} o h k q = go (o.others q)
    where
      go : (q ≡ r) ⊎ (boxes' q ≡ boxes q) → P q (boxes' q)
      go (inl e) = rw (e, o.now) h
      go (inr e) = rw e (k q)
