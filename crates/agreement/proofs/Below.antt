-- Laws of ⊑* (Below), of decide, and of the queried configurations.
--   below-trans       ⊑* is transitive (Property 5.1)
--   decide-monotone   x ⊑* y gives decide x ⊑ decide y (Lemma 5.2)
--   queried-of-below  if a ⊑* b, and b's configuration is at most the one that a decides, then b queries the one that a decides (the end of Lemma 5.4)
use mathlib.Core.Path.{◌≡◌, refl}
use mathlib.Core.Logic.{inl, inr}
use Rattle.agreement.specs.Lattice.{AtMost}
use Rattle.agreement.specs.Setting.{Setting, Contents, Contained, decide, Below, Queried, Knows}
use Rattle.agreement.proofs.Order.{at-most-refl, at-most-trans, at-most-antisymm}

-- A configuration joined with no change is itself.
pub joined-none : (𝓢 : Setting) (c : 𝓢.Configuration) → 𝓢.joined c 𝓢.no_changes ≡ c
joined-none 𝓢 c = at-most-antisymm
    (𝓢.joined_least c 𝓢.no_changes c at-most-refl (λ u i. absurd (𝓢.in_no_changes u i)))
    (𝓢.joined_base c 𝓢.no_changes)

module _ {𝓢 : Setting} where
  pub below-refl : {x : Contents 𝓢} → Below x x
  below-refl = record { configuration = at-most-refl; candidates = at-most-refl; changes = λ u i. inr i }

  pub below-trans : {x y z : Contents 𝓢} → Below x y → Below y z → Below x z
  below-trans {x} {y} {z} p q = record {
    configuration = at-most-trans p.configuration q.configuration;
    candidates = at-most-trans p.candidates q.candidates;
    changes = λ u i. go u (p.changes u i);
  }
    where
      go : (u : 𝓢.Configuration) → Knows y u → Knows z u
      go u (inl h) = inl (at-most-trans h q.configuration)
      go u (inr i) = q.changes u i

  -- A change that is contained in y's configuration or among y's changes is contained in what y decides.
  pub change-decided : (y : Contents 𝓢) (u : 𝓢.Configuration) → Knows y u → AtMost 𝓢.configurations u (decide y).configuration
  change-decided y u (inl h) = at-most-trans h (𝓢.joined_base y.committed.configuration y.changes)
  change-decided y u (inr i) = 𝓢.joined_change y.committed.configuration y.changes u i

  pub decide-monotone : {x y : Contents 𝓢} → Below x y → Contained (decide x) (decide y)
  decide-monotone {x} {y} p = record {
    notes = p.candidates;
    configuration = 𝓢.joined_least x.committed.configuration x.changes (decide y).configuration
        (at-most-trans p.configuration (𝓢.joined_base y.committed.configuration y.changes))
        (λ u i. change-decided y u (p.changes u i));
  }

  -- The whole of T: what x decides is queried by x.
  pub queried-decided : (x : Contents 𝓢) → Queried x (decide x).configuration
  queried-decided x = record { subset = x.changes; within = λ u i. i; joined = refl }

  -- None of T: x's own configuration is queried by x.
  pub queried-own : (x : Contents 𝓢) → Queried x x.committed.configuration
  queried-own x = record {
    subset = 𝓢.no_changes;
    within = λ u i. absurd (𝓢.in_no_changes u i);
    joined = joined-none 𝓢 x.committed.configuration;
  }

  pub queried-of-below : {a b : Contents 𝓢} → Below a b → AtMost 𝓢.configurations b.committed.configuration (decide a).configuration
      → Queried b (decide a).configuration
  queried-of-below {a} {b} p h = record { subset = rest; within = within'; joined = at-most-antisymm down up }
    where
      rest : 𝓢.Changes
      rest = 𝓢.trim b.committed.configuration a.changes

      -- b's contents with the rest of a's changes in place of its own
      b_rest : Contents 𝓢
      b_rest = record { committed = b.committed; candidates = b.candidates; changes = rest }

      down : AtMost 𝓢.configurations (decide b_rest).configuration (decide a).configuration
      down = 𝓢.joined_least b.committed.configuration rest (decide a).configuration h
          (λ u i. 𝓢.joined_change a.committed.configuration a.changes u (𝓢.trim_from b.committed.configuration a.changes u i))

      up : AtMost 𝓢.configurations (decide a).configuration (decide b_rest).configuration
      up = 𝓢.joined_least a.committed.configuration a.changes (decide b_rest).configuration
          (at-most-trans p.configuration (𝓢.joined_base b.committed.configuration rest))
          (λ u i. change-decided b_rest u (𝓢.trim_keeps b.committed.configuration a.changes u i))

      keep : (u : 𝓢.Configuration) → 𝓢.In u rest → Knows b u → 𝓢.In u b.changes
      keep u i (inl k) = absurd (𝓢.trim_outside b.committed.configuration a.changes u i k)
      keep u i (inr k) = k

      within' : (u : 𝓢.Configuration) → 𝓢.In u rest → 𝓢.In u b.changes
      within' u i = keep u i (p.changes u (𝓢.trim_from b.committed.configuration a.changes u i))
