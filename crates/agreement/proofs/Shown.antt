-- The core of Theorem 5.2, on chains: what was committed before an ask is contained in what the ask decides when its floor is set.
--
-- Let P be what the tablet keeps at that moment. The boxes that answered had, when the ask was accepted, what snapshot says, and each
-- commit d of that time was answered by a quorum that still held d then. Going up the parents of d, each is Kept by P: contained in P's
-- committed book, or ⊑* P with its configuration queried by P.
--   shown-core   every element of the chain of that time is kept by P
--   kept-book    what P keeps is contained in what P decides
use mathlib.Core.Path.{refl, sym}
use mathlib.Core.Logic.{◌⊎◌, inl, inr}
use mathlib.Core.List.{List}
use Rattle.agreement.specs.Lattice.{AtMost, Among}
use Rattle.agreement.specs.Setting.{Setting, Contents, Contained, decide, Below, Queried}
use Rattle.agreement.specs.Steps.{Allowed}
use Rattle.agreement.proofs.Order.{at-most-of-eq, at-most-trans}
use Rattle.agreement.proofs.Below.{below-trans, decide-monotone, queried-own, queried-of-below}
use Rattle.agreement.proofs.Chain.{Parent, Chain, root, link, Before, chain-order, chain-bottom}

module _ {𝓢 : Setting} where
  -- d was committed with answers of these boxes, and each of them holds d in the snapshot.
  pub record HeldBy (snapshot : 𝓢.Box → Contents 𝓢) (d : Contents 𝓢) : Type 0 where
    pub boxes : 𝓢.Boxes
    pub quorum : Allowed d boxes
    pub holds : (r : 𝓢.Box) → 𝓢.BoxIn r boxes → Below d (snapshot r)

  -- P's committed book contains d's configuration and P's candidates its notes; or d ⊑* P and P queries d's configuration.
  pub data Kept (P d : Contents 𝓢) : Type 0 where
    low : AtMost 𝓢.configurations (decide d).configuration P.committed.configuration
        → AtMost 𝓢.notes d.candidates P.candidates → Kept P d
    high : Below d P → Queried P (decide d).configuration → Kept P d

  pub kept-book : {P d : Contents 𝓢} → Kept P d → Contained (decide d) (decide P)
  kept-book {P} (low h k) = record {
    notes = k;
    configuration = at-most-trans h (𝓢.joined_base P.committed.configuration P.changes);
  }
  kept-book (high b q) = decide-monotone b

  -- P contains a book that its own parent contains.
  low-parent : {P x d : Contents 𝓢} → Parent P x → Contained (decide d) (decide x) → Kept P d
  low-parent par b = low (at-most-trans b.configuration (at-most-of-eq (sym par.configuration))) (at-most-trans b.notes par.notes)

  -- All that P queries has a quorum in A, and P is above what the boxes of A had in the snapshot.
  module _ (snapshot : 𝓢.Box → Contents 𝓢) (P : Contents 𝓢) (A : 𝓢.Boxes) (quorum : Allowed P A) (above : (r : 𝓢.Box) → 𝓢.BoxIn r A → Below (snapshot r) P) where
    -- The two quorums of a configuration that d and P both query have a box in common, which brings d to P.
    met : (d : Contents 𝓢) → HeldBy snapshot d → (w : 𝓢.Configuration) → Queried d w → Queried P w → Below d P
    met d k w i j = go (𝓢.quorums_meet w k.boxes A (k.quorum w i) (quorum w j))
      where
        go : (r : 𝓢.Box) × 𝓢.BoxIn r k.boxes × 𝓢.BoxIn r A → Below d P
        go c = below-trans (k.holds c.0 c.1) (above c.0 c.2)

    -- P's parent x stands in the whole chain L.
    module _ (f : Contents 𝓢) (Evidence : Contents 𝓢 → Type 0) (L : List (Contents 𝓢)) (chain : Chain f Evidence L) (x : Contents 𝓢) (mx : Among x L) (par : Parent P x) where
      kept-by-place : (y : Contents 𝓢) → HeldBy snapshot y → Among y L
          → AtMost 𝓢.configurations y.committed.configuration P.committed.configuration → Kept P y
      kept-by-place y k my h = go (chain-order chain x y mx my)
        where
          x-queried : Queried P (decide x).configuration
          x-queried = rw (← par.configuration) (queried-own P)

          go : Before x y ⊎ Contained (decide y) (decide x) → Kept P y
          go (inl b) =
              let d : Below y P = met y k (decide x).configuration (b.queries (at-most-trans h (at-most-of-eq par.configuration))) x-queried in
              high d (queried-of-below d (at-most-trans (at-most-of-eq par.configuration) b.under.configuration))
          go (inr b) = low-parent par b

      kept-from-parent : (y z : Contents 𝓢) → HeldBy snapshot y → Among y L → Parent y z → Kept P z → Kept P y
      kept-from-parent y z k my p (low h i) = kept-by-place y k my (at-most-trans (at-most-of-eq p.configuration) h)
      kept-from-parent y z k my p (high b q) = kept-by-place y k my (met y k y.committed.configuration (queried-own y) (rw p.configuration q)).configuration

      pub shown-core : {l : List (Contents 𝓢)} → Chain f (HeldBy snapshot) l → ((z : Contents 𝓢) → Among z l → Among z L) → (d : Contents 𝓢)
          → Among d l → Kept P d
      shown-core root sub d (inl e) = rw e (low-parent par (chain-bottom chain x mx))
      shown-core root sub d (inr m) = absurd m
      shown-core (link {y = y} k o c) sub d (inl e) =
          rw e (kept-from-parent y o.parent.0 k (sub y (inl refl)) o.parent.2 (shown-core c (λ z m. sub z (inr m)) o.parent.0 o.parent.1))
      shown-core (link k o c) sub d (inr m) = shown-core c (λ z n. sub z (inr n)) d m
