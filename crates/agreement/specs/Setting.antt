-- What the argument is about: tablets and boxes, notes and configurations that can be joined, finite sets of changes, and a quorum
-- rule. All that is asked of the quorum rule is that two quorums of one configuration have a box in common. Then what a device
-- keeps, the order ⊑* on it, the book that it would decide, and the configurations that it queries.
--
-- Letters, as in 001: p is a tablet, r a box, u a change, c and w are configurations, x y z what devices keep.
use Rattle.std.specs.Prelude.{◌≡◌, ◌⊎◌}
use Rattle.agreement.specs.Lattice.{Semilattice, AtMost}

-- Two quorums of one configuration have a box in common (001, Section 3: a quorum system).
abbrev pub QuorumsMeet : {Box Configuration Boxes : Type 0} → (Box → Boxes → Type 0) → (Configuration → Boxes → Type 0) → Type 0
QuorumsMeet {Box} {Configuration} {Boxes} BoxIn Quorum =
    (c : Configuration) (A B : Boxes) → Quorum c A → Quorum c B → (r : Box) × BoxIn r A × BoxIn r B

pub record Setting : Type 1 where
  pub Tablet : Type 0
  pub Box : Type 0
  -- Notes, with union (001, Section 4: the object lattice O).
  pub Notes : Type 0
  pub notes : Semilattice Notes
  -- Configurations, with union (001, Section 4: the configuration lattice C). A change is a configuration too.
  pub Configuration : Type 0
  pub configurations : Semilattice Configuration
  -- Finite sets of changes: u is in a set; the empty set.
  pub Changes : Type 0
  pub In : Configuration → Changes → Type 0
  pub no_changes : Changes
  pub in_no_changes : (u : Configuration) → In u no_changes → ⊥
  -- A configuration joined with every change of a set: the least configuration that contains them all.
  pub joined : Configuration → Changes → Configuration
  pub joined_base : (c : Configuration) (t : Changes) → AtMost configurations c (joined c t)
  pub joined_change : (c : Configuration) (t : Changes) (u : Configuration) → In u t → AtMost configurations u (joined c t)
  pub joined_least : (c : Configuration) (t : Changes) (w : Configuration) → AtMost configurations c w
      → ((u : Configuration) → In u t → AtMost configurations u w) → AtMost configurations (joined c t) w
  -- The changes of a set that a configuration does not contain.
  pub trim : Configuration → Changes → Changes
  pub trim_from : (c : Configuration) (t : Changes) (u : Configuration) → In u (trim c t) → In u t
  pub trim_outside : (c : Configuration) (t : Changes) (u : Configuration) → In u (trim c t) → ¬ (AtMost configurations u c)
  pub trim_keeps : (c : Configuration) (t : Changes) (u : Configuration) → In u t → AtMost configurations u c ⊎ In u (trim c t)
  -- Sets of boxes, and which of them are quorums of a configuration (001, Section 3: quorums()).
  pub Boxes : Type 0
  pub BoxIn : Box → Boxes → Type 0
  pub Quorum : Configuration → Boxes → Type 0
  pub quorums_meet : QuorumsMeet BoxIn Quorum

-- A book is notes and a configuration (001: a state of the lattice L).
pub record Book (𝓢 : Setting) : Type 0 where
  pub notes : 𝓢.Notes
  pub configuration : 𝓢.Configuration

-- What every device keeps: its committed book v, candidate notes obj, and changes T (Figure 2, local variables).
pub record Contents (𝓢 : Setting) : Type 0 where
  pub committed : Book 𝓢
  pub candidates : 𝓢.Notes
  pub changes : 𝓢.Changes

module _ {𝓢 : Setting} where
  -- Book b contains book a: its notes do, and its configuration does.
  pub record Contained (a b : Book 𝓢) : Type 0 where
    pub notes : AtMost 𝓢.notes a.notes b.notes
    pub configuration : AtMost 𝓢.configurations a.configuration b.configuration

  -- decide(v, obj, T): the candidates, with v's configuration joined with T (001, before Lemma 5.2; Figure 2, lines 11 and 14).
  abbrev pub decide : Contents 𝓢 → Book 𝓢
  decide x = record { notes = x.candidates; configuration = 𝓢.joined x.committed.configuration x.changes }

  -- x knows of change u: it is contained in v's configuration, or is in T.
  abbrev pub Knows : Contents 𝓢 → 𝓢.Configuration → Type 0
  Knows x u = AtMost 𝓢.configurations u x.committed.configuration ⊎ 𝓢.In u x.changes

  -- x ⊑* y (001, before Property 5.1): y has x's configuration and candidates, and knows of x's changes. 001 compares the notes of v too.
  -- They are left out here: they may grow in a round that commits, so that an answer is not above the commit in them.
  pub record Below (x y : Contents 𝓢) : Type 0 where
    pub configuration : AtMost 𝓢.configurations x.committed.configuration y.committed.configuration
    pub candidates : AtMost 𝓢.notes x.candidates y.candidates
    pub changes : (u : 𝓢.Configuration) → 𝓢.In u x.changes → Knows y u

  -- w is queried by x: v's configuration joined with some subset of T (Figure 2, line 7: w ∈ V).
  pub record Queried (x : Contents 𝓢) (w : 𝓢.Configuration) : Type 0 where
    pub subset : 𝓢.Changes
    pub within : (u : 𝓢.Configuration) → 𝓢.In u subset → 𝓢.In u x.changes
    pub joined : 𝓢.joined x.committed.configuration subset ≡ w
